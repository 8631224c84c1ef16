-- The last block of a direct node in a log with one block more.
use Rattle.std.proofs.Common.{◌≡◌, ◌≢◌, ℕ, zero, suc, ◌<◌, ◌≤◌, ◌==◌, Bool, true, false, cond, ◌&&◌, List, [], ◌∷◌, ◌++◌, length, Option, Some, refl, ap, ◌∙◌, arith}
use Rattle.std.proofs.lemmas.Bool.{and_parts, eqb-true, eq-eqb, ne_eqb}
use Rattle.std.proofs.lemmas.Bool.Decides.{nat_tests}
use Rattle.std.proofs.lemmas.List.{length_push, length-map, map_push, get_or_append_left, get_or_push}
use Rattle.f2_format.specs.Offsets.{direct_of}
use Rattle.f2_format.specs.Footer.{footer_ino, footer_offset, has_fsync_mark}
use Rattle.f2_image.specs.Chains.{Logged, no_block, block_in, is_marked, is_node_of, last_before}
use Rattle.f2_stored.specs.Layout.{Open, Position, Owners, Layout, chained}
use Rattle.f2_stored.specs.Changes.{with_drawn}

-- no page has the inode for its direct node
pub no_inode : (page offset : ℕ) → direct_of page ≡ Some offset → offset ≢ 0
unfolding direct_of
no_inode page offset direct = grind (arith, nat_tests)

-- a marked block is an inode
pub mark_is_inode : (block : List ℕ) → is_marked block ≡ true → footer_offset block ≡ 0
mark_is_inode block marked = eqb-true (footer_offset block) 0 (and_parts (footer_offset block == 0) (has_fsync_mark block) marked).0

-- whether a block is a node
pub is_the_node : (block : List ℕ) (ino offset : ℕ) → footer_ino block ≡ ino → footer_offset block ≡ offset → is_node_of block ino offset ≡ true
is_the_node block ino offset own at = ap (λ b. b && (footer_offset block == offset)) (eq-eqb (footer_ino block) ino own) ∙ eq-eqb (footer_offset block) offset at

pub other_offset : (block : List ℕ) (ino offset : ℕ) → footer_offset block ≢ offset → is_node_of block ino offset ≡ false
other_offset block ino offset other = no_second (footer_ino block == ino) (footer_offset block == offset) (ne_eqb (footer_offset block) offset other)
  where
    no_second : (a b : Bool) → b ≡ false → (a && b) ≡ false
    no_second true b is = is
    no_second false b is = refl

module _ (log : List Logged) (one : Logged) where
  before : (place : ℕ) → place < length log → block_in (log ++ one ∷ []) place ≡ block_in log place
  before place small = ap (λ (x : Logged). x.block) (get_or_append_left log (one ∷ []) no_block place small)

  pub newest : block_in (log ++ one ∷ []) (length log) ≡ one.block
  newest = ap (λ (x : Logged). x.block) (get_or_push log one no_block (length log) refl)

  last_same : (place ino offset : ℕ) → place ≤ length log → last_before (log ++ one ∷ []) place ino offset ≡ last_before log place ino offset
  last_same zero ino offset small = refl
  last_same (suc place) ino offset small =
      ap (λ block. cond (is_node_of block ino offset) (Some block) (last_before (log ++ one ∷ []) place ino offset)) (before place (omega (arith, small)))
      ∙ ap (λ rest. cond (is_node_of (block_in log place) ino offset) (Some (block_in log place)) rest) (last_same place ino offset (omega (arith, small)))

  -- up to the new block it is the new block or the old log's
  pub last_with : (ino offset : ℕ) → last_before (log ++ one ∷ []) (suc (length log)) ino offset ≡ cond (is_node_of one.block ino offset) (Some one.block) (last_before log (length log) ino offset)
  last_with ino offset =
      ap (λ block. cond (is_node_of block ino offset) (Some block) (last_before (log ++ one ∷ []) (length log) ino offset)) newest
      ∙ ap (λ rest. cond (is_node_of one.block ino offset) (Some one.block) rest) (last_same (length log) ino offset (omega arith))

-- the last block of a node in the whole log
abbrev pub last_in : List Logged → ℕ → ℕ → Option (List ℕ)
last_in log ino offset = last_before log (length log) ino offset

pub last_push : (log : List Logged) (one : Logged) (ino offset : ℕ) → last_in (log ++ one ∷ []) ino offset ≡ cond (is_node_of one.block ino offset) (Some one.block) (last_in log ino offset)
last_push log one ino offset =
    let size : length (log ++ one ∷ []) ≡ suc (length log) = omega (arith, length_push log one) in
    ap (λ count. last_before (log ++ one ∷ []) count ino offset) size ∙ last_with log one ino offset

-- the log of a layout in which one position more was drawn
module _ (layout : Layout) (block : List ℕ) (owners : Owners) where
  abbrev pub drawn_block : Logged
  drawn_block = record { at = layout.next; block = block }

  pub chain_more : chained (with_drawn layout block owners) ≡ chained layout ++ drawn_block ∷ []
  chain_more = map_push (λ (p : Position). p.logged) layout.log (record { logged = drawn_block; fate = Open })

  pub as_long : length (chained layout) ≡ length layout.log
  as_long = length-map layout.log (λ (p : Position). p.logged)

  pub last_drawn : (ino offset : ℕ) → last_in (chained (with_drawn layout block owners)) ino offset ≡ cond (is_node_of block ino offset) (Some block) (last_in (chained layout) ino offset)
  last_drawn ino offset = ap (λ log. last_in log ino offset) chain_more ∙ last_push (chained layout) drawn_block ino offset

  -- a block that isn't the node changes nothing of it, and one that is it is the last one
  pub last_of_other : (ino offset : ℕ) → is_node_of block ino offset ≡ false → last_in (chained (with_drawn layout block owners)) ino offset ≡ last_in (chained layout) ino offset
  last_of_other ino offset other = last_drawn ino offset ∙ ap (λ b. cond b (Some block) (last_in (chained layout) ino offset)) other

  pub last_of_node : (ino offset : ℕ) → is_node_of block ino offset ≡ true → last_in (chained (with_drawn layout block owners)) ino offset ≡ Some block
  last_of_node ino offset it = last_drawn ino offset ∙ ap (λ b. cond b (Some block) (last_in (chained layout) ino offset)) it
