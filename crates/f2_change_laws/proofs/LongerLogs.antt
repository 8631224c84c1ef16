-- A log with one block more: where its pages stand, what follows, and which addresses differ.
use Rattle.std.proofs.Common.{◌≡◌, ◌≢◌, ℕ, zero, suc, ◌+◌, ◌<◌, ◌≤◌, cond, List, [], ◌∷◌, ◌++◌, length, Option, Some, None, refl, sym, ap, ◌∙◌, arith}
use Rattle.std.specs.List.{Contains}
use Rattle.f2_format.specs.Offsets.{direct_of}
use Rattle.f2_format.specs.Footer.{footer_ino, footer_next}
use Rattle.f2_image.specs.Images.{Image}
use Rattle.f2_image.specs.Packs.{Checkpoint}
use Rattle.f2_image.specs.Nodes.{node, address_in}
use Rattle.f2_image.specs.Chains.{Logged, block_in, is_node_of, last_before, or_below, base_direct, logged_direct, marked_address}
use Rattle.f2_image.specs.Reached.{AllDiffer}
use Rattle.f2_image_laws.specs.Chained.{Follow}
use Rattle.f2_change_laws.proofs.Each.{each_push}
use Rattle.f2_change_laws.proofs.Counts.{block_before}

pub follow_push : (start next : ℕ) (log : List Logged) (block : List ℕ) → Follow start log next → next ≢ 0 → Follow start (log ++ record { at = next; block = block } ∷ []) (footer_next block)
follow_push start next [] block follow there = (sym follow, (λ none. there (sym follow ∙ none)), refl)
follow_push start next (one ∷ rest) block follow there = (follow.0, follow.1, follow_push (footer_next one.block) next rest block follow.2 there)

pub differ_push : {X : Type 0} (xs : List X) (y : X) → AllDiffer xs → ¬ (Contains xs y) → AllDiffer (xs ++ y ∷ [])
differ_push [] y differ other = (tt, tt)
differ_push (x ∷ xs) y differ other =
    (each_push (λ z. x ≢ z) xs y differ.0 (λ same. other (0, omega arith, same)), differ_push xs y differ.1 (λ found. other (suc found.0, (let less = found.1 in omega (arith, less)), found.2)))

module _ (log : List Logged) (one : Logged) where
  last_same : (place ino offset : ℕ) → place ≤ length log → last_before (log ++ one ∷ []) place ino offset ≡ last_before log place ino offset
  last_same zero ino offset small = refl
  last_same (suc place) ino offset small =
      ap (λ block. cond (is_node_of block ino offset) (Some block) (last_before (log ++ one ∷ []) place ino offset)) (block_before log one place (omega (arith, small)))
      ∙ ap (λ rest. cond (is_node_of (block_in log place) ino offset) (Some (block_in log place)) rest) (last_same place ino offset (omega (arith, small)))

  logged_same : (place ino : ℕ) (offset : Option ℕ) → place < length log → logged_direct (log ++ one ∷ []) place ino offset ≡ logged_direct log place ino offset
  logged_same place ino None small = refl
  logged_same place ino (Some offset) small = last_same (place + 1) ino offset (omega (arith, small))

  module _ (image : Image) (ckpt : Checkpoint) (page : ℕ) where
    -- the address in an inode and the node that the log has of it
    abbrev address_by : List ℕ → Option (List ℕ) → ℕ
    address_by block direct = address_in block (or_below direct (base_direct image ckpt (node image ckpt (footer_ino block)) page)) page

    pub address_same : (place : ℕ) → place < length log → marked_address image ckpt (log ++ one ∷ []) place page ≡ marked_address image ckpt log place page
    address_same place small =
        ap (λ block. address_by block (logged_direct (log ++ one ∷ []) place (footer_ino block) (direct_of page))) (block_before log one place small)
        ∙ ap (address_by (block_in log place)) (logged_same place (footer_ino (block_in log place)) (direct_of page) small)
