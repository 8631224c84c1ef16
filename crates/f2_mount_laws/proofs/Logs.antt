-- The blocks of the node log of an image by their places, and the last one of a node.
use Rattle.std.proofs.Common.{◌≡◌, ℕ, zero, suc, ◌+◌, ◌<◌, ◌==◌, Bool, true, false, cond, IsTrue, List, [], ◌∷◌, length, refl, sym, ap, ◌∙◌, arith}
use Rattle.std.specs.Prelude.{Option, Some}
use Rattle.std.specs.List.{AllByRecursion}
use Rattle.std.proofs.lemmas.Bool.{and_parts}
use native.Mathlib.Decide.{ℕ_discrete}
use Rattle.f2_format.specs.Geometry.{node_third, is_in_node}
use Rattle.f2_format.specs.Footer.{footer_ino, footer_offset, footer_version, footer_next}
use Rattle.f2_image.specs.Images.{Image, block_at}
use Rattle.f2_image.specs.Packs.{Checkpoint, IsCheckpoint, recovery_version}
use Rattle.f2_image.specs.Chains.{Logged, chain, chain_from, block_in, no_block, is_node_of, last_before}
use Rattle.f2_image.specs.Faults.{IsSound}
use Rattle.f2_image_laws.specs.Chained.{address_of}
use Rattle.f2_image_laws.proofs.Numbers.{same_of}
use Rattle.f2_change_laws.proofs.ChainZones.{chain_in_zone}
use Rattle.f2_stored_laws.proofs.Lists.{at_place}
use Rattle.f2_mount_laws.specs.Taken.{IsLastBlock}

-- a block is that of the node whose test it passes
pub of_node : (block : List ℕ) (ino offset : ℕ) → IsTrue (is_node_of block ino offset) → (footer_ino block ≡ ino) × (footer_offset block ≡ offset)
of_node block ino offset own =
    let parts = and_parts (footer_ino block == ino) (footer_offset block == offset) own in
    (same_of (footer_ino block) ino parts.0, same_of (footer_offset block) offset parts.1)

-- the last one before a place
module _ (log : List Logged) (ino offset at : ℕ) (own : IsTrue (is_node_of (block_in log at) ino offset)) where
  abbrev chosen : ℕ → Option (List ℕ) → Bool → Option (List ℕ)
  chosen n before b = cond b (Some (block_in log n)) before

  pub last_found : (n : ℕ) → at < n → ((later : ℕ) → at < later → later < n → is_node_of (block_in log later) ino offset ≡ false) → last_before log n ino offset ≡ Some (block_in log at)
  last_found zero small last = absurd (omega (arith, small))
  last_found (suc n) small last = by_place (λ less. last_found n less (λ later past before. last later past (omega (arith, before)))) (ℕ_discrete at n)
    where
      by_place : (at < n → last_before log n ino offset ≡ Some (block_in log at)) → Dec (at ≡ n) → chosen n (last_before log n ino offset) (is_node_of (block_in log n) ino offset) ≡ Some (block_in log at)
      by_place before (yes here) =
          ap (chosen n (last_before log n ino offset)) (ap (λ k. is_node_of (block_in log k) ino offset) (sym here) ∙ own) ∙ ap (λ k. Some (block_in log k)) (sym here)
      by_place before (no other) = ap (chosen n (last_before log n ino offset)) (last n (omega (arith, small, other)) (omega arith)) ∙ before (omega (arith, small, other))

pub last_is : (log : List Logged) (place ino offset at : ℕ) → IsLastBlock log place ino offset at → last_before log (place + 1) ino offset ≡ Some (block_in log at)
last_is log place ino offset at is =
    let before = is.before in
    last_found log ino offset at is.own (place + 1) (omega (arith, before)) (λ later past less. is.last later past (omega (arith, less)))

-- each block of a chain is the image's at its address
module _ (image : Image) where
  abbrev IsOfImage : Logged → Type 0
  IsOfImage one = one.block ≡ block_at image one.at

  one_more : (one : Logged) (rest : List Logged) → IsOfImage one → AllByRecursion IsOfImage rest → (a b : Bool) → AllByRecursion IsOfImage (cond a [] (cond b (one ∷ rest) []))
  one_more one rest is more true b = tt
  one_more one rest is more false true = (is, more)
  one_more one rest is more false false = tt

  chain_from_image : (version most at : ℕ) → AllByRecursion IsOfImage (chain_from image version most at)
  chain_from_image version zero at = tt
  chain_from_image version (suc most) at =
      one_more (record { at = at; block = block_at image at }) (chain_from image version most (footer_next (block_at image at))) refl
      (chain_from_image version most (footer_next (block_at image at))) (at == 0) (footer_version (block_at image at) == version)

  module _ (ckpt : Checkpoint) where
    all_of_image : AllByRecursion IsOfImage (chain image ckpt)
    unfolding chain
    all_of_image = chain_from_image (recovery_version ckpt) (node_third ckpt.geom + 1) ckpt.head.log_start

    pub block_is : (place : ℕ) → place < length (chain image ckpt) → block_in (chain image ckpt) place ≡ block_at image (address_of (chain image ckpt) place)
    block_is place small = at_place IsOfImage (chain image ckpt) place no_block all_of_image small

    pub zone_is : IsCheckpoint image ckpt → IsSound image ckpt → (place : ℕ) → place < length (chain image ckpt) → IsTrue (is_in_node ckpt.geom (address_of (chain image ckpt) place))
    zone_is checkpoint sound place small = at_place (λ one. IsTrue (is_in_node ckpt.geom one.at)) (chain image ckpt) place no_block (chain_in_zone image ckpt checkpoint sound) small
