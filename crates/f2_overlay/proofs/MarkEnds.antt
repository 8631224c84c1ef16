-- Where the pages of a marked file end.
use Rattle.std.proofs.Common.{◌≡◌, ◌≢◌, ◌⊎◌, inl, inr, ℕ, ◌+◌, ◌*◌, ◌<◌, ◌≤◌, List, sym, ap, ◌∙◌, subst, arith}
use Rattle.std.specs.Prelude.{Some, slice_index}
use Rattle.std.specs.Option.{unwrap_or}
use Rattle.std.specs.FinMap as map
use Rattle.std.proofs.lemmas.Bool.{cases_eq}
use Rattle.f2_format.specs.Footer.{footer_ino}
use Rattle.f2_format.specs.Inode.{inode_of}
use Rattle.f2_image.specs.Images.{Image, block_at}
use Rattle.f2_image.specs.Packs.{Checkpoint}
use Rattle.f2_image.specs.Chains.{chain, marked_address}
use Rattle.f2_image.specs.Reached.{IsMarkedAt, IsPage}
use Rattle.f2_image.specs.Faults.{HasTable, IsPastSize, IsBadTree}
use Rattle.f2_image.specs.Faults as faults
use Rattle.f2_overlay.specs.Owning.{Pages}
use Rattle.f2_overlay.specs.Rolling.{AreMarked}
use Rattle.f2_overlay.proofs.Maps.{one_some}

-- no page up to the last one is past a size
module _ (image : Image) (size last at : ℕ) (pages : Pages) (there : map.get pages last ≡ Some at) (most : (page q : ℕ) → map.get pages page ≡ Some q → page ≤ last) (within : last * 4096 < size)
    (zeros : (place : ℕ) → place < 4096 → size ≤ last * 4096 + place → slice_index (block_at image at) place ≡ 0) where
  not_past : (page q : ℕ) → page ≤ last → ((page ≡ last) × (q ≡ at)) ⊎ (page ≢ last) → IsPastSize image size page q → ⊥
  not_past page q le (inl e) (faults.whole past) = omega (arith, e.0, within, past)
  not_past page q le (inr lower) (faults.whole past) = omega (arith, le, lower, within, past)
  not_past page q le (inr lower) (faults.partly place small past other) = omega (arith, le, lower, within, past, small)
  not_past page q le (inl e) (faults.partly place small past other) =
      other (ap (λ n. slice_index (block_at image n) place) e.1 ∙ zeros place small (subst (λ n. size ≤ n * 4096 + place) e.0 past))

  pub ends_well : (page q : ℕ) → map.get pages page ≡ Some q → IsPastSize image size page q → ⊥
  ends_well page q has = not_past page q (most page q has) (by (cases_eq page last))
    where
      by : (page ≡ last) ⊎ (page ≢ last) → ((page ≡ last) × (q ≡ at)) ⊎ (page ≢ last)
      by (inl e) = inl (e, one_some q at (sym has ∙ ap (map.get pages) e ∙ there))
      by (inr other) = inr other

-- a page of a marked file
module _ (image : Image) (ckpt : Checkpoint) (place ino : ℕ) (block : List ℕ) (pages : Pages) (is : IsMarkedAt image ckpt place block) (own : footer_ino block ≡ ino) (are : AreMarked image ckpt place pages) (page at : ℕ) (there : map.get pages page ≡ Some at) where
  address : marked_address image ckpt (chain image ckpt) place page ≡ at
  address = sym (are.addresses page (are.within page at there)) ∙ ap (λ o. unwrap_or o 0) there

  pub page_of_mark : IsPage image ckpt ino page at
  page_of_mark = inr (record { place = place; inode = block; marked = is; own = own; within = are.within page at there; address = address; there = are.some page at there })

  pub past_size : (size : ℕ) → HasTable ckpt → size ≡ (inode_of block).size → IsPastSize image size page at → HasTable ckpt × IsBadTree image ckpt ino
  past_size size has same past =
      (has, faults.marked_past_size place page at block is own (are.within page at there) address (are.some page at there) (subst (λ n. IsPastSize image n page at) same past))
