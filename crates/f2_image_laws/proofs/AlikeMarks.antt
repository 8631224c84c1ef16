-- Marks of one of two images that are alike are those of the other.
use Rattle.std.proofs.Common.{◌≡◌, inr, ℕ, zero, suc, ◌+◌, ◌<◌, Bool, true, false, cond, IsTrue, List, [], ◌∷◌, length, filter, refl, ap, ◌∙◌, subst, arith}
use Rattle.std.specs.List.{AllByRecursion, AllZip, range_with_len}
use Rattle.f2_format.specs.Offsets.{page_limit}
use Rattle.f2_format.specs.Footer.{footer_ino}
use Rattle.f2_model.specs.Tree.{Rows}
use Rattle.f2_model.specs.State.{Mark}
use Rattle.f2_image.specs.Images.{Image}
use Rattle.f2_image.specs.Packs.{Checkpoint}
use Rattle.f2_image.specs.Nodes.{block_there}
use Rattle.f2_image.specs.Chains.{chain, block_in, is_marked, marked_places, marked_address, IsMark, AreMarks}
use Rattle.f2_image_laws.proofs.SameNodes.{same_marked_address}
use Rattle.f2_image_laws.proofs.Agreeing.{block_there-same}
use Rattle.f2_image_laws.proofs.Alike.{IsAlike}

-- places of a log that pass a test, in the log
pub places_pass : (p : ℕ → Bool) (limit from many : ℕ) → from + many ≡ limit → AllByRecursion (λ place. (place < limit) × IsTrue (p place)) (filter p (range_with_len from many))
places_pass p limit from zero all = tt
places_pass p limit from (suc many) all = by_test (p from) refl (places_pass p limit (from + 1) many (omega (arith, all)))
  where
    by_test : (b : Bool) → p from ≡ b → AllByRecursion (λ place. (place < limit) × IsTrue (p place)) (filter p (range_with_len (from + 1) many))
        → AllByRecursion (λ place. (place < limit) × IsTrue (p place)) (cond b (from ∷ filter p (range_with_len (from + 1) many)) (filter p (range_with_len (from + 1) many)))
    by_test false e rest = rest
    by_test true e rest = ((omega (arith, all), e), rest)

-- lists that go together go together in another way too
together : {X Y : Type 0} (P : X → Type 0) (R S : X → Y → Type 0) → ((x : X) (y : Y) → P x → R x y → S x y) → (xs : List X) (ys : List Y) → AllByRecursion P xs → AllZip R xs ys → AllZip S xs ys
together P R S each [] [] all zip = tt
together P R S each [] (y ∷ ys) all zip = absurd zip
together P R S each (x ∷ xs) [] all zip = absurd zip
together P R S each (x ∷ xs) (y ∷ ys) all zip = (each x y all.0 zip.0, together P R S each xs ys all.1 zip.1)

module _ (image other : Image) (ckpt : Checkpoint) (alike : IsAlike image other ckpt) (base : Rows) where
  same_there : (place page : ℕ) → place < length (chain image ckpt) → IsTrue (is_marked (block_in (chain image ckpt) place)) → page < page_limit
      → block_there other (marked_address other ckpt (chain image ckpt) place page) ≡ block_there image (marked_address image ckpt (chain image ckpt) place page)
  same_there place page small marked within =
      let at = marked_address image ckpt (chain image ckpt) place page in
      let block = block_in (chain image ckpt) place in
      ap (block_there other) (same_marked_address image other ckpt alike.same (chain image ckpt) place page)
      ∙ block_there-same image other at (λ there. alike.pages (footer_ino block) page at (inr (record {
        place = place;
        inode = block;
        marked = record { within = small; stands = refl; marked = marked };
        own = refl;
        within = within;
        address = refl;
        there = there;
      })))

  mark_of_other : (place : ℕ) (mark : Mark) → (place < length (chain image ckpt)) × IsTrue (is_marked (block_in (chain image ckpt) place))
      → IsMark other ckpt base (chain image ckpt) place mark → IsMark image ckpt base (chain image ckpt) place mark
  mark_of_other place mark at is = record {
    ino = is.ino;
    row_ino = is.row_ino;
    kind = is.kind;
    size = is.size;
    pages = record { within = is.pages.within; blocks = λ page within. is.pages.blocks page within ∙ same_there place page at.0 at.1 within };
    named = is.named;
  }

  pub marks_of_other : (marks : List Mark) → AreMarks other ckpt base marks → AreMarks image ckpt base marks
  marks_of_other marks are =
      together (λ place. (place < length (chain image ckpt)) × IsTrue (is_marked (block_in (chain image ckpt) place))) (IsMark other ckpt base (chain image ckpt)) (IsMark image ckpt base (chain image ckpt)) mark_of_other
      (marked_places (chain image ckpt)) marks
      (places_pass (λ place. is_marked (block_in (chain image ckpt) place)) (length (chain image ckpt)) 0 (length (chain image ckpt)) (omega arith))
      (subst (λ log. AllZip (IsMark other ckpt base log) (marked_places log) marks) alike.same.log are)
