-- Where each row of a rolled tree comes from: the base, or the last mark of its file.
use Rattle.std.proofs.Common.{◌≡◌, ◌≢◌, ℕ, zero, suc, ◌+◌, ◌<◌, ◌≤◌, Bool, true, false, cond, List, [], ◌∷◌, length, filter, refl, sym, ap, ◌∙◌, subst, arith, true≢false}
use Rattle.std.specs.Prelude.{Some}
use Rattle.std.specs.List.{AllZip, range_with_len}
use Rattle.std.specs.Cmp.{nat_cmp_total, unsigned_tied}
use Rattle.std.specs.FinMap as map
use native.Mathlib.Decide.{ℕ_discrete}
use Rattle.f2_format.specs.Footer.{footer_ino}
use Rattle.f2_model.specs.Tree.{Rows}
use Rattle.f2_model.specs.State.{Mark, rolled}
use Rattle.f2_model.specs.declared.rows.Row.{Row}
use Rattle.f2_image.specs.Images.{Image}
use Rattle.f2_image.specs.Packs.{Checkpoint}
use Rattle.f2_image.specs.Chains.{chain, block_in, is_marked, IsMark, AreMarks}
use Rattle.f2_image.specs.Reached.{IsMarkedAt}
use Rattle.f2_image_laws.proofs.Numbers.{test_same, test_differs, not_less}
use Rattle.f2_mount_laws.specs.Taken.{IsLastMark, IsUnmarked}

put_here : (tree : Rows) (k : ℕ) (v : Row) (q : ℕ) → q ≡ k → map.get (map.insert tree k v) q ≡ Some v
put_here tree k v q e = map.get-insert nat_cmp_total tree k v q ∙ ap (λ b. cond b (Some v) (map.get tree q)) (unsigned_tied q k ∙ test_same q k e)

put_elsewhere : (tree : Rows) (k : ℕ) (v : Row) (q : ℕ) → q ≢ k → map.get (map.insert tree k v) q ≡ map.get tree q
put_elsewhere tree k v q other = map.get-insert nat_cmp_total tree k v q ∙ ap (λ b. cond b (Some v) (map.get tree q)) (unsigned_tied q k ∙ test_differs q k other)

module _ (image : Image) (ckpt : Checkpoint) (base : Rows) (ino : ℕ) where
  abbrev passes : ℕ → Bool
  passes place = is_marked (block_in (chain image ckpt) place)

  abbrev own : ℕ → ℕ
  own place = footer_ino (block_in (chain image ckpt) place)

  abbrev limit : ℕ
  limit = length (chain image ckpt)

  abbrev Fits : List ℕ → List Mark → Type 0
  Fits places marks = AllZip (IsMark image ckpt base (chain image ckpt)) places marks

  -- no mark of the file stands from a place on
  abbrev NoneFrom : ℕ → Type 0
  NoneFrom from = (place : ℕ) → from ≤ place → place < limit → passes place ≡ true → own place ≢ ino

  -- what the marks from a place on make of a row
  data Rolls (from : ℕ) (under after : Rows) : Type 0 where
    same : map.get after ino ≡ map.get under ino → NoneFrom from → Rolls from under after
    last : (place : ℕ) (mark : Mark) → from ≤ place → place < limit → passes place ≡ true → IsMark image ckpt base (chain image ckpt) place mark → mark.ino ≡ ino → map.get after ino ≡ Some mark.row
        → NoneFrom (place + 1) → Rolls from under after

  abbrev Stand : ℕ → ℕ → Type 0
  Stand from many = (under : Rows) (marks : List Mark) → Fits (filter passes (range_with_len from many)) marks → Rolls from under (rolled under marks)

  -- one place that isn't marked
  earlier : (from : ℕ) (under after : Rows) → passes from ≡ false → Rolls (from + 1) under after → Rolls from under after
  earlier from under after e (same is none) = same is (λ place low small marked. by_place place low small marked (ℕ_discrete place from))
    where
      by_place : (place : ℕ) → from ≤ place → place < limit → passes place ≡ true → Dec (place ≡ from) → own place ≢ ino
      by_place place low small marked (yes here) = absurd (true≢false (sym marked ∙ ap passes here ∙ e))
      by_place place low small marked (no other) = none place (omega (arith, low, other)) small marked
  earlier from under after e (last place mark low small marked is its there none) = last place mark (omega (arith, low)) small marked is its there none

  -- one that is
  one_more : (from : ℕ) (under : Rows) (mark : Mark) (after : Rows) → from < limit → passes from ≡ true → IsMark image ckpt base (chain image ckpt) from mark
      → Rolls (from + 1) (map.insert under mark.ino mark.row) after → Rolls from under after
  one_more from under mark after within e is (last place other low small marked at its there none) = last place other (omega (arith, low)) small marked at its there none
  one_more from under mark after within e is (same stays none) = by_ino (ℕ_discrete mark.ino ino)
    where
      by_place : mark.ino ≢ ino → (place : ℕ) → from ≤ place → place < limit → passes place ≡ true → Dec (place ≡ from) → own place ≢ ino
      by_place differ place low small marked (yes here) = λ its. differ (is.ino ∙ ap own (sym here) ∙ its)
      by_place differ place low small marked (no other) = none place (omega (arith, low, other)) small marked

      by_ino : Dec (mark.ino ≡ ino) → Rolls from under after
      by_ino (yes its) = last from mark (omega arith) within e is its (stays ∙ put_here under mark.ino mark.row ino (sym its)) none
      by_ino (no differ) = same (stays ∙ put_elsewhere under mark.ino mark.row ino (λ its. differ (sym its))) (λ place low small marked. by_place differ place low small marked (ℕ_discrete place from))

  by_first : (from many : ℕ) → from < limit → Stand (from + 1) many → (b : Bool) → passes from ≡ b → (under : Rows) (marks : List Mark)
      → Fits (cond b (from ∷ filter passes (range_with_len (from + 1) many)) (filter passes (range_with_len (from + 1) many))) marks → Rolls from under (rolled under marks)
  by_first from many small rest false e under marks fits = earlier from under (rolled under marks) e (rest under marks fits)
  by_first from many small rest true e under [] fits = absurd fits
  by_first from many small rest true e under (mark ∷ marks) fits =
      one_more from under mark (rolled (map.insert under mark.ino mark.row) marks) small e fits.0 (rest (map.insert under mark.ino mark.row) marks fits.1)

  stand : (from many : ℕ) → from + many ≡ limit → Stand from many
  stand from zero all under [] fits = same refl (λ place low small marked. absurd (omega (arith, low, small, all)))
  stand from zero all under (mark ∷ marks) fits = absurd fits
  stand from (suc many) all under marks fits = by_first from many (omega (arith, all)) (stand (from + 1) many (omega (arith, all))) (passes from) refl under marks fits

  -- a row of the tree that base and marks make
  pub data Origin (tree : Rows) : Type 0 where
    of_base : IsUnmarked image ckpt ino → map.get tree ino ≡ map.get base ino → Origin tree
    of_mark : (place : ℕ) (mark : Mark) → IsLastMark image ckpt ino place → IsMark image ckpt base (chain image ckpt) place mark → mark.ino ≡ ino → map.get tree ino ≡ Some mark.row → Origin tree

  -- a marked block stands at its place
  marked_there : (place : ℕ) (block : List ℕ) → IsMarkedAt image ckpt place block → passes place ≡ true
  marked_there place block at = ap is_marked (sym at.stands) ∙ at.marked

  own_there : (place : ℕ) (block : List ℕ) → IsMarkedAt image ckpt place block → footer_ino block ≡ ino → own place ≡ ino
  own_there place block at its = ap footer_ino (sym at.stands) ∙ its

  from_rolls : (tree : Rows) → Rolls 0 base tree → Origin tree
  from_rolls tree (same is none) = of_base (λ place block at its. none place (omega arith) at.within (marked_there place block at) (own_there place block at its)) is
  from_rolls tree (last place mark low small marked is its there none) =
      of_mark place mark (record {
        marked = record { within = small; stands = refl; marked = marked };
        own = sym is.ino ∙ its;
        last = λ later block at theirs. not_less place later (λ past. none later (omega (arith, past)) at.within (marked_there later block at) (own_there later block at theirs));
      }) is its there

  pub origin : (marks : List Mark) → AreMarks image ckpt base marks → (tree : Rows) → tree ≡ rolled base marks → Origin tree
  origin marks are tree is = subst Origin (sym is) (from_rolls (rolled base marks) (stand 0 limit (omega arith) base marks are))
