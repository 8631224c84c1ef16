-- The rows of a tree with the marks over its base are those that were rolled, and the base's.
use Rattle.std.proofs.Common.{◌≡◌, inl, inr, ℕ, length, refl, sym, ◌∙◌, subst, arith}
use Rattle.std.specs.Prelude.{List, Option, Some, None}
use Rattle.std.specs.Ordering.{nat_cmp}
use Rattle.std.specs.FinMap as map
use Rattle.f2_model.specs.Tree.{Rows}
use Rattle.f2_model.specs.State.{Mark, rolled}
use Rattle.f2_model.specs.declared.rows.Row.{Row}
use Rattle.f2_image.specs.Images.{Image}
use Rattle.f2_image.specs.Packs.{Checkpoint}
use Rattle.f2_image.specs.Bases.{IsBase}
use Rattle.f2_image.specs.Chains.{chain, block_in, IsMark, AreMarks}
use Rattle.f2_overlay.specs.Lasts.{last_mark_before}
use Rattle.f2_overlay.specs.Names.{HasRightMarks}
use Rattle.f2_overlay.specs.Rolls.{IsRollAt, IsRoll, AreRolls}
use Rattle.f2_overlay.specs.declared.rolls.Roll.{Roll}
use Rattle.f2_overlay.proofs.LastPlaces.{last_is}
use Rattle.f2_recover.specs.Walking.{IsBaseRead}
use Rattle.f2_recover.specs.declared.rows.BaseRow.{BaseRow}
use Rattle.f2_recover.specs.declared.walk.Walk.{Walk}
use Rattle.f2_recover_laws.specs.Sound.{AreAlike}
use Rattle.f2_recover_laws.proofs.LikeRows.{alike}
use Rattle.f2_overlay_laws.specs.Rolled.{AreAlikeRolled}
use Rattle.f2_overlay_laws.proofs.LastMarks.{IsLeft, rolls_on}
use Rattle.f2_overlay_laws.proofs.LikeRolls.{mark_like}

-- a file that wasn't rolled
of_base : (image : Image) (row : Option Row) (base : Option BaseRow) → AreAlike image row base → AreAlikeRolled image row None base
of_base image None base like = like
of_base image (Some row) base like = like

no_roll : (image : Image) (ckpt : Checkpoint) (walk : Walk) (ino : ℕ) (roll : Option Roll) → IsRoll image ckpt walk ino None roll → roll ≡ None
no_roll image ckpt walk ino None is = refl
no_roll image ckpt walk ino (Some roll) is = absurd is

-- a file that was rolled from a place
record IsRolled (image : Image) (ckpt : Checkpoint) (walk : Walk) (place ino : ℕ) (found : Option Roll) : Type 0 where
  roll : Roll
  there : found ≡ Some roll
  at : IsRollAt image ckpt walk place ino roll

some_roll : (image : Image) (ckpt : Checkpoint) (walk : Walk) (place ino : ℕ) (roll : Option Roll) → IsRoll image ckpt walk ino (Some place) roll → IsRolled image ckpt walk place ino roll
some_roll image ckpt walk place ino None is = absurd is
some_roll image ckpt walk place ino (Some roll) is = record { roll = roll; there = refl; at = is }

module _ (image : Image) (ckpt : Checkpoint) (walk : Walk) (rolls : map.FinMap nat_cmp Roll) (base : Rows) (marks : List Mark) (read : IsBaseRead image ckpt walk) (right : HasRightMarks image ckpt) (are : AreRolls image ckpt walk rolls)
    (is_base : IsBase image ckpt base) (are_marks : AreMarks image ckpt base marks) (ino : ℕ) where
  abbrev Goal : Type 0
  Goal = AreAlikeRolled image (map.get (rolled base marks) ino) (map.get rolls ino) (map.get walk.rows ino)

  abbrev last : ℕ → Option ℕ
  last place = last_mark_before (chain image ckpt) place ino

  base_alike : AreAlike image (map.get base ino) (map.get walk.rows ino)
  base_alike = alike image ckpt walk read.walked base is_base ino

  unmarked : last (length (chain image ckpt)) ≡ None → map.get (rolled base marks) ino ≡ map.get base ino → Goal
  unmarked none same =
      let no : map.get rolls ino ≡ None = no_roll image ckpt walk ino (map.get rolls ino) (subst (λ o. IsRoll image ckpt walk ino o (map.get rolls ino)) none (are ino)) in
      subst (λ o. AreAlikeRolled image (map.get (rolled base marks) ino) o (map.get walk.rows ino)) (sym no)
      (subst (λ o. AreAlikeRolled image o None (map.get walk.rows ino)) (sym same) (of_base image (map.get base ino) (map.get walk.rows ino) base_alike))

  marked : (place : ℕ) (mark : Mark) → last (length (chain image ckpt)) ≡ Some place → IsMark image ckpt base (chain image ckpt) place mark → map.get (rolled base marks) ino ≡ Some mark.row → Goal
  marked place mark found is row =
      let roll = some_roll image ckpt walk place ino (map.get rolls ino) (subst (λ o. IsRoll image ckpt walk ino o (map.get rolls ino)) found (are ino)) in
      let own = last_is (chain image ckpt) ino (length (chain image ckpt)) place found in
      let file = (right.marks place (block_in (chain image ckpt) place) (record { within = own.0; stands = refl; marked = own.1.marked })).kind in
      subst (λ o. AreAlikeRolled image (map.get (rolled base marks) ino) o (map.get walk.rows ino)) (sym roll.there)
      (subst (λ o. AreAlikeRolled image o (Some roll.roll) (map.get walk.rows ino)) (sym row)
      (mark_like image ckpt walk base place ino mark roll.roll is roll.at (is.ino ∙ own.1.own) file base_alike))

  pub rolled_alike : Goal
  rolled_alike = by (rolls_on (chain image ckpt) (IsMark image ckpt base (chain image ckpt)) (λ place mark is. is.ino) ino (length (chain image ckpt)) 0 (length (chain image ckpt)) base marks (omega arith) are_marks)
    where
      by : IsLeft (chain image ckpt) (IsMark image ckpt base (chain image ckpt)) (λ place mark is. is.ino) ino None (map.get base ino) (last (length (chain image ckpt))) (map.get (rolled base marks) ino) → Goal
      by (inl none) = unmarked none.0 none.1
      by (inr one) = marked one.place one.mark one.found_is one.is one.row_is
