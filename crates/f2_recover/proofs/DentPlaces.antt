-- The next dentry of the directory that is walked, beside those whose places were passed.
use Rattle.std.proofs.Common.{◌≡◌, ◌≢◌, ◌⊎◌, inl, inr, ℕ, ◌-◌, ◌<◌, ◌≤◌, true, false, List, length, slice_index_or, refl, sym, ap, ◌∙◌, subst, arith}
use Rattle.std.specs.Prelude.{is_some}
use Rattle.std.specs.FinMap as map
use Rattle.std.specs.FinSet as set
use Rattle.f2_dir.specs.Entries.{Entries}
use Rattle.f2_dentry_block.specs.Dents.{dentry_of, type_of}
use Rattle.f2_dentry_block.specs.declared.dents.Dent.{Dent}
use Rattle.f2_model.specs.declared.rows.Kind.{Kind}
use Rattle.f2_model.specs.declared.rows.Kind.TheVariants.{Regular, Directory}
use Rattle.f2_image.specs.Images.{Image}
use Rattle.f2_image.specs.Packs.{Checkpoint}
use Rattle.f2_image.specs.Bases.{IsReached, root, below, HasDentryAt}
use Rattle.f2_image.specs.Faults as faults
use Rattle.f2_image.specs.Faults.{IsBelow, IsBadTree, type_of_kind, root as top, deeper}
use Rattle.f2_laws.proofs.Places.{same_or_other}
use Rattle.f2_recover.specs.Dents.{no_dent, AreDentsAt}
use Rattle.f2_recover.specs.Standing.{IsNamedAs}
use Rattle.f2_recover.specs.Walking.{IsPassed, IsWalkedTo, AreFirstNames}
use Rattle.f2_recover.specs.declared.walk.Walk.{Walk}
use Rattle.f2_recover.proofs.Sets.{Numbers, not_both}
use Rattle.f2_recover.proofs.FreshKeys.{some_there}

-- of two places that differ, the pages differ or the slots
pub pages_or_slots : (a b : ℕ × ℕ) → (a ≡ b → ⊥) → (a.0 ≢ b.0) ⊎ (a.1 ≢ b.1)
pages_or_slots a b apart = by_page (same_or_other a.0 b.0)
  where
    by_page : (a.0 ≡ b.0) ⊎ (a.0 ≢ b.0) → (a.0 ≢ b.0) ⊎ (a.1 ≢ b.1)
    by_page (inr other) = inl other
    by_page (inl same) = inr (λ slots. apart (λ i. (same i, slots i)))

types : (kind : Kind) → type_of kind ≡ type_of_kind kind
types Regular = refl
types Directory = refl

-- what stands below the root is reached
pub below_reached : (image : Image) (ckpt : Checkpoint) (depth ino : ℕ) → IsBelow image ckpt depth ino → IsReached image ckpt ino
below_reached image ckpt _ _ top = root
below_reached image ckpt _ _ (deeper depth directory dentry up has) = below directory dentry (below_reached image ckpt depth directory up) has

module _ (image : Image) (ckpt : Checkpoint) (done : Numbers) (directory : ℕ) (places : List (ℕ × ℕ)) (dents : List Dent) (count : ℕ) (dent : Dent)
    (not_done : set.contains done directory ≡ false) (at : AreDentsAt image ckpt directory places dents) (small : count < length dents) (is : slice_index_or dents count no_dent ≡ dent) where
  abbrev pub place : ℕ × ℕ
  place = slice_index_or places count (0, 0)

  pub has : HasDentryAt image ckpt directory place.0 place.1 (dentry_of dent)
  has = subst (λ (d : Dent). HasDentryAt image ckpt directory place.0 place.1 (dentry_of d)) is (at.there count small)

  -- its place is none of those
  other_place : (of page slot : ℕ) → IsPassed done directory places count of page slot → (of ≢ directory) ⊎ (page ≢ place.0) ⊎ (slot ≢ place.1)
  other_place of page slot (inl walked) = inl (λ same. not_both (subst (λ d. set.contains done d ≡ true) same walked) not_done)
  other_place of page slot (inr first) =
      inr (pages_or_slots (page, slot) place (λ same. let one : first.1.0 ≡ count = at.apart first.1.0 count (omega (arith, first.1.1.0, small)) small (first.1.1.1 ∙ same) in omega (arith, one, first.1.1.0)))

  module _ (reached : IsReached image ckpt directory) where
    -- the file that it names
    pub names_reached : IsReached image ckpt dent.ino
    names_reached = below directory (dentry_of dent) reached (place.0, place.1, has)

    pub names_below : (depth : ℕ) → 1 ≤ depth → IsBelow image ckpt (depth - 1) directory → IsBelow image ckpt depth dent.ino
    names_below depth some up = subst (λ n. IsBelow image ckpt n dent.ino) (omega (arith, some)) (deeper (depth - 1) directory (dentry_of dent) up (place.0, place.1, has))

    pub names_as : IsNamedAs image ckpt dent.ino dent.kind
    names_as = record { directory = directory; dentry = dentry_of dent; reached = reached; has = (place.0, place.1, has); is = refl; typed = types dent.kind }

    -- the directory of a place that was passed
    passed_reached : (walk : Walk) → IsWalkedTo image ckpt done directory places count walk → (of page slot : ℕ) → IsPassed done directory places count of page slot → IsReached image ckpt of
    passed_reached walk to of page slot (inl walked) = let row = (to.walked of walked).row in (to.rows of row.row row.there).file.reached
    passed_reached walk to of page slot (inr first) = subst (IsReached image ckpt) (sym first.0) reached

    -- an ino that has a row is named twice
    pub ino_twice : (walk : Walk) → IsWalkedTo image ckpt done directory places count walk → 4 ≤ dent.ino → map.contains_key walk.rows dent.ino ≡ true → IsBadTree image ckpt dent.ino
    ino_twice walk to least there =
        let row = some_there (map.get walk.rows dent.ino) there in
        let by = to.bound dent.ino row.0 row.1 (λ same. omega (arith, least, same)) in
        faults.twice row.0.parent by.page by.slot directory place.0 place.1 by.dentry (dentry_of dent) (passed_reached walk to row.0.parent by.page by.slot by.passed) reached by.has has
        (other_place row.0.parent by.page by.slot by.passed) by.own refl

    -- a name that is bound stands there twice
    pub name_twice : (names : Entries) → AreFirstNames dents count names → is_some (map.get names dent.name) ≡ true → IsBadTree image ckpt dent.ino
    name_twice names first there =
        let bound = some_there (map.get names dent.name) there in
        let by = first.only dent.name bound.0.0 bound.0.1 bound.1 in
        let other : ℕ × ℕ = slice_index_or places by.0 (0, 0) in
        let within : by.0 < length dents = omega (arith, by.1.0, small) in
        faults.same_name directory place.0 place.1 other.0 other.1 (dentry_of dent) (dentry_of (slice_index_or dents by.0 no_dent)) reached has (at.there by.0 within)
        (pages_or_slots place other (λ same. let one : count ≡ by.0 = at.apart count by.0 small within same in omega (arith, one, by.1.0)))
        (sym (ap (λ (d : Dent). d.name) by.1.1)) refl
