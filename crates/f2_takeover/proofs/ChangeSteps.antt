-- The directories that gain names, ino by ino.
use Rattle.std.proofs.Common.{◌≡◌, ◌≢◌, ◌⊎◌, inl, inr, ℕ, ◌+◌, ◌<◌, ◌≤◌, Bool, true, false, ◌||◌, refl, sym, ap, subst, ◌∙◌, arith, eq-eqb}
use Rattle.std.specs.Prelude.{Option, Some, None}
use Rattle.std.specs.Ordering.{nat_cmp, eq_by_cmp}
use Rattle.std.specs.Cmp.{nat_cmp_total, unsigned_tied}
use Rattle.std.specs.FinMap as map
use Rattle.std.specs.FinSet as set
use Rattle.std.proofs.lemmas.Bool.{cases_eq, cases_lt, ne_eqb, both_ways}
use Rattle.f2_overlay.proofs.Maps.{not_none, one_some}
use Rattle.f2_overlay.specs.declared.rolls.Roll.{Roll}
use Rattle.f2_recover.specs.Walking.{BaseRows}
use Rattle.f2_recover.specs.declared.rows.BaseRow.{BaseRow}
use Rattle.f2_takeover.specs.Rows.{Rolls, GainsName, gaining_of, AreChangedTo}

abbrev Inos : Type 0
Inos = set.FinSet nat_cmp

-- a set with one more
module _ (s : Inos) (one : ℕ) where
  put : (q : ℕ) (b : Bool) → eq_by_cmp nat_cmp q one ≡ b → set.contains (set.insert s one) q ≡ (b || set.contains s q)
  put q b e = set.contains-insert nat_cmp_total s one q ∙ ap (λ (t : Bool). t || set.contains s q) e

  put_here : set.contains (set.insert s one) one ≡ true
  put_here = put one true (unsigned_tied one one ∙ eq-eqb one one refl)

  put_cases : (q : ℕ) → set.contains (set.insert s one) q ≡ true → (q ≡ one) ⊎ (set.contains s q ≡ true)
  put_cases q there = by (cases_eq q one)
    where
      by : (q ≡ one) ⊎ (q ≢ one) → (q ≡ one) ⊎ (set.contains s q ≡ true)
      by (inl same) = inl same
      by (inr different) = inr (sym (put q false (unsigned_tied q one ∙ ne_eqb q one different)) ∙ there)

  put_kept : (q : ℕ) → set.contains s q ≡ true → set.contains (set.insert s one) q ≡ true
  put_kept q there = by (cases_eq q one)
    where
      by : (q ≡ one) ⊎ (q ≢ one) → set.contains (set.insert s one) q ≡ true
      by (inl same) = ap (set.contains (set.insert s one)) same ∙ put_here
      by (inr different) = put q false (unsigned_tied q one ∙ ne_eqb q one different) ∙ there

module _ (rolls : Rolls) (base : BaseRows) (most : ℕ) where
  pub changed_none : (changed : Inos) → changed ≡ set.empty → AreChangedTo rolls base most 0 changed
  changed_none changed empty = record {
    all = λ ino roll low. absurd (omega (arith, low));
    only = λ directory there. absurd (both_ways (set.contains changed directory) (ap (λ (s : Inos). set.contains s directory) empty ∙ set.contains-empty nat_cmp directory) there);
  }

  module _ (limit : ℕ) (old new : Inos) (to : AreChangedTo rolls base most limit old) where
    -- what the file of the ino gains
    gains : (directory : ℕ) → gaining_of (map.get rolls limit) (map.get base limit) ≡ Some directory → GainsName rolls base directory
    gains directory is = by (map.get rolls limit) refl (map.get base limit) refl is
      where
        by : (r : Option Roll) → map.get rolls limit ≡ r → (b : Option BaseRow) → map.get base limit ≡ b → gaining_of r b ≡ Some directory → GainsName rolls base directory
        by r e (Some row) f h = absurd (not_none directory h)
        by None e None f h = absurd (not_none directory h)
        by (Some roll) e None f h = record { ino = limit; roll = roll; there = e; new = f; parent = one_some roll.parent directory h }

    found : (ino : ℕ) (roll : Roll) → ino ≡ limit → map.get rolls ino ≡ Some roll → map.get base ino ≡ None → gaining_of (map.get rolls limit) (map.get base limit) ≡ Some roll.parent
    found ino roll same there none =
        subst (λ (b : Option BaseRow). gaining_of (map.get rolls limit) b ≡ Some roll.parent) (sym (ap (map.get base) (sym same) ∙ none))
        (subst (λ (r : Option Roll). gaining_of r None ≡ Some roll.parent) (sym (ap (map.get rolls) (sym same) ∙ there)) refl)

    -- the file brings its name into a directory
    pub changed_with : (directory : ℕ) → gaining_of (map.get rolls limit) (map.get base limit) ≡ Some directory → new ≡ set.insert old directory → AreChangedTo rolls base most (limit + 1) new
    changed_with directory is put = record {
      all = λ ino roll low there none within. ap (λ (s : Inos). set.contains s roll.parent) put ∙ all ino roll low there none within (cases_lt ino limit);
      only = λ at there. only at (put_cases old directory at (ap (λ (s : Inos). set.contains s at) (sym put) ∙ there));
    }
      where
        all : (ino : ℕ) (roll : Roll) → ino < limit + 1 → map.get rolls ino ≡ Some roll → map.get base ino ≡ None → roll.parent < most → (ino < limit) ⊎ (limit ≤ ino) → set.contains (set.insert old directory) roll.parent ≡ true
        all ino roll low there none within (inl less) = put_kept old directory roll.parent (to.all ino roll less there none within)
        all ino roll low there none within (inr high) =
            let same : roll.parent ≡ directory = one_some roll.parent directory (sym (found ino roll (omega (arith, low, high)) there none) ∙ is) in
            ap (set.contains (set.insert old directory)) same ∙ put_here old directory

        only : (at : ℕ) → (at ≡ directory) ⊎ (set.contains old at ≡ true) → GainsName rolls base at
        only at (inl same) = subst (GainsName rolls base) (sym same) (gains directory is)
        only at (inr was) = to.only at was

    -- it brings none, or into no directory that there can be
    pub changed_without : ((directory : ℕ) → gaining_of (map.get rolls limit) (map.get base limit) ≡ Some directory → directory < most → ⊥) → new ≡ old → AreChangedTo rolls base most (limit + 1) new
    changed_without none_gained same = subst (AreChangedTo rolls base most (limit + 1)) (sym same) (record { all = λ ino roll low there none within. all ino roll low there none within (cases_lt ino limit); only = to.only })
      where
        all : (ino : ℕ) (roll : Roll) → ino < limit + 1 → map.get rolls ino ≡ Some roll → map.get base ino ≡ None → roll.parent < most → (ino < limit) ⊎ (limit ≤ ino) → set.contains old roll.parent ≡ true
        all ino roll low there none within (inl less) = to.all ino roll less there none within
        all ino roll low there none within (inr high) = absurd (none_gained roll.parent (found ino roll (omega (arith, low, high)) there none) within)
