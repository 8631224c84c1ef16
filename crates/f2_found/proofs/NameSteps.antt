-- Names are put file by file.
use Rattle.std.proofs.Common.{◌≡◌, ◌≢◌, ◌⊎◌, inl, inr, ℕ, ◌+◌, ◌<◌, ◌≤◌, List, refl, sym, ap, ◌∙◌, subst, arith}
use Rattle.std.specs.Prelude.{Option, Some, None}
use Rattle.std.specs.Ordering.{nat_cmp}
use Rattle.std.specs.FinMap as map
use Rattle.std.proofs.lemmas.Bool.{cases_eq, cases_lt}
use Rattle.f2_dir.specs.Entries.{Entries}
use Rattle.f2_model.specs.declared.rows.Kind.{Kind}
use Rattle.f2_model.specs.declared.rows.Kind.TheVariants.{Regular}
use Rattle.f2_overlay.proofs.Maps.{get_put, get_put-other}
use Rattle.f2_overlay.specs.declared.rolls.Roll.{Roll}
use Rattle.f2_recover.specs.Walking.{BaseRows}
use Rattle.f2_recover.specs.declared.rows.BaseRow.{BaseRow}
use Rattle.f2_found.specs.Made.{Rolls}
use Rattle.f2_found.specs.Named.{Names, with_name, with_name_in, with_file, AreCopiedTo, IsNew, AreApart, IsBrought, AreNamedTo, HasNames, AreAllNamedTo}
use Rattle.f2_found.proofs.Maps.{not_none, one_some, put_again, remove_none, get_named, named_cases}

-- a name among those of a directory that were taken out, and put again
pub put_name : (old left new : Names) (directory : ℕ) (name : List ℕ) (ino : ℕ) (entries more : Entries) → map.get old directory ≡ Some entries → left ≡ map.remove old directory → more ≡ map.insert entries name (ino, Regular) → new ≡ map.insert left directory more
    → new ≡ with_name old directory name ino
put_name old left new directory name ino entries more there out one put =
    put ∙ ap (λ (m : Names). map.insert m directory more) out ∙ put_again old directory more ∙ ap (map.insert old directory) one ∙ sym (ap (with_name_in old directory name ino) there)

pub put_none : (old left : Names) (directory : ℕ) (name : List ℕ) (ino : ℕ) → map.get old directory ≡ None → left ≡ map.remove old directory → left ≡ with_name old directory name ino
put_none old left directory name ino none out = out ∙ remove_none old directory none ∙ sym (ap (with_name_in old directory name ino) none)

-- the names of a base
copied_none : (base names : Names) → AreCopiedTo base 0 names
copied_none base names directory low = absurd (omega (arith, low))

copied_next : (base : Names) (limit : ℕ) (new : Names) → ((directory : ℕ) → directory < limit → map.get new directory ≡ map.get base directory) → map.get new limit ≡ map.get base limit → AreCopiedTo base (limit + 1) new
copied_next base limit new below here directory low = by (cases_lt directory limit)
  where
    by : (directory < limit) ⊎ (limit ≤ directory) → map.get new directory ≡ map.get base directory
    by (inl less) = below directory less
    by (inr more) = let same : limit ≡ directory = omega (arith, low, more) in subst (λ n. map.get new n ≡ map.get base n) same here

-- so many were copied, and behind them is none yet
pub record AreCopiedUpTo (base : Names) (limit : ℕ) (names : Names) : Type 0 where
  pub below : AreCopiedTo base limit names
  pub above : (directory : ℕ) → limit ≤ directory → map.get names directory ≡ None

pub up_to_none : (base names : Names) → names ≡ map.empty → AreCopiedUpTo base 0 names
up_to_none base names empty = record { below = copied_none base names; above = λ directory high. ap (λ (m : Names). map.get m directory) empty ∙ map.get-empty nat_cmp directory }

module _ (base : Names) (limit : ℕ) (old new : Names) (to : AreCopiedUpTo base limit old) where
  pub up_to_with : (entries : Entries) → map.get base limit ≡ Some entries → new ≡ map.insert old limit entries → AreCopiedUpTo base (limit + 1) new
  up_to_with entries there put = record {
    below = copied_next base limit new (λ directory less. other directory (λ same. omega (arith, less, same)) ∙ to.below directory less) (ap (λ (m : Names). map.get m limit) put ∙ get_put old limit entries ∙ sym there);
    above = λ directory high. other directory (λ same. omega (arith, high, same)) ∙ to.above directory (omega (arith, high));
  }
    where
      other : (directory : ℕ) → (directory ≡ limit → ⊥) → map.get new directory ≡ map.get old directory
      other directory apart = ap (λ (m : Names). map.get m directory) put ∙ get_put-other old limit entries directory apart

  pub up_to_without : map.get base limit ≡ None → new ≡ old → AreCopiedUpTo base (limit + 1) new
  up_to_without none same = subst (AreCopiedUpTo base (limit + 1)) (sym same) (record {
    below = copied_next base limit old to.below (to.above limit (omega arith) ∙ sym none);
    above = λ directory high. to.above directory (omega (arith, high));
  })

module _ (rolls : Rolls) (base : BaseRows) where
  -- nothing but the names of the base
  pub named_none : (known : Names) (most : ℕ) (names : Names) → AreCopiedTo known most names → AreAllNamedTo rolls base known most 0 names
  named_none known most names copied directory entries low there = record {
    entries = entries;
    there = copied directory low ∙ there;
    are = record {
      only = λ name ino kind has. inl has;
      kept = λ name place has. has;
      added = λ ino roll below. absurd (omega (arith, below));
    };
  }

  -- a file that brings no name into a directory
  named_other : (limit directory : ℕ) (entries names : Entries) → ((roll : Roll) → IsNew rolls base limit roll → roll.parent ≡ directory → ⊥) → AreNamedTo rolls base limit directory entries names → AreNamedTo rolls base (limit + 1) directory entries names
  named_other limit directory entries names none to = record {
    only = to.only;
    kept = to.kept;
    added = λ ino roll low new up. by ino roll low new up (cases_lt ino limit);
  }
    where
      by : (ino : ℕ) (roll : Roll) → ino < limit + 1 → IsNew rolls base ino roll → roll.parent ≡ directory → (ino < limit) ⊎ (limit ≤ ino) → map.get names roll.name ≡ Some (ino, Regular)
      by ino roll low new up (inl less) = to.added ino roll less new up
      by ino roll low new up (inr more) = let same : ino ≡ limit = omega (arith, low, more) in absurd (none roll (subst (λ n. IsNew rolls base n roll) same new) up)

  -- a file that brings one
  module _ (known : Names) (apart : AreApart rolls base known) (limit directory : ℕ) (entries names : Entries) (there : map.get known directory ≡ Some entries) (to : AreNamedTo rolls base limit directory entries names) (roll : Roll) (new : IsNew rolls base limit roll) (up : roll.parent ≡ directory) where
    abbrev after : Entries
    after = map.insert names roll.name (limit, Regular)

    only : (name : List ℕ) (ino : ℕ) (kind : Kind) → map.get after name ≡ Some (ino, kind) → (map.get entries name ≡ Some (ino, kind)) ⊎ IsBrought rolls base directory name ino kind
    only name ino kind has = by (named_cases names roll.name (limit, Regular) name)
      where
        by : ((name ≡ roll.name) × (map.get after name ≡ Some (limit, Regular))) ⊎ (map.get after name ≡ map.get names name) → (map.get entries name ≡ Some (ino, kind)) ⊎ IsBrought rolls base directory name ino kind
        by (inr old) = to.only name ino kind (sym old ∙ has)
        by (inl here) =
            let place = one_some (limit, Regular) (ino, kind) (sym here.1 ∙ has) in
            inr (record {
              roll = roll;
              new = subst (λ n. IsNew rolls base n roll) (ap (λ (p : ℕ × Kind). p.0) place) new;
              parent = up;
              named = sym here.0;
              kind_is = sym (ap (λ (p : ℕ × Kind). p.1) place);
            })

    kept : (name : List ℕ) (place : ℕ × Kind) → map.get entries name ≡ Some place → map.get after name ≡ Some place
    kept name place has = by (named_cases names roll.name (limit, Regular) name)
      where
        by : ((name ≡ roll.name) × (map.get after name ≡ Some (limit, Regular))) ⊎ (map.get after name ≡ map.get names name) → map.get after name ≡ Some place
        by (inr old) = old ∙ to.kept name place has
        by (inl here) = absurd (not_none place (sym (apart.free limit roll entries new (ap (map.get known) up ∙ there)) ∙ ap (map.get entries) (sym here.0) ∙ has))

    added : (ino : ℕ) (other : Roll) → ino < limit + 1 → IsNew rolls base ino other → other.parent ≡ directory → map.get after other.name ≡ Some (ino, Regular)
    added ino other low also into = by (cases_lt ino limit) (named_cases names roll.name (limit, Regular) other.name)
      where
        by : (ino < limit) ⊎ (limit ≤ ino) → ((other.name ≡ roll.name) × (map.get after other.name ≡ Some (limit, Regular))) ⊎ (map.get after other.name ≡ map.get names other.name) → map.get after other.name ≡ Some (ino, Regular)
        by (inl less) (inr old) = old ∙ to.added ino other less also into
        by (inl less) (inl here) = let same = apart.alone ino limit other roll also new (into ∙ sym up) here.0 in absurd (omega (arith, less, same))
        by (inr more) h =
            let same : ino ≡ limit = omega (arith, low, more) in
            let one : other ≡ roll = one_some other roll (sym also.there ∙ ap (map.get rolls) same ∙ new.there) in
            ap (λ (r : Roll). map.get after r.name) one ∙ get_named names roll.name (limit, Regular) ∙ ap (λ n. Some (n, Regular)) (sym same)

    named_more : AreNamedTo rolls base (limit + 1) directory entries after
    named_more = record { only = only; kept = kept; added = added }

  module _ (known : Names) (most : ℕ) (apart : AreApart rolls base known) (limit : ℕ) (old new : Names) (to : AreAllNamedTo rolls base known most limit old) where
    -- nothing was put
    none_put : ((roll : Roll) → IsNew rolls base limit roll → map.get old roll.parent ≡ None) → new ≡ old → AreAllNamedTo rolls base known most (limit + 1) new
    none_put nowhere same directory entries low there =
        let has = to directory entries low there in
        record {
          entries = has.entries;
          there = ap (λ (m : Names). map.get m directory) same ∙ has.there;
          are = named_other limit directory entries has.entries (λ roll is up. not_none has.entries (sym (nowhere roll is) ∙ ap (map.get old) up ∙ has.there)) has.are;
        }

    -- a name was put
    one_put : (roll : Roll) (names : Entries) → IsNew rolls base limit roll → map.get old roll.parent ≡ Some names → new ≡ map.insert old roll.parent (map.insert names roll.name (limit, Regular)) → AreAllNamedTo rolls base known most (limit + 1) new
    one_put roll names is at put directory entries low there = by (cases_eq directory roll.parent)
      where
        has : HasNames old directory (AreNamedTo rolls base limit directory entries)
        has = to directory entries low there

        by : (directory ≡ roll.parent) ⊎ (directory ≢ roll.parent) → HasNames new directory (AreNamedTo rolls base (limit + 1) directory entries)
        by (inl same) =
            let own : has.entries ≡ names = one_some has.entries names (sym has.there ∙ ap (map.get old) same ∙ at) in
            record {
              entries = map.insert names roll.name (limit, Regular);
              there = ap (map.get new) same ∙ ap (λ (m : Names). map.get m roll.parent) put ∙ get_put old roll.parent (map.insert names roll.name (limit, Regular));
              are = named_more known apart limit directory entries names there (subst (AreNamedTo rolls base limit directory entries) own has.are) roll is (sym same);
            }
        by (inr other) = record {
          entries = has.entries;
          there = ap (λ (m : Names). map.get m directory) put ∙ get_put-other old roll.parent (map.insert names roll.name (limit, Regular)) directory other ∙ has.there;
          are = named_other limit directory entries has.entries (λ one new_one up.
              let same : one ≡ roll = one_some one roll (sym new_one.there ∙ is.there) in
              other (sym up ∙ ap (λ (r : Roll). r.parent) same)) has.are;
        }

    pub named_next : new ≡ with_file old limit (map.get rolls limit) (map.get base limit) → AreAllNamedTo rolls base known most (limit + 1) new
    named_next put = by (map.get rolls limit) (map.get base limit) refl refl put
      where
        by_parent : (roll : Roll) → IsNew rolls base limit roll → (names : Option Entries) → map.get old roll.parent ≡ names → new ≡ with_name_in old roll.parent roll.name limit names → AreAllNamedTo rolls base known most (limit + 1) new
        by_parent roll is None at same = none_put (λ other new_one. ap (λ (r : Roll). map.get old r.parent) (one_some other roll (sym new_one.there ∙ is.there)) ∙ at) same
        by_parent roll is (Some names) at same = one_put roll names is at same

        by : (roll : Option Roll) (row : Option BaseRow) → map.get rolls limit ≡ roll → map.get base limit ≡ row → new ≡ with_file old limit roll row → AreAllNamedTo rolls base known most (limit + 1) new
        by (Some roll) None r b same = by_parent roll (record { there = r; no_row = b }) (map.get old roll.parent) refl same
        by (Some roll) (Some row) r b same = none_put (λ other is. absurd (not_none row (sym is.no_row ∙ b))) same
        by None row r b same = none_put (λ other is. absurd (not_none other (sym r ∙ is.there))) same
