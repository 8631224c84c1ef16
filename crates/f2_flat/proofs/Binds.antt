-- The names that are kept, and what is found by them.
use Rattle.std.proofs.Common.{◌≡◌, ◌≢◌, ◌⊎◌, inl, inr, ℕ, Bool, true, false, cond, List, [], ◌∷◌, ◌==◌, refl, sym, ap, ◌∙◌}
use Rattle.std.specs.Prelude.{Option, Some, None, if◌then◌else◌}
use Rattle.std.specs.Ordering.{nat_cmp, eq_by_cmp, is_eq}
use Rattle.std.specs.Cmp.{Equal-is, tied_itself}
use Rattle.std.specs.Cmp.Lexicographic.{slice_cmp, nat_list_cmp_total}
use Rattle.std.specs.FinMap as map
use Rattle.std.specs.FinMap.{nat_cmp-IsAntisymmetric, slice_cmp-IsAntisymmetric, get-insert}
use Rattle.std.proofs.lemmas.Bool.{eqb-true, eqb-false}
use Rattle.f2_model.specs.Tree.{Rows, ROOT, child, stands_at}
use Rattle.f2_model.specs.declared.rows.Row.{Row}
use Rattle.f2_model.specs.declared.rows.Kind.{Kind}
use Rattle.f2_model.specs.declared.rows.Kind.TheVariants.{Regular}
use Rattle.f2_laws.proofs.Names.{stands_true}
use Rattle.f2_laws.proofs.Values.{none_found}
use Rattle.f2_laws.proofs.Walks.{some_same, some_none, child_there}
use Rattle.f2_laid_laws.proofs.Members.{IsIn}
use Rattle.f2_laid_laws.proofs.Values.{value_in}
use Rattle.f2_dir.specs.Entries.{Entries}
use Rattle.f2_flat.specs.Flat.{FILE_SIZE}
use Rattle.f2_flat.specs.Kept.{HasRootFiles, BindsNames, with_row, with_rows}
use Rattle.f2_flat.proofs.Values.{value_at}

-- what a name is bound to after one was bound: that, where the names are the same
abbrev pub is_name : List ℕ → List ℕ → Bool
is_name = eq_by_cmp (slice_cmp nat_cmp)

pub name_same : (p q : List ℕ) → is_name p q ≡ true → p ≡ q
name_same p q tied = slice_cmp-IsAntisymmetric nat_cmp-IsAntisymmetric p q ((Equal-is (slice_cmp nat_cmp p q)).0 tied)

pub name_itself : (name : List ℕ) → is_name name name ≡ true
name_itself name = ap is_eq (tied_itself nat_list_cmp_total name)

pub name_other : (p q : List ℕ) → p ≢ q → is_name p q ≡ false
name_other p q other = by_test (is_name p q) refl
  where
    by_test : (b : Bool) → is_name p q ≡ b → b ≡ false
    by_test true is = absurd (other (name_same p q is))
    by_test false is = refl

pub get_bound : (names : Entries) (name : List ℕ) (place : ℕ × Kind) → map.get (map.insert names name place) name ≡ Some place
get_bound names name place = get-insert nat_list_cmp_total names name place name ∙ ap (λ b. cond b (Some place) (map.get names name)) (name_itself name)

pub get_bound-other : (names : Entries) (name : List ℕ) (place : ℕ × Kind) (other : List ℕ) → other ≢ name → map.get (map.insert names name place) other ≡ map.get names other
get_bound-other names name place other apart = get-insert nat_list_cmp_total names name place other ∙ ap (λ b. cond b (Some place) (map.get names other)) (name_other other name apart)

pub bound_or_other : (names : Entries) (name : List ℕ) (place : ℕ × Kind) (other : List ℕ) (at : ℕ × Kind) → map.get (map.insert names name place) other ≡ Some at → ((other ≡ name) × (place ≡ at)) ⊎ (map.get names other ≡ Some at)
bound_or_other names name place other at there = by_test (is_name other name) refl (sym (get-insert nat_list_cmp_total names name place other) ∙ there)
  where
    by_test : (b : Bool) → is_name other name ≡ b → cond b (Some place) (map.get names other) ≡ Some at → ((other ≡ name) × (place ≡ at)) ⊎ (map.get names other ≡ Some at)
    by_test true is found = inl (name_same other name is, some_same found)
    by_test false is found = inr found

-- a row of a tree that isn't the root stands under a name in the root
module _ (tree : Rows) (names : Entries) (files : HasRootFiles tree) (binds : BindsNames tree names) where
  pub child_none : (name : List ℕ) → map.get names name ≡ None → child tree ROOT name ≡ None
  child_none name none = by_child (child tree ROOT name) refl
    where
      by_child : (o : Option Row) → child tree ROOT name ≡ o → o ≡ None
      by_child None is = refl
      by_child (Some row) is =
          let found = child_there FILE_SIZE tree files.good ROOT name row is in
          let bound = binds.bound row.ino row found.0 found.1.not_root in
          absurd (some_none (sym bound ∙ ap (λ n. map.get names n) found.1.name_is ∙ none))

  pub child_some : (name : List ℕ) (ino : ℕ) (kind : Kind) → map.get names name ≡ Some (ino, kind) → map.get tree ino ≡ child tree ROOT name
  child_some name ino kind some =
      let at = binds.only name ino kind some in
      let row : Row = at.0 in
      let there : map.get tree ino ≡ Some row = at.1 in
      let file = files.files ino row there at.2 in
      by_child row there at.2 at.3 file.1 (child tree ROOT name) refl
    where
      by_child : (row : Row) → map.get tree ino ≡ Some row → ino ≢ ROOT → row.name ≡ name → row.parent ≡ ROOT → (o : Option Row) → child tree ROOT name ≡ o → map.get tree ino ≡ o
      by_child row there other named parent None is =
          let keyed = files.good.keyed ino row there in
          let missing = none_found tree (stands_at ROOT name) ino row is there in
          absurd (true_false (sym (stands_true ROOT name row (λ root. other (sym keyed ∙ root)) parent named) ∙ missing))
        where
          true_false : true ≡ false → ⊥
          true_false e = cc
      by_child row there other named parent (Some found) is =
          let end = child_there FILE_SIZE tree files.good ROOT name found is in
          let same : ino ≡ found.ino = files.good.apart ino found.ino row found there end.0 other end.1.not_root (parent ∙ sym end.1.parent) (named ∙ sym end.1.name_is) in
          ap (λ i. map.get tree i) same ∙ end.0

-- what the name of a file with an ino is bound to
abbrev pub bound_to : ℕ → Option (ℕ × Kind)
bound_to ino = Some (ino, Regular)

-- names bound row by row
with_row-root : (names : Entries) (row : Row) → row.ino ≡ ROOT → with_row names row ≡ names
with_row-root names row root = by_test (row.ino == ROOT) refl
  where
    by_test : (b : Bool) → (row.ino == ROOT) ≡ b → (if b then names else map.insert names row.name (row.ino, Regular)) ≡ names
    by_test true is = refl
    by_test false is = absurd (eqb-false row.ino ROOT is root)

with_row-file : (names : Entries) (row : Row) → row.ino ≢ ROOT → with_row names row ≡ map.insert names row.name (row.ino, Regular)
with_row-file names row other = by_test (row.ino == ROOT) refl
  where
    by_test : (b : Bool) → (row.ino == ROOT) ≡ b → (if b then names else map.insert names row.name (row.ino, Regular)) ≡ map.insert names row.name (row.ino, Regular)
    by_test true is = absurd (other (eqb-true row.ino ROOT is))
    by_test false is = refl

-- a row among some, other than the root, that has a name
record HasName (rows : List Row) (name : List ℕ) (ino : ℕ) : Type 0 where
  row : Row
  there : IsIn row rows
  other : row.ino ≢ ROOT
  own : row.ino ≡ ino
  named : row.name ≡ name

later : (first : Row) (rows : List Row) (name : List ℕ) (ino : ℕ) → HasName rows name ino → HasName (first ∷ rows) name ino
later first rows name ino has = record { row = has.row; there = inr has.there; other = has.other; own = has.own; named = has.named }

from_rows : (names : Entries) (rows : List Row) (name : List ℕ) (ino : ℕ) (kind : Kind) → map.get (with_rows names rows) name ≡ Some (ino, kind) → (map.get names name ≡ Some (ino, kind)) ⊎ HasName rows name ino
from_rows names [] name ino kind there = inl there
from_rows names (row ∷ rows) name ino kind there = by_rest (from_rows (with_row names row) rows name ino kind there)
  where
    by_root : (b : Bool) → (row.ino == ROOT) ≡ b → map.get (if b then names else map.insert names row.name (row.ino, Regular)) name ≡ Some (ino, kind) → (map.get names name ≡ Some (ino, kind)) ⊎ HasName (row ∷ rows) name ino
    by_root true is found = inl found
    by_root false is found = by_place (bound_or_other names row.name (row.ino, Regular) name (ino, kind) found)
      where
        by_place : ((name ≡ row.name) × (◌≡◌ {A = ℕ × Kind} (row.ino, Regular) (ino, kind))) ⊎ (map.get names name ≡ Some (ino, kind)) → (map.get names name ≡ Some (ino, kind)) ⊎ HasName (row ∷ rows) name ino
        by_place (inl same) = inr (record { row = row; there = inl refl; other = eqb-false row.ino ROOT is; own = ap (λ (place : ℕ × Kind). place.0) same.1; named = sym same.0 })
        by_place (inr before) = inl before

    by_rest : (map.get (with_row names row) name ≡ Some (ino, kind)) ⊎ HasName rows name ino → (map.get names name ≡ Some (ino, kind)) ⊎ HasName (row ∷ rows) name ino
    by_rest (inl found) = by_root (row.ino == ROOT) refl found
    by_rest (inr has) = inr (later row rows name ino has)

-- a name that no row but one has is bound to that one's ino
kept_name : (names : Entries) (rows : List Row) (name : List ℕ) (ino : ℕ) → ((row : Row) → IsIn row rows → row.ino ≢ ROOT → row.name ≡ name → row.ino ≡ ino) → map.get names name ≡ Some (ino, Regular) → map.get (with_rows names rows) name ≡ Some (ino, Regular)
kept_name names [] name ino alone there = there
kept_name names (row ∷ rows) name ino alone there = kept_name (with_row names row) rows name ino (λ one is. alone one (inr is)) (by_root (row.ino == ROOT) refl)
  where
    by_name : row.ino ≢ ROOT → (b : Bool) → is_name name row.name ≡ b → map.get (map.insert names row.name (row.ino, Regular)) name ≡ Some (ino, Regular)
    by_name other true is =
        let same = name_same name row.name is in
        ap (λ n. map.get (map.insert names row.name (row.ino, Regular)) n) same ∙ get_bound names row.name (row.ino, Regular) ∙ ap (λ (i : ℕ). bound_to i) (alone row (inl refl) other (sym same))
    by_name other false is = get-insert nat_list_cmp_total names row.name (row.ino, Regular) name ∙ ap (λ b. cond b (Some (row.ino, Regular)) (map.get names name)) is ∙ there

    by_root : (b : Bool) → (row.ino == ROOT) ≡ b → map.get (if b then names else map.insert names row.name (row.ino, Regular)) name ≡ Some (ino, Regular)
    by_root true is = there
    by_root false is = by_name (eqb-false row.ino ROOT is) (is_name name row.name) refl

row_bound : (names : Entries) (rows : List Row) (row : Row) → IsIn row rows → row.ino ≢ ROOT → ((one : Row) → IsIn one rows → one.ino ≢ ROOT → one.name ≡ row.name → one.ino ≡ row.ino) → map.get (with_rows names rows) row.name ≡ Some (row.ino, Regular)
row_bound names [] row there other alone = absurd there
row_bound names (first ∷ rows) row (inl same) other alone =
    kept_name (with_row names first) rows row.name row.ino (λ one is. alone one (inr is))
    (ap (λ (r : Row). map.get (with_row names r) row.name) (sym same) ∙ ap (λ m. map.get m row.name) (with_row-file names row other) ∙ get_bound names row.name (row.ino, Regular))
row_bound names (first ∷ rows) row (inr there) other alone = row_bound (with_row names first) rows row there other (λ one is. alone one (inr is))

-- all names of a tree
pub names_bound : (tree : Rows) → HasRootFiles tree → BindsNames tree (with_rows map.empty (map.values tree))
names_bound tree files = record {
  bound = λ ino row there other.
      (let keyed = files.good.keyed ino row there in
      let found = row_bound map.empty (map.values tree) row (value_in tree ino row there) (λ root. other (sym keyed ∙ root)) (alone row (ap (λ i. map.get tree i) keyed ∙ there) (λ root. other (sym keyed ∙ root))) in
      found ∙ ap (λ (i : ℕ). bound_to i) keyed);
  only = λ name ino kind there. by_place name ino (from_rows map.empty (map.values tree) name ino kind there);
}
  where
    alone : (row : Row) → map.get tree row.ino ≡ Some row → row.ino ≢ ROOT → (one : Row) → IsIn one (map.values tree) → one.ino ≢ ROOT → one.name ≡ row.name → one.ino ≡ row.ino
    alone row there other one is one_other same =
        let at = value_at tree one is in
        let keyed : one.ino ≡ at.0 = files.good.keyed at.0 one at.1 in
        let one_there : map.get tree one.ino ≡ Some one = ap (λ i. map.get tree i) keyed ∙ at.1 in
        files.good.apart one.ino row.ino one row one_there there one_other other ((files.files one.ino one one_there one_other).1 ∙ sym (files.files row.ino row there other).1) same

    by_place : (name : List ℕ) (ino : ℕ) {kind : Kind} → (map.get {X = ℕ × Kind} (map.empty {R = slice_cmp nat_cmp}) name ≡ Some (ino, kind)) ⊎ HasName (map.values tree) name ino → (row : Row) × (map.get tree ino ≡ Some row) × (ino ≢ ROOT) × (row.name ≡ name)
    by_place name ino (inl nothing) = absurd (some_none (sym nothing ∙ map.get-empty (slice_cmp nat_cmp) name))
    by_place name ino (inr has) =
        let at = value_at tree has.row has.there in
        let keyed : has.row.ino ≡ at.0 = files.good.keyed at.0 has.row at.1 in
        (has.row, ap (λ i. map.get tree i) (sym has.own ∙ keyed) ∙ at.1, (λ root. has.other (has.own ∙ root)), has.named)
