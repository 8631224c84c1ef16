-- The dentries of a directory of a tree: one for each of its names.
use Rattle.std.proofs.Common.{◌≡◌, ◌≢◌, inl, inr, ℕ, ◌==◌, Bool, true, false, cond, List, [], ◌∷◌, filter, refl, sym, ap, ◌∙◌, subst}
use Rattle.std.specs.Prelude.{Some}
use Rattle.std.specs.List.{AllByRecursion, flat_map}
use Rattle.std.specs.Ordering.{nat_cmp, eq_by_cmp, is_eq}
use Rattle.std.specs.Cmp.{tied_itself, Equal-is}
use Rattle.std.specs.Cmp.Lexicographic.{slice_cmp, nat_list_cmp_total}
use Rattle.std.specs.FinMap as map
use Rattle.std.specs.FinMap.{nat_cmp-IsAntisymmetric, slice_cmp-IsAntisymmetric}
use Rattle.std.specs.FinSet as set
use Rattle.std.proofs.lemmas.Bool.{eqb-true}
use Rattle.std.proofs.lemmas.List.Elements.{All-from_recursion}
use Rattle.f2_format.specs.Dentry.{Dentry}
use Rattle.f2_model.specs.Rising.{rising}
use Rattle.f2_model.specs.Tree as model
use Rattle.f2_model.specs.Tree.{Rows, ROOT, names_under, names_in}
use Rattle.f2_model.specs.declared.rows.Row.{Row}
use Rattle.f2_model.proofs.RisingLemmas.{contains-rising}
use Rattle.f2_dentry_block.specs.Packed.{names_of}
use Rattle.f2_image.specs.Faults.{type_of_kind}
use Rattle.f2_image_laws.proofs.Numbers.{differ_of}
use Rattle.f2_stored.specs.Places.{IsBound}
use Rattle.f2_block_laws.specs.Directories.{AreDentries}
use Rattle.f2_block_laws.proofs.Members.{IsIn, from_map, from_filter, from_flat_map, in_any, from_any}
use Rattle.f2_block_laws.proofs.Values.{entry_found}

-- one dentry for each name of a list
gather : (P : Dentry → Type 0) (names : List (List ℕ)) → ((name : List ℕ) → IsIn name names → (dentry : Dentry) × (dentry.name ≡ name) × P dentry) → (dentries : List Dentry) × (names_of dentries ≡ names) × AllByRecursion P dentries
gather P [] each = ([], refl, tt)
gather P (name ∷ names) each =
    let one = each name (inl refl) in
    let rest = gather P names (λ other there. each other (inr there)) in
    (one.0 ∷ rest.0, (λ i. one.1 i ∷ rest.1 i), (one.2, rest.2))

-- a name among the names in order is among the names
from_rising : (names : List (List ℕ)) (name : List ℕ) → IsIn name (rising (set.from_list {R = slice_cmp nat_cmp} names)) → IsIn name names
from_rising names name there =
    let members = set.from_list {R = slice_cmp nat_cmp} names in
    let tied : eq_by_cmp (slice_cmp nat_cmp) name name ≡ true = ap is_eq (tied_itself nat_list_cmp_total name) in
    let contained : set.contains members name ≡ true = contains-rising nat_list_cmp_total members name ∙ in_any (eq_by_cmp (slice_cmp nat_cmp) name) name (rising members) tied there in
    let found = from_any (eq_by_cmp (slice_cmp nat_cmp) name) names (sym (set.contains-from_list nat_list_cmp_total names name) ∙ contained) in
    let same : name ≡ found.0 = slice_cmp-IsAntisymmetric nat_cmp-IsAntisymmetric name found.0 ((Equal-is (slice_cmp nat_cmp name found.0)).0 found.2) in
    subst (λ n. IsIn n names) (sym same) found.1

-- a name in a directory is a row's
record IsNamed (rows : List Row) (directory : ℕ) (name : List ℕ) : Type 0 where
  row : Row
  listed : IsIn row rows
  below : row.ino ≢ ROOT
  parent : row.parent ≡ directory
  named : row.name ≡ name

of_row : (row : Row) (at : ℕ × List ℕ) → IsIn at (model.names_of row) → (row.ino ≢ ROOT) × (at ≡ (row.parent, row.name))
of_row row at there = by_test (row.ino == ROOT) refl there
  where
    by_test : (b : Bool) → (row.ino == ROOT) ≡ b → IsIn at (cond b [] ((row.parent, row.name) ∷ [])) → (row.ino ≢ ROOT) × (at ≡ (row.parent, row.name))
    by_test true e h = absurd h
    by_test false e (inl same) = (differ_of row.ino ROOT e, same)
    by_test false e (inr h) = absurd h

row_named : (rows : List Row) (directory : ℕ) (name : List ℕ) → IsIn name (names_under rows directory) → IsNamed rows directory name
row_named rows directory name there =
    let at = from_map (λ (at : ℕ × List ℕ). at.1) name (filter (λ (at : ℕ × List ℕ). at.0 == directory) (flat_map model.names_of rows)) there in
    let kept = from_filter (λ (at : ℕ × List ℕ). at.0 == directory) at.0 (flat_map model.names_of rows) at.1 in
    let row = from_flat_map model.names_of at.0 rows kept.1 in
    let own = of_row row.0 at.0 row.2 in
    record {
      row = row.0;
      listed = row.1;
      below = own.0;
      parent = sym (ap (λ (p : ℕ × List ℕ). p.0) own.1) ∙ eqb-true at.0.0 directory kept.0;
      named = sym (ap (λ (p : ℕ × List ℕ). p.1) own.1) ∙ at.2;
    }

module _ (tree : Rows) (keyed : (ino : ℕ) (row : Row) → map.get tree ino ≡ Some row → row.ino ≡ ino) (directory : ℕ) where
  row_there : (row : Row) → IsIn row (map.values tree) → map.get tree row.ino ≡ Some row
  row_there row listed =
      let entry = from_map (λ (e : ℕ × Row). e.1) row (map.entries tree) listed in
      let found = entry_found tree entry.0 entry.1 in
      let own : row.ino ≡ entry.0.0 = ap (λ (r : Row). r.ino) (sym entry.2) ∙ keyed entry.0.0 entry.0.1 found in
      ap (map.get tree) own ∙ found ∙ ap Some entry.2

  bound_one : (name : List ℕ) → IsIn name (rising (names_in (map.values tree) directory)) → (dentry : Dentry) × (dentry.name ≡ name) × IsBound tree directory dentry
  bound_one name there =
      let is = row_named (map.values tree) directory name (from_rising (names_under (map.values tree) directory) name there) in
      let row = is.row in (
        record { name = row.name; ino = row.ino; type = type_of_kind row.kind },
        is.named,
        record {
          row = row;
          there = row_there row is.listed;
          below = is.below;
          parent = is.parent;
          named = refl;
          typed = refl;
        },
      )

  pub listed : (dentries : List Dentry) × AreDentries tree directory dentries
  listed =
      let all = gather (IsBound tree directory) (rising (names_in (map.values tree) directory)) bound_one in
      (all.0, record { names = all.1; bound = All-from_recursion (IsBound tree directory) all.0 all.2 })
