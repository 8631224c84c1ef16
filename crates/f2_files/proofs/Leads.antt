-- Names lead through directories to where a walk ends in each good tree of that shape.
use Rattle.std.proofs.Common.{◌≡◌, ℕ, Bool, true, false, List, [], ◌∷◌, refl, sym, ap, subst, ◌∙◌}
use Rattle.std.specs.Prelude.{Option, Some, None, Result, Ok, Err, if◌then◌else◌}
use Rattle.std.specs.FinMap as map
use Rattle.f2_model.specs.Tree.{Rows, ROOT, IsGoodTree, is_directory, stands_at, child, walked, walk, or_no_entry}
use Rattle.f2_model.specs.declared.rows.Row.{Row}
use Rattle.f2_model.specs.declared.rows.Kind.{Kind}
use Rattle.f2_model.specs.declared.rows.Kind.TheVariants.{Directory}
use Rattle.f2_model.specs.declared.replies.Reply.{Reply}
use Rattle.f2_model.specs.declared.replies.Reply.TheVariants.{NotDir}
use Rattle.f2_laws.proofs.Names.{stands_true}
use Rattle.f2_laws.proofs.Values.{none_found, value_found}
use Rattle.f2_laws.proofs.Walks.{StandsIn, stands}
use Rattle.f2_files.specs.Led.{Dirs, Place, bound_in, or_missing, led_from, led, place_at, ino_at, ino_of, BindsNames}
use Rattle.f2_files.specs.Shape.{Shapes, IsShapeOf}
use Rattle.f2_files.proofs.Alike.{shape_there, row_there}

-- the ino and the kind of a row
abbrev pub place_of : Option Row → Option Place
place_of None = None
place_of (Some row) = Some (row.ino, row.kind)

true_false : true ≡ false → ⊥
true_false e = cc

-- each row stands under its own ino, and the root's is a directory
pub record IsRooted (tree : Rows) : Type 0 where
  pub keyed : (ino : ℕ) (row : Row) → map.get tree ino ≡ Some row → row.ino ≡ ino
  pub root : (row : Row) × (map.get tree ROOT ≡ Some row) × (row.ino ≡ ROOT) × (row.kind ≡ Directory)

pub rooted_good : (most : ℕ) (tree : Rows) → IsGoodTree most tree → IsRooted tree
rooted_good most tree good = record { keyed = good.keyed; root = (good.root.0, good.root.1, good.root.2.ino, good.root.2.kind) }

child_found : (tree : Rows) → IsRooted tree → (directory : ℕ) (name : List ℕ) (row : Row) → child tree directory name ≡ Some row → (map.get tree row.ino ≡ Some row) × StandsIn directory name row
child_found tree rooted directory name row h =
    let found = value_found tree (stands_at directory name) row h in
    let keyed : row.ino ≡ found.1.0 = rooted.keyed found.1.0 row found.1.1 in
    (ap (λ ino. map.get tree ino) keyed ∙ found.1.1, stands directory name row found.0)

module _ (tree : Rows) (rooted : IsRooted tree) (shapes : Shapes) (are : IsShapeOf shapes tree) (dirs : Dirs) (binds : BindsNames shapes dirs) where
  -- a name of a directory is bound to the row that stands there
  pub child_bound : (directory : ℕ) (name : List ℕ) → bound_in dirs directory name ≡ place_of (child tree directory name)
  child_bound directory name = by_child (child tree directory name) refl
    where
      by_bound : child tree directory name ≡ None → (o : Option Place) → bound_in dirs directory name ≡ o → o ≡ None
      by_bound none None is = refl
      by_bound none (Some place) is =
          let at = binds.only directory name place.0 place.1 is in
          let there = row_there shapes tree are place.0 at.0 at.1 in
          let row : Row = there.0 in
          let keyed : row.ino ≡ place.0 = rooted.keyed place.0 row there.1 in
          let missing = none_found tree (stands_at directory name) place.0 row none there.1 in
          let stands = stands_true directory name row (λ root. at.2 (sym keyed ∙ root)) (sym there.2.parent ∙ at.3) (sym there.2.name ∙ at.4) in
          absurd (true_false (sym stands ∙ missing))

      by_child : (o : Option Row) → child tree directory name ≡ o → bound_in dirs directory name ≡ place_of o
      by_child None is = by_bound is (bound_in dirs directory name) refl
      by_child (Some row) is =
          let found = child_found tree rooted directory name row is in
          let there = shape_there shapes tree are row.ino row found.0 in
          let bound = binds.bound row.ino there.0 there.1 found.1.not_root in
          ap (λ d. bound_in dirs d name) (sym (there.2.parent ∙ found.1.parent))
          ∙ ap (λ n. bound_in dirs there.0.parent n) (sym (there.2.name ∙ found.1.name_is))
          ∙ bound ∙ ap (λ (kind : Kind). Some (row.ino, kind)) there.2.kind

  pub leads_on : (names : List (List ℕ)) (row : Row) → map.get tree row.ino ≡ Some row → led_from dirs names (row.ino, row.kind) ≡ place_at (walked tree names row)
  leads_on [] row there = refl
  leads_on (name ∷ names) row there = by_kind (λ next is. leads_on names next (child_found tree rooted row.ino name next is).0) (is_directory row.kind)
    where
      by_child : ((next : Row) → child tree row.ino name ≡ Some next → led_from dirs names (next.ino, next.kind) ≡ place_at (walked tree names next)) → (o : Option Row) → child tree row.ino name ≡ o → or_missing (place_of o) (led_from dirs names) ≡ place_at (or_no_entry o (walked tree names))
      by_child rest None is = refl
      by_child rest (Some next) is = rest next is

      by_kind : ((next : Row) → child tree row.ino name ≡ Some next → led_from dirs names (next.ino, next.kind) ≡ place_at (walked tree names next)) → (b : Bool) → (if b then or_missing (bound_in dirs row.ino name) (led_from dirs names) else Err NotDir) ≡ place_at (if b then or_no_entry (child tree row.ino name) (walked tree names) else Err NotDir)
      by_kind rest false = refl
      by_kind rest true = ap (λ o. or_missing o (led_from dirs names)) (child_bound row.ino name) ∙ by_child rest (child tree row.ino name) refl

  pub leads_rooted : (path : List (List ℕ)) → led dirs path ≡ place_at (walk tree path)
  leads_rooted path =
      let root : Row = rooted.root.0 in
      let there : map.get tree root.ino ≡ Some root = ap (λ i. map.get tree i) rooted.root.2 ∙ rooted.root.1 in
      ap (λ ino. led_from dirs path (ino, Directory)) (sym rooted.root.2)
      ∙ ap (λ (kind : Kind). led_from dirs path (root.ino, kind)) (sym rooted.root.3)
      ∙ leads_on path root there
      ∙ ap (λ o. place_at (or_no_entry o (walked tree path))) (sym rooted.root.1)

pub leads : (most : ℕ) (tree : Rows) → IsGoodTree most tree → (shapes : Shapes) → IsShapeOf shapes tree → (dirs : Dirs) → BindsNames shapes dirs → (path : List (List ℕ)) → led dirs path ≡ place_at (walk tree path)
leads most tree good = leads_rooted tree (rooted_good most tree good)

walked_there : (tree : Rows) → IsRooted tree → (names : List (List ℕ)) (row end : Row) → map.get tree row.ino ≡ Some row → walked tree names row ≡ Ok end → map.get tree end.ino ≡ Some end
walked_there tree rooted [] row end there h = let same : row ≡ end = cc in subst (λ (r : Row). map.get tree r.ino ≡ Some r) same there
walked_there tree rooted (name ∷ names) row end there h = by_kind (λ next is rest. walked_there tree rooted names next end is rest) (is_directory row.kind) h
  where
    by_child : ((next : Row) → map.get tree next.ino ≡ Some next → walked tree names next ≡ Ok end → map.get tree end.ino ≡ Some end) → (o : Option Row) → child tree row.ino name ≡ o → or_no_entry o (walked tree names) ≡ Ok end → map.get tree end.ino ≡ Some end
    by_child on None is h = absurd (cc)
    by_child on (Some next) is h = on next (child_found tree rooted row.ino name next is).0 h

    by_kind : ((next : Row) → map.get tree next.ino ≡ Some next → walked tree names next ≡ Ok end → map.get tree end.ino ≡ Some end) → (b : Bool) → (if b then or_no_entry (child tree row.ino name) (walked tree names) else Err NotDir) ≡ Ok end → map.get tree end.ino ≡ Some end
    by_kind on false h = absurd (cc)
    by_kind on true h = by_child on (child tree row.ino name) refl h

-- a walk ends at a row of the tree
pub walk_there : (tree : Rows) → IsRooted tree → (path : List (List ℕ)) (end : Row) → walk tree path ≡ Ok end → map.get tree end.ino ≡ Some end
walk_there tree rooted path end h =
    walked_there tree rooted path rooted.root.0 end (ap (λ ino. map.get tree ino) rooted.root.2 ∙ rooted.root.1) (sym (ap (λ o. or_no_entry o (walked tree path)) rooted.root.1) ∙ h)

pub ino_place : (end : Result Row Reply) → ino_of (place_at end) ≡ ino_at end
ino_place (Ok row) = refl
ino_place (Err refusal) = refl
