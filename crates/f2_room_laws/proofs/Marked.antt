-- Rows that marks put over a base, and what the tests at the beginning of an fsync say of one mark more.
use Rattle.std.proofs.Common.{◌≡◌, ◌≢◌, ◌⊎◌, inl, inr, ℕ, List, [], ◌∷◌, All, Contains, map as map_list, refl, sym, ap, ◌∙◌, arith}
use Rattle.std.specs.Prelude.{Some, None}
use Rattle.std.specs.FinMap as map
use Rattle.std.proofs.lemmas.List.Elements.{All-nil, All-cons, All-weaker, All-contains, All-contains_itself, Contains-append_right}
use Rattle.f2_model.specs.Tree.{Rows, ROOT}
use Rattle.f2_model.specs.State.{State, Mark, rolled}
use Rattle.f2_model.specs.Fallback.{fallback}
use Rattle.f2_model.specs.declared.bounds.Limits.{Limits}
use Rattle.f2_model.specs.declared.rows.Row.{Row}
use Rattle.f2_model.specs.declared.rows.Kind.TheVariants.{Regular, Directory}
use Rattle.f2_laws.proofs.Maps.{get_put-other}
use Rattle.f2_laws.proofs.Walks.{some_same}
use Rattle.f2_laws.proofs.Passed.{kinds_differ}
use Rattle.f2_laws.proofs.Places.{same_or_other}
use Rattle.f2_held.specs.Recovered.{IsOneOf, rows_of}
use Rattle.f2_held.proofs.RowLists.{one_of-left, one_of-right, value_is_one, rolled_row}
use Rattle.f2_room_laws.specs.ProperTrees.{IsProperTree}
use Rattle.f2_room_laws.specs.ProperStates.{IsRolling}
use Rattle.f2_room_laws.specs.Fitting.{FitsBase, MayBeMarked, IsBased}
use Rattle.f2_room_laws.proofs.Fsyncs.{row_regular, row_root, parent_there, name_apart}

first_mark : (mark : Mark) (marks : List Mark) → Contains (mark ∷ marks) mark
first_mark mark marks = All-contains_itself (mark ∷ marks) 0 mark (omega arith)

-- the row of a mark is one of the marks' rows
mark_row : (marks : List Mark) → All (λ mark. IsOneOf mark.row (map_list (λ mark. mark.row) marks)) marks
mark_row [] = All-nil (λ (mark : Mark). IsOneOf mark.row [])
mark_row (one ∷ marks) =
    All-cons (λ (mark : Mark). IsOneOf mark.row (one.row ∷ map_list (λ mark. mark.row) marks)) one marks (inl refl)
    (All-weaker (λ (mark : Mark). IsOneOf mark.row (map_list (λ mark. mark.row) marks)) (λ (mark : Mark). IsOneOf mark.row (one.row ∷ map_list (λ mark. mark.row) marks)) (λ mark found. inr found) marks (mark_row marks))

-- what a tree has at an ino stays there, or a mark of the ino comes over it
pub stays_or_marked : (tree : Rows) (marks : List Mark) (ino : ℕ) (old now : Row) → map.get tree ino ≡ Some old → map.get (rolled tree marks) ino ≡ Some now → (now ≡ old) ⊎ ((mark : Mark) × Contains marks mark × (mark.ino ≡ ino))
stays_or_marked tree [] ino old now before after = inl (some_same (sym after ∙ before))
stays_or_marked tree (mark ∷ marks) ino old now before after = by_ino (λ apart. stays_or_marked (map.insert tree mark.ino mark.row) marks ino old now (get_put-other tree mark.ino mark.row ino apart ∙ before) after) (same_or_other ino mark.ino)
  where
    later : (now ≡ old) ⊎ ((one : Mark) × Contains marks one × (one.ino ≡ ino)) → (now ≡ old) ⊎ ((one : Mark) × Contains (mark ∷ marks) one × (one.ino ≡ ino))
    later (inl same) = inl same
    later (inr found) = inr (found.0, Contains-append_right (mark ∷ []) marks found.0 found.1, found.2)

    by_ino : (ino ≢ mark.ino → (now ≡ old) ⊎ ((one : Mark) × Contains marks one × (one.ino ≡ ino))) → (ino ≡ mark.ino) ⊎ (ino ≢ mark.ino) → (now ≡ old) ⊎ ((one : Mark) × Contains (mark ∷ marks) one × (one.ino ≡ ino))
    by_ino rest (inl same) = inr (mark, first_mark mark marks, sym same)
    by_ino rest (inr other) = later (rest other)

module _ (limits : Limits) (state : State) (proper : IsProperTree limits state.live) (h : IsRolling limits state.live state.base state.marks state.flights state.logged) (fits : All (FitsBase limits state.base) state.marks) (based : IsBased limits state.base state.marks) (row : Row) (there : map.get state.live row.ino ≡ Some row) (none : fallback limits state row ≡ None) where
  regular : row.kind ≡ Regular
  regular = row_regular limits state proper h row there none

  not_root : row.ino ≢ ROOT
  not_root = row_root limits state proper h row there none

  apart : (other : Row) → IsOneOf other (rows_of state.base state.marks) → other.ino ≢ ROOT → other.parent ≡ row.parent → other.name ≡ row.name → other.ino ≡ row.ino
  apart = name_apart limits state proper h row there none

  -- where the base has a row at the ino it is a file's
  file : (old : Row) → map.get state.base row.ino ≡ Some old → old.kind ≡ Regular
  file old before =
      let now = h.kept row.ino old before in
      let kind : now.0.kind ≡ Regular = sym (h.kinds row.ino row now.0 there now.1) ∙ regular in
      by_mark now.0 kind (stays_or_marked state.base state.marks row.ino old now.0 before now.1)
    where
      by_mark : (now : Row) → now.kind ≡ Regular → (now ≡ old) ⊎ ((mark : Mark) × Contains state.marks mark × (mark.ino ≡ row.ino)) → old.kind ≡ Regular
      by_mark now kind (inl same) = ap (λ (r : Row). r.kind) (sym same) ∙ kind
      by_mark now kind (inr over) = (All-contains (FitsBase limits state.base) state.marks over.0 fits over.1).file old (ap (λ i. map.get state.base i) over.2 ∙ before)

  -- the base has the directory
  up : (parent : Row) × (map.get state.base row.parent ≡ Some parent) × (parent.kind ≡ Directory)
  up =
      let before = parent_there limits state proper h row there none in
      let now = h.kept row.parent before.0 before.1 in
      let live = proper.good.parents row.ino row there in
      let kind : now.0.kind ≡ Directory = sym (h.kinds row.parent live.0 now.0 live.1 now.1) ∙ live.2 in
      (before.0, before.1, by_row before.0 now.0 kind before.1 (rolled_row state.base state.marks row.parent now.0 now.1))
    where
      by_row : (before now : Row) → now.kind ≡ Directory → map.get state.base row.parent ≡ Some before → (map.get state.base row.parent ≡ Some now) ⊎ IsOneOf now (map_list (λ mark. mark.row) state.marks) → before.kind ≡ Directory
      by_row before now kind there (inl still) = ap (λ (r : Row). r.kind) (some_same (sym there ∙ still)) ∙ kind
      by_row before now kind there (inr marked) = absurd (kinds_differ (sym (h.regular now marked) ∙ kind))

  free : (ino : ℕ) (other : Row) → map.get state.base ino ≡ Some other → ino ≢ ROOT → other.parent ≡ row.parent → other.name ≡ row.name → ino ≡ row.ino
  free ino other found other_root parent name =
      let keyed = based.whole.good.keyed ino other found in
      let listed = one_of-left other (map.values state.base) (map_list (λ mark. mark.row) state.marks) (value_is_one state.base ino other found) in
      sym keyed ∙ apart other listed (λ root. other_root (sym keyed ∙ root)) parent name

  mark_apart : (mark : Mark) → Contains state.marks mark → mark.row.parent ≡ row.parent → mark.row.name ≡ row.name → mark.ino ≡ row.ino
  mark_apart mark found parent name =
      let keyed = All-contains (λ (mark : Mark). mark.row.ino ≡ mark.ino) state.marks mark based.keyed found in
      let listed = All-contains (λ (mark : Mark). IsOneOf mark.row (map_list (λ mark. mark.row) state.marks)) state.marks mark (mark_row state.marks) found in
      let mark_root = (All-contains (FitsBase limits state.base) state.marks mark fits found).not_root in
      sym keyed ∙ apart mark.row (one_of-right mark.row (map.values state.base) (map_list (λ mark. mark.row) state.marks) listed) (λ root. mark_root (sym keyed ∙ root)) parent name

  -- a file whose fsync rolls forward may be marked
  pub may_be_marked : MayBeMarked limits state.live state.base state.marks row.ino
  may_be_marked = record {
    row = row;
    there = there;
    fits = record {
      not_root = not_root;
      file = file;
      up = up;
      name = proper.good.names row.ino row there not_root;
      free = free;
      pages = proper.good.pages row.ino row there;
    };
    apart = mark_apart;
  }
