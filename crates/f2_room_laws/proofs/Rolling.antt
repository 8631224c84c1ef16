-- What each change of an open volume leaves of its rolled tree and of the files in fsync.
use Rattle.std.proofs.Common.{◌≡◌, ◌≢◌, ◌⊎◌, inl, inr, ℕ, Bool, true, false, ◌||◌, List, [], ◌∷◌, ◌++◌, map as map_list, sym, ap, subst, ◌∙◌, true≢false}
use Rattle.std.specs.Prelude.{Some, None}
use Rattle.std.specs.Ordering.{nat_cmp, eq_by_cmp}
use Rattle.std.specs.Cmp.{nat_cmp_total}
use Rattle.std.specs.FinMap as map
use Rattle.std.specs.FinSet as set
use Rattle.f2_model.specs.Tree.{Rows, ROOT, IsGoodTree}
use Rattle.f2_model.specs.State.{Mark, Inos, rolled}
use Rattle.f2_model.specs.declared.bounds.Limits.{Limits}
use Rattle.f2_model.specs.declared.rows.Row.{Row}
use Rattle.f2_model.specs.declared.rows.Kind.TheVariants.{Regular}
use Rattle.f2_laws.proofs.Maps.{get_put, get_put-other}
use Rattle.f2_laws.proofs.Missing.{tied-same}
use Rattle.f2_laws.proofs.Walks.{some_same, some_none}
use Rattle.f2_laws.proofs.Passed.{kinds_differ}
use Rattle.f2_laws.proofs.Places.{same_or_other}
use Rattle.f2_held.specs.Recovered.{IsOneOf}
use Rattle.f2_held.proofs.RowLists.{one_of-left, one_of-right}
use Rattle.f2_room_laws.specs.ProperTrees.{IsProperTree}
use Rattle.f2_room_laws.specs.Marking.{MayComeIn, RowsHaveRoom}
use Rattle.f2_laws.specs.Flights.{Flights, IsFrozen}
use Rattle.f2_room_laws.specs.ProperStates.{IsReady, FilesHaveRoom, IsRolling}
use Rattle.f2_room_laws.proofs.Members.{one_of-either}
use Rattle.f2_room_laws.proofs.Marks.{regular_more, rolled_more, marks_come_in}
use Rattle.f2_room_laws.proofs.Effects.{Keeps}

-- a file in fsync isn't the root
pub no_root : (most : ℕ) (live : Rows) → IsGoodTree most live → (ino : ℕ) (row : Row) → map.get live ino ≡ Some row → row.kind ≡ Regular → ino ≢ ROOT
no_root most live good ino row there kind same =
    let is : row ≡ good.root.0 = some_same (sym there ∙ ap (λ i. map.get live i) same ∙ good.root.1) in
    kinds_differ (sym kind ∙ ap (λ (r : Row). r.kind) is ∙ good.root.2.kind)

module _ (limits : Limits) (live base : Rows) (marks : List Mark) (flights : Flights) (logged : Inos) (h : IsRolling limits live base marks flights logged) where
  -- fewer files are in fsync
  pub rolling_fewer : (left : Flights) → ((ino : ℕ) → IsFrozen left ino → IsFrozen flights ino) → IsRolling limits live base marks left logged
  rolling_fewer left fewer = record {
    whole = h.whole;
    regular = h.regular;
    kept = h.kept;
    known = h.known;
    kinds = h.kinds;
    files = λ ino frozen. h.files ino (fewer ino frozen);
    space = λ ino frozen. (let space = h.space ino (fewer ino frozen) in record { rows = space.rows; room = space.room; frozen = λ at row still there. space.frozen at row (fewer at still) there });
  }

  -- a node joins the log
  pub rolling_logged : (ino : ℕ) → IsRolling limits live base marks flights (set.insert logged ino)
  rolling_logged ino = record {
    whole = h.whole;
    regular = h.regular;
    kept = h.kept;
    known = λ at row there out. h.known at row there (still_out (eq_by_cmp nat_cmp at ino) (set.contains logged at) (sym (set.contains-insert nat_cmp_total logged ino at) ∙ out));
    kinds = h.kinds;
    files = h.files;
    space = h.space;
  }
    where
      still_out : (a b : Bool) → (a || b) ≡ false → b ≡ false
      still_out true b e = absurd (true≢false e)
      still_out false b e = e

  -- the live tree changes, but for the rows of files in fsync
  pub rolling_live : (after : Rows) (adds : Bool) (ino : ℕ) → Keeps live after flights adds ino → (adds ≡ true → map.get base ino ≡ None) → (adds ≡ true → set.contains logged ino ≡ false) → IsRolling limits after base marks flights logged
  rolling_live after adds ino keeps no_base out = record {
    whole = h.whole;
    regular = h.regular;
    kept = h.kept;
    known = h.known;
    kinds = λ at one other there found. kind_of at one other found (keeps.rows at one there);
    files = λ at frozen. (let r = h.files at frozen in record { row = r.row; there = keeps.frozen at frozen ∙ r.there; regular = r.regular; parent = r.parent; free = r.free });
    space = λ at frozen. (let space = h.space at frozen in record { rows = space.rows; room = space.room; frozen = λ i row still there. space.frozen i row still (sym (keeps.frozen i still) ∙ there) });
  }
    where
      kind_of : (at : ℕ) (one other : Row) → map.get (rolled base marks) at ≡ Some other → ((old : Row) × (map.get live at ≡ Some old) × (one.kind ≡ old.kind)) ⊎ ((adds ≡ true) × (at ≡ ino)) → one.kind ≡ other.kind
      kind_of at one other found (inl old) = old.2 ∙ h.kinds at old.0 other old.1 found
      kind_of at one other found (inr new) =
          let before = h.known at other found (ap (set.contains logged) new.1 ∙ out new.0) in
          absurd (some_none (sym before.1 ∙ ap (λ i. map.get base i) new.1 ∙ no_base new.0))

  -- a file in fsync is marked
  module _ (proper : IsProperTree limits live) (ino : ℕ) (row : Row) (frozen : IsFrozen flights ino) (there : map.get live ino ≡ Some row) where
    abbrev mark : Mark
    mark = record { ino = ino; row = row }

    abbrev tree : Rows
    tree = rolled base marks

    ready : IsReady live base tree ino
    ready = h.files ino frozen

    row_is : ready.row ≡ row
    row_is = some_same (sym ready.there ∙ there)

    keyed : row.ino ≡ ino
    keyed = proper.good.keyed ino row there

    regular : row.kind ≡ Regular
    regular = subst (λ (r : Row). r.kind ≡ Regular) row_is ready.regular

    may : MayComeIn limits.size tree row
    may =
        let not_root = no_root limits.size live proper.good ino row there regular in
        let before = ready.parent in
        let now = h.kept row.parent before.0 (ap (λ (r : Row). map.get base r.parent) (sym row_is) ∙ before.1) in
        let up = proper.good.parents ino row there in
        record {
          regular = regular;
          not_root = λ root. not_root (sym keyed ∙ root);
          file = λ old found. sym (h.kinds ino row old there (ap (λ i. map.get tree i) (sym keyed) ∙ found)) ∙ regular;
          up = (now.0, now.1, sym (h.kinds row.parent up.0 now.0 up.1 now.1) ∙ up.2);
          name = proper.good.names ino row there not_root;
          free = λ at other found other_root parent name. ready.free at other found other_root (parent ∙ ap (λ (r : Row). r.parent) (sym row_is)) (name ∙ ap (λ (r : Row). r.name) (sym row_is)) ∙ sym keyed;
          pages = proper.good.pages ino row there;
        }

    -- a row of the marks is one of before or the new one
    marked_row : (ms : List Mark) (one : Row) → IsOneOf one (map_list (λ mark. mark.row) (ms ++ mark ∷ [])) → IsOneOf one (map_list (λ mark. mark.row) ms) ⊎ (one ≡ row)
    marked_row [] one (inl e) = inr e
    marked_row [] one (inr never) = absurd never
    marked_row (m ∷ ms) one (inl e) = inl (inl e)
    marked_row (m ∷ ms) one (inr found) = more (marked_row ms one found)
      where
        more : IsOneOf one (map_list (λ mark. mark.row) ms) ⊎ (one ≡ row) → IsOneOf one (m.row ∷ map_list (λ mark. mark.row) ms) ⊎ (one ≡ row)
        more (inl found) = inl (inr found)
        more (inr e) = inr e

    room_more : (rows : List Row) → RowsHaveRoom limits base marks rows → IsOneOf row rows → RowsHaveRoom limits base (marks ++ mark ∷ []) rows
    room_more rows room among = record {
      nodes = room.nodes;
      data_blocks = room.data_blocks;
      found = λ one found. by_list one (one_of-either one (map.values base) (map_list (λ mark. mark.row) (marks ++ mark ∷ [])) found);
    }
      where
        by_mark : (one : Row) → IsOneOf one (map_list (λ mark. mark.row) marks) ⊎ (one ≡ row) → IsOneOf one rows
        by_mark one (inl found) = room.found one (one_of-right one (map.values base) (map_list (λ mark. mark.row) marks) found)
        by_mark one (inr e) = subst (λ r. IsOneOf r rows) (sym e) among

        by_list : (one : Row) → IsOneOf one (map.values base) ⊎ IsOneOf one (map_list (λ mark. mark.row) (marks ++ mark ∷ [])) → IsOneOf one rows
        by_list one (inl found) = room.found one (one_of-left one (map.values base) (map_list (λ mark. mark.row) marks) found)
        by_list one (inr found) = by_mark one (marked_row marks one found)

    space_more : (at : ℕ) → IsFrozen flights at → FilesHaveRoom limits live base (marks ++ mark ∷ []) flights
    space_more at held =
        let space = h.space at held in
        record { rows = space.rows; room = room_more space.rows space.room (space.frozen ino row frozen there); frozen = space.frozen }

    abbrev more : Rows
    more = rolled base (marks ++ mark ∷ [])

    -- the tree with the mark, at the file's ino and at others
    more_here : map.get more ino ≡ Some row
    more_here = ap (λ t. map.get t ino) (rolled_more base marks mark) ∙ get_put tree ino row

    more_there : (at : ℕ) → at ≢ ino → map.get more at ≡ map.get tree at
    more_there at other = ap (λ t. map.get t at) (rolled_more base marks mark) ∙ get_put-other tree ino row at other

    pub whole_more : IsProperTree limits more
    whole_more = let space = space_more ino frozen in marks_come_in limits base marks mark space.rows h.whole h.regular keyed (proper.numbers ino row there) may space.room

    kept_more : (at : ℕ) (before : Row) → map.get base at ≡ Some before → (now : Row) × (map.get more at ≡ Some now)
    kept_more at before found = by_ino (same_or_other at ino)
      where
        by_ino : (at ≡ ino) ⊎ (at ≢ ino) → (now : Row) × (map.get more at ≡ Some now)
        by_ino (inl same) = (row, ap (λ i. map.get more i) same ∙ more_here)
        by_ino (inr other) = let now = h.kept at before found in (now.0, more_there at other ∙ now.1)

    known_more : (at : ℕ) (one : Row) → map.get more at ≡ Some one → set.contains (set.insert logged ino) at ≡ false → (before : Row) × (map.get base at ≡ Some before)
    known_more at one found out = by_ino (same_or_other at ino)
      where
        in_now : (a b : Bool) → a ≡ true → (a || b) ≡ false → ⊥
        in_now true b t e = true≢false e
        in_now false b t e = true≢false (sym t)

        out_before : (a b : Bool) → (a || b) ≡ false → b ≡ false
        out_before true b e = absurd (true≢false e)
        out_before false b e = e

        out_is : (eq_by_cmp nat_cmp at ino || set.contains logged at) ≡ false
        out_is = sym (set.contains-insert nat_cmp_total logged ino at) ∙ out

        by_ino : (at ≡ ino) ⊎ (at ≢ ino) → (before : Row) × (map.get base at ≡ Some before)
        by_ino (inl same) = absurd (in_now (eq_by_cmp nat_cmp at ino) (set.contains logged at) (ap (λ i. eq_by_cmp nat_cmp i ino) same ∙ tied-same ino) out_is)
        by_ino (inr other) = h.known at one (sym (more_there at other) ∙ found) (out_before (eq_by_cmp nat_cmp at ino) (set.contains logged at) out_is)

    kinds_more : (at : ℕ) (one other : Row) → map.get live at ≡ Some one → map.get more at ≡ Some other → one.kind ≡ other.kind
    kinds_more at one other found after = by_ino (same_or_other at ino)
      where
        by_ino : (at ≡ ino) ⊎ (at ≢ ino) → one.kind ≡ other.kind
        by_ino (inl same) =
            let left : one ≡ row = some_same (sym found ∙ ap (λ i. map.get live i) same ∙ there) in
            let right : other ≡ row = some_same (sym after ∙ ap (λ i. map.get more i) same ∙ more_here) in
            ap (λ (r : Row). r.kind) (left ∙ sym right)
        by_ino (inr apart) = h.kinds at one other found (sym (more_there at apart) ∙ after)

    ready_more : (file : ℕ) → IsFrozen flights file → IsReady live base more file
    ready_more file held =
        let r = h.files file held in
        record { row = r.row; there = r.there; regular = r.regular; parent = r.parent; free = λ at other found other_root parent name. by_ino r at other found other_root parent name (same_or_other at ino) }
      where
        by_ino : (r : IsReady live base tree file) (at : ℕ) (other : Row) → map.get more at ≡ Some other → at ≢ ROOT → other.parent ≡ r.row.parent → other.name ≡ r.row.name → (at ≡ ino) ⊎ (at ≢ ino) → at ≡ file
        by_ino r at other found other_root parent name (inl same) =
            let is : other ≡ row = some_same (sym found ∙ ap (λ i. map.get more i) same ∙ more_here) in
            let file_root = no_root limits.size live proper.good file r.row r.there r.regular in
            proper.good.apart at file row r.row (ap (λ i. map.get live i) same ∙ there) r.there other_root file_root (ap (λ (o : Row). o.parent) (sym is) ∙ parent) (ap (λ (o : Row). o.name) (sym is) ∙ name)
        by_ino r at other found other_root parent name (inr apart) = r.free at other (sym (more_there at apart) ∙ found) other_root parent name

    pub rolling_marked : IsRolling limits live base (marks ++ mark ∷ []) flights (set.insert logged ino)
    rolling_marked = record {
      whole = whole_more;
      regular = regular_more marks mark h.regular regular;
      kept = kept_more;
      known = known_more;
      kinds = kinds_more;
      files = ready_more;
      space = space_more;
    }

-- a checkpoint is done, and no file is in fsync
pub rolling_based : (limits : Limits) (done : Rows) (flights : Flights) (logged : Inos) → IsProperTree limits done → ((ino : ℕ) → IsFrozen flights ino → ⊥) → IsRolling limits done done [] flights logged
rolling_based limits done flights logged proper none = record {
  whole = proper;
  regular = λ row never. absurd never;
  kept = λ ino row there. (row, there);
  known = λ ino row there out. (row, there);
  kinds = λ ino one other there found. ap (λ (r : Row). r.kind) (some_same (sym there ∙ found));
  files = λ ino frozen. absurd (none ino frozen);
  space = λ ino frozen. absurd (none ino frozen);
}
