-- The beginning of an fsync that rolls forward: what its tests say of the file.
use Rattle.std.proofs.Common.{◌≡◌, ◌≢◌, ◌⊎◌, inl, inr, ℕ, ◌+◌, ◌≤◌, Bool, true, false, not, ◌&&◌, ◌||◌, nat_lt, List, [], ◌∷◌, ◌++◌, map as map_list, refl, sym, ap, subst, ◌∙◌, true≢false}
use Rattle.std.specs.Prelude.{Option, Some, None, is_some, if◌then◌else◌, ◌==◌}
use Rattle.std.specs.Bool.{then_some}
use Rattle.std.specs.List.{list_any, filter_map}
use Rattle.std.specs.FinMap as map
use Rattle.std.specs.FinSet as set
use Rattle.std.proofs.lemmas.Bool.{ltb-false, ne_eqb}
use Rattle.f2_model.specs.Tree.{Rows, ROOT, is_directory, stands_at, names_of}
use Rattle.f2_model.specs.State.{State, InFsync, Progress, rolled}
use Rattle.f2_model.specs.Lists.{first_some}
use Rattle.f2_model.specs.Fallback.{sum_of, owed, needed, fallback, is_name_taken, lacks_room, held, recoverable, frozen_inos}
use Rattle.f2_model.specs.declared.bounds.Limits.{Limits}
use Rattle.f2_model.specs.declared.replies.Reason.{Reason}
use Rattle.f2_model.specs.declared.replies.Reason.TheVariants.{NonRegular, Renamed, ParentNew, NameTaken, Shrunk, Room}
use Rattle.f2_model.specs.declared.rows.Row.{Row}
use Rattle.f2_model.specs.declared.rows.Kind.TheVariants.{Regular}
use Rattle.f2_laws.proofs.Passed.{regular, either_false, not_false}
use Rattle.f2_laws.proofs.Names.{stands_true}
use Rattle.f2_laws.proofs.Places.{same_or_other}
use Rattle.f2_held.specs.Recovered.{IsOneOf, rows_of}
use Rattle.f2_held.proofs.RowLists.{one_of-left, one_of-right, value_is_one, rolled_row}
use Rattle.f2_room_laws.specs.ProperTrees.{IsProperTree}
use Rattle.f2_room_laws.specs.Marking.{RowsHaveRoom}
use Rattle.f2_laws.specs.Flights.{Flights, IsFrozen}
use Rattle.f2_laws.proofs.Listed.{Has, has-left, has-right, mapped_has}
use Rattle.f2_laws.proofs.Flying.{frozen_more}
use Rattle.f2_room_laws.specs.ProperStates.{IsReady, IsRolling}
use Rattle.f2_room_laws.proofs.Members.{has_row, frozen_has, none_passes}
use Rattle.f2_room_laws.proofs.Rolling.{no_root}

not_first : (b : Bool) (reason : Reason) (rest : List (Option Reason)) → first_some (then_some b reason ∷ rest) ≡ None → (b ≡ false) × (first_some rest ≡ None)
not_first true reason rest h = absurd (cc)
not_first false reason rest h = (refl, h)

-- the reasons after some of their tests
abbrev after_up : Bool → Bool → Bool → List (Option Reason)
after_up taken cut full = then_some taken NameTaken ∷ then_some cut Shrunk ∷ then_some full Room ∷ []

abbrev all_reasons : Bool → Bool → Bool → Bool → Bool → Bool → List (Option Reason)
all_reasons other away new taken cut full = then_some other NonRegular ∷ then_some away Renamed ∷ then_some new ParentNew ∷ after_up taken cut full

no_reason : (other away new taken cut full : Bool) → first_some (all_reasons other away new taken cut full) ≡ None → (other ≡ false) × (new ≡ false) × (taken ≡ false) × (full ≡ false)
no_reason other away new taken cut full h =
    let file = not_first other NonRegular (then_some away Renamed ∷ then_some new ParentNew ∷ after_up taken cut full) h in
    let still = not_first away Renamed (then_some new ParentNew ∷ after_up taken cut full) file.1 in
    let up = not_first new ParentNew (after_up taken cut full) still.1 in
    let name = not_first taken NameTaken (then_some cut Shrunk ∷ then_some full Room ∷ []) up.1 in
    let whole = not_first cut Shrunk (then_some full Room ∷ []) name.1 in
    let room = not_first full Room [] whole.1 in
    (file.0, up.0, name.0, room.0)

-- each test that the fsync of a row passed
record RollsForward (limits : Limits) (state : State) (row : Row) : Type 0 where
  file : is_directory row.kind ≡ false
  parent : not (map.contains_key state.base row.parent) ≡ false
  name_free : is_name_taken state row ≡ false
  room : lacks_room limits state row.ino ≡ false

rolls : (limits : Limits) (state : State) (row : Row) → fallback limits state row ≡ None → RollsForward limits state row
rolls limits state row h =
    let tests =
    no_reason (is_directory row.kind) (set.contains state.moved row.ino) (not (map.contains_key state.base row.parent)) (is_name_taken state row) (set.contains state.shrunk row.ino) (lacks_room limits state row.ino) h
    in
    record { file = tests.0; parent = tests.1; name_free = tests.2; room = tests.3 }

-- and what it may have to write fits beside what was written and is owed
pub writes_left : (limits : Limits) (state : State) (row : Row) → fallback limits state row ≡ None → (state.node_writes + (owed state).nodes + (needed state row.ino).nodes ≤ limits.nodes) × (state.data_writes + (owed state).pages + (needed state row.ino).pages ≤ limits.data_blocks)
writes_left limits state row none =
    let writes = sum_of (sum_of (record { nodes = state.node_writes; pages = state.data_writes }) (owed state)) (needed state row.ino) in
    let data_room = either_false _ (nat_lt limits.data_blocks (held state row.ino).pages) (rolls limits state row none).room in
    let node_room = either_false _ (nat_lt limits.nodes (held state row.ino).nodes) data_room.0 in
    let both = either_false (nat_lt limits.nodes writes.nodes) (nat_lt limits.data_blocks writes.pages) node_room.0 in
    (ltb-false limits.nodes writes.nodes both.0, ltb-false limits.data_blocks writes.pages both.1)

some_there : (o : Option Row) → is_some o ≡ true → (row : Row) × (o ≡ Some row)
some_there None e = absurd (true≢false (sym e))
some_there (Some row) e = (row, refl)

module _ (limits : Limits) (state : State) (proper : IsProperTree limits state.live) (h : IsRolling limits state.live state.base state.marks state.flights state.logged) (row : Row) (there : map.get state.live row.ino ≡ Some row) (none : fallback limits state row ≡ None) where
  tests : RollsForward limits state row
  tests = rolls limits state row none

  abbrev tree_now : Rows
  tree_now = rolled state.base state.marks

  abbrev known_rows : List Row
  known_rows = rows_of state.base state.marks

  pub row_regular : row.kind ≡ Regular
  row_regular = regular row.kind tests.file

  pub row_root : row.ino ≢ ROOT
  row_root = no_root limits.size state.live proper.good row.ino row there row_regular

  -- the test of a row that may have the name
  abbrev takes_name : Row → Bool
  takes_name other = not (other.ino == row.ino) && list_any (λ at. stands_at at.0 at.1 other) (names_of row)

  name_taken : (other : Row) → other.ino ≢ row.ino → other.ino ≢ ROOT → other.parent ≡ row.parent → other.name ≡ row.name → takes_name other ≡ true
  name_taken other apart other_root parent name =
      ap (λ b. not b && list_any (λ (at : ℕ × List ℕ). stands_at at.0 at.1 other) (names_of row)) (ne_eqb other.ino row.ino apart)
      ∙ ap (λ b. list_any (λ (at : ℕ × List ℕ). stands_at at.0 at.1 other) (if b then [] else ((row.parent, row.name) ∷ []))) (ne_eqb row.ino ROOT row_root)
      ∙ ap (λ b. b || false) (stands_true row.parent row.name other other_root parent name)

  -- no row of the base or of a mark at another ino has the name
  pub name_apart : (other : Row) → IsOneOf other known_rows → other.ino ≢ ROOT → other.parent ≡ row.parent → other.name ≡ row.name → other.ino ≡ row.ino
  name_apart other listed other_root parent name = by_ino (same_or_other other.ino row.ino)
    where
      by_ino : (other.ino ≡ row.ino) ⊎ (other.ino ≢ row.ino) → other.ino ≡ row.ino
      by_ino (inl same) = same
      by_ino (inr apart) = absurd (true≢false (sym (name_taken other apart other_root parent name) ∙ none_passes takes_name other known_rows tests.name_free listed))

  free : (at : ℕ) (other : Row) → map.get tree_now at ≡ Some other → at ≢ ROOT → other.parent ≡ row.parent → other.name ≡ row.name → at ≡ row.ino
  free at other found other_root parent name = sym keyed ∙ name_apart other (listed (rolled_row state.base state.marks at other found)) (λ root. other_root (sym keyed ∙ root)) parent name
    where
      keyed : other.ino ≡ at
      keyed = h.whole.good.keyed at other found

      listed : (map.get state.base at ≡ Some other) ⊎ IsOneOf other (map_list (λ mark. mark.row) state.marks) → IsOneOf other known_rows
      listed (inl e) = one_of-left other (map.values state.base) (map_list (λ mark. mark.row) state.marks) (value_is_one state.base at other e)
      listed (inr e) = one_of-right other (map.values state.base) (map_list (λ mark. mark.row) state.marks) e

  -- the base has the directory
  pub parent_there : (up : Row) × (map.get state.base row.parent ≡ Some up)
  parent_there = some_there (map.get state.base row.parent) (not_false (map.contains_key state.base row.parent) tests.parent)

  ready : IsReady state.live state.base tree_now row.ino
  ready = record { row = row; there = there; regular = row_regular; parent = parent_there; free = free }

  module _ (seat : ℕ) (progress : Progress) where
    abbrev flights_more : Flights
    flights_more = map.insert state.flights seat (InFsync row.ino progress)

    abbrev rows_more : List Row
    rows_more = recoverable state row.ino

    listed_more : (at : ℕ) (one : Row) → IsFrozen flights_more at → map.get state.live at ≡ Some one → IsOneOf one rows_more
    listed_more at one frozen found =
        one_of-right one known_rows (filter_map (map.get state.live) (frozen_inos state ++ row.ino ∷ []))
        (has_row one (filter_map (map.get state.live) (frozen_inos state ++ row.ino ∷ [])) (mapped_has (map.get state.live) at one (frozen_inos state ++ row.ino ∷ []) (ino_listed (frozen_more state.flights seat row.ino progress at frozen)) found))
      where
        ino_listed : (at ≡ row.ino) ⊎ IsFrozen state.flights at → Has at (frozen_inos state ++ row.ino ∷ [])
        ino_listed (inl same) = has-right at (frozen_inos state) (row.ino ∷ []) (inl same)
        ino_listed (inr before) = has-left at (frozen_inos state) (row.ino ∷ []) (frozen_has state.flights at before)

    known_listed : (one : Row) → IsOneOf one known_rows → IsOneOf one rows_more
    known_listed one found = one_of-left one known_rows (filter_map (map.get state.live) (frozen_inos state ++ row.ino ∷ [])) found

    -- the last two tests of the room
    room_found : RowsHaveRoom limits state.base state.marks rows_more
    room_found =
        let data_room = either_false _ (nat_lt limits.data_blocks (held state row.ino).pages) tests.room in
        let node_room = either_false _ (nat_lt limits.nodes (held state row.ino).nodes) data_room.0 in
        record { nodes = ltb-false limits.nodes (held state row.ino).nodes node_room.1; data_blocks = ltb-false limits.data_blocks (held state row.ino).pages data_room.1; found = known_listed }

    pub rolling_begun : IsRolling limits state.live state.base state.marks flights_more state.logged
    rolling_begun = record {
      whole = h.whole;
      regular = h.regular;
      kept = h.kept;
      known = h.known;
      kinds = h.kinds;
      files = λ at frozen. ready_at at (frozen_more state.flights seat row.ino progress at frozen);
      space = λ at frozen. record { rows = rows_more; room = room_found; frozen = listed_more };
    }
      where
        ready_at : (at : ℕ) → (at ≡ row.ino) ⊎ IsFrozen state.flights at → IsReady state.live state.base tree_now at
        ready_at at (inl same) = subst (IsReady state.live state.base tree_now) (sym same) ready
        ready_at at (inr before) = h.files at before
