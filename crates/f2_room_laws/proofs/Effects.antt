-- What a call that takes effect leaves of the rows, and that the tree stays proper.
use Rattle.std.proofs.Common.{◌≡◌, ◌≢◌, ◌⊎◌, inl, inr, ℕ, ◌≤◌, Bool, true, false, List, [], ◌∷◌, nat_lt, refl, sym, ap, subst, ◌∙◌}
use Rattle.std.specs.Prelude.{Some, None, Result, Ok, Err, if◌then◌else◌}
use Rattle.std.specs.Bool.{then_some}
use Rattle.std.specs.FinMap as map
use Rattle.std.proofs.lemmas.Bool.{ltb-false}
use Rattle.f2_model.specs.Content.{put_pieces, raised_size, cut_pages}
use Rattle.f2_model.specs.Tree.{Rows, IsGoodTree, is_directory, walk, parent_path, last_name}
use Rattle.f2_model.specs.Count.{nodes_of_tree, data_of_tree}
use Rattle.f2_model.specs.Call.{refusal, effect, on_row, new_row, to_directory, walk_parent, refusal_of, space_refusal}
use Rattle.f2_model.specs.Lists.{first_some}
use Rattle.f2_model.specs.State.{State}
use Rattle.f2_model.specs.Step.{adds_row, freezing, freezing_walked}
use Rattle.f2_model.specs.declared.bounds.Limits.{Limits}
use Rattle.f2_model.specs.declared.rows.Row.{Row}
use Rattle.f2_model.specs.declared.rows.Kind.{Kind}
use Rattle.f2_model.specs.declared.rows.Kind.TheVariants.{Regular, Directory}
use Rattle.f2_model.specs.declared.requests.Request.{Request}
use Rattle.f2_model.specs.declared.requests.Request.TheVariants.{Create, Mkdir, Write, Truncate, Unlink, Rmdir, Rename, Read, List as ListNames, Fsync, Sync}
use Rattle.f2_model.specs.declared.replies.Reply.{Reply}
use Rattle.f2_model.specs.declared.replies.Reply.TheVariants.{NotDir, NoSpace}
use Rattle.f2_model.specs.declared.replies.Space.TheVariants.{Node, Data}
use Rattle.f2_laws.proofs.Maps.{get_put, get_put-other, get_taken, get_taken-other}
use Rattle.f2_laws.proofs.Walks.{some_same, some_none, walk_ends}
use Rattle.f2_laws.proofs.Passed.{Passed, passed, none_first, walk_ok, directory_ok, kinds_differ}
use Rattle.f2_laws.proofs.Places.{same_or_other}
use Rattle.f2_laws.proofs.Calls.{effect_good}
use Rattle.f2_room_laws.specs.ProperTrees.{IsNumber, IsProperTree}
use Rattle.f2_laws.specs.Flights.{Flights, IsFrozen}
use Rattle.f2_laws.proofs.Seats.{not_frozen}

-- the rows of files in fsync stay, and each row is of the kind that one had at its ino, or is a new one
pub record Keeps (live after : Rows) (flights : Flights) (adds : Bool) (ino : ℕ) : Type 0 where
  pub frozen : (at : ℕ) → IsFrozen flights at → map.get after at ≡ map.get live at
  pub rows : (at : ℕ) (row : Row) → map.get after at ≡ Some row → ((old : Row) × (map.get live at ≡ Some old) × (row.kind ≡ old.kind)) ⊎ ((adds ≡ true) × (at ≡ ino))

module _ (live : Rows) (flights : Flights) (adds : Bool) (ino : ℕ) where
  keeps_all : Keeps live live flights adds ino
  keeps_all = record { frozen = λ at frozen. refl; rows = λ at row there. inl (row, there, refl) }

  module _ (place : ℕ) (thawed : IsFrozen flights place → ⊥) where
    elsewhere : (at : ℕ) → IsFrozen flights at → at ≢ place
    elsewhere at frozen same = thawed (subst (IsFrozen flights) same frozen)

    keeps_put : (old put : Row) → map.get live place ≡ Some old → put.kind ≡ old.kind → Keeps live (map.insert live place put) flights adds ino
    keeps_put old put there kind = record {
      frozen = λ at frozen. get_put-other live place put at (elsewhere at frozen);
      rows = λ at row found. by_place at row found (same_or_other at place);
    }
      where
        by_place : (at : ℕ) (row : Row) → map.get (map.insert live place put) at ≡ Some row → (at ≡ place) ⊎ (at ≢ place) → ((old : Row) × (map.get live at ≡ Some old) × (row.kind ≡ old.kind)) ⊎ ((adds ≡ true) × (at ≡ ino))
        by_place at row found (inl same) =
            let is : put ≡ row = some_same (sym (get_put live place put) ∙ ap (λ i. map.get (map.insert live place put) i) (sym same) ∙ found) in
            inl (old, ap (λ i. map.get live i) same ∙ there, ap (λ (r : Row). r.kind) (sym is) ∙ kind)
        by_place at row found (inr other) = inl (row, sym (get_put-other live place put at other) ∙ found, refl)

    keeps_rest : Keeps live (map.remove live place) flights adds ino
    keeps_rest = record {
      frozen = λ at frozen. get_taken-other live place at (elsewhere at frozen);
      rows = λ at row found. by_place at row found (same_or_other at place);
    }
      where
        by_place : (at : ℕ) (row : Row) → map.get (map.remove live place) at ≡ Some row → (at ≡ place) ⊎ (at ≢ place) → ((old : Row) × (map.get live at ≡ Some old) × (row.kind ≡ old.kind)) ⊎ ((adds ≡ true) × (at ≡ ino))
        by_place at row found (inl same) = absurd (some_none (sym found ∙ ap (λ i. map.get (map.remove live place) i) same ∙ get_taken live place))
        by_place at row found (inr other) = inl (row, sym (get_taken-other live place at other) ∙ found, refl)

  keeps_with : (IsFrozen flights ino → ⊥) → adds ≡ true → (put : Row) → Keeps live (map.insert live ino put) flights adds ino
  keeps_with thawed adding put = record {
    frozen = λ at frozen. get_put-other live ino put at (elsewhere ino thawed at frozen);
    rows = λ at row found. by_place at row found (same_or_other at ino);
  }
    where
      by_place : (at : ℕ) (row : Row) → map.get (map.insert live ino put) at ≡ Some row → (at ≡ ino) ⊎ (at ≢ ino) → ((old : Row) × (map.get live at ≡ Some old) × (row.kind ≡ old.kind)) ⊎ ((adds ≡ true) × (at ≡ ino))
      by_place at row found (inl same) = inr (adding, same)
      by_place at row found (inr other) = inl (row, sym (get_put-other live ino put at other) ∙ found, refl)

module _ (limits : Limits) (state : State) (good : IsGoodTree limits.size state.live) where
  -- the row at the end of a walk that no seat keeps off isn't in fsync
  thawed_row : (end : Result Row Reply) (row : Row) → end ≡ Ok row → freezing_walked state end ≡ None → IsFrozen state.flights row.ino → ⊥
  thawed_row end row e none = not_frozen state row.ino (sym (ap (freezing_walked state) e) ∙ none)

  module _ (frozen_row : (ino : ℕ) → IsFrozen state.flights ino → (row : Row) × (map.get state.live ino ≡ Some row) × (row.kind ≡ Regular)) (ino : ℕ) where
    abbrev Kept : Bool → Rows → Type 0
    Kept adds after = Keeps state.live after state.flights adds ino

    fresh : map.get state.live ino ≡ None → IsFrozen state.flights ino → ⊥
    fresh none frozen = let r = frozen_row ino frozen in some_none (sym r.1 ∙ none)

    added : (kind : Kind) (path : List (List ℕ)) → map.get state.live ino ≡ None → refusal_of (to_directory (walk state.live (parent_path path))) ≡ None → Kept true (on_row state.live (walk_parent state.live path) (λ up. map.insert state.live ino (new_row kind ino up.ino (last_name path))))
    added kind path none walks =
        let end = directory_ok (walk state.live (parent_path path)) walks in
        subst (λ o. Kept true (on_row state.live (to_directory o) (λ up. map.insert state.live ino (new_row kind ino up.ino (last_name path))))) (sym end.1)
        (subst (λ k. Kept true (on_row state.live (if is_directory k then Ok end.0 else Err NotDir) (λ up. map.insert state.live ino (new_row kind ino up.ino (last_name path))))) (sym end.2)
        (keeps_with state.live state.flights true ino (fresh none) refl (new_row kind ino end.0.ino (last_name path))))

    -- a change of the row at the end of a walk
    changed : (path : List (List ℕ)) (change : Row → Row) → ((row : Row) → (change row).kind ≡ row.kind) → refusal_of (walk state.live path) ≡ None → freezing_walked state (walk state.live path) ≡ None → Kept false (on_row state.live (walk state.live path) (λ row. map.insert state.live row.ino (change row)))
    changed path change kind walks thawed =
        let end = walk_ok (walk state.live path) walks in
        let there = (walk_ends limits.size state.live good path end.0 end.1).there in
        subst (λ o. Kept false (on_row state.live o (λ row. map.insert state.live row.ino (change row)))) (sym end.1)
        (keeps_put state.live state.flights false ino end.0.ino (thawed_row (walk state.live path) end.0 end.1 thawed) end.0 (change end.0) there (kind end.0))

    unlinked : (path : List (List ℕ)) → refusal_of (walk state.live path) ≡ None → freezing_walked state (walk state.live path) ≡ None → Kept false (on_row state.live (walk state.live path) (λ row. map.remove state.live row.ino))
    unlinked path walks thawed =
        let end = walk_ok (walk state.live path) walks in
        subst (λ o. Kept false (on_row state.live o (λ row. map.remove state.live row.ino))) (sym end.1)
        (keeps_rest state.live state.flights false ino end.0.ino (thawed_row (walk state.live path) end.0 end.1 thawed))

    -- a directory isn't in fsync
    emptied : (path : List (List ℕ)) → refusal_of (to_directory (walk state.live path)) ≡ None → Kept false (on_row state.live (walk state.live path) (λ row. map.remove state.live row.ino))
    emptied path walks =
        let end = directory_ok (walk state.live path) walks in
        let there = (walk_ends limits.size state.live good path end.0 end.1).there in
        let thawed : IsFrozen state.flights end.0.ino → ⊥ = λ frozen. (let r = frozen_row end.0.ino frozen in kinds_differ (sym r.2 ∙ ap (λ (row : Row). row.kind) (some_same (sym r.1 ∙ there)) ∙ end.2)) in
        subst (λ o. Kept false (on_row state.live o (λ row. map.remove state.live row.ino))) (sym end.1)
        (keeps_rest state.live state.flights false ino end.0.ino thawed)

    moved : (from to : List (List ℕ)) → refusal_of (walk state.live from) ≡ None → refusal_of (walk_parent state.live to) ≡ None → freezing_walked state (walk state.live from) ≡ None → Kept false (effect state.live (Rename from to) ino)
    moved from to walks parent thawed =
        let up = walk_ok (walk_parent state.live to) parent in
        subst (λ o. Kept false (on_row state.live (walk state.live from) (λ (row : Row). on_row state.live o (λ (one : Row). map.insert state.live row.ino (record row { parent = one.ino; name = last_name to }))))) (sym up.1)
        (changed from (λ row. record row { parent = up.0.ino; name = last_name to }) (λ row. refl) walks thawed)

    pub effect_keeps : (request : Request) → (adds_row request ≡ true → map.get state.live ino ≡ None) → Passed limits state.live request → freezing state request ≡ None → Kept (adds_row request) (effect state.live request ino)
    effect_keeps (Create path) new h thawed = added Regular path (new refl) h.walks
    effect_keeps (Mkdir path) new h thawed = added Directory path (new refl) h.walks
    effect_keeps (Write path pieces) new h thawed = changed path (λ row. record row { size = raised_size row.size pieces; pages = put_pieces row.pages pieces }) (λ row. refl) h.walks thawed
    effect_keeps (Truncate path size) new h thawed = changed path (λ row. record row { size = size; pages = cut_pages row.pages size }) (λ row. refl) h.walks thawed
    effect_keeps (Unlink path) new h thawed = unlinked path h.walks thawed
    effect_keeps (Rmdir path) new h thawed = emptied path h.walks
    effect_keeps (Rename from to) new h thawed =
        let walks = none_first (refusal_of (walk state.live from)) _ h.walks in
        let parent = none_first (refusal_of (walk_parent state.live to)) _ walks.1 in
        moved from to walks.0 parent.0 thawed
    effect_keeps (Read path off len) new h thawed = keeps_all state.live state.flights false ino
    effect_keeps (ListNames path) new h thawed = keeps_all state.live state.flights false ino
    effect_keeps (Fsync path) new h thawed = keeps_all state.live state.flights false ino
    effect_keeps Sync new h thawed = keeps_all state.live state.flights false ino

-- a tree for which there is no want of space fits
pub fits_nodes : (limits : Limits) (tree : Rows) → space_refusal limits tree ≡ None → nodes_of_tree tree ≤ limits.nodes
fits_nodes limits tree h = by_test (nat_lt limits.nodes (nodes_of_tree tree)) refl h
  where
    by_test : (b : Bool) → nat_lt limits.nodes (nodes_of_tree tree) ≡ b → first_some (then_some b (NoSpace Node (nodes_of_tree tree) limits.nodes) ∷ then_some (nat_lt limits.data_blocks (data_of_tree tree)) (NoSpace Data (data_of_tree tree) limits.data_blocks) ∷ []) ≡ None → nodes_of_tree tree ≤ limits.nodes
    by_test true e h = absurd (some_none h)
    by_test false e h = ltb-false limits.nodes (nodes_of_tree tree) e

pub fits_data : (limits : Limits) (tree : Rows) → space_refusal limits tree ≡ None → data_of_tree tree ≤ limits.data_blocks
fits_data limits tree h = by_test (nat_lt limits.data_blocks (data_of_tree tree)) refl (none_first (then_some (nat_lt limits.nodes (nodes_of_tree tree)) (NoSpace Node (nodes_of_tree tree) limits.nodes)) _ h).1
  where
    by_test : (b : Bool) → nat_lt limits.data_blocks (data_of_tree tree) ≡ b → first_some (then_some b (NoSpace Data (data_of_tree tree) limits.data_blocks) ∷ []) ≡ None → data_of_tree tree ≤ limits.data_blocks
    by_test true e h = absurd (some_none h)
    by_test false e h = ltb-false limits.data_blocks (data_of_tree tree) e

-- a call that isn't refused leaves a proper tree
pub effect_proper : (limits : Limits) (live : Rows) (flights : Flights) (request : Request) (ino : ℕ) → IsProperTree limits live → refusal limits live request ≡ None → (adds_row request ≡ true → map.get live ino ≡ None) → (adds_row request ≡ true → IsNumber limits ino) → space_refusal limits (effect live request ino) ≡ None → Keeps live (effect live request ino) flights (adds_row request) ino → IsProperTree limits (effect live request ino)
effect_proper limits live flights request ino proper none new number space keeps = record {
  good = effect_good limits live proper.good request ino (λ adds. new adds) (passed limits live request none);
  numbers = λ at row there. by_row at row (keeps.rows at row there);
  nodes = fits_nodes limits (effect live request ino) space;
  data_blocks = fits_data limits (effect live request ino) space;
}
  where
    by_row : (at : ℕ) (row : Row) → ((old : Row) × (map.get live at ≡ Some old) × (row.kind ≡ old.kind)) ⊎ ((adds_row request ≡ true) × (at ≡ ino)) → IsNumber limits at
    by_row at row (inl old) = proper.numbers at old.0 old.1
    by_row at row (inr same) = subst (IsNumber limits) (sym same.1) (number same.0)
