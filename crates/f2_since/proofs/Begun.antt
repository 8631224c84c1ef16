-- What was counted, as an fsync begins.
use Rattle.std.proofs.Common.{◌≡◌, ◌≢◌, ◌⊎◌, inl, inr, ℕ, true, [], ◌∷◌, ◌++◌, sym, ap, subst, ◌∙◌, Some, None}
use Rattle.std.specs.FinMap as map
use Rattle.f2_files.specs.Known.{Known, IsKnownOf}
use Rattle.f2_files.specs.declared.shapes.Shape.{Shape}
use Rattle.f2_format.specs.Offsets.{node_count}
use Rattle.f2_held.proofs.RowLists.{one_of-left, one_of-right}
use Rattle.f2_held.specs.Recovered.{IsOneOf}
use Rattle.f2_held.specs.Taken.{Taken, raised, bound}
use Rattle.f2_laws.proofs.Flying.{frozen_more}
use Rattle.f2_laws.proofs.Maps.{get_put, get_put-other}
use Rattle.f2_laws.specs.Flights.{IsFrozen}
use Rattle.f2_model.specs.Fallback.{Both}
use Rattle.f2_model.specs.Goes.{with_progress}
use Rattle.f2_model.specs.State.{State, Progress, InFsync}
use Rattle.f2_model.specs.declared.rows.Kind.TheVariants.{Regular}
use Rattle.f2_model.specs.declared.rows.Row.{Row}
use Rattle.f2_since.proofs.Among.{taken_among}
use Rattle.f2_since.proofs.Frozen.{either, IsHeld, held_from, held_to}
use Rattle.f2_since.proofs.Holding.{of_one_kind, row_of, shape_of, size_same, taken_with, with_this}
use Rattle.f2_since.specs.Counted.{Counted, IsSince, IsRunning, held_rows}

module _ (since : Counted) (state : State) (row : Row) (is : IsSince since state) (runs : IsRunning state) (there : map.get state.live row.ino ≡ Some row) (regular : row.kind ≡ Regular) (seat : ℕ) (progress : Progress) (free : map.get state.flights seat ≡ None) where
  abbrev after : State
  after = with_progress state seat row.ino progress

  other_seat : (at ino : ℕ) (next : Progress) → map.get state.flights at ≡ Some (InFsync ino next) → at ≢ seat
  other_seat at ino next found same = let both : None ≡ Some (InFsync ino next) = sym free ∙ ap (map.get state.flights) (sym same) ∙ found in absurd (cc)

  to : (one : Row) → IsOneOf one (held_rows state ++ row ∷ []) → IsOneOf one (held_rows after)
  to one h = held_to after one (by_part (either one (held_rows state) (row ∷ []) h))
    where
      still : IsHeld state one → IsHeld after one
      still (inl h) = inl h
      still (inr h) = inr (h.0, (h.1.0, (h.1.1.0, get_put-other state.flights seat (InFsync row.ino progress) h.1.0 (other_seat h.1.0 h.0 h.1.1.0 h.1.1.1) ∙ h.1.1.1)), h.2)

      by_part : IsOneOf one (held_rows state) ⊎ IsOneOf one (row ∷ []) → IsHeld after one
      by_part (inl h) = still (held_from state one h)
      by_part (inr (inl e)) = inr (row.ino, (seat, (progress, get_put state.flights seat (InFsync row.ino progress))), there ∙ ap (λ (r : Row). Some r) (sym e))
      by_part (inr (inr h)) = absurd h

  same_row : (a b : Row) → Some a ≡ Some b → a ≡ b
  same_row a b e = cc

  back : (one : Row) → IsOneOf one (held_rows after) → IsOneOf one (held_rows state ++ row ∷ [])
  back one h = by_part (held_from after one h)
    where
      by_ino : (at : ℕ) → map.get state.live at ≡ Some one → (at ≡ row.ino) ⊎ IsFrozen state.flights at → IsOneOf one (held_rows state ++ row ∷ [])
      by_ino at found (inl same) = one_of-right one (held_rows state) (row ∷ []) (inl (same_row one row (sym found ∙ ap (map.get state.live) same ∙ there)))
      by_ino at found (inr frozen) = one_of-left one (held_rows state) (row ∷ []) (held_to state one (inr (at, frozen, found)))

      by_part : IsHeld after one → IsOneOf one (held_rows state ++ row ∷ [])
      by_part (inl h) = one_of-left one (held_rows state) (row ∷ []) (held_to state one (inl h))
      by_part (inr h) = by_ino h.0 h.2 (frozen_more state.flights seat row.ino progress h.0 h.1)

  begun_row : map.contains_key since.held.directories row.parent ≡ true → IsSince (record since { held = with_this since state row is runs there regular }) after
  begun_row open_there = record {
    held = taken_among (held_rows state ++ row ∷ []) (held_rows after) to back (of_one_kind since state row is runs there regular) state.base _ (taken_with since state row is runs there regular open_there);
    nodes = is.nodes;
    pages = is.pages;
    parted = is.parted;
    only = is.only;
  }

-- a file of a shape comes in as its row does
pub begun : (since : Counted) (files : Known) (state : State) (shape : Shape) (seat : ℕ) (progress : Progress) (size : Both) (taken : Taken)
    → IsKnownOf files state → IsSince since state → IsRunning state
    → map.get files.shapes shape.ino ≡ Some shape → shape.kind ≡ Regular → map.get state.flights seat ≡ None
    → map.contains_key since.held.directories shape.parent ≡ true
    → size.nodes ≡ node_count (map.keys shape.pages) → size.pages ≡ map.len shape.pages
    → taken ≡ record { files = raised since.held.files shape.ino size; directories = bound since.held.directories shape.parent shape.name }
    → IsSince (record since { held = taken }) (with_progress state seat shape.ino progress)
begun since files state shape seat progress size taken known is runs at kind free open_there nodes pages taken_is =
    let found = row_of files state shape.ino shape known at in
    let row : Row = found.0 in
    let alike = shape_of files state shape.ino shape known at row found.1 in
    let there = ap (map.get state.live) (sym alike.ino) ∙ found.1 in
    let regular = sym alike.kind ∙ kind in
    let same = size_same shape row alike regular size nodes pages in
    let held : taken ≡ with_this since state row is runs there regular =
    taken_is ∙ (λ i. record { files = raised since.held.files (alike.ino i) (same i); directories = bound since.held.directories (alike.parent i) (alike.name i) }) in
    subst (λ (ino : ℕ). IsSince (record since { held = taken }) (with_progress state seat ino progress)) (sym alike.ino)
    (subst (λ (t : Taken). IsSince (record since { held = t }) (with_progress state seat row.ino progress)) (sym held)
    (begun_row since state row is runs there regular seat progress free (ap (map.contains_key since.held.directories) (sym alike.parent) ∙ open_there)))
