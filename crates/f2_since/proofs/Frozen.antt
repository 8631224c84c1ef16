-- Which rows are held: those of the base and of marks, and the live rows of the files in fsync.
use Rattle.std.proofs.Common.{◌≡◌, ◌⊎◌, inl, inr, ℕ, List, [], ◌∷◌, ◌++◌, map as map_list, refl, sym, ap, subst, ◌∙◌, Some, None, Option}
use Rattle.std.specs.List.{filter_map, cons_option, AllByRecursion}
use Rattle.std.specs.Ordering.{nat_cmp}
use Rattle.std.specs.FinMap as map
use Rattle.f2_held.proofs.MapSums.{each_entry}
use Rattle.f2_held.proofs.RowLists.{one_of-left, one_of-right}
use Rattle.f2_held.specs.Recovered.{IsOneOf, IsTakenOf, AreOfOneKind, rows_of}
use Rattle.f2_held.specs.Taken.{Taken}
use Rattle.f2_laws.proofs.Listed.{Has, value_has, mapped_has}
use Rattle.f2_laws.specs.Flights.{IsFrozen}
use Rattle.f2_model.specs.Fallback.{frozen_ino, frozen_inos}
use Rattle.f2_model.specs.State.{State, Flight, Progress, InFsync, InCheck}
use Rattle.f2_model.specs.Tree.{Rows}
use Rattle.f2_model.specs.declared.rows.Row.{Row}
use Rattle.f2_since.proofs.Among.{taken_among}
use Rattle.f2_since.specs.Counted.{held_rows}

pub either : (row : Row) (xs ys : List Row) → IsOneOf row (xs ++ ys) → IsOneOf row xs ⊎ IsOneOf row ys
either row [] ys h = inr h
either row (x ∷ xs) ys (inl e) = inl (inl e)
either row (x ∷ xs) ys (inr h) = more (either row xs ys h)
  where
    more : IsOneOf row xs ⊎ IsOneOf row ys → IsOneOf row (x ∷ xs) ⊎ IsOneOf row ys
    more (inl h) = inl (inr h)
    more (inr h) = inr h

has_row : (row : Row) (xs : List Row) → Has row xs → IsOneOf row xs
has_row row [] h = absurd h
has_row row (x ∷ xs) (inl e) = inl e
has_row row (x ∷ xs) (inr h) = inr (has_row row xs h)

row_has : (row : Row) (xs : List Row) → IsOneOf row xs → Has row xs
row_has row [] h = absurd h
row_has row (x ∷ xs) (inl e) = inl e
row_has row (x ∷ xs) (inr h) = inr (row_has row xs h)

-- what a list is mapped to is what one of it is mapped to
mapped_from : {X Y : Type 0} (f : X → Option Y) (y : Y) (xs : List X) → Has y (filter_map f xs) → (x : X) × Has x xs × (f x ≡ Some y)
mapped_from f y [] h = absurd h
mapped_from f y (x ∷ xs) h = by_value (mapped_from f y xs) (f x) refl h
  where
    by_value : (Has y (filter_map f xs) → (z : _) × Has z xs × (f z ≡ Some y)) → (o : Option _) → f x ≡ o → Has y (cons_option o (filter_map f xs)) → (z : _) × Has z (x ∷ xs) × (f z ≡ Some y)
    by_value rest None is h = let more = rest h in (more.0, inr more.1, more.2)
    by_value rest (Some w) is (inl e) = (x, inl refl, is ∙ ap (λ v. Some v) (sym e))
    by_value rest (Some w) is (inr h) = let more = rest h in (more.0, inr more.1, more.2)

-- and each value of a map stands at a key
value_from : {X : Type 0} (m : map.FinMap nat_cmp X) (x : X) → Has x (map.values m) → (k : ℕ) × (map.get m k ≡ Some x)
value_from m x h = among (map.entries m) (each_entry (λ e. map.get m e.0 ≡ Some e.1) (map.entries m) (map.entries_sorted m) (λ k v f. map.get-entries m k ∙ f)) h
  where
    among : (es : List (ℕ × _)) → AllByRecursion (λ e. map.get m e.0 ≡ Some e.1) es → Has x (map_list (λ e. e.1) es) → (k : ℕ) × (map.get m k ≡ Some x)
    among [] all h = absurd h
    among (e ∷ es) all (inl h) = (e.0, all.0 ∙ ap (λ v. Some v) (sym h))
    among (e ∷ es) all (inr h) = among es all.1 h

in_fsync : (flight : Flight) (ino : ℕ) → frozen_ino flight ≡ Some ino → (progress : Progress) × (flight ≡ InFsync ino progress)
in_fsync (InFsync other progress) ino e = (progress, (let same : other ≡ ino = cc in ap (λ i. InFsync i progress) same))
in_fsync (InCheck plan) ino e = absurd (cc)

abbrev pub frozen_rows : State → List Row
frozen_rows state = filter_map (map.get state.live) (frozen_inos state)

-- a row of a file in fsync
pub frozen_from : (state : State) (row : Row) → IsOneOf row (frozen_rows state) → (ino : ℕ) × IsFrozen state.flights ino × (map.get state.live ino ≡ Some row)
frozen_from state row h =
    let at = mapped_from (map.get state.live) row (frozen_inos state) (row_has row (frozen_rows state) h) in
    let flight = mapped_from frozen_ino at.0 (map.values state.flights) at.1 in
    let seat = value_from state.flights flight.0 flight.1 in
    let fsync = in_fsync flight.0 at.0 flight.2 in
    (at.0, (seat.0, (fsync.0, seat.1 ∙ ap (λ (f : Flight). Some f) fsync.1)), at.2)

pub frozen_to : (state : State) (ino : ℕ) (row : Row) → IsFrozen state.flights ino → map.get state.live ino ≡ Some row → IsOneOf row (frozen_rows state)
frozen_to state ino row frozen there =
    has_row row (frozen_rows state)
    (mapped_has (map.get state.live) ino row (frozen_inos state)
    (mapped_has frozen_ino (InFsync ino frozen.1.0) ino (map.values state.flights) (value_has state.flights frozen.0 (InFsync ino frozen.1.0) frozen.1.1) refl)
    there)

-- a row is held where it is of the base or a mark, or that of a file in fsync
abbrev pub IsHeld : State → Row → Type 0
IsHeld state row = IsOneOf row (rows_of state.base state.marks) ⊎ ((ino : ℕ) × IsFrozen state.flights ino × (map.get state.live ino ≡ Some row))

pub held_from : (state : State) (row : Row) → IsOneOf row (held_rows state) → IsHeld state row
held_from state row h = by_part (either row (rows_of state.base state.marks) (frozen_rows state) h)
  where
    by_part : IsOneOf row (rows_of state.base state.marks) ⊎ IsOneOf row (frozen_rows state) → IsHeld state row
    by_part (inl h) = inl h
    by_part (inr h) = inr (frozen_from state row h)

pub held_to : (state : State) (row : Row) → IsHeld state row → IsOneOf row (held_rows state)
held_to state row (inl h) = one_of-left row (rows_of state.base state.marks) (frozen_rows state) h
held_to state row (inr h) = one_of-right row (rows_of state.base state.marks) (frozen_rows state) (frozen_to state h.0 row h.1 h.2)

-- what was taken in of the rows that a state holds was taken in of those that another one holds, where they are the same
pub held_over : (state after : State) (taken : Taken) → AreOfOneKind (held_rows state) → after.base ≡ state.base
    → ((row : Row) → IsHeld state row → IsHeld after row) → ((row : Row) → IsHeld after row → IsHeld state row)
    → IsTakenOf state.base (held_rows state) taken → IsTakenOf after.base (held_rows after) taken
held_over state after taken kinds base to back is =
    subst (λ (b : Rows). IsTakenOf b (held_rows after) taken) (sym base)
    (taken_among (held_rows state) (held_rows after)
    (λ row h. held_to after row (to row (held_from state row h)))
    (λ row h. held_to state row (back row (held_from after row h)))
    kinds state.base taken is)
