-- What was counted, as names part from rows and come back to them.
use Rattle.std.proofs.Common.{◌≡◌, ◌≢◌, ◌⊎◌, inl, inr, ℕ, Bool, true, false, cond, List, refl, sym, ap, subst, ◌∙◌, Some, None, Option, true≢false}
use Rattle.std.specs.Option.{option_map, unwrap_or}
use Rattle.std.specs.Ordering.{nat_cmp, eq_by_cmp}
use Rattle.std.specs.Cmp.Lexicographic.{slice_cmp, nat_list_cmp_total}
use Rattle.std.specs.FinMap as map
use Rattle.std.specs.FinMap.{get-insert, get-remove, nat_cmp-IsAntisymmetric, slice_cmp-IsAntisymmetric}
use Rattle.std.proofs.lemmas.Bool.{eqb-false, ne_eqb}
use Rattle.std.proofs.lemmas.Cmp.{eq_by_cmp_equiv}
use Rattle.f2_dir.specs.Entries.{Entries}
use Rattle.f2_held.specs.Recovered.{IsOneOf, rows_of}
use Rattle.f2_laws.proofs.Maps.{get_put, get_put-other}
use Rattle.f2_laws.proofs.Places.{same_or_other}
use Rattle.f2_laws.specs.Flights.{Flights, IsFrozen}
use Rattle.f2_model.specs.State.{State}
use Rattle.f2_model.specs.Tree.{ROOT}
use Rattle.f2_model.specs.declared.rows.Kind.{Kind}
use Rattle.f2_model.specs.declared.rows.Row.{Row}
use Rattle.f2_since.proofs.Frozen.{IsHeld, held_over}
use Rattle.f2_since.proofs.Fsyncs.{held_kinds}
use Rattle.f2_since.proofs.Undone.{tied}
use Rattle.f2_since.specs.Counted.{Counted, Parted, IsSince, IsRunning, IsStill, holder, holder_among}
use Rattle.f2_since.specs.Parting.{IsDurable, GoesOn, Parts, Joins, parted_with, without_among, parted_without, is_ino, rejoined}

-- two names are the same or not
abbrev are_same : List ℕ → List ℕ → Bool
are_same a b = eq_by_cmp (slice_cmp nat_cmp) a b

name_tied : (a b : List ℕ) → are_same a b ≡ true → a ≡ b
name_tied a b h = tied {X = ℕ} nat_list_cmp_total (slice_cmp-IsAntisymmetric nat_cmp-IsAntisymmetric) map.empty b a h

names_apart : (a b : List ℕ) → a ≢ b → are_same a b ≡ false
names_apart a b apart = by_test (are_same a b) refl
  where
    by_test : (t : Bool) → are_same a b ≡ t → t ≡ false
    by_test true e = absurd (apart (name_tied a b e))
    by_test false e = refl

same_name : (a : List ℕ) → are_same a a ≡ true
same_name a = (eq_by_cmp_equiv nat_list_cmp_total).refl a

-- a directory and a name are a certain one or not
abbrev IsPlace : ℕ → List ℕ → ℕ → List ℕ → Type 0
IsPlace directory name at called = (at ≡ directory) × (called ≡ name)

place_or_not : (directory : ℕ) (name : List ℕ) (at : ℕ) (called : List ℕ) → IsPlace directory name at called ⊎ (IsPlace directory name at called → ⊥)
place_or_not directory name at called = by_directory (same_or_other at directory)
  where
    by_name : (b : Bool) → are_same called name ≡ b → at ≡ directory → IsPlace directory name at called ⊎ (IsPlace directory name at called → ⊥)
    by_name true e here = inl (here, name_tied called name e)
    by_name false e here = inr (λ place. true≢false (sym (same_name name) ∙ ap (λ n. are_same n name) (sym place.1) ∙ e))

    by_directory : (at ≡ directory) ⊎ (at ≢ directory) → IsPlace directory name at called ⊎ (IsPlace directory name at called → ⊥)
    by_directory (inl here) = by_name (are_same called name) refl here
    by_directory (inr apart) = inr (λ place. apart place.0)

abbrev ino_at : Option (ℕ × Kind) → Option ℕ
ino_at place = option_map (λ p. p.0) place

other_name : (names : Entries) (name : List ℕ) (place : ℕ × Kind) (called : List ℕ) → called ≢ name → map.get (map.insert names name place) called ≡ map.get names called
other_name names name place called apart = get-insert nat_list_cmp_total names name place called ∙ ap (λ b. cond b (Some place) (map.get names called)) (names_apart called name apart)

module _ (parted : Parted) (directory : ℕ) (name : List ℕ) where
  abbrev names_there : Entries
  names_there = unwrap_or (map.get parted directory) map.empty

  module _ (ino : ℕ) (kind : Kind) where
    put_own : holder (parted_with parted directory name (ino, kind)) directory name ≡ Some ino
    put_own =
        ap (holder_among name) (get_put parted directory (map.insert names_there name (ino, kind)))
        ∙ ap ino_at (get-insert nat_list_cmp_total names_there name (ino, kind) name ∙ ap (λ b. cond b (Some (ino, kind)) (map.get names_there name)) (same_name name))

    put_other : (at : ℕ) (called : List ℕ) → (IsPlace directory name at called → ⊥) → holder (parted_with parted directory name (ino, kind)) at called ≡ holder parted at called
    put_other at called apart = by_directory (same_or_other at directory)
      where
        of_names : (o : Option Entries) → ino_at (map.get (unwrap_or o map.empty) called) ≡ holder_among called o
        of_names None = ap ino_at (map.get-empty (slice_cmp nat_cmp) called)
        of_names (Some names) = refl

        by_directory : (at ≡ directory) ⊎ (at ≢ directory) → holder (parted_with parted directory name (ino, kind)) at called ≡ holder parted at called
        by_directory (inl here) =
            ap (λ d. holder (parted_with parted directory name (ino, kind)) d called) here
            ∙ ap (holder_among called) (get_put parted directory (map.insert names_there name (ino, kind)))
            ∙ ap ino_at (other_name names_there name (ino, kind) called (λ same. apart (here, same)))
            ∙ of_names (map.get parted directory)
            ∙ ap (λ d. holder parted d called) (sym here)
        by_directory (inr other) = ap (holder_among called) (get_put-other parted directory (map.insert names_there name (ino, kind)) at other)

  without_own : holder (parted_without parted directory name) directory name ≡ None
  without_own = by_names (map.get parted directory) refl
    where
      by_names : (o : Option Entries) → map.get parted directory ≡ o → holder (without_among parted directory name o) directory name ≡ None
      by_names None e = ap (holder_among name) e
      by_names (Some names) e =
          ap (holder_among name) (get_put parted directory (map.remove names name))
          ∙ ap ino_at (get-remove nat_list_cmp_total names name name ∙ ap (λ b. cond b None (map.get names name)) (same_name name))

  without_other : (at : ℕ) (called : List ℕ) → (IsPlace directory name at called → ⊥) → holder (parted_without parted directory name) at called ≡ holder parted at called
  without_other at called apart = by_names (map.get parted directory) refl
    where
      by_directory : (names : Entries) → map.get parted directory ≡ Some names → (at ≡ directory) ⊎ (at ≢ directory) → holder (without_among parted directory name (Some names)) at called ≡ holder parted at called
      by_directory names e (inl here) =
          ap (λ d. holder (without_among parted directory name (Some names)) d called) here
          ∙ ap (holder_among called) (get_put parted directory (map.remove names name))
          ∙ ap ino_at (get-remove nat_list_cmp_total names name called ∙ ap (λ b. cond b None (map.get names called)) (names_apart called name (λ same. apart (here, same))))
          ∙ ap (holder_among called) (sym e)
          ∙ ap (λ d. holder parted d called) (sym here)
      by_directory names e (inr other) = ap (holder_among called) (get_put-other parted directory (map.remove names name) at other)

      by_names : (o : Option Entries) → map.get parted directory ≡ o → holder (without_among parted directory name o) at called ≡ holder parted at called
      by_names None e = refl
      by_names (Some names) e = by_directory names e (same_or_other at directory)

  module _ (ino : ℕ) where
    rejoin_other : (at : ℕ) (called : List ℕ) → (IsPlace directory name at called → ⊥) → holder (rejoined parted directory name ino) at called ≡ holder parted at called
    rejoin_other at called apart = by_test (is_ino (holder parted directory name) ino)
      where
        by_test : (b : Bool) → holder (cond b (parted_without parted directory name) parted) at called ≡ holder parted at called
        by_test true = without_other at called apart
        by_test false = refl

    rejoin_not : (other : ℕ) → other ≢ ino → holder parted directory name ≡ Some other → holder (rejoined parted directory name ino) directory name ≡ Some other
    rejoin_not other apart had =
        ap (λ o. holder (cond (is_ino o ino) (parted_without parted directory name) parted) directory name) had
        ∙ ap (λ b. holder (cond b (parted_without parted directory name) parted) directory name) (ne_eqb other ino apart)
        ∙ had

    rejoin_only : (other : ℕ) → holder (rejoined parted directory name ino) directory name ≡ Some other → (holder parted directory name ≡ Some other) × (other ≢ ino)
    rejoin_only other found = by_test (is_ino (holder parted directory name) ino) refl found
      where
        by_test : (b : Bool) → is_ino (holder parted directory name) ino ≡ b → holder (cond b (parted_without parted directory name) parted) directory name ≡ Some other → (holder parted directory name ≡ Some other) × (other ≢ ino)
        by_test true e h = let none : None ≡ Some other = sym without_own ∙ h in absurd (cc)
        by_test false e h = (h, eqb-false other ino (ap (λ o. is_ino o ino) (sym h) ∙ e))

same_some : (a b : ℕ) → Some a ≡ Some b → a ≡ b
same_some a b e = cc

-- the rows that count are the same as a tree goes on
module _ (state after : State) (ino directory : ℕ) (name : List ℕ) (on : GoesOn state after ino directory name) where
  durable_same : rows_of after.base after.marks ≡ rows_of state.base state.marks
  durable_same = λ i. rows_of (on.base i) (on.marks i)

  durable_before : (row : Row) → IsDurable after row → IsDurable state row
  durable_before row h = subst (λ rows. IsOneOf row rows) durable_same h

  durable_then : (row : Row) → IsDurable state row → IsDurable after row
  durable_then row h = subst (λ rows. IsOneOf row rows) (sym durable_same) h

  held_then : (row : Row) → IsHeld state row → IsHeld after row
  held_then row (inl h) = inl (durable_then row h)
  held_then row (inr h) = inr (h.0, subst (λ (flights : Flights). IsFrozen flights h.0) (sym on.flights) h.1, on.frozen h.0 h.1 ∙ h.2)

  held_before : (row : Row) → IsHeld after row → IsHeld state row
  held_before row (inl h) = inl (durable_before row h)
  held_before row (inr h) =
      let frozen = subst (λ (flights : Flights). IsFrozen flights h.0) on.flights h.1 in
      inr (h.0, frozen, sym (on.frozen h.0 frozen) ∙ h.2)

module _ (since : Counted) (state after : State) (ino directory : ℕ) (name : List ℕ) (is : IsSince since state) (runs : IsRunning state) where
  pub parts_keep : (kind : Kind) → Parts state after ino directory name → IsSince (record since { parted = parted_with since.parted directory name (ino, kind) }) after
  parts_keep kind parts = record {
    held = held_over state after since.held (held_kinds state runs) on.base (held_then state after ino directory name on) (held_before state after ino directory name on) is.held;
    nodes = is.nodes ∙ sym on.nodes;
    pages = is.pages ∙ sym on.pages;
    parted = λ row h root gone. of_row row (durable_before state after ino directory name on row h) root gone (place_or_not directory name row.parent row.name);
    only = λ at called other found. of_name at called other found (place_or_not directory name at called);
  }
    where
      on : GoesOn state after ino directory name
      on = parts.others

      of_row : (row : Row) → IsDurable state row → row.ino ≢ ROOT → (IsStill after.live row → ⊥) → IsPlace directory name row.parent row.name ⊎ (IsPlace directory name row.parent row.name → ⊥)
          → holder (parted_with since.parted directory name (ino, kind)) row.parent row.name ≡ Some row.ino
      of_row row h root gone (inl here) =
          (λ i. holder (parted_with since.parted directory name (ino, kind)) (here.0 i) (here.1 i))
          ∙ put_own since.parted directory name ino kind
          ∙ ap (λ n. Some n) (sym (parts.alone row h root here.0 here.1))
      of_row row h root gone (inr apart) =
          put_other since.parted directory name ino kind row.parent row.name apart
          ∙ is.parted row h root (λ still. gone (on.stay row h (λ place. apart (place.parent_is, place.name_is)) still))

      of_name : (at : ℕ) (called : List ℕ) (other : ℕ) → holder (parted_with since.parted directory name (ino, kind)) at called ≡ Some other → IsPlace directory name at called ⊎ (IsPlace directory name at called → ⊥)
          → (row : Row) × IsOneOf row (rows_of after.base after.marks) × (row.ino ≡ other) × (other ≢ ROOT) × (row.parent ≡ at) × (row.name ≡ called) × (IsStill after.live row → ⊥)
      of_name at called other found (inl here) =
          let own : other ≡ ino = same_some other ino (sym found ∙ (λ i. holder (parted_with since.parted directory name (ino, kind)) (here.0 i) (here.1 i)) ∙ put_own since.parted directory name ino kind) in
          (parts.had, durable_then state after ino directory name on parts.had parts.durable, parts.was.ino_is ∙ sym own, (λ root. parts.file (sym own ∙ root)), parts.was.parent_is ∙ sym here.0, parts.was.name_is ∙ sym here.1, parts.gone parts.had parts.was)
      of_name at called other found (inr apart) =
          let old = is.only at called other (sym (put_other since.parted directory name ino kind at called apart) ∙ found) in
          (old.0, durable_then state after ino directory name on old.0 old.1, old.2, old.3, old.4, old.5, (λ still. old.6 (on.come old.0 old.1 (λ place. apart (sym old.4 ∙ place.parent_is, sym old.5 ∙ place.name_is)) still)))

  pub joins_keep : Joins state after ino directory name → IsSince (record since { parted = rejoined since.parted directory name ino }) after
  joins_keep joins = record {
    held = held_over state after since.held (held_kinds state runs) on.base (held_then state after ino directory name on) (held_before state after ino directory name on) is.held;
    nodes = is.nodes ∙ sym on.nodes;
    pages = is.pages ∙ sym on.pages;
    parted = λ row h root gone. of_row row (durable_before state after ino directory name on row h) root gone (place_or_not directory name row.parent row.name);
    only = λ at called other found. of_name at called other found (place_or_not directory name at called);
  }
    where
      on : GoesOn state after ino directory name
      on = joins.others

      of_row : (row : Row) → IsDurable state row → row.ino ≢ ROOT → (IsStill after.live row → ⊥) → IsPlace directory name row.parent row.name ⊎ (IsPlace directory name row.parent row.name → ⊥)
          → holder (rejoined since.parted directory name ino) row.parent row.name ≡ Some row.ino
      of_row row h root gone (inl here) =
          let other : row.ino ≢ ino = λ same. gone (joins.there row (record { ino_is = same; parent_is = here.0; name_is = here.1 })) in
          let had = is.parted row h root (λ still. gone (on.stay row h (λ place. other place.ino_is) still)) in
          (λ i. holder (rejoined since.parted directory name ino) (here.0 i) (here.1 i))
          ∙ rejoin_not since.parted directory name ino row.ino other (sym (λ i. holder since.parted (here.0 i) (here.1 i)) ∙ had)
      of_row row h root gone (inr apart) =
          rejoin_other since.parted directory name ino row.parent row.name apart
          ∙ is.parted row h root (λ still. gone (on.stay row h (λ place. apart (place.parent_is, place.name_is)) still))

      of_name : (at : ℕ) (called : List ℕ) (other : ℕ) → holder (rejoined since.parted directory name ino) at called ≡ Some other → IsPlace directory name at called ⊎ (IsPlace directory name at called → ⊥)
          → (row : Row) × IsOneOf row (rows_of after.base after.marks) × (row.ino ≡ other) × (other ≢ ROOT) × (row.parent ≡ at) × (row.name ≡ called) × (IsStill after.live row → ⊥)
      of_name at called other found (inl here) =
          let left = rejoin_only since.parted directory name ino other (sym (λ i. holder (rejoined since.parted directory name ino) (here.0 i) (here.1 i)) ∙ found) in
          let old = is.only directory name other left.0 in
          (old.0, durable_then state after ino directory name on old.0 old.1, old.2, old.3, old.4 ∙ sym here.0, old.5 ∙ sym here.1, (λ still. old.6 (on.come old.0 old.1 (λ place. left.1 (sym old.2 ∙ place.ino_is)) still)))
      of_name at called other found (inr apart) =
          let old = is.only at called other (sym (rejoin_other since.parted directory name ino at called apart) ∙ found) in
          (old.0, durable_then state after ino directory name on old.0 old.1, old.2, old.3, old.4, old.5, (λ still. old.6 (on.come old.0 old.1 (λ place. apart (sym old.4 ∙ place.parent_is, sym old.5 ∙ place.name_is)) still)))
