-- What was counted, along the events of an fsync.
use Rattle.std.proofs.Common.{◌≡◌, ◌≢◌, ◌⊎◌, inl, inr, ℕ, ◌+◌, List, [], ◌∷◌, ◌++◌, map as map_list, refl, sym, ap, subst, ◌∙◌, Some}
use Rattle.std.specs.FinMap as map
use Rattle.f2_held.proofs.RowLists.{one_of-left, one_of-right}
use Rattle.f2_held.specs.Recovered.{IsOneOf, AreOfOneKind, rows_of}
use Rattle.f2_laws.proofs.Flying.{frozen_left, frozen_part}
use Rattle.f2_laws.proofs.Maps.{get_put, get_put-other, get_taken-other}
use Rattle.f2_laws.proofs.Places.{same_or_other}
use Rattle.f2_laws.specs.Flights.{IsFrozen}
use Rattle.f2_model.specs.Goes.{with_progress, mark_drawn, node_drawn, node_logged}
use Rattle.f2_model.specs.State.{State, Mark, Progress, InFsync}
use Rattle.f2_model.specs.Tree.{ROOT}
use Rattle.f2_model.specs.Turns.{without_call}
use Rattle.f2_model.specs.declared.rows.Row.{Row}
use Rattle.f2_since.proofs.Frozen.{either, IsHeld, held_over}
use Rattle.f2_since.specs.Counted.{Counted, IsSince, IsRunning, IsStill, held_rows, holder}
use Rattle.f2_since.specs.Events.{Fsyncs, FsyncsGoOn, FsyncsEnd, OthersDontCount}

pub held_kinds : (state : State) → IsRunning state → AreOfOneKind (held_rows state)
held_kinds state runs one other h i e = runs.kinds one other (one_of-left one (held_rows state) (map.values state.live) h) (one_of-left other (held_rows state) (map.values state.live) i) e

-- a file in fsync stays so as an fsync goes on
still_frozen : (state : State) (seat ino at : ℕ) (next : Progress) → Fsyncs state seat ino → IsFrozen state.flights at → IsFrozen (map.insert state.flights seat (InFsync ino next)) at
still_frozen state seat ino at next fsyncs frozen = by_seat (same_or_other frozen.0 seat)
  where
    one_ino : (i j : ℕ) (a b : Progress) → Some (InFsync i a) ≡ Some (InFsync j b) → i ≡ j
    one_ino i j a b e = cc

    by_seat : (frozen.0 ≡ seat) ⊎ (frozen.0 ≢ seat) → IsFrozen (map.insert state.flights seat (InFsync ino next)) at
    by_seat (inl same) =
        let own : at ≡ ino = one_ino at ino frozen.1.0 fsyncs.0 (sym frozen.1.1 ∙ ap (map.get state.flights) same ∙ fsyncs.1) in
        (seat, (next, get_put state.flights seat (InFsync ino next) ∙ ap (λ i. Some (InFsync i next)) (sym own)))
    by_seat (inr other) = (frozen.0, (frozen.1.0, get_put-other state.flights seat (InFsync ino next) frozen.0 other ∙ frozen.1.1))

pub fsyncs_go_on : FsyncsGoOn
fsyncs_go_on since state seat ino next is runs fsyncs = record {
  held = held_over state (with_progress state seat ino next) since.held (held_kinds state runs) refl to back is.held;
  nodes = is.nodes;
  pages = is.pages;
  parted = is.parted;
  only = is.only;
}
  where
    to : (row : Row) → IsHeld state row → IsHeld (with_progress state seat ino next) row
    to row (inl h) = inl h
    to row (inr h) = inr (h.0, still_frozen state seat ino h.0 next fsyncs h.1, h.2)

    back : (row : Row) → IsHeld (with_progress state seat ino next) row → IsHeld state row
    back row (inl h) = inl h
    back row (inr h) = inr (h.0, frozen_part state.flights seat ino fsyncs.0 next fsyncs.1 h.0 h.1, h.2)

pub fsyncs_end : FsyncsEnd
fsyncs_end since state seat ino row is runs fsyncs there marked = record {
  held = held_over state (without_call state seat) since.held (held_kinds state runs) refl to back is.held;
  nodes = is.nodes;
  pages = is.pages;
  parted = is.parted;
  only = is.only;
}
  where
    one_ino : (i j : ℕ) (a b : Progress) → Some (InFsync i a) ≡ Some (InFsync j b) → i ≡ j
    one_ino i j a b e = cc

    one_row : (a b : Row) → Some a ≡ Some b → a ≡ b
    one_row a b e = cc

    to : (one : Row) → IsHeld state one → IsHeld (without_call state seat) one
    to one (inl h) = inl h
    to one (inr h) = by_seat (same_or_other h.1.0 seat)
      where
        by_seat : (h.1.0 ≡ seat) ⊎ (h.1.0 ≢ seat) → IsHeld (without_call state seat) one
        by_seat (inl same) =
            let own : h.0 ≡ ino = one_ino h.0 ino h.1.1.0 fsyncs.0 (sym h.1.1.1 ∙ ap (map.get state.flights) same ∙ fsyncs.1) in
            let is_row : one ≡ row = one_row one row (sym h.2 ∙ ap (map.get state.live) own ∙ there) in
            inl (one_of-right one (map.values state.base) (map_list (λ (mark : Mark). mark.row) state.marks) (subst (λ (r : Row). IsOneOf r (map_list (λ (mark : Mark). mark.row) state.marks)) (sym is_row) marked))
        by_seat (inr other) = inr (h.0, (h.1.0, (h.1.1.0, get_taken-other state.flights seat h.1.0 other ∙ h.1.1.1)), h.2)

    back : (one : Row) → IsHeld (without_call state seat) one → IsHeld state one
    back one (inl h) = inl h
    back one (inr h) = inr (h.0, frozen_left state.flights seat h.0 h.1, h.2)

-- a direct node that an fsync drew
pub nodes_drawn : (since : Counted) (state : State) (seat ino offset : ℕ) → IsSince since state → IsRunning state → Fsyncs state seat ino → IsSince (record since { nodes = since.nodes + 1 }) (node_drawn state seat ino offset).after
nodes_drawn since state seat ino offset is runs fsyncs =
    let logged : IsSince (record since { nodes = since.nodes + 1 }) (node_logged state ino offset) = record { held = is.held; nodes = ap (λ n. n + 1) is.nodes; pages = is.pages; parted = is.parted; only = is.only } in
    let still : IsRunning (node_logged state ino offset) = record { most = runs.most; live = runs.live; keyed = runs.keyed; kinds = runs.kinds } in
    let on = fsyncs_go_on (record since { nodes = since.nodes + 1 }) (node_logged state ino offset) seat ino _ logged still fsyncs in
    record { held = on.held; nodes = on.nodes; pages = on.pages; parted = on.parted; only = on.only }

pub others_dont_count : OthersDontCount
others_dont_count since state after is base marks live flights nodes pages =
    let same : record state { base = after.base; marks = after.marks; live = after.live; flights = after.flights; node_writes = after.node_writes; data_writes = after.data_writes } ≡ state =
    λ i. record state { base = base i; marks = marks i; live = live i; flights = flights i; node_writes = nodes i; data_writes = pages i } in
    let moved = subst (IsSince since) (sym same) is in
    record { held = moved.held; nodes = moved.nodes; pages = moved.pages; parted = moved.parted; only = moved.only }

-- a mark more
more_marks : (row : Row) (marks : List Mark) (mark : Mark) → IsOneOf row (map_list (λ (m : Mark). m.row) (marks ++ mark ∷ [])) → IsOneOf row (map_list (λ (m : Mark). m.row) marks) ⊎ (row ≡ mark.row)
more_marks row [] mark (inl e) = inr e
more_marks row [] mark (inr h) = absurd h
more_marks row (m ∷ marks) mark (inl e) = inl (inl e)
more_marks row (m ∷ marks) mark (inr h) = more (more_marks row marks mark h)
  where
    more : IsOneOf row (map_list (λ (m : Mark). m.row) marks) ⊎ (row ≡ mark.row) → IsOneOf row (map_list (λ (m : Mark). m.row) (m ∷ marks)) ⊎ (row ≡ mark.row)
    more (inl h) = inl (inr h)
    more (inr e) = inr e

old_marks : (row : Row) (marks : List Mark) (mark : Mark) → IsOneOf row (map_list (λ (m : Mark). m.row) marks) → IsOneOf row (map_list (λ (m : Mark). m.row) (marks ++ mark ∷ []))
old_marks row [] mark h = absurd h
old_marks row (m ∷ marks) mark (inl e) = inl e
old_marks row (m ∷ marks) mark (inr h) = inr (old_marks row marks mark h)

module _ (since : Counted) (state : State) (seat ino : ℕ) (row : Row) (is : IsSince since state) (runs : IsRunning state) (fsyncs : Fsyncs state seat ino) (there : map.get state.live ino ≡ Some row) where
  abbrev marked : State
  marked = (mark_drawn state seat ino row).after

  abbrev own_mark : Mark
  own_mark = record { ino = ino; row = row }

  durable_then : (one : Row) → IsOneOf one (rows_of state.base state.marks) → IsOneOf one (rows_of state.base marked.marks)
  durable_then one h = by_part (either one (map.values state.base) (map_list (λ (m : Mark). m.row) state.marks) h)
    where
      by_part : IsOneOf one (map.values state.base) ⊎ IsOneOf one (map_list (λ (m : Mark). m.row) state.marks) → IsOneOf one (rows_of state.base marked.marks)
      by_part (inl h) = one_of-left one (map.values state.base) (map_list (λ (m : Mark). m.row) marked.marks) h
      by_part (inr h) = one_of-right one (map.values state.base) (map_list (λ (m : Mark). m.row) marked.marks) (old_marks one state.marks own_mark h)

  durable_now : (one : Row) → IsOneOf one (rows_of state.base marked.marks) → IsOneOf one (rows_of state.base state.marks) ⊎ (one ≡ row)
  durable_now one h = by_part (either one (map.values state.base) (map_list (λ (m : Mark). m.row) marked.marks) h)
    where
      by_mark : IsOneOf one (map_list (λ (m : Mark). m.row) state.marks) ⊎ (one ≡ row) → IsOneOf one (rows_of state.base state.marks) ⊎ (one ≡ row)
      by_mark (inl h) = inl (one_of-right one (map.values state.base) (map_list (λ (m : Mark). m.row) state.marks) h)
      by_mark (inr e) = inr e

      by_part : IsOneOf one (map.values state.base) ⊎ IsOneOf one (map_list (λ (m : Mark). m.row) marked.marks) → IsOneOf one (rows_of state.base state.marks) ⊎ (one ≡ row)
      by_part (inl h) = inl (one_of-left one (map.values state.base) (map_list (λ (m : Mark). m.row) state.marks) h)
      by_part (inr h) = by_mark (more_marks one state.marks own_mark h)

  to : (one : Row) → IsHeld state one → IsHeld marked one
  to one (inl h) = inl (durable_then one h)
  to one (inr h) = inr (h.0, still_frozen state seat ino h.0 _ fsyncs h.1, h.2)

  back : (one : Row) → IsHeld marked one → IsHeld state one
  back one (inl h) = by_row (durable_now one h)
    where
      by_row : IsOneOf one (rows_of state.base state.marks) ⊎ (one ≡ row) → IsHeld state one
      by_row (inl h) = inl h
      by_row (inr e) = inr (ino, (seat, fsyncs), there ∙ ap (λ (r : Row). Some r) (sym e))
  back one (inr h) = inr (h.0, frozen_part state.flights seat ino fsyncs.0 _ fsyncs.1 h.0 h.1, h.2)

  own_still : (one : Row) → one ≡ row → IsStill state.live one
  own_still one e =
      let at : row.ino ≡ ino = runs.live.keyed ino row there in
      (row, ap (λ (r : Row). map.get state.live r.ino) e ∙ ap (map.get state.live) at ∙ there, ap (λ (r : Row). r.parent) (sym e), ap (λ (r : Row). r.name) (sym e))

  pub marks_drawn : IsSince (record since { nodes = since.nodes + 1 }) marked
  marks_drawn = record {
    held = held_over state marked since.held (held_kinds state runs) refl to back is.held;
    nodes = ap (λ n. n + 1) is.nodes;
    pages = is.pages;
    parted = λ one h root gone. by_row one root gone (durable_now one h);
    only = λ directory name at found.
        let old = is.only directory name at found in
        (old.0, durable_then old.0 old.1, old.2, old.3, old.4, old.5, old.6);
  }
    where
      by_row : (one : Row) → one.ino ≢ ROOT → (IsStill state.live one → ⊥) → IsOneOf one (rows_of state.base state.marks) ⊎ (one ≡ row) → holder since.parted one.parent one.name ≡ Some one.ino
      by_row one root gone (inl h) = is.parted one h root gone
      by_row one root gone (inr e) = absurd (gone (own_still one e))
