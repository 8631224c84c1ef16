-- What is counted once a checkpoint is done.
use Rattle.std.proofs.Common.{◌≡◌, ◌⊎◌, inl, inr, ℕ, List, [], refl, sym, ap, ◌∙◌, Some, None}
use Rattle.std.specs.Ordering.{nat_cmp}
use Rattle.std.specs.FinMap as map
use Rattle.f2_held.proofs.RowLists.{one_of-left, one_is_value}
use Rattle.f2_held.specs.Recovered.{IsOneOf, IsTakenOf, AreOfOneKind, rows_of}
use Rattle.f2_model.specs.Goes.{with_base}
use Rattle.f2_model.specs.State.{State}
use Rattle.f2_model.specs.declared.modes.Format.{Format}
use Rattle.f2_model.specs.declared.modes.Mode.{Mode}
use Rattle.f2_model.specs.declared.rows.Row.{Row}
use Rattle.f2_since.proofs.Among.{taken_among}
use Rattle.f2_since.proofs.Frozen.{either, IsHeld, held_from}
use Rattle.f2_since.specs.Counted.{Counted, IsSince, IsStill, held_rows, holder, holder_among, nothing_since}
use Rattle.f2_since.specs.Events.{IsAtRest}

module _ (since : Counted) (state : State) (format : Format) (version : ℕ) (mode : Mode) (taken : IsTakenOf state.live (map.values state.live) since.held) (rest : IsAtRest state) where
  abbrev after : State
  after = with_base state state.live format version mode

  same_row : (k : ℕ) (one other : Row) → map.get state.live k ≡ Some one → map.get state.live k ≡ Some other → one ≡ other
  same_row k one other e f = let both : Some one ≡ Some other = sym e ∙ f in cc

  kinds : AreOfOneKind (map.values state.live)
  kinds one other h i e =
      let here = one_is_value state.live one h in
      let there = one_is_value state.live other i in
      let at = sym (rest.1 here.0 one here.1) ∙ e ∙ rest.1 there.0 other there.1 in
      ap (λ (row : Row). row.kind) (same_row here.0 one other here.1 (ap (map.get state.live) at ∙ there.1))

  of_live : (row : Row) → IsOneOf row (rows_of after.base after.marks) → IsOneOf row (map.values state.live)
  of_live row h = by_part (either row (map.values state.live) [] h)
    where
      by_part : IsOneOf row (map.values state.live) ⊎ IsOneOf row [] → IsOneOf row (map.values state.live)
      by_part (inl h) = h
      by_part (inr h) = absurd h

  back : (row : Row) → IsOneOf row (held_rows after) → IsOneOf row (map.values state.live)
  back row h = by_part (held_from after row h)
    where
      by_part : IsHeld after row → IsOneOf row (map.values state.live)
      by_part (inl h) = of_live row h
      by_part (inr h) = absurd (rest.0 h.0 h.1)

  to : (row : Row) → IsOneOf row (map.values state.live) → IsOneOf row (held_rows after)
  to row h = one_of-left row (rows_of after.base after.marks) _ (one_of-left row (map.values state.live) [] h)

  stands : (row : Row) → IsOneOf row (rows_of after.base after.marks) → IsStill state.live row
  stands row h =
      let at = one_is_value state.live row (of_live row h) in
      (row, ap (map.get state.live) (rest.1 at.0 row at.1) ∙ at.1, refl, refl)

  nobody : (directory : ℕ) (name : List ℕ) (ino : ℕ) → holder nothing_since.parted directory name ≡ Some ino → ⊥
  nobody directory name ino found = let none : None ≡ Some ino = sym (ap (holder_among name) (map.get-empty nat_cmp directory)) ∙ found in cc

  pub settled : IsSince (record nothing_since { held = since.held }) after
  settled = record {
    held = taken_among (map.values state.live) (held_rows after) to back kinds state.live since.held taken;
    nodes = refl;
    pages = refl;
    parted = λ row h root gone. absurd (gone (stands row h));
    only = λ directory name ino found. absurd (nobody directory name ino found);
  }
