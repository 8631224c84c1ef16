use Rattle.std.proofs.Common.{◌≡◌, true, false, not, nat_le, is_some, None, arith, sym, ap, ◌∙◌, rules}
use Rattle.f2_model.specs.Step.{is_up, checking_seat, is_clean, least_thawed, MOST_ENTRIES}
use Rattle.f2_reference.specs.Going.{MayTick}
use Rattle.f2_reference.proofs.GoSteps.{up_told}
use Rattle.f2_reference.proofs.TickSteps.{is_up_to, is_past, closed-TicksTo, spent-TicksTo, checked-TicksTo, clean-TicksTo, frozen-TicksTo}
use Rattle.f2_reference.proofs.ticks.tick.Goals as goal

pub returns-then-ne-clause-ok : goal.returns-then-ne-clause-ok
returns-then-ne-clause-ok c =
    let old = c.args.plain.now in
    let closed : not (is_up old.state.mode) ≡ true = ap (λ m. not (is_up m)) (sym c.mode.ensures) ∙ ap not (sym (up_told c.mode.result)) ∙ sym c.if-ne.ensures in
    closed-TicksTo old closed c.args.choices

pub returns-then-entries-ge-MOST_ENTRIES-clause-ok : goal.returns-then-entries-ge-MOST_ENTRIES-clause-ok
returns-then-entries-ge-MOST_ENTRIES-clause-ok c =
    let old = c.args.plain.now in
    let up : not (is_up old.state.mode) ≡ false = ap (λ m. not (is_up m)) (sym c.mode.ensures) ∙ ap not (sym (up_told c.mode.result)) ∙ sym c.if-ne.ensures in
    spent-TicksTo old up (is_up_to _ _ (omega (arith, c.entries.ensures, c.if-entries-ge-MOST_ENTRIES.true))) c.args.choices

pub returns-then-is_some-clause-ok : goal.returns-then-is_some-clause-ok
returns-then-is_some-clause-ok c =
    let old = c.args.plain.now in
    let up : not (is_up old.state.mode) ≡ false = ap (λ m. not (is_up m)) (sym c.mode.ensures) ∙ ap not (sym (up_told c.mode.result)) ∙ sym c.if-ne.ensures in
    let early : nat_le MOST_ENTRIES old.state.entries ≡ false = is_past _ _ (omega (arith, c.entries.ensures, c.if-entries-ge-MOST_ENTRIES.false)) in
    let checked : is_some (checking_seat old.state) ≡ true = search rules in
    checked-TicksTo old up early checked c.args.choices

pub returns-then-is_empty-2-clause-ok : goal.returns-then-is_empty-2-clause-ok
returns-then-is_empty-2-clause-ok c =
    let old = c.args.plain.now in
    let up : not (is_up old.state.mode) ≡ false = ap (λ m. not (is_up m)) (sym c.mode.ensures) ∙ ap not (sym (up_told c.mode.result)) ∙ sym c.if-ne.ensures in
    let early : nat_le MOST_ENTRIES old.state.entries ≡ false = is_past _ _ (omega (arith, c.entries.ensures, c.if-entries-ge-MOST_ENTRIES.false)) in
    let alone : is_some (checking_seat old.state) ≡ false = search rules in
    let clean : is_clean old.state ≡ true = search rules in
    clean-TicksTo old up early alone clean c.args.choices

pub returns-clause-ok : goal.returns-clause-ok
returns-clause-ok c =
    let old = c.args.plain.now in
    let may : MayTick old.state = search rules in
    let no_page : least_thawed old.state old.state.dirty_pages ≡ None = search rules in
    let no_node : least_thawed old.state old.state.dirty_nodes ≡ None = search rules in
    frozen-TicksTo old may no_page no_node c.args.choices
