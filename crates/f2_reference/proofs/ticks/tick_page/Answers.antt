use Rattle.std.proofs.Common.{◌+◌, ◌<◌, ◌≤◌, ap, arith}
use Rattle.f2_model.specs.Fallback.{Both, owed}
use Rattle.f2_model.specs.declared.bounds.Limits.{Limits}
use Rattle.f2_reference.proofs.TickSteps.{is_below, is_not_below, page-TicksTo, full_of_pages-TicksTo}
use Rattle.f2_reference.proofs.ticks.tick_page.Goals as goal

pub returns-then-data_writes-owed-clause-ok : goal.returns-then-data_writes-owed-clause-ok
returns-then-data_writes-owed-clause-ok c =
    let old = c.args.plain.now in
    let told = ap (λ (both : Both). both.pages) c.in_ok-owed.ensures.exact in
    let granted = ap (λ (limits : Limits). limits.data_blocks) c.limits.ensures in
    let full : old.limits.data_blocks ≤ old.state.data_writes + (owed old.state).pages = omega (arith, told, granted, c.data_writes.ensures, c.from.ensures, c.if-data_writes-owed.true) in
    full_of_pages-TicksTo old c.requires.may c.args.page c.requires.page (is_not_below _ _ full)

pub returns-clause-ok : goal.returns-clause-ok
returns-clause-ok c =
    let old = c.args.plain.now in
    let told = ap (λ (both : Both). both.pages) c.in_ok-owed.ensures.exact in
    let granted = ap (λ (limits : Limits). limits.data_blocks) c.limits.ensures in
    let fits : old.state.data_writes + (owed old.state).pages < old.limits.data_blocks = omega (arith, told, granted, c.data_writes.ensures, c.from.ensures, c.if-data_writes-owed.false) in
    page-TicksTo old c.requires.may c.args.page c.requires.page c.page_written.new.self (is_below _ _ fits) c.in_ok-page_written.ensures.ok
