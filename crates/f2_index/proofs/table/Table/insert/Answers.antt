use Rattle.std.proofs.Common.{◌≡◌, None, ap, sym, ◌∙◌}
use Rattle.std.specs.FinMap as map
use Rattle.f2_index.proofs.Tables.{get-view, on_err, view-insert}
use Rattle.f2_index.proofs.table.Table.insert.Goals as goal

pub returns-in_err-insert-clause-absent : goal.returns-in_err-insert-clause-absent
returns-in_err-insert-clause-absent g c =
    let absent = ap (λ m. map.get m c.args.key) (sym c.self.view_is) ∙ get-view c.self.inside.entries.entries c.args.key ∙ c.in_err-insert.ensures.absent in
    on_err c.from_residual.result (map.get c.args.self.now c.args.key ≡ None) absent

pub returns-clause-ok : goal.returns-clause-ok
returns-clause-ok g c =
    view-insert c.self.inside.entries.entries c.insert.new.self.entries c.args.key c.args.value c.in_ok-insert.ensures.updates.0
    ∙ ap (λ m. map.insert m c.args.key c.args.value) c.self.view_is
