use Rattle.std.proofs.Common.{◌≡◌, None, ap, sym, ◌∙◌}
use Rattle.std.specs.FinMap as map
use Rattle.f2_index.proofs.Tables.{get-view, on_err, view-insert}
use Rattle.f2_blocks.proofs.nids.Nids.put.Goals as goal

pub returns-in_err-insert-clause-only_new : goal.returns-in_err-insert-clause-only_new
returns-in_err-insert-clause-only_new c =
    let absent = ap (λ m. map.get m c.args.offset) (sym c.self.view_is) ∙ get-view c.self.inside.nids.entries c.args.offset ∙ c.in_err-insert.ensures.absent in
    on_err c.from_residual.result (map.get c.args.self.now c.args.offset ≡ None) absent

pub returns-clause-ok : goal.returns-clause-ok
returns-clause-ok c =
    view-insert c.self.inside.nids.entries c.insert.new.self.entries c.args.offset c.args.nid c.in_ok-insert.ensures.updates.0
    ∙ ap (λ m. map.insert m c.args.offset c.args.nid) c.self.view_is
