use Rattle.std.proofs.Common.{◌≡◌, ap, sym, ◌∙◌}
use Rattle.std.specs.FinMap as map
use Rattle.f2_index.proofs.Tables.{on_err, remove-insert}
use Rattle.f2_index.proofs.index.add_page.Goals as goal

pub returns-then-is_err-clause-err_nodes : goal.returns-then-is_err-clause-err_nodes
returns-then-is_err-clause-err_nodes c =
    on_err c.insert-done.result (c.remove.new.self ≡ c.args.nodes.now)
    (c.remove.ensures ∙ ap (λ m. map.remove m c.in-Some.offset) c.in_ok-insert-2.ensures.ok
    ∙ remove-insert c.args.nodes.now c.in-Some.offset _ (sym c.get.ensures ∙ c.in_default-get.is))
