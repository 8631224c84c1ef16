use Rattle.std.proofs.Common.{◌≡◌, ◌+◌, length, rules, ap, sym, ◌∙◌}
use Rattle.std.specs.FinMap as map
use Rattle.std.proofs.lemmas.Result.{IfOk-weaker}
use Rattle.f2_pieces.proofs.Brought.{absent_fresh, put_counts}
use Rattle.f2_pieces.proofs.fresh.Goals as goal

pub returns-clause-fresh : goal.returns-clause-fresh
returns-clause-fresh c = IfOk-weaker c.collect.result (λ fresh. fresh.items ≡ c.in_ok-absent.absent.keys) _
    (λ fresh e. e ∙ c.in_ok-absent.ensures ∙ absent_fresh c.args.pages.now c.args.pieces.now) (search rules)

pub returns-clause-grows : goal.returns-clause-grows
returns-clause-grows c = IfOk-weaker c.collect.result (λ fresh. fresh.items ≡ c.in_ok-absent.absent.keys) _
    (λ fresh e. put_counts c.args.pages.now c.args.pieces.now ∙ ap (λ items. map.len c.args.pages.now + length items) (sym (e ∙ c.in_ok-absent.ensures ∙ absent_fresh c.args.pages.now c.args.pieces.now))) (search rules)
