use Rattle.std.proofs.Common.{sym, subst}
use Rattle.std.specs.Option.{unwrap_or}
use Rattle.std.specs.FinMap as map
use Rattle.f2_call_size.specs.Beyond.{IsNear}
use Rattle.f2_call_size.proofs.Nearness.{near_all}
use Rattle.f2_call_size.proofs.nodes.near.Goals as goal

pub returns : goal.returns
returns c =
    subst (λ before. IsNear (map.keys c.args.own.now) c.args.page before c.unwrap_or-after.result) (sym c.unwrap_or-before.ensures)
    (subst (λ after. IsNear (map.keys c.args.own.now) c.args.page (unwrap_or c.last_to.result 0) after) (sym c.unwrap_or-after.ensures)
    (near_all c.args.own.now c.args.page c.last_to.result c.first_from.result c.last_to.ensures c.first_from.ensures))
