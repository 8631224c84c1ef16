use Rattle.std.proofs.Common.{rules, ◌↔◌, IsTrue, ◌∙◌}
use Rattle.std.specs.Prelude.{All}
use Rattle.f2_plain_check.specs.Parts.{IsSoAt, HasIno}
use Rattle.f2_plain_check.proofs.Keys.{by_keys}
use Rattle.f2_plain_check.proofs.rows.is_keyed.Goals as goal

pub returns : goal.returns
returns c =
    let all : IsTrue c.all.result ↔ All (IsSoAt c.args.tree.now HasIno) c.deref.result.now = search rules in
    by_keys c.args.tree.now HasIno c.all.result c.deref.result.now (c.deref.ensures.value ∙ c.in_ok-inos.ensures) all
