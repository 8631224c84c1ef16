use Rattle.std.proofs.Common.{◌≡◌, true, false, sym, ◌∙◌, subst}
use Rattle.f2_model.specs.Step.{draws_next}
use Rattle.f2_play.specs.Calls.{drew, stayed}
use Rattle.f2_reference_run.specs.Stages.{Stage}
use Rattle.f2_reference_run.proofs.Playing.{leads_map, leads_one, leads_none}
use Rattle.f2_reference_run.proofs.player.Player.draw.Goals as goal

pub returns-in_ok-position : goal.returns-in_ok-position
returns-in_ok-position c =
    let draws = subst (λ (stage : Stage). draws_next stage.seen.state c.args.seat ≡ true) c.self.view_is (sym c.draws_next.ensures ∙ c.if-draws_next.true) in
    leads_map _ _ _ _ (λ events is. drew c.in_ok-position.position draws is) (leads_one _ _ _ _ c.in_ok-position.ensures)

pub returns-else-draws_next : goal.returns-else-draws_next
returns-else-draws_next c =
    let none = subst (λ (stage : Stage). draws_next stage.seen.state c.args.seat ≡ false) c.self.view_is (sym c.draws_next.ensures ∙ c.if-draws_next.false) in
    leads_none _ _ (stayed none)
