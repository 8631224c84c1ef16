use Rattle.std.proofs.Common.{◌≡◌, None, refl, sym, ◌∙◌, subst}
use Rattle.f2_model.specs.Step.{replied}
use Rattle.f2_model.specs.declared.events.Event.TheVariants.{Begin}
use Rattle.f2_model.specs.declared.replies.Reply.TheVariants as reply
use Rattle.f2_model.specs.State.{State}
use Rattle.f2_core.specs.Seen.{IsIn}
use Rattle.f2_core.specs.Events.{ComesTo}
use Rattle.f2_core.proofs.Comes.{seen}
use Rattle.f2_core.proofs.Unchanged.{closed}
use Rattle.f2_core.proofs.machine.Core.change.Goals as goal

pub returns-in_default-clause-comes : goal.returns-in_default-clause-comes
returns-in_default-clause-comes g c =
    let was = c.self.inside in
    let told = g.D.Disk.contents was.disk in
    let none : was.volume ≡ None = sym c.take.ensures.value ∙ c.in_default.is in
    subst (λ s. (from : State) → IsIn s.geometry (g.D.Disk.contents s.disk) s.volume s.history from
    → ComesTo s (seen was.disk was.geometry c.take.new.self was.history) told from (Begin c.args.seat c.args.request) (replied reply.Closed)) c.self.view_is (λ from is.
    closed was.disk was.disk was.geometry was.volume c.take.new.self was.history was.history told told from is none c.take.ensures.after c.args.seat c.requires.seat c.args.request refl refl refl)
