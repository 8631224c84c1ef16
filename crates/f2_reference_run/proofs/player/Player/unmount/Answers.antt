use Rattle.std.proofs.Common.{◌≡◌, ◌∙◌, subst}
use Rattle.f2_model.specs.declared.events.Event.TheVariants as event
use Rattle.f2_model.specs.declared.events.Answer.TheVariants as answer
use Rattle.f2_model.specs.declared.replies.Begun.TheVariants as begun
use Rattle.f2_reference_run.specs.Stages.{Comes}
use Rattle.f2_reference_run.proofs.Playing.{if_ok, says_closed, says_refused}
use Rattle.f2_reference_run.proofs.player.Player.unmount.Goals as goal

pub returns-in-Began-Replied : goal.returns-in-Began-Replied
returns-in-Began-Replied c =
    let is : c.in_ok-refusal.field-0 ≡ answer.Began (begun.Replied c.in-Began-Replied.refusal) = cc in
    let comes = subst (λ a. Comes event.Unmount a c.args.self.now c.step.new.self) is c.in_ok-refusal.ensures in
    if_ok _ _ c.reply_text.result (λ text said. says_refused c.in-Began-Replied.refusal c.args.self.now c.step.new.self text.items comes said) c.reply_text.ensures

pub returns-in-Began-Going : goal.returns-in-Began-Going
returns-in-Began-Going c =
    let is : c.in_ok-refusal.field-0 ≡ answer.Began (begun.Going c.in-Began-Going.field-0-0) = cc in
    let comes = subst (λ a. Comes event.Unmount a c.args.self.now c.step.new.self) is c.in_ok-refusal.ensures in
    if_ok _ _ c.from_slice.result
    (λ text said. says_closed c.in-Began-Going.field-0-0 c.args.self.now c.step.new.self c.finish.new.self text.items comes c.in_ok-finish-in-Began-Going.ensures (said ∙ c.unmounted_text.ensures))
    c.from_slice.ensures.items
