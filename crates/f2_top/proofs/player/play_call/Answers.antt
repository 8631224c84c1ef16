use Rattle.f2_model.specs.Step.{replied}
use Rattle.f2_model.specs.declared.events.Event.TheVariants.{Begin}
use Rattle.f2_top.specs.Runs.{Comes}
use Rattle.f2_top.proofs.CoreLemmas.{PlaysOn-call}
use Rattle.f2_top.proofs.PlayLemmas.{IfOk-map}
use Rattle.f2_top.proofs.player.play_call.Goals as goal

pub returns-in_default-reply-clause-played : goal.returns-in_default-reply-clause-played
returns-in_default-reply-clause-played g c =
    IfOk-map _ _ c.reply_line.result
    (λ v h. λ counts.
    let comes : Comes (g.B.Disk.contents c.args.core.now.disk) (g.B.Disk.contents c.step.new.core.disk) c.args.core.now c.step.new.core
    (Begin c.args.seat c.args.request) (replied c.in-Began-Replied.reply) =
    rw c.in-Began-Replied.field-0-is at (rw c.in-Began-Replied.is at (c.in_ok-reply.ensures.comes counts)) in
    PlaysOn-call _ _ c.args.core.now c.step.new.core c.args.seat c.args.request c.in-Began-Replied.reply v.items c.requires.served comes c.in_default-reply.not-Memory h)
    c.reply_line.ensures
