use Rattle.f2_model.specs.declared.events.Event.TheVariants.{Mount}
use Rattle.f2_model.specs.declared.events.Answer.TheVariants.{Found}
use Rattle.f2_top.specs.Runs.{Comes}
use Rattle.f2_top.proofs.CoreLemmas.{counts-on}
use Rattle.f2_top.proofs.MountLemmas.{IsMounted-of}
use Rattle.f2_top.proofs.player.mount.Goals as goal

pub returns-clause-mounted : goal.returns-clause-mounted
returns-clause-mounted g c = λ counts.
    let made = c.in_ok-core.ensures in
    let comes : Comes (g.B.Disk.contents c.in_ok-core.core.disk) (g.B.Disk.contents c.step.new.core.disk) c.in_ok-core.core c.step.new.core Mount (Found c.in-Ok-Found.field-0-0) =
    rw c.in-Ok-Found.field-0-is at (c.in-Ok-Found.ensures.comes (counts-on _ _ made.calm counts)) in
    IsMounted-of c.args.geometry.now _ _ c.in_ok-core.core c.step.new.core c.in-Ok-Found.field-0-0 made.tells made.made comes c.step.ensures.geometry
