use Rattle.std.proofs.Common.{None, subst, max}
use Rattle.f2_model.specs.State.{State}
use Rattle.f2_core.specs.Seen.{IsIn}
use Rattle.f2_core.specs.Events.{HasCrashed}
use Rattle.f2_core.proofs.Comes.{seen}
use Rattle.f2_core.proofs.Crashes.{crashes}
use Rattle.f2_core.proofs.machine.Core.crash.Goals as goal

pub returns-clause-crashed : goal.returns-clause-crashed
returns-clause-crashed g c =
    let was = c.self.inside in
    let told = g.D.Disk.contents was.disk in
    let after = g.D.Disk.contents c.crash.new.self in
    let all : (from : State) → IsIn was.geometry told was.volume was.history from → HasCrashed (seen was.disk was.geometry was.volume was.history) (seen c.crash.new.self was.geometry None c.add.new.self) after from =
    crashes was.disk c.crash.new.self was.geometry was.volume was.history c.room.new.self c.add.new.self told after c.args.pick (max was.history.spare 1) c.in_ok-room.ensures.ok c.add.ensures.entries c.add.ensures.choices c.crash.ensures.crashed c.crash.ensures.image in
    subst (λ old. (from : State) → IsIn old.geometry (g.D.Disk.contents old.disk) old.volume old.history from → HasCrashed old (seen c.crash.new.self was.geometry None c.add.new.self) after from) c.self.view_is all
