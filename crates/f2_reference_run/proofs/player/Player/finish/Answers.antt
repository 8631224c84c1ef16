use Rattle.std.proofs.Common.{◌≡◌, subst}
use Rattle.f2_model.specs.Step.{MOUNT_SEAT}
use Rattle.f2_model.specs.declared.replies.Reply.TheVariants as reply
use Rattle.f2_model.specs.declared.replies.Step.TheVariants as step
use Rattle.f2_play.specs.Calls.{Goes, is_over}
use Rattle.f2_reference_run.specs.Runs.{Leads}
use Rattle.f2_reference_run.proofs.player.Player.finish.Goals as goal

pub returns-in-Replied-Synced : goal.returns-in-Replied-Synced
returns-in-Replied-Synced c =
    let is : c.in_ok-go.field-0 ≡ step.Replied reply.Synced = cc in
    subst (λ last. Leads (Goes is_over MOUNT_SEAT last) c.args.self.now c.go.new.self) is c.in_ok-go.ensures
