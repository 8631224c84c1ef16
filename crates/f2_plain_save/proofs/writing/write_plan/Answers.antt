use Rattle.std.proofs.Common.{◌<◌, All, subst, sym}
use Rattle.std.proofs.lemmas.Result.{on_ok_weaker}
use Rattle.f2_laid.specs.declared.planned.Planned.{Planned}
use Rattle.f2_plain_save.proofs.Targets.{all_within}
use Rattle.f2_plain_save.proofs.Writes.{told_written, told_left, told_early}
use Rattle.f2_plain_save.proofs.writing.write_plan.Goals as goal

pub settle_all-requires : goal.settle_all-requires
settle_all-requires g c =
    subst (All (λ (one : Planned). one.at < (g.D.Disk.meter c.args.disk.now).blocks)) (sym c.deref.ensures.value)
    (all_within c.args.plan.now.stored (g.D.Disk.meter c.args.disk.now).blocks c.args.plan.now.blocks.items c.tail_at-tail_at.ensures.sound c.requires.placed c.requires.blocks c.requires.within)

pub returns-in_err-settle_all-clause-left : goal.returns-in_err-settle_all-clause-left
returns-in_err-settle_all-clause-left g c = told_early _ _ _ _ _ _ c.deref.ensures.value c.in_err-settle_all.ensures.left

pub returns-clause-written : goal.returns-clause-written
returns-clause-written g c =
    on_ok_weaker c.settle.result
    (told_written _ _ _ _ _ _ _ _ c.deref.ensures.value c.tail_at-tail_at.ensures.address c.in_ok-settle_all.ensures.settled)
    c.settle.ensures.settled

pub returns-clause-left : goal.returns-clause-left
returns-clause-left g c = told_left _ _ _ _ _ _ _ _ c.deref.ensures.value c.tail_at-tail_at.ensures.address c.in_ok-settle_all.ensures.settled c.settle.ensures.left
