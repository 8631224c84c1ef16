use Rattle.f2_disk.proofs.ContentsLaws.{told_same, told_weaker}
use Rattle.f2_plain_save.specs.Saves.{IsSafelySaved}
use Rattle.f2_plain_save.proofs.Saved.{saved, saved_safely, kept_safely}
use Rattle.f2_plain_save.proofs.saving.save.Goals as goal

pub returns-in_err-plan-clause-safe : goal.returns-in_err-plan-clause-safe
returns-in_err-plan-clause-safe g c =
    told_same (g.D.Disk.contents c.args.disk.now) (IsSafelySaved c.args.old.now c.args.tree.now) (kept_safely c.args.old.now c.args.tree.now)

pub returns-in_err-write_plan-clause-safe : goal.returns-in_err-write_plan-clause-safe
returns-in_err-write_plan-clause-safe g c =
    told_weaker _ _ _ _ (saved_safely _ _ _ _ _ c.requires.storable c.in_ok-plan.ensures.next c.in_ok-plan.ensures.plan) c.in_err-write_plan.ensures.left

pub returns-clause-saved : goal.returns-clause-saved
returns-clause-saved g c =
    told_weaker _ _ _ _ (saved _ _ _ _ _ c.requires.storable c.in_ok-plan.ensures.next c.in_ok-plan.ensures.plan) c.in_ok-write_plan.ensures.written

pub returns-clause-safe : goal.returns-clause-safe
returns-clause-safe g c =
    told_weaker _ _ _ _ (saved_safely _ _ _ _ _ c.requires.storable c.in_ok-plan.ensures.next c.in_ok-plan.ensures.plan) c.in_ok-write_plan.ensures.left
