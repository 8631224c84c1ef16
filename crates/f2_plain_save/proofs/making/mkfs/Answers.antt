use Rattle.f2_disk.proofs.ContentsLaws.{told_then}
use Rattle.f2_plain_save.proofs.First.{first_made}
use Rattle.f2_plain_save.proofs.making.mkfs.Goals as goal

pub returns-clause-made : goal.returns-clause-made
returns-clause-made g c =
    told_then _ _ _ _ _ _ (first_made c.in_ok-plan.plan.stored c.args.geometry _ _ c.in_ok-plan.ensures.geometry c.plan_first.ensures.sound c.in_ok-plan.ensures.side c.in_ok-plan.ensures.version c.in_ok-plan.ensures.plan)
    c.in_ok-write_blank.ensures.blank c.in_ok-write_plan.ensures.written
