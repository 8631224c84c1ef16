use Rattle.std.proofs.Common.{List, ℕ, sym, subst}
use Rattle.f2_play.specs.declared.status.Status.TheVariants.{Done}
use Rattle.f2_top.specs.Making.{MakesBy}
use Rattle.f2_top.proofs.MakingLemmas.{sizes, made_cut, made_finished}
use Rattle.f2_top.proofs.making.mkfs.Goals as goal

pub returns-in-Ok-clause-made : goal.returns-in-Ok-clause-made
returns-in-Ok-clause-made g c =
    let asked = sizes c.args.asked.blocks c.args.asked.nat in
    made_cut asked _ _ _ _ _ _ Done _
    (subst (λ (text : List ℕ). MakesBy asked (g.D.Disk.contents c.args.disk.now) (g.D.Disk.contents c.make.new.disk) (g.D.Disk.meter c.args.disk.now) (g.D.Disk.meter c.make.new.disk) Done text)
    (sym c.as_slice.ensures.value) c.in-Ok.ensures.made) c.in-Err-put.ensures.bytes

pub returns-clause-made : goal.returns-clause-made
returns-clause-made g c = made_finished (sizes c.args.asked.blocks c.args.asked.nat) _ _ _ _ _ _ _ _ c.in-Err.ensures.refused c.finish.ensures.finished
