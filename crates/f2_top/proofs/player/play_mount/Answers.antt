use Rattle.std.proofs.Common.{◌∙◌, ap, ◌++◌, ◌∷◌, [], List, ℕ}
use Rattle.f2_model.specs.declared.events.Event.TheVariants.{Mount}
use Rattle.f2_model.specs.declared.events.Answer.TheVariants.{Found, AlreadyMounted}
use Rattle.f2_top.specs.Runs.{Comes}
use Rattle.f2_top.proofs.CoreLemmas.{PlaysOn-found, PlaysOn-already}
use Rattle.f2_top.proofs.PlayLemmas.{IfOk-map}
use Rattle.f2_top.proofs.player.play_mount.Goals as goal
use Rattle.f2_top.proofs.player.play_mount.Goals.{in-Found+in_ok-found_text-in-Found, in-AlreadyMounted+in_ok-from_slice-in-AlreadyMounted, in_default}

pub returns-clause-played : goal.returns-clause-played
returns-clause-played g c =
    elim c.match-branch-2.branch [
      | in-Found+in_ok-found_text-in-Found w ↦
          rw w.result-is
          (IfOk-map _ _ w.ended.result
          (λ v h. λ counts.
          let comes : Comes (g.B.Disk.contents c.args.core.now.disk) (g.B.Disk.contents c.step.new.core.disk) c.args.core.now c.step.new.core Mount (Found w.in-Found.rows) =
          rw w.in-Found.is at (c.in_ok-rows.ensures.comes counts) in
          PlaysOn-found _ _ c.args.core.now c.step.new.core w.in-Found.rows v.items comes (h ∙ ap (λ (t : List ℕ). t ++ 10 ∷ []) w.in_ok-found_text-in-Found.ensures))
          w.ended.ensures)
      | in-AlreadyMounted+in_ok-from_slice-in-AlreadyMounted w ↦
          rw w.result-is
          (IfOk-map _ _ w.ended-in-AlreadyMounted.result
          (λ v h. λ counts.
          let comes : Comes (g.B.Disk.contents c.args.core.now.disk) (g.B.Disk.contents c.step.new.core.disk) c.args.core.now c.step.new.core Mount AlreadyMounted =
          rw w.in-AlreadyMounted.is at (c.in_ok-rows.ensures.comes counts) in
          PlaysOn-already _ _ c.args.core.now c.step.new.core v.items comes
          (h ∙ ap (λ (t : List ℕ). t ++ 10 ∷ []) (w.in_ok-from_slice-in-AlreadyMounted.ensures.items ∙ w.mounted_text.ensures)))
          w.ended-in-AlreadyMounted.ensures)
      | in_default w ↦ rw w.result-is tt
    ]
