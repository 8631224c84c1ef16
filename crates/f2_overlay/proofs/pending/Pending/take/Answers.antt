use Rattle.std.proofs.Common.{ap, sym, ◌∙◌}
use Rattle.std.specs.Prelude.{Some}
use Rattle.f2_model.proofs.MapViews.{lookup-seen, seen-remove}
use Rattle.f2_overlay.proofs.PendingPlaces.{places_of, places_none, left_of}
use Rattle.f2_overlay.proofs.pending.Pending.take.Goals as goal
use Rattle.f2_overlay.proofs.pending.Pending.take.Goals.{in-Some, in-None}

pub returns-clause-taken : goal.returns-clause-taken
returns-clause-taken c =
    let found = sym (lookup-seen _ _ c.self.view_is c.args.ino) ∙ sym c.remove.ensures.value in
    elim c.match-remove.branch [
      | in-Some w ↦ places_of c.args.self.now c.args.ino c.match-remove.result (found ∙ w.in-Some.is ∙ ap Some (sym w.result-is))
      | in-None w ↦ places_none c.args.self.now c.args.ino c.match-remove.result (found ∙ w.in-None.is) (w.result-is ∙ w.new.ensures)
    ]

pub returns-clause-left : goal.returns-clause-left
returns-clause-left c = left_of _ _ _ (seen-remove _ _ c.self.view_is _ c.args.ino c.remove.ensures.updates.0)
