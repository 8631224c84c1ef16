use Rattle.f2_model.proofs.MapViews.{seen-insert}
use Rattle.f2_overlay.proofs.PendingPlaces.{noted_of}
use Rattle.f2_overlay.proofs.pending.Pending.note.Goals as goal

pub returns : goal.returns
returns c =
    noted_of c.args.self.now c.take-newest.new.self _ c.args.ino c.args.offset c.args.place c.take-newest.result c.put.new.self c.take-newest.ensures.taken c.take-newest.ensures.left c.in_ok-put.ensures
    (seen-insert _ _ c.self.view_is _ c.args.ino _ c.in_ok-insert.ensures.updates.0)
