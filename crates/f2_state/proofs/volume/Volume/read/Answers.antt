use Rattle.std.proofs.Common.{◌≡◌, true, ℕ, List, sym, subst, ◌∙◌}
use Rattle.std.specs.Prelude.{Option, None}
use Rattle.f2_disk.specs.Contents.{Contents}
use Rattle.f2_image_laws.specs.Rolled.{image_limits}
use Rattle.f2_model.specs.Call.{answer, refusal}
use Rattle.f2_model.specs.Content.{bytes_between}
use Rattle.f2_model.specs.State.{State}
use Rattle.f2_model.specs.declared.replies.Reply.{Reply}
use Rattle.f2_model.specs.declared.replies.Reply.TheVariants.{Bytes}
use Rattle.f2_model.specs.declared.requests.Request.TheVariants as requests
use Rattle.f2_state.specs.Looks.{HasOfFile}
use Rattle.f2_state.specs.Seen.{Seen}
use Rattle.f2_state.specs.Standing.{StandsIn, is_between}
use Rattle.f2_state.proofs.Ends.{bytes_here, stopped_here}
use Rattle.f2_state.proofs.volume.Volume.read.Goals as goal

abbrev Told : {D : Type 0} → (D → Option Contents) → List (List ℕ) → ℕ → ℕ → Reply → Seen D → Type 0
Told contents path off len told volume =
    (from : State) → StandsIn (contents volume.disk) volume from → is_between from ≡ true → refusal (image_limits volume.geometry) from.live (requests.Read path off len) ≡ None
    → told ≡ answer from.live (requests.Read path off len)

pub returns-in_ok-bytes-in-Ok-clause-content : goal.returns-in_ok-bytes-in-Ok-clause-content
returns-in_ok-bytes-in-Ok-clause-content g c =
    let was = c.self.inside in
    let bytes = c.in_ok-bytes-in-Ok.bytes in
    subst (Told g.D.Disk.contents c.args.path.now c.args.off c.args.len (Bytes bytes)) c.self.view_is (λ from stands quiet unrefused.
    bytes_here (g.D.Disk.contents was.disk) _ from stands quiet c.args.path.now c.in-Ok.ino c.args.off c.args.len c.end_of_read-end.result bytes unrefused
    (λ most tree good shape. sym c.in-Ok.is ∙ rw (← c.as_slice.ensures) (c.walk.ensures most tree good shape))
    c.end_of_read-end.ensures.end
    (subst (λ volume. HasOfFile (g.D.Disk.contents volume.disk) volume c.in-Ok.ino (λ row. bytes ≡ bytes_between row.pages c.args.off c.end_of_read-end.result)) (sym c.self.view_is)
    c.in_ok-bytes-in-Ok.ensures.content))

pub returns-in-Err-clause-content : goal.returns-in-Err-clause-content
returns-in-Err-clause-content g c =
    let was = c.self.inside in
    subst (Told g.D.Disk.contents c.args.path.now c.args.off c.args.len c.in-Err.refused) c.self.view_is (λ from stands quiet unrefused.
    (stopped_here (g.D.Disk.contents was.disk) _ from stands quiet c.args.path.now c.in-Err.refused
    (λ most tree good shape. sym c.in-Err.is ∙ rw (← c.as_slice.ensures) (c.walk.ensures most tree good shape))).1 c.args.off c.args.len)
