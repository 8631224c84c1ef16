use Rattle.std.proofs.Common.{◌≡◌, true, ℕ, List, sym, subst, ◌∙◌}
use Rattle.std.specs.Prelude.{Option, None, Ok, IfOk}
use Rattle.f2_disk.specs.Contents.{Contents}
use Rattle.f2_image_laws.specs.Rolled.{image_limits}
use Rattle.f2_model.specs.Call.{answer, refusal, names_told}
use Rattle.f2_model.specs.State.{State}
use Rattle.f2_model.specs.declared.replies.Reply.{Reply}
use Rattle.f2_model.specs.declared.replies.Reply.TheVariants.{Names}
use Rattle.f2_model.specs.declared.requests.Request.TheVariants as requests
use Rattle.f2_state.specs.Seen.{Seen}
use Rattle.f2_state.specs.Standing.{StandsIn, is_between}
use Rattle.f2_state.proofs.Ends.{names_here, stopped_here}
use Rattle.f2_state.proofs.volume.Volume.list.Goals as goal

abbrev Told : {D : Type 0} → (D → Option Contents) → List (List ℕ) → Reply → Seen D → Type 0
Told contents path told volume =
    (from : State) → StandsIn (contents volume.disk) volume from → is_between from ≡ true → refusal (image_limits volume.geometry) from.live (requests.List path) ≡ None → told ≡ answer from.live (requests.List path)

pub returns-in_ok-names-in-Ok : goal.returns-in_ok-names-in-Ok
returns-in_ok-names-in-Ok g c =
    let was = c.self.inside in
    subst (Told g.D.Disk.contents c.args.path.now (Names c.in_ok-names-in-Ok.names)) c.self.view_is (λ from stands quiet unrefused.
    names_here (g.D.Disk.contents was.disk) _ from stands quiet c.args.path.now c.in-Ok.ino c.in_ok-names-in-Ok.names unrefused
    (λ most tree good shape. sym c.in-Ok.is ∙ rw (← c.as_slice.ensures) (c.walk.ensures most tree good shape))
    (λ most tree row good shape there kind. subst (λ o. IfOk o (λ names. Names names ≡ names_told tree (Ok row))) c.in_ok-names-in-Ok.was (c.names.ensures most tree row good shape there kind)))

pub returns-in-Err : goal.returns-in-Err
returns-in-Err g c =
    let was = c.self.inside in
    subst (Told g.D.Disk.contents c.args.path.now c.in-Err.refused) c.self.view_is (λ from stands quiet unrefused.
    (stopped_here (g.D.Disk.contents was.disk) _ from stands quiet c.args.path.now c.in-Err.refused
    (λ most tree good shape. sym c.in-Err.is ∙ rw (← c.as_slice.ensures) (c.walk.ensures most tree good shape))).0)
