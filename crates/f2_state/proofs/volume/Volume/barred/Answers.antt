use Rattle.std.proofs.Common.{ℕ, sym, ◌∙◌, subst}
use Rattle.std.specs.Prelude.{Option, Some, MatchOption}
use Rattle.f2_disk.specs.Contents.{Contents}
use Rattle.f2_image_laws.specs.Rolled.{image_limits}
use Rattle.f2_model.specs.State.{State}
use Rattle.f2_model.specs.declared.replies.Reply.TheVariants as reply
use Rattle.f2_model.specs.declared.requests.Request.{Request}
use Rattle.f2_state.specs.Barred.{IsBarred, IsLetIn}
use Rattle.f2_state.specs.Seen.{Seen}
use Rattle.f2_state.specs.Standing.{StandsIn}
use Rattle.f2_state.specs.declared.barring.Barred.{Barred}
use Rattle.f2_state.specs.declared.barring.Barred.TheVariants.{Unheard, Refused}
use Rattle.f2_state.proofs.Beginnings.{refused, frozen}
use Rattle.f2_state.proofs.Standing.{heard_by, refusal_here, freezing_here}
use Rattle.f2_state.proofs.volume.Volume.barred.Goals as goal

abbrev Told : {D : Type 0} → (D → Option Contents) → ℕ → Request → Option Barred → Seen D → Type 0
Told contents seat request found volume =
    (from : State) → StandsIn (contents volume.disk) volume from → MatchOption found (IsLetIn (image_limits volume.geometry) from seat request) (IsBarred (image_limits volume.geometry) from seat request)

pub returns-in-Some-refusal : goal.returns-in-Some-refusal
returns-in-Some-refusal g c =
    let was = c.self.inside in
    let seat = c.args.seat in
    let request = c.args.request.now in
    subst (Told g.D.Disk.contents seat request (Some (Refused c.in-Some-refusal.reply))) c.self.view_is (λ from stands.
    let heard = heard_by (g.D.Disk.contents was.disk) _ from stands seat c.unheard.result c.unheard.ensures c.in_default.is in
    let because = refusal_here (g.D.Disk.contents was.disk) _ from stands seat request heard c.limits.result c.refusal.result c.limits.ensures c.refusal.ensures in
    λ faults. refused from seat (image_limits was.geometry) faults request c.in-Some-refusal.reply heard (sym because ∙ c.in-Some-refusal.is))

pub returns-in_err-by : goal.returns-in_err-by
returns-in_err-by g c =
    let was = c.self.inside in
    let seat = c.args.seat in
    let request = c.args.request.now in
    subst (Told g.D.Disk.contents seat request c.from_residual.result) c.self.view_is (λ from stands.
    let heard = heard_by (g.D.Disk.contents was.disk) _ from stands seat c.unheard.result c.unheard.ensures c.in_default.is in
    let unrefused = refusal_here (g.D.Disk.contents was.disk) _ from stands seat request heard c.limits.result c.refusal.result c.limits.ensures c.refusal.ensures in
    let unfrozen = freezing_here (g.D.Disk.contents was.disk) _ from stands seat request heard c.freezing.result c.freezing.ensures in
    subst (λ found. MatchOption found (IsLetIn (image_limits was.geometry) from seat request) (IsBarred (image_limits was.geometry) from seat request)) (sym c.from_residual.ensures)
    (record { heard = heard; unrefused = sym unrefused ∙ c.in_default-refusal.is; unfrozen = sym unfrozen ∙ c.in_err-by.was }))

pub returns : goal.returns
returns g c =
    let was = c.self.inside in
    let seat = c.args.seat in
    let request = c.args.request.now in
    subst (Told g.D.Disk.contents seat request (Some (Unheard (reply.Busy c.in_ok-by.by)))) c.self.view_is (λ from stands.
    let heard = heard_by (g.D.Disk.contents was.disk) _ from stands seat c.unheard.result c.unheard.ensures c.in_default.is in
    let unrefused = refusal_here (g.D.Disk.contents was.disk) _ from stands seat request heard c.limits.result c.refusal.result c.limits.ensures c.refusal.ensures in
    let unfrozen = freezing_here (g.D.Disk.contents was.disk) _ from stands seat request heard c.freezing.result c.freezing.ensures in
    λ faults. frozen from seat (image_limits was.geometry) faults request c.in_ok-by.by heard (sym unrefused ∙ c.in_default-refusal.is) (sym unfrozen ∙ c.in_ok-by.was))
