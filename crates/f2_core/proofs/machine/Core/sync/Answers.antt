use Rattle.std.proofs.Common.{◌≡◌, ◌≤◌, ◌<◌, ◌++◌, ◌∷◌, [], length, Some, None, Err, arith, refl, sym, ap, ◌∙◌, subst}
use Rattle.std.specs.Prelude.{IsSome}
use Rattle.f2_disk.specs.Contents.{WhereTold}
use Rattle.f2_disk.specs.Meter.{HasFailed}
use Rattle.f2_model.specs.State.{State}
use Rattle.f2_model.specs.Step.{MOST_ENTRIES, replied}
use Rattle.f2_model.specs.declared.events.Event.TheVariants.{Begin}
use Rattle.f2_model.specs.declared.requests.Request.TheVariants.{Sync}
use Rattle.f2_model.specs.declared.replies.Reply.TheVariants as reply
use Rattle.f2_model.specs.declared.replies.Plan.TheVariants as plan
use Rattle.f2_model.specs.declared.histories.Entry.TheVariants as entry
use Rattle.f2_laid.specs.Laid.{IsStorable}
use Rattle.f2_plain_save.specs.Saves.{IsSaved}
use Rattle.f2_core.specs.Seen.{IsIn, IsOpen}
use Rattle.f2_core.specs.Events.{ComesTo}
use Rattle.f2_core.specs.declared.volumes.Volume.{Volume}
use Rattle.f2_core.proofs.Comes.{seen}
use Rattle.f2_core.proofs.FlatTrees.{storable}
use Rattle.f2_core.proofs.Saved.{syncs}
use Rattle.f2_core.proofs.Unchanged.{of_some, closed, spent, no_memory}
use Rattle.f2_core.proofs.machine.Core.sync.Goals as goal

pub returns-in_default-clause-comes : goal.returns-in_default-clause-comes
returns-in_default-clause-comes g c =
    let was = c.self.inside in
    let told = g.D.Disk.contents was.disk in
    let none : was.volume ≡ None = sym c.take.ensures.value ∙ c.in_default.is in
    subst (λ s. (from : State) → IsSome (g.D.Disk.contents s.disk) → IsIn s.geometry (g.D.Disk.contents s.disk) s.volume s.history from → ¬ (HasFailed (g.D.Disk.meter s.disk) (g.D.Disk.meter was.disk))
    → ComesTo s (seen was.disk was.geometry c.take.new.self was.history) told from (Begin c.args.seat Sync) (replied reply.Closed)) c.self.view_is (λ from tells is calm.
    closed was.disk was.disk was.geometry was.volume c.take.new.self was.history was.history told told from is none c.take.ensures.after c.args.seat c.requires Sync refl refl refl)

pub returns-then-len-ge-MOST_ENTRIES-clause-comes : goal.returns-then-len-ge-MOST_ENTRIES-clause-comes
returns-then-len-ge-MOST_ENTRIES-clause-comes g c =
    let was = c.self.inside in
    let told = g.D.Disk.contents was.disk in
    let some : was.volume ≡ Some c.in-Some.volume = sym c.take.ensures.value ∙ c.in-Some.is in
    let late : MOST_ENTRIES ≤ length was.history.entries = omega (arith, c.len.ensures, c.if-len-ge-MOST_ENTRIES.true) in
    subst (λ s. (from : State) → IsSome (g.D.Disk.contents s.disk) → IsIn s.geometry (g.D.Disk.contents s.disk) s.volume s.history from → ¬ (HasFailed (g.D.Disk.meter s.disk) (g.D.Disk.meter was.disk))
    → ComesTo s (seen was.disk was.geometry (Some c.in-Some.volume) was.history) told from (Begin c.args.seat Sync) (replied reply.Spent)) c.self.view_is (λ from tells is calm.
    spent was.disk was.disk was.geometry was.volume (Some c.in-Some.volume) c.in-Some.volume was.history was.history told told from is some refl late c.args.seat c.requires Sync refl refl refl)

pub returns-in_default-new-clause-comes : goal.returns-in_default-new-clause-comes
returns-in_default-new-clause-comes g c =
    let was = c.self.inside in
    let told = g.D.Disk.contents was.disk in
    let some : was.volume ≡ Some c.in-Some.volume = sym c.take.ensures.value ∙ c.in-Some.is in
    subst (λ s. (from : State) → IsSome (g.D.Disk.contents s.disk) → IsIn s.geometry (g.D.Disk.contents s.disk) s.volume s.history from → ¬ (HasFailed (g.D.Disk.meter s.disk) (g.D.Disk.meter was.disk))
    → ComesTo s (seen was.disk was.geometry (Some c.in-Some.volume) was.history) told from (Begin c.args.seat Sync) (replied reply.Memory)) c.self.view_is (λ from tells is calm.
    no_memory was.disk was.disk was.geometry was.volume (Some c.in-Some.volume) c.in-Some.volume was.history was.history told told from is some refl c.args.seat c.requires Sync refl refl refl)

pub save-requires-clause-storable : goal.save-requires-clause-storable
save-requires-clause-storable g c =
    let was = c.self.inside in
    let some : was.volume ≡ Some c.in-Some.volume = sym c.take.ensures.value ∙ c.in-Some.is in
    let opened = of_some (IsOpen was.geometry was.history) was.volume c.in-Some.volume some c.self.invariant.opened in
    subst (IsStorable c.in-Some.volume.stored.geometry) (sym c.tree.ensures)
    (subst (λ e. IsStorable e c.in-Some.volume.files) (sym opened.sizes) (storable was.geometry c.self.invariant.sizes c.in-Some.volume.files opened.flat))

pub returns-in-Ok-save-clause-comes : goal.returns-in-Ok-save-clause-comes
returns-in-Ok-save-clause-comes g c =
    let was = c.self.inside in
    let volume = c.in-Some.volume in
    let new : Volume = record { files = volume.files; stored = c.in-Ok-save.stored } in
    let told = g.D.Disk.contents was.disk in
    let after = g.D.Disk.contents c.save.new.disk in
    let some : was.volume ≡ Some volume = sym c.take.ensures.value ∙ c.in-Some.is in
    let opened = of_some (IsOpen was.geometry was.history) was.volume volume some c.self.invariant.opened in
    let early : length was.history.entries < MOST_ENTRIES = omega (arith, c.len.ensures, c.if-len-ge-MOST_ENTRIES.false) in
    let saved = subst (λ files. WhereTold told after (IsSaved volume.stored files c.in-Ok-save.stored)) c.tree.ensures c.in-Ok-save.ensures.saved in
    let entries = c.add_checkpoint.ensures.entries ∙ ap (λ asked. was.history.entries ++ entry.Begin c.args.seat asked ∷ entry.CpBegin c.args.seat plan.Sync ∷ entry.CpTail c.args.seat ∷ entry.CpDone c.args.seat ∷ []) c.in-Ok.ensures in
    subst (λ s. (from : State) → IsSome (g.D.Disk.contents s.disk) → IsIn s.geometry (g.D.Disk.contents s.disk) s.volume s.history from → ¬ (HasFailed (g.D.Disk.meter s.disk) (g.D.Disk.meter c.save.new.disk))
    → ComesTo s (seen c.save.new.disk was.geometry (Some new) c.add_checkpoint.new.history) after from (Begin c.args.seat Sync) (replied reply.Synced)) c.self.view_is (λ from tells is calm.
    subst (λ v. ComesTo (seen was.disk was.geometry v was.history) (seen c.save.new.disk was.geometry (Some new) c.add_checkpoint.new.history) after from (Begin c.args.seat Sync) (replied reply.Synced)) (sym some)
    (syncs was.disk c.save.new.disk was.geometry told after was.history c.add_checkpoint.new.history from c.in-Ok-save.stored volume (subst (λ v. IsIn was.geometry told v was.history from) some is) opened.flat c.args.seat early c.requires
    tells c.in-Ok-save.ensures.next.geometry c.in-Ok-save.ensures.version saved entries c.add_checkpoint.ensures.choices))

pub returns-in-Err-Memory-clause-comes : goal.returns-in-Err-Memory-clause-comes
returns-in-Err-Memory-clause-comes g c =
    let was = c.self.inside in
    let told = g.D.Disk.contents was.disk in
    let after = g.D.Disk.contents c.save.new.disk in
    let some : was.volume ≡ Some c.in-Some.volume = sym c.take.ensures.value ∙ c.in-Some.is in
    let same = (c.in-Err-Memory.ensures.memory (ap (λ e. Err e) c.in-Err-Memory.field-0-is)).0 in
    subst (λ s. (from : State) → IsSome (g.D.Disk.contents s.disk) → IsIn s.geometry (g.D.Disk.contents s.disk) s.volume s.history from → ¬ (HasFailed (g.D.Disk.meter s.disk) (g.D.Disk.meter c.save.new.disk))
    → ComesTo s (seen c.save.new.disk was.geometry (Some c.in-Some.volume) was.history) after from (Begin c.args.seat Sync) (replied reply.Memory)) c.self.view_is (λ from tells is calm.
    no_memory was.disk c.save.new.disk was.geometry was.volume (Some c.in-Some.volume) c.in-Some.volume was.history was.history told after from is some refl c.args.seat c.requires Sync refl refl same)
