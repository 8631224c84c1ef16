use Rattle.std.proofs.Common.{◌++◌, ◌∷◌, [], Some, Err, inl, inr, refl, sym, ap, ◌∙◌, subst}
use Rattle.std.specs.Prelude.{IsSome}
use Rattle.f2_disk.specs.Contents.{WhereTold}
use Rattle.f2_disk.specs.Meter.{HasFailed}
use Rattle.f2_model.specs.State.{State}
use Rattle.f2_model.specs.declared.events.Answer.TheVariants as answers
use Rattle.f2_model.specs.declared.events.MountRefusal.TheVariants as refusals
use Rattle.f2_model.specs.Step.{MOUNT_SEAT}
use Rattle.f2_model.specs.declared.events.Event.TheVariants.{Mount}
use Rattle.f2_model.specs.declared.replies.Plan.TheVariants as plan
use Rattle.f2_model.specs.declared.histories.Entry.TheVariants as entry
use Rattle.f2_laid.specs.Laid.{IsStorable}
use Rattle.f2_core.specs.Seen.{IsIn}
use Rattle.f2_core.specs.Events.{ComesTo}
use Rattle.f2_plain_save.specs.Saves.{IsSaved}
use Rattle.f2_core.specs.declared.volumes.Volume.{Volume}
use Rattle.f2_core.proofs.Comes.{seen}
use Rattle.f2_core.proofs.Finding.{on_ok}
use Rattle.f2_core.proofs.FlatTrees.{storable}
use Rattle.f2_core.proofs.Mounted.{on_err, some_of, none_of, still_told, found_is, not_found}
use Rattle.f2_core.proofs.Saved.{mounts}
use Rattle.f2_core.proofs.Unchanged.{already_open, unmounted}
use Rattle.f2_core.proofs.machine.Core.mount.Goals as goal

pub returns-then-is_some-clause-comes : goal.returns-then-is_some-clause-comes
returns-then-is_some-clause-comes g c =
    let was = c.self.inside in
    let told = g.D.Disk.contents was.disk in
    let some = some_of was.volume (sym c.is_some.ensures ∙ c.if-is_some.true) in
    subst (λ s. (from : State) → IsSome (g.D.Disk.contents s.disk) → IsIn s.geometry (g.D.Disk.contents s.disk) s.volume s.history from → ¬ (HasFailed (g.D.Disk.meter s.disk) (g.D.Disk.meter s.disk))
    → ComesTo s s (g.D.Disk.contents s.disk) from Mount answers.AlreadyMounted) c.self.view_is (λ from tells is calm.
    already_open was.disk was.disk was.geometry was.volume some.0 was.history was.history told told from is some.1 refl refl refl)

pub returns-then-is_err-clause-comes : goal.returns-then-is_err-clause-comes
returns-then-is_err-clause-comes g c =
    let was = c.self.inside in
    let told = g.D.Disk.contents was.disk in
    let none = none_of was.volume (sym c.is_some.ensures ∙ c.if-is_some.false) in
    let same = on_err c.room.result (sym c.is_err.ensures.value ∙ c.if-is_err.true) c.room.ensures.err in
    subst (λ s. (from : State) → IsSome (g.D.Disk.contents s.disk) → IsIn s.geometry (g.D.Disk.contents s.disk) s.volume s.history from → ¬ (HasFailed (g.D.Disk.meter s.disk) (g.D.Disk.meter was.disk))
    → ComesTo s (seen was.disk was.geometry was.volume c.room.new.self) told from Mount (answers.NotMounted refusals.NoMemory)) c.self.view_is (λ from tells is calm.
    unmounted was.disk was.disk was.geometry was.volume was.history c.room.new.self told told from is none (ap (λ h. h.entries) same) (ap (λ h. h.choices) same) refl)

pub returns-in-Err-clause-comes : goal.returns-in-Err-clause-comes
returns-in-Err-clause-comes g c =
    let was = c.self.inside in
    let told = g.D.Disk.contents was.disk in
    let after = g.D.Disk.contents c.find.new.disk in
    let none = none_of was.volume (sym c.is_some.ensures ∙ c.if-is_some.false) in
    let taken = on_ok c.room.result (sym c.is_err.ensures.value ∙ c.if-is_err.false) c.room.ensures.ok in
    subst (λ s. (from : State) → IsSome (g.D.Disk.contents s.disk) → IsIn s.geometry (g.D.Disk.contents s.disk) s.volume s.history from → ¬ (HasFailed (g.D.Disk.meter s.disk) (g.D.Disk.meter c.find.new.disk))
    → ComesTo s (seen c.find.new.disk was.geometry was.volume c.add_unfound.new.history) after from Mount (answers.NotMounted c.in-Err.refused)) c.self.view_is (λ from tells is calm.
    not_found was.disk c.find.new.disk was.geometry was.volume was.history c.room.new.self c.add_unfound.new.history told after from c.in-Err.refused is none
    (λ failed. calm (c.in-Err.ensures.cause (elim failed [ inl read ↦ inl (ap (λ e. Err e) read) | inr write ↦ inr (ap (λ e. Err e) write) ])))
    c.add_unfound.ensures.bad c.add_unfound.ensures.memory (ap (λ h. h.entries) taken) (ap (λ h. h.choices) taken)
    (still_told was.geometry told after from.base is.stored tells is.held c.in-Err.ensures.kept))

pub save-requires-clause-storable : goal.save-requires-clause-storable
save-requires-clause-storable g c =
    let sound = c.in-Ok.ensures.sound in
    subst (IsStorable c.in-Ok.volume.stored.geometry) (sym c.tree.ensures)
    (subst (λ e. IsStorable e c.in-Ok.volume.files) (sym sound.sizes) (storable c.self.inside.geometry c.self.invariant.sizes c.in-Ok.volume.files sound.flat))

pub returns-in-Ok-save-clause-comes : goal.returns-in-Ok-save-clause-comes
returns-in-Ok-save-clause-comes g c =
    let was = c.self.inside in
    let volume = c.in-Ok.volume in
    let new : Volume = record { files = volume.files; stored = c.in-Ok-save.stored } in
    let told = g.D.Disk.contents was.disk in
    let mid = g.D.Disk.contents c.find.new.disk in
    let after = g.D.Disk.contents c.save.new.disk in
    let none = none_of was.volume (sym c.is_some.ensures ∙ c.if-is_some.false) in
    let taken = on_ok c.room.result (sym c.is_err.ensures.value ∙ c.if-is_err.false) c.room.ensures.ok in
    let saved = subst (λ files. WhereTold mid after (IsSaved volume.stored files c.in-Ok-save.stored)) c.tree.ensures c.in-Ok-save.ensures.saved in
    let more = entry.CpBegin MOUNT_SEAT plan.Sync ∷ entry.CpTail MOUNT_SEAT ∷ entry.CpDone MOUNT_SEAT ∷ [] in
    subst (λ s. (from : State) → IsSome (g.D.Disk.contents s.disk) → IsIn s.geometry (g.D.Disk.contents s.disk) s.volume s.history from → ¬ (HasFailed (g.D.Disk.meter s.disk) (g.D.Disk.meter c.save.new.disk))
    → ComesTo s (seen c.save.new.disk was.geometry (Some new) c.add_checkpoint.new.history) after from Mount (answers.Found 0)) c.self.view_is (λ from tells is calm.
    let closed = subst (λ v. IsIn was.geometry told v was.history from) none is in
    let same = found_is was.geometry told from.base closed.stored volume tells closed.flat closed.held c.in-Ok.ensures.found in
    let still = still_told was.geometry told mid from.base closed.stored tells closed.held c.in-Ok.ensures.kept in
    subst (λ v. ComesTo (seen was.disk was.geometry v was.history) (seen c.save.new.disk was.geometry (Some new) c.add_checkpoint.new.history) after from Mount (answers.Found 0)) (sym none)
    (mounts was.disk c.save.new.disk was.geometry told after was.history c.add_checkpoint.new.history from c.in-Ok-save.stored closed volume tells same.0 same.1
    c.in-Ok-save.ensures.next.geometry c.in-Ok-save.ensures.version (subst (λ o. WhereTold o after (IsSaved volume.stored volume.files c.in-Ok-save.stored)) still saved)
    (c.add_checkpoint.ensures.entries ∙ ap (λ h. h.entries ++ entry.Mounted 0 ∷ more) taken) (c.add_checkpoint.ensures.choices ∙ ap (λ h. h.choices ++ 0 ∷ 2 ∷ []) taken)))

pub returns-clause-comes : goal.returns-clause-comes
returns-clause-comes g c =
    let was = c.self.inside in
    let told = g.D.Disk.contents was.disk in
    let mid = g.D.Disk.contents c.find.new.disk in
    let after = g.D.Disk.contents c.save.new.disk in
    let none = none_of was.volume (sym c.is_some.ensures ∙ c.if-is_some.false) in
    let taken = on_ok c.room.result (sym c.is_err.ensures.value ∙ c.if-is_err.false) c.room.ensures.ok in
    let same = (c.in-Err-Memory.ensures.memory (ap (λ e. Err e) c.in-Err-Memory.field-0-is)).0 in
    subst (λ s. (from : State) → IsSome (g.D.Disk.contents s.disk) → IsIn s.geometry (g.D.Disk.contents s.disk) s.volume s.history from → ¬ (HasFailed (g.D.Disk.meter s.disk) (g.D.Disk.meter c.save.new.disk))
    → ComesTo s (seen c.save.new.disk was.geometry was.volume c.room.new.self) after from Mount (answers.NotMounted refusals.NoMemory)) c.self.view_is (λ from tells is calm.
    unmounted was.disk c.save.new.disk was.geometry was.volume was.history c.room.new.self told after from is none (ap (λ h. h.entries) taken) (ap (λ h. h.choices) taken)
    (same ∙ still_told was.geometry told mid from.base is.stored tells is.held c.in-Ok.ensures.kept))
