use Rattle.std.proofs.Common.{◌≡◌, ◌<◌, ◌≤◌, true, false, ◌++◌, [], ◌∷◌, length, Some, arith, sym, ap, ◌∙◌, subst, inl, inr, refl}
use Rattle.std.specs.Prelude.{◌⊎◌}
use Rattle.f2_model.specs.Step.{MOST_ENTRIES, outcome_of, replied}
use Rattle.f2_model.specs.declared.events.Event.TheVariants.{Begin}
use Rattle.f2_model.specs.declared.replies.Reply.TheVariants as reply
use Rattle.f2_model.specs.declared.replies.Outcome.TheVariants as outcome
use Rattle.f2_model.specs.declared.histories.Entry.TheVariants as entry
use Rattle.f2_model.specs.State.{State}
use Rattle.f2_flat.specs.Flat.{IsFlat, limits_of}
use Rattle.f2_flat.specs.Calls.{IsRefused}
use Rattle.f2_core.specs.Seen.{IsIn}
use Rattle.f2_core.specs.declared.volumes.Volume.{Volume}
use Rattle.f2_core.specs.Changes.{IsChanged}
use Rattle.f2_core.specs.Events.{ComesTo}
use Rattle.f2_core.proofs.Comes.{seen, stays}
use Rattle.f2_core.proofs.Changing.{changes, refuses, refused-calm}
use Rattle.f2_core.proofs.Refusals.{untold}
use Rattle.f2_core.proofs.Steps.{step-spent, step-memory}
use Rattle.f2_core.proofs.machine.Core.change_in.Goals as goal

no_test : false ≡ true → ⊥
no_test e = cc

other_one : {A B : Type 0} → A ⊎ B → ¬ A → B
other_one (inl a) not = absurd (not a)
other_one (inr b) not = b

pub returns-then-len-ge-MOST_ENTRIES-clause-comes : goal.returns-then-len-ge-MOST_ENTRIES-clause-comes
returns-then-len-ge-MOST_ENTRIES-clause-comes g c = λ from is.
    let was = c.args.self.now in
    let told = g.D.Disk.contents was.disk in
    let len = ap (λ s. length s.history.entries) c.self.view_is in
    let late : MOST_ENTRIES ≤ from.entries = (let count = is.entries in omega (arith, count, len, c.len.ensures, c.if-len-ge-MOST_ENTRIES.true)) in
    stays was.disk was.disk was.geometry (Some c.args.volume.now) was.history was.history told told from is (Begin c.args.seat c.args.request) (replied reply.Spent)
    (step-spent (limits_of was.geometry) from c.args.seat c.requires.seat c.args.request is.mode late) (λ short. inl short) refl refl refl

pub returns-in_default-clause-comes : goal.returns-in_default-clause-comes
returns-in_default-clause-comes g c = λ from is.
    let was = c.args.self.now in
    let told = g.D.Disk.contents was.disk in
    stays was.disk was.disk was.geometry (Some c.args.volume.now) was.history was.history told told from is (Begin c.args.seat c.args.request) (replied reply.Memory)
    (step-memory (limits_of was.geometry) from c.args.seat c.requires.seat c.args.request) (λ short. inl short) refl refl refl

pub returns-then-is_memory-clause-comes : goal.returns-then-is_memory-clause-comes
returns-then-is_memory-clause-comes g c = λ from is.
    let was = c.args.self.now in
    let volume = c.args.volume.now in
    let told = g.D.Disk.contents was.disk in
    subst (λ said. ComesTo (seen was.disk was.geometry (Some volume) was.history) (seen was.disk was.geometry (Some (record { files = c.change_files.new.files; stored = volume.stored })) was.history) told from (Begin c.args.seat c.args.request) (replied said))
    (sym (c.if-is_memory.ensures.0 refl))
    (subst (λ files. ComesTo (seen was.disk was.geometry (Some volume) was.history) (seen was.disk was.geometry (Some (record { files = files; stored = volume.stored })) was.history) told from (Begin c.args.seat c.args.request) (replied reply.Memory))
    (sym c.in-Err.ensures.kept)
    (stays was.disk was.disk was.geometry (Some volume) was.history was.history told told from is (Begin c.args.seat c.args.request) (replied reply.Memory)
    (step-memory (limits_of was.geometry) from c.args.seat c.requires.seat c.args.request) (λ short. inl short) refl refl refl))

pub returns-in-Err-clause-comes : goal.returns-in-Err-clause-comes
returns-in-Err-clause-comes g c =
    let was = c.self.inside in
    let volume = c.args.volume.now in
    let refusal = c.in-Err.refusal in
    let new : Volume = record { files = c.change_files.new.files; stored = volume.stored } in
    let told = g.D.Disk.contents was.disk in
    let early : length was.history.entries < MOST_ENTRIES = omega (arith, c.len.ensures, c.if-len-ge-MOST_ENTRIES.false) in
    let flat : IsFlat was.geometry volume.files = subst (λ s. IsFlat s.geometry volume.files) (sym c.self.view_is) c.requires.opened.flat in
    let why = subst (λ asked. (refusal ≡ reply.Memory) ⊎ IsRefused was.geometry volume.files asked refusal) (c.get.ensures ∙ c.in-Ok.ensures) c.in-Err.ensures.refused in
    let out = other_one why (λ same. no_test (c.if-is_memory.ensures.1 same)) in
    let entries = c.add_did.ensures.entries ∙ ap (λ asked. was.history.entries ++ entry.Did c.args.seat asked (outcome_of refusal) ∷ []) c.in-Ok.ensures in
    subst (λ s. (from : State) → IsIn s.geometry (g.D.Disk.contents s.disk) (Some volume) s.history from
    → ComesTo (record s { volume = Some volume }) (seen was.disk was.geometry (Some new) c.add_did.new.history) told from (Begin c.args.seat c.args.request) (replied refusal)) c.self.view_is (λ from is.
    refuses was.geometry c.self.invariant.sizes told volume was.history from is flat was.disk c.add_did.new.history c.args.seat c.requires.seat c.args.request c.requires.change early c.change_files.new.files refusal out c.in-Err.ensures.kept entries c.add_did.ensures.choices)

pub returns-in-Err-clause-calm : goal.returns-in-Err-clause-calm
returns-in-Err-clause-calm g c =
    let volume = c.args.volume.now in
    let refusal = c.in-Err.refusal in
    let why = subst (λ asked. (refusal ≡ reply.Memory) ⊎ IsRefused c.self.inside.geometry volume.files asked refusal) (c.get.ensures ∙ c.in-Ok.ensures) c.in-Err.ensures.refused in
    untold refusal (refused-calm c.self.inside.geometry volume.files c.args.request c.requires.change refusal (other_one why (λ same. no_test (c.if-is_memory.ensures.1 same))))

pub returns-clause-comes : goal.returns-clause-comes
returns-clause-comes g c =
    let was = c.self.inside in
    let volume = c.args.volume.now in
    let new : Volume = record { files = c.change_files.new.files; stored = volume.stored } in
    let told = g.D.Disk.contents was.disk in
    let early : length was.history.entries < MOST_ENTRIES = omega (arith, c.len.ensures, c.if-len-ge-MOST_ENTRIES.false) in
    let flat : IsFlat was.geometry volume.files = subst (λ s. IsFlat s.geometry volume.files) (sym c.self.view_is) c.requires.opened.flat in
    let made = subst (λ asked. IsChanged was.geometry volume.files c.change_files.new.files asked c.in-Ok-change_files.choice) (c.get.ensures ∙ c.in-Ok.ensures) c.in-Ok-change_files.ensures.changed in
    let entries = c.add_did-2.ensures.entries ∙ ap (λ asked. was.history.entries ++ entry.Did c.args.seat asked outcome.Done ∷ []) c.in-Ok.ensures in
    subst (λ s. (from : State) → IsIn s.geometry (g.D.Disk.contents s.disk) (Some volume) s.history from
    → ComesTo (record s { volume = Some volume }) (seen was.disk was.geometry (Some new) c.add_did-2.new.history) told from (Begin c.args.seat c.args.request) (replied reply.Done)) c.self.view_is (λ from is.
    changes was.geometry c.self.invariant.sizes told volume was.history from is flat was.disk c.add_did-2.new.history c.args.seat c.requires.seat c.args.request c.requires.change early c.change_files.new.files c.in-Ok-change_files.choice made entries c.add_did-2.ensures.choices)
