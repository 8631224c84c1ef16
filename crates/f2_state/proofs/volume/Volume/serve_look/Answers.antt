use Rattle.std.proofs.Common.{◌≡◌, inl, inr, List, true, [], ◌∷◌, ◌++◌, refl, sym, subst, ap, ◌∙◌}
use Rattle.std.specs.Prelude.{None, Err}
use Rattle.std.proofs.lemmas.List.{append-nil}
use Rattle.f2_disk.specs.Meter.{HasFailed}
use Rattle.f2_image_laws.specs.Rolled.{image_limits}
use Rattle.f2_model.specs.Call.{answer, refusal}
use Rattle.f2_model.specs.State.{State}
use Rattle.f2_model.specs.Step.{outcome_of, replied}
use Rattle.f2_model.specs.declared.events.Event.TheVariants.{Begin}
use Rattle.f2_model.specs.declared.histories.CallKind.TheVariants as kind
use Rattle.f2_model.specs.declared.histories.Entry.{Entry}
use Rattle.f2_model.specs.declared.histories.Entry.TheVariants as entry
use Rattle.f2_model.specs.declared.replies.Outcome.TheVariants as outcome
use Rattle.f2_model.specs.declared.replies.Reply.TheVariants as reply
use Rattle.f2_state.specs.Looks.{OnlyLooks}
use Rattle.f2_state.specs.Seen.{Seen}
use Rattle.f2_state.specs.Standing.{StandsIn, is_between}
use Rattle.f2_state.proofs.Advancing.{advances_by, step_told, step_failed, step_memory}
use Rattle.f2_state.proofs.Counted.{volume_counted}
use Rattle.f2_state.proofs.Standing.{between, proper_at}
use Rattle.f2_state.proofs.volume.Volume.serve_look.Goals as goal

pub invariant_of-self : goal.invariant_of-self
invariant_of-self g c = volume_counted _ (g.D.Disk.contents c.self.inside.disk) _ c.add_did.new.history c.self.invariant

pub invariant_of-self-in-Err-Read : goal.invariant_of-self-in-Err-Read
invariant_of-self-in-Err-Read g c = volume_counted _ (g.D.Disk.contents c.self.inside.disk) _ c.add_unread.new.history c.self.invariant

pub returns-in-Ok-clause-advances : goal.returns-in-Ok-clause-advances
returns-in-Ok-clause-advances g c = λ start from stands let_in.
    let old = c.args.self.now in
    let seat = c.args.seat in
    let request = c.args.request in
    let told = c.in-Ok.reply in
    let limits = image_limits old.geometry in
    let content = subst (λ r. (f : State) → StandsIn (g.D.Disk.contents old.disk) old f → is_between f ≡ true → refusal limits f.live r ≡ None → told ≡ answer f.live r) c.get.ensures c.in-Ok.ensures.content in
    let quiet = between from seat let_in.heard in
    advances_by g.D.Disk.contents g.D.Disk.meter old _ c.add_did.new.history (entry.Did seat request (outcome_of told) ∷ []) (Begin seat request) (replied told) start from
    (subst (λ mid. OnlyLooks g.D.Disk.contents g.D.Disk.meter old mid) (sym c.self.view_is) c.in-Ok.ensures.looks)
    c.add_did.ensures.entries c.add_did.ensures.choices stands
    (step_told limits _ from seat request c.requires.seat told c.requires.look (proper_at (g.D.Disk.contents old.disk) old from stands quiet) let_in (content from stands quiet let_in.unrefused))

pub returns-in-Err-Memory-clause-advances : goal.returns-in-Err-Memory-clause-advances
returns-in-Err-Memory-clause-advances g c = λ start from stands let_in.
    let old = c.args.self.now in
    let mid = c.seen.new.self in
    advances_by g.D.Disk.contents g.D.Disk.meter old mid mid.history [] (Begin c.args.seat c.args.request) (replied reply.Memory) start from c.in-Err-Memory.ensures.looks
    (sym (append-nil mid.history.entries)) refl stands (step_memory (image_limits old.geometry) _ from c.args.seat c.args.request c.requires.seat)

pub returns-in-Err-Read-clause-advances : goal.returns-in-Err-Read-clause-advances
returns-in-Err-Read-clause-advances g c = λ start from stands let_in.
    let old = c.args.self.now in
    let seat = c.args.seat in
    let request = c.args.request in
    let limits = image_limits old.geometry in
    let quiet = between from seat let_in.heard in
    let count = (g.D.Disk.meter c.self.inside.disk).faults in
    advances_by g.D.Disk.contents g.D.Disk.meter old _ c.add_unread.new.history (entry.Did seat request outcome.ReadFault ∷ entry.Fault seat kind.Read count ∷ []) (Begin seat request) (replied reply.ReadFault) start from
    (subst (λ mid. OnlyLooks g.D.Disk.contents g.D.Disk.meter old mid) (sym c.self.view_is) c.in-Err-Read.ensures.looks)
    (c.add_unread.ensures.entries ∙ ap (λ n. c.self.inside.history.entries ++ entry.Did seat request outcome.ReadFault ∷ entry.Fault seat kind.Read n ∷ []) c.faults-count.ensures)
    c.add_unread.ensures.choices stands
    (step_failed limits _ from seat request c.requires.seat c.requires.look (proper_at (g.D.Disk.contents old.disk) old from stands quiet) let_in
    (subst (λ mid. HasFailed (g.D.Disk.meter old.disk) (g.D.Disk.meter mid.disk)) (sym c.self.view_is) (c.seen.ensures.cause (c.in-Err-Read.is ∙ ap Err c.in-Err-Read.field-0-is))))

pub returns-in-Ok-clause-leaves : goal.returns-in-Ok-clause-leaves
returns-in-Ok-clause-leaves g c =
    let same = ap (λ (volume : Seen g.row.D.Denot). volume.history.entries) (c.self.view_is ∙ c.in-Ok.ensures.looks.rest) in
    inr (inl (c.add_did.ensures.entries ∙ ap (λ (es : List Entry). es ++ entry.Did c.args.seat c.args.request (outcome_of c.in-Ok.reply) ∷ []) same))

pub returns-in-Err-Memory-clause-leaves : goal.returns-in-Err-Memory-clause-leaves
returns-in-Err-Memory-clause-leaves g c = inl (ap (λ (volume : Seen g.row.D.Denot). volume.history.entries) c.in-Err-Memory.ensures.looks.rest)

pub returns-in-Err-Read-clause-leaves : goal.returns-in-Err-Read-clause-leaves
returns-in-Err-Read-clause-leaves g c =
    let seat = c.args.seat in
    let request = c.args.request in
    let count = (g.D.Disk.meter c.self.inside.disk).faults in
    let same = ap (λ (volume : Seen g.row.D.Denot). volume.history.entries) (c.self.view_is ∙ c.in-Err-Read.ensures.looks.rest) in
    inr (inr (
      subst (λ mid. HasFailed (g.D.Disk.meter c.args.self.now.disk) (g.D.Disk.meter mid.disk)) (sym c.self.view_is) (c.seen.ensures.cause (c.in-Err-Read.is ∙ ap Err c.in-Err-Read.field-0-is)),
      refl,
      c.add_unread.ensures.entries
          ∙ ap (λ n. c.self.inside.history.entries ++ entry.Did seat request outcome.ReadFault ∷ entry.Fault seat kind.Read n ∷ []) c.faults-count.ensures
          ∙ ap (λ (es : List Entry). es ++ entry.Did seat request outcome.ReadFault ∷ entry.Fault seat kind.Read count ∷ []) same,
    ))
