use Rattle.std.proofs.Common.{inl, inr, List, ◌++◌, ap, ◌∙◌, [], ◌∷◌, refl, sym, subst}
use Rattle.std.proofs.lemmas.List.{append-nil}
use Rattle.f2_image_laws.specs.Rolled.{image_limits}
use Rattle.f2_model.specs.Step.{outcome_of, replied}
use Rattle.f2_model.specs.declared.events.Event.TheVariants.{Begin}
use Rattle.f2_model.specs.declared.histories.Entry.{Entry}
use Rattle.f2_model.specs.declared.histories.Entry.TheVariants as entry
use Rattle.f2_state.specs.Barred.{IsLetIn}
use Rattle.f2_state.specs.declared.barring.Barred.TheVariants.{Unheard, Refused}
use Rattle.f2_state.specs.Looks.{OnlyLooks}
use Rattle.f2_state.specs.Seen.{Seen}
use Rattle.f2_state.proofs.Advancing.{advances_by, step_off, barred_of}
use Rattle.f2_state.proofs.Counted.{volume_counted}
use Rattle.f2_state.proofs.Unchanged.{looks_none}
use Rattle.f2_state.proofs.volume.Volume.look_with_room.Goals as goal

pub invariant_of-self : goal.invariant_of-self
invariant_of-self g c = volume_counted _ (g.D.Disk.contents c.self.inside.disk) _ c.add_did.new.history c.self.invariant

pub returns-in-Some-Unheard-clause-advances : goal.returns-in-Some-Unheard-clause-advances
returns-in-Some-Unheard-clause-advances g c = λ start from stands.
    let old = c.args.self.now in
    let off = barred_of (image_limits old.geometry) from c.args.seat c.args.request c.get.result.now c.in-Some-Unheard.field-0 (Unheard c.in-Some-Unheard.reply) c.get.ensures c.in-Some-Unheard.field-0-is (c.in-Some-Unheard.ensures from stands) in
    advances_by g.D.Disk.contents g.D.Disk.meter old old old.history [] (Begin c.args.seat c.args.request) (replied c.in-Some-Unheard.reply) start from (looks_none g.D.Disk.contents g.D.Disk.meter old)
    (sym (append-nil old.history.entries)) refl stands (step_off (image_limits old.geometry) _ from c.args.seat c.args.request c.requires.seat _ (off _))

pub returns-in-Some-Refused-clause-advances : goal.returns-in-Some-Refused-clause-advances
returns-in-Some-Refused-clause-advances g c = λ start from stands.
    let old = c.args.self.now in
    let off = barred_of (image_limits old.geometry) from c.args.seat c.args.request c.get.result.now c.in-Some-Refused.field-0 (Refused c.in-Some-Refused.reply) c.get.ensures c.in-Some-Refused.field-0-is (c.in-Some-Refused.ensures from stands) in
    advances_by g.D.Disk.contents g.D.Disk.meter old _ c.add_did.new.history (entry.Did c.args.seat c.args.request (outcome_of c.in-Some-Refused.reply) ∷ []) (Begin c.args.seat c.args.request) (replied c.in-Some-Refused.reply) start from
    (subst (λ mid. OnlyLooks g.D.Disk.contents g.D.Disk.meter old mid) (sym c.self.view_is) (looks_none g.D.Disk.contents g.D.Disk.meter old))
    c.add_did.ensures.entries c.add_did.ensures.choices stands (step_off (image_limits old.geometry) _ from c.args.seat c.args.request c.requires.seat _ (off _))

pub returns-in-None-clause-advances : goal.returns-in-None-clause-advances
returns-in-None-clause-advances g c = λ start from stands.
    c.serve_look.ensures.advances start from stands
    (subst (λ r. IsLetIn (image_limits c.args.self.now.geometry) from c.args.seat r) c.get.ensures (c.in-None.ensures from stands))

pub returns-in-Some-Unheard-clause-leaves : goal.returns-in-Some-Unheard-clause-leaves
returns-in-Some-Unheard-clause-leaves g c = inl refl

pub returns-in-Some-Refused-clause-leaves : goal.returns-in-Some-Refused-clause-leaves
returns-in-Some-Refused-clause-leaves g c =
    let same = ap (λ (volume : Seen g.row.D.Denot). volume.history.entries) c.self.view_is in
    inr (inl (c.add_did.ensures.entries ∙ ap (λ (es : List Entry). es ++ entry.Did c.args.seat c.args.request (outcome_of c.in-Some-Refused.reply) ∷ []) same))
