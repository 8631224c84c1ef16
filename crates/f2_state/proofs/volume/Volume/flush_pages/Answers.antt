use Rattle.std.proofs.Common.{sym, subst, ap, ◌∙◌, ◌++◌, [], ◌∷◌, refl}
use Rattle.std.specs.Prelude.{None}
use Rattle.std.specs.FinMap as map
use Rattle.std.proofs.lemmas.List.{append-nil}
use Rattle.f2_disk.specs.Contents.{flushed}
use Rattle.f2_files.specs.Known.{Known}
use Rattle.f2_model.specs.History.{History}
use Rattle.f2_model.specs.State.{InPages, InFsync, in_nodes}
use Rattle.f2_model.specs.Step.{step_failed}
use Rattle.f2_model.specs.declared.events.Answer.{Answer}
use Rattle.f2_model.specs.declared.events.Answer.TheVariants.{Stepped}
use Rattle.f2_model.specs.declared.events.Event.TheVariants.{Go}
use Rattle.f2_model.specs.declared.histories.Entry.TheVariants as entry
use Rattle.f2_model.specs.declared.modes.Mode.{Mode}
use Rattle.f2_model.specs.declared.replies.Step.TheVariants as step
use Rattle.f2_state.specs.Flushing.{HasWrittenPages}
use Rattle.f2_state.specs.Following.{Follows}
use Rattle.f2_state.specs.Standing.{IsVolume}
use Rattle.f2_state.proofs.Going.{with_flights, pages_at, pages_advance, fault_at, fault_advances, pages_fail}
use Rattle.f2_state.proofs.OneFlush.{made_follows, made_volume, failed_follows, failed_volume, if_ok, if_err, told_failed}
use Rattle.f2_state.proofs.volume.Volume.flush_pages.Goals as goal

pub invariant_of-self : goal.invariant_of-self
invariant_of-self g c =
    let has = subst (λ v. HasWrittenPages v c.args.seat c.args.ino) (sym c.self.view_is) c.requires.written in
    let closes = if_err c.flush.result _ _ c.flush.ensures.failed c.in_err-flush.was in
    let same = if_err c.flush.result _ _ c.flush.ensures.disk.failed c.in_err-flush.was in
    let cause = if_err c.flush.result _ _ c.flush.ensures.disk.cause c.in_err-flush.was in
    failed_volume g.D.Disk.contents g.D.Disk.meter _ c.flush.new.disk c.flush.new.history c.args.seat c.flush.ensures.disk.within same
    (fault_advances g.D.Disk.contents g.D.Disk.meter _ c.flush.new.disk c.flush.new.history c.args.seat c.args.ino closes.choices InPages has.progress has.come same cause
    (pages_fail c.self.inside.files c.args.seat c.args.ino has.progress has.written))
    (λ more lists from at. record { lists = lists; state = _; at = fault_at g.D.Disk.contents g.D.Disk.meter _ c.flush.new.disk c.flush.new.history c.args.seat c.args.ino InPages has.progress has.come cause (pages_fail c.self.inside.files c.args.seat c.args.ino has.progress has.written) lists from at more })
    c.flush.new.mode c.flush.new.files _ closes.closed closes.leaves refl closes.entries c.self.invariant

pub returns-in_err-flush-clause-follows : goal.returns-in_err-flush-clause-follows
returns-in_err-flush-clause-follows g c =
    let was = c.self.inside in
    let has = subst (λ v. HasWrittenPages v c.args.seat c.args.ino) (sym c.self.view_is) c.requires.written in
    let closes = if_err c.flush.result _ _ c.flush.ensures.failed c.in_err-flush.was in
    let same = if_err c.flush.result _ _ c.flush.ensures.disk.failed c.in_err-flush.was in
    let cause = if_err c.flush.result _ _ c.flush.ensures.disk.cause c.in_err-flush.was in
    subst (λ (told : Answer). Follows g.D.Disk.contents g.D.Disk.meter c.args.self.now
    (record { disk = c.flush.new.disk; geometry = was.geometry; mode = c.flush.new.mode; files = c.flush.new.files; pages = was.pages; history = c.flush.new.history }) (Go c.args.seat) told) (sym (told_failed step.Flushed c.from_residual.result c.from_residual.ensures.0))
    (subst (λ old. Follows g.D.Disk.contents g.D.Disk.meter old
    (record { disk = c.flush.new.disk; geometry = was.geometry; mode = c.flush.new.mode; files = c.flush.new.files; pages = was.pages; history = c.flush.new.history }) (Go c.args.seat) step_failed) c.self.view_is
    (failed_follows g.D.Disk.contents g.D.Disk.meter _ c.flush.new.disk c.flush.new.history c.args.seat c.flush.ensures.disk.within same
    (fault_advances g.D.Disk.contents g.D.Disk.meter _ c.flush.new.disk c.flush.new.history c.args.seat c.args.ino closes.choices InPages has.progress has.come same cause
    (pages_fail c.self.inside.files c.args.seat c.args.ino has.progress has.written))
    (λ more lists from at. record { lists = lists; state = _; at = fault_at g.D.Disk.contents g.D.Disk.meter _ c.flush.new.disk c.flush.new.history c.args.seat c.args.ino InPages has.progress has.come cause (pages_fail c.self.inside.files c.args.seat c.args.ino has.progress has.written) lists from at more })
    c.flush.new.mode c.flush.new.files _ closes.closed closes.leaves refl closes.entries))

pub invariant_of-self-2 : goal.invariant_of-self-2
invariant_of-self-2 g c =
    let was = c.self.inside in
    let has = subst (λ v. HasWrittenPages v c.args.seat c.args.ino) (sym c.self.view_is) c.requires.written in
    let kept = if_ok c.flush.result _ _ c.flush.ensures.made c.in_ok-flush.was in
    let told = if_ok c.flush.result _ _ c.flush.ensures.disk.made c.in_ok-flush.was in
    subst (λ (mode : Mode). IsVolume (g.D.Disk.meter c.flush.new.disk).blocks (g.D.Disk.contents c.flush.new.disk)
    (record { disk = c.flush.new.disk; geometry = was.geometry; mode = mode; files = c.progress.new.self; pages = was.pages; history = c.add.new.self })) (sym kept.0)
    (made_volume g.D.Disk.contents g.D.Disk.meter _ c.flush.new.disk c.add.new.self c.args.seat c.flush.ensures.disk.within (map.insert c.self.inside.files.flights c.args.seat (InFsync c.args.ino (in_nodes None))) (Stepped step.Flushed) told
    (pages_advance g.D.Disk.contents g.D.Disk.meter _ c.flush.new.disk c.add.new.self c.args.seat c.args.ino (c.add.ensures.choices ∙ append-nil _ ∙ ap (λ (h : History). h.choices) kept.2) has told
    (c.add.ensures.entries ∙ ap (λ (h : History). h.entries ++ entry.Flushed c.args.seat ∷ []) kept.2))
    (λ lists from at. record { lists = flushed lists; state = _; at = pages_at g.D.Disk.contents g.D.Disk.meter _ c.flush.new.disk c.add.new.self c.args.seat c.args.ino has lists from at (c.add.ensures.entries ∙ ap (λ (h : History). h.entries ++ entry.Flushed c.args.seat ∷ []) kept.2) })
    c.progress.new.self (c.progress.ensures ∙ ap (λ (f : Known). with_flights f (map.insert f.flights c.args.seat (InFsync c.args.ino (in_nodes None)))) kept.1) c.self.invariant)

pub returns-clause-follows : goal.returns-clause-follows
returns-clause-follows g c =
    let was = c.self.inside in
    let has = subst (λ v. HasWrittenPages v c.args.seat c.args.ino) (sym c.self.view_is) c.requires.written in
    let kept = if_ok c.flush.result _ _ c.flush.ensures.made c.in_ok-flush.was in
    let told = if_ok c.flush.result _ _ c.flush.ensures.disk.made c.in_ok-flush.was in
    subst (λ (mode : Mode). Follows g.D.Disk.contents g.D.Disk.meter c.args.self.now
    (record { disk = c.flush.new.disk; geometry = was.geometry; mode = mode; files = c.progress.new.self; pages = was.pages; history = c.add.new.self }) (Go c.args.seat) (Stepped step.Flushed)) (sym kept.0)
    (subst (λ old. Follows g.D.Disk.contents g.D.Disk.meter old
    (record { disk = c.flush.new.disk; geometry = was.geometry; mode = was.mode; files = c.progress.new.self; pages = was.pages; history = c.add.new.self }) (Go c.args.seat) (Stepped step.Flushed)) c.self.view_is
    (made_follows g.D.Disk.contents g.D.Disk.meter _ c.flush.new.disk c.add.new.self c.args.seat c.flush.ensures.disk.within (map.insert c.self.inside.files.flights c.args.seat (InFsync c.args.ino (in_nodes None))) (Stepped step.Flushed) told
    (pages_advance g.D.Disk.contents g.D.Disk.meter _ c.flush.new.disk c.add.new.self c.args.seat c.args.ino (c.add.ensures.choices ∙ append-nil _ ∙ ap (λ (h : History). h.choices) kept.2) has told
    (c.add.ensures.entries ∙ ap (λ (h : History). h.entries ++ entry.Flushed c.args.seat ∷ []) kept.2))
    (λ lists from at. record { lists = flushed lists; state = _; at = pages_at g.D.Disk.contents g.D.Disk.meter _ c.flush.new.disk c.add.new.self c.args.seat c.args.ino has lists from at (c.add.ensures.entries ∙ ap (λ (h : History). h.entries ++ entry.Flushed c.args.seat ∷ []) kept.2) })
    c.progress.new.self (c.progress.ensures ∙ ap (λ (f : Known). with_flights f (map.insert f.flights c.args.seat (InFsync c.args.ino (in_nodes None)))) kept.1)))
