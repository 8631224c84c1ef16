use Rattle.std.proofs.Common.{ap, ◌∙◌, subst}
use Rattle.f2_image.specs.Chains.{Logged}
use Rattle.f2_image.specs.Reached.{IsDirect}
use Rattle.f2_overlay.proofs.LastPlaces.{offset_read, last_found, direct_taken, late_passed, unmarked_passed}
use Rattle.f2_overlay.proofs.lasts.LastMarks.takes_at.Goals as goal

pub returns-then-place-last-clause-taken : goal.returns-then-place-last-clause-taken
returns-then-place-last-clause-taken c = λ is image ckpt whole.
    let log = c.args.log.now in
    let own = c.deref.ensures ∙ ap (λ (l : Logged). l.block) c.logged.view_is in
    let last = last_found log c.args.place c.index-log-place.result c.deref.result.now c.read-footer.result c.requires.within c.index-log-place.is own c.read-footer.ensures
    c.args.self.now c.get.result c.requires.lasts c.get.ensures in
    let offset = offset_read log c.args.place c.index-log-place.result c.deref.result.now c.read-footer.result c.requires.within c.index-log-place.is own c.read-footer.ensures in
    direct_taken image ckpt log whole c.args.place c.requires.within c.in-Some.last (last ∙ c.in-Some.is) c.if-place-last.true (subst IsDirect offset (c.is_direct.ensures.direct is))

pub returns-else-place-last-clause-passed : goal.returns-else-place-last-clause-passed
returns-else-place-last-clause-passed c = λ isnt image ckpt whole.
    let log = c.args.log.now in
    let own = c.deref.ensures ∙ ap (λ (l : Logged). l.block) c.logged.view_is in
    let last = last_found log c.args.place c.index-log-place.result c.deref.result.now c.read-footer.result c.requires.within c.index-log-place.is own c.read-footer.ensures
    c.args.self.now c.get.result c.requires.lasts c.get.ensures in
    let offset = offset_read log c.args.place c.index-log-place.result c.deref.result.now c.read-footer.result c.requires.within c.index-log-place.is own c.read-footer.ensures in
    late_passed image ckpt log whole c.args.place c.requires.within c.in-Some.last (λ none. c.if-footer-eq0.false (offset ∙ none)) (last ∙ c.in-Some.is) c.if-place-last.false

pub returns-in-None-clause-passed : goal.returns-in-None-clause-passed
returns-in-None-clause-passed c = λ isnt image ckpt whole.
    let log = c.args.log.now in
    let own = c.deref.ensures ∙ ap (λ (l : Logged). l.block) c.logged.view_is in
    let last = last_found log c.args.place c.index-log-place.result c.deref.result.now c.read-footer.result c.requires.within c.index-log-place.is own c.read-footer.ensures
    c.args.self.now c.get.result c.requires.lasts c.get.ensures in
    let offset = offset_read log c.args.place c.index-log-place.result c.deref.result.now c.read-footer.result c.requires.within c.index-log-place.is own c.read-footer.ensures in
    unmarked_passed image ckpt log whole c.args.place c.requires.within (λ none. c.if-footer-eq0.false (offset ∙ none)) (last ∙ c.in-None.is)
