use Rattle.std.proofs.Common.{max, ap, ◌∙◌}
use Rattle.f2_pages.specs.Kept.{Kept}
use Rattle.f2_pages.proofs.Pages.{shown-same}
use Rattle.f2_pages.proofs.Stores.{same_kept, on_err}
use Rattle.f2_pages.proofs.store.PageStore.ready.Goals as goal

pub returns-in_err-fill-clause-err : goal.returns-in_err-fill-clause-err
returns-in_err-fill-clause-err c =
    on_err c.from_residual-in_err-fill.result _
    (same_kept
    (shown-same (λ b. b.value) c.self.inside.dirty.entries c.reserve.new.self.entries c.in_ok-reserve.ensures.entries.2 ∙ ap (λ (k : Kept). k.dirty) c.self.view_is)
    (ap (λ (k : Kept). k.clean) c.self.view_is)
    (ap (λ (k : Kept). k.spare) c.self.view_is)
    (ap (λ (k : Kept). k.room) c.self.view_is))

pub returns-clause-ok : goal.returns-clause-ok
returns-clause-ok c =
    same_kept
    (shown-same (λ b. b.value) c.self.inside.dirty.entries c.reserve.new.self.entries c.in_ok-reserve.ensures.entries.2 ∙ ap (λ (k : Kept). k.dirty) c.self.view_is)
    (ap (λ (k : Kept). k.clean) c.self.view_is)
    (c.max-self-inside.ensures ∙ ap (λ (k : Kept). max k.spare c.args.n) c.self.view_is)
    (ap (λ (k : Kept). k.room) c.self.view_is)
