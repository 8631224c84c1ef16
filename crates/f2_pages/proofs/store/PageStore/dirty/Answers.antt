use Rattle.std.proofs.Common.{Some, ap, sym, ◌∙◌}
use Rattle.std.specs.Prelude.{option_map}
use Rattle.std.specs.FinMap as map
use Rattle.f2_pages.specs.Kept.{Kept}
use Rattle.f2_pages.proofs.Pages.{get-shown}
use Rattle.f2_pages.proofs.store.PageStore.dirty.Goals as goal

pub returns-in-Some : goal.returns-in-Some
returns-in-Some c =
    ap Some c.deref.ensures ∙ ap (option_map (λ b. b.value)) c.in-Some.ensures.value
    ∙ sym (get-shown (λ b. b.value) c.self.inside.dirty.entries c.args.page)
    ∙ ap (λ (k : Kept). map.get k.dirty c.args.page) c.self.view_is

pub returns-in-None : goal.returns-in-None
returns-in-None c =
    ap (option_map (λ b. b.value)) c.in-None.ensures.value
    ∙ sym (get-shown (λ b. b.value) c.self.inside.dirty.entries c.args.page)
    ∙ ap (λ (k : Kept). map.get k.dirty c.args.page) c.self.view_is
