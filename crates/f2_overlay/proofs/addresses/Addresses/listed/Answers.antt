use Rattle.std.proofs.Common.{ap, ◌∙◌}
use Rattle.std.specs.Map.Iter.{deref_pair}
use Rattle.std.proofs.lemmas.Map.Iter.{iter_end}
use Rattle.f2_model.proofs.MapViews.{entries-seen}
use Rattle.f2_overlay.proofs.addresses.Addresses.listed.Invariants.{pages_in}
use Rattle.f2_overlay.proofs.addresses.Addresses.listed.Goals as goal

pub returns : goal.returns
returns c =
    let entries = c.self.inside.pages.entries in
    let all = iter_end deref_pair entries c.loop-page.yielded _ c.loop-page.page-iterator c.next.new.self c.next.result c.into_iter-page-iterator.ensures.into_iter_gives.0 c.loop-page.yielded_by c.in-None.is c.next.ensures.steps in
    c.loop-page.invariant ∙ ap (λ es. pages_in es) (all.0 ∙ entries-seen _ _ c.self.view_is c.len.ensures.ordered)
