use Rattle.std.proofs.Common.{ap, ◌∙◌}
use Rattle.std.specs.Map.Iter.{deref_pair}
use Rattle.std.proofs.lemmas.Map.Iter.{iter_end}
use Rattle.f2_model.proofs.MapViews.{entries-seen}
use Rattle.f2_takeover.proofs.nodes.TakenNodes.listed.Invariants.{nodes_in}
use Rattle.f2_takeover.proofs.nodes.TakenNodes.listed.Goals as goal

pub returns : goal.returns
returns c =
    let entries = c.self.inside.nodes.entries in
    let all = iter_end deref_pair entries c.loop-offset.yielded _ c.loop-offset.offset-iterator c.next.new.self c.next.result c.into_iter-offset-iterator.ensures.into_iter_gives.0 c.loop-offset.yielded_by c.in-None.is c.next.ensures.steps in
    c.loop-offset.invariant ∙ ap (λ es. nodes_in es) (all.0 ∙ entries-seen _ _ c.self.view_is c.len.ensures.ordered)
