use Rattle.std.proofs.Common.{refl, ap, ◌∙◌}
use Rattle.std.specs.FinSet as set
use Rattle.f2_index.specs.Paged.{Paged}
use Rattle.f2_index.specs.Nodes.{dirty_of}
use Rattle.f2_index.proofs.Indexed.{same_shown, AreNodesOf-cleaned, dirty_of-cleaned}
use Rattle.f2_index.proofs.index.Index.clean.Goals as goal

pub invariant_of-self : goal.invariant_of-self
invariant_of-self c = rw c.clean.ensures (AreNodesOf-cleaned c.self.inside.pages c.self.inside.nodes c.self.invariant c.args.offset)

pub returns : goal.returns
returns c =
    let dirty = ap dirty_of c.clean.ensures ∙ dirty_of-cleaned c.self.inside.pages c.self.inside.nodes c.self.invariant c.args.offset in
    let changed = same_shown refl dirty in
    changed ∙ ap (λ (v : Paged). record v { dirty = set.remove v.dirty c.args.offset }) c.self.view_is
