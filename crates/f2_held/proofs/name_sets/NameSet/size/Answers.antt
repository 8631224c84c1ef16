use Rattle.std.proofs.Common.{◌∙◌, ap}
use Rattle.f2_held.specs.Taken.{of_names}
use Rattle.f2_held.specs.Sums.{of_blocks}
use Rattle.f2_held.proofs.NameLemmas.{size_is}
use Rattle.f2_held.proofs.name_sets.NameSet.size.Goals as goal

pub returns-clause-size : goal.returns-clause-size
returns-clause-size c =
    c.size_of.ensures.size ∙ ap (λ reach. of_blocks reach.0) c.reach.view_is ∙ size_is c.self.inside.names.items c.self.inside.reach c.self.invariant ∙ ap of_names c.self.view_is
