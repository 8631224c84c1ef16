use Rattle.std.proofs.Common.{sym, ap, ◌∙◌}
use Rattle.std.specs.FinMap as map
use Rattle.f2_dir.specs.Entries.{Entries}
use Rattle.f2_files.proofs.Placed.{values-view}
use Rattle.f2_files.proofs.bindings.Bindings.places.Goals as goal

pub returns-clause-places : goal.returns-clause-places
returns-clause-places c = c.values.ensures.rest ∙ sym (values-view (λ k. k.items) c.self.inside.names.entries c.values.ensures.ordered) ∙ ap (λ (m : Entries). map.values m) c.self.view_is
