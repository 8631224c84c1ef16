use Rattle.std.proofs.Common.{◌==◌, sym, ap, ◌∙◌}
use Rattle.std.specs.FinMap as map
use Rattle.f2_dir.specs.Entries.{Entries}
use Rattle.f2_files.proofs.Placed.{len-view}
use Rattle.f2_files.proofs.bindings.Bindings.is_empty.Goals as goal

pub returns : goal.returns
returns c = ap (λ n. n == 0) (c.len.ensures.len ∙ sym (len-view (λ k. k.items) c.self.inside.names.entries c.len.ensures.ordered) ∙ ap (λ (m : Entries). map.len m) c.self.view_is)
