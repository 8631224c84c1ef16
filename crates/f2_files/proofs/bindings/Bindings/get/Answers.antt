use Rattle.std.proofs.Common.{ap, sym, ◌∙◌}
use Rattle.std.specs.FinMap as map
use Rattle.f2_dir.proofs.Names.{get-view}
use Rattle.f2_files.proofs.bindings.Bindings.get.Goals as goal

pub returns : goal.returns
returns c =
    c.copied.ensures ∙ c.get.ensures.value
    ∙ sym (get-view (λ k. k.items) c.self.inside.names.entries c.as_slice.result.now)
    ∙ ap (λ m. map.get m c.as_slice.result.now) c.self.view_is
    ∙ ap (λ q. map.get c.args.self.now q) c.as_slice.ensures
