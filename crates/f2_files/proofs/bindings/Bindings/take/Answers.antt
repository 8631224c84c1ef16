use Rattle.std.proofs.Common.{ap, sym, ◌∙◌}
use Rattle.std.specs.Prelude.{map as list_map}
use Rattle.std.specs.FinMap as map
use Rattle.std.specs.Map.{lookup}
use Rattle.f2_dir.proofs.Names.{is_named, get-view, view-remove_entry}
use Rattle.f2_files.proofs.bindings.Bindings.take.Goals as goal

pub returns-clause-taken : goal.returns-clause-taken
returns-clause-taken c =
    c.remove.ensures.value
    ∙ sym (get-view (λ k. k.items) c.self.inside.names.entries c.as_slice.result.now)
    ∙ ap (λ m. map.get m c.as_slice.result.now) c.self.view_is
    ∙ ap (λ q. map.get c.args.self.now q) c.as_slice.ensures

pub returns-clause-left : goal.returns-clause-left
returns-clause-left c =
    let es = c.self.inside.names.entries in
    let q = c.as_slice.result.now in
    ap (λ es. map.from_entries (list_map (λ e. (e.0.items, e.1)) es)) c.remove.ensures.entries
    ∙ view-remove_entry (λ k. k.items) es q (ap (lookup (is_named (λ k. k.items) q)) (sym c.remove.ensures.entries) ∙ c.remove.ensures.updates.1)
    ∙ ap (λ m. map.remove m q) c.self.view_is
    ∙ ap (λ q. map.remove c.args.self.now q) c.as_slice.ensures
