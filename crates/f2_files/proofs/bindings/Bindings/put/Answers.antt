use Rattle.std.proofs.Common.{ap, ◌∙◌}
use Rattle.std.specs.Prelude.{map as list_map}
use Rattle.std.specs.FinMap as map
use Rattle.f2_dir.proofs.Names.{view, view-insert_entry}
use Rattle.f2_files.proofs.bindings.Bindings.put.Goals as goal

pub returns-clause-ok : goal.returns-clause-ok
returns-clause-ok c =
    ap (λ es. map.from_entries (list_map (λ e. (e.0.items, e.1)) es)) c.in_ok-insert.ensures.entries
    ∙ view-insert_entry (λ k. k.items) c.self.inside.names.entries c.into_vec.result (c.args.ino, c.args.kind)
    ∙ ap (λ q. map.insert (view (λ k. k.items) c.self.inside.names.entries) q (c.args.ino, c.args.kind)) c.into_vec.ensures
    ∙ ap (λ m. map.insert m c.args.name (c.args.ino, c.args.kind)) c.self.view_is
