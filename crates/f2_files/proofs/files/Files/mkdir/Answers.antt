use Rattle.std.proofs.Common.{◌≡◌, Ok, Err, sym, ap, subst, ◌∙◌}
use Rattle.std.specs.FinMap as map
use Rattle.f2_model.specs.declared.requests.Request.TheVariants.{Mkdir}
use Rattle.f2_laws.proofs.Passed.{passed}
use Rattle.f2_files.specs.Known.{Known, Follows}
use Rattle.f2_files.specs.Led.{Dirs, with_name, BindsNames}
use Rattle.f2_files.specs.Refused.{led_parent}
use Rattle.f2_files.specs.Shape.{Shapes, IsShapeOf}
use Rattle.f2_files.specs.declared.shapes.Shape.{Shape}
use Rattle.f2_files.proofs.Changes.{put_taken}
use Rattle.f2_files.proofs.Creating.{mkdir_follows, directory_binds, no_directory, parent_leads}
use Rattle.f2_files.proofs.Keeping.{kept_new}
use Rattle.f2_files.proofs.files.Files.mkdir.Goals as goal

pub unreachable-requires : goal.unreachable-requires
unreachable-requires c =
    let allowed = c.requires.allowed in
    let are = subst (λ (k : Known). IsShapeOf k.shapes allowed.tree) (sym c.self.view_is) allowed.shape in
    let led : led_parent c.self.inside.directories c.args.path.now ≡ Err c.in-Err.field-0 = ap (led_parent c.self.inside.directories) (sym c.as_slice.ensures) ∙ sym c.led_parent.ensures ∙ c.in-Err.is in
    let pass = passed allowed.limits allowed.tree (Mkdir c.args.path.now) allowed.unrefused in
    parent_leads c.self.inside.shapes c.self.inside.directories c.self.invariant allowed.most allowed.tree allowed.good are c.args.path.now pass.walks c.in-Err.field-0 led

pub invariant_of-self-in-Ok-put_named : goal.invariant_of-self-in-Ok-put_named
invariant_of-self-in-Ok-put_named c =
    let allowed = c.requires.allowed in
    let shapes = c.self.inside.shapes in
    let dirs = c.self.inside.directories in
    let row : Shape = c.in_ok-row-in-Ok.row in
    let are = subst (λ (k : Known). IsShapeOf k.shapes allowed.tree) (sym c.self.view_is) allowed.shape in
    let led : led_parent dirs c.args.path.now ≡ Ok (c.in-Ok.parent, c.in-Ok.field-0-1) = ap (led_parent dirs) (sym c.as_slice.ensures) ∙ sym c.led_parent.ensures ∙ c.in-Ok.is in
    let pass = passed allowed.limits allowed.tree (Mkdir c.args.path.now) allowed.unrefused in
    let new = ap (λ (k : Known). map.get k.shapes c.args.ino) c.self.view_is ∙ c.requires.free in
    let binds = directory_binds shapes dirs c.self.invariant allowed.most allowed.tree allowed.good are c.args.path.now pass.free_name (c.in-Ok.parent, c.in-Ok.field-0-1) led c.args.ino new c.requires.above row c.in_ok-row-in-Ok.ensures in
    let names = c.in-Ok-put_named.ensures.names ∙ ap (λ (d : Dirs). with_name d row.parent row.name (row.ino, row.kind)) c.in_ok-add-in-Ok.ensures.ok in
    subst (λ (s : Shapes). BindsNames s c.put_named.new.directories) (sym c.in-Ok-put_named.ensures.rows) (subst (BindsNames (map.insert shapes row.ino row)) (sym names) binds)

pub invariant_of-self-in-Err-put_named : goal.invariant_of-self-in-Err-put_named
invariant_of-self-in-Err-put_named c =
    let shapes = c.self.inside.shapes in
    let dirs = c.self.inside.directories in
    let new = ap (λ (k : Known). map.get k.shapes c.args.ino) c.self.view_is ∙ c.requires.free in
    let left = c.remove.ensures ∙ ap (λ (d : Dirs). map.remove d c.args.ino) (c.in-Err-put_named.ensures.err_names ∙ c.in_ok-add-in-Ok.ensures.ok) ∙ put_taken dirs c.args.ino map.empty (no_directory shapes dirs c.self.invariant c.args.ino new) in
    subst (λ (s : Shapes). BindsNames s c.remove.new.self) (sym c.in-Err-put_named.ensures.err_rows) (subst (BindsNames shapes) (sym left) c.self.invariant)

pub returns-in-Ok-put_named-clause-ok : goal.returns-in-Ok-put_named-clause-ok
returns-in-Ok-put_named-clause-ok c =
    let led : led_parent c.self.inside.directories c.args.path.now ≡ Ok (c.in-Ok.parent, c.in-Ok.field-0-1) = ap (led_parent c.self.inside.directories) (sym c.as_slice.ensures) ∙ sym c.led_parent.ensures ∙ c.in-Ok.is in
    let k : Known = record { shapes = c.self.inside.shapes; dirty_pages = c.self.inside.dirty_pages; dirty_nodes = c.self.inside.dirty_nodes; moved = c.self.inside.moved; shrunk = c.self.inside.shrunk; flights = c.self.inside.flights } in
    subst (λ (o : Known). Follows o (record k { shapes = c.put_named.new.shapes }) (Mkdir c.args.path.now) c.args.ino) c.self.view_is
    (mkdir_follows k c.self.inside.directories c.self.invariant c.args.path.now (c.in-Ok.parent, c.in-Ok.field-0-1) led c.args.ino c.put_named.new.shapes
    (c.in-Ok-put_named.ensures.rows ∙ ap (λ (r : Shape). map.insert k.shapes r.ino r) c.in_ok-row-in-Ok.ensures))

pub returns-in-Ok-put_named-clause-places : goal.returns-in-Ok-put_named-clause-places
returns-in-Ok-put_named-clause-places c =
    let row : Shape = c.in_ok-row-in-Ok.row in
    let own : row.ino ≡ c.args.ino = ap (λ (r : Shape). r.ino) c.in_ok-row-in-Ok.ensures in
    kept_new c.args.self.now _ c.self.inside.shapes (ap (λ (k : Known). k.shapes) c.self.view_is) row.ino row
    (ap (map.get c.self.inside.shapes) own ∙ ap (λ (k : Known). map.get k.shapes c.args.ino) c.self.view_is ∙ c.requires.free) c.in-Ok-put_named.ensures.rows
    (ap (λ (r : Shape). r.pages) c.in_ok-row-in-Ok.ensures) (ap (λ (r : Shape). r.nids) c.in_ok-row-in-Ok.ensures)
