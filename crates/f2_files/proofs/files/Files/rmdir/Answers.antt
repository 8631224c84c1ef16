use Rattle.std.proofs.Common.{◌≡◌, Ok, Err, sym, ap, subst, ◌∙◌}
use Rattle.std.specs.FinMap as map
use Rattle.f2_model.specs.Tree.{walk}
use Rattle.f2_model.specs.declared.requests.Request.TheVariants.{Rmdir}
use Rattle.f2_laws.proofs.Passed.{passed}
use Rattle.f2_files.specs.Known.{Known, Follows}
use Rattle.f2_files.specs.Led.{led, without_name, Dirs, BindsNames}
use Rattle.f2_files.specs.Shape.{Shapes, IsShapeOf}
use Rattle.f2_files.specs.declared.shapes.Shape.{Shape}
use Rattle.f2_files.proofs.Keeping.{kept_less}
use Rattle.f2_files.proofs.Removing.{names_lead, shape_led, refusal_of_directory, rmdir_binds, rmdir_follows}
use Rattle.f2_files.proofs.files.Files.rmdir.Goals as goal

pub unreachable-requires : goal.unreachable-requires
unreachable-requires c =
    let dirs = c.self.inside.directories in
    let are = subst (λ (k : Known). IsShapeOf k.shapes c.requires.tree) (sym c.self.view_is) c.requires.shape in
    let stops : led dirs c.args.path.now ≡ Err c.in-Err.field-0 = ap (led dirs) (sym c.as_slice.ensures) ∙ sym c.led.ensures ∙ c.in-Err.is in
    names_lead c.self.inside.shapes dirs c.self.invariant c.requires.most c.requires.tree c.requires.good are c.args.path.now (refusal_of_directory (walk c.requires.tree c.args.path.now) (passed c.requires.limits c.requires.tree (Rmdir c.args.path.now) c.requires.unrefused).walks) c.in-Err.field-0 stops

pub invariant_of-self : goal.invariant_of-self
invariant_of-self c =
    let shapes = c.self.inside.shapes in
    let dirs = c.self.inside.directories in
    let are = subst (λ (k : Known). IsShapeOf k.shapes c.requires.tree) (sym c.self.view_is) c.requires.shape in
    let leads : led dirs c.args.path.now ≡ Ok (c.in-Ok.ino, c.in-Ok.field-0-1) = ap (led dirs) (sym c.as_slice.ensures) ∙ sym c.led.ensures ∙ c.in-Ok.is in
    let shape = shape_led shapes dirs c.self.invariant c.requires.most c.requires.tree c.requires.good are c.args.path.now (c.in-Ok.ino, c.in-Ok.field-0-1) leads in
    let row : Shape = shape.0 in
    let binds = rmdir_binds shapes dirs c.self.invariant c.requires.limits c.requires.most c.requires.tree c.requires.good are c.args.path.now (c.in-Ok.ino, c.in-Ok.field-0-1) leads row shape.1 c.requires.unrefused in
    let names = c.take_named.ensures.names row shape.1 ∙ ap (λ (d : Dirs). without_name d row.parent row.name) c.remove.ensures in
    subst (λ (s : Shapes). BindsNames s c.take_named.new.directories) (sym c.take_named.ensures.rows) (subst (BindsNames (map.remove shapes c.in-Ok.ino)) (sym names) binds)

pub returns-clause-follows : goal.returns-clause-follows
returns-clause-follows c =
    let dirs = c.self.inside.directories in
    let leads : led dirs c.args.path.now ≡ Ok (c.in-Ok.ino, c.in-Ok.field-0-1) = ap (led dirs) (sym c.as_slice.ensures) ∙ sym c.led.ensures ∙ c.in-Ok.is in
    let k : Known = record { shapes = c.self.inside.shapes; dirty_pages = c.self.inside.dirty_pages; dirty_nodes = c.self.inside.dirty_nodes; moved = c.self.inside.moved; shrunk = c.self.inside.shrunk; flights = c.self.inside.flights } in
    let follows = rmdir_follows k dirs c.self.invariant c.args.path.now (c.in-Ok.ino, c.in-Ok.field-0-1) leads in
    subst (λ (o : Known). Follows o (record k { shapes = c.take_named.new.shapes }) (Rmdir c.args.path.now) 0) c.self.view_is
    (subst (λ (s : Shapes). Follows k (record k { shapes = s }) (Rmdir c.args.path.now) 0) (sym c.take_named.ensures.rows) follows)

pub returns-clause-places : goal.returns-clause-places
returns-clause-places c = kept_less c.args.self.now _ c.self.inside.shapes (ap (λ (k : Known). k.shapes) c.self.view_is) c.in-Ok.ino c.take_named.ensures.rows
