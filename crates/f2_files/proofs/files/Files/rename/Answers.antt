use Rattle.std.proofs.Common.{◌≡◌, inl, Ok, Err, List, ℕ, refl, sym, ap, subst, ◌∙◌}
use Rattle.std.specs.FinMap as map
use Rattle.f2_model.specs.Tree.{last_name}
use Rattle.f2_model.specs.State.{Inos}
use Rattle.f2_model.specs.declared.requests.Request.TheVariants.{Rename}
use Rattle.f2_files.specs.Known.{Known, Follows}
use Rattle.f2_files.specs.Led.{bound_in, led, with_name, without_name, Dirs, BindsNames}
use Rattle.f2_files.specs.Refused.{led_parent}
use Rattle.f2_files.specs.Shape.{Shapes, IsShapeOf}
use Rattle.f2_files.specs.declared.shapes.Shape.{Shape}
use Rattle.f2_files.proofs.Creating.{parent_leads}
use Rattle.f2_files.proofs.Keeping.{kept_put}
use Rattle.f2_files.proofs.Removing.{names_lead, shape_led}
use Rattle.f2_files.proofs.Renaming.{from_leads, to_leads, to_free, rename_binds, rename_follows}
use Rattle.f2_files.proofs.files.Files.rename.Goals as goal

pub unreachable-requires-in-Err : goal.unreachable-requires-in-Err
unreachable-requires-in-Err c =
    let dirs = c.self.inside.directories in
    let are = subst (λ (k : Known). IsShapeOf k.shapes c.requires.tree) (sym c.self.view_is) c.requires.shape in
    let stops : led dirs c.args.from.now ≡ Err c.in-Err.field-0 = ap (led dirs) (sym c.as_slice.ensures) ∙ sym c.led.ensures ∙ c.in-Err.is in
    names_lead c.self.inside.shapes dirs c.self.invariant c.requires.most c.requires.tree c.requires.good are c.args.from.now
    (from_leads c.self.inside.shapes dirs c.self.invariant c.requires.limits c.requires.most c.requires.tree c.requires.good are c.args.from.now c.args.to.now c.requires.unrefused) c.in-Err.field-0 stops

pub unreachable-requires : goal.unreachable-requires
unreachable-requires c =
    let dirs = c.self.inside.directories in
    let are = subst (λ (k : Known). IsShapeOf k.shapes c.requires.tree) (sym c.self.view_is) c.requires.shape in
    let stops : led_parent dirs c.args.to.now ≡ Err c.in-Err-led_parent.field-0 = ap (led_parent dirs) (sym c.as_slice-in-Ok.ensures) ∙ sym c.led_parent.ensures ∙ c.in-Err-led_parent.is in
    parent_leads c.self.inside.shapes dirs c.self.invariant c.requires.most c.requires.tree c.requires.good are c.args.to.now
    (to_leads c.self.inside.shapes dirs c.self.invariant c.requires.limits c.requires.most c.requires.tree c.requires.good are c.args.from.now c.args.to.now c.requires.unrefused) c.in-Err-led_parent.field-0 stops

pub bind_moved-requires : goal.bind_moved-requires
bind_moved-requires c =
    let dirs = c.self.inside.directories in
    let are = subst (λ (k : Known). IsShapeOf k.shapes c.requires.tree) (sym c.self.view_is) c.requires.shape in
    let onto : led_parent dirs c.args.to.now ≡ Ok (c.in-Ok-led_parent.directory, c.in-Ok-led_parent.field-0-1) = ap (led_parent dirs) (sym c.as_slice-in-Ok.ensures) ∙ sym c.led_parent.ensures ∙ c.in-Ok-led_parent.is in
    ap (bound_in dirs c.in-Ok-led_parent.directory) c.in_ok-name-in-Ok-led_parent.ensures
    ∙ to_free c.self.inside.shapes dirs c.self.invariant c.requires.limits c.requires.most c.requires.tree c.requires.good are c.args.from.now c.args.to.now c.requires.unrefused (c.in-Ok-led_parent.directory, c.in-Ok-led_parent.field-0-1) onto

pub invariant_of-self-in-Ok-led_parent : goal.invariant_of-self-in-Ok-led_parent
invariant_of-self-in-Ok-led_parent c =
    let shapes = c.self.inside.shapes in
    let dirs = c.self.inside.directories in
    let place = c.in-Ok.row in
    let at = c.in-Ok-led_parent.directory in
    let are = subst (λ (k : Known). IsShapeOf k.shapes c.requires.tree) (sym c.self.view_is) c.requires.shape in
    let leads : led dirs c.args.from.now ≡ Ok place = ap (led dirs) (sym c.as_slice.ensures) ∙ sym c.led.ensures ∙ c.in-Ok.is in
    let onto : led_parent dirs c.args.to.now ≡ Ok (at, c.in-Ok-led_parent.field-0-1) = ap (led_parent dirs) (sym c.as_slice-in-Ok.ensures) ∙ sym c.led_parent.ensures ∙ c.in-Ok-led_parent.is in
    let shape = shape_led shapes dirs c.self.invariant c.requires.most c.requires.tree c.requires.good are c.args.from.now place leads in
    let row : Shape = shape.0 in
    let binds = rename_binds shapes dirs c.self.invariant c.requires.limits c.requires.most c.requires.tree c.requires.good are c.args.from.now c.args.to.now c.requires.unrefused place (at, c.in-Ok-led_parent.field-0-1) leads onto row shape.1 in
    let names = c.put_moved.ensures.names row shape.1
    ∙ ap (λ (d : Dirs). without_name d row.parent row.name) (c.in_ok-bind_moved-in-Ok-led_parent.ensures.names ∙ ap (λ (n : List ℕ). with_name dirs at n place) c.in_ok-name-in-Ok-led_parent.ensures) in
    let rows = c.put_moved.ensures.rows row shape.1 ∙ ap (λ (n : List ℕ). map.insert shapes place.0 (record row { parent = at; name = n })) c.in_ok-name-in-Ok-led_parent.ensures in
    subst (λ (s : Shapes). BindsNames s c.put_moved.new.directories) (sym rows) (subst (BindsNames (map.insert shapes place.0 (record row { parent = at; name = last_name c.args.to.now }))) (sym names) binds)

pub returns-clause-ok : goal.returns-clause-ok
returns-clause-ok c =
    let dirs = c.self.inside.directories in
    let place = c.in-Ok.row in
    let at = c.in-Ok-led_parent.directory in
    let are = subst (λ (k : Known). IsShapeOf k.shapes c.requires.tree) (sym c.self.view_is) c.requires.shape in
    let leads : led dirs c.args.from.now ≡ Ok place = ap (led dirs) (sym c.as_slice.ensures) ∙ sym c.led.ensures ∙ c.in-Ok.is in
    let onto : led_parent dirs c.args.to.now ≡ Ok (at, c.in-Ok-led_parent.field-0-1) = ap (led_parent dirs) (sym c.as_slice-in-Ok.ensures) ∙ sym c.led_parent.ensures ∙ c.in-Ok-led_parent.is in
    let k : Known = record { shapes = c.self.inside.shapes; dirty_pages = c.self.inside.dirty_pages; dirty_nodes = c.self.inside.dirty_nodes; moved = c.self.inside.moved; shrunk = c.self.inside.shrunk; flights = c.self.inside.flights } in
    let shape = shape_led k.shapes dirs c.self.invariant c.requires.most c.requires.tree c.requires.good are c.args.from.now place leads in
    let row : Shape = shape.0 in
    let follows = rename_follows k dirs c.self.invariant c.args.from.now c.args.to.now place (at, c.in-Ok-led_parent.field-0-1) leads onto row shape.1 in
    let rows = c.put_moved.ensures.rows row shape.1 ∙ ap (λ (n : List ℕ). map.insert k.shapes place.0 (record row { parent = at; name = n })) c.in_ok-name-in-Ok-led_parent.ensures in
    subst (λ (o : Known). Follows o (record k { shapes = c.put_moved.new.shapes; moved = c.bind_moved.new.moved }) (Rename c.args.from.now c.args.to.now) 0) c.self.view_is
    (subst (λ (s : Shapes). Follows k (record k { shapes = s; moved = c.bind_moved.new.moved }) (Rename c.args.from.now c.args.to.now) 0) (sym rows)
    (subst (λ (m : Inos). Follows k (record k { shapes = map.insert k.shapes place.0 (record row { parent = at; name = last_name c.args.to.now }); moved = m }) (Rename c.args.from.now c.args.to.now) 0) (sym c.in_ok-bind_moved-in-Ok-led_parent.ensures.moved) follows))

pub returns-clause-places : goal.returns-clause-places
returns-clause-places c =
    let shapes = c.self.inside.shapes in
    let dirs = c.self.inside.directories in
    let place = c.in-Ok.row in
    let at = c.in-Ok-led_parent.directory in
    let are = subst (λ (k : Known). IsShapeOf k.shapes c.requires.tree) (sym c.self.view_is) c.requires.shape in
    let leads : led dirs c.args.from.now ≡ Ok place = ap (led dirs) (sym c.as_slice.ensures) ∙ sym c.led.ensures ∙ c.in-Ok.is in
    let shape = shape_led shapes dirs c.self.invariant c.requires.most c.requires.tree c.requires.good are c.args.from.now place leads in
    let row : Shape = shape.0 in
    kept_put c.args.self.now _ shapes (ap (λ (k : Known). k.shapes) c.self.view_is) place.0 row (record row { parent = at; name = c.in_ok-name-in-Ok-led_parent.name }) shape.1 (c.put_moved.ensures.rows row shape.1) refl (λ page. inl refl)
