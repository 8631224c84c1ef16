use Rattle.std.proofs.Common.{◌≡◌, Ok, Err, sym, ap, subst, ◌∙◌}
use Rattle.std.specs.FinMap as map
use Rattle.f2_model.specs.declared.requests.Request.TheVariants.{Create}
use Rattle.f2_laws.proofs.Passed.{passed}
use Rattle.f2_files.specs.Known.{Known, Follows}
use Rattle.f2_files.specs.Refused.{led_parent}
use Rattle.f2_files.specs.Shape.{IsShapeOf}
use Rattle.f2_files.specs.declared.shapes.Shape.{Shape}
use Rattle.f2_files.proofs.Creating.{binds_either, create_follows, file_binds, parent_leads}
use Rattle.f2_files.proofs.Keeping.{kept_new}
use Rattle.f2_files.proofs.Results.{ok_map}
use Rattle.f2_files.proofs.files.Files.create.Goals as goal

pub unreachable-requires : goal.unreachable-requires
unreachable-requires c =
    let allowed = c.requires.allowed in
    let are = subst (λ (k : Known). IsShapeOf k.shapes allowed.tree) (sym c.self.view_is) allowed.shape in
    let led : led_parent c.self.inside.directories c.args.path.now ≡ Err c.in-Err.field-0 = ap (led_parent c.self.inside.directories) (sym c.as_slice.ensures) ∙ sym c.led_parent.ensures ∙ c.in-Err.is in
    let pass = passed allowed.limits allowed.tree (Create c.args.path.now) allowed.unrefused in
    parent_leads c.self.inside.shapes c.self.inside.directories c.self.invariant allowed.most allowed.tree allowed.good are c.args.path.now pass.walks c.in-Err.field-0 led

pub invariant_of-self : goal.invariant_of-self
invariant_of-self c =
    let allowed = c.requires.allowed in
    let shapes = c.self.inside.shapes in
    let are = subst (λ (k : Known). IsShapeOf k.shapes allowed.tree) (sym c.self.view_is) allowed.shape in
    let led : led_parent c.self.inside.directories c.args.path.now ≡ Ok (c.in-Ok.parent, c.in-Ok.field-0-1) = ap (led_parent c.self.inside.directories) (sym c.as_slice.ensures) ∙ sym c.led_parent.ensures ∙ c.in-Ok.is in
    let pass = passed allowed.limits allowed.tree (Create c.args.path.now) allowed.unrefused in
    let new = ap (λ (k : Known). map.get k.shapes c.args.ino) c.self.view_is ∙ c.requires.free in
    let binds = file_binds shapes c.self.inside.directories c.self.invariant allowed.most allowed.tree allowed.good are c.args.path.now pass.free_name (c.in-Ok.parent, c.in-Ok.field-0-1) led c.args.ino new c.requires.above c.in_ok-row-in-Ok.row c.in_ok-row-in-Ok.ensures in
    binds_either c.put_named.result _ _ _ _ _ _ c.put_named.ensures.rows c.put_named.ensures.names c.put_named.ensures.err_rows c.put_named.ensures.err_names binds c.self.invariant

pub returns-clause-ok : goal.returns-clause-ok
returns-clause-ok c =
    let led : led_parent c.self.inside.directories c.args.path.now ≡ Ok (c.in-Ok.parent, c.in-Ok.field-0-1) = ap (led_parent c.self.inside.directories) (sym c.as_slice.ensures) ∙ sym c.led_parent.ensures ∙ c.in-Ok.is in
    let k : Known = record { shapes = c.self.inside.shapes; dirty_pages = c.self.inside.dirty_pages; dirty_nodes = c.self.inside.dirty_nodes; moved = c.self.inside.moved; shrunk = c.self.inside.shrunk; flights = c.self.inside.flights } in
    ok_map c.put_named.result (λ put. subst (λ (o : Known). Follows o (record k { shapes = c.put_named.new.shapes }) (Create c.args.path.now) c.args.ino) c.self.view_is
    (create_follows k c.self.inside.directories c.self.invariant c.args.path.now (c.in-Ok.parent, c.in-Ok.field-0-1) led c.args.ino c.put_named.new.shapes
    (put ∙ ap (λ (r : Shape). map.insert k.shapes r.ino r) c.in_ok-row-in-Ok.ensures))) c.put_named.ensures.rows

pub returns-clause-places : goal.returns-clause-places
returns-clause-places c =
    let row : Shape = c.in_ok-row-in-Ok.row in
    let own : row.ino ≡ c.args.ino = ap (λ (r : Shape). r.ino) c.in_ok-row-in-Ok.ensures in
    ok_map c.put_named.result (λ put. kept_new c.args.self.now _ c.self.inside.shapes (ap (λ (k : Known). k.shapes) c.self.view_is) row.ino row
    (ap (map.get c.self.inside.shapes) own ∙ ap (λ (k : Known). map.get k.shapes c.args.ino) c.self.view_is ∙ c.requires.free) put
    (ap (λ (r : Shape). r.pages) c.in_ok-row-in-Ok.ensures) (ap (λ (r : Shape). r.nids) c.in_ok-row-in-Ok.ensures)) c.put_named.ensures.rows
