use Rattle.std.proofs.Common.{◌≡◌, Ok, Err, List, ℕ, refl, sym, ap, subst, ◌∙◌}
use Rattle.std.specs.List.{flat_map}
use Rattle.std.specs.FinMap as map
use Rattle.f2_model.specs.Content.{pages_of_piece, raised_size}
use Rattle.f2_model.specs.State.{Pairs, directs_of, with_pairs}
use Rattle.f2_model.specs.declared.requests.Request.TheVariants.{Write}
use Rattle.f2_laws.proofs.Passed.{passed}
use Rattle.f2_files.specs.Known.{Known, Follows}
use Rattle.f2_files.specs.Led.{led}
use Rattle.f2_files.specs.Shape.{Shapes, IsShapeOf, with_all_pages}
use Rattle.f2_files.specs.declared.shapes.Shape.{Shape}
use Rattle.f2_files.proofs.Keeping.{kept_put, pages_kept}
use Rattle.f2_files.proofs.Removing.{names_lead, shape_led}
use Rattle.f2_files.proofs.Settling.{binds_result}
use Rattle.f2_files.proofs.Writing.{write_follows}
use Rattle.f2_files.proofs.files.Files.write.Goals as goal

pub unreachable-requires : goal.unreachable-requires
unreachable-requires c =
    let dirs = c.self.inside.directories in
    let allowed = c.requires.allowed in
    let are = subst (λ (k : Known). IsShapeOf k.shapes allowed.tree) (sym c.self.view_is) allowed.shape in
    let stops : led dirs c.args.path.now ≡ Err c.in-Err.field-0 = ap (led dirs) (sym c.as_slice.ensures) ∙ sym c.led.ensures ∙ c.in-Err.is in
    names_lead c.self.inside.shapes dirs c.self.invariant allowed.most allowed.tree allowed.good are c.args.path.now
    (passed allowed.limits allowed.tree (Write c.args.path.now c.args.pieces.now) allowed.unrefused).walks c.in-Err.field-0 stops

pub invariant_of-self-in-Ok-put_pieces : goal.invariant_of-self-in-Ok-put_pieces
invariant_of-self-in-Ok-put_pieces c =
    binds_result c.self.inside.shapes c.self.inside.directories c.self.invariant c.put_pieces.result c.put_pieces.new.self c.in-Ok.ino
    (λ (row : Shape). record row { size = raised_size row.size c.args.pieces.now; pages = with_all_pages row.pages c.as_slice-in-Ok-4.result.now }) (λ row. record { kind = refl; parent = refl; name = refl })
    c.put_pieces.ensures.there c.put_pieces.ensures.missing c.put_pieces.ensures.err

pub returns-in-Ok-put_pieces-clause-ok : goal.returns-in-Ok-put_pieces-clause-ok
returns-in-Ok-put_pieces-clause-ok c =
    let dirs = c.self.inside.directories in
    let allowed = c.requires.allowed in
    let ino = c.in-Ok.ino in
    let pieces = c.args.pieces.now in
    let are = subst (λ (k : Known). IsShapeOf k.shapes allowed.tree) (sym c.self.view_is) allowed.shape in
    let leads : led dirs c.args.path.now ≡ Ok (ino, c.in-Ok.field-0-1) = ap (led dirs) (sym c.as_slice.ensures) ∙ sym c.led.ensures ∙ c.in-Ok.is in
    let k : Known = record { shapes = c.self.inside.shapes; dirty_pages = c.self.inside.dirty_pages; dirty_nodes = c.self.inside.dirty_nodes; moved = c.self.inside.moved; shrunk = c.self.inside.shrunk; flights = c.self.inside.flights } in
    let shape = shape_led k.shapes dirs c.self.invariant allowed.most allowed.tree allowed.good are c.args.path.now (ino, c.in-Ok.field-0-1) leads in
    let row : Shape = shape.0 in
    let list : c.in_ok-pages-in-Ok.pages.items ≡ flat_map pages_of_piece pieces = c.in_ok-pages-in-Ok.ensures in
    let rows = c.in-Ok-put_pieces.ensures.there row shape.1 ∙ ap (λ (ns : List ℕ). map.insert k.shapes ino (record row { size = raised_size row.size pieces; pages = with_all_pages row.pages ns })) (c.as_slice-in-Ok-4.ensures.value ∙ list) in
    let pages = c.in_ok-touched-in-Ok.ensures.pages ∙ ap (with_pairs ino k.dirty_pages) (c.as_slice-in-Ok-2.ensures.value ∙ list) in
    let nodes = c.in_ok-touched-in-Ok.ensures.nodes ∙ ap (with_pairs ino k.dirty_nodes) (c.as_slice-in-Ok-3.ensures.value ∙ c.in_ok-nodes-in-Ok.ensures ∙ ap directs_of (c.as_slice-in-Ok.ensures.value ∙ list)) in
    let follows = write_follows k dirs c.self.invariant c.args.path.now (ino, c.in-Ok.field-0-1) leads row shape.1 pieces in
    subst (λ (o : Known). Follows o (record k { shapes = c.put_pieces.new.self; dirty_pages = c.touch.new.dirty_pages; dirty_nodes = c.touch.new.dirty_nodes }) (Write c.args.path.now pieces) 0) c.self.view_is
    (subst (λ (s : Shapes). Follows k (record k { shapes = s; dirty_pages = c.touch.new.dirty_pages; dirty_nodes = c.touch.new.dirty_nodes }) (Write c.args.path.now pieces) 0) (sym rows)
    (subst (λ (p : Pairs). Follows k (record k { shapes = map.insert k.shapes ino (record row { size = raised_size row.size pieces; pages = with_all_pages row.pages (flat_map pages_of_piece pieces) }); dirty_pages = p; dirty_nodes = c.touch.new.dirty_nodes }) (Write c.args.path.now pieces) 0) (sym pages)
    (subst (λ (p : Pairs). Follows k (record k { shapes = map.insert k.shapes ino (record row { size = raised_size row.size pieces; pages = with_all_pages row.pages (flat_map pages_of_piece pieces) }); dirty_pages = with_pairs ino k.dirty_pages (flat_map pages_of_piece pieces); dirty_nodes = p }) (Write c.args.path.now pieces) 0) (sym nodes) follows)))

pub returns-in-Ok-put_pieces-clause-places : goal.returns-in-Ok-put_pieces-clause-places
returns-in-Ok-put_pieces-clause-places c =
    let shapes = c.self.inside.shapes in
    let dirs = c.self.inside.directories in
    let allowed = c.requires.allowed in
    let ino = c.in-Ok.ino in
    let pieces = c.args.pieces.now in
    let are = subst (λ (k : Known). IsShapeOf k.shapes allowed.tree) (sym c.self.view_is) allowed.shape in
    let leads : led dirs c.args.path.now ≡ Ok (ino, c.in-Ok.field-0-1) = ap (led dirs) (sym c.as_slice.ensures) ∙ sym c.led.ensures ∙ c.in-Ok.is in
    let shape = shape_led shapes dirs c.self.invariant allowed.most allowed.tree allowed.good are c.args.path.now (ino, c.in-Ok.field-0-1) leads in
    let row : Shape = shape.0 in
    let pages : List ℕ = c.as_slice-in-Ok-4.result.now in
    kept_put c.args.self.now _ shapes (ap (λ (k : Known). k.shapes) c.self.view_is) ino row (record row { size = raised_size row.size pieces; pages = with_all_pages row.pages pages }) shape.1 (c.in-Ok-put_pieces.ensures.there row shape.1) refl (λ page. pages_kept row.pages pages page)
