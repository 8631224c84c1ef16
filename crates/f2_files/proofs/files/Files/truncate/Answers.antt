use Rattle.std.proofs.Common.{◌≡◌, Ok, ◌==◌, List, ℕ, length, refl, sym, ap, subst, ◌∙◌}
use Rattle.std.specs.Prelude.{Some, Result, if◌then◌else◌}
use Rattle.std.specs.FinMap as map
use Rattle.std.specs.FinSet as set
use Rattle.f2_laws.proofs.Walks.{some_same, some_none}
use Rattle.f2_model.specs.Content.{begins_before}
use Rattle.f2_model.specs.State.{with_pairs, without_pairs}
use Rattle.f2_model.specs.declared.rows.Kind.TheVariants.{Regular}
use Rattle.f2_model.specs.declared.requests.Request.TheVariants.{Truncate}
use Rattle.f2_files.specs.Known.{Known, Follows, IsAllowed, LeadsTo}
use Rattle.f2_files.specs.Shape.{without_all_pages}
use Rattle.f2_files.specs.declared.shapes.Shape.{Shape}
use Rattle.f2_files.proofs.Cutting.{places_cut, places_missing}
use Rattle.f2_files.proofs.PageMaps.{without_past}
use Rattle.f2_files.proofs.Settling.{binds_result}
use Rattle.f2_files.proofs.Truncating.{after_cut, file_led, truncate_follows}
use Rattle.f2_files.proofs.files.Files.truncate.Goals as goal

pub returns-in_default-clause-ok : goal.returns-in_default-clause-ok
returns-in_default-clause-ok c = λ path allowed to.
    let k : Known = record { shapes = c.self.inside.shapes; dirty_pages = c.self.inside.dirty_pages; dirty_nodes = c.self.inside.dirty_nodes; moved = c.self.inside.moved; shrunk = c.self.inside.shrunk; flights = c.self.inside.flights } in
    let file = file_led k c.self.inside.directories c.self.invariant path c.args.ino c.args.size
    (subst (λ (o : Known). IsAllowed o (Truncate path c.args.size)) (sym c.self.view_is) allowed)
    (subst (λ (o : Known). LeadsTo o path c.args.ino) (sym c.self.view_is) to) in
    absurd (some_none (sym file.there ∙ sym c.in_default.ensures))

pub returns-in_default-clause-places : goal.returns-in_default-clause-places
returns-in_default-clause-places c =
    let seen = ap (λ (k : Known). k.shapes) c.self.view_is in
    places_missing c.args.self.now c.args.self.now c.self.inside.shapes seen c.args.ino c.args.size (sym c.in_default.ensures) (sym seen)

pub invariant_of-self-2 : goal.invariant_of-self-2
invariant_of-self-2 c =
    let done : Result (Unit {0}) (Unit {0}) = Ok tt in
    binds_result c.self.inside.shapes c.self.inside.directories c.self.invariant done c.cut.new.self c.args.ino
    (λ (row : Shape). record row { size = c.args.size; pages = without_all_pages row.pages c.as_slice.result.now }) (λ row. record { kind = refl; parent = refl; name = refl })
    c.cut.ensures.there c.cut.ensures.missing tt

pub returns-clause-ok : goal.returns-clause-ok
returns-clause-ok c = λ path allowed to.
    let dirs = c.self.inside.directories in
    let ino = c.args.ino in
    let size = c.args.size in
    let k : Known = record { shapes = c.self.inside.shapes; dirty_pages = c.self.inside.dirty_pages; dirty_nodes = c.self.inside.dirty_nodes; moved = c.self.inside.moved; shrunk = c.self.inside.shrunk; flights = c.self.inside.flights } in
    let file = file_led k dirs c.self.invariant path ino size
    (subst (λ (o : Known). IsAllowed o (Truncate path size)) (sym c.self.view_is) allowed)
    (subst (λ (o : Known). LeadsTo o path ino) (sym c.self.view_is) to) in
    let row : Shape = c.in-Some.row.now in
    let there : map.get k.shapes ino ≡ Some row = sym c.in-Some.ensures in
    let regular : row.kind ≡ Regular = ap (λ (s : Shape). s.kind) (some_same (sym there ∙ file.there)) ∙ file.file in
    let past = c.as_slice.ensures.value ∙ c.in_ok-cut.ensures.pages in
    let rows = c.cut.ensures.there row there
    ∙ ap (λ (numbers : List ℕ). map.insert k.shapes ino (record row { size = size; pages = without_all_pages row.pages numbers })) past
    ∙ ap (λ p. map.insert k.shapes ino (record row { size = size; pages = p })) (without_past row.pages (begins_before size)) in
    let pages = c.in_ok-mark_cut.ensures.pages ∙ (λ i. without_pairs ino (with_pairs ino k.dirty_pages (c.in_ok-cut.ensures.touched i)) (c.in_ok-cut.ensures.pages i)) in
    let nodes = c.in_ok-mark_cut.ensures.nodes ∙ (λ i. without_pairs ino (with_pairs ino k.dirty_nodes (c.in_ok-cut.ensures.reached i)) (c.in_ok-cut.ensures.nodes i)) in
    let shrunk = c.in_ok-mark_cut.ensures.shrunk ∙ ap (λ (numbers : List ℕ). if length numbers == 0 then k.shrunk else set.insert k.shrunk ino) c.in_ok-cut.ensures.nodes in
    let new : Known = record k { shapes = c.cut.new.self; dirty_pages = c.mark_cut.new.dirty_pages; dirty_nodes = c.mark_cut.new.dirty_nodes; shrunk = c.mark_cut.new.shrunk } in
    let same : new ≡ after_cut k dirs c.self.invariant path (ino, file.kind) file.leads row there regular size = (λ i. record k { shapes = rows i; dirty_pages = pages i; dirty_nodes = nodes i; shrunk = shrunk i }) in
    subst (λ (o : Known). Follows o new (Truncate path size) 0) c.self.view_is
    (subst (λ (n : Known). Follows k n (Truncate path size) 0) (sym same) (truncate_follows k dirs c.self.invariant path (ino, file.kind) file.leads row there regular size))

pub returns-clause-places : goal.returns-clause-places
returns-clause-places c =
    let row : Shape = c.in-Some.row.now in
    let there : map.get c.self.inside.shapes c.args.ino ≡ Some row = sym c.in-Some.ensures in
    let past = c.as_slice.ensures.value ∙ c.in_ok-cut.ensures.pages in
    places_cut c.args.self.now _ c.self.inside.shapes (ap (λ (k : Known). k.shapes) c.self.view_is) c.args.ino c.args.size row there
    (c.cut.ensures.there row there
    ∙ ap (λ (numbers : List ℕ). map.insert c.self.inside.shapes c.args.ino (record row { size = c.args.size; pages = without_all_pages row.pages numbers })) past
    ∙ ap (λ p. map.insert c.self.inside.shapes c.args.ino (record row { size = c.args.size; pages = p })) (without_past row.pages (begins_before c.args.size)))
