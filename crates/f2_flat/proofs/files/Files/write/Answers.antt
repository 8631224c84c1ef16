use Rattle.std.proofs.Common.{◌≡◌, Ok, length, refl, subst, ap, ◌∙◌, arith}
use Rattle.f2_model.specs.declared.requests.Request.TheVariants.{Write}
use Rattle.f2_flat.specs.Steps.{FindsFile, with_pieces}
use Rattle.f2_flat.proofs.FlatTrees.{data_third_small}
use Rattle.f2_flat.proofs.Written.{pieces_within, takes, write_out, write_done, write_flat, write_few, write_kept}
use Rattle.f2_flat.proofs.Added.{refused_at_once}
use Rattle.f2_flat.proofs.files.Files.write.Goals as goal

pub returns-in_err-row-clause-refused : goal.returns-in_err-row-clause-refused
returns-in_err-row-clause-refused c = refused_at_once c.args.geometry.now _ _ (Write c.args.path.now c.args.pieces.now) _ _ c.self.view_is c.from_residual.ensures.1 (c.in_err-row.ensures c.args.geometry.now)

pub fresh-requires : goal.fresh-requires
fresh-requires c =
    let geom = c.args.geometry.now in
    let tree = c.args.self.now in
    let path = c.args.path.now in
    let pieces = c.args.pieces.now in
    let row = c.in_ok-row.row.now in
    let finds : FindsFile geom tree path pieces (Ok row) = subst (λ t. FindsFile geom t path pieces (Ok row)) c.self.view_is (c.in_ok-row.ensures geom) in
    pieces_within geom c.cd-limit.ensures.sound tree c.requires path pieces row finds

pub returns-in_err-grant_data-clause-refused : goal.returns-in_err-grant_data-clause-refused
returns-in_err-grant_data-clause-refused c =
    let geom = c.args.geometry.now in
    let tree = c.args.self.now in
    let path = c.args.path.now in
    let pieces = c.args.pieces.now in
    let row = c.in_ok-row.row.now in
    let count : c.len-more.result ≡ length c.in_ok-fresh.fresh.items = omega (arith, c.in_ok-fresh.fresh.ok.0) in
    let finds : FindsFile geom tree path pieces (Ok row) = subst (λ t. FindsFile geom t path pieces (Ok row)) c.self.view_is (c.in_ok-row.ensures geom) in
    write_out geom c.cd-limit.ensures.sound tree c.requires path pieces row finds c.len-more.result c.cd-limit.result _ c.in_ok-fresh.ensures.grows count c.cd-limit.ensures.value c.self.inside.tree c.self.view_is _ refl _ _ c.from_residual-in_err-grant_data.ensures.1 c.in_err-grant_data.ensures

pub put_pieces-requires : goal.put_pieces-requires
put_pieces-requires c =
    let geom = c.args.geometry.now in
    let tree = c.args.self.now in
    let path = c.args.path.now in
    let pieces = c.args.pieces.now in
    let row = c.in_ok-row.row.now in
    let finds : FindsFile geom tree path pieces (Ok row) = subst (λ t. FindsFile geom t path pieces (Ok row)) c.self.view_is (c.in_ok-row.ensures geom) in
    (row, takes geom c.cd-limit.ensures.sound tree c.requires path pieces row finds c.self.inside.tree c.deref.result.now c.in_ok-fresh.fresh.items c.self.view_is c.deref.ensures.value c.in_ok-fresh.ensures.fresh)

pub overflow_add-self : goal.overflow_add-self
overflow_add-self c =
    let geom = c.args.geometry.now in
    let tree = c.args.self.now in
    let path = c.args.path.now in
    let pieces = c.args.pieces.now in
    let row = c.in_ok-row.row.now in
    let count : c.len-more.result ≡ length c.in_ok-fresh.fresh.items = omega (arith, c.in_ok-fresh.fresh.ok.0) in
    let finds : FindsFile geom tree path pieces (Ok row) = subst (λ t. FindsFile geom t path pieces (Ok row)) c.self.view_is (c.in_ok-row.ensures geom) in
    let few = write_few geom c.cd-limit.ensures.sound tree c.requires path pieces row finds c.len-more.result c.cd-limit.result _ c.in_ok-fresh.ensures.grows count c.cd-limit.ensures.value c.self.inside.tree c.self.view_is _ refl c.self.inside.counts c.self.invariant.counted c.in_ok-grant_data.ensures in
    let small = data_third_small geom c.cd-limit.ensures.sound in
    omega (arith, few, small)

pub invariant_of-self-2 : goal.invariant_of-self-2
invariant_of-self-2 c =
    let geom = c.args.geometry.now in
    let tree = c.args.self.now in
    let path = c.args.path.now in
    let pieces = c.args.pieces.now in
    let row = c.in_ok-row.row.now in
    let count : c.len-more.result ≡ length c.in_ok-fresh.fresh.items = omega (arith, c.in_ok-fresh.fresh.ok.0) in
    let finds : FindsFile geom tree path pieces (Ok row) = subst (λ t. FindsFile geom t path pieces (Ok row)) c.self.view_is (c.in_ok-row.ensures geom) in
    let took = takes geom c.cd-limit.ensures.sound tree c.requires path pieces row finds c.self.inside.tree c.deref.result.now c.in_ok-fresh.fresh.items c.self.view_is c.deref.ensures.value c.in_ok-fresh.ensures.fresh in
    let new = c.in_ok-put_pieces.ensures.ok row took.there ∙ ap (λ t. with_pieces t row pieces) c.self.view_is in
    write_kept geom c.cd-limit.ensures.sound tree c.requires path pieces row finds c.len-more.result c.cd-limit.result _ c.in_ok-fresh.ensures.grows count c.cd-limit.ensures.value c.self.inside.tree c.self.view_is _ refl c.put_pieces.new.tree c.self.inside.names c.self.inside.counts c.self.invariant new

pub returns-clause-wrote : goal.returns-clause-wrote
returns-clause-wrote c =
    let geom = c.args.geometry.now in
    let tree = c.args.self.now in
    let path = c.args.path.now in
    let pieces = c.args.pieces.now in
    let row = c.in_ok-row.row.now in
    let count : c.len-more.result ≡ length c.in_ok-fresh.fresh.items = omega (arith, c.in_ok-fresh.fresh.ok.0) in
    let finds : FindsFile geom tree path pieces (Ok row) = subst (λ t. FindsFile geom t path pieces (Ok row)) c.self.view_is (c.in_ok-row.ensures geom) in
    let took = takes geom c.cd-limit.ensures.sound tree c.requires path pieces row finds c.self.inside.tree c.deref.result.now c.in_ok-fresh.fresh.items c.self.view_is c.deref.ensures.value c.in_ok-fresh.ensures.fresh in
    let new = c.in_ok-put_pieces.ensures.ok row took.there ∙ ap (λ t. with_pieces t row pieces) c.self.view_is in
    write_done geom c.cd-limit.ensures.sound tree c.requires path pieces row finds c.len-more.result c.cd-limit.result _ c.in_ok-fresh.ensures.grows count c.cd-limit.ensures.value c.self.inside.tree c.self.view_is _ refl c.put_pieces.new.tree c.in_ok-grant_data.ensures new

pub returns-clause-flat : goal.returns-clause-flat
returns-clause-flat c =
    let geom = c.args.geometry.now in
    let tree = c.args.self.now in
    let path = c.args.path.now in
    let pieces = c.args.pieces.now in
    let row = c.in_ok-row.row.now in
    let count : c.len-more.result ≡ length c.in_ok-fresh.fresh.items = omega (arith, c.in_ok-fresh.fresh.ok.0) in
    let finds : FindsFile geom tree path pieces (Ok row) = subst (λ t. FindsFile geom t path pieces (Ok row)) c.self.view_is (c.in_ok-row.ensures geom) in
    let took = takes geom c.cd-limit.ensures.sound tree c.requires path pieces row finds c.self.inside.tree c.deref.result.now c.in_ok-fresh.fresh.items c.self.view_is c.deref.ensures.value c.in_ok-fresh.ensures.fresh in
    let new = c.in_ok-put_pieces.ensures.ok row took.there ∙ ap (λ t. with_pieces t row pieces) c.self.view_is in
    write_flat geom c.cd-limit.ensures.sound tree c.requires path pieces row finds c.len-more.result c.cd-limit.result _ c.in_ok-fresh.ensures.grows count c.cd-limit.ensures.value c.self.inside.tree c.self.view_is _ refl c.put_pieces.new.tree c.in_ok-grant_data.ensures new
