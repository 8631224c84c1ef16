use Rattle.std.proofs.Common.{sym, subst}
use Rattle.f2_format.specs.Geometry.{ImageGeometry, nid_limit}
use Rattle.f2_found.specs.Made.{AreMadeTo}
use Rattle.f2_found.specs.Named.{AreAllNamedTo}
use Rattle.f2_found.proofs.Trees.{IsTree, own_ino}
use Rattle.f2_found.proofs.RowSteps.{within_blocks}
use Rattle.f2_found.proofs.TreeNames.{apart, names_found}
use Rattle.f2_found.proofs.TreeRows.{rows_found}
use Rattle.f2_found.proofs.building.put_together.Goals as goal

pub returns : goal.returns
returns c = record {
  found = λ image ckpt base marks sizes read nids right pages are is_base are_marks.
      let walk = c.args.walk.now in
      let rolls = c.args.rolls.now in
      let rows = c.in_ok-rows.rows in
      let names = c.in_ok-names.names in
      let is : IsTree image ckpt walk rolls base marks = record { read = read; nids = nids; right = right; pages = pages; are = are; is_base = is_base; are_marks = are_marks } in
      record {
        own = own_ino image ckpt walk rolls base marks is;
        rows = rows_found image ckpt walk rolls base marks is rows (subst (λ (e : ImageGeometry). AreMadeTo e.blocks rolls walk.rows (nid_limit e) rows) (sym sizes) c.in_ok-rows.ensures);
        names = names_found image ckpt walk rolls base marks is names
            (subst (λ (e : ImageGeometry). AreAllNamedTo rolls walk.rows walk.names (nid_limit e) (nid_limit e) names) (sym sizes) (c.in_ok-names.ensures (apart image ckpt walk rolls base marks is)));
      };
  within = within_blocks c.args.g.now.blocks c.args.rolls.now c.args.walk.now.rows (nid_limit c.args.g.now) c.in_ok-rows.rows c.in_ok-rows.ensures;
}
