use Rattle.std.proofs.Common.{◌≡◌, sym, subst, ◌∙◌}
use Rattle.std.specs.Prelude.{Some, None}
use Rattle.f2_files.specs.Joins.{IsWrong, row_fault}
use Rattle.f2_files.specs.Known.{Known}
use Rattle.f2_files.proofs.Creating.{binds_either}
use Rattle.f2_files.proofs.Joining.{binds_joined, is_wrong}
use Rattle.f2_files.proofs.files.Files.add_row.Goals as goal

pub returns-in-Some-clause-fault : goal.returns-in-Some-clause-fault
returns-in-Some-clause-fault c =
    let shapes = c.self.inside.shapes in
    let dirs = c.self.inside.directories in
    let most = c.args.limits.size in
    let failed : row_fault most shapes dirs c.args.row ≡ Some c.in-Some.fault = sym c.row_fault.ensures ∙ c.in-Some.is in
    subst (λ (k : Known). IsWrong most k.shapes c.args.row c.in-Some.fault) c.self.view_is (is_wrong shapes dirs c.self.invariant c.args.row most c.in-Some.fault failed)

pub invariant_of-self : goal.invariant_of-self
invariant_of-self c =
    let shapes = c.self.inside.shapes in
    let dirs = c.self.inside.directories in
    let most = c.args.limits.size in
    let passed : row_fault most shapes dirs c.args.row ≡ None = sym c.row_fault.ensures ∙ c.in_default.is in
    binds_either c.put_row.result _ _ _ _ _ _ c.put_row.ensures.rows c.put_row.ensures.names c.put_row.ensures.err_rows c.put_row.ensures.err_names (binds_joined shapes dirs c.self.invariant c.args.row most passed) c.self.invariant
