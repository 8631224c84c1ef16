use Rattle.std.proofs.Common.{◌≡◌, Some, sym, ap, subst, ◌∙◌}
use Rattle.std.specs.Option.{option_copied}
use Rattle.std.specs.FinMap as map
use Rattle.f2_format.specs.Packing.{blocks_of_names}
use Rattle.f2_model.specs.Tree.{names_in}
use Rattle.f2_files.specs.Known.{Known}
use Rattle.f2_files.specs.Packed.{and_come, but_gone}
use Rattle.f2_files.specs.Shape.{IsShapeOf}
use Rattle.f2_files.proofs.Creating.{has_names_map}
use Rattle.f2_files.proofs.Leads.{rooted_good}
use Rattle.f2_files.proofs.Naming.{names_same}
use Rattle.f2_files.proofs.Packs.{rising-after}
use Rattle.f2_files.proofs.files.Files.blocks_after.Goals as goal

pub returns : goal.returns
returns c = λ most tree row good are there kind.
    let shapes = c.self.inside.shapes in
    let dirs = c.self.inside.directories in
    let seen = subst (λ (k : Known). IsShapeOf k.shapes tree) (sym c.self.view_is) are in
    let keyed : row.ino ≡ c.args.directory = good.keyed c.args.directory row there in
    let own : map.get tree row.ino ≡ Some row = ap (λ i. map.get tree i) keyed ∙ there in
    let names = has_names_map shapes dirs c.self.invariant most tree good seen row own kind in
    let bound = ap (λ i. map.get dirs i) (sym keyed) ∙ names.1 in
    c.blocks_after.ensures names.0 bound
    ∙ ap (λ ks. blocks_of_names (and_come (option_copied c.args.come) (but_gone (option_copied c.args.gone) ks))) (names_same tree (rooted_good most tree good) shapes seen dirs c.self.invariant c.args.directory names.0 bound)
    ∙ ap blocks_of_names (sym (rising-after (option_copied c.args.gone) (option_copied c.args.come) (names_in (map.values tree) c.args.directory)))
