use Rattle.std.proofs.Common.{◌≡◌, true, refl, sym, subst, ◌∙◌}
use Rattle.std.specs.FinMap as map
use Rattle.f2_files.specs.Known.{Known}
use Rattle.f2_files.specs.Led.{is_directory_there}
use Rattle.f2_files.specs.Shape.{IsShapeOf, first_pages}
use Rattle.f2_files.specs.declared.shapes.Shape.{Shape}
use Rattle.f2_files.proofs.Settling.{binds_result, directory_keeps}
use Rattle.f2_files.proofs.files.Files.resize_directory.Goals as goal

pub invariant_of-self : goal.invariant_of-self
invariant_of-self c =
    binds_result c.self.inside.shapes c.self.inside.directories c.self.invariant c.resize.result c.resize.new.self c.args.ino (λ (row : Shape). record row { pages = first_pages c.args.blocks row.pages }) (λ row. record { kind = refl; parent = refl; name = refl })
    c.resize.ensures.there c.resize.ensures.missing c.resize.ensures.err

pub returns-clause-keeps : goal.returns-clause-keeps
returns-clause-keeps c = λ tree are.
    let there : is_directory_there (map.get c.self.inside.shapes c.args.ino) ≡ true = sym (c.self.invariant.directories c.args.ino) ∙ sym c.contains.ensures ∙ c.if-not-contains.false in
    directory_keeps c.resize.result c.self.inside.shapes c.resize.new.self c.args.ino (first_pages c.args.blocks) there c.resize.ensures.there c.resize.ensures.err tree (subst (λ (k : Known). IsShapeOf k.shapes tree) (sym c.self.view_is) are)
