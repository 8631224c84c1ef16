use Rattle.std.proofs.Common.{refl, sym, subst}
use Rattle.std.specs.Prelude.{IsSome}
use Rattle.std.specs.FinMap as map
use Rattle.f2_files.specs.Known.{Known}
use Rattle.f2_files.specs.Shape.{IsShapeOf, address_in}
use Rattle.f2_files.specs.declared.shapes.Shape.{Shape}
use Rattle.f2_files.proofs.Results.{ok_map}
use Rattle.f2_files.proofs.Settling.{binds_result, address_keeps}
use Rattle.f2_files.proofs.files.Files.set_address.Goals as goal

pub invariant_of-self : goal.invariant_of-self
invariant_of-self c =
    binds_result c.self.inside.shapes c.self.inside.directories c.self.invariant c.set_page.result c.set_page.new.self c.args.ino (λ (row : Shape). record row { pages = map.insert row.pages c.args.page c.args.at }) (λ row. record { kind = refl; parent = refl; name = refl })
    c.set_page.ensures.there c.set_page.ensures.missing c.set_page.ensures.err

pub returns-clause-keeps : goal.returns-clause-keeps
returns-clause-keeps c = ok_map c.set_page.result (λ made. λ there tree are. address_keeps c.self.inside.shapes c.set_page.new.self c.args.ino c.args.page c.args.at made (subst (λ (k : Known). IsSome (address_in c.args.page (map.get k.shapes c.args.ino))) (sym c.self.view_is) there) tree (subst (λ (k : Known). IsShapeOf k.shapes tree) (sym c.self.view_is) are)) c.set_page.ensures.there
