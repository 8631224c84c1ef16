use Rattle.std.proofs.Common.{Ok, refl, sym, subst}
use Rattle.std.specs.Prelude.{Result}
use Rattle.std.specs.FinMap as map
use Rattle.f2_files.specs.Known.{Known}
use Rattle.f2_files.specs.Shape.{IsShapeOf}
use Rattle.f2_files.specs.declared.shapes.Shape.{Shape}
use Rattle.f2_files.proofs.Settling.{binds_result, nid_keeps}
use Rattle.f2_files.proofs.files.Files.forget_nid.Goals as goal

pub invariant_of-self : goal.invariant_of-self
invariant_of-self c =
    let done : Result (Unit {0}) (Unit {0}) = Ok tt in
    binds_result c.self.inside.shapes c.self.inside.directories c.self.invariant done c.take_nid.new.self c.args.ino (λ (row : Shape). record row { nids = map.remove row.nids c.args.offset }) (λ row. record { kind = refl; parent = refl; name = refl })
    c.take_nid.ensures.there c.take_nid.ensures.missing tt

pub returns-clause-keeps : goal.returns-clause-keeps
returns-clause-keeps c = λ tree are. nid_keeps c.self.inside.shapes c.take_nid.new.self c.args.ino (λ nids. map.remove nids c.args.offset) c.take_nid.ensures.there c.take_nid.ensures.missing tree (subst (λ (k : Known). IsShapeOf k.shapes tree) (sym c.self.view_is) are)
