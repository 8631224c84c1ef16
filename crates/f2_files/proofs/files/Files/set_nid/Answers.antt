use Rattle.std.proofs.Common.{refl, sym, subst}
use Rattle.std.specs.FinMap as map
use Rattle.f2_files.specs.Known.{Known}
use Rattle.f2_files.specs.Shape.{IsShapeOf}
use Rattle.f2_files.specs.declared.shapes.Shape.{Shape}
use Rattle.f2_files.proofs.Results.{ok_map}
use Rattle.f2_files.proofs.Settling.{binds_result, nid_keeps}
use Rattle.f2_files.proofs.files.Files.set_nid.Goals as goal

pub invariant_of-self : goal.invariant_of-self
invariant_of-self c =
    binds_result c.self.inside.shapes c.self.inside.directories c.self.invariant c.set_nid.result c.set_nid.new.self c.args.ino (λ (row : Shape). record row { nids = map.insert row.nids c.args.offset c.args.nid }) (λ row. record { kind = refl; parent = refl; name = refl })
    c.set_nid.ensures.there c.set_nid.ensures.missing c.set_nid.ensures.err

pub returns-clause-keeps : goal.returns-clause-keeps
returns-clause-keeps c = ok_map c.set_nid.result (λ made. λ tree are. nid_keeps c.self.inside.shapes c.set_nid.new.self c.args.ino (λ nids. map.insert nids c.args.offset c.args.nid) made c.set_nid.ensures.missing tree (subst (λ (k : Known). IsShapeOf k.shapes tree) (sym c.self.view_is) are)) c.set_nid.ensures.there
