use Rattle.std.proofs.Common.{sym, ap, subst, ◌∙◌}
use Rattle.f2_model.specs.Tree.{walk}
use Rattle.f2_files.specs.Known.{Known}
use Rattle.f2_files.specs.Led.{ino_of}
use Rattle.f2_files.specs.Shape.{IsShapeOf}
use Rattle.f2_files.proofs.Leads.{leads, ino_place}
use Rattle.f2_files.proofs.files.Files.walk.Goals as goal

pub returns : goal.returns
returns c = λ most tree good are.
    let seen = subst (λ (k : Known). IsShapeOf k.shapes tree) (sym c.self.view_is) are in
    c.ino_led.ensures ∙ ap ino_of (leads most tree good c.self.inside.shapes seen c.self.inside.directories c.self.invariant c.args.path.now) ∙ ino_place (walk tree c.args.path.now)
