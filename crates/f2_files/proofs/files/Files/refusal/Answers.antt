use Rattle.std.proofs.Common.{sym, subst, ◌∙◌}
use Rattle.f2_files.specs.Known.{Known}
use Rattle.f2_files.specs.Shape.{IsShapeOf}
use Rattle.f2_files.proofs.Refusing.{refused_same}
use Rattle.f2_files.proofs.files.Files.refusal.Goals as goal

pub returns : goal.returns
returns c = λ most tree good are.
    let seen = subst (λ (k : Known). IsShapeOf k.shapes tree) (sym c.self.view_is) are in
    c.refused_by.ensures ∙ refused_same most tree good c.self.inside.shapes seen c.self.inside.directories c.self.invariant c.args.limits c.args.request.now
