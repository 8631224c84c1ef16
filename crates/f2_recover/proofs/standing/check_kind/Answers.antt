use Rattle.std.proofs.Common.{◌≡◌, refl, ◌∙◌, arith}
use Rattle.f2_model.specs.declared.rows.Kind.{Kind}
use Rattle.f2_model.specs.declared.rows.Kind.TheVariants.{Regular, Directory}
use Rattle.f2_image.specs.Faults.{type_of_kind}
use Rattle.f2_image.specs.Faults as faults
use Rattle.f2_recover.proofs.standing.check_kind.Goals as goal

types_same : (a b : Kind) → type_of_kind a ≡ type_of_kind b → a ≡ b
types_same Regular Regular e = refl
types_same Regular Directory e = absurd (omega (arith, e))
types_same Directory Regular e = absurd (omega (arith, e))
types_same Directory Directory e = refl

pub returns-then-not-is_same-clause-fault : goal.returns-then-not-is_same-clause-fault
returns-then-not-is_same-clause-fault c image ckpt inode has is named =
    (has, faults.other_kind named.directory named.dentry c.args.kind inode named.reached named.has named.is is (λ e. c.if-not-is_same.ensures.other refl (types_same c.args.kind c.args.told (e ∙ named.typed))))
