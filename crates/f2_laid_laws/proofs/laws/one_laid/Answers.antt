use Rattle.std.proofs.Common.{sym, subst}
use Rattle.f2_laid.specs.Laid.{IsStorable, IsLaidAt}
use Rattle.f2_laid_laws.proofs.Base.{IsStored}
use Rattle.f2_laid_laws.proofs.One.{one_tree, one_stored}
use Rattle.f2_laid_laws.proofs.OneCheckpoint.{one_checkpoint}
use Rattle.f2_laid_laws.proofs.laws.one_laid.Goals as goal

pub returns : goal.returns
returns c image a b stored other can_a can_b (ckpt, laid_a) (at_b, laid_b) =
    let same = one_checkpoint image at_b ckpt laid_b.checkpoint laid_a.checkpoint in
    let laid : IsLaidAt image ckpt b other = subst (λ p. IsLaidAt image p b other) same laid_b in
    let is_a : IsStored image ckpt a stored = record { can = subst (λ geom. IsStorable geom a) (sym laid_a.geom) can_a; laid = laid_a } in
    let is_b : IsStored image ckpt b other = record { can = subst (λ geom. IsStorable geom b) (sym laid.geom) can_b; laid = laid } in
    (one_tree image ckpt a b stored other is_a is_b, one_stored image ckpt a b stored other is_a is_b)
