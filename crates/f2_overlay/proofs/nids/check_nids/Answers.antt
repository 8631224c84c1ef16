use Rattle.std.proofs.Common.{◌≡◌, ◌≤◌, List, length, sym, subst}
use Rattle.std.specs.Prelude.{Result, Ok, Err}
use Rattle.std.specs.Result.{IfErr, IsErrAnd}
use Rattle.f2_image.specs.Chains.{Logged}
use Rattle.f2_overlay.specs.Nids.{Holders, IsCheckedTo}
use Rattle.f2_overlay.proofs.NidChecks.{none_checked, all_right, all_apart}
use Rattle.f2_overlay.proofs.nids.check_nids.Goals as goal

pub loop-place-init : goal.loop-place-init
loop-place-init c = λ image ckpt base whole. subst (λ (o : Holders). IsCheckedTo image ckpt 0 o) (sym c.new-owners.ensures) (none_checked image ckpt)

pub loop-place-preserved : goal.loop-place-preserved
loop-place-preserved c = λ image ckpt base whole. c.in_ok-check_block.ensures.checked image ckpt base whole (c.loop-place.invariant image ckpt base whole)

passed_on : {A E : Type 0} (r : Result A E) (e : E) (P : E → Type 0) → IsErrAnd r (λ x. x ≡ e) → P e → IfErr r P
passed_on (Ok a) e P is holds = tt
passed_on (Err x) e P is holds = subst P (sym is) holds

pub returns-in_err-check_block-clause-fault : goal.returns-in_err-check_block-clause-fault
returns-in_err-check_block-clause-fault c = passed_on _ _ _ c.from_residual.ensures.1
    (λ image ckpt base whole. c.in_err-check_block.ensures.fault image ckpt base whole (c.loop-place.invariant image ckpt base whole))

pub returns-clause-nids : goal.returns-clause-nids
returns-clause-nids c = λ image ckpt base whole.
    all_right image ckpt c.args.walk.now base c.loop-place.place _ (c.loop-place.invariant image ckpt base whole) (subst (λ (l : List Logged). length l ≤ c.loop-place.place) whole c.loop-place-test.false)

pub returns-clause-apart : goal.returns-clause-apart
returns-clause-apart c = λ image ckpt base whole.
    all_apart image ckpt c.args.walk.now base c.loop-place.place _ (c.loop-place.invariant image ckpt base whole) (subst (λ (l : List Logged). length l ≤ c.loop-place.place) whole c.loop-place-test.false)
