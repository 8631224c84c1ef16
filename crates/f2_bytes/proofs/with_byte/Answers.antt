use Rattle.std.proofs.Common.{◌≡◌, ℕ, ◌+◌, suc, ap, ◌∙◌, refl, arith}
use Rattle.std.specs.Prelude.{bit_xor}
use Rattle.f2_bytes.specs.Register.{shifted_of, shifted_times, register_with}
use Rattle.f2_bytes.proofs.with_byte.Goals as goal

pub loop-init : goal.loop-init
unfolding shifted_times
loop-init c = refl

pub loop-preserved : goal.loop-preserved
unfolding shifted_times
loop-preserved c =
    let next : suc c.loop.counter ≡ c.loop.counter + 1 = omega arith in
    c.shifted-register.ensures
    ∙ ap shifted_of c.loop.invariant
    ∙ ap (λ (n : ℕ). shifted_times n (bit_xor c.args.register c.args.byte)) next

pub returns : goal.returns
unfolding register_with
returns c =
    let all : c.loop.counter ≡ 8 = omega arith in
    c.loop.invariant ∙ ap (λ (n : ℕ). shifted_times n (bit_xor c.args.register c.args.byte)) all
