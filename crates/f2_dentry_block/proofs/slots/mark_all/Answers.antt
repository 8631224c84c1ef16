use Rattle.std.proofs.Common.{◌≡◌, ℕ, suc, ◌+◌, ◌-◌, List, sym, ap, ◌∙◌, arith}
use Rattle.f2_format.specs.Dentry.{with_slots_used}
use Rattle.f2_dentry_block.proofs.slots.mark_all.Goals as goal

pub loop-k-init : goal.loop-k-init
loop-k-init c =
    let all : c.args.slot + c.args.count - c.args.slot ≡ c.args.count = omega arith in
    ap (λ (n : ℕ). with_slots_used c.args.b.now c.args.slot n) all

pub loop-k-preserved : goal.loop-k-preserved
loop-k-preserved c =
    let end = c.args.slot + c.args.count in
    let k = c.loop-k.k in
    let left : end - k ≡ suc (end - (k + 1)) = omega arith in
    ap (λ (b : List ℕ). with_slots_used b (k + 1) (end - (k + 1))) c.mark.ensures
    ∙ sym (ap (λ (n : ℕ). with_slots_used c.loop-k.b k n) left)
    ∙ c.loop-k.invariant

pub returns : goal.returns
returns c =
    let none : c.args.slot + c.args.count - c.loop-k.k ≡ 0 = omega arith in
    sym (ap (λ (n : ℕ). with_slots_used c.loop-k.b c.loop-k.k n) none) ∙ c.loop-k.invariant
