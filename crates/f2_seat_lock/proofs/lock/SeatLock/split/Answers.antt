use Rattle.std.proofs.Common.{rules, ◌≡◌, ℕ, ◌-◌, ◌<◌, length, sym, subst, ap, ◌∙◌}
use Rattle.f2_seat_lock.specs.Known.{LockId}
use Rattle.f2_seat_lock.specs.Turn.{IsPass}
use Rattle.f2_seat_lock.proofs.Steps.{splits}
use Rattle.f2_seat_lock.proofs.Passes.{split_left_pass, split_right_pass}
use Rattle.f2_seat_lock.proofs.lock.SeatLock.split.Goals as goal

pub split_seat-token-requires : goal.split_seat-token-requires
split_seat-token-requires g c = (search rules, search rules, splits _ _ _ _ _ c.pass.invariant.rests.holds)

pub invariant_of-pass : goal.invariant_of-pass
invariant_of-pass g c =
    let some_left : 0 < c.pass.inside.left = search rules in
    subst (IsPass _ _) (sym c.split_seat-token.ensures.2) (split_left_pass _ _ _ some_left c.pass.invariant)

pub invariant_of-result : goal.invariant_of-result
invariant_of-result g c =
    let some_left : 0 < c.pass.inside.left = search rules in
    let seats : c.self.inside.seats ≡ length c.pass.inside.token.me.0.parts = ap (λ (l : LockId). l.seats) (c.self.view_is ∙ (sym c.requires.lock ∙ ap (λ k. k.lock) (sym c.pass.view_is))) in
    let next = ap (λ (z : ℕ × ℕ). z.0 - z.1) (λ i. (seats i, sym c.pass.invariant.count i)) in
    subst (IsPass _ _) (sym c.split_seat-token.ensures.4) (split_right_pass _ _ _ _ some_left next c.pass.invariant)
