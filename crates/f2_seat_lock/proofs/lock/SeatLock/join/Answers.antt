use Rattle.std.proofs.Common.{rules, ◌≡◌, length, sym, subst, ap, ◌∙◌}
use Rattle.f2_seat_lock.specs.Known.{LockId, joined}
use Rattle.f2_seat_lock.specs.Rule.{known, settled}
use Rattle.f2_seat_lock.specs.Turn.{IsPass}
use Rattle.f2_seat_lock.proofs.Steps.{joins, settles_it}
use Rattle.f2_seat_lock.proofs.Passes.{settled_pass, known_joined}
use Rattle.f2_seat_lock.proofs.lock.SeatLock.join.Goals as goal

pub join_seat-requires : goal.join_seat-requires
join_seat-requires g c =
    let other = c.into_token-token.ensures in
    (search rules, search rules, search rules, search rules, joins _ _ _ _ _ _ _ c.pass.invariant.rests.holds other.rests.1.holds c.pass.invariant.own other.own)

pub load-requires : goal.load-requires
load-requires g c = (search rules, search rules, settles_it _ _ _ _ _ _ 0 0)

pub invariant_of-pass : goal.invariant_of-pass
invariant_of-pass g c =
    let long : length c.pass.inside.token.me.0.parts ≡ length c.into_token-token.result.me.0.parts =
    ap (λ (l : LockId). l.seats) (ap (λ k. k.lock) c.pass.view_is ∙ (c.requires.lock ∙ (sym c.requires.other ∙ ap (λ k. k.lock) (sym c.into_token-token.ensures.known)))) in
    subst (IsPass _ _) (sym (c.load.ensures.2.after ∙ ap (λ m. (settled m.0, m.1)) c.join_seat.ensures.2)) (settled_pass _ _ _ c.into_token-token.result.me.0 long c.pass.invariant)

pub returns-clause-joined : goal.returns-clause-joined
returns-clause-joined g c =
    let long : length c.pass.inside.token.me.0.parts ≡ length c.into_token-token.result.me.0.parts =
    ap (λ (l : LockId). l.seats) (ap (λ k. k.lock) c.pass.view_is ∙ (c.requires.lock ∙ (sym c.requires.other ∙ ap (λ k. k.lock) (sym c.into_token-token.ensures.known)))) in
    let after = c.load.ensures.2.after ∙ ap (λ m. (settled m.0, m.1)) c.join_seat.ensures.2 in
    let same = c.load.ensures.0 ∙ c.join_seat.ensures.0 in
    (λ i. known (same i) (after i).0) ∙ (known_joined c.pass.inside.token.table_id c.pass.inside.token.me.0 c.into_token-token.result.me.0 long ∙ (λ i. joined (c.pass.view_is i) (c.into_token-token.ensures.known i)))
