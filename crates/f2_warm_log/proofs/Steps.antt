-- A log stays in step with its zone.
use Rattle.std.proofs.Common.{◌≡◌, ℕ, ◌+◌, ◌<◌, Bool, length, ap, sym, ◌∙◌, arith, inl, inr, nat_cmp, length-append}
use Rattle.std.specs.FinSet as set
use Rattle.std.proofs.lemmas.Bool.{cases_lt}
use Rattle.f2_space.specs.Space.{Space}
use Rattle.f2_warm_log.specs.declared.positions.Slot.{Slot}
use Rattle.f2_warm_log.specs.Log.{NodeLog, with_reserved, IsInStep, after_write, DrawsAhead}
use Rattle.f2_warm_log.proofs.DrawnLemmas.{remove-one}

-- one position more, one write more, and the next address drawn where there is one
pub IsInStep-reserved : (zone new : Space) (log : NodeLog) (slot : Slot) (promised : Bool) → IsInStep zone log → slot.at ≡ log.next → zone.log < zone.c
    → DrawsAhead (after_write zone slot.at promised) new slot.next → IsInStep new (with_reserved log slot)
IsInStep-reserved zone new log slot promised step at below draws =
    let more : length (with_reserved log slot).positions ≡ length log.positions + 1 = length-append log.positions _ in
    let ahead : zone.drawn ≡ set.insert set.empty log.next = step.ahead (omega (arith, step.counted)) in
    let none = remove-one zone.drawn slot.at (ahead ∙ ap (λ (n : ℕ). set.insert {R = nat_cmp} set.empty n) (sym at)) in
    elim (cases_lt (zone.log + 1) zone.c) [
      | inl left ↦
          let drawn = draws.drawn left in
          record {
            counted = ap (λ (z : Space). z.log) drawn ∙ omega (arith, step.counted, more);
            ahead = λ _. ap (λ (z : Space). z.drawn) drawn ∙ ap (λ (s : set.FinSet nat_cmp). set.insert s slot.next) none;
          }
      | inr full ↦
          let same = draws.unchanged full in
          record {
            counted = ap (λ (z : Space). z.log) same ∙ omega (arith, step.counted, more);
            ahead = λ left. absurd (let c = ap (λ (z : Space). z.c) same in omega (arith, step.counted, more, c, left));
          }
    ]

-- what is drawn ahead changes nothing else of the zone
pub DrawsAhead-rest : (old new : Space) (next : ℕ) → DrawsAhead old new next → new ≡ record old { used = new.used; drawn = new.drawn }
DrawsAhead-rest old new next draws =
    elim (cases_lt old.log old.c) [
      | inl left ↦ let drawn = draws.drawn left in rw drawn
      | inr full ↦ let same = draws.unchanged full in rw same
    ]
