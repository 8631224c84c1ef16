use Rattle.std.proofs.Common.{◌*◌, length, refl, sym, ap, ◌∙◌}
use Rattle.std.proofs.lemmas.Bool.{false≢true}
use Rattle.f2_bitset.specs.Words.{has_bit}
use Rattle.f2_bitset.proofs.Bitmap.{covers_of, IsLeastMissing-place, len-gap, len-full, IsFull-len}
use Rattle.f2_bitset.proofs.BitSet.least_missing.Goals as goal

pub returns-in-Some-clause-none : goal.returns-in-Some-clause-none
returns-in-Some-clause-none c =
    let clear = ap (λ w. has_bit w c.in-Some.place) (sym c.deref.ensures.value) ∙ c.in-Some.ensures.clear in
    rw (← c.self.view_is)
    (λ impossible. absurd (false≢true (sym impossible)), λ all. absurd (len-gap c.self.inside.first c.self.inside.count c.self.inside.words.items c.in-Some.place c.if-place-self.true clear all))

pub returns-in-Some-clause-least : goal.returns-in-Some-clause-least
returns-in-Some-clause-least c =
    let clear = ap (λ w. has_bit w c.in-Some.place) (sym c.deref.ensures.value) ∙ c.in-Some.ensures.clear in
    rw (← c.self.view_is)
    (IsLeastMissing-place _ _ _ _ _ c.in-Some.place c.self.invariant c.if-place-self.true clear (λ other from below. ap (λ w. has_bit w other) (sym c.deref.ensures.value) ∙ c.in-Some.ensures.before other from below))

pub returns-in_default-clause-none : goal.returns-in_default-clause-none
returns-in_default-clause-none c =
    rw (← c.self.view_is)
    (λ _. len-full _ _ _ _ _ c.in-Some.place c.self.invariant c.if-place-self.false (λ other from below. ap (λ w. has_bit w other) (sym c.deref.ensures.value) ∙ c.in-Some.ensures.before other from below), λ _. refl)

pub returns-in_default-2-clause-none : goal.returns-in_default-2-clause-none
returns-in_default-2-clause-none c =
    rw (← c.self.view_is)
    (λ _. len-full _ _ _ _ _ (64 * length c.self.inside.words.items) c.self.invariant (covers_of c.self.invariant) (λ other from below. ap (λ w. has_bit w other) (sym c.deref.ensures.value) ∙ c.in_default.ensures.all other from (rw c.deref.ensures.value below)), λ _. refl)

pub returns-in_default-clause-all : goal.returns-in_default-clause-all
returns-in_default-clause-all c =
    rw (← c.self.view_is)
    (IsFull-len _ _ c.self.inside.words.items (len-full _ _ _ _ _ c.in-Some.place c.self.invariant c.if-place-self.false (λ other from below. ap (λ w. has_bit w other) (sym c.deref.ensures.value) ∙ c.in-Some.ensures.before other from below)))

pub returns-in_default-2-clause-all : goal.returns-in_default-2-clause-all
returns-in_default-2-clause-all c =
    rw (← c.self.view_is)
    (IsFull-len _ _ c.self.inside.words.items (len-full _ _ _ _ _ (64 * length c.self.inside.words.items) c.self.invariant (covers_of c.self.invariant) (λ other from below. ap (λ w. has_bit w other) (sym c.deref.ensures.value) ∙ c.in_default.ensures.all other from (rw c.deref.ensures.value below))))
