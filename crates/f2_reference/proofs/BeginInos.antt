-- The least free ino is the first unused number of those that there are.
use Rattle.std.proofs.Common.{◌≡◌, ℕ, zero, suc, ◌+◌, ◌-◌, ◌<◌, ◌≤◌, Bool, true, false, not, ◌&&◌, is_none, cond, List, [], ◌∷◌, Option, Some, None, MatchOption, refl, sym, ap, subst, ◌∙◌, arith, true≢false}
use Rattle.std.specs.List.{find, range_with_len}
use Rattle.std.specs.FinMap as map
use Rattle.std.specs.FinSet as set
use Rattle.f2_model.specs.declared.bounds.Limits.{Limits}
use Rattle.f2_model.specs.State.{State, IsFreeIno}
use Rattle.f2_laws.specs.Room.{IsLeastFreeIno}
use Rattle.f2_reference.specs.Begins.{is_unused}

none_of : {X : Type 0} (o : Option X) → is_none o ≡ true → o ≡ None
none_of None e = refl
none_of (Some x) e = absurd (true≢false (sym e))

not_of : (b : Bool) → not b ≡ true → b ≡ false
not_of true e = absurd (true≢false (sym e))
not_of false e = refl

both : (a b : Bool) → (a && b) ≡ true → (a ≡ true) × (b ≡ true)
both true b e = (refl, e)
both false b e = absurd (true≢false (sym e))

unused_free : (limits : Limits) (state : State) (ino : ℕ) → 4 ≤ ino → ino < limits.nids → is_unused state ino ≡ true → IsFreeIno limits state ino
unused_free limits state ino above below unused =
    let rows = is_none (map.get state.live ino) && is_none (map.get state.base ino) in
    let first = both rows (not (set.contains state.logged ino)) unused in
    let second = both (is_none (map.get state.live ino)) (is_none (map.get state.base ino)) first.0 in
    record { above = above; below = below; no_row = none_of (map.get state.live ino) second.0; no_base_row = none_of (map.get state.base ino) second.1; not_logged = not_of (set.contains state.logged ino) first.1 }

free_unused : (limits : Limits) (state : State) (ino : ℕ) → IsFreeIno limits state ino → is_unused state ino ≡ true
free_unused limits state ino free = rw (free.no_row, free.no_base_row, free.not_logged) refl

-- what the first number of a range that passes a test comes to
abbrev FirstOf : (ℕ → Bool) → ℕ → ℕ → Option ℕ → Type 0
FirstOf p a n o = MatchOption o ((q : ℕ) → a ≤ q → q < a + n → p q ≡ true → ⊥) (λ x. (a ≤ x) × (x < a + n) × (p x ≡ true) × ((q : ℕ) → a ≤ q → p q ≡ true → x ≤ q))

least_later : (p : ℕ → Bool) (a x : ℕ) → p a ≡ false → ((q : ℕ) → a + 1 ≤ q → p q ≡ true → x ≤ q) → (q : ℕ) → a ≤ q → p q ≡ true → (d : ℕ) → q - a ≡ d → x ≤ q
least_later p a x fails least q low holds zero e = let at : q ≡ a = omega (arith, e, low) in absurd (true≢false (sym holds ∙ ap p at ∙ fails))
least_later p a x fails least q low holds (suc d) e = least q (omega (arith, e, low)) holds

none_later : (p : ℕ → Bool) (a n : ℕ) → p a ≡ false → ((q : ℕ) → a + 1 ≤ q → q < a + 1 + n → p q ≡ true → ⊥) → (q : ℕ) → a ≤ q → q < a + suc n → p q ≡ true → (d : ℕ) → q - a ≡ d → ⊥
none_later p a n fails none q low high holds zero e = let at : q ≡ a = omega (arith, e, low) in true≢false (sym holds ∙ ap p at ∙ fails)
none_later p a n fails none q low high holds (suc d) e = none q (omega (arith, e, low)) (omega (arith, high)) holds

first_later : (p : ℕ → Bool) (a n : ℕ) (o : Option ℕ) → p a ≡ false → FirstOf p (a + 1) n o → FirstOf p a (suc n) o
first_later p a n None fails rest = λ q low high holds. none_later p a n fails rest q low high holds (q - a) refl
first_later p a n (Some x) fails rest = (omega (arith, rest.0), omega (arith, rest.1), rest.2, λ q low holds. least_later p a x fails rest.3 q low holds (q - a) refl)

first_by : (p : ℕ → Bool) (a n : ℕ) (o : Option ℕ) → FirstOf p (a + 1) n o → (b : Bool) → p a ≡ b → FirstOf p a (suc n) (cond b (Some a) o)
first_by p a n o rest true is = (omega arith, omega arith, is, λ q low holds. low)
first_by p a n o rest false is = first_later p a n o is rest

first_of : (p : ℕ → Bool) (a n : ℕ) → FirstOf p a n (find p (range_with_len a n))
first_of p a zero = λ q low high holds. omega (arith, low, high)
first_of p a (suc n) = first_by p a n (find p (range_with_len (a + 1) n)) (first_of p (a + 1) n) (p a) refl

-- the number found is the least free ino, and where none is found none is free
pub found_least : (limits : Limits) (state : State) (o : Option ℕ) → o ≡ find (is_unused state) (range_with_len 4 (limits.nids - 4))
    → MatchOption o ((ino : ℕ) → IsFreeIno limits state ino → ⊥) (IsLeastFreeIno limits state)
found_least limits state o e = by_result o (subst (FirstOf (is_unused state) 4 (limits.nids - 4)) (sym e) (first_of (is_unused state) 4 (limits.nids - 4)))
  where
    by_result : (o : Option ℕ) → FirstOf (is_unused state) 4 (limits.nids - 4) o → MatchOption o ((ino : ℕ) → IsFreeIno limits state ino → ⊥) (IsLeastFreeIno limits state)
    by_result None none = λ ino free. none ino free.above (omega (arith, free.above, free.below)) (free_unused limits state ino free)
    by_result (Some ino) first = record {
      free = unused_free limits state ino first.0 (omega (arith, first.0, first.1)) first.2;
      least = λ other free. first.3 other free.above (free_unused limits state other free);
    }
