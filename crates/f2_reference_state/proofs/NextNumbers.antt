-- The number that is drawn next is one that a new row may get, and nothing else has it.
use Rattle.std.proofs.Common.{◌≡◌, ℕ, zero, suc, ◌+◌, ◌-◌, ◌<◌, ◌≤◌, Bool, true, false, not, ◌&&◌, is_none, cond, Option, Some, None, refl, sym, subst, arith, true≢false}
use Rattle.std.specs.Prelude.{IfSome}
use Rattle.std.specs.List.{find, range_with_len}
use Rattle.std.specs.FinMap as map
use Rattle.std.specs.FinSet as set
use Rattle.f2_model.specs.declared.bounds.Limits.{Limits}
use Rattle.f2_model.specs.State.{State, IsFreeIno}
use Rattle.f2_reference_state.specs.Numbers.{Numbers, is_free_number, is_held, next_number}

none_of : {X : Type 0} (o : Option X) → is_none o ≡ true → o ≡ None
none_of None e = refl
none_of (Some x) e = absurd (true≢false (sym e))

not_of : (b : Bool) → not b ≡ true → b ≡ false
not_of true e = absurd (true≢false (sym e))
not_of false e = refl

both : (a b : Bool) → (a && b) ≡ true → (a ≡ true) × (b ≡ true)
both true b e = (refl, e)
both false b e = absurd (true≢false (sym e))

-- what the first number of a range that passes a test comes to
abbrev Passes : (ℕ → Bool) → ℕ → ℕ → Option ℕ → Type 0
Passes p a n o = IfSome o (λ x. (a ≤ x) × (x < a + n) × (p x ≡ true))

later : (p : ℕ → Bool) (a n : ℕ) (o : Option ℕ) → Passes p (a + 1) n o → Passes p a (suc n) o
later p a n None rest = rest
later p a n (Some x) rest = (omega (arith, rest.0), omega (arith, rest.1), rest.2)

passes_by : (p : ℕ → Bool) (a n : ℕ) (o : Option ℕ) → Passes p (a + 1) n o → (b : Bool) → p a ≡ b → Passes p a (suc n) (cond b (Some a) o)
passes_by p a n o rest true is = (omega arith, omega arith, is)
passes_by p a n o rest false is = later p a n o rest

passes : (p : ℕ → Bool) (a n : ℕ) → Passes p a n (find p (range_with_len a n))
passes p a zero = tt
passes p a (suc n) = passes_by p a n (find p (range_with_len (a + 1) n)) (passes p (a + 1) n) (p a) refl

is_free : (limits : Limits) (state : State) (numbers : Numbers) (o : Option ℕ) → Passes (is_free_number state numbers) 4 (limits.nids - 4) o → IfSome o (IsFreeIno limits state)
is_free limits state numbers None first = tt
is_free limits state numbers (Some nid) first =
    let live = both (is_none (map.get state.live nid)) _ first.2 in
    let base = both (is_none (map.get state.base nid)) _ live.1 in
    let logged = both (not (set.contains state.logged nid)) (not (is_held numbers nid)) base.1 in
    record {
      above = first.0;
      below = omega (arith, first.0, first.1);
      no_row = none_of (map.get state.live nid) live.0;
      no_base_row = none_of (map.get state.base nid) base.0;
      not_logged = not_of (set.contains state.logged nid) logged.0;
    }

pub next_is_free : (limits : Limits) (state : State) (numbers : Numbers) (o : Option ℕ) → o ≡ next_number limits state numbers → IfSome o (IsFreeIno limits state)
next_is_free limits state numbers o e = is_free limits state numbers o
    (subst (Passes (is_free_number state numbers) 4 (limits.nids - 4)) (sym e) (passes (is_free_number state numbers) 4 (limits.nids - 4)))
