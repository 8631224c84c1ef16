-- Rows of the tables of events, at known answers of their tests.
use Rattle.std.proofs.Common.{◌≡◌, ℕ, ◌<◌, ◌≤◌, Bool, true, false, nat_le, ap, sym, subst, arith, true≢false}
use Rattle.std.specs.Prelude.{Option, Some, None, Result, Ok, Err, OnOk, MatchOption}
use Rattle.std.specs.Bool.{MatchBool}
use Rattle.std.specs.Option.{unwrap_or}

pub on_false : (b : Bool) (P Q : Type 0) → b ≡ false → Q → MatchBool b P Q
on_false true P Q is q = absurd (true≢false is)
on_false false P Q is q = q

pub on_true : (b : Bool) (P Q : Type 0) → b ≡ true → P → MatchBool b P Q
on_true true P Q is p = p
on_true false P Q is p = absurd (true≢false (sym is))

pub on_none : {X : Type 0} (o : Option X) (P : Type 0) (Q : X → Type 0) → o ≡ None → P → MatchOption o P Q
on_none None P Q is p = p
on_none (Some x) P Q is p = absurd (cc)

pub on_some : {X : Type 0} (o : Option X) (P : Type 0) (Q : X → Type 0) (x : X) → o ≡ Some x → Q x → MatchOption o P Q
on_some None P Q x is q = absurd (cc)
on_some (Some y) P Q x is q = subst Q (sym (ap (λ o. unwrap_or o y) is)) q

pub is_le : (m n : ℕ) → m ≤ n → nat_le m n ≡ true
is_le m n le = grind (arith, le)

pub is_above : (m n : ℕ) → n < m → nat_le m n ≡ false
is_above m n lt = grind (arith, lt)

pub on_ok : {T E : Type 0} (result : Result T E) (A B : Type 0) → OnOk result A → (A → B) → OnOk result B
on_ok (Ok done) A B is then = then is
on_ok (Err fault) A B is then = tt
