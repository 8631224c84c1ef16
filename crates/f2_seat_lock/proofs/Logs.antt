-- Of two beginnings of one log the shorter begins the longer.
use Rattle.std.proofs.Common.{◌≡◌, ◌≤◌, List, [], ◌∷◌, ◌++◌, Bool, true, false, length, refl, sym, ap, ◌∙◌, arith, append_assoc, append-nil}
use Rattle.std.specs.Prelude.{nat_lt, if◌then◌else◌}
use mathlib.Core.List.{IsPrefix}
use Rattle.std.proofs.lemmas.Bool.Decides.{nat_tests}
use Rattle.f2_seat_lock.specs.Known.{longer}

module _ {E : Type 0} where
  pub begins_itself : (xs : List E) → IsPrefix xs xs
  begins_itself xs = ([], append-nil xs)

  pub begins_further : (xs ys zs : List E) → IsPrefix xs ys → IsPrefix ys zs → IsPrefix xs zs
  begins_further xs ys zs h k = (h.0 ++ k.0, sym (append_assoc xs h.0 k.0) ∙ (ap (λ (l : List E). l ++ k.0) h.1 ∙ k.1))

  abbrev head_or : E → List E → E
  head_or d [] = d
  head_or d (x ∷ xs) = x

  abbrev tail_of : List E → List E
  tail_of [] = []
  tail_of (x ∷ xs) = xs

  ordered : (xs ys zs : List E) → IsPrefix xs zs → IsPrefix ys zs → length xs ≤ length ys → IsPrefix xs ys
  ordered [] ys zs h k le = (ys, refl)
  ordered (x ∷ xs) [] zs h k le = absurd (omega arith)
  ordered (x ∷ xs) (y ∷ ys) zs h k le =
      let same : x ≡ y = ap (head_or x) (h.1 ∙ sym k.1) in
      let t = ordered xs ys (tail_of zs) (h.0, ap tail_of h.1) (k.0, ap tail_of k.1) (omega arith) in
      (t.0, λ i. same i ∷ t.1 i)

  pub record InLine (xs ys zs : List E) : Type 0 where
    pub first : IsPrefix xs (longer xs ys)
    pub second : IsPrefix ys (longer xs ys)
    pub both : IsPrefix (longer xs ys) zs

  line : (xs ys zs : List E) → IsPrefix xs zs → IsPrefix ys zs → (b : Bool) → nat_lt (length xs) (length ys) ≡ b
      → IsPrefix xs (if b then ys else xs) × IsPrefix ys (if b then ys else xs) × IsPrefix (if b then ys else xs) zs
  line xs ys zs h k true e = (ordered xs ys zs h k (grind (arith, nat_tests)), begins_itself ys, k)
  line xs ys zs h k false e = (begins_itself xs, ordered ys xs zs k h (grind (arith, nat_tests)), h)

  pub in_line : (xs ys zs : List E) → IsPrefix xs zs → IsPrefix ys zs → InLine xs ys zs
  in_line xs ys zs h k = let t = line xs ys zs h k (nat_lt (length xs) (length ys)) refl in record { first = t.0; second = t.1; both = t.2 }
