-- Paths that agree as far as both go.
use Rattle.std.proofs.Common.{◌≡◌, ◌≤◌, Bool, true, false, ◌&&◌, List, [], ◌∷◌, length, take, zip, refl, ap, arith}
use Rattle.std.specs.List.{list_all}
use Rattle.std.specs.Cmp.Lexicographic.{pointwise}

-- a list begins with a shorter one exactly where they agree
pub agreed : {X : Type 0} (eq : X → X → Bool) (xs ys : List X) → length xs ≤ length ys → list_all (λ (a, b). eq a b) (zip xs ys) ≡ pointwise eq xs (take (length xs) ys)
agreed eq [] ys h = refl
agreed eq (x ∷ xs) [] h = absurd (omega arith)
agreed eq (x ∷ xs) (y ∷ ys) h = ap (λ rest. eq x y && rest) (agreed eq xs ys (omega arith))

pub and_true : (b : Bool) → (b && true) ≡ b
and_true true = refl
and_true false = refl
