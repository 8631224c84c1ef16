use Rattle.std.proofs.Common.{◌≡◌, ◌∙◌, ℕ, zero, suc, List, [], ◌∷◌, map, take, refl, ap}
use Rattle.f2_reference_state.specs.Parts.{mark_of}
use Rattle.f2_reference_state.proofs.mounts.first_marks.Goals as goal

take_mapped : {A B : Type 0} (f : A → B) (n : ℕ) (xs : List A) → map f (take n xs) ≡ take n (map f xs)
take_mapped f zero xs = refl
take_mapped f (suc n) [] = refl
take_mapped f (suc n) (x ∷ xs) = ap (λ rest. f x ∷ rest) (take_mapped f n xs)

pub returns-clause-marks : goal.returns-clause-marks
returns-clause-marks c = ap (map mark_of) c.truncate.ensures.items ∙ take_mapped mark_of c.args.count c.args.marks.items
