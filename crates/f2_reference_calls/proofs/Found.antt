-- Keys that are looked for among the keys of a map.
use Rattle.std.proofs.Common.{◌≡◌, ℕ, Bool, true, false, cond, ◌||◌, List, [], ◌∷◌, refl, sym, ap, ◌∙◌}
use Rattle.std.specs.Prelude.{Some, None, if◌then◌else◌, ◌==◌}
use Rattle.std.specs.List.{find, list_any}
use Rattle.std.specs.Ordering.{nat_cmp, eq_by_cmp}
use Rattle.std.specs.Cmp.{unsigned_tied, nat_eq_equiv}
use Rattle.std.proofs.lemmas.Bool.{eqb-true}
use Rattle.std.specs.FinMap as map

found_number : (numbers : List ℕ) (number : ℕ) → find (λ one. one == number) numbers ≡ (if list_any (eq_by_cmp nat_cmp number) numbers then Some number else None)
found_number [] number = refl
found_number (one ∷ numbers) number = by_same (found_number numbers number) (one == number) refl
  where
    by_same : find (λ one. one == number) numbers ≡ (if list_any (eq_by_cmp nat_cmp number) numbers then Some number else None) →
        (b : Bool) → (one == number) ≡ b → cond b (Some one) (find (λ one. one == number) numbers) ≡ (if eq_by_cmp nat_cmp number one || list_any (eq_by_cmp nat_cmp number) numbers then Some number else None)
    by_same rest true e =
        ap (λ n. Some n) (eqb-true one number e)
        ∙ sym (ap (λ b. if b || list_any (eq_by_cmp nat_cmp number) numbers then Some number else None) (unsigned_tied number one ∙ nat_eq_equiv.symm number one ∙ e))
    by_same rest false e =
        rest ∙ sym (ap (λ b. if b || list_any (eq_by_cmp nat_cmp number) numbers then Some number else None) (unsigned_tied number one ∙ nat_eq_equiv.symm number one ∙ e))

-- a key that is looked for among those of a map
pub found_key : {X : Type 0} (m : map.FinMap nat_cmp X) (keys : List ℕ) (key : ℕ) → keys ≡ map.keys m → find (λ one. one == key) keys ≡ (if map.contains_key m key then Some key else None)
found_key m keys key same = found_number keys key ∙ ap (λ b. if b then Some key else None) (ap (list_any (eq_by_cmp nat_cmp key)) same ∙ sym (map.contains_key-keys m key))
