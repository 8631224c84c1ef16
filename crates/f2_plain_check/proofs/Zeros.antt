-- Pages that end in zeros, and files without pages.
use Rattle.std.proofs.Common.{◌≡◌, ◌↔◌, ℕ, ◌+◌, ◌-◌, ◌<◌, ◌≤◌, min, Bool, true, false, IsTrue, refl, List, length, get_or, drop, take, sym, ap, ◌∙◌, arith, length-drop, nat_eq, subst}
use Rattle.std.specs.Prelude.{All, nat_lt}
use Rattle.std.proofs.lemmas.Bool.{eqb-true, eq-eqb, ltb-true, ltb-false}
use Rattle.std.proofs.lemmas.List.{take_all, get_or-drop, get_or_past, get_or_default}
use Rattle.std.specs.Ordering.{nat_cmp}
use Rattle.std.specs.FinMap as map
use Rattle.std.specs.FinMap.{FinMap, empty_of_len, len-empty}

module _ (bytes : List ℕ) (start size used : ℕ) (inside : start ≤ size) (is : used ≡ min (size - start) (length bytes)) where
  past_is_zero : All (λ byte. byte ≡ 0) (drop used bytes) → (at : ℕ) → size ≤ start + at → get_or bytes at 0 ≡ 0
  past_is_zero zeros at past = by_end (nat_lt at (length bytes)) (ltb-true at (length bytes)) (ltb-false at (length bytes))
    where
      by_end : (b : Bool) → (b ≡ true → at < length bytes) → (b ≡ false → length bytes ≤ at) → get_or bytes at 0 ≡ 0
      by_end true is_below is_past =
          let below = is_below refl in
          let there : at ≡ used + (at - used) = omega arith in
          let left = length-drop used bytes in
          ap (λ n. get_or bytes n 0) there ∙ sym (get_or-drop used bytes (at - used) 0) ∙ zeros (at - used) 0 (omega (arith, left))
      by_end false is_below is_past = get_or_past bytes at 0 (is_past refl)

  zero_is_past : ((at : ℕ) → size ≤ start + at → get_or bytes at 0 ≡ 0) → All (λ byte. byte ≡ 0) (drop used bytes)
  zero_is_past zeros k d below =
      let left = length-drop used bytes in
      let within : used + k < length bytes = omega (arith, left) in
      get_or-drop used bytes k d ∙ get_or_default bytes (used + k) d 0 within ∙ zeros (used + k) (omega arith)

  -- whether the rest of a page is zeros, from the byte on that lies at a size
  pub zeros_past : (b : Bool) (rest : ℕ) → length bytes ≤ used + rest → IsTrue b ↔ All (λ byte. byte ≡ 0) (take rest (drop used bytes)) → IsTrue b ↔ ((at : ℕ) → size ≤ start + at → get_or bytes at 0 ≡ 0)
  zeros_past b rest whole told =
      let left = length-drop used bytes in
      let all = take_all rest (drop used bytes) (omega (arith, left)) in (
        λ t. past_is_zero (subst (λ l. All (λ byte. byte ≡ 0) l) all (told.0 t)),
        λ zeros. told.1 (subst (λ l. All (λ byte. byte ≡ 0) l) (sym all) (zero_is_past zeros)),
      )

-- a map is empty exactly where it has no entry
pub empty_by_len : {X : Type 0} (m : FinMap nat_cmp X) (n : ℕ) → n ≡ map.len m → IsTrue (nat_eq n 0) ↔ (m ≡ map.empty)
empty_by_len {X} m n is = (λ t. empty_of_len m (sym is ∙ eqb-true n 0 t), λ none. eq-eqb n 0 (is ∙ ap map.len none ∙ len-empty nat_cmp X))
