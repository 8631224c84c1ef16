-- The list of the dirty nodes: what each change of it asks of their places.
use Rattle.std.proofs.Common.{◌≡◌, ◌≢◌, ℕ, ◌+◌, ◌-◌, ◌<◌, ◌≤◌, Bool, true, false, ◌||◌, cond, List, [], ◌∷◌, ◌++◌, length, length-append, Option, Some, None, is_some, slice_index, slice_index_or, eqb, refl, ap, sym, ◌∙◌, arith, inl, inr}
use Rattle.std.specs.Ordering.{nat_cmp, eq_by_cmp}
use Rattle.std.specs.Cmp.{nat_cmp_total, eq_by_cmp_equiv, nat_eq_equiv}
use Rattle.std.specs.List.{IsDistinct, list_any}
use Rattle.std.specs.FinMap as map
use Rattle.std.proofs.lemmas.Bool.{cases_eq}
use Rattle.std.proofs.lemmas.Bool.Decides.{nat_tests}
use Rattle.std.proofs.lemmas.Grind.{elements, get_or_default_zero}
use Rattle.std.proofs.lemmas.List.{length-map}
use Rattle.std.proofs.lemmas.Map.Keys.{IsDistinct-from_apart}
use Rattle.std.proofs.lemmas.Map.Made.{length-le_from_is_member}
use Rattle.std.proofs.lemmas.Map.Views.{Contains-from_any, list_any-from_Contains}
use Rattle.f2_index.specs.Slots.{AreListed}

no_place : {p : ℕ} → ◌≡◌ {A = Option ℕ} None (Some p) → ⊥
no_place h = absurd (let wrong : ◌≡◌ false true = ap is_some h in cc)

value : Option ℕ → ℕ
value None = 0
value (Some n) = n

some_same : {m n : ℕ} → Some m ≡ Some n → m ≡ n
unfolding value
some_same e = ap value e

some_value : (o : Option ℕ) → is_some o ≡ true → o ≡ Some (value o)
unfolding value
some_value (Some n) h = refl
some_value None h = absurd (let wrong : ◌≡◌ false true = h in cc)

alike : (a b : Bool) → (a ≡ true → b ≡ true) → (b ≡ true → a ≡ true) → a ≡ b
alike true b f g = sym (f refl)
alike false true f g = g refl
alike false false f g = refl

tied_same : (q k : ℕ) → eq_by_cmp nat_cmp q k ≡ true → q ≡ k
tied_same q k tied = grind (arith, nat_tests)

pub AreListed-empty : (P : ℕ → Option ℕ) → ((q : ℕ) → P q ≡ None) → AreListed P []
AreListed-empty P none = record {
  placed = λ offset place at. absurd (no_place (sym (none offset) ∙ at));
  listed = λ place low. absurd (omega arith);
}

module _ (P : ℕ → Option ℕ) (offsets : List ℕ) (are : AreListed P offsets) where
  -- no two places have the same offset
  differ : (i j : ℕ) → i < length offsets → j < length offsets → slice_index offsets i ≡ slice_index offsets j → i ≡ j
  differ i j low high e = some_same (sym (are.listed i low) ∙ ap P e ∙ are.listed j high)

  pub IsDistinct-listed : IsDistinct eqb offsets
  IsDistinct-listed = IsDistinct-from_apart eqb offsets (λ i j d order low.
      let a = get_or_default_zero offsets i d (omega arith) in
      let b = get_or_default_zero offsets j d low in
      elim (cases_eq (slice_index_or offsets i d) (slice_index_or offsets j d)) [
        | inl e ↦ let same = differ i j (omega arith) low (sym a ∙ e ∙ b) in absurd (omega arith)
        | inr apart ↦ grind (arith, nat_tests)
      ])

  -- the list has the offsets that have a place
  pub any_listed : (q : ℕ) → list_any (eq_by_cmp nat_cmp q) offsets ≡ is_some (P q)
  any_listed q = alike _ _
      (λ has.
      let found = Contains-from_any {eq = eq_by_cmp nat_cmp} tied_same q offsets has in
      let at = sym (get_or_default_zero offsets found.0 q found.1) ∙ found.2 in
      ap is_some (sym (ap P at) ∙ are.listed found.0 found.1))
      (λ some.
      let at = are.placed q (value (P q)) (some_value (P q) some) in
      list_any-from_Contains (eq_by_cmp_equiv nat_cmp_total) q offsets (value (P q), at.0, get_or_default_zero offsets (value (P q)) q at.0 ∙ at.1))

  -- one more offset, at the end
  pub AreListed-push : (offset : ℕ) (Q : ℕ → Option ℕ) → P offset ≡ None → ((q : ℕ) → Q q ≡ cond (eq_by_cmp nat_cmp q offset) (Some (length offsets)) (P q)) → AreListed Q (offsets ++ offset ∷ [])
  AreListed-push offset Q none is = record {
    placed = λ q place at. elim (cases_eq q offset) [
      | inl same ↦
          let end : Q q ≡ Some (length offsets) = is q ∙ grind (arith, nat_tests) in
          let last : place ≡ length offsets = some_same (sym at ∙ end) in
          rw (last, same) (omega (arith, length-append offsets (offset ∷ [])), grind (arith, elements))
      | inr apart ↦
          let was : Q q ≡ P q = is q ∙ grind (arith, nat_tests) in
          let old = are.placed q place (sym was ∙ at) in
          (omega (arith, old.0, length-append offsets (offset ∷ [])), (let low = old.0 in grind (arith, elements)) ∙ old.1)
    ];
    listed = λ place low. elim (cases_eq place (length offsets)) [
      | inl last ↦
          let at : slice_index (offsets ++ offset ∷ []) place ≡ offset = rw last (grind (arith, elements)) in
          ap Q at ∙ is offset ∙ (let p = last in grind (arith, nat_tests))
      | inr before ↦
          let short : place < length offsets = omega (arith, length-append offsets (offset ∷ [])) in
          let at : slice_index (offsets ++ offset ∷ []) place ≡ slice_index offsets place = grind (arith, elements) in
          let had = are.listed place short in
          ap Q at ∙ is (slice_index offsets place) ∙ elim (cases_eq (slice_index offsets place) offset) [
            | inl same ↦ absurd (no_place (sym none ∙ sym (ap P same) ∙ had))
            | inr apart ↦ grind (arith, nat_tests)
          ]
    ];
  }

  -- the same places
  pub AreListed-alike : (Q : ℕ → Option ℕ) → ((q : ℕ) → Q q ≡ P q) → AreListed Q offsets
  AreListed-alike Q is = record {
    placed = λ q place at. are.placed q place (sym (is q) ∙ at);
    listed = λ place low. is (slice_index offsets place) ∙ are.listed place low;
  }

  -- the last offset takes the place of one that leaves
  module _ (offset place : ℕ) (at : P offset ≡ Some place) (Q : ℕ → Option ℕ) (new : List ℕ) where
    abbrev end : ℕ
    end = slice_index offsets (length offsets - 1)

    pub AreListed-swapped : ((q : ℕ) → Q q ≡ cond (eq_by_cmp nat_cmp q offset) None (cond (eq_by_cmp nat_cmp q end) (Some place) (P q)))
        → length new + 1 ≡ length offsets
        → (place + 1 < length offsets → slice_index new place ≡ end)
        → ((k : ℕ) → k ≢ place → k + 1 < length offsets → slice_index new k ≡ slice_index offsets k)
        → AreListed Q new
    AreListed-swapped is shorter moved kept =
        let here = are.placed offset place at in
        let at_end = are.listed (length offsets - 1) (omega (arith, here.0)) in
        record {
          placed = λ q p found. elim (cases_eq q offset) [
            | inl same ↦ absurd (no_place (sym (is q ∙ grind (arith, nat_tests)) ∙ found))
            | inr apart ↦ elim (cases_eq q end) [
              | inl last ↦
                  let put : Q q ≡ Some place = is q ∙ grind (arith, nat_tests) in
                  let to : p ≡ place = some_same (sym found ∙ put) in
                  let before : place + 1 < length offsets = elim (cases_eq place (length offsets - 1)) [
                    | inl wrong ↦ absurd (apart (last ∙ sym (ap (λ k. slice_index offsets k) wrong) ∙ here.1))
                    | inr other ↦ omega (arith, here.0)
                  ] in
                  rw (to, last) (omega arith, moved before)
              | inr middle ↦
                  let was : Q q ≡ P q = is q ∙ grind (arith, nat_tests) in
                  let old = are.placed q p (sym was ∙ found) in
                  let off_place : p ≢ place = λ e. apart (sym old.1 ∙ ap (λ k. slice_index offsets k) e ∙ here.1) in
                  let off_end : p ≢ length offsets - 1 = λ e. middle (sym old.1 ∙ ap (λ k. slice_index offsets k) e) in
                  let before : p + 1 < length offsets = omega (arith, old.0) in
                  (omega arith, kept p off_place before ∙ old.1)
            ]
          ];
          listed = λ k low. elim (cases_eq k place) [
            | inl same ↦
                let before : place + 1 < length offsets = omega arith in
                let apart : end ≢ offset = λ e. let no = some_same (sym at ∙ sym (ap P e) ∙ at_end) in omega arith in
                ap Q (ap (λ j. slice_index new j) same ∙ moved before) ∙ is end ∙ (let e = same in grind (arith, nat_tests))
            | inr other ↦
                let before : k + 1 < length offsets = omega arith in
                let had = are.listed k (omega arith) in
                let apart : slice_index offsets k ≢ offset = λ e. other (some_same (sym had ∙ ap P e ∙ at)) in
                let middle : slice_index offsets k ≢ end = λ e. let no = some_same (sym had ∙ ap P e ∙ at_end) in omega arith in
                ap Q (kept k other before) ∙ is (slice_index offsets k) ∙ grind (arith, nat_tests) ∙ had
          ];
        }

  -- offsets with a place are keys of the map, so the list is no longer than it
  pub length-le-listed : {X : Type 0} (m : map.FinMap nat_cmp X) → ((q : ℕ) → is_some (P q) ≡ true → is_some (map.get m q) ≡ true) → length offsets ≤ map.len m
  length-le-listed {X} m there =
      let within = length-le_from_is_member nat_eq_equiv offsets (map.keys m) IsDistinct-listed (λ q has. same_any q (map.keys m) ∙ sym (map.contains_key-keys m q) ∙ there q (sym (any_listed q) ∙ sym (same_any q offsets) ∙ has)) in
      omega (arith, within, map.len-entries m, length-map (map.entries m) (λ (e : ℕ × X). e.0))
    where
      same_test : (q k : ℕ) → eqb q k ≡ eq_by_cmp nat_cmp q k
      same_test q k = grind (arith, nat_tests)

      same_any : (q : ℕ) (ks : List ℕ) → list_any (eqb q) ks ≡ list_any (eq_by_cmp nat_cmp q) ks
      same_any q [] = refl
      same_any q (k ∷ ks) = ap (λ b. b || list_any (eqb q) ks) (same_test q k) ∙ ap (λ b. eq_by_cmp nat_cmp q k || b) (same_any q ks)

pub eqb-flips : (x y : ℕ) → eqb x y ≡ eqb y x
eqb-flips x y = grind (arith, nat_tests)

-- what was read at the end of a list
pub end-read : (offsets : List ℕ) (n x : ℕ) → n ≡ length offsets → 0 < n → x ≡ slice_index_or offsets (n - 1) x → x ≡ slice_index offsets (length offsets - 1)
end-read offsets n x long some read = read ∙ get_or_default_zero offsets (n - 1) x (omega arith) ∙ ap (λ k. slice_index offsets (k - 1)) long
