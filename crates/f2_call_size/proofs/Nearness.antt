-- The nearest pages that a file tells are the nearest of its page numbers.
use Rattle.std.proofs.Common.{◌≡◌, ◌⊎◌, inl, inr, ◌≤◌, ◌<◌, ◌+◌, ℕ, Bool, true, false, ◌&&◌, refl, sym, ap, ◌∙◌, arith, true≢false}
use Rattle.std.specs.Prelude.{Option, Some, None, nat_lt}
use Rattle.std.specs.Option.{unwrap_or}
use Rattle.std.specs.FinMap as map
use Rattle.std.proofs.lemmas.Bool.{cases_lt, ltb-true}
use Rattle.std.proofs.lemmas.Bool.Decides.{nat_tests}
use Rattle.f2_files.specs.Cuts.{Addressed}
use Rattle.f2_files.specs.Near.{IsMaybeLastTo, IsMaybeFirstFrom}
use Rattle.f2_call_size.specs.Beyond.{is_one, IsNear, pages_below}
use Rattle.f2_call_size.proofs.Listed.{any_filter}

module _ (own : Addressed) where
  listed : (q : ℕ) → is_one q (map.keys own) ≡ true → map.contains_key own q ≡ true
  listed q h = map.contains_key-keys own q ∙ h

  before_in : (to : ℕ) (last : Option ℕ) → IsMaybeLastTo own to last → (unwrap_or last 0 ≡ 0) ⊎ (is_one (unwrap_or last 0) (map.keys own) ≡ true)
  before_in to None h = inl refl
  before_in to (Some page) h = inr (sym (map.contains_key-keys own page) ∙ h.there)

  after_in : (from : ℕ) (first : Option ℕ) → IsMaybeFirstFrom own from first → (unwrap_or first 0 ≡ 0) ⊎ (is_one (unwrap_or first 0) (map.keys own) ≡ true)
  after_in from None h = inl refl
  after_in from (Some page) h = inr (sym (map.contains_key-keys own page) ∙ h.there)

  up_to : (to : ℕ) (last : Option ℕ) → IsMaybeLastTo own to last → (q : ℕ) → map.contains_key own q ≡ true → q ≤ to → (q ≤ unwrap_or last 0) × (unwrap_or last 0 ≤ to)
  up_to to None h q there le = absurd (true≢false (sym there ∙ h q le))
  up_to to (Some page) h q there le = (h.last q there le, h.within)

  down_from : (from : ℕ) (first : Option ℕ) → IsMaybeFirstFrom own from first → (q : ℕ) → map.contains_key own q ≡ true → from ≤ q → (from ≤ unwrap_or first 0) × (unwrap_or first 0 ≤ q)
  down_from from None h q there le = absurd (true≢false (sym there ∙ h q le))
  down_from from (Some page) h q there le = (h.within, h.first q there le)

  pub near_all : (page : ℕ) (last first : Option ℕ) → IsMaybeLastTo own page last → IsMaybeFirstFrom own page first → IsNear (map.keys own) page (unwrap_or last 0) (unwrap_or first 0)
  near_all page last first l f = record {
    before_in = before_in page last l;
    after_in = after_in page first f;
    sides = λ q h. elim (cases_lt page q) [
      | inl above ↦ inr (down_from page first f q (listed q h) (omega arith))
      | inr below ↦ inl (up_to page last l q (listed q h) (omega arith))
    ];
  }

  both : (a b : Bool) → (a && b) ≡ true → (a ≡ true) × (b ≡ true)
  both true true h = (refl, refl)
  both true false h = absurd (true≢false (sym h))
  both false b h = absurd (true≢false (sym h))

  below : (end q : ℕ) → is_one q (pages_below own end) ≡ true → (q < end) × (is_one q (map.keys own) ≡ true)
  below end q h =
      let parts = both (nat_lt q end) (is_one q (map.keys own)) (sym (any_filter (λ page. nat_lt page end) q (map.keys own)) ∙ h) in
      (ltb-true q end parts.0, parts.1)

  pub near_below : (to end page : ℕ) (last : Option ℕ) → end ≡ to + 1 → IsMaybeLastTo own to last → end ≤ page → IsNear (pages_below own end) page (unwrap_or last 0) 0
  near_below to end page last is l past = record {
    before_in = in_below last l;
    after_in = inl refl;
    sides = λ q h. (
        let at = below end q h in
        let le = up_to to last l q (listed q at.1) (omega (arith, at)) in
        inl (le.0, omega (arith, le)));
  }
    where
      in_below : (last : Option ℕ) → IsMaybeLastTo own to last → (unwrap_or last 0 ≡ 0) ⊎ (is_one (unwrap_or last 0) (pages_below own end) ≡ true)
      in_below None h = inl refl
      in_below (Some page) h =
          let low : nat_lt page end ≡ true = (let le = h.within in grind (arith, nat_tests)) in
          inr (any_filter (λ page. nat_lt page end) page (map.keys own) ∙ ap (λ b. b && is_one page (map.keys own)) low ∙ sym (map.contains_key-keys own page) ∙ h.there)

  pub near_none : (end page : ℕ) → end ≡ 0 → IsNear (pages_below own end) page 0 0
  near_none end page none = record {
    before_in = inl refl;
    after_in = inl refl;
    sides = λ q h. (let at = below end q h in absurd (omega (arith, at)));
  }
