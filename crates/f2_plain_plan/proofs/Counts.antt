-- How many pages contents have.
use Rattle.std.proofs.Common.{◌≡◌, ◌≢◌, inl, inr, ℕ, zero, suc, ◌+◌, ◌<◌, ◌≤◌, Bool, true, false, cond, List, [], length, get_or, refl, sym, ap, subst, ◌∙◌, arith, Some, None, Option, add-one, ◌-◌}
use Rattle.std.specs.Prelude.{slice_get, is_some, nat_lt}
use Rattle.std.specs.Ordering.{nat_cmp, eq_by_cmp}
use Rattle.std.specs.declared.cmp.Ordering.TheVariants.{Equal}
use Rattle.std.specs.Cmp.{nat_cmp_total}
use Rattle.std.specs.FinMap as map
use Rattle.std.specs.FinMap.{FinMap, get-retain_keys, get-insert, get-empty, len-insert, len-empty, same_map, nat_cmp-IsAntisymmetric}
use Rattle.std.proofs.lemmas.Bool.{cases_lt, cases_eq, lt-ltb, le-ltb}
use Rattle.std.proofs.lemmas.Option.{slice_get_past, slice_get-get_or}
use Rattle.f2_held.proofs.Lists.{tied-true, tied-same}
use Rattle.f2_plain_plan.specs.Contents.{pages_before}
use Rattle.f2_plain_plan.proofs.PageSteps.{pages_before-zero, pages_before-there, pages_before-not}

not_tied : (k x : ℕ) → k ≢ x → eq_by_cmp nat_cmp k x ≡ false
not_tied k x ne = go (eq_by_cmp nat_cmp k x) refl
  where
    go : (b : Bool) → eq_by_cmp nat_cmp k x ≡ b → eq_by_cmp nat_cmp k x ≡ false
    go true e = absurd (ne (tied-true k x e))
    go false e = e

alike : (n q x : ℕ) → nat_cmp q x ≡ Equal → nat_lt x n ≡ nat_lt q n
alike n q x e = ap (λ k. nat_lt k n) (sym (nat_cmp-IsAntisymmetric q x e))

module _ (m : FinMap nat_cmp (List ℕ)) where
  -- the pages below a number
  abbrev front : ℕ → FinMap nat_cmp (List ℕ)
  front n = map.retain_keys m (λ q. nat_lt q n)

  get-front : (n q : ℕ) → map.get (front n) q ≡ cond (nat_lt q n) (map.get m q) None
  get-front n q = get-retain_keys m (λ k. nat_lt k n) q (alike n q)

  front-in : (n q : ℕ) → q < n → map.get (front n) q ≡ map.get m q
  front-in n q h = get-front n q ∙ ap (λ b. cond b (map.get m q) None) (lt-ltb q n h)

  front-past : (n q : ℕ) → n ≤ q → map.get (front n) q ≡ None
  front-past n q h = get-front n q ∙ ap (λ b. cond b (map.get m q) None) (le-ltb q n h)

  front-none : front 0 ≡ map.empty
  front-none = same_map nat_cmp_total nat_cmp-IsAntisymmetric (front 0) map.empty (λ q. front-past 0 q (omega arith) ∙ sym (get-empty nat_cmp q))

  front-all : (n : ℕ) → ((q : ℕ) (bytes : List ℕ) → map.get m q ≡ Some bytes → q < n) → front n ≡ m
  front-all n all = same_map nat_cmp_total nat_cmp-IsAntisymmetric (front n) m (λ q. elim (cases_lt q n) [ inl h ↦ front-in n q h | inr h ↦ front-past n q h ∙ sym (none q h (map.get m q) refl) ])
    where
      none : (q : ℕ) → n ≤ q → (o : Option (List ℕ)) → map.get m q ≡ o → map.get m q ≡ None
      none q h None e = e
      none q h (Some bytes) e = absurd (let l = all q bytes e in omega arith)

  front-same : (n : ℕ) → map.get m n ≡ None → front (n + 1) ≡ front n
  front-same n none = same_map nat_cmp_total nat_cmp-IsAntisymmetric (front (n + 1)) (front n) (λ q. elim (cases_lt q n) [
    | inl h ↦ front-in (n + 1) q (omega arith) ∙ sym (front-in n q h)
    | inr h ↦ elim (cases_eq q n) [
      | inl e ↦ front-in (n + 1) q (omega arith) ∙ ap (map.get m) e ∙ none ∙ sym (front-past n q h)
      | inr ne ↦ front-past (n + 1) q (omega arith) ∙ sym (front-past n q h)
    ]
  ])

  front-more : (n : ℕ) (bytes : List ℕ) → map.get m n ≡ Some bytes → front (n + 1) ≡ map.insert (front n) n bytes
  front-more n bytes there = same_map nat_cmp_total nat_cmp-IsAntisymmetric (front (n + 1)) (map.insert (front n) n bytes) (λ q. elim (cases_eq q n) [
    | inl e ↦ front-in (n + 1) q (omega arith) ∙ ap (map.get m) e ∙ there ∙ sym (get-insert nat_cmp_total (front n) n bytes q ∙ ap (λ b. cond b (Some bytes) (map.get (front n) q)) (ap (λ k. eq_by_cmp nat_cmp k n) e ∙ tied-same n))
    | inr ne ↦ elim (cases_lt q n) [
      | inl h ↦ front-in (n + 1) q (omega arith) ∙ sym (front-in n q h) ∙ sym (get-insert nat_cmp_total (front n) n bytes q ∙ ap (λ b. cond b (Some bytes) (map.get (front n) q)) (not_tied q n ne))
      | inr h ↦ front-past (n + 1) q (omega arith) ∙ sym (front-past n q h) ∙ sym (get-insert nat_cmp_total (front n) n bytes q ∙ ap (λ b. cond b (Some bytes) (map.get (front n) q)) (not_tied q n ne))
    ]
  ])

  pages_before-front : (n : ℕ) → pages_before (map.get m) n ≡ map.len (front n)
  pages_before-front zero = pages_before-zero (map.get m) ∙ sym (ap map.len front-none ∙ len-empty nat_cmp (List ℕ))
  pages_before-front (suc n) = go (pages_before-front n) (map.get m n) refl
    where
      go : pages_before (map.get m) n ≡ map.len (front n) → (o : Option (List ℕ)) → map.get m n ≡ o → pages_before (map.get m) (suc n) ≡ map.len (front (suc n))
      go rest None e =
          subst (λ k. pages_before (map.get m) k ≡ map.len (front k)) (add-one n)
          (pages_before-not (map.get m) n e ∙ rest ∙ sym (ap map.len (front-same n e)))
      go rest (Some bytes) e =
          subst (λ k. pages_before (map.get m) k ≡ map.len (front k)) (add-one n)
          (pages_before-there (map.get m) n bytes e ∙ ap (λ k. k + 1) rest
          ∙ sym (ap map.len (front-more n bytes e) ∙ len-insert nat_cmp_total (front n) n bytes ∙ ap (λ o. cond (is_some o) (map.len (front n)) (map.len (front n) + 1)) (front-past n n (omega arith))))

  -- a file has as many pages as its map
  pub pages_before-map : (n : ℕ) → ((q : ℕ) (bytes : List ℕ) → map.get m q ≡ Some bytes → q < n) → pages_before (map.get m) n ≡ map.len m
  pages_before-map n all = pages_before-front n ∙ ap map.len (front-all n all)

module _ (blocks : List (List ℕ)) where
  pages_before-within : (n : ℕ) → n ≤ length blocks → pages_before (slice_get blocks) n ≡ n
  pages_before-within zero h = pages_before-zero (slice_get blocks)
  pages_before-within (suc n) h =
      let low : n < length blocks = omega arith in
      let there = slice_get-get_or blocks n [] low in
      subst (λ k. pages_before (slice_get blocks) k ≡ k) (add-one n)
      (pages_before-there (slice_get blocks) n (get_or blocks n []) there ∙ ap (λ k. k + 1) (pages_before-within n (omega arith)))

  pages_before-past : (more : ℕ) → pages_before (slice_get blocks) (length blocks + more) ≡ length blocks
  pages_before-past zero = let e : length blocks + 0 ≡ length blocks = omega arith in subst (λ k. pages_before (slice_get blocks) k ≡ length blocks) (sym e) (pages_before-within (length blocks) (omega arith))
  pages_before-past (suc more) =
      let e : length blocks + more + 1 ≡ length blocks + suc more = omega arith in
      let none = slice_get_past blocks (length blocks + more) (omega arith) in
      subst (λ k. pages_before (slice_get blocks) k ≡ length blocks) e
      (pages_before-not (slice_get blocks) (length blocks + more) none ∙ pages_before-past more)

  -- a directory has as many pages as it has blocks
  pub pages_before-blocks : (n : ℕ) → length blocks ≤ n → pages_before (slice_get blocks) n ≡ length blocks
  pages_before-blocks n h =
      let e : length blocks + (n - length blocks) ≡ n = omega arith in
      subst (λ k. pages_before (slice_get blocks) k ≡ length blocks) e (pages_before-past (n - length blocks))
