-- The keys of a map by numbers.
use Rattle.std.proofs.Common.{◌≡◌, ◌⊎◌, inl, inr, ℕ, Bool, true, false, ◌||◌, List, [], ◌∷◌, IsSome, refl, sym, ap, ◌∙◌, true≢false}
use Rattle.std.specs.List.{list_any}
use Rattle.std.specs.Ordering.{eq_by_cmp, is_eq, nat_cmp}
use Rattle.std.specs.Cmp.{nat_cmp_total, tied_itself}
use Rattle.std.specs.FinMap as map
use Rattle.std.specs.FinMap.{FinMap, nat_cmp-IsAntisymmetric, contains_key-keys}
use Rattle.f2_place_laws.proofs.Keys.{is_equal}
use Rattle.f2_place_laws.proofs.Lists.{IsIn}

one_or : (b : Bool) → (b || true) ≡ true
one_or true = refl
one_or false = refl

any_of : (k : ℕ) (ks : List ℕ) → IsIn k ks → list_any (eq_by_cmp nat_cmp k) ks ≡ true
any_of k [] h = absurd h
any_of k (j ∷ ks) (inl e) = ap (λ b. b || list_any (eq_by_cmp nat_cmp k) ks) (ap (λ n. eq_by_cmp nat_cmp k n) (sym e) ∙ ap is_eq (tied_itself nat_cmp_total k))
any_of k (j ∷ ks) (inr h) = ap (λ b. eq_by_cmp nat_cmp k j || b) (any_of k ks h) ∙ one_or (eq_by_cmp nat_cmp k j)

of_any : (k : ℕ) (ks : List ℕ) → list_any (eq_by_cmp nat_cmp k) ks ≡ true → IsIn k ks
of_any k [] h = absurd (true≢false (sym h))
of_any k (j ∷ ks) h = by_test (of_any k ks) (eq_by_cmp nat_cmp k j) refl h
  where
    by_test : (list_any (eq_by_cmp nat_cmp k) ks ≡ true → IsIn k ks) → (b : Bool) → eq_by_cmp nat_cmp k j ≡ b → (b || list_any (eq_by_cmp nat_cmp k) ks) ≡ true → (k ≡ j) ⊎ IsIn k ks
    by_test rest true e h = inl (nat_cmp-IsAntisymmetric k j (is_equal (nat_cmp k j) e))
    by_test rest false e h = inr (rest h)

module _ {X : Type 0} (m : FinMap nat_cmp X) (k : ℕ) where
  pub key_there : IsIn k (map.keys m) → IsSome (map.get m k)
  key_there h = contains_key-keys m k ∙ any_of k (map.keys m) h

  pub there_key : IsSome (map.get m k) → IsIn k (map.keys m)
  there_key there = of_any k (map.keys m) (sym (contains_key-keys m k) ∙ there)
