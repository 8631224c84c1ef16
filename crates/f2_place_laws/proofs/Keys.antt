-- The keys and the values of a map by pairs.
use Rattle.std.proofs.Common.{◌≡◌, ◌⊎◌, inl, inr, ℕ, Bool, true, false, cond, List, [], ◌∷◌, length, map, refl, sym, ◌∙◌, true≢false}
use Rattle.std.specs.Prelude.{Some}
use Rattle.std.specs.Ordering.{eq_by_cmp, is_eq, ordering_then}
use Rattle.std.specs.declared.cmp.Ordering.{Ordering}
use Rattle.std.specs.declared.cmp.Ordering.TheVariants.{Less, Equal, Greater}
use Rattle.std.specs.FinMap as finite
use Rattle.std.specs.FinMap.{FinMap, nat_cmp-IsAntisymmetric, entries, get-entries, len-entries}
use Rattle.std.proofs.lemmas.List.{length-map}
use Rattle.f2_model.specs.State.{pair_cmp}
use Rattle.f2_place_laws.proofs.Lists.{IsIn}

both_equal : (a b : Ordering) → ordering_then a b ≡ Equal → (a ≡ Equal) × (b ≡ Equal)
both_equal Less b e = absurd (cc)
both_equal Equal b e = (refl, e)
both_equal Greater b e = absurd (cc)

pub is_equal : (o : Ordering) → is_eq o ≡ true → o ≡ Equal
is_equal Less e = absurd (true≢false (sym e))
is_equal Equal e = refl
is_equal Greater e = absurd (true≢false (sym e))

-- pairs that tie are the same
pub same_pair : (x y : ℕ × ℕ) → eq_by_cmp pair_cmp x y ≡ true → x ≡ y
same_pair x y tie =
    let parts = both_equal _ _ (is_equal (pair_cmp x y) tie) in
    let one : x.0 ≡ y.0 = nat_cmp-IsAntisymmetric x.0 y.0 parts.0 in
    let two : x.1 ≡ y.1 = nat_cmp-IsAntisymmetric x.1 y.1 parts.1 in
    λ i. (one i, two i)

module _ {X : Type 0} (k : ℕ × ℕ) (x : X) where
  -- an entry that is found stands among the entries
  found_entry : (es : List ((ℕ × ℕ) × X)) → finite.find pair_cmp k es ≡ Some x → IsIn k (map (λ e. e.0) es) × IsIn x (map (λ e. e.1) es)
  found_entry [] h = absurd (cc)
  found_entry (e ∷ es) h = by_tie (found_entry es) (eq_by_cmp pair_cmp k e.0) refl h
    where
      by_tie : (finite.find pair_cmp k es ≡ Some x → IsIn k (map (λ e. e.0) es) × IsIn x (map (λ e. e.1) es)) → (b : Bool) → eq_by_cmp pair_cmp k e.0 ≡ b → cond b (Some e.1) (finite.find pair_cmp k es) ≡ Some x
          → ((k ≡ e.0) ⊎ IsIn k (map (λ e. e.0) es)) × ((x ≡ e.1) ⊎ IsIn x (map (λ e. e.1) es))
      by_tie rest true tie h = let same : e.1 ≡ x = cc in (inl (same_pair k e.0 tie), inl (sym same))
      by_tie rest false tie h = let more = rest h in (inr more.0, inr more.1)

module _ {X : Type 0} (m : FinMap pair_cmp X) where
  pub key_in : (k : ℕ × ℕ) (x : X) → finite.get m k ≡ Some x → IsIn k (finite.keys m)
  key_in k x h = (found_entry k x (entries m) (sym (get-entries m k) ∙ h)).0

  pub value_in : (k : ℕ × ℕ) (x : X) → finite.get m k ≡ Some x → IsIn x (finite.values m)
  value_in k x h = (found_entry k x (entries m) (sym (get-entries m k) ∙ h)).1

  pub length-keys : length (finite.keys m) ≡ finite.len m
  length-keys = length-map (entries m) (λ e. e.0) ∙ sym (len-entries m)

  pub length-values : length (finite.values m) ≡ finite.len m
  length-values = length-map (entries m) (λ e. e.1) ∙ sym (len-entries m)
