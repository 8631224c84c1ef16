-- What a map has with an entry more or less, key by key.
use Rattle.std.proofs.Common.{◌≡◌, ◌≢◌, ◌⊎◌, inl, inr, ℕ, ◌+◌, ◌-◌, Bool, true, false, cond, List, [], ◌∷◌, length, refl, sym, ap, ◌∙◌, arith}
use Rattle.std.specs.Prelude.{Option, Some, None, is_some, IfSome, IfNone}
use Rattle.std.specs.Map.{lookup}
use Rattle.std.specs.Ordering.{nat_cmp}
use Rattle.std.specs.Cmp.{nat_cmp_total, unsigned_tied}
use Rattle.std.proofs.lemmas.Bool.{cases_eq, ne_eqb}
use Rattle.std.specs.FinMap as map
use Rattle.std.specs.FinMap.{FinMap, gets, get-insert, get-remove, get-empty, len-remove, empty_of_len}

pub not_none : {X : Type 0} (x : X) → None ≡ Some x → ⊥
not_none x e = cc

pub one_some : {X : Type 0} (x y : X) → Some x ≡ Some y → x ≡ y
one_some x y e = cc

-- no key
pub none_of : {X : Type 0} (o : Option X) → is_some o ≡ false → o ≡ None
none_of None e = refl
none_of (Some x) e = absurd (no e)
  where
    no : true ≡ false → ⊥
    no e = cc

module _ {X : Type 0} (m : FinMap nat_cmp X) (k : ℕ) where
  pub get_put : (v : X) → map.get (map.insert m k v) k ≡ Some v
  get_put v = grind (arith, gets)

  pub get_put-other : (v : X) (q : ℕ) → q ≢ k → map.get (map.insert m k v) q ≡ map.get m q
  get_put-other v q h = get-insert nat_cmp_total m k v q ∙ ap (λ b. cond b (Some v) (map.get m q)) (unsigned_tied q k ∙ ne_eqb q k h)

  pub get_taken : map.get (map.remove m k) k ≡ None
  get_taken = grind (arith, gets)

  pub get_taken-other : (q : ℕ) → q ≢ k → map.get (map.remove m k) q ≡ map.get m q
  get_taken-other q h = get-remove nat_cmp_total m k q ∙ ap (λ b. cond b None (map.get m q)) (unsigned_tied q k ∙ ne_eqb q k h)

  -- an entry of a map with one more is the new one or an old one
  pub put_cases : (v : X) (q : ℕ) (w : X) → map.get (map.insert m k v) q ≡ Some w → ((q ≡ k) × (v ≡ w)) ⊎ ((q ≢ k) × (map.get m q ≡ Some w))
  put_cases v q w there = by (cases_eq q k)
    where
      by : (q ≡ k) ⊎ (q ≢ k) → ((q ≡ k) × (v ≡ w)) ⊎ ((q ≢ k) × (map.get m q ≡ Some w))
      by (inl e) = inl (e, one_some v w (sym (get_put v) ∙ ap (map.get (map.insert m k v)) (sym e) ∙ there))
      by (inr other) = inr (other, sym (get_put-other v q other) ∙ there)

  -- an entry of a map with one less is an old one
  pub taken_cases : (q : ℕ) (w : X) → map.get (map.remove m k) q ≡ Some w → (q ≢ k) × (map.get m q ≡ Some w)
  taken_cases q w there = by (cases_eq q k)
    where
      by : (q ≡ k) ⊎ (q ≢ k) → (q ≢ k) × (map.get m q ≡ Some w)
      by (inl e) = absurd (not_none w (sym get_taken ∙ ap (map.get (map.remove m k)) (sym e) ∙ there))
      by (inr other) = (other, sym (get_taken-other q other) ∙ there)

-- what holds of a value that is there
pub if_some : {X : Type 0} (r : Option X) (P Q : X → Type 0) → ((x : X) → P x → Q x) → IfSome r P → IfSome r Q
if_some None P Q f h = tt
if_some (Some x) P Q f h = f x h

pub if_both : {X : Type 0} (r : Option X) (P Q R : X → Type 0) → ((x : X) → P x → Q x → R x) → IfSome r P → IfSome r Q → IfSome r R
if_both None P Q R f h i = tt
if_both (Some x) P Q R f h i = f x h i

pub if_none : {X : Type 0} (r : Option X) (P : Type 0) → P → IfNone r P
if_none None P p = p
if_none (Some x) P p = tt

-- entries of which there are none
pub no_entries : {X : Type 0} (test : ℕ → Bool) (es : List (ℕ × X)) → length es ≡ 0 → lookup test es ≡ None
no_entries test [] none = refl
no_entries test (e ∷ es) none = absurd (omega (arith, none))

-- a map with one entry less has one less
pub one_fewer : {X : Type 0} (m : FinMap nat_cmp X) (k : ℕ) (v : X) → map.get m k ≡ Some v → map.len m ≡ map.len (map.remove m k) + 1
one_fewer m k v there =
    let left : map.len (map.remove m k) ≡ map.len m - 1 = len-remove nat_cmp_total m k ∙ ap (λ o. cond (is_some o) (map.len m - 1) (map.len m)) there in
    by (cases_eq (map.len m) 0) left
  where
    by : (map.len m ≡ 0) ⊎ (map.len m ≢ 0) → map.len (map.remove m k) ≡ map.len m - 1 → map.len m ≡ map.len (map.remove m k) + 1
    by (inl zero) left = absurd (not_none v (sym (get-empty nat_cmp k) ∙ ap (λ (n : FinMap nat_cmp _). map.get n k) (sym (empty_of_len m zero)) ∙ there))
    by (inr more) left = omega (arith, left, more)
