-- Maps and sets to which a new key came.
use Rattle.std.proofs.Common.{◌≡◌, ◌≢◌, ◌⊎◌, inl, inr, ℕ, Bool, true, false, cond, ◌||◌, List, refl, sym, ap, ◌∙◌}
use Rattle.std.specs.Prelude.{Option, Some, None, is_some}
use Rattle.std.specs.Ordering.{nat_cmp, eq_by_cmp, is_eq}
use Rattle.std.specs.Cmp.{nat_cmp_total, Equal-is, tied_itself}
use Rattle.std.specs.Cmp.Lexicographic.{slice_cmp, nat_list_cmp_total}
use Rattle.std.specs.FinMap as map
use Rattle.std.specs.FinMap.{FinMap, nat_cmp-IsAntisymmetric, slice_cmp-IsAntisymmetric}
use Rattle.std.specs.FinSet as set
use Rattle.f2_laws.proofs.Maps.{get_put, get_put-other}
use Rattle.f2_laws.proofs.Places.{same_or_other}
use Rattle.f2_laws.proofs.Walks.{some_same, some_none}
use Rattle.f2_recover.proofs.Sets.{Numbers, not_both}

-- a key without a value, and one with a value
pub free_none : {X : Type 0} (o : Option X) → is_some o ≡ false → o ≡ None
free_none None e = refl
free_none (Some x) e = absurd (not_both refl e)

pub some_there : {X : Type 0} (o : Option X) → is_some o ≡ true → (x : X) × (o ≡ Some x)
some_there None e = absurd (not_both e refl)
some_there (Some x) e = (x, refl)

some_or : {X : Type 0} (b : Bool) (v : X) (o : Option X) → is_some (cond b (Some v) o) ≡ (b || is_some o)
some_or true v o = refl
some_or false v o = refl

module _ {X : Type 0} (m : FinMap nat_cmp X) (k : ℕ) (v : X) where
  pub put_cases : (q : ℕ) (x : X) → map.get (map.insert m k v) q ≡ Some x → ((q ≡ k) × (x ≡ v)) ⊎ (map.get m q ≡ Some x)
  put_cases q x is = by_key (same_or_other q k)
    where
      by_key : (q ≡ k) ⊎ (q ≢ k) → ((q ≡ k) × (x ≡ v)) ⊎ (map.get m q ≡ Some x)
      by_key (inl same) = inl (same, some_same (sym is ∙ ap (λ i. map.get (map.insert m k v) i) same ∙ get_put m k v))
      by_key (inr other) = inr (sym (get_put-other m k v q other) ∙ is)

  -- what a map holds stays where a new key is put
  pub put_stays : map.contains_key m k ≡ false → (q : ℕ) (x : X) → map.get m q ≡ Some x → map.get (map.insert m k v) q ≡ Some x
  put_stays free q x is = get_put-other m k v q (λ same. some_none (sym is ∙ ap (λ i. map.get m i) same ∙ free_none (map.get m k) free)) ∙ is

  -- the keys of a map and the members of a set, where both get one more
  pub keys_more : (s : Numbers) → ((q : ℕ) → set.contains s q ≡ map.contains_key m q) → (q : ℕ) → set.contains (set.insert s k) q ≡ map.contains_key (map.insert m k v) q
  keys_more s same q =
      set.contains-insert nat_cmp_total s k q ∙ ap (λ b. eq_by_cmp nat_cmp q k || b) (same q)
      ∙ sym (ap is_some (map.get-insert nat_cmp_total m k v q) ∙ some_or (eq_by_cmp nat_cmp q k) v (map.get m q))

-- the same of names as keys
module _ {X : Type 0} (m : FinMap (slice_cmp nat_cmp) X) (name : List ℕ) (v : X) where
  tied : (q : List ℕ) (b : Bool) → eq_by_cmp (slice_cmp nat_cmp) q name ≡ b → map.get (map.insert m name v) q ≡ cond b (Some v) (map.get m q)
  tied q b test = map.get-insert nat_list_cmp_total m name v q ∙ ap (λ b. cond b (Some v) (map.get m q)) test

  pub named_here : map.get (map.insert m name v) name ≡ Some v
  named_here = tied name true (ap is_eq (tied_itself nat_list_cmp_total name))

  pub named_cases : (q : List ℕ) (x : X) → map.get (map.insert m name v) q ≡ Some x → ((q ≡ name) × (x ≡ v)) ⊎ (map.get m q ≡ Some x)
  named_cases q x is = by_tie (eq_by_cmp (slice_cmp nat_cmp) q name) refl
    where
      by_tie : (b : Bool) → eq_by_cmp (slice_cmp nat_cmp) q name ≡ b → ((q ≡ name) × (x ≡ v)) ⊎ (map.get m q ≡ Some x)
      by_tie true test = inl (slice_cmp-IsAntisymmetric nat_cmp-IsAntisymmetric q name ((Equal-is (slice_cmp nat_cmp q name)).0 test), some_same (sym is ∙ tied q true test))
      by_tie false test = inr (sym (tied q false test) ∙ is)

  pub named_stays : map.get m name ≡ None → (q : List ℕ) (x : X) → map.get m q ≡ Some x → map.get (map.insert m name v) q ≡ Some x
  named_stays none q x is = by_tie (eq_by_cmp (slice_cmp nat_cmp) q name) refl
    where
      by_tie : (b : Bool) → eq_by_cmp (slice_cmp nat_cmp) q name ≡ b → map.get (map.insert m name v) q ≡ Some x
      by_tie true test =
          let same : q ≡ name = slice_cmp-IsAntisymmetric nat_cmp-IsAntisymmetric q name ((Equal-is (slice_cmp nat_cmp q name)).0 test) in
          absurd (some_none (sym is ∙ ap (λ i. map.get m i) same ∙ none))
      by_tie false test = tied q false test ∙ is
