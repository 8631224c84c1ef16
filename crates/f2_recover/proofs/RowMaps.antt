-- Maps by numbers with an entry more, and sets of their keys.
use Rattle.std.proofs.Common.{◌≡◌, ◌≢◌, ◌⊎◌, inl, inr, ℕ, Bool, true, false, cond, ◌||◌, refl, sym, ap, ◌∙◌}
use Rattle.std.specs.Prelude.{Some, None}
use Rattle.std.specs.Option.{is_some}
use Rattle.std.specs.Ordering.{nat_cmp, eq_by_cmp}
use Rattle.std.specs.Cmp.{nat_cmp_total}
use Rattle.std.specs.FinMap as map
use Rattle.std.specs.FinSet as set
use Rattle.std.proofs.lemmas.Bool.{cases_eq}
use Rattle.f2_image.proofs.OneBase.{same_some}
use Rattle.f2_laws.proofs.Maps.{get_put, get_put-other}
use Rattle.f2_recover.proofs.Sets.{Numbers}

module _ {X : Type 0} (m : map.FinMap nat_cmp X) (k : ℕ) (v : X) where
  -- what is under a key is the new entry, or was there before
  pub put_cases : (q : ℕ) (w : X) → map.get (map.insert m k v) q ≡ Some w → ((q ≡ k) × (w ≡ v)) ⊎ ((q ≢ k) × (map.get m q ≡ Some w))
  put_cases q w there = by (cases_eq q k)
    where
      by : (q ≡ k) ⊎ (q ≢ k) → ((q ≡ k) × (w ≡ v)) ⊎ ((q ≢ k) × (map.get m q ≡ Some w))
      by (inl e) = inl (e, same_some w v (sym there ∙ ap (map.get (map.insert m k v)) e ∙ get_put m k v))
      by (inr other) = inr (other, sym (get_put-other m k v q other) ∙ there)

  -- a set of the keys has the new one too
  pub keys_more : (s : Numbers) → ((q : ℕ) → set.contains s q ≡ map.contains_key m q) → (q : ℕ) → set.contains (set.insert s k) q ≡ map.contains_key (map.insert m k v) q
  keys_more s same q =
      set.contains-insert nat_cmp_total s k q ∙ either (eq_by_cmp nat_cmp q k) ∙ ap is_some (sym (map.get-insert nat_cmp_total m k v q))
    where
      either : (b : Bool) → (b || set.contains s q) ≡ is_some (cond b (Some v) (map.get m q))
      either true = refl
      either false = same q

-- no key is in an empty map
pub none_there : {X : Type 0} (q : ℕ) (w : X) → map.get (map.empty {X = X} {R = nat_cmp}) q ≡ Some w → ⊥
none_there {X} q w there = no w (sym (map.get-empty nat_cmp q) ∙ there)
  where
    no : (x : X) → None ≡ Some x → ⊥
    no x e = cc

pub no_keys : (X : Type 0) (q : ℕ) → set.contains {R = nat_cmp} set.empty q ≡ map.contains_key (map.empty {X = X} {R = nat_cmp}) q
no_keys X q = set.contains-empty nat_cmp q ∙ ap is_some (sym (map.get-empty nat_cmp q))
