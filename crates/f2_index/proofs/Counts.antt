-- How the number of a direct node's pages changes with the pages, and the dirty nodes with the nodes.
use Rattle.std.proofs.Common.{◌≡◌, ℕ, ◌+◌, ◌-◌, Bool, true, false, not, ◌&&◌, cond, Option, Some, None, is_some, refl, ap, sym, ◌∙◌, arith, inl, inr}
use Rattle.std.specs.Ordering.{nat_cmp, eq_by_cmp}
use Rattle.std.specs.Cmp.{nat_cmp_total}
use Rattle.std.specs.FinMap as map
use Rattle.std.specs.FinMap.{nat_cmp-IsAntisymmetric}
use Rattle.std.specs.FinSet as set
use Rattle.std.proofs.lemmas.Bool.{cases_eq}
use Rattle.std.proofs.lemmas.Bool.Decides.{nat_tests}
use Rattle.f2_index.specs.Nodes.{Nodes, is_dirty, dirty_of}
use Rattle.f2_index.proofs.Tables.{same}

-- what the kept keys have
pub get-kept : {X : Type 0} (m : map.FinMap nat_cmp X) (test : ℕ → Bool) (q : ℕ) → map.get (map.retain_keys m test) q ≡ cond (test q) (map.get m q) None
get-kept m test q = map.get-retain_keys m test q (λ x e. ap test (sym (nat_cmp-IsAntisymmetric q x e)))

at_key : {X : Type 0} (test : ℕ → Bool) (q k : ℕ) (v w : Option X) → test k ≡ true → cond (test q) (cond (eq_by_cmp nat_cmp q k) v w) None ≡ cond (eq_by_cmp nat_cmp q k) v (cond (test q) w None)
at_key test q k v w passes = elim (cases_eq q k) [ inl e ↦ rw e (grind (arith, nat_tests)) | inr apart ↦ grind (arith, nat_tests) ]

past_key : {X : Type 0} (test : ℕ → Bool) (q k : ℕ) (v w : Option X) → test k ≡ false → cond (test q) (cond (eq_by_cmp nat_cmp q k) v w) None ≡ cond (test q) w None
past_key test q k v w fails = elim (cases_eq q k) [ inl e ↦ rw e (grind (arith, nat_tests)) | inr apart ↦ grind (arith, nat_tests) ]

module _ {X : Type 0} (m : map.FinMap nat_cmp X) (test : ℕ → Bool) (k : ℕ) where
  kept-insert_yes : (v : X) → test k ≡ true → map.retain_keys (map.insert m k v) test ≡ map.insert (map.retain_keys m test) k v
  kept-insert_yes v passes = same _ _ (λ q.
      get-kept _ test q ∙ ap (λ o. cond (test q) o None) (map.get-insert nat_cmp_total m k v q)
      ∙ at_key test q k (Some v) (map.get m q) passes
      ∙ sym (map.get-insert nat_cmp_total _ k v q ∙ ap (cond (eq_by_cmp nat_cmp q k) (Some v)) (get-kept m test q)))

  kept-insert_no : (v : X) → test k ≡ false → map.retain_keys (map.insert m k v) test ≡ map.retain_keys m test
  kept-insert_no v fails = same _ _ (λ q.
      get-kept _ test q ∙ ap (λ o. cond (test q) o None) (map.get-insert nat_cmp_total m k v q)
      ∙ past_key test q k (Some v) (map.get m q) fails ∙ sym (get-kept m test q))

  kept-remove_yes : test k ≡ true → map.retain_keys (map.remove m k) test ≡ map.remove (map.retain_keys m test) k
  kept-remove_yes passes = same _ _ (λ q.
      get-kept _ test q ∙ ap (λ o. cond (test q) o None) (map.get-remove nat_cmp_total m k q)
      ∙ at_key test q k None (map.get m q) passes
      ∙ sym (map.get-remove nat_cmp_total _ k q ∙ ap (cond (eq_by_cmp nat_cmp q k) None) (get-kept m test q)))

  kept-remove_no : test k ≡ false → map.retain_keys (map.remove m k) test ≡ map.retain_keys m test
  kept-remove_no fails = same _ _ (λ q.
      get-kept _ test q ∙ ap (λ o. cond (test q) o None) (map.get-remove nat_cmp_total m k q)
      ∙ past_key test q k None (map.get m q) fails ∙ sym (get-kept m test q))

  has-kept : test k ≡ true → is_some (map.get (map.retain_keys m test) k) ≡ is_some (map.get m k)
  has-kept passes = ap is_some (get-kept m test k ∙ ap (λ b. cond b (map.get m k) None) passes)

  -- how many pass the test: one more, where the key passes and is new
  pub len-kept-insert : (v : X) (b : Bool) → test k ≡ b → map.len (map.retain_keys (map.insert m k v) test) ≡ cond (b && not (is_some (map.get m k))) (map.len (map.retain_keys m test) + 1) (map.len (map.retain_keys m test))
  len-kept-insert v true e =
      ap map.len (kept-insert_yes v e) ∙ map.len-insert nat_cmp_total _ k v
      ∙ (let has = has-kept e in grind arith)
  len-kept-insert v false e = ap map.len (kept-insert_no v e)

  -- one less, where the key passes and is there
  pub len-kept-remove : (b : Bool) → test k ≡ b → map.len (map.retain_keys (map.remove m k) test) ≡ cond (b && is_some (map.get m k)) (map.len (map.retain_keys m test) - 1) (map.len (map.retain_keys m test))
  len-kept-remove true e =
      ap map.len (kept-remove_yes e) ∙ map.len-remove nat_cmp_total _ k
      ∙ (let has = has-kept e in grind arith)
  len-kept-remove false e = ap map.len (kept-remove_no e)

-- a dirty node is one that is there and dirty
pub contains-dirty_of : (nodes : Nodes) (q : ℕ) → set.contains (dirty_of nodes) q ≡ is_dirty (map.get nodes q)
contains-dirty_of nodes q =
    set.contains-retain _ (λ offset. is_dirty (map.get nodes offset)) q (λ x e. ap (λ k. is_dirty (map.get nodes k)) (sym (nat_cmp-IsAntisymmetric q x e)))
    ∙ ap (λ b. b && is_dirty (map.get nodes q)) (set.contains-from_list nat_cmp_total (map.keys nodes) q ∙ sym (map.contains_key-keys nodes q))
    ∙ there (map.get nodes q)
  where
    there : (o : Option _) → (is_some o && is_dirty o) ≡ is_dirty o
    there None = refl
    there (Some n) = refl

-- two sets of numbers with the same members are equal
pub same_set : (s t : set.FinSet nat_cmp) → ((q : ℕ) → set.contains s q ≡ set.contains t q) → s ≡ t
same_set = set.same_set nat_cmp_total nat_cmp-IsAntisymmetric
