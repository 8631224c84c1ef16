-- Maps and sets by pairs that are chosen by a function or a test over some keys.
use Rattle.std.proofs.Common.{◌≡◌, inl, inr, ℕ, Bool, true, false, ◌||◌, List, [], ◌∷◌, filter, IsSome, is_some, refl, sym, ap, ◌∙◌, subst, true≢false}
use Rattle.std.specs.Prelude.{Option, Some, None}
use Rattle.std.specs.List.{flat_map, list_any}
use Rattle.std.specs.Ordering.{eq_by_cmp}
use Rattle.std.specs.FinMap as map
use Rattle.std.specs.FinMap.{get-from_entries, entries}
use Rattle.std.specs.FinSet as set
use Rattle.std.specs.FinSet.{contains-from_list}
use Rattle.f2_model.specs.State.{pair_cmp, Pairs}
use Rattle.f2_image.proofs.OneBase.{same_some}
use Rattle.f2_place_laws.proofs.FlatLists.{in_flat, from_flat, from_map}
use Rattle.f2_place_laws.proofs.FoundEntries.{found_in, some_found, entry_got}
use Rattle.f2_place_laws.proofs.Keys.{same_pair}
use Rattle.f2_place_laws.proofs.Lists.{IsIn, in_filter, from_filter}
use Rattle.f2_place_laws.proofs.Options.{the_one}
use Rattle.f2_place_laws.proofs.Pairs.{pair_cmp_total, tied}

module _ {X : Type 0} (f : ℕ × ℕ → Option X) (keys : List (ℕ × ℕ)) where
  abbrev entry : ℕ × ℕ → Option X → List ((ℕ × ℕ) × X)
  entry k None = []
  entry k (Some x) = (k, x) ∷ []

  all_entries : List ((ℕ × ℕ) × X)
  all_entries = flat_map (λ k. entry k (f k)) keys

  pub chosen : map.FinMap pair_cmp X
  chosen = map.from_entries all_entries

  in_entry : (k : ℕ × ℕ) (e : (ℕ × ℕ) × X) (o : Option X) → IsIn e (entry k o) → (x : X) × (o ≡ Some x) × (e ≡ (k, x))
  in_entry k e None h = absurd h
  in_entry k e (Some x) (inl same) = (x, refl, same)
  in_entry k e (Some x) (inr h) = absurd h

  -- what is there was chosen
  of_entry : (k : ℕ × ℕ) (x : X) (e : (ℕ × ℕ) × X) (j : ℕ × ℕ) → k ≡ e.0 → x ≡ e.1 → IsIn j keys → (y : X) → f j ≡ Some y → e ≡ (j, y) → IsIn k keys × (f k ≡ Some x)
  of_entry k x e j key value listed y is same =
      let k_is : k ≡ j = key ∙ ap (λ (g : (ℕ × ℕ) × X). g.0) same in
      let x_is : x ≡ y = value ∙ ap (λ (g : (ℕ × ℕ) × X). g.1) same in
      (subst (λ i. IsIn i keys) (sym k_is) listed, ap f k_is ∙ is ∙ ap Some (sym x_is))

  pub chosen_is : (k : ℕ × ℕ) (x : X) → map.get chosen k ≡ Some x → IsIn k keys × (f k ≡ Some x)
  unfolding chosen all_entries
  chosen_is k x there = by_found (found_in k x all_entries (sym (get-from_entries pair_cmp_total all_entries k) ∙ there))
    where
      by_key : (e : (ℕ × ℕ) × X) → k ≡ e.0 → x ≡ e.1 → ((j : ℕ × ℕ) × IsIn j keys × IsIn e (entry j (f j))) → IsIn k keys × (f k ≡ Some x)
      by_key e key value (j, listed, own) = let y = in_entry j e (f j) own in of_entry k x e j key value listed y.0 y.1 y.2

      by_found : ((e : (ℕ × ℕ) × X) × IsIn e all_entries × (k ≡ e.0) × (x ≡ e.1)) → IsIn k keys × (f k ≡ Some x)
      by_found (e, listed, key, value) = by_key e key value (from_flat (λ j. entry j (f j)) e keys listed)

  -- and what was chosen is there
  pub is_chosen : (k : ℕ × ℕ) (x : X) → IsIn k keys → f k ≡ Some x → map.get chosen k ≡ Some x
  unfolding chosen all_entries
  is_chosen k x listed is =
      let one : IsIn (k, x) (entry k (f k)) = subst (λ o. IsIn (k, x) (entry k o)) (sym is) (inl refl) in
      let there = some_found (k, x) all_entries (in_flat (λ j. entry j (f j)) k (k, x) keys listed one) in
      let found = the_one (map.get chosen k) (ap is_some (get-from_entries pair_cmp_total all_entries k) ∙ there) in
      let same : x ≡ found.0 = same_some x found.0 (sym is ∙ (chosen_is k found.0 found.1).1) in
      found.1 ∙ ap Some (sym same)

  -- so the map is the function, where the keys have all that it is somewhere
  pub all_chosen : ((k : ℕ × ℕ) (x : X) → f k ≡ Some x → IsIn k keys) → (k : ℕ × ℕ) → map.get chosen k ≡ f k
  all_chosen covers k = by_value (f k) refl (map.get chosen k) refl
    where
      by_value : (o : Option X) → f k ≡ o → (p : Option X) → map.get chosen k ≡ p → map.get chosen k ≡ f k
      by_value (Some x) e p there = is_chosen k x (covers k x e) e ∙ sym e
      by_value None e None there = there ∙ sym e
      by_value None e (Some y) there = (let found = (chosen_is k y there).1 in absurd (true≢false (sym (ap is_some (sym e ∙ found)))))

-- the keys of a map
module _ {X : Type 0} (m : map.FinMap pair_cmp X) where
  pub key_got : (k : ℕ × ℕ) → IsIn k (map.keys m) → IsSome (map.get m k)
  key_got k listed =
      let found = from_map (λ (e : (ℕ × ℕ) × X). e.0) k (entries m) listed in
      ap (λ j. is_some (map.get m j)) found.2 ∙ ap is_some (entry_got m found.0 found.1)

-- a member of a list by a test
module _ (test : ℕ × ℕ → Bool) where
  pub some_test : (k : ℕ × ℕ) (ks : List (ℕ × ℕ)) → IsIn k ks → test k ≡ true → list_any test ks ≡ true
  some_test k [] h is = absurd h
  some_test k (j ∷ ks) (inl e) is = ap (λ b. b || list_any test ks) (ap test (sym e) ∙ is)
  some_test k (j ∷ ks) (inr h) is = by_first (test j) (some_test k ks h is)
    where
      by_first : (b : Bool) → list_any test ks ≡ true → (b || list_any test ks) ≡ true
      by_first true rest = refl
      by_first false rest = rest

  pub from_test : (ks : List (ℕ × ℕ)) → list_any test ks ≡ true → (k : ℕ × ℕ) × (IsIn k ks × (test k ≡ true))
  from_test [] h = absurd (true≢false (sym h))
  from_test (j ∷ ks) h = by_first (from_test ks) (test j) refl h
    where
      by_first : (list_any test ks ≡ true → (k : ℕ × ℕ) × (IsIn k ks × (test k ≡ true))) → (b : Bool) → test j ≡ b → (b || list_any test ks) ≡ true → (k : ℕ × ℕ) × (IsIn k (j ∷ ks) × (test k ≡ true))
      by_first rest true e h = (j, (inl refl, e))
      by_first rest false e h = let more = rest h in (more.0, (inr more.1.0, more.1.1))

-- a set of those keys that pass a test
module _ (test : ℕ × ℕ → Bool) (keys : List (ℕ × ℕ)) where
  pub passing : Pairs
  passing = set.from_list (filter test keys)

  pub passes : (k : ℕ × ℕ) → IsIn k keys → test k ≡ true → set.contains passing k ≡ true
  unfolding passing
  passes k listed is =
      contains-from_list pair_cmp_total (filter test keys) k ∙ some_test (eq_by_cmp pair_cmp k) k (filter test keys) (in_filter test k keys is listed) (tied k)

  pub passed : (k : ℕ × ℕ) → set.contains passing k ≡ true → IsIn k keys × (test k ≡ true)
  unfolding passing
  passed k has =
      let found = from_test (eq_by_cmp pair_cmp k) (filter test keys) (sym (contains-from_list pair_cmp_total (filter test keys) k) ∙ has) in
      let same : k ≡ found.0 = same_pair k found.0 found.1.1 in
      let passes = from_filter test found.0 keys found.1.0 in
      (subst (λ j. IsIn j keys) (sym same) passes.1, ap test same ∙ passes.0)
