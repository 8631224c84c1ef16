-- What holds at each key of a map, told along the list of its keys.
use Rattle.std.proofs.Common.{◌≡◌, ◌↔◌, ℕ, ◌<◌, Bool, true, IsTrue, List, length, get_or, refl, sym, ap, subst, ◌∙◌}
use Rattle.std.specs.Prelude.{Option, Some, None, is_some, All}
use Rattle.std.specs.List.{Contains}
use Rattle.std.specs.Ordering.{nat_cmp, eq_by_cmp}
use Rattle.std.specs.Cmp.{unsigned_tied, eq_by_cmp_equiv, nat_cmp_total}
use Rattle.std.proofs.lemmas.Bool.{eqb-true}
use Rattle.std.proofs.lemmas.List.Elements.{All-contains, Contains-get_or}
use Rattle.std.proofs.lemmas.Map.Views.{Contains-from_any, list_any-from_Contains}
use Rattle.std.specs.FinMap as map
use Rattle.std.specs.FinMap.{FinMap, contains_key-keys}
use Rattle.f2_plain_check.specs.Parts.{IsSoAt, EachIsSo}

pub same_key : (q key : ℕ) → eq_by_cmp nat_cmp q key ≡ true → q ≡ key
same_key q key t = eqb-true q key (sym (unsigned_tied q key) ∙ t)

module _ {X : Type 0} (m : FinMap nat_cmp X) where
  key_among : (key : ℕ) (x : X) → map.get m key ≡ Some x → Contains (map.keys m) key
  key_among key x there = Contains-from_any same_key key (map.keys m) (sym (contains_key-keys m key) ∙ ap is_some there)

  some_value : (o : Option X) → is_some o ≡ true → (x : X) × (o ≡ Some x)
  some_value None none = absurd (cc)
  some_value (Some x) some = (x, refl)

  value_at : (k d : ℕ) → k < length (map.keys m) → (x : X) × (map.get m (get_or (map.keys m) k d) ≡ Some x)
  value_at k d inside =
      let key = get_or (map.keys m) k d in
      some_value (map.get m key) (contains_key-keys m key ∙ list_any-from_Contains (eq_by_cmp_equiv nat_cmp_total) key (map.keys m) (Contains-get_or (map.keys m) k d inside))

  module _ (P : ℕ → X → Type 0) where
    -- what holds of the value at each of a map's keys holds of each value
    each_key : All (IsSoAt m P) (map.keys m) ↔ EachIsSo m P
    each_key = (
      λ all key x there. (All-contains (IsSoAt m P) (map.keys m) key all (key_among key x there)).so x there,
      λ each k d inside. record { so = λ x there. each (get_or (map.keys m) k d) x there },
    )

    pub by_keys : (b : Bool) (keys : List ℕ) → keys ≡ map.keys m → IsTrue b ↔ All (IsSoAt m P) keys → IsTrue b ↔ EachIsSo m P
    by_keys b keys same all =
        let told : IsTrue b ↔ All (IsSoAt m P) (map.keys m) = subst (λ (ks : List ℕ). IsTrue b ↔ All (IsSoAt m P) ks) same all in
        (λ t. each_key.0 (told.0 t), λ each. told.1 (each_key.1 each))

  -- what holds of each of a map's keys holds wherever it has a value
  pub by_keys_alone : (P : ℕ → Type 0) (b : Bool) (keys : List ℕ) → keys ≡ map.keys m → IsTrue b ↔ All P keys → IsTrue b ↔ EachIsSo m (λ key x. P key)
  by_keys_alone P b keys same all =
      let told : IsTrue b ↔ All P (map.keys m) = subst (λ (ks : List ℕ). IsTrue b ↔ All P ks) same all in (
        λ t key x there. All-contains P (map.keys m) key (told.0 t) (key_among key x there),
        λ each. told.1 (λ k d inside. let at = value_at k d inside in each (get_or (map.keys m) k d) at.0 at.1),
      )
