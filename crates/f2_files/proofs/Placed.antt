-- What names are bound to, in the order of the names.
use Rattle.std.proofs.Common.{◌≡◌, ℕ, List, [], ◌∷◌, length, refl, ap, ◌∙◌}
use Rattle.std.specs.Prelude.{map as list_map}
use Rattle.std.specs.List.Sorted.{IsStrictlySortedBy}
use Rattle.std.specs.Map.{values_of}
use Rattle.std.specs.FinMap as map
use Rattle.std.proofs.lemmas.List.{length-map}
use Rattle.f2_dir.proofs.Names.{shown, view, named_cmp, entries-view}

module _ {K X : Type 0} (name : K → List ℕ) where
  values-shown : (es : List (K × X)) → list_map (λ (e : List ℕ × X). e.1) (shown name es) ≡ values_of es
  values-shown [] = refl
  values-shown (e ∷ es) = ap (λ rest. e.1 ∷ rest) (values-shown es)

  pub values-view : (es : List (K × X)) → IsStrictlySortedBy (named_cmp name) (list_map (λ (e : K × X). e.0) es) → map.values (view name es) ≡ values_of es
  values-view es sorted = ap (list_map (λ (e : List ℕ × X). e.1)) (entries-view name es sorted) ∙ values-shown es

  pub len-view : (es : List (K × X)) → IsStrictlySortedBy (named_cmp name) (list_map (λ (e : K × X). e.0) es) → map.len (view name es) ≡ length es
  len-view es sorted = map.len-entries (view name es) ∙ ap length (entries-view name es sorted) ∙ length-map es (λ (e : K × X). (name e.0, e.1))

  -- the names of entries
  abbrev pub names_from : List (K × X) → List (List ℕ)
  names_from es = list_map (λ (e : List ℕ × X). e.0) (shown name es)

  pub keys-view : (es : List (K × X)) → IsStrictlySortedBy (named_cmp name) (list_map (λ (e : K × X). e.0) es) → map.keys (view name es) ≡ names_from es
  keys-view es sorted = ap (list_map (λ (e : List ℕ × X). e.0)) (entries-view name es sorted)
