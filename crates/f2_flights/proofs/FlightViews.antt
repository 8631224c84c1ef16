-- The entries of an ordered map whose values are seen through a function, as a finite map.
use Rattle.std.proofs.Common.{◌≡◌, ℕ, Bool, true, false, cond, List, [], ◌∷◌, map, refl, sym, ap, subst, ◌∙◌}
use Rattle.std.specs.Prelude.{Option, Some, None, IsSome}
use Rattle.std.specs.Option.{option_map}
use Rattle.std.specs.List.{filter, find, filter_map, cons_option}
use Rattle.std.specs.List.Sorted.{IsStrictlySortedBy}
use Rattle.std.specs.Map.{lookup, keys_of, values_of}
use Rattle.std.specs.BTreeMap.{is_at}
use Rattle.std.specs.Ordering.{nat_cmp}
use Rattle.std.specs.FinMap as finite
use Rattle.std.specs.FinMap.{FinMap, from_entries}
use Rattle.f2_model.proofs.MapViews.{shown, entries-seen, seen-remove}
use Rattle.f2_model.specs.State.{Flight}
use Rattle.std.specs.Map.Iter.{TakesFirst}
use Rattle.f2_model.specs.Step.{first_key}

keys_of-shown : {A X : Type 0} (f : A → X) (es : List (ℕ × A)) → keys_of (shown f es) ≡ keys_of es
keys_of-shown f [] = refl
keys_of-shown f (e ∷ es) = ap (λ ks. e.0 ∷ ks) (keys_of-shown f es)

values_of-shown : {A X : Type 0} (f : A → X) (es : List (ℕ × A)) → values_of (shown f es) ≡ map f (values_of es)
values_of-shown f [] = refl
values_of-shown f (e ∷ es) = ap (λ vs. f e.1 ∷ vs) (values_of-shown f es)

lookup-shown : {A X : Type 0} (f : A → X) (test : ℕ → Bool) (es : List (ℕ × A)) → lookup test (shown f es) ≡ option_map f (lookup test es)
lookup-shown f test [] = refl
lookup-shown f test (e ∷ es) =
    elim (test e.0) as (λ b. cond b (Some (f e.1)) (lookup test (shown f es)) ≡ option_map f (cond b (Some e.1) (lookup test es))) [ true ↦ refl | false ↦ lookup-shown f test es ]

none_mapped : {A X : Type 0} (f : A → X) (b : Bool) (o : Option A) → option_map f (cond b None o) ≡ cond b None (option_map f o)
none_mapped f true o = refl
none_mapped f false o = refl

filter_map-mapped : {A X Y : Type 0} (f : A → X) (g : X → Option Y) (xs : List A) → filter_map (λ x. g (f x)) xs ≡ filter_map g (map f xs)
filter_map-mapped f g [] = refl
filter_map-mapped f g (x ∷ xs) = ap (cons_option (g (f x))) (filter_map-mapped f g xs)

-- the first key of the entries that pass a test is that of the first that is found
first-found : {A : Type 0} (f : A → Flight) (p : Flight → Bool) (es : List (ℕ × A)) → option_map (λ e. e.0) (find (λ e. p (f e.1)) es) ≡ first_key (filter (λ one. p one.1) (shown f es))
first-found f p [] = refl
first-found {A = A} f p (e ∷ es) =
    elim (p (f e.1)) as (λ b. option_map (λ (x : ℕ × A). x.0) (cond b (Some e) (find (λ x. p (f x.1)) es)) ≡ first_key (cond b ((e.0, f e.1) ∷ filter (λ one. p one.1) (shown f es)) (filter (λ one. p one.1) (shown f es))))
    [ true ↦ refl | false ↦ first-found f p es ]

module _ {A X : Type 0} (es : List (ℕ × A)) (f : A → X) (m : FinMap nat_cmp X) (seen : from_entries (shown f es) ≡ m) where
  pub entries-shown_seen : IsStrictlySortedBy nat_cmp (keys_of es) → shown f es ≡ finite.entries m
  entries-shown_seen h = entries-seen (shown f es) m seen (subst (IsStrictlySortedBy nat_cmp) (sym (keys_of-shown f es)) h)

  pub values-shown_seen : IsStrictlySortedBy nat_cmp (keys_of es) → map f (values_of es) ≡ finite.values m
  values-shown_seen h = sym (values_of-shown f es) ∙ ap values_of (entries-shown_seen h)

  pub filter_map-shown_seen : {Y : Type 0} (g : X → Option Y) → IsStrictlySortedBy nat_cmp (keys_of es) → filter_map (λ v. g (f v)) (values_of es) ≡ filter_map g (finite.values m)
  filter_map-shown_seen g h = filter_map-mapped f g (values_of es) ∙ ap (filter_map g) (values-shown_seen h)

  pub shown_seen-remove : (fs : List (ℕ × A)) (k : ℕ) → ((q : ℕ) → lookup (is_at (nat_cmp q)) fs ≡ cond (is_at (nat_cmp k) q) None (lookup (is_at (nat_cmp q)) es)) → from_entries (shown f fs) ≡ finite.remove m k
  shown_seen-remove fs k h = seen-remove (shown f es) m seen (shown f fs) k (λ q.
      lookup-shown f _ fs ∙ ap (option_map f) (h q) ∙ none_mapped f _ _
      ∙ ap (cond (is_at (nat_cmp k) q) None) (sym (lookup-shown f _ es)))

-- the seat of the first flight that passes a test
pub first-seen : {A : Type 0} (es : List (ℕ × A)) (f : A → Flight) (m : FinMap nat_cmp Flight) (seen : from_entries (shown f es) ≡ m) (p : Flight → Bool)
    → IsStrictlySortedBy nat_cmp (keys_of es) → option_map (λ e. e.0) (find (λ e. p (f e.1)) es) ≡ first_key (filter (λ one. p one.1) (finite.entries m))
first-seen es f m seen p h = first-found f p es ∙ ap (λ xs. first_key (filter (λ one. p one.1) xs)) (entries-shown_seen es f m seen h)

-- the least key is the first that an iterator over the keys gives
least-given : {A X : Type 0} (f : A → Flight) (es : List (ℕ × A)) (r : Option X) (g : X → ℕ) (t : List ℕ) → TakesFirst g (keys_of es) r t → option_map g r ≡ first_key (shown f es)
least-given f [] None g t h = refl
least-given f [] (Some x) g t h = cc
least-given f (e ∷ es) None g t h = let none = h.0 in cc
least-given f (e ∷ es) (Some x) g t h = let first : e.0 ≡ g x = cc in ap Some (sym first)

pub least-seen : {A X : Type 0} (es : List (ℕ × A)) (f : A → Flight) (m : FinMap nat_cmp Flight) (seen : from_entries (shown f es) ≡ m) (r : Option X) (g : X → ℕ) (t : List ℕ)
    → IsStrictlySortedBy nat_cmp (keys_of es) → TakesFirst g (keys_of es) r t → option_map g r ≡ first_key (finite.entries m)
least-seen es f m seen r g t h took = least-given f es r g t took ∙ ap first_key (entries-shown_seen es f m seen h)

pub none_there : {X : Type 0} (o : Option X) → o ≡ None → IsSome o → ⊥
none_there None e h = cc
none_there (Some x) e h = cc
