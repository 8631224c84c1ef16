-- Maps that have what a list of pages has: their entries are that list.
use Rattle.std.proofs.Common.{◌≡◌, ℕ, zero, suc, ◌+◌, ◌<◌, Bool, true, false, ◌&&◌, T, cond, List, [], ◌∷◌, length, get_or, map as map_list, refl, sym, ap, subst, ◌∙◌, arith, eq-eqb}
use Rattle.std.specs.Prelude.{Option, Some, None, Contains}
use Rattle.std.specs.Option.{option_map}
use Rattle.std.specs.Map.{keys_of}
use Rattle.std.specs.List.{AllByRecursion}
use Rattle.std.specs.List.Sorted.{IsStrictlySortedBy, IsStrictlyIncreasing}
use Rattle.std.specs.Ordering.{nat_cmp, eq_by_cmp, is_lt}
use Rattle.std.specs.declared.cmp.Ordering.{Ordering}
use Rattle.std.specs.declared.cmp.Ordering.TheVariants.{Less, Equal, Greater}
use Rattle.std.specs.Cmp.{nat_cmp_total, unsigned_tied}
use Rattle.std.specs.FinMap as map
use Rattle.std.specs.FinMap.{FinMap, find, is_sorted, nat_cmp-IsAntisymmetric}
use Rattle.std.specs.FinMap.Entries.{below_all}
use Rattle.std.proofs.lemmas.Bool.{eqb-true}
use Rattle.std.proofs.lemmas.List.{get_or-map, length-map}
use Rattle.std.proofs.lemmas.Map.Keys.{sorted_from_strictly_increasing, IsStrictlyIncreasing-from_sorted}
use Rattle.f2_format.specs.Offsets.{page_limit}
use Rattle.f2_model.proofs.MapViews.{entries-from_ordered}
use Rattle.f2_recover.specs.Seeing.{IsList, no_page}
use Rattle.f2_recover.specs.declared.nodes.PageAt.{PageAt}
use Rattle.f2_found.specs.Pages.{numbers_of, AreInOrder}
use Rattle.f2_found.specs.Made.{listed_of}

not_none : {X : Type 0} (x : X) → None ≡ Some x → ⊥
not_none x e = cc

one_some : {X : Type 0} (x y : X) → Some x ≡ Some y → x ≡ y
one_some x y e = cc

-- the keys of a map rise
first : (a b : Bool) → T (a && b) → T a
first true b h = tt
first false b h = absurd h

second : (a b : Bool) → T (a && b) → T b
second true b h = h
second false b h = absurd h

less : (o : Ordering) → T (is_lt o) → o ≡ Less
less Less h = refl
less Equal h = absurd h
less Greater h = absurd h

module _ {X : Type 0} where
  keys_below : (x : ℕ) (es : List (ℕ × X)) → T (below_all nat_cmp x es) → AllByRecursion (λ y. nat_cmp x y ≡ Less) (keys_of es)
  keys_below x [] h = tt
  keys_below x (e ∷ es) h = (less _ (first _ _ h), keys_below x es (second _ _ h))

  keys_rise : (es : List (ℕ × X)) → T (is_sorted nat_cmp es) → IsStrictlySortedBy nat_cmp (keys_of es)
  unfolding IsStrictlySortedBy
  keys_rise [] h = tt
  keys_rise (e ∷ es) h = (keys_below e.0 es (first _ _ h), keys_rise es (second _ _ h))

-- the pages of a map as a list, in order where all are below the limit
numbers_listed : (es : List (ℕ × ℕ)) → numbers_of (map_list (λ entry. record { page = entry.0; at = entry.1 }) es) ≡ keys_of es
numbers_listed [] = refl
numbers_listed (e ∷ es) = ap (λ ns. e.0 ∷ ns) (numbers_listed es)

rising_listed : (pages : FinMap nat_cmp ℕ) → IsStrictlyIncreasing (numbers_of (listed_of pages))
rising_listed pages =
    subst (λ (ns : List ℕ). IsStrictlyIncreasing ns) (sym (numbers_listed (map.entries pages))) (IsStrictlyIncreasing-from_sorted (map.keys pages) (keys_rise (map.entries pages) (map.entries_sorted pages)))

tied : (q k : ℕ) → q ≡ k → eq_by_cmp nat_cmp q k ≡ true
tied q k e = unsigned_tied q k ∙ eq-eqb q k e

same : (q k : ℕ) → eq_by_cmp nat_cmp q k ≡ true → q ≡ k
same q k e = eqb-true q k (sym (unsigned_tied q k) ∙ e)

-- a list of pages as entries, with f of each address
module _ {X : Type 0} (f : ℕ → X) where
  abbrev pub entries_at : List PageAt → List (ℕ × X)
  entries_at list = map_list (λ x. (x.page, f x.at)) list

  keys_at : (list : List PageAt) → keys_of (entries_at list) ≡ numbers_of list
  keys_at [] = refl
  keys_at (x ∷ xs) = ap (λ ks. x.page ∷ ks) (keys_at xs)

  alike_entries : (m : FinMap nat_cmp X) (list : List PageAt) → IsStrictlyIncreasing (numbers_of list) → ((q : ℕ) → map.get m q ≡ find nat_cmp q (entries_at list)) → map.entries m ≡ entries_at list
  alike_entries m list rising alike =
      let sorted = subst (λ (ks : List ℕ). IsStrictlySortedBy nat_cmp ks) (sym (keys_at list)) (sorted_from_strictly_increasing (numbers_of list) rising) in
      let whole = map.same_map nat_cmp_total nat_cmp-IsAntisymmetric m (map.from_entries (entries_at list)) (λ q. alike q ∙ sym (map.get-from_entries nat_cmp_total (entries_at list) q)) in
      ap map.entries whole ∙ entries-from_ordered (entries_at list) sorted

  find_listed : (q : ℕ) (es : List (ℕ × ℕ)) → find nat_cmp q (entries_at (map_list (λ entry. record { page = entry.0; at = entry.1 }) es)) ≡ option_map f (find nat_cmp q es)
  find_listed q [] = refl
  find_listed q (e ∷ es) =
      elim (eq_by_cmp nat_cmp q e.0) as (λ b. cond b (Some (f e.1)) (find nat_cmp q (entries_at (map_list (λ entry. record { page = entry.0; at = entry.1 }) es))) ≡ option_map f (cond b (Some e.1) (find nat_cmp q es))) [
        | true ↦ refl
        | false ↦ find_listed q es
      ]

  -- a map that has f of the addresses of another
  pub of_map : (m : FinMap nat_cmp X) (pages : FinMap nat_cmp ℕ) → ((q : ℕ) → map.get m q ≡ option_map f (map.get pages q)) → map.entries m ≡ entries_at (listed_of pages)
  of_map m pages alike = alike_entries m (listed_of pages) (rising_listed pages) (λ q. alike q ∙ ap (option_map f) (map.get-entries pages q) ∙ sym (find_listed q (map.entries pages)))

  -- a map that has nothing
  pub of_none : (m : FinMap nat_cmp X) → ((q : ℕ) → map.get m q ≡ None) → map.entries m ≡ []
  of_none m none = alike_entries m [] (λ k small. absurd (omega (arith, small))) none

  -- what is found is of the list, and else it isn't there
  record IsAt (list : List PageAt) (q : ℕ) (v : X) : Type 0 where
    x : PageAt
    there : Contains list x
    page : x.page ≡ q
    value : f x.at ≡ v

  found_in : (q : ℕ) (list : List PageAt) (v : X) → find nat_cmp q (entries_at list) ≡ Some v → IsAt list q v
  found_in q [] v e = absurd (not_none v e)
  found_in q (y ∷ ys) v e = by (eq_by_cmp nat_cmp q y.page) refl (found_in q ys v)
    where
      step : (b : Bool) → eq_by_cmp nat_cmp q y.page ≡ b → find nat_cmp q (entries_at (y ∷ ys)) ≡ cond b (Some (f y.at)) (find nat_cmp q (entries_at ys))
      step b t = ap (λ (c : Bool). cond c (Some (f y.at)) (find nat_cmp q (entries_at ys))) t

      by : (b : Bool) → eq_by_cmp nat_cmp q y.page ≡ b → (find nat_cmp q (entries_at ys) ≡ Some v → IsAt ys q v) → IsAt (y ∷ ys) q v
      by true t later = record { x = y; there = (0, omega arith, refl); page = sym (same q y.page t); value = one_some (f y.at) v (sym (step true t) ∙ e) }
      by false t later =
          let rest = later (sym (step false t) ∙ e) in
          let at = rest.there in
          record { x = rest.x; there = (suc at.0, omega (arith, at.1), at.2); page = rest.page; value = rest.value }

  missing_in : (q : ℕ) (list : List PageAt) → find nat_cmp q (entries_at list) ≡ None → (k : ℕ) (x : PageAt) → k < length list → get_or list k x ≡ x → x.page ≡ q → ⊥
  missing_in q [] e k x small is own = omega (arith, small)
  missing_in q (y ∷ ys) e k x small is own = by (eq_by_cmp nat_cmp q y.page) refl k small is (missing_in q ys)
    where
      step : (b : Bool) → eq_by_cmp nat_cmp q y.page ≡ b → find nat_cmp q (entries_at (y ∷ ys)) ≡ cond b (Some (f y.at)) (find nat_cmp q (entries_at ys))
      step b t = ap (λ (c : Bool). cond c (Some (f y.at)) (find nat_cmp q (entries_at ys))) t

      both : (b : Bool) → b ≡ true → b ≡ false → ⊥
      both b p q = cc

      by : (b : Bool) → eq_by_cmp nat_cmp q y.page ≡ b → (k : ℕ) → k < length (y ∷ ys) → get_or (y ∷ ys) k x ≡ x
          → (find nat_cmp q (entries_at ys) ≡ None → (k : ℕ) (x : PageAt) → k < length ys → get_or ys k x ≡ x → x.page ≡ q → ⊥) → ⊥
      by true t k small is later = not_none (f y.at) (sym e ∙ step true t)
      by false t zero small is later = both (eq_by_cmp nat_cmp q y.page) (tied q y.page (sym own ∙ ap (λ (p : PageAt). p.page) (sym is))) t
      by false t (suc k) small is later = later (sym (step false t) ∙ e) k x (omega (arith, small)) is own

  -- a map that has f of the addresses of a list
  pub of_list : (m : FinMap nat_cmp X) (limit : ℕ) (pages : FinMap nat_cmp ℕ) (list : List PageAt) → IsList limit pages list → IsStrictlyIncreasing (numbers_of list) → ((q : ℕ) → map.get m q ≡ option_map f (map.get pages q)) → map.entries m ≡ entries_at list
  of_list m limit pages list is rising alike = alike_entries m list rising (λ q. by q (find nat_cmp q (entries_at list)) refl)
    where
      none : (q : ℕ) → find nat_cmp q (entries_at list) ≡ None → (o : Option ℕ) → map.get pages q ≡ o → option_map f o ≡ None
      none q e None h = refl
      none q e (Some at) h = let k = is.all q at h in absurd (missing_in q list e k.0 (record { page = q; at = at }) k.1 k.2 refl)

      by : (q : ℕ) (o : Option X) → find nat_cmp q (entries_at list) ≡ o → map.get m q ≡ find nat_cmp q (entries_at list)
      by q (Some v) e =
          let at = found_in q list v e in
          alike q ∙ ap (option_map f) (ap (map.get pages) (sym at.page) ∙ is.only at.x at.there) ∙ ap Some at.value ∙ sym e
      by q None e = alike q ∙ none q e (map.get pages q) refl ∙ sym e

-- the pages of a map are in order where they are below the limit
pub listed_in_order : (pages : FinMap nat_cmp ℕ) → ((page at : ℕ) → map.get pages page ≡ Some at → page < page_limit) → AreInOrder (listed_of pages)
listed_in_order pages within = record { rising = rising_listed pages; within = λ k d small. low k d small }
  where
    has : (es : List (ℕ × ℕ)) (k d : ℕ) → k < length (numbers_of (map_list (λ entry. record { page = entry.0; at = entry.1 }) es)) → (at : ℕ) × (find nat_cmp (get_or (numbers_of (map_list (λ entry. record { page = entry.0; at = entry.1 }) es)) k d) es ≡ Some at)
    has [] k d small = absurd (omega (arith, small))
    has (e ∷ es) zero d small = (e.1, ap (λ (b : Bool). cond b (Some e.1) (find nat_cmp e.0 es)) (tied e.0 e.0 refl))
    has (e ∷ es) (suc k) d small =
        let rest = has es k d (omega (arith, small)) in
        let q : ℕ = get_or (numbers_of (map_list (λ entry. record { page = entry.0; at = entry.1 }) es)) k d in
        by q rest.0 rest.1 (eq_by_cmp nat_cmp q e.0) refl
      where
        by : (q at : ℕ) → find nat_cmp q es ≡ Some at → (b : Bool) → eq_by_cmp nat_cmp q e.0 ≡ b → (at : ℕ) × (find nat_cmp q (e ∷ es) ≡ Some at)
        by q at there true t = (e.1, ap (λ (c : Bool). cond c (Some e.1) (find nat_cmp q es)) t)
        by q at there false t = (at, ap (λ (c : Bool). cond c (Some e.1) (find nat_cmp q es)) t ∙ there)

    low : (k d : ℕ) → k < length (numbers_of (listed_of pages)) → get_or (numbers_of (listed_of pages)) k d < page_limit
    low k d small = let there = has (map.entries pages) k d small in within (get_or (numbers_of (listed_of pages)) k d) there.0 (map.get-entries pages (get_or (numbers_of (listed_of pages)) k d) ∙ there.1)

-- the pages of the base are in order
pub list_in_order : (pages : FinMap nat_cmp ℕ) (list : List PageAt) → IsList page_limit pages list → AreInOrder list
list_in_order pages list is = record {
  rising = λ k small.
      let count : length (numbers_of list) ≡ length list = length-map list (λ (x : PageAt). x.page) in
      let next : k + 1 < length list = omega (arith, small, count) in
      let here = get_or-map (λ (x : PageAt). x.page) list k no_page 0 (omega (arith, next)) in
      let there = get_or-map (λ (x : PageAt). x.page) list (k + 1) no_page 0 next in
      let above = is.rising k (k + 1) (omega arith) next in
      omega (arith, here, there, above);
  within = λ k d small.
      let count : length (numbers_of list) ≡ length list = length-map list (λ (x : PageAt). x.page) in
      let low : k < length list = omega (arith, small, count) in
      subst (λ n. n < page_limit) (sym (get_or-map (λ (x : PageAt). x.page) list k no_page d low)) (is.within k no_page low);
}
