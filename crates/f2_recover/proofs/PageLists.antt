-- The list of a file's pages, with a page more.
use Rattle.std.proofs.Common.{◌≡◌, ◌≢◌, ◌⊎◌, inl, inr, ℕ, zero, suc, ◌+◌, ◌<◌, ◌≤◌, List, [], ◌∷◌, ◌++◌, length, length-append, sym, ap, ◌∙◌, subst, arith}
use Rattle.std.specs.Prelude.{Some, All, Contains, slice_index_or}
use Rattle.std.specs.Ordering.{nat_cmp}
use Rattle.std.specs.FinMap as map
use Rattle.std.proofs.Math.ListN.{get_or-append}
use Rattle.std.proofs.Math.Seq.{get_or-append_seam}
use Rattle.std.proofs.lemmas.Bool.{cases_eq, cases_lt}
use Rattle.std.proofs.lemmas.List.Elements.{All-append, Contains-append_left, Contains-push, Contains-push_cases}
use Rattle.f2_image.proofs.OneBase.{same_some}
use Rattle.f2_laws.proofs.Maps.{get_put, get_put-other}
use Rattle.f2_recover.specs.Seeing.{IsList, no_page}
use Rattle.f2_recover.specs.declared.nodes.PageAt.{PageAt}

abbrev Map : Type 0
Map = map.FinMap nat_cmp ℕ

pub list_later : (a b : ℕ) (pages : Map) (list : List PageAt) → a ≤ b → IsList a pages list → IsList b pages list
list_later a b pages list le is = record {
  all = is.all;
  only = is.only;
  within = λ k d small. let below : (slice_index_or list k d).page < a = is.within k d small in omega (arith, below, le);
  rising = is.rising;
}

pub list_none : (limit : ℕ) (pages : Map) (list : List PageAt) → ((p at : ℕ) → map.get pages p ≡ Some at → ⊥) → list ≡ [] → IsList limit pages list
list_none limit pages list none empty = subst (IsList limit pages) (sym empty) (record {
  all = λ p at there. absurd (none p at there);
  only = λ x has. absurd (omega (arith, has.1));
  within = λ k d small. absurd (omega (arith, small));
  rising = λ j k lt small. absurd (omega (arith, small));
})

module _ (page at : ℕ) (pages more : Map) (list now : List PageAt) (is : IsList page pages list) (fresh : (q : ℕ) → map.get pages page ≡ Some q → ⊥) (grown : more ≡ map.insert pages page at) where
  abbrev last : PageAt
  last = record { page = page; at = at }

  abbrev longer : List PageAt
  longer = list ++ last ∷ []

  all_more : (p q : ℕ) → map.get (map.insert pages page at) p ≡ Some q → (p ≡ page) ⊎ (p ≢ page) → Contains longer (record { page = p; at = q })
  all_more p q there (inl e) =
      let same : at ≡ q = same_some at q (sym (get_put pages page at) ∙ ap (map.get (map.insert pages page at)) (sym e) ∙ there) in
      let whole : last ≡ record { page = p; at = q } = λ i. record { page = sym e i; at = same i } in
      subst (Contains longer) whole (Contains-push list last)
  all_more p q there (inr other) = Contains-append_left list (last ∷ []) _ (is.all p q (sym (get_put-other pages page at p other) ∙ there))

  only_more : (x : PageAt) → Contains list x ⊎ (last ≡ x) → map.get (map.insert pages page at) x.page ≡ Some x.at
  only_more x (inl old) = by (cases_eq x.page page)
    where
      by : (x.page ≡ page) ⊎ (x.page ≢ page) → map.get (map.insert pages page at) x.page ≡ Some x.at
      by (inl e) = absurd (fresh x.at (ap (map.get pages) (sym e) ∙ is.only x old))
      by (inr other) = get_put-other pages page at x.page other ∙ is.only x old
  only_more x (inr new) = ap (λ (y : PageAt). map.get (map.insert pages page at) y.page) (sym new) ∙ get_put pages page at ∙ ap (λ (y : PageAt). Some y.at) new

  alone : All (λ (x : PageAt). x.page < page + 1) (last ∷ [])
  alone zero d small = omega arith
  alone (suc k) d small = absurd (omega (arith, small))

  rising_more : (j k : ℕ) → j < k → k < length longer → (k < length list) ⊎ (length list ≤ k) → (slice_index_or longer j no_page).page < (slice_index_or longer k no_page).page
  rising_more j k lt small (inl low) =
      let first = get_or-append list (last ∷ []) no_page j (omega (arith, lt, low)) in
      let second = get_or-append list (last ∷ []) no_page k low in
      let before = is.rising j k lt low in
      subst (λ (x : PageAt). x.page < (slice_index_or longer k no_page).page) (sym first) (subst (λ (x : PageAt). (slice_index_or list j no_page).page < x.page) (sym second) before)
  rising_more j k lt small (inr high) =
      let at_end : k ≡ length list = omega (arith, small, high, length-append list (last ∷ [])) in
      let first = get_or-append list (last ∷ []) no_page j (omega (arith, lt, at_end)) in
      let second : slice_index_or longer k no_page ≡ last = ap (λ n. slice_index_or longer n no_page) at_end ∙ get_or-append_seam list last [] no_page in
      let below : (slice_index_or list j no_page).page < page = is.within j no_page (omega (arith, lt, at_end)) in
      subst (λ (x : PageAt). x.page < (slice_index_or longer k no_page).page) (sym first) (subst (λ (x : PageAt). (slice_index_or list j no_page).page < x.page) (sym second) below)

  pub list_more : now ≡ longer → IsList (page + 1) more now
  list_more same = subst (λ (m : Map). IsList (page + 1) m now) (sym grown) (subst (IsList (page + 1) (map.insert pages page at)) (sym same) (record {
    all = λ p q there. all_more p q there (cases_eq p page);
    only = λ x has. only_more x (Contains-push_cases list last x has);
    within = All-append (λ (x : PageAt). x.page < page + 1) list (last ∷ []) (list_later page (page + 1) pages list (omega arith) is).within alone;
    rising = λ j k lt small. rising_more j k lt small (cases_lt k (length list));
  }))
