-- Lists of pages in order.
use Rattle.std.proofs.Common.{◌≡◌, ◌⊎◌, inl, inr, ℕ, ◌+◌, ◌-◌, ◌<◌, ◌≤◌, List, ◌∷◌, [], ◌++◌, length, take, get_or, sym, ap, subst, ◌∙◌, arith, length-take-le, get_or-take}
use Rattle.std.proofs.lemmas.Bool.{cases_lt}
use Rattle.std.proofs.lemmas.List.{get_or-map, length-map, take-map, take_more}
use Rattle.std.proofs.lemmas.Map.Keys.{sorted_from_strictly_increasing, below_from_sorted}
use Rattle.f2_format.specs.Offsets.{page_limit}
use Rattle.f2_recover.specs.declared.nodes.PageAt.{PageAt}
use Rattle.f2_found.specs.Pages.{numbers_of, AreInOrder, IsNext}

-- the number of a page at a place
number_at : (list : List PageAt) (k : ℕ) (x d : PageAt) (e : ℕ) → k < length list → get_or list k d ≡ x → get_or (numbers_of list) k e ≡ x.page
number_at list k x d e small is = get_or-map (λ (listed : PageAt). listed.page) list k d e small ∙ ap (λ (listed : PageAt). listed.page) is

length_numbers : (list : List PageAt) → length (numbers_of list) ≡ length list
length_numbers list = length-map list (λ (listed : PageAt). listed.page)

module _ (list : List PageAt) (order : AreInOrder list) where
  lower : (j k e : ℕ) → j < k → k < length list → get_or (numbers_of list) j e < get_or (numbers_of list) k e
  lower j k e low small =
      let same = length_numbers list in
      below_from_sorted (numbers_of list) j k e (sorted_from_strictly_increasing (numbers_of list) order.rising) low (omega (arith, same, small))

  -- a page can come behind those that stand before it
  pub next_in_order : (k : ℕ) (x d : PageAt) → k < length list → get_or list k d ≡ x → IsNext (take k list) x.page
  next_in_order k x d small is = record {
    behind = λ j e low.
        let few : length (numbers_of (take k list)) ≡ k = length_numbers (take k list) ∙ length-take-le k list (omega (arith, small)) in
        let less : j < k = omega (arith, low, few) in
        let here : get_or (numbers_of (take k list)) j e ≡ get_or (numbers_of list) j e = ap (λ (ns : List ℕ). get_or ns j e) (sym (take-map (λ (listed : PageAt). listed.page) k list)) ∙ get_or-take k (numbers_of list) j e less in
        subst (λ n. n < x.page) (sym here) (subst (λ n. get_or (numbers_of list) j e < n) (number_at list k x d e small is) (lower j k e less small));
    within = (let same = length_numbers list in subst (λ n. n < page_limit) (number_at list k x d 0 small is) (order.within k 0 (omega (arith, same, small))));
  }

  -- what comes behind the last page comes behind all
  pub behind_last : (last d : PageAt) (page : ℕ) → 0 < length list → get_or list (length list - 1) d ≡ last → page < page_limit → last.page < page → IsNext list page
  behind_last last d page some is within above = record { behind = λ j e low. by j e low (cases_lt j (length list - 1)); within = within }
    where
      by : (j e : ℕ) → j < length (numbers_of list) → (j < length list - 1) ⊎ (length list - 1 ≤ j) → get_or (numbers_of list) j e < page
      by j e low (inl less) =
          let end : get_or (numbers_of list) (length list - 1) e ≡ last.page = number_at list (length list - 1) last d e (omega (arith, some)) is in
          let below = lower j (length list - 1) e less (omega (arith, some)) in
          omega (arith, end, below, above)
      by j e low (inr more) =
          let same = length_numbers list in
          let at : j ≡ length list - 1 = omega (arith, same, low, more, some) in
          let here : get_or (numbers_of list) j e ≡ last.page = ap (λ n. get_or (numbers_of list) n e) at ∙ number_at list (length list - 1) last d e (omega (arith, some)) is in
          omega (arith, here, above)

pub last_below : (list : List PageAt) (last d : PageAt) (page : ℕ) → 0 < length list → get_or list (length list - 1) d ≡ last → IsNext list page → last.page < page
last_below list last d page some is next =
    let same = length_numbers list in
    subst (λ n. n < page) (number_at list (length list - 1) last d 0 (omega (arith, some)) is) (next.behind (length list - 1) 0 (omega (arith, same, some)))

-- one page more of a list
pub one_more : (list : List PageAt) (k : ℕ) (x d : PageAt) (old new : List PageAt) → k < length list → get_or list k d ≡ x → old ≡ take k list → new ≡ old ++ x ∷ [] → new ≡ take (k + 1) list
one_more list k x d old new small is front pushed = pushed ∙ ap (λ (xs : List PageAt). xs ++ x ∷ []) front ∙ ap (λ (y : PageAt). take k list ++ y ∷ []) (sym is) ∙ sym (take_more list k d small)
