-- The addresses of a list of pages, page by page.
use Rattle.std.proofs.Common.{◌≡◌, ◌≢◌, ◌⊎◌, inl, inr, ℕ, ◌+◌, ◌<◌, ◌≤◌, List, length, refl, sym, ap, subst, ◌∙◌, arith}
use Rattle.std.specs.Prelude.{Option, Some, None, slice_index_or}
use Rattle.std.specs.Ordering.{nat_cmp}
use Rattle.std.specs.FinMap as map
use Rattle.std.specs.FinMap.{get-empty}
use Rattle.std.proofs.lemmas.Bool.{cases_eq, cases_lt}
use Rattle.std.proofs.lemmas.List.{get_or_default}
use Rattle.f2_recover.specs.Seeing.{IsList, no_page}
use Rattle.f2_recover.specs.declared.nodes.PageAt.{PageAt}
use Rattle.f2_overlay.specs.Owning.{Pages}
use Rattle.f2_overlay.proofs.Maps.{not_none, get_put, get_put-other, put_cases}

-- so many first pages of a list have their addresses, and no others have any
pub record AreCopiedTo (pages : Pages) (list : List PageAt) (count : ℕ) (copied : Pages) : Type 0 where
  pub only : (page at : ℕ) → map.get copied page ≡ Some at → map.get pages page ≡ Some at
  pub has : (k : ℕ) → k < count → map.get copied (slice_index_or list k no_page).page ≡ Some (slice_index_or list k no_page).at

module _ (limit : ℕ) (pages : Pages) (list : List PageAt) (is : IsList limit pages list) where
  pub copied_none : (copied : Pages) → copied ≡ map.empty → AreCopiedTo pages list 0 copied
  copied_none copied empty = record {
    only = λ page at there. absurd (not_none at (sym (ap (λ (m : Pages). map.get m page) empty ∙ get-empty nat_cmp page) ∙ there));
    has = λ k small. absurd (omega (arith, small));
  }

  listed : (k : ℕ) → k < length list → map.get pages (slice_index_or list k no_page).page ≡ Some (slice_index_or list k no_page).at
  listed k small = is.only (slice_index_or list k no_page) (k, small, get_or_default list k (slice_index_or list k no_page) no_page small)

  pub copied_more : (count : ℕ) (old new : Pages) → count < length list → AreCopiedTo pages list count old → new ≡ map.insert old (slice_index_or list count no_page).page (slice_index_or list count no_page).at → AreCopiedTo pages list (count + 1) new
  copied_more count old new small to put = record {
    only = λ page at there. only page at (put_cases old x.page x.at page at (ap (λ (m : Pages). map.get m page) (sym put) ∙ there));
    has = λ k low. ap (λ (m : Pages). map.get m (slice_index_or list k no_page).page) put ∙ has k low (cases_lt k count) (cases_eq (slice_index_or list k no_page).page x.page);
  }
    where
      x : PageAt
      x = slice_index_or list count no_page

      only : (page at : ℕ) → ((page ≡ x.page) × (x.at ≡ at)) ⊎ ((page ≢ x.page) × (map.get old page ≡ Some at)) → map.get pages page ≡ Some at
      only page at (inl e) = ap (map.get pages) e.0 ∙ listed count small ∙ ap Some e.1
      only page at (inr was) = to.only page at was.1

      has : (k : ℕ) → k < count + 1 → (k < count) ⊎ (count ≤ k) → ((slice_index_or list k no_page).page ≡ x.page) ⊎ ((slice_index_or list k no_page).page ≢ x.page)
          → map.get (map.insert old x.page x.at) (slice_index_or list k no_page).page ≡ Some (slice_index_or list k no_page).at
      has k low part (inl same) =
          ap (map.get (map.insert old x.page x.at)) same ∙ get_put old x.page x.at ∙ sym (listed count small) ∙ ap (map.get pages) (sym same) ∙ listed k (omega (arith, low, small))
      has k low (inl below) (inr other) = get_put-other old x.page x.at (slice_index_or list k no_page).page other ∙ to.has k below
      has k low (inr above) (inr other) = let same : k ≡ count = omega (arith, low, above) in absurd (other (ap (λ n. (slice_index_or list n no_page).page) same))

  pub copied_all : (copied : Pages) → AreCopiedTo pages list (length list) copied → (page : ℕ) → map.get copied page ≡ map.get pages page
  copied_all copied to page = by (map.get copied page) refl (map.get pages page) refl
    where
      by : (a : Option ℕ) → map.get copied page ≡ a → (b : Option ℕ) → map.get pages page ≡ b → map.get copied page ≡ map.get pages page
      by (Some at) e b f = e ∙ sym (to.only page at e)
      by None e None f = e ∙ sym f
      by None e (Some at) f =
          let k = is.all page at f in
          let here : slice_index_or list k.0 no_page ≡ record { page = page; at = at } = get_or_default list k.0 no_page (record { page = page; at = at }) k.1 ∙ k.2 in
          subst (λ (x : PageAt). map.get copied x.page ≡ Some x.at) here (to.has k.0 k.1) ∙ sym f
