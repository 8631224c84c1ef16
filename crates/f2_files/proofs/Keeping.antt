-- What calls leave of the addresses of pages and the nids of nodes.
use Rattle.std.proofs.Common.{◌≡◌, ◌≢◌, ◌⊎◌, inl, inr, ℕ, Bool, true, false, true≢false, List, [], ◌∷◌, refl, sym, ap, subst, ◌∙◌}
use Rattle.std.specs.Prelude.{Option, Some, None, is_some, if◌then◌else◌}
use Rattle.std.specs.FinMap as map
use Rattle.f2_laws.proofs.Maps.{get_put, get_put-other, get_taken, get_taken-other}
use Rattle.f2_laws.proofs.Places.{same_or_other}
use Rattle.f2_laws.proofs.Walks.{some_none}
use Rattle.f2_files.specs.Known.{Known, IsAddressKept, ArePlacesKept}
use Rattle.f2_files.specs.Shape.{Shapes, with_page, with_all_pages}
use Rattle.f2_files.specs.declared.shapes.Shape.{Shape}
use Rattle.f2_files.proofs.PageMaps.{Addressed}

-- a row before a call and the one after it, either of which may not be there
abbrev AreKept : Option Shape → Option Shape → Type 0
AreKept None None = Unit {0}
AreKept None (Some now) = (now.pages ≡ map.empty) × (now.nids ≡ map.empty)
AreKept (Some shape) None = Unit {0}
AreKept (Some shape) (Some now) = (now.nids ≡ shape.nids) × ((page : ℕ) → IsAddressKept (map.get shape.pages page) (map.get now.pages page))

kept_itself : (o : Option Shape) → AreKept o o
kept_itself None = tt
kept_itself (Some shape) = (refl, λ page. inl refl)

kept_gone : (o : Option Shape) → AreKept o None
kept_gone None = tt
kept_gone (Some shape) = tt

places_kept : (old new : Known) → ((ino : ℕ) → AreKept (map.get old.shapes ino) (map.get new.shapes ino)) → ArePlacesKept old new
places_kept old new each = record {
  nids = λ ino shape now was is. (both ino shape now was is).0;
  pages = λ ino page shape now was is. (both ino shape now was is).1 page;
  fresh = λ ino now none is. subst (λ o. AreKept o (Some now)) none (subst (AreKept (map.get old.shapes ino)) is (each ino));
}
  where
    both : (ino : ℕ) (shape now : Shape) → map.get old.shapes ino ≡ Some shape → map.get new.shapes ino ≡ Some now → AreKept (Some shape) (Some now)
    both ino shape now was is = subst (λ o. AreKept o (Some now)) was (subst (AreKept (map.get old.shapes ino)) is (each ino))

module _ (old new : Known) (shapes : Shapes) (seen : shapes ≡ old.shapes) (ino : ℕ) where
  changed : (after : Shapes) → new.shapes ≡ after → AreKept (map.get shapes ino) (map.get after ino) → ((q : ℕ) → q ≢ ino → map.get after q ≡ map.get shapes q) → ArePlacesKept old new
  changed after is here others = places_kept old new (λ q. by_ino q (same_or_other q ino))
    where
      of_both : (q : ℕ) → AreKept (map.get shapes q) (map.get after q) → AreKept (map.get old.shapes q) (map.get new.shapes q)
      of_both q h = subst (λ (s : Shapes). AreKept (map.get s q) (map.get new.shapes q)) seen (subst (λ (s : Shapes). AreKept (map.get shapes q) (map.get s q)) (sym is) h)

      by_ino : (q : ℕ) → (q ≡ ino) ⊎ (q ≢ ino) → AreKept (map.get old.shapes q) (map.get new.shapes q)
      by_ino q (inl same) = of_both q (subst (λ i. AreKept (map.get shapes i) (map.get after i)) (sym same) here)
      by_ino q (inr apart) = of_both q (subst (AreKept (map.get shapes q)) (sym (others q apart)) (kept_itself (map.get shapes q)))

  -- of a row that changes in its place
  pub kept_put : (was now : Shape) → map.get shapes ino ≡ Some was → new.shapes ≡ map.insert shapes ino now → now.nids ≡ was.nids → ((page : ℕ) → IsAddressKept (map.get was.pages page) (map.get now.pages page)) → ArePlacesKept old new
  kept_put was now there is nids pages = changed (map.insert shapes ino now) is
      (subst (λ o. AreKept o (map.get (map.insert shapes ino now) ino)) (sym there) (subst (AreKept (Some was)) (sym (get_put shapes ino now)) (nids, pages)))
      (λ q apart. get_put-other shapes ino now q apart)

  -- of a row that comes
  pub kept_new : (row : Shape) → map.get shapes ino ≡ None → new.shapes ≡ map.insert shapes ino row → row.pages ≡ map.empty → row.nids ≡ map.empty → ArePlacesKept old new
  kept_new row free is pages nids = changed (map.insert shapes ino row) is
      (subst (λ o. AreKept o (map.get (map.insert shapes ino row) ino)) (sym free) (subst (AreKept None) (sym (get_put shapes ino row)) (pages, nids)))
      (λ q apart. get_put-other shapes ino row q apart)

  -- of a row that goes
  pub kept_less : new.shapes ≡ map.remove shapes ino → ArePlacesKept old new
  kept_less is = changed (map.remove shapes ino) is
      (subst (AreKept (map.get shapes ino)) (sym (get_taken shapes ino)) (kept_gone (map.get shapes ino)))
      (λ q apart. get_taken-other shapes ino q apart)

kept_twice : (a b c : Option ℕ) → IsAddressKept a b → IsAddressKept b c → IsAddressKept a c
kept_twice a b c (inl first) (inl next) = inl (next ∙ first)
kept_twice a b c (inl first) (inr new) = inr (sym first ∙ new.0, new.1)
kept_twice a b c (inr new) (inl next) = inr (new.0, next ∙ new.1)
kept_twice a b c (inr new) (inr again) = absurd (some_none (sym new.1 ∙ again.0))

none_there : (o : Option ℕ) → is_some o ≡ false → o ≡ None
none_there None h = refl
none_there (Some at) h = absurd (true≢false h)

one_kept : (pages : Addressed) (n page : ℕ) → IsAddressKept (map.get pages page) (map.get (with_page pages n) page)
one_kept pages n page = by_there (map.contains_key pages n) refl
  where
    by_page : map.contains_key pages n ≡ false → (page ≡ n) ⊎ (page ≢ n) → IsAddressKept (map.get pages page) (map.get (map.insert pages n 0) page)
    by_page free (inl same) = inr (ap (map.get pages) same ∙ none_there (map.get pages n) free, ap (map.get (map.insert pages n 0)) same ∙ get_put pages n 0)
    by_page free (inr apart) = inl (get_put-other pages n 0 page apart)

    by_there : (b : Bool) → map.contains_key pages n ≡ b → IsAddressKept (map.get pages page) (map.get (if b then pages else map.insert pages n 0) page)
    by_there true is = inl refl
    by_there false is = by_page is (same_or_other page n)

-- pages that come to others
pub pages_kept : (pages : Addressed) (numbers : List ℕ) (page : ℕ) → IsAddressKept (map.get pages page) (map.get (with_all_pages pages numbers) page)
pages_kept pages [] page = inl refl
pages_kept pages (n ∷ numbers) page = kept_twice (map.get pages page) (map.get (with_page pages n) page) (map.get (with_all_pages (with_page pages n) numbers) page) (one_kept pages n page) (pages_kept (with_page pages n) numbers page)
