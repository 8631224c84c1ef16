-- How many pages a place has.
use Rattle.std.proofs.Common.{◌≡◌, ℕ, zero, suc, ◌+◌, ◌<◌, ◌≤◌, List, length, take, get_or, refl, sym, ap, subst, ◌∙◌, arith, Some, None, Option, add-one}
use Rattle.std.specs.List.{count_by}
use Rattle.std.proofs.lemmas.List.{take_all}
use Rattle.std.proofs.lemmas.List.Sums.{count_by_more_yes, count_by_more_no}
use Rattle.f2_format.specs.Offsets.{inode_pages}
use Rattle.f2_laid.specs.Laid.{page_at, pages_of_place}
use Rattle.f2_laid.specs.Planned.{WritesPage}
use Rattle.f2_laid.specs.declared.places.Place.{Place}
use Rattle.f2_laid.specs.declared.planned.Planned.{Planned}
use Rattle.f2_plain_plan.specs.Contents.{pages_before}
use Rattle.f2_plain_plan.proofs.PageSteps.{pages_before-zero, pages_before-there, pages_before-not}
use Rattle.f2_plain_plan.proofs.ZoneSteps.{is_there, is_there-true, is_there-false}

module _ (addresses : List ℕ) (contents : ℕ → Option (List ℕ)) (plan : List Planned) where
  counted_to : (end : ℕ) → end ≤ length addresses → ((page : ℕ) → page < end → WritesPage plan (get_or addresses page 0) (contents page)) → count_by is_there (take end addresses) ≡ pages_before contents end
  counted_to zero low pages = sym (pages_before-zero contents)
  counted_to (suc end) low pages =
      subst (λ n. count_by is_there (take n addresses) ≡ pages_before contents n) (add-one end)
      (step (counted_to end (omega arith) (λ page h. pages page (omega arith))) (contents end) refl (pages end (omega arith)))
    where
      step : count_by is_there (take end addresses) ≡ pages_before contents end → (o : Option (List ℕ)) → contents end ≡ o → WritesPage plan (get_or addresses end 0) o → count_by is_there (take (end + 1) addresses) ≡ pages_before contents (end + 1)
      step so_far None e w = count_by_more_no is_there addresses end 0 (omega arith) (is_there-false (get_or addresses end 0) w) ∙ so_far ∙ sym (pages_before-not contents end e)
      step so_far (Some bytes) e w = count_by_more_yes is_there addresses end 0 (omega arith) (is_there-true (get_or addresses end 0) w.0) ∙ ap (λ n. n + 1) so_far ∙ sym (pages_before-there contents end bytes e)

  counted : (end : ℕ) → length addresses ≡ end → ((page : ℕ) → page < end → WritesPage plan (get_or addresses page 0) (contents page)) → count_by is_there addresses ≡ pages_before contents end
  counted end whole pages = ap (count_by is_there) (sym (take_all end addresses (omega arith))) ∙ counted_to end (omega arith) pages

-- a place has as many pages as its contents
pub pages_counted : (place : Place) (contents : ℕ → Option (List ℕ)) (plan : List Planned) → length place.addresses ≡ inode_pages → ((page : ℕ) → page < inode_pages → WritesPage plan (page_at place page) (contents page))
    → pages_of_place place ≡ pages_before contents inode_pages
pages_counted place contents plan whole pages = counted place.addresses contents plan inode_pages whole pages
