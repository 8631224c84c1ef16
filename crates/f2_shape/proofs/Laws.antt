-- What a direct node's first page says of the pages in its range, for whoever reads or writes its slots.
use Rattle.std.proofs.Common.{◌≡◌, ℕ, ◌+◌, ◌-◌, ◌*◌, ◌/◌, ◌%◌, ◌<◌, ◌≤◌, Some, ap, subst, ◌∙◌, arith}
use Rattle.std.proofs.lemmas.Nat.{div-mul-add, mod-mul-add}
use Rattle.f2_format.specs.Offsets.{inode_pages, node_slots, page_limit, nth_direct, direct_number, direct_slot, direct_of}
use Rattle.f2_shape.specs.Routes.{IsFirstPage}
use Rattle.f2_shape.proofs.Parts.{direct_of-number, number_of-direct, IsFirstPage-number}

-- the first page of the direct node at the end of a page's way is the first of the range that holds the page
pub IsFirstPage-direct_of : (page d : ℕ) → direct_of page ≡ Some d → IsFirstPage d (page - direct_slot page)
IsFirstPage-direct_of page d has =
    let number = number_of-direct page d has in
    let first : inode_pages + direct_number page * node_slots ≡ page - direct_slot page = omega (arith, number) in
    subst (IsFirstPage d) first (IsFirstPage-number (direct_number page) d (omega (arith, number)) number.2)

-- a direct node has one first page
pub same_first_page : (d p q : ℕ) → IsFirstPage d p → IsFirstPage d q → p ≡ q
same_first_page d p q first other = omega (arith, first.least q other.held, other.least p first.held)

-- the page at a slot of the direct node's range
module _ (d p i : ℕ) (first : IsFirstPage d p) (slot : i < node_slots) where
  start : p ≡ p - direct_slot p
  start = same_first_page d p (p - direct_slot p) first (IsFirstPage-direct_of p d first.held)

  has : (inode_pages ≤ p) × (p < page_limit) × (nth_direct (direct_number p) ≡ d)
  has = number_of-direct p d first.held

  number_at : direct_number (p + i) ≡ direct_number p
  number_at =
      let place : p + i - 923 ≡ direct_number p * 1018 + i = omega (arith, start, has) in
      ap (λ n. n / 1018) place ∙ div-mul-add (direct_number p) 1018 i slot

  pub direct_of-first_page : direct_of (p + i) ≡ Some d
  direct_of-first_page =
      direct_of-number (p + i) (omega (arith, has)) (omega (arith, start, has)) ∙ ap Some (ap nth_direct number_at ∙ has.2)

  pub direct_slot-first_page : direct_slot (p + i) ≡ i
  direct_slot-first_page =
      let place : p + i - 923 ≡ direct_number p * 1018 + i = omega (arith, start, has) in
      ap (λ n. n % 1018) place ∙ mod-mul-add (direct_number p) 1018 i slot

-- a page of the direct node stands behind its first page by its slot
pub first_page-direct_slot : (d p q : ℕ) → IsFirstPage d p → direct_of q ≡ Some d → q ≡ p + direct_slot q
first_page-direct_slot d p q first held =
    let has = number_of-direct q d held in
    omega (arith, has, same_first_page d p (q - direct_slot q) first (IsFirstPage-direct_of q d held))
