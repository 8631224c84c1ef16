-- A file that has the direct nodes of its pages, each node below its inode named above, has all nodes that the pages need.
use Rattle.std.proofs.Common.{◌≡◌, ◌≢◌, ◌⊎◌, inl, inr, ℕ, ◌+◌, ◌*◌, ◌<◌, ◌≤◌, true, List, [], ◌∷◌, Some, sym, subst, ◌∙◌, arith}
use Rattle.std.specs.Prelude.{IsSome}
use Rattle.std.specs.List.{flat_map}
use Rattle.std.specs.FinMap as map
use Rattle.std.specs.FinSet as set
use Rattle.f2_format.specs.Offsets.{direct_of, nodes_of_page, nodes_over}
use Rattle.f2_blocks.proofs.Shape.{way_of, none, one, first, second, double}
use Rattle.f2_stored.specs.Places.{Places, IsNamedAbove}
use Rattle.f2_block_laws.proofs.Members.{IsIn, from_flat_map}
use Rattle.f2_block_laws.proofs.Below.{IsUpper, inode, first_one, second_one, double_one, low_one, is_upper, slot_within}
use Rattle.f2_block_laws.proofs.Ways.{in_over}

-- none of the inode's nodes
no_top : (n : ℕ) → 3 < n → n ≢ 1022 → n ≢ 2041 → (n ≤ 3) ⊎ (n ≡ 1022) ⊎ (n ≡ 2041) → ⊥
no_top n low not_second not_double (inl e) = omega (arith, low, e)
no_top n low not_second not_double (inr (inl e)) = not_second e
no_top n low not_second not_double (inr (inr e)) = not_double e

module _ (upper slot : ℕ) (within : slot < 1018) where
  above_first : (s : ℕ) → s < 1018 → IsUpper upper slot (4 + s) → upper ≡ 3
  above_first s small (inode e top) = absurd (no_top (4 + s) (omega arith) (λ f. omega (arith, small, f)) (λ f. omega (arith, small, f)) top)
  above_first s small (first_one e is) = e
  above_first s small (second_one e is) = absurd (omega (arith, small, is))
  above_first s small (double_one e is) = absurd (omega (arith, small, is))
  above_first s small (low_one z e is) = absurd (omega (arith, small, is))

  above_second : (s : ℕ) → s < 1018 → IsUpper upper slot (1023 + s) → upper ≡ 1022
  above_second s small (inode e top) = absurd (no_top (1023 + s) (omega arith) (λ f. omega (arith, f)) (λ f. omega (arith, small, f)) top)
  above_second s small (first_one e is) = absurd (omega (arith, within, is))
  above_second s small (second_one e is) = e
  above_second s small (double_one e is) = absurd (omega (arith, small, is))
  above_second s small (low_one z e is) = absurd (omega (arith, small, is))

  above_low : (x : ℕ) → IsUpper upper slot (2042 + x * 1019) → upper ≡ 2041
  above_low x (inode e top) = absurd (no_top (2042 + x * 1019) (omega arith) (λ f. omega (arith, f)) (λ f. omega (arith, f)) top)
  above_low x (first_one e is) = absurd (omega (arith, within, is))
  above_low x (second_one e is) = absurd (omega (arith, within, is))
  above_low x (double_one e is) = e
  above_low x (low_one z e is) = absurd (omega (arith, within, is))

  above_last : (x y : ℕ) → y < 1018 → IsUpper upper slot (2042 + x * 1019 + 1 + y) → upper ≡ 2042 + x * 1019
  above_last x y small (inode e top) = absurd (no_top (2042 + x * 1019 + 1 + y) (omega arith) (λ f. omega (arith, f)) (λ f. omega (arith, f)) top)
  above_last x y small (first_one e is) = absurd (omega (arith, within, is))
  above_last x y small (second_one e is) = absurd (omega (arith, within, is))
  above_last x y small (double_one e is) = absurd (omega (arith, small, is))
  above_last x y small (low_one z e is) = e ∙ omega (arith, small, within, is)

module _ (places : Places) (ino : ℕ) where
  abbrev Has : ℕ → Type 0
  Has n = IsSome (map.get places.nodes (ino, n))

  module _ (named : (offset : ℕ) → offset ≢ 0 → Has offset → IsNamedAbove places ino offset) where
    -- the node above one is there
    up_to : (n above : ℕ) → n ≢ 0 → ((upper slot : ℕ) → slot < 1018 → IsUpper upper slot n → upper ≡ above) → Has n → Has above
    up_to n above other only there =
        let up = named n other there in
        let same = only up.upper up.slot (slot_within up.upper up.slot up.small) (is_upper up.upper up.slot n up.small up.names) in
        subst Has same up.there

    needed_one : (n k : ℕ) → Has (1 + k) → IsIn n ((1 + k) ∷ []) → Has n
    needed_one n k there (inl e) = subst Has (sym e) there
    needed_one n k there (inr ends) = absurd ends

    needed_first : (n s : ℕ) → s < 1018 → Has (4 + s) → IsIn n (3 ∷ (4 + s) ∷ []) → Has n
    needed_first n s small there (inl e) = subst Has (sym e) (up_to (4 + s) 3 (λ f. omega (arith, f)) (λ upper slot within is. above_first upper slot within s small is) there)
    needed_first n s small there (inr (inl e)) = subst Has (sym e) there
    needed_first n s small there (inr (inr ends)) = absurd ends

    needed_second : (n s : ℕ) → s < 1018 → Has (1023 + s) → IsIn n (1022 ∷ (1023 + s) ∷ []) → Has n
    needed_second n s small there (inl e) = subst Has (sym e) (up_to (1023 + s) 1022 (λ f. omega (arith, f)) (λ upper slot within is. above_second upper slot within s small is) there)
    needed_second n s small there (inr (inl e)) = subst Has (sym e) there
    needed_second n s small there (inr (inr ends)) = absurd ends

    needed_low : (x y : ℕ) → y < 1018 → Has (2042 + x * 1019 + 1 + y) → Has (2042 + x * 1019)
    needed_low x y small there = up_to (2042 + x * 1019 + 1 + y) (2042 + x * 1019) (λ f. omega (arith, f)) (λ upper slot within is. above_last upper slot within x y small is) there

    needed_double : (n x y : ℕ) → y < 1018 → Has (2042 + x * 1019 + 1 + y) → IsIn n (2041 ∷ (2042 + x * 1019) ∷ (2042 + x * 1019 + 1 + y) ∷ []) → Has n
    needed_double n x y small there (inl e) =
        subst Has (sym e) (up_to (2042 + x * 1019) 2041 (λ f. omega (arith, f)) (λ upper slot within is. above_low upper slot within x is) (needed_low x y small there))
    needed_double n x y small there (inr (inl e)) = subst Has (sym e) (needed_low x y small there)
    needed_double n x y small there (inr (inr (inl e))) = subst Has (sym e) there
    needed_double n x y small there (inr (inr (inr ends))) = absurd ends

    -- all nodes on the way of a page are there where its direct node is
    needed_on : (page n : ℕ) → ((offset : ℕ) → direct_of page ≡ Some offset → Has offset) → IsIn n (nodes_of_page page) → Has n
    needed_on page n there h =
        elim (way_of page) [
          | none direct is ↦ absurd (subst (IsIn n) is h)
          | one k low direct is slots ↦ needed_one n k (there (1 + k) direct) (subst (IsIn n) is h)
          | first s small direct is slots ↦ needed_first n s small (there (4 + s) direct) (subst (IsIn n) is h)
          | second s small direct is slots ↦ needed_second n s small (there (1023 + s) direct) (subst (IsIn n) is h)
          | double x y row place direct is slots ↦ needed_double n x y place (there (2042 + x * 1019 + 1 + y) direct) (subst (IsIn n) is h)
        ]

  pub needed : (pages : List ℕ) → Has 0 → ((page offset : ℕ) → IsIn page pages → direct_of page ≡ Some offset → Has offset)
      → ((offset : ℕ) → offset ≢ 0 → Has offset → IsNamedAbove places ino offset) → (offset : ℕ) → set.contains (nodes_over pages) offset ≡ true → Has offset
  needed pages top direct named offset has = by_place (in_over pages offset has)
    where
      by_place : (offset ≡ 0) ⊎ IsIn offset (flat_map nodes_of_page pages) → Has offset
      by_place (inl e) = subst Has (sym e) top
      by_place (inr on) =
          let found = from_flat_map nodes_of_page offset pages on in
          needed_on named found.0 offset (λ d is. direct found.0 d found.1 is) found.2
