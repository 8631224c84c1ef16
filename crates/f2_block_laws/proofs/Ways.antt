-- The nodes on the ways of some pages: each is named by the one above it.
use Rattle.std.proofs.Common.{◌≡◌, ◌≢◌, ◌⊎◌, inl, inr, ℕ, zero, suc, ◌+◌, ◌-◌, ◌*◌, ◌%◌, ◌<◌, cond, true, List, [], ◌∷◌, Some, refl, ap, sym, subst, ◌∙◌, arith}
use Rattle.std.specs.Prelude.{IsSome}
use Rattle.std.specs.List.{flat_map}
use Rattle.std.specs.FinMap as map
use Rattle.std.specs.FinSet as set
use Rattle.std.proofs.lemmas.Bool.{ne_eqb}
use Rattle.std.proofs.lemmas.Bool.Decides.{nat_tests}
use Rattle.f2_format.specs.Inode.{NIDS_AN_INODE}
use Rattle.f2_format.specs.Offsets.{node_slots, direct_of, nodes_above, nodes_down_to, nodes_of_page, nodes_over}
use Rattle.f2_image.specs.Reached.{offset_below, is_low_indirect, nids_of_node}
use Rattle.f2_blocks.proofs.Shape.{way_of, none, one, first, second, double}
use Rattle.f2_stored.specs.Places.{Places, IsNamedAbove}
use Rattle.f2_block_laws.specs.Whole.{HasNodesOver}
use Rattle.f2_block_laws.proofs.Members.{IsIn, in_right, in_flat_map, from_flat_map}
use Rattle.f2_block_laws.proofs.Sets.{from_set, in_set}

-- the offsets of the nodes of a file with these pages; one may stand there more than once
abbrev pub offsets_of : List ℕ → List ℕ
offsets_of pages = 0 ∷ flat_map nodes_of_page pages

-- those are the nodes over the pages
pub in_over : (pages : List ℕ) (n : ℕ) → set.contains (nodes_over pages) n ≡ true → IsIn n (offsets_of pages)
unfolding nodes_over
in_over pages n has = from_set (offsets_of pages) n has

pub over_in : (pages : List ℕ) (n : ℕ) → IsIn n (offsets_of pages) → set.contains (nodes_over pages) n ≡ true
unfolding nodes_over
over_in pages n there = in_set (offsets_of pages) n there

-- a node is named by one that is an inode, or one of some nodes
record IsNamedIn (nodes : List ℕ) (n : ℕ) : Type 0 where
  upper : ℕ
  slot : ℕ
  small : slot < nids_of_node upper
  names : offset_below upper slot ≡ Some n
  up : (upper ≡ 0) ⊎ IsIn upper nodes

by_inode : (k : ℕ) → k < 2 → offset_below 0 k ≡ Some (1 + k)
unfolding offset_below
by_inode zero low = refl
by_inode (suc zero) low = refl
by_inode (suc (suc k)) low = absurd (omega arith)

inode_first : offset_below 0 2 ≡ Some 3
unfolding offset_below
inode_first = refl

inode_second : offset_below 0 3 ≡ Some 1022
unfolding offset_below
inode_second = refl

inode_double : offset_below 0 4 ≡ Some 2041
unfolding offset_below
inode_double = refl

by_first : (s : ℕ) → offset_below 3 s ≡ Some (4 + s)
unfolding offset_below
by_first s = refl

by_second : (s : ℕ) → offset_below 1022 s ≡ Some (1023 + s)
unfolding offset_below
by_second s = refl

by_double : (x : ℕ) → offset_below 2041 x ≡ Some (2042 + x * 1019)
unfolding offset_below
by_double x = refl

low_is : (x : ℕ) → x < 1018 → is_low_indirect (2042 + x * 1019) ≡ true
low_is x small =
    let rest : (2042 + x * 1019 - 2042) % 1019 ≡ 0 = omega arith in
    grind (arith, nat_tests)

by_low : (x y : ℕ) → x < 1018 → offset_below (2042 + x * 1019) y ≡ Some (2042 + x * 1019 + 1 + y)
unfolding offset_below
by_low x y small =
    rw (
      ne_eqb (2042 + x * 1019) 0 (λ e. omega arith),
      ne_eqb (2042 + x * 1019) 3 (λ e. omega arith),
      ne_eqb (2042 + x * 1019) 1022 (λ e. omega arith),
      ne_eqb (2042 + x * 1019) 2041 (λ e. omega arith),
      low_is x small,
    ) refl

low_slots : (x y : ℕ) → y < 1018 → y < nids_of_node (2042 + x * 1019)
low_slots x y small = subst (λ n. y < n) (sym (ap (λ b. cond b NIDS_AN_INODE node_slots) (ne_eqb (2042 + x * 1019) 0 (λ e. omega arith)))) small

module _ (n : ℕ) where
  named_one : (k : ℕ) → k < 2 → IsIn n ((1 + k) ∷ []) → IsNamedIn ((1 + k) ∷ []) n
  named_one k low (inl e) = record { upper = 0; slot = k; small = omega (arith, low); names = by_inode k low ∙ ap Some (sym e); up = inl refl }
  named_one k low (inr ends) = absurd ends

  named_first : (s : ℕ) → s < 1018 → IsIn n (3 ∷ (4 + s) ∷ []) → IsNamedIn (3 ∷ (4 + s) ∷ []) n
  named_first s small (inl e) = record { upper = 0; slot = 2; small = omega arith; names = inode_first ∙ ap Some (sym e); up = inl refl }
  named_first s small (inr (inl e)) = record { upper = 3; slot = s; small = small; names = by_first s ∙ ap Some (sym e); up = inr (inl refl) }
  named_first s small (inr (inr ends)) = absurd ends

  named_second : (s : ℕ) → s < 1018 → IsIn n (1022 ∷ (1023 + s) ∷ []) → IsNamedIn (1022 ∷ (1023 + s) ∷ []) n
  named_second s small (inl e) = record { upper = 0; slot = 3; small = omega arith; names = inode_second ∙ ap Some (sym e); up = inl refl }
  named_second s small (inr (inl e)) = record { upper = 1022; slot = s; small = small; names = by_second s ∙ ap Some (sym e); up = inr (inl refl) }
  named_second s small (inr (inr ends)) = absurd ends

  named_double : (x y : ℕ) → x < 1018 → y < 1018 → IsIn n (2041 ∷ (2042 + x * 1019) ∷ (2042 + x * 1019 + 1 + y) ∷ []) → IsNamedIn (2041 ∷ (2042 + x * 1019) ∷ (2042 + x * 1019 + 1 + y) ∷ []) n
  named_double x y row place (inl e) = record { upper = 0; slot = 4; small = omega arith; names = inode_double ∙ ap Some (sym e); up = inl refl }
  named_double x y row place (inr (inl e)) = record { upper = 2041; slot = x; small = row; names = by_double x ∙ ap Some (sym e); up = inr (inl refl) }
  named_double x y row place (inr (inr (inl e))) = record { upper = 2042 + x * 1019; slot = y; small = low_slots x y place; names = by_low x y row ∙ ap Some (sym e); up = inr (inr (inl refl)) }
  named_double x y row place (inr (inr (inr ends))) = absurd ends

  -- a node on a page's way is named by the inode or by another node on the way
  named_on : (page : ℕ) → IsIn n (nodes_of_page page) → IsNamedIn (nodes_of_page page) n
  named_on page h =
      elim (way_of page) [
        | none direct is ↦ absurd (subst (IsIn n) is h)
        | one k low direct is slots ↦ subst (λ nodes. IsNamedIn nodes n) (sym is) (named_one k low (subst (IsIn n) is h))
        | first s small direct is slots ↦ subst (λ nodes. IsNamedIn nodes n) (sym is) (named_first s small (subst (IsIn n) is h))
        | second s small direct is slots ↦ subst (λ nodes. IsNamedIn nodes n) (sym is) (named_second s small (subst (IsIn n) is h))
        | double x y row place direct is slots ↦ subst (λ nodes. IsNamedIn nodes n) (sym is) (named_double x y row place (subst (IsIn n) is h))
      ]

module _ (places : Places) (ino : ℕ) (pages : List ℕ) (has : HasNodesOver places ino pages) where
  pub inode_there : IsSome (map.get places.nodes (ino, 0))
  inode_there = (has 0).1 (over_in pages 0 (inl refl))

  on_way : (page n : ℕ) → IsIn page pages → IsIn n (nodes_of_page page) → IsSome (map.get places.nodes (ino, n))
  on_way page n there on = (has n).1 (over_in pages n (inr (in_flat_map nodes_of_page page n pages there on)))

  pub direct_there : (page offset : ℕ) → IsIn page pages → direct_of page ≡ Some offset → IsSome (map.get places.nodes (ino, offset))
  direct_there page offset there direct =
      let last : IsIn offset (nodes_down_to (Some offset)) = in_right offset (nodes_above offset) (offset ∷ []) (inl refl) in
      on_way page offset there (subst (IsIn offset) (sym (ap nodes_down_to direct)) last)

  by_upper : (page n : ℕ) → IsIn page pages → IsNamedIn (nodes_of_page page) n → IsNamedAbove places ino n
  by_upper page n there named = record {
    upper = named.upper;
    slot = named.slot;
    small = named.small;
    names = named.names;
    there = by_place named.up;
  }
    where
      by_place : (named.upper ≡ 0) ⊎ IsIn named.upper (nodes_of_page page) → IsSome (map.get places.nodes (ino, named.upper))
      by_place (inl e) = subst (λ m. IsSome (map.get places.nodes (ino, m))) (sym e) inode_there
      by_place (inr on) = on_way page named.upper there on

  pub named_above : (offset : ℕ) → offset ≢ 0 → IsSome (map.get places.nodes (ino, offset)) → IsNamedAbove places ino offset
  named_above offset other there = by_place (in_over pages offset ((has offset).0 there))
    where
      by_place : (offset ≡ 0) ⊎ IsIn offset (flat_map nodes_of_page pages) → IsNamedAbove places ino offset
      by_place (inl e) = absurd (other e)
      by_place (inr on) = let found = from_flat_map nodes_of_page offset pages on in by_upper found.0 offset found.1 (named_on offset found.0 found.2)
