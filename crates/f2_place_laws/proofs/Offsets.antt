-- Which node of a file names which other, and the way of a page.
use Rattle.std.proofs.Common.{◌≡◌, ◌≢◌, ◌⊎◌, inl, inr, ℕ, ◌+◌, ◌-◌, ◌*◌, ◌/◌, ◌%◌, ◌<◌, ◌≤◌, Some, refl, sym, ap, ◌∙◌, arith}
use Rattle.std.proofs.lemmas.Bool.{cases_eq}
use Rattle.std.proofs.lemmas.Bool.Decides.{nat_tests}
use Rattle.f2_image.specs.Reached.{offset_of_nid, offset_below, nids_of_node}

-- a slot of a node that names another one: of the inode, of an indirect node below it, of the double indirect one, or of an indirect
-- node below that
pub data Names (upper slot lower : ℕ) : Type 0 where
  inode : upper ≡ 0 → 1 ≤ lower → (lower < 4) ⊎ (lower ≡ 1022) ⊎ (lower ≡ 2041) → Names upper slot lower
  first : upper ≡ 3 → slot < 1018 → lower ≡ 4 + slot → Names upper slot lower
  second : upper ≡ 1022 → slot < 1018 → lower ≡ 1023 + slot → Names upper slot lower
  double : upper ≡ 2041 → slot < 1018 → lower ≡ 2042 + slot * 1019 → Names upper slot lower
  low : (x : ℕ) → upper ≡ 2042 + x * 1019 → slot < 1018 → lower ≡ 2042 + x * 1019 + 1 + slot → Names upper slot lower

from_inode : (slot lower : ℕ) → offset_of_nid slot ≡ Some lower → (1 ≤ lower) × ((lower < 4) ⊎ (lower ≡ 1022) ⊎ (lower ≡ 2041))
from_inode slot lower is = grind (arith, nat_tests)

pub below_inode : (slot : ℕ) → offset_below 0 slot ≡ offset_of_nid slot
unfolding offset_below
below_inode slot = refl

below_first : (slot : ℕ) → offset_below 3 slot ≡ Some (4 + slot)
unfolding offset_below
below_first slot = refl

below_second : (slot : ℕ) → offset_below 1022 slot ≡ Some (1023 + slot)
unfolding offset_below
below_second slot = refl

below_double : (slot : ℕ) → offset_below 2041 slot ≡ Some (2042 + slot * 1019)
unfolding offset_below
below_double slot = refl

-- the offset of an indirect node below the double indirect one
is_low : (upper slot lower : ℕ) → upper ≢ 0 → upper ≢ 3 → upper ≢ 1022 → upper ≢ 2041 → offset_below upper slot ≡ Some lower → (2041 < upper) × ((upper - 2042) % 1019 ≡ 0) × (lower ≡ upper + 1 + slot)
unfolding offset_below
is_low upper slot lower a b c d is = grind (arith, nat_tests)

names_low : (upper slot lower : ℕ) → (2041 < upper) × ((upper - 2042) % 1019 ≡ 0) × (lower ≡ upper + 1 + slot) → slot < 1018 → Names upper slot lower
names_low upper slot lower of_low small =
    let x = (upper - 2042) / 1019 in
    let is : upper ≡ 2042 + x * 1019 = omega (arith, of_low) in
    low x is small (of_low.2 ∙ ap (λ n. n + 1 + slot) is)

pub names : (upper slot lower : ℕ) → slot < nids_of_node upper → offset_below upper slot ≡ Some lower → Names upper slot lower
names upper slot lower small is =
    elim (cases_eq upper 0) [
      | inl e ↦ let top = from_inode slot lower (sym (below_inode slot) ∙ ap (λ n. offset_below n slot) (sym e) ∙ is) in inode e top.0 top.1
      | inr not_inode ↦
          let within : slot < 1018 = within_node upper slot not_inode small in
          elim (cases_eq upper 3) [
            | inl e ↦ first e within (same lower (4 + slot) (sym is ∙ ap (λ n. offset_below n slot) e ∙ below_first slot))
            | inr not_first ↦ elim (cases_eq upper 1022) [
              | inl e ↦ second e within (same lower (1023 + slot) (sym is ∙ ap (λ n. offset_below n slot) e ∙ below_second slot))
              | inr not_second ↦ elim (cases_eq upper 2041) [
                | inl e ↦ double e within (same lower (2042 + slot * 1019) (sym is ∙ ap (λ n. offset_below n slot) e ∙ below_double slot))
                | inr not_double ↦ names_low upper slot lower (is_low upper slot lower not_inode not_first not_second not_double is) within
              ]
            ]
          ]
    ]
  where
    same : (a b : ℕ) → Some a ≡ Some b → a ≡ b
    same a b e = cc

    within_node : (upper slot : ℕ) → upper ≢ 0 → slot < nids_of_node upper → slot < 1018
    within_node upper slot other small = grind (arith, nat_tests)

-- what a node names stands behind it
pub names_behind : (upper slot lower : ℕ) → Names upper slot lower → upper < lower
names_behind upper slot lower (inode e some top) = omega (arith, e, some)
names_behind upper slot lower (first e small is) = omega (arith, e, is)
names_behind upper slot lower (second e small is) = omega (arith, e, is)
names_behind upper slot lower (double e small is) = omega (arith, e, is)
names_behind upper slot lower (low x e small is) = omega (arith, e, is)

-- the only node that names a direct node of the indirect ones, and an indirect node below the double indirect one
not_top : (lower : ℕ) → 4 ≤ lower → lower ≢ 1022 → lower ≢ 2041 → (lower < 4) ⊎ (lower ≡ 1022) ⊎ (lower ≡ 2041) → ⊥
not_top lower a b c (inl small) = omega (arith, a, small)
not_top lower a b c (inr (inl is)) = b is
not_top lower a b c (inr (inr is)) = c is

pub above_first : (upper slot s : ℕ) → s < 1018 → Names upper slot (4 + s) → upper ≡ 3
above_first upper slot s within (inode e some top) = absurd (not_top (4 + s) (omega arith) (λ z. omega (arith, z, within)) (λ z. omega (arith, z, within)) top)
above_first upper slot s within (first e small is) = e
above_first upper slot s within (second e small is) = absurd (omega (arith, is, within))
above_first upper slot s within (double e small is) = absurd (omega (arith, is, within))
above_first upper slot s within (low x e small is) = absurd (omega (arith, is, within))

pub above_second : (upper slot s : ℕ) → s < 1018 → Names upper slot (1023 + s) → upper ≡ 1022
above_second upper slot s within (inode e some top) = absurd (not_top (1023 + s) (omega arith) (λ z. omega (arith, z, within)) (λ z. omega (arith, z, within)) top)
above_second upper slot s within (first e small is) = absurd (omega (arith, is, small))
above_second upper slot s within (second e small is) = e
above_second upper slot s within (double e small is) = absurd (omega (arith, is, within))
above_second upper slot s within (low x e small is) = absurd (omega (arith, is, within))

pub above_double : (upper slot x : ℕ) → Names upper slot (2042 + x * 1019) → upper ≡ 2041
above_double upper slot x (inode e some top) = absurd (not_top (2042 + x * 1019) (omega arith) (λ z. omega (arith, z)) (λ z. omega (arith, z)) top)
above_double upper slot x (first e small is) = absurd (omega (arith, is, small))
above_double upper slot x (second e small is) = absurd (omega (arith, is, small))
above_double upper slot x (double e small is) = e
above_double upper slot x (low z e small is) = absurd (omega (arith, is, small))

pub above_low : (upper slot x y : ℕ) → y < 1018 → Names upper slot (2042 + x * 1019 + 1 + y) → upper ≡ 2042 + x * 1019
above_low upper slot x y within (inode e some top) = absurd (not_top (2042 + x * 1019 + 1 + y) (omega arith) (λ z. omega (arith, z)) (λ z. omega (arith, z)) top)
above_low upper slot x y within (first e small is) = absurd (omega (arith, is, small))
above_low upper slot x y within (second e small is) = absurd (omega (arith, is, small))
above_low upper slot x y within (double e small is) = absurd (omega (arith, is, within))
above_low upper slot x y within (low z e small is) = omega (arith, e, is, small, within)

-- what the slots on a page's way name
pub low_below : (x slot : ℕ) → x < 1018 → offset_below (2042 + x * 1019) slot ≡ Some (2042 + x * 1019 + 1 + slot)
unfolding offset_below
low_below x slot small =
    let whole : (2042 + x * 1019 - 2042) % 1019 ≡ 0 = omega arith in
    grind (arith, nat_tests, whole)

pub inode_below : (k : ℕ) → k < 2 → offset_below 0 k ≡ Some (1 + k)
unfolding offset_below
inode_below k small = grind (arith, nat_tests)

pub inode_first : offset_below 0 2 ≡ Some 3
unfolding offset_below
inode_first = refl

pub inode_second : offset_below 0 3 ≡ Some 1022
unfolding offset_below
inode_second = refl

pub inode_double : offset_below 0 4 ≡ Some 2041
unfolding offset_below
inode_double = refl

pub first_below : (slot : ℕ) → offset_below 3 slot ≡ Some (4 + slot)
first_below = below_first

pub second_below : (slot : ℕ) → offset_below 1022 slot ≡ Some (1023 + slot)
second_below = below_second

pub double_below : (slot : ℕ) → offset_below 2041 slot ≡ Some (2042 + slot * 1019)
double_below = below_double
