-- Which node of a file names which other: each but the inode is named by one slot of one node.
use Rattle.std.proofs.Common.{◌≡◌, ◌≢◌, inl, inr, ℕ, ◌+◌, ◌-◌, ◌*◌, ◌/◌, ◌%◌, ◌<◌, ◌==◌, nat_lt, if◌then◌else◌, Some, refl, sym, ap, ◌∙◌, arith}
use Rattle.std.proofs.lemmas.Bool.{cases_eq}
use Rattle.std.proofs.lemmas.Bool.Decides.{nat_tests}
use Rattle.f2_image.specs.Reached.{offset_of_nid, offset_below, nids_of_node}

-- a slot of a node names another: of the inode, of an indirect node below it, of the double indirect one, or of an indirect node below that
pub data Up (upper slot lower : ℕ) : Type 0 where
  one : upper ≡ 0 → slot < 3 → lower ≡ slot + 1 → Up upper slot lower
  second_top : upper ≡ 0 → slot ≡ 3 → lower ≡ 1022 → Up upper slot lower
  double_top : upper ≡ 0 → slot ≡ 4 → lower ≡ 2041 → Up upper slot lower
  first : upper ≡ 3 → slot < 1018 → lower ≡ 4 + slot → Up upper slot lower
  second : upper ≡ 1022 → slot < 1018 → lower ≡ 1023 + slot → Up upper slot lower
  double : upper ≡ 2041 → slot < 1018 → lower ≡ 2042 + slot * 1019 → Up upper slot lower
  low : (x : ℕ) → upper ≡ 2042 + x * 1019 → slot < 1018 → lower ≡ 2042 + x * 1019 + 1 + slot → Up upper slot lower

below_inode : (slot : ℕ) → offset_below 0 slot ≡ offset_of_nid slot
unfolding offset_below
below_inode slot = refl

below_first : (slot : ℕ) → offset_below 3 slot ≡ Some (4 + slot)
unfolding offset_below
below_first slot = refl

below_second : (slot : ℕ) → offset_below 1022 slot ≡ Some (1023 + slot)
unfolding offset_below
below_second slot = refl

below_double : (slot : ℕ) → offset_below 2041 slot ≡ Some (2042 + slot * 1019)
unfolding offset_below
below_double slot = refl

is_low : (upper slot lower : ℕ) → upper ≢ 0 → upper ≢ 3 → upper ≢ 1022 → upper ≢ 2041 → offset_below upper slot ≡ Some lower → (2041 < upper) × ((upper - 2042) % 1019 ≡ 0) × (lower ≡ upper + 1 + slot)
unfolding offset_below
is_low upper slot lower a b c d is = grind (arith, nat_tests)

same : (a b : ℕ) → Some a ≡ Some b → a ≡ b
same a b e = cc

of_zero : offset_of_nid 0 ≡ Some 1
of_zero = refl

of_one : offset_of_nid 1 ≡ Some 2
of_one = refl

of_two : offset_of_nid 2 ≡ Some 3
of_two = refl

of_three : offset_of_nid 3 ≡ Some 1022
of_three = refl

of_four : offset_of_nid 4 ≡ Some 2041
of_four = refl

of_more : (slot lower : ℕ) → slot ≢ 0 → slot ≢ 1 → slot ≢ 2 → slot ≢ 3 → slot ≢ 4 → offset_of_nid slot ≡ Some lower → ⊥
of_more slot lower a b c d e is = grind (arith, nat_tests)

up_top : (upper slot lower : ℕ) → upper ≡ 0 → offset_of_nid slot ≡ Some lower → Up upper slot lower
up_top upper slot lower top is =
    elim (cases_eq slot 0) [
      | inl e ↦ one top (omega (arith, e)) (same lower (slot + 1) (sym is ∙ ap offset_of_nid e ∙ of_zero ∙ ap (λ n. Some (n + 1)) (sym e)))
      | inr a ↦ elim (cases_eq slot 1) [
        | inl e ↦ one top (omega (arith, e)) (same lower (slot + 1) (sym is ∙ ap offset_of_nid e ∙ of_one ∙ ap (λ n. Some (n + 1)) (sym e)))
        | inr b ↦ elim (cases_eq slot 2) [
          | inl e ↦ one top (omega (arith, e)) (same lower (slot + 1) (sym is ∙ ap offset_of_nid e ∙ of_two ∙ ap (λ n. Some (n + 1)) (sym e)))
          | inr c ↦ elim (cases_eq slot 3) [
            | inl e ↦ second_top top e (same lower 1022 (sym is ∙ ap offset_of_nid e ∙ of_three))
            | inr d ↦ elim (cases_eq slot 4) [
              | inl e ↦ double_top top e (same lower 2041 (sym is ∙ ap offset_of_nid e ∙ of_four))
              | inr f ↦ absurd (of_more slot lower a b c d f is)
            ]
          ]
        ]
      ]
    ]

up_low : (upper slot lower : ℕ) → (2041 < upper) × ((upper - 2042) % 1019 ≡ 0) × (lower ≡ upper + 1 + slot) → slot < 1018 → Up upper slot lower
up_low upper slot lower of_low small =
    let x = (upper - 2042) / 1019 in
    let is : upper ≡ 2042 + x * 1019 = omega (arith, of_low) in
    low x is small (of_low.2 ∙ ap (λ n. n + 1 + slot) is)

pub up : (upper slot lower : ℕ) → slot < nids_of_node upper → offset_below upper slot ≡ Some lower → Up upper slot lower
up upper slot lower small is =
    elim (cases_eq upper 0) [
      | inl e ↦ up_top upper slot lower e (sym (below_inode slot) ∙ ap (λ n. offset_below n slot) (sym e) ∙ is)
      | inr not_inode ↦
          let within : slot < 1018 = within_node upper slot not_inode small in
          elim (cases_eq upper 3) [
            | inl e ↦ first e within (same lower (4 + slot) (sym is ∙ ap (λ n. offset_below n slot) e ∙ below_first slot))
            | inr not_first ↦ elim (cases_eq upper 1022) [
              | inl e ↦ second e within (same lower (1023 + slot) (sym is ∙ ap (λ n. offset_below n slot) e ∙ below_second slot))
              | inr not_second ↦ elim (cases_eq upper 2041) [
                | inl e ↦ double e within (same lower (2042 + slot * 1019) (sym is ∙ ap (λ n. offset_below n slot) e ∙ below_double slot))
                | inr not_double ↦ up_low upper slot lower (is_low upper slot lower not_inode not_first not_second not_double is) within
              ]
            ]
          ]
    ]
  where
    within_node : (upper slot : ℕ) → upper ≢ 0 → slot < nids_of_node upper → slot < 1018
    within_node upper slot other small = grind (arith, nat_tests)

-- the node and the slot that name a node
abbrev pub upper_of : ℕ → ℕ
upper_of o =
    if nat_lt o 4 then 0 else if nat_lt o 1022 then 3 else if nat_lt o 1023 then 0 else if nat_lt o 2041 then 1022 else if nat_lt o 2042 then 0
    else if (o - 2042) % 1019 == 0 then 2041 else o - (o - 2042) % 1019

abbrev pub slot_of : ℕ → ℕ
slot_of o =
    if nat_lt o 4 then o - 1 else if nat_lt o 1022 then o - 4 else if nat_lt o 1023 then 3 else if nat_lt o 2041 then o - 1023 else if nat_lt o 2042 then 4
    else if (o - 2042) % 1019 == 0 then (o - 2042) / 1019 else (o - 2042) % 1019 - 1

low_upper : (x slot : ℕ) → slot < 1018 → upper_of (2042 + x * 1019 + 1 + slot) ≡ 2042 + x * 1019
low_upper x slot small =
    let rest : (2042 + x * 1019 + 1 + slot - 2042) % 1019 ≡ 1 + slot = omega (arith, small) in
    grind (arith, nat_tests, rest)

low_slot : (x slot : ℕ) → slot < 1018 → slot_of (2042 + x * 1019 + 1 + slot) ≡ slot
low_slot x slot small =
    let rest : (2042 + x * 1019 + 1 + slot - 2042) % 1019 ≡ 1 + slot = omega (arith, small) in
    grind (arith, nat_tests, rest)

double_upper : (slot : ℕ) → upper_of (2042 + slot * 1019) ≡ 2041
double_upper slot =
    let rest : (2042 + slot * 1019 - 2042) % 1019 ≡ 0 = omega arith in
    grind (arith, nat_tests, rest)

double_slot : (slot : ℕ) → slot_of (2042 + slot * 1019) ≡ slot
double_slot slot =
    let rest : (2042 + slot * 1019 - 2042) % 1019 ≡ 0 = omega arith in
    let whole : (2042 + slot * 1019 - 2042) / 1019 ≡ slot = omega arith in
    grind (arith, nat_tests, rest, whole)

pub upper_is : (upper slot lower : ℕ) → Up upper slot lower → upper ≡ upper_of lower
upper_is upper slot lower (one e small is) = grind (arith, nat_tests)
upper_is upper slot lower (second_top e s is) = e ∙ sym (ap upper_of is)
upper_is upper slot lower (double_top e s is) = e ∙ sym (ap upper_of is)
upper_is upper slot lower (first e small is) = grind (arith, nat_tests)
upper_is upper slot lower (second e small is) = grind (arith, nat_tests)
upper_is upper slot lower (double e small is) = e ∙ sym (ap upper_of is ∙ double_upper slot)
upper_is upper slot lower (low x e small is) = e ∙ sym (ap upper_of is ∙ low_upper x slot small)

pub slot_is : (upper slot lower : ℕ) → Up upper slot lower → slot ≡ slot_of lower
slot_is upper slot lower (one e small is) = grind (arith, nat_tests)
slot_is upper slot lower (second_top e s is) = s ∙ sym (ap slot_of is)
slot_is upper slot lower (double_top e s is) = s ∙ sym (ap slot_of is)
slot_is upper slot lower (first e small is) = grind (arith, nat_tests)
slot_is upper slot lower (second e small is) = grind (arith, nat_tests)
slot_is upper slot lower (double e small is) = sym (ap slot_of is ∙ double_slot slot)
slot_is upper slot lower (low x e small is) = sym (ap slot_of is ∙ low_slot x slot small)

-- what a node names stands behind it
pub up_behind : (upper slot lower : ℕ) → Up upper slot lower → upper < lower
up_behind upper slot lower (one e small is) = omega (arith, e, is)
up_behind upper slot lower (second_top e s is) = omega (arith, e, is)
up_behind upper slot lower (double_top e s is) = omega (arith, e, is)
up_behind upper slot lower (first e small is) = omega (arith, e, is)
up_behind upper slot lower (second e small is) = omega (arith, e, is)
up_behind upper slot lower (double e small is) = omega (arith, e, is)
up_behind upper slot lower (low x e small is) = omega (arith, e, is)

-- what the slots of each node name
pub inode_names : (k : ℕ) → k < 3 → offset_below 0 k ≡ Some (1 + k)
unfolding offset_below
inode_names k small = grind (arith, nat_tests)

pub inode_second : offset_below 0 3 ≡ Some 1022
unfolding offset_below
inode_second = refl

pub inode_double : offset_below 0 4 ≡ Some 2041
unfolding offset_below
inode_double = refl

pub first_names : (slot : ℕ) → offset_below 3 slot ≡ Some (4 + slot)
first_names = below_first

pub second_names : (slot : ℕ) → offset_below 1022 slot ≡ Some (1023 + slot)
second_names = below_second

pub double_names : (slot : ℕ) → offset_below 2041 slot ≡ Some (2042 + slot * 1019)
double_names = below_double

pub low_names : (x slot : ℕ) → x < 1018 → offset_below (2042 + x * 1019) slot ≡ Some (2042 + x * 1019 + 1 + slot)
unfolding offset_below
low_names x slot small =
    let whole : (2042 + x * 1019 - 2042) % 1019 ≡ 0 = omega arith in
    grind (arith, nat_tests, whole)
