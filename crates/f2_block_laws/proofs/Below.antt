-- The node that a slot of another one names, by the offsets that an image's nodes have and by those that a file's have.
use Rattle.std.proofs.Common.{◌≡◌, ◌≢◌, ℕ, ◌+◌, ◌*◌, ◌<◌, ◌≤◌, ◌⊎◌, zero, suc, Bool, true, false, cond, Some, None, refl, ap, sym, subst, ◌∙◌, inl, inr, arith}
use Rattle.std.proofs.lemmas.Option.{same_Some}
use Rattle.std.proofs.lemmas.Bool.{cases_eq, ne_eqb}
use Rattle.std.proofs.lemmas.Bool.Decides.{nat_tests}
use Rattle.f2_format.specs.Offsets.{node_slots}
use Rattle.f2_format.specs.Inode.{NIDS_AN_INODE}
use Rattle.f2_image.specs.Reached.{offset_below, nids_of_node, is_low_indirect}
use Rattle.f2_blocks.specs.Tree.{has_nids, node_at, node_limit}
use Rattle.f2_blocks.proofs.Shape.{is_above, first, second, double, below, node_within}

-- an indirect node below the double indirect one
low_has : (n : ℕ) → is_low_indirect n ≡ true → has_nids n ≡ true
low_has n low = grind (arith, nat_tests)

low_within : (n : ℕ) → is_low_indirect n ≡ true → n < 2042 + 1018 * 1019
low_within n low = grind (arith, nat_tests)

-- what a slot of a node other than an inode names
pub record IsBelow (n slot low : ℕ) : Type 0 where
  pub kind : has_nids n ≡ true
  pub is : node_at n slot ≡ low
  pub high : n < node_limit

at_first : (slot low : ℕ) → offset_below 3 slot ≡ Some low → 4 + slot ≡ low
unfolding offset_below
at_first slot low is = same_Some (4 + slot) low is

at_second : (slot low : ℕ) → offset_below 1022 slot ≡ Some low → 1023 + slot ≡ low
unfolding offset_below
at_second slot low is = same_Some (1023 + slot) low is

at_double : (slot low : ℕ) → offset_below 2041 slot ≡ Some low → 2042 + slot * 1019 ≡ low
unfolding offset_below
at_double slot low is = same_Some (2042 + slot * 1019) low is

module _ (n slot low : ℕ) (not_inode : n ≢ 0) (not_first : n ≢ 3) (not_second : n ≢ 1022) (not_double : n ≢ 2041) where
  other : offset_below n slot ≡ cond (is_low_indirect n) (Some (n + 1 + slot)) None
  unfolding offset_below
  other = rw (ne_eqb n 0 not_inode, ne_eqb n 3 not_first, ne_eqb n 1022 not_second, ne_eqb n 2041 not_double) refl

  by_kind : (b : Bool) → is_low_indirect n ≡ b → cond b (Some (n + 1 + slot)) None ≡ Some low → IsBelow n slot low
  by_kind true e is = record {
    kind = low_has n e;
    is = let same = same_Some (n + 1 + slot) low is in let at : node_at n slot ≡ n + 1 + slot = ap (λ b. cond b (2042 + slot * 1019) (n + 1 + slot)) (ne_eqb n 2041 not_double) in at ∙ same;
    high = low_within n e;
  }
  by_kind false e is = absurd (cc)

  at_other : offset_below n slot ≡ Some low → IsBelow n slot low
  at_other is = by_kind (is_low_indirect n) refl (sym other ∙ is)

pub is_below : (n slot low : ℕ) → n ≢ 0 → offset_below n slot ≡ Some low → IsBelow n slot low
is_below n slot low not_inode is =
    elim (cases_eq n 3) [
      | inl e ↦ subst (λ m. IsBelow m slot low) (sym e) (record { kind = refl; is = at_first slot low (subst (λ m. offset_below m slot ≡ Some low) e is); high = omega arith })
      | inr not_first ↦ elim (cases_eq n 1022) [
        | inl e ↦ subst (λ m. IsBelow m slot low) (sym e) (record { kind = refl; is = at_second slot low (subst (λ m. offset_below m slot ≡ Some low) e is); high = omega arith })
        | inr not_second ↦ elim (cases_eq n 2041) [
          | inl e ↦ subst (λ m. IsBelow m slot low) (sym e) (record { kind = refl; is = at_double slot low (subst (λ m. offset_below m slot ≡ Some low) e is); high = omega arith })
          | inr not_double ↦ at_other n slot low not_inode not_first not_second not_double is
        ]
      ]
    ]

-- a node below another is no inode, and within a file's limit
pub record IsInner (low : ℕ) : Type 0 where
  pub other : low ≢ 0
  pub high : low < node_limit

pub is_inner : (n slot low : ℕ) → n ≢ 0 → slot < node_slots → offset_below n slot ≡ Some low → IsInner low
is_inner n slot low not_inode small is =
    let at = is_below n slot low not_inode is in
    record {
      other = λ none. elim (is_above n at.kind) [
        | first e names ↦ omega (arith, names slot, at.is, none)
        | second e names ↦ omega (arith, names slot, at.is, none)
        | double e names ↦ omega (arith, names slot, at.is, none)
        | below x e names ↦ omega (arith, names slot, at.is, none)
      ];
      high = subst (λ m. m < node_limit) at.is (node_within n slot at.kind at.high small);
    }

-- which node names another in a slot of its own
pub data IsUpper (upper slot n : ℕ) : Type 0 where
  inode : upper ≡ 0 → (n ≤ 3) ⊎ (n ≡ 1022) ⊎ (n ≡ 2041) → IsUpper upper slot n
  first_one : upper ≡ 3 → n ≡ 4 + slot → IsUpper upper slot n
  second_one : upper ≡ 1022 → n ≡ 1023 + slot → IsUpper upper slot n
  double_one : upper ≡ 2041 → n ≡ 2042 + slot * 1019 → IsUpper upper slot n
  low_one : (z : ℕ) → upper ≡ 2042 + z * 1019 → n ≡ 2042 + z * 1019 + 1 + slot → IsUpper upper slot n

by_inode : (slot n : ℕ) → slot < 5 → offset_below 0 slot ≡ Some n → (n ≤ 3) ⊎ (n ≡ 1022) ⊎ (n ≡ 2041)
unfolding offset_below
by_inode zero n small is = let same = same_Some 1 n is in inl (omega (arith, same))
by_inode (suc zero) n small is = let same = same_Some 2 n is in inl (omega (arith, same))
by_inode (suc (suc zero)) n small is = let same = same_Some 3 n is in inl (omega (arith, same))
by_inode (suc (suc (suc zero))) n small is = inr (inl (sym (same_Some 1022 n is)))
by_inode (suc (suc (suc (suc zero)))) n small is = inr (inr (sym (same_Some 2041 n is)))
by_inode (suc (suc (suc (suc (suc k))))) n small is = absurd (omega arith)

pub is_upper : (upper slot n : ℕ) → slot < nids_of_node upper → offset_below upper slot ≡ Some n → IsUpper upper slot n
is_upper upper slot n small is =
    elim (cases_eq upper 0) [
      | inl e ↦ inode e (by_inode slot n (subst (λ m. slot < nids_of_node m) e small) (subst (λ m. offset_below m slot ≡ Some n) e is))
      | inr other ↦
          let at = is_below upper slot n other is in
          elim (is_above upper at.kind) [
            | first e names ↦ first_one e (sym at.is ∙ names slot)
            | second e names ↦ second_one e (sym at.is ∙ names slot)
            | double e names ↦ double_one e (sym at.is ∙ names slot)
            | below z e names ↦ low_one z e (sym at.is ∙ names slot)
          ]
    ]

-- the slot is one of a node's
pub slot_within : (upper slot : ℕ) → slot < nids_of_node upper → slot < 1018
slot_within upper slot small =
    elim (cases_eq upper 0) [
      | inl e ↦ let few : slot < 5 = subst (λ m. slot < nids_of_node m) e small in omega (arith, few)
      | inr other ↦ subst (λ b. slot < cond b NIDS_AN_INODE node_slots) (ne_eqb upper 0 other) small
    ]
