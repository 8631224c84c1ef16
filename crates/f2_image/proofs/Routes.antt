-- The slots on the way to a page lead from the inode through nodes of its file.
use Rattle.std.proofs.Common.{◌≡◌, ℕ, zero, suc, ◌+◌, ◌-◌, ◌*◌, ◌/◌, ◌%◌, ◌<◌, ◌≤◌, ◌==◌, nat_lt, true, false, cond, List, [], ◌∷◌, length, take, refl, sym, ap, subst, arith}
use Rattle.std.specs.Prelude.{Some}
use Rattle.f2_format.specs.Offsets.{inode_pages, node_slots, page_limit, direct_limit, first_indirect, second_indirect, double_indirect, nth_indirect, direct_number, direct_slot, slots_of_page, slots_to}
use Rattle.f2_format.specs.Inode.{NIDS_AN_INODE}
use Rattle.f2_image.specs.Reached.{offset_below, nids_of_node}

-- slots that lead from a node of a file down to another
abbrev pub IsRoute : ℕ → List ℕ → Type 0
IsRoute offset [] = Unit {0}
IsRoute offset (slot ∷ slots) = (slot < nids_of_node offset) × ((lower : ℕ) × (offset_below offset slot ≡ Some lower) × ((lower == 0) ≡ false) × IsRoute lower slots)

-- all slots but the last
abbrev pub before_last : List ℕ → List ℕ
before_last slots = take (length slots - 1) slots

-- whether a slot of the inode names a node is a matter of five cases
from_inode : (slot : ℕ) → slot < 5 → (lower : ℕ) × (offset_below 0 slot ≡ Some lower) × ((lower == 0) ≡ false)
unfolding offset_below
from_inode zero small = (1, refl, refl)
from_inode (suc zero) small = (2, refl, refl)
from_inode (suc (suc zero)) small = (first_indirect, refl, refl)
from_inode (suc (suc (suc zero))) small = (second_indirect, refl, refl)
from_inode (suc (suc (suc (suc zero)))) small = (double_indirect, refl, refl)
from_inode (suc (suc (suc (suc (suc n))))) small = absurd (omega (arith, small))

inode_first : offset_below 0 2 ≡ Some first_indirect
unfolding offset_below
inode_first = refl

inode_second : offset_below 0 3 ≡ Some second_indirect
unfolding offset_below
inode_second = refl

inode_double : offset_below 0 4 ≡ Some double_indirect
unfolding offset_below
inode_double = refl

below_first : (slot : ℕ) → offset_below first_indirect slot ≡ Some (first_indirect + 1 + slot)
unfolding offset_below
below_first slot = refl

below_second : (slot : ℕ) → offset_below second_indirect slot ≡ Some (second_indirect + 1 + slot)
unfolding offset_below
below_second slot = refl

below_double : (slot : ℕ) → offset_below double_indirect slot ≡ Some (nth_indirect slot)
unfolding offset_below
below_double slot = refl

not_eq : (m n : ℕ) → n < m → (m == n) ≡ false
not_eq m n lt = grind (arith, lt)

is_lt : (m n : ℕ) → m < n → nat_lt m n ≡ true
is_lt m n lt = grind (arith, lt)

is_eq : (m n : ℕ) → m ≡ n → (m == n) ≡ true
is_eq m n e = grind (arith, e)

lt_of : (m n : ℕ) → nat_lt m n ≡ true → m < n
lt_of m n e = grind (arith, e)

le_of : (m n : ℕ) → nat_lt m n ≡ false → n ≤ m
le_of m n e = grind (arith, e)

-- a whole number of indirect nodes lies between two of them
whole : (x : ℕ) → (2042 + x * 1019 - 2042) % 1019 ≡ 0
whole x = omega arith

below_low : (x slot : ℕ) → x < node_slots → offset_below (nth_indirect x) slot ≡ Some (nth_indirect x + 1 + slot)
unfolding offset_below
below_low x slot small =
    rw (
      not_eq (nth_indirect x) 0 (omega arith),
      not_eq (nth_indirect x) first_indirect (omega arith),
      not_eq (nth_indirect x) second_indirect (omega arith),
      not_eq (nth_indirect x) double_indirect (omega arith),
      is_lt double_indirect (nth_indirect x) (omega arith),
      is_lt (nth_indirect x) (nth_indirect node_slots) (omega (arith, small)),
      is_eq ((nth_indirect x - nth_indirect 0) % (node_slots + 1)) 0 (whole x),
    ) refl

-- the slots to each direct node
route_to : (k slot : ℕ) → k < direct_limit → IsRoute 0 (before_last (slots_to k slot))
route_to k slot within =
    elim (nat_lt k 2) as (λ b. nat_lt k 2 ≡ b → IsRoute 0 (before_last (cond b (k ∷ slot ∷ []) (cond (nat_lt k (2 + node_slots)) (2 ∷ (k - 2) ∷ slot ∷ []) (cond (nat_lt k (2 + 2 * node_slots)) (3 ∷ (k - (2 + node_slots)) ∷ slot ∷ []) (4 ∷ ((k - (2 + 2 * node_slots)) / node_slots) ∷ ((k - (2 + 2 * node_slots)) % node_slots) ∷ slot ∷ [])))))) [
      | true ↦ λ e. let small = lt_of k 2 e in let low = from_inode k (omega (arith, small)) in (omega (arith, small), (low.0, low.1, low.2, tt))
      | false ↦ λ _.
          elim (nat_lt k (2 + node_slots)) as (λ b. nat_lt k (2 + node_slots) ≡ b → IsRoute 0 (before_last (cond b (2 ∷ (k - 2) ∷ slot ∷ []) (cond (nat_lt k (2 + 2 * node_slots)) (3 ∷ (k - (2 + node_slots)) ∷ slot ∷ []) (4 ∷ ((k - (2 + 2 * node_slots)) / node_slots) ∷ ((k - (2 + 2 * node_slots)) % node_slots) ∷ slot ∷ []))))) [
            | true ↦ λ e. let small = lt_of k (2 + node_slots) e in (omega arith, (first_indirect, inode_first, refl, (omega (arith, small), (first_indirect + 1 + (k - 2), below_first (k - 2), not_eq (first_indirect + 1 + (k - 2)) 0 (omega arith), tt))))
            | false ↦ λ past.
                elim (nat_lt k (2 + 2 * node_slots)) as (λ b. nat_lt k (2 + 2 * node_slots) ≡ b → IsRoute 0 (before_last (cond b (3 ∷ (k - (2 + node_slots)) ∷ slot ∷ []) (4 ∷ ((k - (2 + 2 * node_slots)) / node_slots) ∷ ((k - (2 + 2 * node_slots)) % node_slots) ∷ slot ∷ [])))) [
                  | true ↦ λ e. let small = lt_of k (2 + 2 * node_slots) e in (omega arith, (second_indirect, inode_second, refl, (omega (arith, small, le_of k (2 + node_slots) past), (second_indirect + 1 + (k - (2 + node_slots)), below_second (k - (2 + node_slots)), not_eq (second_indirect + 1 + (k - (2 + node_slots))) 0 (omega arith), tt))))
                  | false ↦ λ e. deep (k - (2 + 2 * node_slots)) (omega (arith, within, le_of k (2 + 2 * node_slots) e))
                ] refl
          ] refl
    ] refl
  where
    deep : (j : ℕ) → j < 1036324 → IsRoute 0 (4 ∷ (j / node_slots) ∷ (j % node_slots) ∷ [])
    deep j small =
        let x : j / 1018 < 1018 = omega (arith, small) in
        let y : j % 1018 < 1018 = omega arith in
        (omega arith, (double_indirect, inode_double, refl, (x, (nth_indirect (j / node_slots), below_double (j / node_slots), not_eq (nth_indirect (j / node_slots)) 0 (omega arith), (low_slots (j / node_slots) (j % node_slots) x y)))))
      where
        low_slots : (x y : ℕ) → x < 1018 → y < 1018 → IsRoute (nth_indirect x) (y ∷ [])
        low_slots x y in_x in_y = (subst (λ n. y < n) (sym (ap (λ b. cond b NIDS_AN_INODE node_slots) (not_eq (nth_indirect x) 0 (omega arith)))) in_y, (nth_indirect x + 1 + y, below_low x y in_x, not_eq (nth_indirect x + 1 + y) 0 (omega arith), tt))

-- and to each page
pub page_route : (page : ℕ) → page < page_limit → IsRoute 0 (before_last (slots_of_page page))
unfolding slots_of_page
page_route page within =
    elim (nat_lt page inode_pages) as (λ b. nat_lt page inode_pages ≡ b → IsRoute 0 (before_last (cond b (page ∷ []) (slots_to (direct_number page) (direct_slot page))))) [
      | true ↦ λ _. tt
      | false ↦ λ e. route_to (direct_number page) (direct_slot page) (omega (arith, within, le_of page inode_pages e))
    ] refl
