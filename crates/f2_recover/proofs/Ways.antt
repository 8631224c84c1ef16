-- The direct node of a page, and the slots on the way to the page's address.
use Rattle.std.proofs.Common.{◌≡◌, ℕ, ◌+◌, ◌-◌, ◌*◌, ◌/◌, ◌%◌, ◌<◌, ◌≤◌, [], ◌∷◌, Some, ap, ◌∙◌, inl, inr, arith}
use Rattle.std.proofs.lemmas.Bool.{cases_lt}
use Rattle.std.proofs.lemmas.Bool.Decides.{nat_tests}
use Rattle.f2_format.specs.Offsets.{inode_pages, page_limit, direct_limit, direct_of, direct_number, direct_slot, nth_direct, slots_of_page, slots_to}

-- the direct node is right below the inode, below one of its two indirect nodes, or below an indirect node of the double indirect one
pub data Way (page : ℕ) : Type 0 where
  one : (k : ℕ) → k < 2 → direct_of page ≡ Some (1 + k) → slots_of_page page ≡ k ∷ direct_slot page ∷ [] → Way page
  first : (s : ℕ) → s < 1018 → direct_of page ≡ Some (4 + s) → slots_of_page page ≡ 2 ∷ s ∷ direct_slot page ∷ [] → Way page
  second : (s : ℕ) → s < 1018 → direct_of page ≡ Some (1023 + s) → slots_of_page page ≡ 3 ∷ s ∷ direct_slot page ∷ [] → Way page
  double : (x y : ℕ) → x < 1018 → y < 1018 → direct_of page ≡ Some (2042 + x * 1019 + 1 + y) → slots_of_page page ≡ 4 ∷ x ∷ y ∷ direct_slot page ∷ [] → Way page

pub direct_of-number : (page : ℕ) → inode_pages ≤ page → page < page_limit → direct_of page ≡ Some (nth_direct (direct_number page))
unfolding direct_of
direct_of-number page above below = grind (arith, nat_tests)

slots-number : (page : ℕ) → inode_pages ≤ page → slots_of_page page ≡ slots_to (direct_number page) (direct_slot page)
unfolding slots_of_page
slots-number page above = grind (arith, nat_tests)

slots_in_inode : (k slot : ℕ) → k < 2 → slots_to k slot ≡ k ∷ slot ∷ []
slots_in_inode k slot h = grind (arith, nat_tests)

slots_in_first : (k slot : ℕ) → 2 ≤ k → k < 1020 → slots_to k slot ≡ 2 ∷ (k - 2) ∷ slot ∷ []
slots_in_first k slot a b = grind (arith, nat_tests)

slots_in_second : (k slot : ℕ) → 1020 ≤ k → k < 2038 → slots_to k slot ≡ 3 ∷ (k - 1020) ∷ slot ∷ []
slots_in_second k slot a b = grind (arith, nat_tests)

slots_in_double : (k slot : ℕ) → 2038 ≤ k → slots_to k slot ≡ 4 ∷ ((k - 2038) / 1018) ∷ ((k - 2038) % 1018) ∷ slot ∷ []
slots_in_double k slot a = grind (arith, nat_tests)

pub direct_in_inode : (k : ℕ) → k < 2 → nth_direct k ≡ 1 + k
direct_in_inode k h = grind (arith, nat_tests)

pub direct_in_first : (k : ℕ) → 2 ≤ k → k < 1020 → nth_direct k ≡ 4 + (k - 2)
direct_in_first k a b = grind (arith, nat_tests)

pub direct_in_second : (k : ℕ) → 1020 ≤ k → k < 2038 → nth_direct k ≡ 1023 + (k - 1020)
direct_in_second k a b = grind (arith, nat_tests)

pub direct_in_double : (k : ℕ) → 2038 ≤ k → nth_direct k ≡ 2042 + (k - 2038) / 1018 * 1019 + 1 + (k - 2038) % 1018
direct_in_double k a = grind (arith, nat_tests)

way_to : (page k : ℕ) → k < direct_limit → direct_of page ≡ Some (nth_direct k) → slots_of_page page ≡ slots_to k (direct_slot page) → Way page
way_to page k within direct slots =
    elim (cases_lt k 2) [
      | inl in_inode ↦ one k in_inode (direct ∙ ap Some (direct_in_inode k in_inode)) (slots ∙ slots_in_inode k (direct_slot page) in_inode)
      | inr past_inode ↦ elim (cases_lt k 1020) [
        | inl in_first ↦ first (k - 2) (omega (arith, in_first)) (direct ∙ ap Some (direct_in_first k past_inode in_first)) (slots ∙ slots_in_first k (direct_slot page) past_inode in_first)
        | inr past_first ↦ elim (cases_lt k 2038) [
          | inl in_second ↦ second (k - 1020) (omega (arith, in_second)) (direct ∙ ap Some (direct_in_second k past_first in_second)) (slots ∙ slots_in_second k (direct_slot page) past_first in_second)
          | inr past_second ↦
              double ((k - 2038) / 1018) ((k - 2038) % 1018) (omega (arith, within)) (omega arith) (direct ∙ ap Some (direct_in_double k past_second)) (slots ∙ slots_in_double k (direct_slot page) past_second)
        ]
      ]
    ]

-- each page that the inode has no address for has such a way
pub way_of : (page : ℕ) → inode_pages ≤ page → page < page_limit → Way page
way_of page above below = way_to page (direct_number page) (omega (arith, above, below)) (direct_of-number page above below) (slots-number page above)
