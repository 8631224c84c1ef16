-- The node that names a node of a file, and the slot in which it does.
use Rattle.std.proofs.Common.{◌≡◌, ◌≢◌, ◌⊎◌, inl, inr, ℕ, ◌+◌, ◌-◌, ◌*◌, ◌/◌, ◌%◌, ◌<◌, ◌==◌, ◌||◌, nat_lt, if◌then◌else◌, Some, sym, ap, ◌∙◌, arith}
use Rattle.std.proofs.lemmas.Bool.{cases_eq}
use Rattle.std.proofs.lemmas.Bool.Decides.{nat_tests}
use Rattle.f2_image.specs.Reached.{offset_of_nid, offset_below, nids_of_node}
use Rattle.f2_place_laws.proofs.Offsets.{Names, inode, first, second, double, low, names, below_inode}

-- the node above a node that isn't an inode
pub upper_of : ℕ → ℕ
upper_of lower =
    if (nat_lt lower 4 || (lower == 1022)) || (lower == 2041) then 0 else if nat_lt lower 1022 then 3 else if nat_lt lower 2041 then 1022
    else if (lower - 2042) % 1019 == 0 then 2041 else 2042 + (lower - 2042) / 1019 * 1019

top_upper : (lower : ℕ) → (lower < 4) ⊎ (lower ≡ 1022) ⊎ (lower ≡ 2041) → upper_of lower ≡ 0
unfolding upper_of
top_upper lower (inl small) = grind (arith, nat_tests, small)
top_upper lower (inr (inl is)) = ap upper_of is
top_upper lower (inr (inr is)) = ap upper_of is

first_upper : (s : ℕ) → s < 1018 → upper_of (4 + s) ≡ 3
unfolding upper_of
first_upper s small = grind (arith, nat_tests, small)

second_upper : (s : ℕ) → s < 1018 → upper_of (1023 + s) ≡ 1022
unfolding upper_of
second_upper s small = grind (arith, nat_tests, small)

double_upper : (x : ℕ) → upper_of (2042 + x * 1019) ≡ 2041
unfolding upper_of
double_upper x = let whole : (2042 + x * 1019 - 2042) % 1019 ≡ 0 = omega arith in grind (arith, nat_tests, whole)

low_upper : (x y : ℕ) → y < 1018 → upper_of (2042 + x * 1019 + 1 + y) ≡ 2042 + x * 1019
unfolding upper_of
low_upper x y small =
    let part : (2042 + x * 1019 + 1 + y - 2042) % 1019 ≡ 1 + y = omega (arith, small) in
    let quotient : (2042 + x * 1019 + 1 + y - 2042) / 1019 ≡ x = omega (arith, small) in
    grind (arith, nat_tests, part, quotient)

upper_is : (upper slot lower : ℕ) → Names upper slot lower → upper ≡ upper_of lower
upper_is upper slot lower (inode e some top) = e ∙ sym (top_upper lower top)
upper_is upper slot lower (first e small is) = e ∙ sym (ap upper_of is ∙ first_upper slot small)
upper_is upper slot lower (second e small is) = e ∙ sym (ap upper_of is ∙ second_upper slot small)
upper_is upper slot lower (double e small is) = e ∙ sym (ap upper_of is ∙ double_upper slot)
upper_is upper slot lower (low x e small is) = e ∙ sym (ap upper_of is ∙ low_upper x slot small)

pub one_upper : (upper slot lower : ℕ) → slot < nids_of_node upper → offset_below upper slot ≡ Some lower → upper ≡ upper_of lower
one_upper upper slot lower small is = upper_is upper slot lower (names upper slot lower small is)

-- a slot of a node by the node that it names
top_slot : (slot lower : ℕ) → offset_of_nid slot ≡ Some lower → slot ≡ (if nat_lt lower 4 then lower - 1 else if lower == 1022 then 3 else 4)
top_slot slot lower is = grind (arith, nat_tests)

same_slot : (upper slot other lower : ℕ) → Names upper slot lower → Names upper other lower → upper ≢ 0 → slot ≡ other
same_slot upper slot other lower (inode e some top) b not_inode = absurd (not_inode e)
same_slot upper slot other lower a (inode e some top) not_inode = absurd (not_inode e)
same_slot upper slot other lower (first e small is) (first f less also) not_inode = omega (arith, is, also)
same_slot upper slot other lower (first e small is) (second f less also) not_inode = absurd (omega (arith, e, f))
same_slot upper slot other lower (first e small is) (double f less also) not_inode = absurd (omega (arith, e, f))
same_slot upper slot other lower (first e small is) (low x f less also) not_inode = absurd (omega (arith, e, f))
same_slot upper slot other lower (second e small is) (first f less also) not_inode = absurd (omega (arith, e, f))
same_slot upper slot other lower (second e small is) (second f less also) not_inode = omega (arith, is, also)
same_slot upper slot other lower (second e small is) (double f less also) not_inode = absurd (omega (arith, e, f))
same_slot upper slot other lower (second e small is) (low x f less also) not_inode = absurd (omega (arith, e, f))
same_slot upper slot other lower (double e small is) (first f less also) not_inode = absurd (omega (arith, e, f))
same_slot upper slot other lower (double e small is) (second f less also) not_inode = absurd (omega (arith, e, f))
same_slot upper slot other lower (double e small is) (double f less also) not_inode = omega (arith, is, also)
same_slot upper slot other lower (double e small is) (low x f less also) not_inode = absurd (omega (arith, e, f))
same_slot upper slot other lower (low x e small is) (first f less also) not_inode = absurd (omega (arith, e, f))
same_slot upper slot other lower (low x e small is) (second f less also) not_inode = absurd (omega (arith, e, f))
same_slot upper slot other lower (low x e small is) (double f less also) not_inode = absurd (omega (arith, e, f))
same_slot upper slot other lower (low x e small is) (low y f less also) not_inode = omega (arith, e, f, is, also)

pub one_slot : (upper slot other lower : ℕ) → slot < nids_of_node upper → other < nids_of_node upper → offset_below upper slot ≡ Some lower → offset_below upper other ≡ Some lower → slot ≡ other
one_slot upper slot other lower small less is also = elim (cases_eq upper 0) [
  | inl e ↦
      let one = top_slot slot lower (sym (below_inode slot) ∙ ap (λ n. offset_below n slot) (sym e) ∙ is) in
      let two = top_slot other lower (sym (below_inode other) ∙ ap (λ n. offset_below n other) (sym e) ∙ also) in
      one ∙ sym two
  | inr not_inode ↦ same_slot upper slot other lower (names upper slot lower small is) (names upper other lower less also) not_inode
]
