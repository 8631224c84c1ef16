-- Where every nid is taken, the sets have as many members as there are nids.
use Rattle.std.proofs.Common.{◌≡◌, ◌≢◌, ℕ, zero, suc, ◌+◌, ◌-◌, ◌<◌, ◌≤◌, Bool, true, false, cond, ◌||◌, inl, inr, refl, ap, ◌∙◌, arith, nat_cmp}
use Rattle.std.specs.Cmp.{nat_cmp_total}
use Rattle.std.specs.FinSet as set
use Rattle.std.specs.FinSet.{len-remove}
use Rattle.std.proofs.lemmas.Bool.{cases_lt}
use Rattle.f2_bitset.proofs.Members.{contains-remove_other, len-contained}

-- how many members are below k
abbrev count_below : set.FinSet nat_cmp → ℕ → ℕ
count_below s zero = 0
count_below s (suc k) = cond (set.contains s k) (count_below s k + 1) (count_below s k)

-- a number that is removed is not counted below itself
count_below-remove : (s : set.FinSet nat_cmp) (n k : ℕ) → k ≤ n → count_below (set.remove s n) k ≡ count_below s k
count_below-remove s n zero h = refl
count_below-remove s n (suc k) h =
    let other : k ≢ n = omega arith in
    ap (λ b. cond b (count_below (set.remove s n) k + 1) (count_below (set.remove s n) k)) (contains-remove_other s n k other)
    ∙ ap (λ m. cond (set.contains s k) (m + 1) m) (count_below-remove s n k (omega arith))

-- no more are below a number than there are
count_below-le : (k : ℕ) (s : set.FinSet nat_cmp) → count_below s k ≤ set.len s
count_below-le zero s = omega arith
count_below-le (suc k) s =
    elim (set.contains s k) as (λ b. set.contains s k ≡ b → cond b (count_below s k + 1) (count_below s k) ≤ set.len s) [
      | true ↦ λ there. omega (arith, count_below-remove s k k (omega arith), count_below-le k (set.remove s k), len-contained s k there, len-remove nat_cmp_total s k ∙ ap (λ b. cond b (set.len s - 1) (set.len s)) there)
      | false ↦ λ _. count_below-le k s
    ] refl

-- one of three counts grows where one of three sets has the number
covered_step : (a b c : Bool) (x y z k : ℕ) → (a || (b || c)) ≡ true → k ≤ x + y + z + 3 → k + 1 ≤ cond a (x + 1) x + cond b (y + 1) y + cond c (z + 1) z + 3
covered_step true true true x y z k h le = omega arith
covered_step true true false x y z k h le = omega arith
covered_step true false true x y z k h le = omega arith
covered_step true false false x y z k h le = omega arith
covered_step false true true x y z k h le = omega arith
covered_step false true false x y z k h le = omega arith
covered_step false false true x y z k h le = omega arith
covered_step false false false x y z k h le = absurd (cc)

-- three sets that have each number from 3 up to k have k - 3 members at least
covered : (k : ℕ) (a b c : set.FinSet nat_cmp) → ((n : ℕ) → n < k → 3 ≤ n → (set.contains a n || (set.contains b n || set.contains c n)) ≡ true) → k ≤ count_below a k + count_below b k + count_below c k + 3
covered zero a b c all = omega arith
covered (suc k) a b c all =
    elim (cases_lt k 3) as (λ _. suc k ≤ count_below a (suc k) + count_below b (suc k) + count_below c (suc k) + 3) [
      | inl low ↦ omega arith
      | inr high ↦ omega (arith, covered_step (set.contains a k) (set.contains b k) (set.contains c k) (count_below a k) (count_below b k) (count_below c k) k (all k (omega arith) high) (covered k a b c (λ n h. all n (omega arith))))
    ]

-- so there are as many members as nids, but for 0 to 2
pub covered-len : (k : ℕ) (a b c : set.FinSet nat_cmp) → ((n : ℕ) → n < k → 3 ≤ n → (set.contains a n || (set.contains b n || set.contains c n)) ≡ true) → k ≤ set.len a + set.len b + set.len c + 3
covered-len k a b c all =
    omega (arith, covered k a b c all, count_below-le k a, count_below-le k b, count_below-le k c)
