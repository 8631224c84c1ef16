-- Members of a set that all differ are no more than it has.
use Rattle.std.proofs.Common.{◌≡◌, ◌≢◌, ◌⊎◌, inl, inr, ℕ, ◌-◌, ◌<◌, ◌≤◌, true, cond, not, ◌&&◌, List, [], ◌∷◌, length, sym, ap, ◌∙◌, arith}
use Rattle.std.specs.List.{AllByRecursion}
use Rattle.std.specs.Ordering.{nat_cmp}
use Rattle.std.specs.Cmp.{nat_cmp_total, unsigned_tied}
use Rattle.std.specs.FinSet as set
use Rattle.std.proofs.lemmas.Bool.{ne_eqb, cases_lt}
use Rattle.f2_image.specs.Reached.{AllDiffer}
use Rattle.f2_recover.proofs.Sets.{Numbers, not_both}

abbrev pub AreIn : Numbers → List ℕ → Type 0
AreIn s list = AllByRecursion (λ k. set.contains s k ≡ true) list

remains : (s : Numbers) (k q : ℕ) → k ≢ q → set.contains s q ≡ true → set.contains (set.remove s k) q ≡ true
remains s k q other h = set.contains-remove nat_cmp_total s k q ∙ ap (λ b. not b && set.contains s q) (unsigned_tied q k ∙ ne_eqb q k (λ e. other (sym e))) ∙ h

all_remain : (s : Numbers) (k : ℕ) (list : List ℕ) → AllByRecursion (λ q. k ≢ q) list → AreIn s list → AreIn (set.remove s k) list
all_remain s k [] others all = tt
all_remain s k (q ∷ list) others all = (remains s k q others.0 all.0, all_remain s k list others.1 all.1)

-- a set with a member has some
some_long : (s : Numbers) (k : ℕ) → set.contains s k ≡ true → 0 < set.len s
some_long s k h = by (cases_lt 0 (set.len s))
  where
    by : (0 < set.len s) ⊎ (set.len s ≤ 0) → 0 < set.len s
    by (inl some) = some
    by (inr none) =
        let empty : s ≡ set.empty = set.empty_of_len s (omega (arith, none)) in
        absurd (not_both h (ap (λ (t : Numbers). set.contains t k) empty ∙ set.contains-empty nat_cmp k))

pub no_more : (list : List ℕ) (s : Numbers) → AllDiffer list → AreIn s list → length list ≤ set.len s
no_more [] s differ all = omega arith
no_more (k ∷ list) s differ all =
    let left : set.len (set.remove s k) ≡ set.len s - 1 = set.len-remove nat_cmp_total s k ∙ ap (λ b. cond b (set.len s - 1) (set.len s)) all.0 in
    let rest = no_more list (set.remove s k) differ.1 (all_remain s k list differ.0 all.1) in
    omega (arith, left, rest, some_long s k all.0)
