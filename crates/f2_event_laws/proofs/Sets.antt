-- Sets of pairs, and of files, after a change, one by one.
use Rattle.std.proofs.Common.{◌≡◌, ◌≢◌, ◌⊎◌, inl, inr, ℕ, Bool, true, false, not, ◌||◌, ◌&&◌, refl, sym, ap, ◌∙◌, arith, true≢false}
use Rattle.std.specs.Ordering.{nat_cmp, eq_by_cmp}
use Rattle.std.specs.Cmp.{nat_cmp_total, unsigned_tied}
use Rattle.std.proofs.lemmas.Bool.Decides.{nat_tests}
use Rattle.std.specs.FinSet as set
use Rattle.std.specs.FinSet.{contains-insert, contains-remove}
use Rattle.f2_model.specs.State.{pair_cmp, Pairs, Inos}
use Rattle.f2_place_laws.proofs.Pairs.{pair_cmp_total, tied, apart, same_or_other}

-- what is in a set without one was in the set
pub was_in : (s : Pairs) (k q : ℕ × ℕ) → set.contains (set.remove s k) q ≡ true → set.contains s q ≡ true
was_in s k q there = second (not (eq_by_cmp pair_cmp q k)) (set.contains s q) (sym (contains-remove pair_cmp_total s k q) ∙ there)
  where
    second : (a b : Bool) → (a && b) ≡ true → b ≡ true
    second true b is = is
    second false b is = absurd (true≢false (sym is))

pub still_out : (s : Pairs) (k q : ℕ × ℕ) → set.contains s q ≡ false → set.contains (set.remove s k) q ≡ false
still_out s k q out = contains-remove pair_cmp_total s k q ∙ ap (λ b. not (eq_by_cmp pair_cmp q k) && b) out ∙ never (not (eq_by_cmp pair_cmp q k))
  where
    never : (a : Bool) → (a && false) ≡ false
    never true = refl
    never false = refl

-- and what is in a set is in it with one more
pub still_in : (s : Pairs) (k q : ℕ × ℕ) → set.contains s q ≡ true → set.contains (set.insert s k) q ≡ true
still_in s k q there = contains-insert pair_cmp_total s k q ∙ ap (λ b. eq_by_cmp pair_cmp q k || b) there ∙ always (eq_by_cmp pair_cmp q k)
  where
    always : (a : Bool) → (a || true) ≡ true
    always true = refl
    always false = refl

-- and so it is in the set without another one
pub still_in_without : (s : Pairs) (k q : ℕ × ℕ) → q ≢ k → set.contains s q ≡ true → set.contains (set.remove s k) q ≡ true
still_in_without s k q other there = contains-remove pair_cmp_total s k q ∙ ap (λ b. not b && set.contains s q) (apart q k other) ∙ there

-- what is in a set with one more is that one or was in the set
pub was_put : (s : Pairs) (k q : ℕ × ℕ) → set.contains (set.insert s k) q ≡ true → (q ≡ k) ⊎ (set.contains s q ≡ true)
was_put s k q there = by_case (same_or_other q k)
  where
    by_case : (q ≡ k) ⊎ (q ≢ k) → (q ≡ k) ⊎ (set.contains s q ≡ true)
    by_case (inl same) = inl same
    by_case (inr other) = inr (sym (contains-insert pair_cmp_total s k q ∙ ap (λ b. b || set.contains s q) (apart q k other)) ∙ there)

-- and a file is among files with one more
pub file_put : (s : Inos) (k : ℕ) → set.contains (set.insert s k) k ≡ true
file_put s k = grind (arith, nat_tests, contains-insert nat_cmp_total s k k, unsigned_tied k k)

pub file_still : (s : Inos) (k q : ℕ) → set.contains s q ≡ true → set.contains (set.insert s k) q ≡ true
file_still s k q there = contains-insert nat_cmp_total s k q ∙ ap (λ b. eq_by_cmp nat_cmp q k || b) there ∙ always (eq_by_cmp nat_cmp q k)
  where
    always : (a : Bool) → (a || true) ≡ true
    always true = refl
    always false = refl

-- what was taken out of a set isn't in it
pub taken : (s : Pairs) (k : ℕ × ℕ) → set.contains (set.remove s k) k ≡ false
taken s k = contains-remove pair_cmp_total s k k ∙ ap (λ b. not b && set.contains s k) (tied k)
