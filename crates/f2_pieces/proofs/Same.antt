-- Equal numbers, as maps test them.
use Rattle.std.proofs.Common.{◌≡◌, ℕ, Bool, true, sym, ap, ◌∙◌}
use Rattle.std.specs.Ordering.{nat_cmp, eq_by_cmp, is_eq}
use Rattle.std.specs.Cmp.{nat_cmp_total, unsigned_tied, tied_itself}
use Rattle.std.proofs.lemmas.Bool.{eqb-true}

-- whether two numbers are equal, as maps test it
abbrev pub is_same : ℕ → ℕ → Bool
is_same a b = eq_by_cmp nat_cmp a b

pub same_number : (a b : ℕ) → is_same a b ≡ true → a ≡ b
same_number a b t = eqb-true a b (sym (unsigned_tied a b) ∙ t)

pub same_itself : (a : ℕ) → is_same a a ≡ true
same_itself a = ap is_eq (tied_itself nat_cmp_total a)
