-- What tests of numbers tell.
use Rattle.std.proofs.Common.{◌≡◌, ◌≢◌, ℕ, ◌<◌, ◌≤◌, ◌==◌, true, false, arith}

pub same_of : (m n : ℕ) → (m == n) ≡ true → m ≡ n
same_of m n e = grind (arith, e)

pub differ_of : (m n : ℕ) → (m == n) ≡ false → m ≢ n
differ_of m n e same = grind (arith, e, same)

pub test_same : (m n : ℕ) → m ≡ n → (m == n) ≡ true
test_same m n same = grind (arith, same)

pub test_differs : (m n : ℕ) → m ≢ n → (m == n) ≡ false
test_differs m n differ = grind (arith, differ)

pub not_less : (m n : ℕ) → ¬ (m < n) → n ≤ m
not_less m n large = omega (arith, large)
