-- The flag of a footer, taken apart and put together.
use Rattle.std.proofs.Common.{◌≡◌, ◌≢◌, ℕ, zero, suc, ◌*◌, ◌^◌, ◌<◌, Bool, true, false, not, eqb, refl, arith}
use Rattle.std.specs.Prelude.{bit_and}
use Rattle.std.specs.Int.{bit_at}
use Rattle.std.proofs.lemmas.Nat.Bits.{and_pow, bit_at-lt}
use Rattle.std.proofs.Math.Nat.{one-le-pow}
use Rattle.std.proofs.lemmas.Bool.Decides.{nat_tests}
use Rattle.f2_format.specs.Footer.{flag_has, flag_of, flag_offset}

-- a bit times a power is above 0 where the bit is 1
tested : (x b p : ℕ) → x ≡ b * p → b < 2 → 0 < p → not (eqb x 0) ≡ eqb b 1
tested x zero p is small power = let none : x ≡ 0 = omega arith in rw none refl
tested x (suc zero) p is small power = let some : x ≢ 0 = omega arith in grind (arith, nat_tests)
tested x (suc (suc b)) p is small power = absurd (omega arith)

-- what a program tests to see whether a bit is 1
pub flag_has-test : (flag bit : ℕ) → not (eqb (bit_and flag (2 ^ bit)) 0) ≡ flag_has flag bit
flag_has-test flag bit =
    let power = one-le-pow bit 2 (omega arith) in
    tested (bit_and flag (2 ^ bit)) (bit_at flag bit) (2 ^ bit) (and_pow flag bit) (bit_at-lt flag bit) (omega arith)

-- a flag gives its parts back
pub flag_offset-flag_of : (offset : ℕ) (fsync dentry : Bool) → flag_offset (flag_of offset fsync dentry) ≡ offset
flag_offset-flag_of offset true true = omega arith
flag_offset-flag_of offset true false = omega arith
flag_offset-flag_of offset false true = omega arith
flag_offset-flag_of offset false false = omega arith

pub flag_has-fsync : (offset : ℕ) (fsync dentry : Bool) → flag_has (flag_of offset fsync dentry) 1 ≡ fsync
flag_has-fsync offset true true = grind (arith, nat_tests)
flag_has-fsync offset true false = grind (arith, nat_tests)
flag_has-fsync offset false true = grind (arith, nat_tests)
flag_has-fsync offset false false = grind (arith, nat_tests)

pub flag_has-dentry : (offset : ℕ) (fsync dentry : Bool) → flag_has (flag_of offset fsync dentry) 2 ≡ dentry
flag_has-dentry offset true true = grind (arith, nat_tests)
flag_has-dentry offset true false = grind (arith, nat_tests)
flag_has-dentry offset false true = grind (arith, nat_tests)
flag_has-dentry offset false false = grind (arith, nat_tests)

-- a flag fits its four bytes
pub flag_of-lt : (offset : ℕ) (fsync dentry : Bool) → offset < 2 ^ 29 → flag_of offset fsync dentry < 2 ^ 32
flag_of-lt offset true true h = omega arith
flag_of-lt offset true false h = omega arith
flag_of-lt offset false true h = omega arith
flag_of-lt offset false false h = omega arith
