-- Laws of what calls of a disk do to its numbers, for callers that make several of them.
use Rattle.std.proofs.Common.{◌≡◌, ℕ, ◌+◌, ◌≤◌, false, refl, arith}
use Rattle.f2_disk.specs.Meter.{Meter, HasFailed, IsWithin}

-- no call
pub within_none : (old : Meter) → IsWithin 0 old old
within_none old =
    record { same_blocks = refl; later = omega arith; not_stopped = λ h. h; room = omega arith; no_fault = λ _ _. omega arith }

-- what makes at most m writes makes at most n of them, where n isn't less
pub within_more : (m n : ℕ) (old new : Meter) → IsWithin m old new → m ≤ n → IsWithin n old new
within_more m n old new within more =
    record {
      same_blocks = within.same_blocks;
      later = within.later;
      not_stopped = within.not_stopped;
      room = omega arith;
      no_fault = λ calm room. within.no_fault calm (omega arith);
    }

-- one run of calls, and then another: their writes add up
pub within_then : (m n : ℕ) (old mid new : Meter) → IsWithin m old mid → IsWithin n mid new → IsWithin (m + n) old new
within_then m n old mid new first second =
    record {
      same_blocks = omega (arith, first.same_blocks, second.same_blocks);
      later = omega arith;
      not_stopped = λ calm. second.not_stopped (first.not_stopped calm);
      room = omega arith;
      no_fault = λ calm room.
          let front : mid.left + mid.faults ≤ old.left + old.faults = first.no_fault calm (omega arith) in
          let back : new.left + new.faults ≤ mid.left + mid.faults = second.no_fault (first.not_stopped calm) (omega arith) in
          omega (arith, front, back);
    }

-- a failure in the second of two runs is one of both
pub failed_later : (m : ℕ) (old mid new : Meter) → IsWithin m old mid → HasFailed mid new → HasFailed old new
failed_later m old mid new first failed = omega (arith, first.later, failed)

-- a failure in the first of two runs is one of both
pub failed_earlier : (n : ℕ) (old mid new : Meter) → HasFailed old mid → IsWithin n mid new → HasFailed old new
failed_earlier n old mid new failed second = omega (arith, second.later, failed)

-- with nothing planned and room for their writes, calls meet no fault
pub no_failure : (m : ℕ) (old new : Meter) → IsWithin m old new → old.stopped ≡ false → old.left ≡ 0 → m ≤ old.spare
    → new.faults ≡ old.faults
no_failure m old new within calm none room =
    let sum : new.left + new.faults ≤ old.left + old.faults = within.no_fault calm room in
    omega (arith, sum, within.later, none)
