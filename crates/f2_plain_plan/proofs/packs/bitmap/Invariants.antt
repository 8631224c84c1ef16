use Rattle.std.proofs.Common.{◌≡◌, ℕ, ◌<◌, ◌≤◌, true, false}
use Rattle.f2_format.specs.Nat.{is_second_copy}
use Rattle.f2_plain_plan.proofs.packs.bitmap.Given as goal

abbrev pub invariant-loop-block : goal.invariant-loop-block
invariant-loop-block l =
    ((table : ℕ) → table < l.block → is_second_copy l.bitmap table ≡ true) × ((table : ℕ) → l.block ≤ table → is_second_copy l.bitmap table ≡ false)
