-- Laws of what calls of a disk do, for callers that make several of them.
use Rattle.std.proofs.Common.{ℕ, ◌+◌, refl, ◌∙◌}
use Rattle.std.specs.Prelude.{Option}
use Rattle.f2_disk.specs.Contents.{Contents}
use Rattle.f2_disk.specs.Meter.{Meter}
use Rattle.f2_disk.specs.Using.{OnlyReads, WritesAtMost, HasAsMany}
use Rattle.f2_disk.proofs.ContentsLaws.{told_then}
use Rattle.f2_disk.proofs.MeterLaws.{within_none, within_then}

-- no call
pub reads_none : {D : Type 0} (contents : D → Option Contents) (meter : D → Meter) (old : D) → OnlyReads contents meter old old
reads_none contents meter old = record { kept = refl; within = within_none (meter old) }

-- one run of calls after another
pub reads_then : {D : Type 0} (contents : D → Option Contents) (meter : D → Meter) (old mid new : D) → OnlyReads contents meter old mid → OnlyReads contents meter mid new → OnlyReads contents meter old new
reads_then contents meter old mid new first second =
    record { kept = second.kept ∙ first.kept; within = within_then 0 0 (meter old) (meter mid) (meter new) first.within second.within }

-- one run of writes after another: their writes add up
pub writes_then : {D : Type 0} (m n : ℕ) (contents : D → Option Contents) (meter : D → Meter) (old mid new : D)
    → WritesAtMost m contents meter old mid → WritesAtMost n contents meter mid new → WritesAtMost (m + n) contents meter old new
writes_then m n contents meter old mid new first second =
    record {
      told = told_then (contents old) (contents mid) (contents new) HasAsMany HasAsMany HasAsMany (λ a b c front back. back ∙ front) first.told second.told;
      within = within_then m n (meter old) (meter mid) (meter new) first.within second.within;
    }
