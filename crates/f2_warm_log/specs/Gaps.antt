-- What a log keeps to find the first gap without a walk.
use Rattle.std.specs.Prelude.{◌≡◌, ℕ, ◌<◌, ◌≤◌, false, List, length, Some}
use Rattle.f2_warm_log.specs.declared.positions.Position.{Position}
use Rattle.f2_warm_log.specs.Log.{NodeLog, IsNodeLog, IsSubmittedBelow, submitted_at}

-- the least position that isn't submitted, or the number of positions where there is none
pub record IsLowestOpen (positions : List Position) (gap : ℕ) : Type 0 where
  pub below : IsSubmittedBelow positions gap
  pub bound : gap ≤ length positions
  pub waits : gap < length positions → submitted_at positions gap ≡ Some false

-- what the parts of a log keep
pub record IsLog (log : NodeLog) (gap places : ℕ) : Type 0 where
  pub is_log : IsNodeLog log
  pub lowest : IsLowestOpen log.positions gap
  pub places_enough : log.room ≤ places
