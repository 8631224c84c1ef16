-- A node log and its zone, as the tests hold them.
use Rattle.std.specs.Prelude.{◌≡◌, ◌≤◌}
use Rattle.f2_space.specs.Space.{Space}
use Rattle.f2_warm_log.specs.Log.{NodeLog, IsInStep}

-- what a reserve asks of both
pub record IsReady (zone : Space) (log : NodeLog) : Type 0 where
  pub room : log.room ≡ zone.c
  pub in_step : IsInStep zone log
  pub kept : zone.kept ≤ zone.c
