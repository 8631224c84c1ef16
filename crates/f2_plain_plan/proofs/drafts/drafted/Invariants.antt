use Rattle.std.proofs.Common.{take}
use Rattle.f2_plain_plan.specs.Directories.{rows_at}
use Rattle.f2_plain_plan.proofs.DraftSteps.{SoFar}
use Rattle.f2_plain_plan.proofs.drafts.drafted.Given as goal

abbrev pub invariant-loop-row : goal.invariant-loop-row
invariant-loop-row l = SoFar l.tree l.initial.draft (take l.row-index (rows_at l.row-items)) l.draft
