use Rattle.std.proofs.Common.{◌≡◌, ◌&&◌, ◌+◌, ◌*◌}
use Rattle.std.specs.FinMap as map
use Rattle.std.specs.List.{list_any}
use Rattle.f2_model.specs.Tree.{is_directory}
use Rattle.f2_files.specs.Led.{Place, reaches}
use Rattle.f2_files.proofs.directories.Directories.+reaching.Given as goal

abbrev pub decreases-any_reaches : goal.decreases-any_reaches
decreases-any_reaches l = 2 * l.steps + 1

abbrev pub decreases-reaches : goal.decreases-reaches
decreases-reaches l = 2 * l.steps

-- one of the names that are left passes exactly where one of all does
abbrev pub invariant-any_reaches-loop-place : goal.invariant-any_reaches-loop-place
invariant-any_reaches-loop-place l =
    list_any (λ (place : Place). is_directory place.1 && reaches l.self l.steps place.0) l.place-iterator ≡ list_any (λ (place : Place). is_directory place.1 && reaches l.self l.steps place.0) (map.values l.names)
