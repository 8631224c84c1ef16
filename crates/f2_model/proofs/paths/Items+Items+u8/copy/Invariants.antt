use Rattle.std.proofs.Common.{◌≡◌, take}
use Rattle.f2_model.proofs.paths.Items+Items+u8.copy.Given as goal

abbrev pub invariant-loop-name : goal.invariant-loop-name
invariant-loop-name l = l.path ≡ take l.name-index l.self
