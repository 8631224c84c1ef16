use Rattle.std.proofs.Common.{◌≢◌, take}
use Rattle.std.specs.List.{AllByRecursion}
use Rattle.f2_script.specs.Verbs.{op_word}
use Rattle.f2_script.proofs.verbs.Op.of.Given as goal

abbrev pub invariant-loop-op : goal.invariant-loop-op
invariant-loop-op l = AllByRecursion (λ op. l.word ≢ op_word op) (take l.op-index l.op-items)
