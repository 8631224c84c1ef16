use Rattle.std.proofs.Common.{◌≢◌, take}
use Rattle.std.specs.List.{AllByRecursion}
use Rattle.f2_script.specs.Verbs.{verb_word}
use Rattle.f2_script.proofs.verbs.Verb.of.Given as goal

abbrev pub invariant-loop-verb : goal.invariant-loop-verb
invariant-loop-verb l = AllByRecursion (λ verb. l.word ≢ verb_word verb) (take l.verb-index l.verb-items)
