use Rattle.std.proofs.Common.{◌≢◌, ◌∙◌, sym}
use Rattle.f2_script.specs.Verbs.{verb_word}
use Rattle.f2_script.proofs.WordLemmas.{differs, tested_more}
use Rattle.f2_script.proofs.verbs.Verb.of.Goals as goal

pub loop-verb-preserved : goal.loop-verb-preserved
loop-verb-preserved c =
    tested_more (λ one. c.args.word.now ≢ verb_word one) _ c.loop-verb.verb-index _ c.loop-verb-test.true c.loop-verb.invariant
    (λ same. differs c.word.result.now c.args.word.now c.eq.result c.eq.ensures c.if-eq.false (c.word.ensures ∙ sym same))
