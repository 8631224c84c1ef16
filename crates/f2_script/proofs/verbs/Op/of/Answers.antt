use Rattle.std.proofs.Common.{◌≢◌, ◌∙◌, sym}
use Rattle.f2_script.specs.Verbs.{op_word}
use Rattle.f2_script.proofs.WordLemmas.{differs, tested_more}
use Rattle.f2_script.proofs.verbs.Op.of.Goals as goal

pub loop-op-preserved : goal.loop-op-preserved
loop-op-preserved c =
    tested_more (λ one. c.args.word.now ≢ op_word one) _ c.loop-op.op-index _ c.loop-op-test.true c.loop-op.invariant
    (λ same. differs c.word.result.now c.args.word.now c.eq.result c.eq.ensures c.if-eq.false (c.word.ensures ∙ sym same))
