use Rattle.std.proofs.Common.{◌<◌, ◌≤◌, length, below_more, inr, arith, subst}
use Rattle.f2_recover.proofs.JournalNids.{there_counted}
use Rattle.f2_recover.proofs.journals.check_nids.Goals as goal

pub loop-nid-preserved : goal.loop-nid-preserved
loop-nid-preserved c = below_more _ _ c.loop-nid.invariant (c.if-nid-limit.false, subst (λ n. n ≤ 1) c.count_of.ensures c.if-count_of-gt1.false)

pub returns-then-nid-limit-clause-wrong : goal.returns-then-nid-limit-clause-wrong
returns-then-nid-limit-clause-wrong c =
    let small : c.loop-nid.nid-index < length c.args.nids.now = omega arith in
    inr (there_counted c.args.nids.now c.loop-nid.nid-index small, c.if-nid-limit.true)
