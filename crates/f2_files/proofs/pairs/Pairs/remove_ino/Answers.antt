use Rattle.std.proofs.Common.{◌<◌, ap, sym, subst, ◌∙◌}
use Rattle.std.specs.FinSet as set
use Rattle.f2_model.specs.State.{Pairs, without_ino}
use Rattle.f2_files.proofs.PairSets.{least_there, none_left, one_out, fewer}
use Rattle.f2_files.proofs.pairs.Pairs.remove_ino.Goals as goal

pub loop-number-smaller : goal.loop-number-smaller
loop-number-smaller c =
    let there = least_there c.args.ino c.loop-number.self c.in-Some.number (sym c.least_of.ensures ∙ c.in-Some.is) in
    subst (λ (s : Pairs). set.len s < set.len c.loop-number.self) (sym c.remove.ensures) (fewer c.args.ino c.loop-number.self c.in-Some.number there)

pub loop-number-preserved : goal.loop-number-preserved
loop-number-preserved c = ap (without_ino c.args.ino) c.remove.ensures ∙ one_out c.args.ino c.loop-number.self c.in-Some.number ∙ c.loop-number.invariant

pub returns : goal.returns
returns c = sym (none_left c.args.ino c.loop-number.self (sym c.least_of.ensures ∙ c.in_default.is)) ∙ c.loop-number.invariant
