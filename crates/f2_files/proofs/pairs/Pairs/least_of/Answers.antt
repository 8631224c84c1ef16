use Rattle.std.proofs.Common.{sym, ◌∙◌}
use Rattle.f2_model.specs.Rising.{rising}
use Rattle.f2_model.proofs.RisingLemmas.{rises}
use Rattle.f2_files.proofs.PairOrder.{least_none, least_some, least_other}
use Rattle.f2_files.proofs.pairs.Pairs.least_of.Goals as goal

pub returns-in_err-pair : goal.returns-in_err-pair
returns-in_err-pair c = c.from_residual.ensures ∙ least_none c.args.ino (rising c.args.self.now) (rises c.args.self.now) (sym c.first_from.ensures ∙ c.in_err-pair.was)

pub returns-then-pair-ino : goal.returns-then-pair-ino
returns-then-pair-ino c = least_some c.args.ino (rising c.args.self.now) (rises c.args.self.now) c.in_ok-pair.pair (sym c.first_from.ensures ∙ c.in_ok-pair.was) c.if-pair-ino.true

pub returns-else-pair-ino : goal.returns-else-pair-ino
returns-else-pair-ino c = least_other c.args.ino (rising c.args.self.now) (rises c.args.self.now) c.in_ok-pair.pair (sym c.first_from.ensures ∙ c.in_ok-pair.was) c.if-pair-ino.false
