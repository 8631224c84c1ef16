use Rattle.f2_laws.proofs.choice.choices_decide.Goals as goal
use Rattle.f2_laws.proofs.SameTurns.{choices_decide_turns}

pub returns : goal.returns
returns c = choices_decide_turns
