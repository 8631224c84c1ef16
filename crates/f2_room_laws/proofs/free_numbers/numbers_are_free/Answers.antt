use Rattle.f2_room_laws.proofs.free_numbers.numbers_are_free.Goals as goal
use Rattle.f2_room_laws.proofs.Numbers.{within_limits, free_numbers}

pub returns-clause-within : goal.returns-clause-within
returns-clause-within c = within_limits

pub returns-clause-free : goal.returns-clause-free
returns-clause-free c = free_numbers
