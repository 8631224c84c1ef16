-- What changes of a set do to its members and their number, for the tests.
use Rattle.std.specs.FinSet.{members}

pub ruleset sets = (members)
