use Rattle.std.proofs.Common.{arith}
use Rattle.f2_format.specs.Packing.{nothing_packed}
use Rattle.f2_format.proofs.PackingLemmas.{sublist_no_further}
use Rattle.f2_format.proofs.sublist_reaches_no_further.Goals as goal

pub returns : goal.returns
returns c few all sublist = sublist_no_further nothing_packed nothing_packed sublist record { blocks = omega arith; slots = λ _. omega arith }
