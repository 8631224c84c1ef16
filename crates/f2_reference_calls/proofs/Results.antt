-- What holds of the value in an `Ok`.
use Rattle.std.proofs.Common.{Result, Ok, Err, IfOk}

pub ok_after : {A E : Type 0} {P Q : A → Type 0} (result : Result A E) → ((value : A) → P value → Q value) → IfOk result P → IfOk result Q
ok_after (Ok value) next h = next value h
ok_after (Err error) next h = h
