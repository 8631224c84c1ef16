-- What a reader answers.
use Rattle.std.specs.Prelude.{◌≡◌, Result, Ok, Err, List}
use Rattle.f2_script.specs.declared.script.Line.{Line}
use Rattle.f2_script.specs.declared.script.ScriptFault.{ScriptFault}
use Rattle.f2_script.specs.declared.script.ScriptFault.TheVariants as fault

-- this is the answer, unless memory was refused
abbrev pub UnlessMemory : Result (List Line) ScriptFault → Result (List Line) ScriptFault → Type 0
UnlessMemory (Err fault.Memory) expected = Unit {0}
UnlessMemory (Err fault.TooLong) expected = Err fault.TooLong ≡ expected
UnlessMemory (Err (fault.Line n)) expected = Err (fault.Line n) ≡ expected
UnlessMemory (Ok lines) expected = Ok lines ≡ expected
