use Rattle.std.proofs.Common.{false, ◌≡◌, ◌+◌, length, arith}
use Rattle.f2_script.specs.Grammar.{lines_of}
use Rattle.f2_script.proofs.ScriptLaws.{no_fault, one_fault}
use Rattle.f2_script.proofs.laws.one_fault.Goals as goal

pub returns : goal.returns
returns c = record {
  none = λ grammar bytes lines n h k. no_fault grammar false (lines_of bytes) lines k.0 h k.2;
  one = λ grammar bytes m n h k.
      let e : length h.0 ≡ length k.0 = one_fault grammar false (lines_of bytes) h.0 k.0 h.2 k.2 in
      let f : m ≡ length h.0 + 1 = h.1 in
      let g : n ≡ length k.0 + 1 = k.1 in
      omega arith;
}
