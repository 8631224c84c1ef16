use Rattle.std.proofs.Common.{◌≡◌, ◌+◌, length, arith}
use Rattle.f2_script.proofs.Reading.{reads_end, reads_fault}
use Rattle.f2_script.proofs.grammar.read_lines.Goals as goal

pub returns-in_default-2-clause-line : goal.returns-in_default-2-clause-line
returns-in_default-2-clause-line c = λ n e.
    let f = reads_fault c.args.grammar c.args.bytes.now c.loop-text.lines c.loop-text.begun c.loop-text.left.now c.in-Some.text.now c.in-Some.rest.now
    c.loop-text.invariant c.in-Some.ensures.line (rw c.in_default-2.is at c.in_ok-line.ensures) in
    let same : n ≡ c.len.result + 1 = cc in
    let counted : c.len.result ≡ length c.loop-text.lines = c.len.ensures in
    let last = f.1 in
    (f.0, omega arith, f.2)

pub returns-clause-ok : goal.returns-clause-ok
returns-clause-ok c =
    reads_end c.args.grammar c.args.bytes.now c.loop-text.lines c.loop-text.begun c.loop-text.left.now c.loop-text.invariant c.in_default.ensures.line
