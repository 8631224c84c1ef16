use Rattle.f2_script.proofs.ScriptLaws.{gives_lines, gives_fault}
use Rattle.f2_script.proofs.grammar.parse.Goals as goal

pub returns-clause-read : goal.returns-clause-read
returns-clause-read c = λ lines short h.
    gives_lines c.read_lines.result c.args.grammar c.args.bytes.now lines c.read_lines.ensures.ok c.read_lines.ensures.too_long c.read_lines.ensures.line h

pub returns-clause-fault : goal.returns-clause-fault
returns-clause-fault c = λ n short h.
    gives_fault c.read_lines.result c.args.grammar c.args.bytes.now n c.read_lines.ensures.ok c.read_lines.ensures.too_long c.read_lines.ensures.line h
