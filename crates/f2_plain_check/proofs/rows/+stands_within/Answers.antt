use Rattle.std.proofs.Common.{sym, arith}
use Rattle.f2_plain_check.proofs.Depths.{within_up}
use Rattle.f2_plain_check.proofs.rows.+stands_within.Goals as goal

pub returns-in-Some : goal.returns-in-Some
returns-in-Some t c = within_up c.args.tree.now c.args.most c.args.ino c.in-Some.row.now (omega arith) c.if-ino-eq-ROOT.false (sym (c.in-Some.ensures)) c.stands_within.result c.stands_within.ensures
