use Rattle.std.proofs.Common.{sym, ◌∙◌}
use Rattle.f2_found.proofs.NameSteps.{put_name, put_none}
use Rattle.f2_found.proofs.naming.add_name.Goals as goal

pub returns-in_ok-put-2 : goal.returns-in_ok-put-2
returns-in_ok-put-2 c =
    put_name c.args.names.now c.take.new.self c.put-in-Some.new.self c.args.directory c.args.name c.args.ino c.in-Some.known c.put.new.self (sym c.take.ensures.taken ∙ c.in-Some.is) c.take.ensures.left c.in_ok-put.ensures.ok c.in_ok-put-2.ensures.ok

pub returns-in_default : goal.returns-in_default
returns-in_default c = put_none c.args.names.now c.take.new.self c.args.directory c.args.name c.args.ino (sym c.take.ensures.taken ∙ c.in_default.is) c.take.ensures.left
