use Rattle.f2_script.proofs.RequestLemmas.{call_none}
use Rattle.f2_script.proofs.requests.call_of.Goals as goal

pub returns-in_default-2 : goal.returns-in_default-2
returns-in_default-2 c =
    call_none c.args.op _ c.in_default.not-Write c.in_default.not-Truncate c.in_default.not-Rename c.in_default.not-Read c.in_default.not-Sync
    (rw c.in_default-2.is at c.in_ok-path-in_default.ensures)
