use Rattle.f2_model.proofs.MapViews.{seen-insert, lookup-seen}
use Rattle.f2_plain_read.proofs.Telling.{none_is, some_isnt}
use Rattle.f2_plain_read.proofs.names.Names.bind.Goals as goal

pub returns-clause-bound : goal.returns-clause-bound
returns-clause-bound c = seen-insert _ _ c.self.view_is _ c.args.ino c.args.bound c.in_ok-insert.ensures.updates.0

pub returns-clause-fresh : goal.returns-clause-fresh
returns-clause-fresh c = none_is _ _ c.if-contains_key.ensures (lookup-seen _ _ c.self.view_is c.args.ino)

pub returns-then-contains_key-clause-bad : goal.returns-then-contains_key-clause-bad
returns-then-contains_key-clause-bad c e = some_isnt _ _ c.if-contains_key.ensures (lookup-seen _ _ c.self.view_is c.args.ino)
