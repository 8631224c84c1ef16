use Rattle.std.proofs.Common.{subst}
use Rattle.f2_format.specs.Geometry.{ImageGeometry}
use Rattle.f2_top.specs.Making.{IsMade}
use Rattle.f2_top.proofs.ReplayLemmas.{IsReplayed-of}
use Rattle.f2_top.proofs.DueLemmas.{DueTaken-finished}
use Rattle.f2_top.proofs.MakingLemmas.{sizes, one_geom}
use Rattle.f2_top.proofs.commands.run_plain.Goals as goal

pub returns-clause-replayed : goal.returns-clause-replayed
returns-clause-replayed g c = λ _. λ counts. IsReplayed-of _ _ _ _ _ _ _ _ (c.replay-status.ensures.ran counts) c.finish-2.ensures.finished

pub returns-clause-due : goal.returns-clause-due
returns-clause-due g c = λ _. DueTaken-finished _ _ _ _ _ _ c.replay-status.ensures.due c.finish-2.ensures.finished

pub returns-in-Some-clause-makes : goal.returns-in-Some-clause-makes
returns-in-Some-clause-makes g c = λ geom asks.
    subst (λ (e : ImageGeometry). IsMade e (g.D.Disk.contents c.args.disk) (g.D.Disk.contents c.mkfs-status.new.disk) (g.D.Disk.meter c.args.disk) (g.D.Disk.meter c.mkfs-status.new.disk)
    (g.K.Sink.written c.args.sink.now) (g.K.Sink.written c.mkfs-status.new.sink) c.mkfs-status.result)
    (one_geom _ (sizes c.in-Some.asked.blocks c.in-Some.asked.nat) geom c.in-Some.ensures asks) c.mkfs-status.ensures.made

pub returns-then-not-is_replay-clause-makes : goal.returns-then-not-is_replay-clause-makes
returns-then-not-is_replay-clause-makes g c = λ geom asks. absurd (c.in_default.ensures geom asks)
