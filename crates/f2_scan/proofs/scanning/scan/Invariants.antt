use Rattle.std.proofs.Common.{◌≡◌, ◌≢◌, length}
use Rattle.std.specs.Prelude.{All, IsTrue}
use Rattle.std.specs.Option.{IfSome}
use Rattle.f2_disk.specs.Contents.{latest}
use Rattle.f2_disk.specs.Using.{OnlyReads}
use Rattle.f2_format.specs.Geometry.{is_in_node}
use Rattle.f2_scan.specs.Logs.{IsRight}
use Rattle.f2_scan.proofs.Walks.{IsWalked}
use Rattle.f2_scan.proofs.scanning.scan.Given as goal

abbrev pub invariant-loop : goal.invariant-loop
invariant-loop g l = record {
  reads : OnlyReads g.D.Disk.contents g.D.Disk.meter l.initial.disk l.disk;
  count : length l.log.items ≡ l.counter;
  next : l.at ≢ 0 → IsTrue (is_in_node l.g l.at);
  within : All (λ logged. IsTrue (is_in_node l.g logged.at)) l.log.items;
  right : All (IsRight l.g) l.log.items;
  walked : IfSome (g.D.Disk.contents l.initial.disk) (λ lists. IsWalked (latest lists) l.version l.start l.log.items l.at);
}
