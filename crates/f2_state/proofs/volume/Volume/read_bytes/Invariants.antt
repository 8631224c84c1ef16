use Rattle.std.proofs.Common.{◌≡◌, ◌*◌}
use Rattle.std.specs.Prelude.{min, max}
use Rattle.f2_model.specs.Content.{PAGE, bytes_between}
use Rattle.f2_state.specs.Looks.{HasOfFile, OnlyLooks}
use Rattle.f2_state.proofs.volume.Volume.read_bytes.Given as goal

-- the bytes as far as the page
abbrev pub invariant-loop-page : goal.invariant-loop-page
invariant-loop-page g l = record {
  looks : OnlyLooks g.D.Disk.contents g.D.Disk.meter l.initial.self l.self;
  content : HasOfFile (g.D.Disk.contents l.initial.self.disk) l.initial.self l.ino (λ row. l.bytes ≡ bytes_between row.pages l.from (min l.to (max l.from (l.page * PAGE))));
}
