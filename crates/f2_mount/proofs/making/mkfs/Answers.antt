use Rattle.f2_disk.proofs.ContentsLaws.{told_weaker}
use Rattle.f2_plain_save.specs.Saves.{IsMade}
use Rattle.f2_mount.specs.Making.{HasNewImage}
use Rattle.f2_mount.proofs.Made.{has_new}
use Rattle.f2_mount.proofs.making.mkfs.Goals as goal

pub returns-clause-made : goal.returns-clause-made
returns-clause-made g c =
    let stored = c.in_ok-mkfs.field-0 in
    told_weaker (g.D.Disk.contents c.args.disk.now) (g.D.Disk.contents c.mkfs.new.disk) (IsMade stored) (HasNewImage c.args.geometry.now)
    (has_new c.args.geometry.now stored c.in_ok-mkfs.ensures.geometry c.in_ok-mkfs.ensures.version) c.in_ok-mkfs.ensures.made
