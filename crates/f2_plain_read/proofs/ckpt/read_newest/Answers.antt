use Rattle.std.proofs.Common.{sym}
use Rattle.f2_image.specs.Images.{Image}
use Rattle.f2_pack.specs.Packs.{IsPackOf}
use Rattle.f2_pack.specs.declared.packs.Side.TheVariants.{A, B}
use Rattle.f2_plain_read.proofs.Newest.{newest_pack, no_pack}
use Rattle.f2_plain_read.proofs.Telling.{told, tells_on}
use Rattle.f2_plain_read.proofs.ckpt.read_newest.Goals as goal

pub returns-in-Ok-clause-newest : goal.returns-in-Ok-clause-newest
returns-in-Ok-clause-newest g c image t =
    newest_pack c.args.geometry.now image c.in_ok-a.a c.in_ok-b.b c.in-Ok.found.0 c.in-Ok.found.1
    (told _ (λ (image : Image). IsPackOf c.args.geometry.now image A c.in_ok-a.a) c.in_ok-a.ensures.pack image t)
    (told _ (λ (image : Image). IsPackOf c.args.geometry.now image B c.in_ok-b.b) c.in_ok-b.ensures.pack image (tells_on _ _ image c.in_ok-a.ensures.reads.kept t))
    c.in-Ok.ensures

pub returns-in-Err-clause-bad : goal.returns-in-Err-clause-bad
returns-in-Err-clause-bad g c e image t =
    no_pack c.args.geometry.now image c.in_ok-a.a c.in_ok-b.b
    (told _ (λ (image : Image). IsPackOf c.args.geometry.now image A c.in_ok-a.a) c.in_ok-a.ensures.pack image t)
    (told _ (λ (image : Image). IsPackOf c.args.geometry.now image B c.in_ok-b.b) c.in_ok-b.ensures.pack image (tells_on _ _ image c.in_ok-a.ensures.reads.kept t))
    (sym c.in-Err.ensures)
