use Rattle.std.proofs.Common.{sym, ◌∙◌}
use Rattle.f2_top.proofs.PutLemmas.{Puts-err, Puts-ok}
use Rattle.f2_top.proofs.CoreLemmas.{counts-on}
use Rattle.f2_top.proofs.MountLemmas.{mkfs-fails, mkfs-goes}
use Rattle.f2_top.proofs.player.play_image.Goals as goal

pub returns-then-is_err-clause-ends : goal.returns-then-is_err-clause-ends
returns-then-is_err-clause-ends g c =
    λ counts.
    mkfs-fails _ _ c.in-Ok.core _ _ _ _ c.requires.sizes (c.in-Ok.ensures.mounted counts) (c.as_slice.ensures.value ∙ c.in-Ok-mkfs_line.ensures)
    (Puts-err _ _ _ _ (sym c.is_err.ensures.value ∙ c.if-is_err.true) c.put.ensures.bytes)

pub returns-clause-ends : goal.returns-clause-ends
returns-clause-ends g c =
    λ counts.
    mkfs-goes _ _ _ c.in-Ok.core _ _ _ _ _ _ c.requires.sizes (c.in-Ok.ensures.mounted counts) (c.as_slice.ensures.value ∙ c.in-Ok-mkfs_line.ensures)
    (Puts-ok _ _ _ _ (sym c.is_err.ensures.value ∙ c.if-is_err.false) c.put.ensures.bytes) (c.play_lines.ensures.ends (counts-on _ _ c.in-Ok.ensures.calm counts))
