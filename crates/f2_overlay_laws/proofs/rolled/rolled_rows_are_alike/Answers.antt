use Rattle.f2_overlay_laws.proofs.RolledRows.{rolled_alike}
use Rattle.f2_overlay_laws.proofs.rolled.rolled_rows_are_alike.Goals as goal

pub returns : goal.returns
returns c = λ image ckpt walk rolls base marks read right are is_base are_marks ino. rolled_alike image ckpt walk rolls base marks read right are is_base are_marks ino
