use Rattle.f2_recover_laws.proofs.LikeRows.{alike}
use Rattle.f2_recover_laws.proofs.sound.rows_are_alike.Goals as goal

pub returns : goal.returns
returns c = λ image ckpt walk tree read base. alike image ckpt walk read.walked tree base
