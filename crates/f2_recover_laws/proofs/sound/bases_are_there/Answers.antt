use Rattle.f2_recover_laws.proofs.ReadBase.{read_base}
use Rattle.f2_recover_laws.proofs.sound.bases_are_there.Goals as goal

pub returns : goal.returns
returns c = λ image ckpt walk read. read_base image ckpt walk read.walked
