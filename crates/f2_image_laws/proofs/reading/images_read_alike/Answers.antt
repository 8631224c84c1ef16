use Rattle.f2_image_laws.proofs.ReadingBases.{read_alike}
use Rattle.f2_image_laws.proofs.reading.images_read_alike.Goals as goal

pub returns : goal.returns
returns c = read_alike
