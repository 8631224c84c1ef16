use Rattle.f2_place_laws.proofs.ReadPages.{places}
use Rattle.f2_place_laws.proofs.ReadTree.{base_stands}
use Rattle.f2_place_laws.proofs.converse.sound_images_have_places.Goals as goal

pub returns : goal.returns
returns c image ckpt base marks means = (places image ckpt means.sound base means.is_base, base_stands image ckpt means.sound base means.is_base)
