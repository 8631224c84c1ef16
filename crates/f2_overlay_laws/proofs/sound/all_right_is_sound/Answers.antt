use Rattle.f2_overlay_laws.proofs.AllRight.{all_right}
use Rattle.f2_overlay_laws.proofs.sound.all_right_is_sound.Goals as goal

pub returns : goal.returns
returns c = λ image ckpt walk is_point read log nids apart marks pages room. all_right image ckpt walk read log nids apart marks pages room
