use Rattle.f2_image.proofs.SomeBase.{some_base}
use Rattle.f2_image.proofs.SomeMarks.{some_marks}
use Rattle.f2_image.proofs.laws.sound_images_mean.Goals as goal

pub returns : goal.returns
returns c = λ image ckpt is sound.
    let base = some_base image ckpt sound in
    let marks = some_marks image ckpt sound base.0 base.1 in
    (base.0, (marks.0, record { checkpoint = is; sound = sound; is_base = base.1; are_marks = marks.1 }))
