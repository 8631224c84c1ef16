use Rattle.f2_place_laws.proofs.Stood.{IsStood}
use Rattle.f2_place_laws.proofs.Base.{is_base}
use Rattle.f2_place_laws.proofs.NoLog.{no_marks}
use Rattle.f2_place_laws.proofs.Sound.{sound}
use Rattle.f2_place_laws.proofs.meaning.trees_at_places_mean.Goals as goal

pub returns : goal.returns
returns c image ckpt tree places checkpoint none proper stands =
    let is : IsStood image ckpt tree places = record { none = none; proper = proper; stands = stands } in
    record { checkpoint = checkpoint; sound = sound image ckpt tree places is; is_base = is_base image ckpt tree places is; are_marks = no_marks image ckpt none tree }
