use Rattle.std.proofs.Common.{sym, subst}
use Rattle.f2_laid.specs.Laid.{IsStorable}
use Rattle.f2_laid_laws.proofs.Base.{IsStored, is_base}
use Rattle.f2_laid_laws.proofs.NoLog.{no_marks}
use Rattle.f2_laid_laws.proofs.Sound.{sound, clean}
use Rattle.f2_laid_laws.proofs.laws.laid_images_mean.Goals as goal

pub returns : goal.returns
returns c image ckpt tree stored can laid =
    let is : IsStored image ckpt tree stored = record { can = subst (λ geom. IsStorable geom tree) (sym laid.geom) can; laid = laid } in (
      record { checkpoint = laid.checkpoint; sound = sound image ckpt tree stored is; is_base = is_base image ckpt tree stored is; are_marks = no_marks image ckpt tree stored is tree },
      clean image ckpt tree stored is,
    )
