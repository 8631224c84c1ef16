-- Disks that tell what they hold, and faults that are passed on.
use Rattle.std.proofs.Common.{◌≡◌, ℕ, List, refl, sym, ◌∙◌, subst}
use Rattle.std.specs.Prelude.{Option, Result, Ok, Err}
use Rattle.std.specs.Result.{IfErr, IsErrAnd}
use Rattle.f2_disk.specs.Contents.{Contents}
use Rattle.f2_disk.specs.Meter.{Meter}
use Rattle.f2_disk.proofs.MeterLaws.{within_none, within_then}
use Rattle.f2_format.specs.Geometry.{ImageGeometry}
use Rattle.f2_image.specs.Images.{Image}
use Rattle.f2_image.specs.Packs.{Checkpoint}
use Rattle.f2_recover.specs.Told.{Tells, OnlyReads}
use Rattle.f2_recover.specs.Reading.{IsRead}

-- what is told stays told
pub tells_on : (held now : Option Contents) (image : Image) → now ≡ held → Tells held image → Tells now image
tells_on held now image same t = (t.0, same ∙ t.1, t.2)

pub read_on : (held now : Option Contents) (geom later : ImageGeometry) (table : List ℕ) (image : Image) (ckpt : Checkpoint) → now ≡ held → later ≡ geom → IsRead held geom table image ckpt → IsRead now later table image ckpt
read_on held now geom later table image ckpt same sizes is = subst (λ (e : ImageGeometry). IsRead now e table image ckpt) (sym sizes) (record { tells = tells_on held now image same is.tells; geom_is = is.geom_is; has = is.has; size = is.size; told = is.told })

-- no call, and one run of calls after another
pub reads_none : (held : Option Contents) (old : Meter) → OnlyReads held old held old
reads_none held old = record { kept = refl; within = within_none old }

pub reads_then : (a b c : Option Contents) (old mid new : Meter) → OnlyReads a old b mid → OnlyReads b mid c new → OnlyReads a old c new
reads_then a b c old mid new first second = record { kept = second.kept ∙ first.kept; within = within_then 0 0 old mid new first.within second.within }

-- a fault that is passed on
pub fault_holds : {T E : Type 0} (result : Result T E) (e : E) (P : E → Type 0) → IsErrAnd result (λ x. x ≡ e) → P e → IfErr result P
fault_holds (Ok t) e P is holds = tt
fault_holds (Err x) e P is holds = subst P (sym is) holds
