-- A disk that holds one image with a tree laid out in it.
use Rattle.std.proofs.Common.{◌≡◌, ℕ, zero, suc, List, [], ◌∷◌, refl, sym, ap, ◌∙◌, subst, arith}
use Rattle.std.specs.Prelude.{Contains}
use Rattle.f2_format.specs.Geometry.{ImageGeometry, IsGeometry}
use Rattle.f2_disk.specs.Contents.{Contents, IsImage, alone, latest, flushed}
use Rattle.f2_model.specs.Tree.{Rows}
use Rattle.f2_image.specs.Images.{Image, IsSized, by_first, by_second}
use Rattle.f2_laid.specs.Laid.{IsStorable, IsLaid}
use Rattle.f2_laid.specs.Laws.{LaidImagesMean}
use Rattle.f2_laid.specs.declared.stored.Stored.{Stored}
use Rattle.f2_laid_laws.proofs.Base.{IsStored, is_base}
use Rattle.f2_laid_laws.proofs.NoLog.{no_marks}
use Rattle.f2_laid_laws.proofs.Sound.{sound, clean}
use Rattle.f2_flat.specs.Flat.{IsFlat}
use Rattle.f2_core.specs.Seen.{IsHeld}
use Rattle.f2_core.proofs.FlatTrees.{storable}

pub means : LaidImagesMean
means image ckpt tree stored can laid =
    let is : IsStored image ckpt tree stored = record { can = subst (λ geom. IsStorable geom tree) (sym laid.geom) can; laid = laid } in (
      record { checkpoint = laid.checkpoint; sound = sound image ckpt tree stored is; is_base = is_base image ckpt tree stored is; are_marks = no_marks image ckpt tree stored is tree },
      clean image ckpt tree stored is,
    )

-- one image is all that a disk reads and all that a crash leaves
pub latest-alone : (image : Image) → latest (alone image) ≡ image
latest-alone [] = refl
latest-alone (block ∷ image) = ap (λ rest. block ∷ rest) (latest-alone image)

pub flushed-alone : (image : Image) → flushed (alone image) ≡ alone image
flushed-alone image = ap alone (latest-alone image)

only_one : (content block : List ℕ) → Contains (content ∷ []) block → block ≡ content
only_one content block (zero, inside, is) = sym is
only_one content block (suc k, inside, is) = absurd (omega arith)

pub left-alone : (image left : Image) → IsImage (alone image) left → left ≡ image
left-alone [] [] is = refl
left-alone [] (block ∷ left) is = absurd is
left-alone (content ∷ image) [] is = absurd is
left-alone (content ∷ image) (block ∷ left) is = λ i. only_one content block is.0 i ∷ left-alone image left is.1 i

-- and that is one that a crash leaves
pub image-alone : (image : Image) → IsImage (alone image) image
image-alone [] = tt
image-alone (content ∷ image) = ((zero, omega arith, refl), image-alone image)

sized_geometry : (image : Image) (geom : ImageGeometry) → IsSized image geom → IsGeometry geom
sized_geometry image geom (by_first right is) = subst IsGeometry (sym is) right.geometry
sized_geometry image geom (by_second other right is) = subst IsGeometry (sym is) right.geometry

module _ (geom : ImageGeometry) (lists : Contents) (base : Rows) (stored : Stored) (held : IsHeld geom lists base stored) where
  pub held-geometry : IsGeometry geom
  held-geometry = subst IsGeometry (held.laid.1.geom ∙ held.sizes) (sized_geometry held.image held.laid.0.geom held.laid.1.checkpoint.sized)

  pub held-storable : IsFlat geom base → IsStorable stored.geometry base
  held-storable flat = subst (λ e. IsStorable e base) (sym held.sizes) (storable geom held-geometry base flat)

  pub held-latest : latest lists ≡ held.image
  held-latest = ap latest held.one ∙ latest-alone held.image

  pub held-flushed : flushed lists ≡ lists
  held-flushed = ap flushed held.one ∙ flushed-alone held.image ∙ sym held.one

  pub held-laid : IsLaid (latest lists) base stored
  held-laid = subst (λ image. IsLaid image base stored) (sym held-latest) held.laid
