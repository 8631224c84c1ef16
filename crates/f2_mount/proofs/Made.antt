-- An image in which the root alone is laid out, by the first checkpoint, is a new one.
use Rattle.std.proofs.Common.{◌≡◌, inl, ◌<◌, [], ◌∷◌, length, refl, sym, ap, ◌∙◌, subst, arith}
use Rattle.std.specs.Prelude.{if◌then◌else◌}
use Rattle.std.proofs.lemmas.List.Elements.{All-map}
use Rattle.f2_format.specs.Geometry.{ImageGeometry}
use Rattle.f2_disk.specs.Contents.{Contents, IsImage, alone}
use Rattle.f2_disk.proofs.ContentsLaws.{latest_alone}
use Rattle.f2_disk.proofs.PickLaws.{latest_image}
use Rattle.f2_model.specs.State.{initial}
use Rattle.f2_model.specs.declared.modes.Format.TheVariants.{One, Two}
use Rattle.f2_image.specs.Images.{Image, IsSized}
use Rattle.f2_image.specs.Packs.{Checkpoint}
use Rattle.f2_image.specs.Meanings.{IsLeft}
use Rattle.f2_laid.specs.Laid.{IsLaidAt, root_alone}
use Rattle.f2_laid.specs.declared.stored.Stored.{Stored}
use Rattle.f2_laid_laws.proofs.Base.{IsStored, sizes_right, is_base}
use Rattle.f2_laid_laws.proofs.NoLog.{no_marks}
use Rattle.f2_laid_laws.proofs.Sound.{sound, clean}
use Rattle.f2_plain_save.specs.Saves.{IsMade}
use Rattle.f2_plain_save.proofs.Root.{root_storable}
use Rattle.f2_plain_save.proofs.Writes.{alone_left}
use Rattle.f2_mount.specs.Making.{new_image, IsNewImage, HasNewImage}

-- one image is all that a crash leaves of a disk that holds it alone
image_alone : (image : Image) → IsImage (alone image) image
image_alone image = subst (IsImage (alone image)) (latest_alone image) (latest_image (alone image) (All-map (λ list. 0 < length list) (λ content. content ∷ []) image (λ k d h. omega arith)))

module _ (image : Image) (ckpt : Checkpoint) (stored : Stored) (laid : IsLaidAt image ckpt root_alone stored) (first : stored.version ≡ 1) where
  is_stored : IsStored image ckpt root_alone stored
  is_stored = record { can = root_storable ckpt.geom (sizes_right image ckpt.geom laid.checkpoint.sized); laid = laid }

  -- such an image stands for what may remain of a new one
  left_new : IsLeft (initial new_image) image
  left_new = record {
    ckpt = ckpt;
    meaning = new_image;
    remains = inl (0, omega arith, omega arith, refl);
    means = record {
      checkpoint = laid.checkpoint;
      sound = sound image ckpt root_alone stored is_stored;
      is_base = is_base image ckpt root_alone stored is_stored;
      are_marks = no_marks image ckpt root_alone stored is_stored root_alone;
    };
    version = laid.version ∙ first;
    format = ap (λ b. if b then Two else One) laid.newer;
    clean = clean image ckpt root_alone stored is_stored;
  }

-- a disk that holds it alone has a new image
pub has_new : (geom : ImageGeometry) (stored : Stored) → stored.geometry ≡ geom → stored.version ≡ 1 → (before after : Contents) → IsMade stored before after → HasNewImage geom before after
has_new geom stored sizes first before after (image, one, supers, (ckpt, laid)) = subst (IsNewImage geom) (sym one) record {
  safe = ((image, image_alone image), λ left is. subst (IsLeft (initial new_image)) (sym (alone_left image left is)) (left_new image ckpt stored laid first));
  sized = λ left is. subst (λ i. IsSized i geom) (sym (alone_left image left is)) (subst (IsSized image) (laid.geom ∙ sizes) laid.checkpoint.sized);
  settled = All-map (λ list. length list ≡ 1) (λ content. content ∷ []) image (λ k d h. refl);
}
