-- Faults of a block of a directory.
use Rattle.std.proofs.Common.{◌≡◌, inl, ℕ, false, List, sym, ap, ◌∙◌, subst}
use Rattle.f2_format.specs.Dentry.{dentry_fault}
use Rattle.f2_format.specs.Geometry.{ImageGeometry, is_in_data}
use Rattle.f2_model.specs.declared.rows.Kind.TheVariants.{Directory}
use Rattle.f2_image.specs.Images.{Image, block_at}
use Rattle.f2_image.specs.Packs.{Checkpoint}
use Rattle.f2_image.specs.Bases.{IsReached, IsDirectoryBlock}
use Rattle.f2_image.specs.Reached.{IsBasePage}
use Rattle.f2_image.specs.Faults.{HasTable, IsOutOfZone}
use Rattle.f2_image.specs.Faults as faults
use Rattle.f2_recover.specs.Faults.{IsRightFault}
use Rattle.f2_recover.specs.Names.{IsDentsFault}
use Rattle.f2_recover.specs.declared.faults.MountFault.{MountFault}
use Rattle.f2_recover.specs.declared.faults.MountFault.TheVariants.{Bad, Read, Memory}

module _ (image : Image) (ckpt : Checkpoint) (directory page at : ℕ) (has : HasTable ckpt) (reached : IsReached image ckpt directory) (is : IsDirectoryBlock image ckpt directory page at) where
  -- a block of a directory is a page of the base
  pub directory_page : IsBasePage image ckpt directory page at
  directory_page = record { reached = reached; kind = Directory; inode = is.inode; is = is.is; within = is.within; address = is.at_page; there = is.there }

  pub block_outside : (geom : ImageGeometry) → ckpt.geom ≡ geom → is_in_data geom at ≡ false → IsOutOfZone image ckpt at
  block_outside geom sizes outside = faults.page has directory page (inl directory_page) (ap (λ (e : ImageGeometry). is_in_data e at) sizes ∙ outside)

  pub dents_fault : (block : List ℕ) (fault : MountFault) → block ≡ block_at image at → IsDentsFault block at fault → IsRightFault image ckpt fault
  dents_fault block (Bad bad) content told =
      subst (λ b. IsRightFault image ckpt (Bad b)) (sym told.0)
      (has, record { directory = directory; page = page; slot = told.1.0; reached = reached; block = is; fault = ap dentry_fault (sym content) ∙ told.1.1 })
  dents_fault block Read content told = absurd told
  dents_fault block Memory content told = tt
