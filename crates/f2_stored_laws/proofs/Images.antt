-- What an image of a disk has at an address.
use Rattle.std.proofs.Common.{◌≡◌, ℕ, zero, suc, ◌<◌, ◌≤◌, ◌-◌, List, [], ◌∷◌, length, All, Contains, refl, sym, ap, ◌∙◌, subst, arith}
use Rattle.std.proofs.lemmas.List.Elements.{All-contains, All-head, All-tail, Contains-get_or}
use Rattle.std.proofs.lemmas.Slice.Zip.{AllZip-long}
use Rattle.f2_format.specs.Geometry.{ImageGeometry}
use Rattle.f2_format.specs.Superblock.{super_geom, IsSuper}
use Rattle.f2_disk.specs.Contents.{Contents, IsImage, last_of, latest}
use Rattle.f2_image.specs.Images.{Image, block_at, IsRightCopy, IsSized}
use Rattle.f2_image.specs.Images as images
use Rattle.f2_image_laws.specs.Chained.{contents_at}
use Rattle.f2_stored.specs.Bases.{HasOne}

-- the newest contents make an image
pub latest_is_image : (lists : Contents) → All (λ list. 0 < length list) lists → IsImage lists (latest lists)
latest_is_image [] held = tt
latest_is_image (list ∷ lists) held = (newest list (All-head (λ list. 0 < length list) list lists held), latest_is_image lists (All-tail (λ list. 0 < length list) list lists held))
  where
    newest : (list : List (List ℕ)) → 0 < length list → Contains list (last_of list)
    newest list some = Contains-get_or list (length list - 1) [] (omega (arith, some))

module _ (lists : Contents) (image : Image) (is : IsImage lists image) where
  -- one of the contents of the block
  pub member : (at : ℕ) → Contains (contents_at lists at) (block_at image at)
  member at = go lists image is at
    where
      go : (lists : Contents) (image : Image) → IsImage lists image → (at : ℕ) → Contains (contents_at lists at) (block_at image at)
      go [] [] is at = (0, omega arith, refl)
      go [] (block ∷ image) is at = absurd is
      go (list ∷ lists) [] is at = absurd is
      go (list ∷ lists) (block ∷ image) is zero = is.0
      go (list ∷ lists) (block ∷ image) is (suc at) = go lists image is.1 at

  -- what holds of each content of a block
  pub of_each : (P : List ℕ → Type 0) (at : ℕ) → All P (contents_at lists at) → P (block_at image at)
  of_each P at all = All-contains P (contents_at lists at) (block_at image at) all (member at)

  -- the one content of a block
  pub the_content : (at : ℕ) (content : List ℕ) → contents_at lists at ≡ content ∷ [] → block_at image at ≡ content
  the_content at content one = only (block_at image at) (subst (λ list. Contains list (block_at image at)) one (member at))
    where
      only : (block : List ℕ) → Contains (content ∷ []) block → block ≡ content
      only block (zero, within, same) = sym same
      only block (suc k, within, same) = absurd (omega (arith, within))

  pub one_content : (held : Image) (at : ℕ) → HasOne lists held at → block_at image at ≡ block_at held at
  one_content held at one = the_content at (block_at held at) one

  pub as_long : length image ≡ length lists
  as_long = AllZip-long Contains lists image is

-- images that are equally long and have the same first two blocks have the same sizes
pub same_sizes : (image other : Image) (geom : ImageGeometry) → length other ≡ length image → ((at : ℕ) → at ≤ 1 → block_at other at ≡ block_at image at) → IsSized image geom → IsSized other geom
same_sizes image other geom long same (images.by_first right is) =
    images.by_first (subst (IsSuper (block_at other 0)) (sym long) (subst (λ block. IsSuper block (length image)) (sym (same 0 (omega arith))) right)) (is ∙ ap super_geom (sym (same 0 (omega arith))))
same_sizes image other geom long same (images.by_second wrong right is) =
    images.by_second
    (λ copy. wrong (subst (IsSuper (block_at image 0)) long (subst (λ block. IsSuper block (length other)) (same 0 (omega arith)) copy)))
    (subst (IsSuper (block_at other 1)) (sym long) (subst (λ block. IsSuper block (length image)) (sym (same 1 (omega arith))) right))
    (is ∙ ap super_geom (sym (same 1 (omega arith))))
