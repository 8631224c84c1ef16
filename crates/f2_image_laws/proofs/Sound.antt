-- What each condition that a sound image hasn't comes to: its pages are whole blocks, and its conditions by their names.
use Rattle.std.proofs.Common.{◌≡◌, ◌≢◌, ℕ, ◌+◌, ◌-◌, ◌*◌, ◌/◌, ◌<◌, ◌≤◌, ◌&&◌, nat_lt, not, Bool, true, false, [], length, All, refl, sym, subst, arith}
use Rattle.f2_format.specs.Geometry.{ImageGeometry, data_third, data_start, is_in_data}
use Rattle.f2_disk.specs.Contents.{IsBlock}
use Rattle.f2_image.specs.Images.{Image, block_at, IsSized}
use Rattle.f2_image.specs.Images as images
use Rattle.f2_image.specs.Packs.{Checkpoint}
use Rattle.f2_image.specs.Reached.{IsPage}
use Rattle.f2_image.specs.Faults.{IsSound, VersionEnd, BadInode, OutOfZone, Conflict, NoParent, BadTree, TooFull, IsBadInode, IsOutOfZone, IsConflict, HasNoParent, IsBadTree, IsTooFull, IsBadNat, BadNat}
use Rattle.f2_image.specs.Faults as faults
use Rattle.f2_image_laws.proofs.Agreeing.{sound_table, bad_nat}

-- an address in the data zone is that of a block of the device
in_blocks : (blocks nat at : ℕ) → 8 + 2 * nat + 3 * ((blocks - 8 - 2 * nat) / 12) ≤ at
    → at < 8 + 2 * nat + 3 * ((blocks - 8 - 2 * nat) / 12) + 3 * ((blocks - 8 - 2 * nat - 3 * ((blocks - 8 - 2 * nat) / 12)) / 3) → at < blocks
in_blocks blocks nat at from to = omega (arith, from, to)

both_true : (a b : Bool) → (not a && b) ≡ true → (a ≡ false) × (b ≡ true)
both_true false true e = (refl, refl)
both_true false false e = absurd (cc)
both_true true b e = absurd (cc)

zone_within : (geom : ImageGeometry) (at : ℕ) → is_in_data geom at ≡ true → at < geom.blocks
zone_within geom at e =
    let both = both_true (nat_lt at (data_start geom)) (nat_lt at (data_start geom + 3 * data_third geom)) e in
    in_blocks geom.blocks geom.nat at (not_below at (data_start geom) both.0) (is_below at (data_start geom + 3 * data_third geom) both.1)
  where
    not_below : (m n : ℕ) → nat_lt m n ≡ false → n ≤ m
    not_below m n e = grind (arith, e)

    is_below : (m n : ℕ) → nat_lt m n ≡ true → m < n
    is_below m n e = grind (arith, e)

-- the device holds the image
sized_within : (image : Image) (geom : ImageGeometry) → IsSized image geom → geom.blocks ≤ length image
sized_within image geom (images.by_first right is) = subst (λ (e : ImageGeometry). e.blocks ≤ length image) (sym is) right.within
sized_within image geom (images.by_second wrong right is) = subst (λ (e : ImageGeometry). e.blocks ≤ length image) (sym is) right.within

module _ (image : Image) (ckpt : Checkpoint) (sound : IsSound image ckpt) where
  pub no_bad_nat : (nid : ℕ) → ¬ (IsBadNat image ckpt nid)
  no_bad_nat nid is = sound BadNat nid bad_nat (sound_table image ckpt sound, is)

  pub no_bad_inode : (at : ℕ) → ¬ (IsBadInode image ckpt at)
  no_bad_inode at is = sound BadInode at not_end is
    where
      not_end : BadInode ≢ VersionEnd
      not_end e = cc

  pub none_out : (at : ℕ) → ¬ (IsOutOfZone image ckpt at)
  none_out at is = sound OutOfZone at not_end is
    where
      not_end : OutOfZone ≢ VersionEnd
      not_end e = cc

  pub no_conflict : (ino : ℕ) → ¬ (IsConflict image ckpt ino)
  no_conflict ino is = sound Conflict ino not_end (sound_table image ckpt sound, is)
    where
      not_end : Conflict ≢ VersionEnd
      not_end e = cc

  pub none_without_parent : (ino : ℕ) → ¬ (HasNoParent image ckpt ino)
  none_without_parent ino is = sound NoParent ino not_end (sound_table image ckpt sound, is)
    where
      not_end : NoParent ≢ VersionEnd
      not_end e = cc

  pub no_bad_tree : (ino : ℕ) → ¬ (IsBadTree image ckpt ino)
  no_bad_tree ino is = sound BadTree ino not_end (sound_table image ckpt sound, is)
    where
      not_end : BadTree ≢ VersionEnd
      not_end e = cc

  pub none_full : (limit : ℕ) → ¬ (IsTooFull image ckpt limit)
  none_full limit is = sound TooFull limit not_end (sound_table image ckpt sound, is)
    where
      not_end : TooFull ≢ VersionEnd
      not_end e = cc

  -- the block of a page is whole
  pub page_is_block : All IsBlock image → IsSized image ckpt.geom → (ino page at : ℕ) → IsPage image ckpt ino page at → length (block_at image at) ≡ 4096
  page_is_block blocks sized ino page at is = by_zone (is_in_data ckpt.geom at) refl
    where
      by_zone : (b : Bool) → is_in_data ckpt.geom at ≡ b → length (block_at image at) ≡ 4096
      by_zone false e = absurd (none_out at (faults.page (sound_table image ckpt sound) ino page is e))
      by_zone true e = let small = zone_within ckpt.geom at e in let all = sized_within image ckpt.geom sized in (blocks at [] (omega (arith, small, all))).size
