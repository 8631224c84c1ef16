-- The dentries of a block: each stands in a slot in which a name begins.
use Rattle.std.proofs.Common.{ℕ, ◌<◌, List, length, get_or, sym, subst, arith}
use Rattle.std.specs.Prelude.{All}
use Rattle.std.specs.List.{filter}
use Rattle.std.proofs.lemmas.List.{length-map, get_or-map}
use Rattle.std.proofs.lemmas.List.FromFn.{length-range_with_len, get_or-range_with_len}
use Rattle.std.proofs.lemmas.List.Elements.{All-filter, filter_passes}
use Rattle.f2_format.specs.Packing.{SLOTS_A_BLOCK}
use Rattle.f2_format.specs.Dentry.{Dentry, dentry_at, begins_name, all_slots, dentries_of}
use Rattle.f2_image.specs.Images.{Image, block_at}
use Rattle.f2_image.specs.Packs.{Checkpoint}
use Rattle.f2_image.specs.Bases.{IsReached, below, IsDirectoryBlock, HasDentry}

slots_within : All (λ slot. slot < SLOTS_A_BLOCK) all_slots
unfolding all_slots
slots_within k d small =
    let in_range : k < 214 = subst (λ n. k < n) (length-range_with_len 0 214) small in
    let is = get_or-range_with_len 0 214 k d in_range in
    omega (arith, is, in_range)

abbrev begun : List ℕ → List ℕ
begun block = filter (begins_name block) all_slots

module _ (image : Image) (ckpt : Checkpoint) (directory page at : ℕ) (is : IsDirectoryBlock image ckpt directory page at) where
  -- what is read of a block are dentries of its directory
  pub has_dentry : (place : ℕ) (d : Dentry) → place < length (dentries_of (block_at image at)) → HasDentry image ckpt directory (get_or (dentries_of (block_at image at)) place d)
  has_dentry place d within =
      let block : List ℕ = block_at image at in
      let small : place < length (begun block) = subst (λ n. place < n) (length-map (begun block) (dentry_at block)) within in
      let slot : ℕ = get_or (begun block) place 0 in (
        page,
        slot,
        record {
          at = at;
          block = is;
          within = All-filter (begins_name block) (λ s. s < SLOTS_A_BLOCK) all_slots slots_within place 0 small;
          begins = filter_passes (begins_name block) all_slots place 0 small;
          is = sym (get_or-map (dentry_at block) (begun block) place 0 d small);
        },
      )

  -- so the inos that they name are reached
  pub is_reached : (place : ℕ) (d : Dentry) → IsReached image ckpt directory → place < length (dentries_of (block_at image at)) → IsReached image ckpt (get_or (dentries_of (block_at image at)) place d).ino
  is_reached place d reached within = below directory (get_or (dentries_of (block_at image at)) place d) reached (has_dentry place d within)
