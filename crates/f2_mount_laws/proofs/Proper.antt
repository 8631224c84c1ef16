-- The tree of an image that a disk keeps for a mount is proper, and a checkpoint of it may begin.
use Rattle.std.proofs.Common.{◌≡◌, zero, suc, [], ◌∷◌, length, All, inl, inr, sym, ap, ◌∙◌, subst, arith}
use Rattle.std.specs.Prelude.{None, Some}
use Rattle.std.proofs.lemmas.List.{take_all}
use Rattle.std.proofs.lemmas.List.Elements.{All-contains, All-tail}
use Rattle.f2_format.specs.Geometry.{ImageGeometry}
use Rattle.f2_disk.specs.Contents.{Contents, IsBlock, IsImage, latest}
use Rattle.f2_model.specs.Tree.{Rows}
use Rattle.f2_model.specs.State.{State, Meaning, MayRemain, rolled}
use Rattle.f2_image.specs.Images.{Image, IsSized, by_first, by_second, block_at}
use Rattle.f2_image.specs.Packs.{other_side, tail_address}
use Rattle.f2_image.specs.Meanings.{MeansAt, IsLeft}
use Rattle.f2_image_laws.specs.Rolled.{image_limits}
use Rattle.f2_image_laws.proofs.RolledTree.{rolled_tree_proper}
use Rattle.f2_room_laws.specs.ProperTrees.{IsProperTree}
use Rattle.f2_stored.specs.Layout.{Layout}
use Rattle.f2_stored.specs.Bases.{IsPendingTail, HoldsSome}
use Rattle.f2_stored.specs.Stored.{KeepsPacks, KeepsImage, mounting}
use Rattle.f2_stored_laws.proofs.Images.{latest_is_image}
use Rattle.f2_stored_laws.proofs.Packs.{base_counts}
use Rattle.f2_stored_laws.proofs.FoundImages.{found_left}
use Rattle.f2_mount_laws.specs.Living.{RolledTreesOfMountsAreProper}
use Rattle.f2_mount_laws.specs.Writing.{TakenOverTreesMayBeWritten}
use Rattle.f2_mount_laws.proofs.Live.{are_live}

-- an image of whole blocks
blocks_of : (lists : Contents) (image : Image) → IsImage lists image → All (All IsBlock) lists → All IsBlock image
blocks_of [] [] is blocks k d small = absurd (omega (arith, small))
blocks_of [] (block ∷ image) is blocks k d small = absurd is
blocks_of (list ∷ lists) [] is blocks k d small = absurd is
blocks_of (list ∷ lists) (block ∷ image) is blocks zero d small = All-contains IsBlock list block (blocks 0 [] (omega arith)) is.0
blocks_of (list ∷ lists) (block ∷ image) is blocks (suc k) d small = blocks_of lists image is.1 (All-tail (All IsBlock) list lists blocks) k d (omega (arith, small))

-- an image has one size
one_size : (image : Image) (a b : ImageGeometry) → IsSized image a → IsSized image b → a ≡ b
one_size image a b (by_first right is) (by_first other also) = is ∙ sym also
one_size image a b (by_first right is) (by_second wrong other also) = absurd (wrong right)
one_size image a b (by_second wrong right is) (by_first other also) = absurd (wrong other)
one_size image a b (by_second wrong right is) (by_second also_wrong other also) = is ∙ sym also

module _ (lists : Contents) (layout : Layout) (state : State) (packs : KeepsPacks lists layout state) (keeps : KeepsImage lists layout state) (none : layout.pending ≡ None) where
  abbrev all_kept : State
  all_kept = record state { acknowledged = length state.marks }

  pub image : Image
  image = latest lists

  is_image : IsImage lists image
  unfolding image
  is_image = latest_is_image lists packs.whole.held

  no_tail : ¬ (IsPendingTail layout.pending (block_at image (tail_address (other_side layout.base.ckpt.side))))
  no_tail tail = subst (λ pending. IsPendingTail pending (block_at image (tail_address (other_side layout.base.ckpt.side)))) none tail

  pub left : IsLeft all_kept image
  left = found_left lists layout all_kept
      (record {
        whole = packs.whole;
        packs = packs.packs;
        no_later = packs.no_later;
        pending = packs.pending;
        format = packs.format;
        next_format = packs.next_format;
        version = packs.version;
        early = packs.early;
      })
      (record { base = keeps.base; log = keeps.log; ends = keeps.ends; acknowledged = omega arith })
      image is_image no_tail

  sized : left.ckpt.geom ≡ layout.base.ckpt.geom
  sized = one_size image left.ckpt.geom layout.base.ckpt.geom left.means.checkpoint.sized (base_counts lists image is_image layout.base state.base state.marks keeps.base layout.pending packs.packs no_tail).sized

  is_proper : IsProperTree (image_limits layout.base.ckpt.geom) (rolled left.meaning.base left.meaning.marks)
  is_proper = subst (λ (geom : ImageGeometry). IsProperTree (image_limits geom) (rolled left.meaning.base left.meaning.marks)) sized
      (rolled_tree_proper image left.ckpt left.meaning.base left.meaning.marks (blocks_of lists image is_image packs.whole.contents) left.means)

  -- all marks are rolled over the base
  no_tree : (tree : Rows) → state.pending ≡ Some tree → ⊥
  no_tree tree there = subst (HoldsSome lists layout.base None) there (subst (λ pending. HoldsSome lists layout.base pending state.pending) none packs.pending)

  all_rolled : (meaning : Meaning) → MayRemain all_kept meaning → rolled meaning.base meaning.marks ≡ rolled state.base state.marks
  all_rolled meaning (inl (place, from, to, is)) = ap (λ (m : Meaning). rolled m.base m.marks) is ∙ ap (rolled state.base) (take_all place state.marks from)
  all_rolled meaning (inr (tree, there, is)) = absurd (no_tree tree there)

  -- the image has whole blocks, and stands for base and marks
  pub image_blocks : All IsBlock image
  image_blocks = blocks_of lists image is_image packs.whole.contents

  same_meaning : (meaning : Meaning) → MayRemain all_kept meaning → MeansAt image left.ckpt meaning.base meaning.marks → MeansAt image left.ckpt state.base state.marks
  same_meaning meaning (inl (place, from, to, is)) means =
      subst (MeansAt image left.ckpt state.base) (take_all place state.marks from) (subst (λ (m : Meaning). MeansAt image left.ckpt m.base m.marks) is means)
  same_meaning meaning (inr (tree, there, is)) means = absurd (no_tree tree there)

  pub image_means : MeansAt image left.ckpt state.base state.marks
  image_means = same_meaning left.meaning left.remains left.means

  pub mounted_proper : IsProperTree (image_limits layout.base.ckpt.geom) (rolled state.base state.marks)
  mounted_proper = subst (IsProperTree (image_limits layout.base.ckpt.geom)) (all_rolled left.meaning left.remains) is_proper

pub are_proper : RolledTreesOfMountsAreProper
are_proper lists layout state packs keeps none = mounted_proper lists layout state packs keeps none

pub may_be_written : TakenOverTreesMayBeWritten
may_be_written lists layout state places unwritten goes = record {
  stored = mounting goes.packs goes.image;
  none_pending = goes.none_pending;
  proper = subst (IsProperTree (image_limits layout.base.ckpt.geom)) (sym goes.taken.rolls) (mounted_proper lists layout state goes.packs goes.image goes.none_pending);
  live = are_live lists layout.base state.base state.marks state.live places unwritten goes.image.base goes.image.log goes.taken;
}
