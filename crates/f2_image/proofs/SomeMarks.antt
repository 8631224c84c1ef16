-- A sound image has a list of marks over each base.
use Rattle.std.proofs.Common.{◌≡◌, ℕ, ◌<◌, IsTrue, inl, List, length, refl, arith}
use Rattle.std.specs.Prelude.{Option, Some, None}
use Rattle.std.specs.FinMap as map
use Rattle.f2_format.specs.Offsets.{page_limit}
use Rattle.f2_format.specs.Footer.{footer_ino}
use Rattle.f2_format.specs.Inode.{inode_of}
use Rattle.f2_model.specs.Tree.{Rows}
use Rattle.f2_model.specs.State.{Mark}
use Rattle.f2_model.specs.declared.rows.Row.{Row}
use Rattle.f2_model.specs.declared.rows.Kind.{Kind}
use Rattle.f2_image.specs.Images.{Image}
use Rattle.f2_image.specs.Packs.{Checkpoint}
use Rattle.f2_image.specs.Nodes.{block_there}
use Rattle.f2_image.specs.Bases.{IsBase, inode_kind}
use Rattle.f2_image.specs.Chains.{chain, block_in, is_marked, marked_address, IsMark, AreMarks}
use Rattle.f2_image.specs.Reached.{IsMarkedAt}
use Rattle.f2_image.specs.Faults.{IsSound, BadInode}
use Rattle.f2_image.specs.Faults as faults
use Rattle.f2_image.proofs.Limited.{map_below, zipped}
use Rattle.f2_image.proofs.OneName.{named_as}
use Rattle.f2_image.proofs.SomeBase.{bad_inode}

module _ (image : Image) (ckpt : Checkpoint) (sound : IsSound image ckpt) where
  marked_kind : (place : ℕ) (block : List ℕ) → IsMarkedAt image ckpt place block → (kind : Kind) × (inode_kind block ≡ Some kind)
  marked_kind place block is = by_kind (inode_kind block) refl
    where
      by_kind : (o : Option Kind) → inode_kind block ≡ o → (kind : Kind) × (inode_kind block ≡ Some kind)
      by_kind None e = absurd (sound BadInode _ bad_inode (faults.in_log place block is refl (inl e)))
      by_kind (Some kind) e = (kind, e)

  mark_at : (base : Rows) → IsBase image ckpt base → (place : ℕ) → place < length (chain image ckpt) → IsTrue (is_marked (block_in (chain image ckpt) place)) → (mark : Mark) × IsMark image ckpt base (chain image ckpt) place mark
  mark_at base is_base place within marked =
      let block = block_in (chain image ckpt) place in
      let kind = marked_kind place block (record { within = within; stands = refl; marked = marked }) in
      let pages = map_below (λ page. block_there image (marked_address image ckpt (chain image ckpt) place page)) page_limit in
      let name = named_as image ckpt base is_base block (footer_ino block) (map.get base (footer_ino block)) refl in
      let row : Row = record { ino = footer_ino block; kind = kind.0; parent = name.0; name = name.1.0; size = (inode_of block).size; pages = pages.entries } in (
        record { ino = footer_ino block; row = row },
        record {
          ino = refl;
          row_ino = refl;
          kind = kind.1;
          size = refl;
          pages = record { within = pages.within; blocks = pages.below };
          named = name.1.1 row refl refl refl;
        },
      )

  pub some_marks : (base : Rows) → IsBase image ckpt base → (marks : List Mark) × AreMarks image ckpt base marks
  some_marks base is_base =
      zipped (IsMark image ckpt base (chain image ckpt)) (λ place. is_marked (block_in (chain image ckpt) place)) (length (chain image ckpt)) (mark_at base is_base) 0 (length (chain image ckpt)) (omega arith)
