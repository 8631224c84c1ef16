-- An image whose base was read, and whose node log has none of its faults, has marks over each base, so it has a tree.
use Rattle.std.proofs.Common.{◌≡◌, ℕ, ◌<◌, inl, IsTrue, List, length, take, refl, arith}
use Rattle.std.specs.Prelude.{Option, Some, None}
use Rattle.std.specs.FinMap as map
use Rattle.f2_format.specs.Footer.{footer_ino}
use Rattle.f2_format.specs.Inode.{inode_of}
use Rattle.f2_format.specs.Offsets.{page_limit}
use Rattle.f2_model.specs.Tree.{Rows}
use Rattle.f2_model.specs.State.{Mark}
use Rattle.f2_model.specs.declared.rows.Row.{Row}
use Rattle.f2_model.specs.declared.rows.Kind.{Kind}
use Rattle.f2_image.specs.Images.{Image}
use Rattle.f2_image.specs.Packs.{Checkpoint}
use Rattle.f2_image.specs.Nodes.{block_there}
use Rattle.f2_image.specs.Bases.{IsBase, inode_kind}
use Rattle.f2_image.specs.Chains.{chain, block_in, is_marked, marked_address, IsMark, AreMarks}
use Rattle.f2_image.specs.Reached.{IsMarkedAt}
use Rattle.f2_image.proofs.Limited.{map_below, zipped}
use Rattle.f2_image.proofs.OneName.{named_as}
use Rattle.f2_recover.specs.Walking.{IsBaseRead}
use Rattle.f2_recover.specs.declared.walk.Walk.{Walk}
use Rattle.f2_recover_laws.proofs.ReadBase.{read_base}
use Rattle.f2_scan.specs.Laws.{HasNoLogFault}

module _ (image : Image) (ckpt : Checkpoint) (right : HasNoLogFault image ckpt) where
  -- a marked block has a kind, since it isn't a foreign inode
  marked_kind : (place : ℕ) (block : List ℕ) → IsMarkedAt image ckpt place block → (kind : Kind) × (inode_kind block ≡ Some kind)
  marked_kind place block is = by (inode_kind block) refl
    where
      by : (told : Option Kind) → inode_kind block ≡ told → (kind : Kind) × (inode_kind block ≡ Some kind)
      by None e = absurd (right.no_bad_inode place block is (inl e))
      by (Some kind) e = (kind, e)

  mark_at : (base : Rows) → IsBase image ckpt base → (place : ℕ) → place < length (chain image ckpt) → IsTrue (is_marked (block_in (chain image ckpt) place)) → (mark : Mark) × IsMark image ckpt base (chain image ckpt) place mark
  mark_at base is_base place within marked =
      let block = block_in (chain image ckpt) place in
      let kind = marked_kind place block (record { within = within; stands = refl; marked = marked }) in
      let pages = map_below (λ page. block_there image (marked_address image ckpt (chain image ckpt) place page)) page_limit in
      let name = named_as image ckpt base is_base block (footer_ino block) (map.get base (footer_ino block)) refl in
      let row : Row = record { ino = footer_ino block; kind = kind.0; parent = name.0; name = name.1.0; size = (inode_of block).size; pages = pages.entries } in (
        record { ino = footer_ino block; row = row },
        record {
          ino = refl;
          row_ino = refl;
          kind = kind.1;
          size = refl;
          pages = record { within = pages.within; blocks = pages.below };
          named = name.1.1 row refl refl refl;
        },
      )

  -- each marked place of the chain has a mark
  read_marks : (base : Rows) → IsBase image ckpt base → (marks : List Mark) × AreMarks image ckpt base marks
  read_marks base is_base =
      zipped (IsMark image ckpt base (chain image ckpt)) (λ place. is_marked (block_in (chain image ckpt) place)) (length (chain image ckpt)) (mark_at base is_base) 0 (length (chain image ckpt)) (omega arith)

pub read_tree : (image : Image) (ckpt : Checkpoint) (walk : Walk) → IsBaseRead image ckpt walk → HasNoLogFault image ckpt → (base : Rows) × ((marks : List Mark) × (IsBase image ckpt base × AreMarks image ckpt base marks))
read_tree image ckpt walk read right =
    let found = read_base image ckpt walk read.walked in
    let marks = read_marks image ckpt right found.0 found.1 in
    (found.0, (marks.0, (found.1, marks.1)))
