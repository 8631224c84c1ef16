-- Parts of an image that is laid out, in another one.
use Rattle.std.proofs.Common.{◌≡◌, ◌≢◌, inl, inr, ℕ, ◌+◌, ◌*◌, ◌<◌, ◌≤◌, cond, List, [], length, map, sym, ap, ◌∙◌, subst, arith}
use Rattle.std.specs.Prelude.{Option, Some, None}
use Rattle.std.specs.List.{range_with_len}
use Rattle.std.specs.Option.{unwrap_or}
use Rattle.std.proofs.lemmas.Bool.{cases_eq, ne_eqb}
use Rattle.f2_format.specs.Offsets.{inode_pages}
use Rattle.f2_format.specs.Geometry.{ImageGeometry, IsGeometry, ENTRIES_A_NAT_BLOCK}
use Rattle.f2_format.specs.Nat.{nat_entry, nat_block_of, nat_place_of}
use Rattle.f2_format.specs.Journal.{journal_of, journal_entry, journal_count, journal_find}
use Rattle.f2_format.specs.Superblock.{IsSuper, super_geom}
use Rattle.f2_model.specs.Tree.{Rows}
use Rattle.f2_model.specs.declared.rows.Row.{Row}
use Rattle.f2_image.specs.Images.{Image, block_at, IsRightCopy, IsSized, by_first, by_second}
use Rattle.f2_image.specs.Packs.{Side, A, B, other_side, version_of, GoesBefore, Checkpoint}
use Rattle.f2_image.specs.Nodes.{place_of_nid, nat_copy, block_there}
use Rattle.f2_laid.specs.Laid.{HoldsContent, file, directory}

-- a superblock of the same bytes, on a device of the same size
right_same : (image other : Image) (at : ℕ) → length other ≡ length image → block_at other at ≡ block_at image at → IsRightCopy image at → IsRightCopy other at
right_same image other at size same right =
    subst (λ (n : ℕ). IsSuper (block_at other at) n) (sym size) (subst (λ (b : List ℕ). IsSuper b (length image)) (sym same) right)

-- sizes depend on the superblocks alone
pub sized_same : (image other : Image) (geom : ImageGeometry) → length other ≡ length image → block_at other 0 ≡ block_at image 0 → block_at other 1 ≡ block_at image 1
    → IsSized image geom → IsSized other geom
sized_same image other geom size first second (by_first right is) =
    by_first (right_same image other 0 size first right) (is ∙ ap (λ (b : List ℕ). super_geom b) (sym first))
sized_same image other geom size first second (by_second wrong right is) =
    by_second (λ too. wrong (right_same other image 0 (sym size) (sym first) too)) (right_same image other 1 size second right)
    (is ∙ ap (λ (b : List ℕ). super_geom b) (sym second))

-- an image of known sizes breaks no limit and has its blocks
pub sized_geometry : (image : Image) (geom : ImageGeometry) → IsSized image geom → IsGeometry geom
sized_geometry image geom (by_first right is) = subst IsGeometry (sym is) right.geometry
sized_geometry image geom (by_second wrong right is) = subst IsGeometry (sym is) right.geometry

pub sized_blocks : (image : Image) (geom : ImageGeometry) → IsSized image geom → geom.blocks ≤ length image
sized_blocks image geom (by_first right is) = subst (λ (e : ImageGeometry). e.blocks ≤ length image) (sym is) right.within
sized_blocks image geom (by_second wrong right is) = subst (λ (e : ImageGeometry). e.blocks ≤ length image) (sym is) right.within

-- a pack of a greater version goes before the other
pub greater_first : (image : Image) (side : Side) → version_of image (other_side side) < version_of image side → GoesBefore image side
greater_first image A less = omega (arith, less)
greater_first image B less = less

-- content that is the same, page by page
pub content_same : (tree : Rows) (row : Row) (contents other : ℕ → Option (List ℕ)) → ((page : ℕ) → page < inode_pages → other page ≡ contents page)
    → HoldsContent tree row contents → HoldsContent tree row other
content_same tree row contents other same (file kind pages) = file kind (λ page less. same page less ∙ pages page less)
content_same tree row contents other same (directory dentries kind are pages) = directory dentries kind are (λ page less. same page less ∙ pages page less)

-- what stands at an address, where there is one
pub none_there : (image : Image) (at : ℕ) → at ≡ 0 → block_there image at ≡ None
none_there image at e = ap (block_there image) e

pub some_there : (image : Image) (at : ℕ) → at ≢ 0 → block_there image at ≡ Some (block_at image at)
some_there image at some = ap (λ b. cond b None (Some (block_at image at))) (ne_eqb at 0 some)

pub there_same : (image other : Image) (at : ℕ) → (at ≢ 0 → block_at other at ≡ block_at image at) → block_there other at ≡ block_there image at
there_same image other at same =
    elim (cases_eq at 0) [
      | inl e ↦ none_there other at e ∙ sym (none_there image at e)
      | inr some ↦ some_there other at some ∙ (ap (λ (b : List ℕ). Some b) (same some) ∙ sym (some_there image at some))
    ]

-- what the table says of a nid where the journal is empty
empty_journal : (summary : List ℕ) → journal_count summary ≡ 0 → journal_of summary ≡ []
empty_journal summary e = ap (λ (n : ℕ). map (journal_entry summary) (range_with_len 0 n)) e

pub place_in_table : (image : Image) (ckpt : Checkpoint) (nid : ℕ) → journal_count ckpt.summary ≡ 0 → place_of_nid image ckpt nid ≡ nat_entry (nat_copy image ckpt (nat_block_of nid)) (nat_place_of nid)
unfolding place_of_nid
place_in_table image ckpt nid none =
    ap (λ entries. unwrap_or (journal_find entries nid) (nat_entry (nat_copy image ckpt (nat_block_of nid)) (nat_place_of nid))) (empty_journal ckpt.summary none)

-- a nid stands in a block of the table, at its place in it
pub block_less : (nid nat : ℕ) → nid < ENTRIES_A_NAT_BLOCK * nat → nat_block_of nid < nat
block_less nid nat less = omega (arith, less)

pub place_less : (nid : ℕ) → nat_place_of nid < ENTRIES_A_NAT_BLOCK
place_less nid = omega arith

pub nid_again : (nid : ℕ) → ENTRIES_A_NAT_BLOCK * nat_block_of nid + nat_place_of nid ≡ nid
nid_again nid = omega arith
