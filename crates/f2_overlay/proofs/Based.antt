-- What follows of a base that was read: each ino that is reached has a row, with the pages of its file.
use Rattle.std.proofs.Common.{◌≡◌, ◌⊎◌, inl, inr, ℕ, ◌<◌, ◌≤◌, ◌==◌, nat_le, cond, ◌||◌, List, sym, ap, ◌∙◌, arith}
use Rattle.std.specs.Prelude.{Some, slice_index_or}
use Rattle.std.specs.FinMap as map
use Rattle.std.proofs.lemmas.Bool.{cases_lt}
use Rattle.std.proofs.lemmas.Bool.Decides.{nat_tests}
use Rattle.std.proofs.lemmas.List.{get_or_default}
use Rattle.f2_format.specs.Geometry.{nid_limit}
use Rattle.f2_format.specs.Offsets.{page_limit}
use Rattle.f2_model.specs.declared.rows.Kind.{Kind}
use Rattle.f2_model.specs.declared.rows.Kind.TheVariants.{Directory}
use Rattle.f2_image.specs.Images.{Image}
use Rattle.f2_image.specs.Packs.{Checkpoint}
use Rattle.f2_image.specs.Nodes.{place_of_nid, node, block_there}
use Rattle.f2_image.specs.Bases.{IsInode, IsReached, root, below, inode_kind}
use Rattle.f2_image.specs.Reached.{IsBasePage}
use Rattle.f2_recover.specs.Seeing.{IsPart, IsList, no_page, node_limit}
use Rattle.f2_recover.specs.Walking.{HasRow, IsRowOf, IsBaseRead}
use Rattle.f2_recover.specs.declared.rows.BaseRow.{BaseRow}
use Rattle.f2_recover.specs.declared.walk.Walk.{Walk}
use Rattle.f2_overlay.specs.Owning.{AreListed}
use Rattle.f2_overlay.proofs.Maps.{not_none, one_some}

-- a nid with a node is in the table
no_address : (limit nid at : ℕ) → limit ≤ nid → cond ((nid == 0) || nat_le limit nid) 0 at ≡ 0
no_address limit nid at past = grind (arith, nat_tests, past)

pub nid_within : (image : Image) (ckpt : Checkpoint) (nid : ℕ) (block : List ℕ) → node image ckpt nid ≡ Some block → nid < nid_limit ckpt.geom
nid_within image ckpt nid block there = by (cases_lt nid (nid_limit ckpt.geom))
  where
    by : (nid < nid_limit ckpt.geom) ⊎ (nid_limit ckpt.geom ≤ nid) → nid < nid_limit ckpt.geom
    by (inl low) = low
    by (inr high) = absurd (not_none block (sym (ap (block_there image) (no_address (nid_limit ckpt.geom) nid (place_of_nid image ckpt nid).1 high)) ∙ there))

module _ (image : Image) (ckpt : Checkpoint) (walk : Walk) (base : IsBaseRead image ckpt walk) where
  pub row_of : (ino : ℕ) (row : BaseRow) → map.get walk.rows ino ≡ Some row → IsRowOf image ckpt ino row
  row_of = base.walked.to.rows

  abbrev pub HasOne : ℕ → Type 0
  HasOne ino = HasRow walk.rows ino (λ row. Unit {0})

  one_kind : (ino : ℕ) (a b : Kind) (one other : List ℕ) → IsInode image ckpt ino a one → IsInode image ckpt ino b other → a ≡ b
  one_kind ino a b one other x y =
      let same : one ≡ other = one_some one other (sym x.there ∙ y.there) in
      one_some a b (sym x.is_kind ∙ ap (λ (i : List ℕ). inode_kind i) same ∙ y.is_kind)

  pub reached_row : (ino : ℕ) → IsReached image ckpt ino → HasOne ino
  reached_row _ (root) = let r = base.walked.to.root in record { row = r.row; there = r.there; is = tt }
  reached_row _ (below directory dentry reached has) =
      let up = reached_row directory reached in
      let row = row_of directory up.row up.there in
      let at = has.2 in
      let kind : up.row.file.kind ≡ Directory = one_kind directory up.row.file.kind Directory row.file.inode at.block.inode row.file.is at.block.is in
      let found = base.walked.to.found directory has.0 has.1 dentry at (inl (base.walked.all directory up.row up.there kind)) in
      record { row = found.row; there = found.there; is = tt }

  -- the pages of a row
  module _ (ino : ℕ) (row : BaseRow) (there : map.get walk.rows ino ≡ Some row) where
    part : IsPart image ckpt ino node_limit page_limit row.file.nodes
    part = (row_of ino row there).file.part

    pub page_of_base : (page at : ℕ) → map.get row.file.nodes.pages.pages page ≡ Some at → IsBasePage image ckpt ino page at
    page_of_base page at has = (part.pages page at has).is

    pub page_of_row : (page at : ℕ) → IsBasePage image ckpt ino page at → map.get row.file.nodes.pages.pages page ≡ Some at
    page_of_row page at is = part.all_pages page at is is.within

    pub list_of_row : IsList page_limit row.file.nodes.pages.pages row.file.nodes.list.items
    list_of_row = part.listed

    pub listed_of_base : AreListed image ckpt ino row.file.nodes.list.items
    listed_of_base k small =
        let items = row.file.nodes.list.items in
        inl (page_of_base (slice_index_or items k no_page).page (slice_index_or items k no_page).at (part.listed.only (slice_index_or items k no_page) (k, small, get_or_default items k (slice_index_or items k no_page) no_page small)))
