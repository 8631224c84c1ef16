-- What follows of a base that was read: each ino that is reached has a row with the nodes of its file, and what was taken are the
-- addresses and the nids of all nodes of the base.
use Rattle.std.proofs.Common.{◌≡◌, ℕ, true, Some, None, refl, sym, ap, ◌∙◌, inl}
use Rattle.std.specs.Option.{is_some}
use Rattle.std.specs.FinMap as map
use Rattle.std.specs.FinSet as set
use Rattle.std.proofs.lemmas.Option.{same_Some}
use Rattle.f2_model.specs.Tree.{ROOT}
use Rattle.f2_model.specs.declared.rows.Kind.TheVariants.{Directory}
use Rattle.f2_image.specs.Images.{Image}
use Rattle.f2_image.specs.Packs.{Checkpoint}
use Rattle.f2_image.specs.Bases.{IsReached, root, below, inode_kind}
use Rattle.f2_image.specs.Reached.{IsNode}
use Rattle.f2_image.specs.Faults.{HasTable}
use Rattle.f2_recover.specs.Taking.{AreTaken, IsBefore, IsRightNode, TakenNode, TakenNid}
use Rattle.f2_recover.specs.Walking.{IsBaseRead, IsRowOf, HasRow}
use Rattle.f2_recover.specs.declared.rows.BaseRow.{BaseRow}
use Rattle.f2_recover.specs.declared.walk.Walk.{Walk}
use Rattle.f2_recover.proofs.NextFiles.{node_within}
use Rattle.f2_recover.proofs.NodesOfFiles.{reached_of}
use Rattle.f2_overlay.proofs.Unused.{unused}

module _ (image : Image) (ckpt : Checkpoint) (walk : Walk) (base : IsBaseRead image ckpt walk) where
  -- its node address table was read
  pub has_table : HasTable ckpt
  has_table = base.has

  -- each ino that is reached has a row
  pub row_of : (ino : ℕ) → IsReached image ckpt ino → HasRow walk.rows ino (IsRowOf image ckpt ino)
  row_of _ root = let r = base.walked.to.root in record { row = r.row; there = r.there; is = base.walked.to.rows ROOT r.row r.there }
  row_of _ (below directory dentry reached has) =
      let up = row_of directory reached in
      let at = has.2.block.is in
      let inode = same_Some _ _ (sym up.is.file.is.there ∙ at.there) in
      let kind : up.row.file.kind ≡ Directory = same_Some up.row.file.kind Directory (sym up.is.file.is.is_kind ∙ ap inode_kind inode ∙ at.is_kind) in
      let found = base.walked.to.found directory has.0 has.1 dentry has.2 (inl (base.walked.all directory up.row up.there kind)) in
      record { row = found.row; there = found.there; is = base.walked.to.rows dentry.ino found.row found.there }

  -- each node of the base is known in its file's row
  pub nid_known : (ino offset nid : ℕ) (row : BaseRow) → IsNode image ckpt ino offset nid → map.get walk.rows ino ≡ Some row → map.get row.file.nodes.nids offset ≡ Some nid
  nid_known ino offset nid row is there = (base.walked.to.rows ino row there).file.part.all_nodes offset nid is (node_within image ckpt ino offset nid is)

  pub nid_only : (ino offset nid : ℕ) (row : BaseRow) → map.get walk.rows ino ≡ Some row → map.get row.file.nodes.nids offset ≡ Some nid → IsNode image ckpt ino offset nid
  nid_only ino offset nid row there known = ((base.walked.to.rows ino row there).file.part.nodes offset nid known).is

  pub no_row : (ino offset nid : ℕ) → map.get walk.rows ino ≡ None → IsNode image ckpt ino offset nid → ⊥
  no_row ino offset nid none is = let r = row_of ino (reached_of image ckpt ino offset nid is) in absurd (cc (none, r.there))

  -- all nodes of the base were taken
  abbrev spare : ℕ
  spare = (unused walk.rows).0

  are_taken : AreTaken image ckpt base.walked.to.taken.inos spare 0 0 walk.zones
  are_taken = base.walked.to.taken.next spare (unused walk.rows).1

  before : (ino offset nid : ℕ) → IsNode image ckpt ino offset nid → IsBefore base.walked.to.taken.inos spare 0 ino offset
  before ino offset nid is =
      let r = row_of ino (reached_of image ckpt ino offset nid is) in
      inl (base.walked.to.taken.are_rows ino ∙ ap is_some r.there)

  pub right_node : (ino offset nid : ℕ) → IsNode image ckpt ino offset nid → IsRightNode image ckpt walk.zones ino offset nid
  right_node ino offset nid is = are_taken.right_nodes ino offset nid is (before ino offset nid is)

  pub node_taken : (at : ℕ) → set.contains walk.zones.nodes at ≡ true → TakenNode image ckpt base.walked.to.taken.inos spare 0 at
  node_taken = are_taken.nodes

  pub nid_taken : (nid : ℕ) → set.contains walk.zones.nids nid ≡ true → TakenNid image ckpt nid
  nid_taken = are_taken.nids

  -- a nid has one node
  pub one_node : (ino offset other more nid : ℕ) → IsNode image ckpt ino offset nid → IsNode image ckpt other more nid → (ino ≡ other) × (offset ≡ more)
  one_node ino offset other more nid is too = are_taken.nodes_apart ino offset nid other more nid is too (before ino offset nid is) (before other more nid too) refl
