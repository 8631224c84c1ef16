-- A base that was walked: each ino that is reached has a row, so the nodes of the base are those of the rows.
use Rattle.std.proofs.Common.{◌≡◌, inl, ℕ, ◌≤◌, true, false, List, [], refl, sym, ap, ◌∙◌, subst, arith}
use Rattle.std.specs.Prelude.{Option, Some, None, is_some, slice_index_or}
use Rattle.std.specs.FinMap as map
use Rattle.std.specs.FinSet as set
use Rattle.std.proofs.lemmas.List.{get_or_default}
use Rattle.std.proofs.lemmas.Option.{same_Some}
use Rattle.f2_format.specs.Dentry.{Dentry}
use Rattle.f2_format.specs.Geometry.{ImageGeometry, nid_limit}
use Rattle.f2_model.specs.Tree.{ROOT, most_depth}
use Rattle.f2_model.specs.declared.rows.Kind.{Kind}
use Rattle.f2_model.specs.declared.rows.Kind.TheVariants.{Directory}
use Rattle.f2_image.specs.Images.{Image}
use Rattle.f2_image.specs.Packs.{Checkpoint}
use Rattle.f2_image.specs.Bases.{IsInode, IsReached, root, below, HasDentryAt, inode_kind}
use Rattle.f2_image.specs.Reached.{IsNode, IsBasePage}
use Rattle.f2_image.proofs.Dentries.{node_in_table}
use Rattle.f2_recover.specs.Taking.{IsBefore, IsRightNode, IsRightPage, AreTaken, AreAllNodes}
use Rattle.f2_recover.specs.Walking.{BaseRows, IsRowOf, IsPassed, HasRow, IsWalked, IsQueue}
use Rattle.f2_recover.specs.declared.rows.BaseRow.{BaseRow}
use Rattle.f2_recover.specs.declared.walk.Walk.{Walk}
use Rattle.f2_recover.proofs.NodesOfFiles.{reached_of}

-- an ino has one kind
pub one_kind : (image : Image) (ckpt : Checkpoint) (ino : ℕ) (kind other : Kind) (a b : List ℕ) → IsInode image ckpt ino kind a → IsInode image ckpt ino other b → kind ≡ other
one_kind image ckpt ino kind other a b p q = same_Some kind other (sym p.is_kind ∙ ap inode_kind (same_Some a b (sym p.there ∙ q.there)) ∙ q.is_kind)

-- no row is deeper than it may be
pub not_deeper : (geom : ImageGeometry) (rows : BaseRows) (order : List ℕ) → IsQueue geom rows order → (ino : ℕ) (row : BaseRow) → map.get rows ino ≡ Some row → row.depth ≤ most_depth row.file.kind
not_deeper geom rows order queue ino row there =
    let at = queue.all ino row there in
    let has = queue.there at.0 at.1 in
    let is : slice_index_or order at.0 0 ≡ ino = get_or_default order at.0 0 ino at.1 ∙ at.2 in
    let same : has.row ≡ row = same_Some has.row row (sym has.there ∙ ap (map.get rows) is ∙ there) in
    subst (λ (r : BaseRow). r.depth ≤ most_depth r.file.kind) same has.is

module _ (image : Image) (ckpt : Checkpoint) (walk : Walk) (is : IsWalked image ckpt walk) where
  abbrev pub HasOwnRow : ℕ → Type 0
  HasOwnRow ino = HasRow walk.rows ino (IsRowOf image ckpt ino)

  own_row : (ino : ℕ) (row : BaseRow) → map.get walk.rows ino ≡ Some row → HasOwnRow ino
  own_row ino row there = record { row = row; there = there; is = is.to.rows ino row there }

  -- the directory of a dentry was walked
  pub was_walked : (directory : ℕ) (inode : List ℕ) → HasOwnRow directory → IsInode image ckpt directory Directory inode → set.contains is.done directory ≡ true
  was_walked directory inode has own = is.all directory has.row has.there (one_kind image ckpt directory has.row.file.kind Directory has.is.file.inode inode has.is.file.is own)

  passed_in : (directory page slot : ℕ) (dentry : Dentry) → HasOwnRow directory → HasDentryAt image ckpt directory page slot dentry → IsPassed is.done 0 [] 0 directory page slot
  passed_in directory page slot dentry has at = inl (was_walked directory at.block.inode has at.block.is)

  -- each ino that is reached has a row
  pub row_of : (ino : ℕ) → IsReached image ckpt ino → HasOwnRow ino
  row_of _ root = own_row ROOT is.to.root.row is.to.root.there
  row_of _ (below directory dentry up has) =
      let found = is.to.found directory has.0 has.1 dentry has.2 (passed_in directory has.0 has.1 dentry (row_of directory up) has.2) in
      own_row dentry.ino found.row found.there

  pub is_passed : (directory page slot : ℕ) (dentry : Dentry) → IsReached image ckpt directory → HasDentryAt image ckpt directory page slot dentry → IsPassed is.done 0 [] 0 directory page slot
  is_passed directory page slot dentry reached at = passed_in directory page slot dentry (row_of directory reached) at

  -- past the table is no row
  abbrev past : ℕ
  past = nid_limit ckpt.geom

  none_past : map.contains_key walk.rows past ≡ false
  none_past = by (map.get walk.rows past) (λ row there. let below_limit = node_in_table image ckpt past (is.to.rows past row there).file.inode (is.to.rows past row there).file.is.there in omega (arith, below_limit))
    where
      by : (found : Option BaseRow) → ((row : BaseRow) → found ≡ Some row → ⊥) → is_some found ≡ false
      by None none = refl
      by (Some row) none = absurd (none row refl)

  -- all nodes and pages of the base came before a file that is none of it
  pub are_taken : AreTaken image ckpt is.to.taken.inos past 0 0 walk.zones
  are_taken = is.to.taken.next past none_past

  pub is_before : (ino place : ℕ) → IsReached image ckpt ino → IsBefore is.to.taken.inos past 0 ino place
  is_before ino place reached = inl (is.to.taken.are_rows ino ∙ ap is_some (row_of ino reached).there)

  pub node_right : (ino offset nid : ℕ) → IsNode image ckpt ino offset nid → IsRightNode image ckpt walk.zones ino offset nid
  node_right ino offset nid node = are_taken.right_nodes ino offset nid node (is_before ino offset (reached_of image ckpt ino offset nid node))

  pub page_right : (ino page at : ℕ) → IsBasePage image ckpt ino page at → IsRightPage ckpt walk.zones at
  page_right ino page at base = are_taken.right_pages ino page at base (is_before ino page base.reached)

  pub all_nodes : AreAllNodes image ckpt walk.zones
  all_nodes ino offset nid node = (node_right ino offset nid node).nid_is
