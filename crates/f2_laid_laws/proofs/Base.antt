-- A tree that is laid out is the base of its image.
use Rattle.std.proofs.Common.{◌≡◌, ◌≢◌, ◌⊎◌, inl, inr, ℕ, zero, suc, ◌<◌, ◌≤◌, List, refl, sym, ap, ◌∙◌, subst, arith}
use Rattle.std.specs.Prelude.{Option, Some, None}
use Rattle.std.specs.FinMap as map
use Rattle.std.proofs.lemmas.Bool.{cases_lt}
use Rattle.f2_format.specs.Offsets.{inode_pages, page_limit}
use Rattle.f2_format.specs.Geometry.{ImageGeometry, IsGeometry}
use Rattle.f2_format.specs.Dentry.{Dentry}
use Rattle.f2_model.specs.Tree.{Rows, ROOT, IsAtDepth}
use Rattle.f2_model.specs.declared.rows.Row.{Row}
use Rattle.f2_model.specs.declared.rows.Kind.{Kind}
use Rattle.f2_model.specs.declared.rows.Kind.TheVariants.{Regular, Directory}
use Rattle.f2_image.specs.Images.{Image, IsSized, by_first, by_second}
use Rattle.f2_image.specs.Packs.{Checkpoint}
use Rattle.f2_image.specs.Nodes.{block_there, page_address}
use Rattle.f2_image.specs.Bases.{HasDentryAt, HasDentry, IsReached, root, below, HasContent, IsBaseRow, IsBase}
use Rattle.f2_image.proofs.OneName.{StandsOnce, has_root, base_of_once}
use Rattle.f2_laid.specs.Laid.{page_at, page_in, IsStorable, IsLaidAt, IsBound}
use Rattle.f2_laid.specs.declared.stored.Stored.{Stored}
use Rattle.f2_laid_laws.proofs.Homes.{IsHome, home, inode_block, is_inode, inode_is, page_found, page_past}
use Rattle.f2_laid_laws.proofs.Listings.{HoldsDentries, dentries_held, pages_held, bound_at, named_at, seen_at, shown_at}

-- the sizes of an image are right
pub sizes_right : (image : Image) (geom : ImageGeometry) → IsSized image geom → IsGeometry geom
sizes_right image geom (by_first right is) = subst IsGeometry (sym is) right.geometry
sizes_right image geom (by_second wrong right is) = subst IsGeometry (sym is) right.geometry

-- a tree that is laid out in an image
pub record IsStored (image : Image) (ckpt : Checkpoint) (tree : Rows) (stored : Stored) : Type 0 where
  pub can : IsStorable ckpt.geom tree
  pub laid : IsLaidAt image ckpt tree stored

module _ (image : Image) (ckpt : Checkpoint) (tree : Rows) (stored : Stored) (is : IsStored image ckpt tree stored) where
  pub geometry : IsGeometry ckpt.geom
  geometry = sizes_right image ckpt.geom is.laid.checkpoint.sized

  pub home_of : (ino : ℕ) (row : Row) → map.get tree ino ≡ Some row → IsHome image ckpt tree stored ino row
  home_of = home image ckpt tree stored is.can is.laid

  pub listing : (ino : ℕ) (row : Row) (there : map.get tree ino ≡ Some row) → row.kind ≡ Directory → HoldsDentries tree row (page_in image (home_of ino row there).place)
  listing ino row there kind = let at = home_of ino row there in dentries_held tree row (page_in image at.place) at.content kind

  -- what has a dentry is a directory
  pub is_directory : (ino page slot : ℕ) (dentry : Dentry) (row : Row) → map.get tree ino ≡ Some row → HasDentryAt image ckpt ino page slot dentry → row.kind ≡ Directory
  is_directory ino page slot dentry row there has = sym (inode_is image ckpt tree stored ino row (home_of ino row there) Directory has.block.inode has.block.is).1

  -- each of its dentries is bound
  pub bound : (ino page slot : ℕ) (dentry : Dentry) (row : Row) → map.get tree ino ≡ Some row → HasDentryAt image ckpt ino page slot dentry → IsBound tree ino dentry
  bound ino page slot dentry row there has =
      let at = home_of ino row there in
      let held = listing ino row there (is_directory ino page slot dentry row there has) in
      let seen = seen_at image ckpt tree stored is.can geometry ino row there at held page slot dentry has in
      subst (λ d. IsBound tree d dentry) at.own (bound_at ckpt.geom geometry tree is.can row.ino held.dentries held.are page slot dentry seen)

  -- what is reached is in the tree
  pub in_tree : (ino : ℕ) → IsReached image ckpt ino → (row : Row) × (map.get tree ino ≡ Some row)
  in_tree _ root = (is.can.good.root.0, is.can.good.root.1)
  in_tree _ (below directory dentry up has) =
      let under = in_tree directory up in
      let to = bound directory has.0 has.1 dentry under.0 under.1 has.2 in
      (to.row, to.there)

  -- a row of the tree has a dentry in its directory
  dentry_of : (ino : ℕ) (row up : Row) → map.get tree ino ≡ Some row → ino ≢ ROOT → map.get tree row.parent ≡ Some up → up.kind ≡ Directory → (dentry : Dentry) × HasDentry image ckpt row.parent dentry × (dentry.ino ≡ ino)
  dentry_of ino row up there not_root above kind =
      let at = home_of row.parent up above in
      let held = listing row.parent up above kind in
      let found = named_at ckpt.geom geometry tree is.can up.ino held.dentries held.are ino row there not_root (sym at.own) in
      let stands = found.1 in
      (found.0, (stands.page, stands.slot, shown_at image ckpt tree stored is.can geometry row.parent up above at held kind stands.page stands.slot found.0 stands.at), found.2)

  -- what is in the tree is reached
  reached_at : (depth ino : ℕ) (row : Row) → map.get tree ino ≡ Some row → IsAtDepth tree depth ino → IsReached image ckpt ino
  reached_at zero ino row there at = subst (IsReached image ckpt) (sym at) root
  reached_at (suc depth) ino row there at =
      let up = is.can.good.parents ino at.1.0 at.1.1 in
      let above = reached_at depth at.1.0.parent up.0 up.1 at.1.2 in
      let found = dentry_of ino at.1.0 up.0 at.1.1 at.0 up.1 up.2 in
      subst (IsReached image ckpt) found.2 (below at.1.0.parent found.0 above found.1)

  pub reached : (ino : ℕ) (row : Row) → map.get tree ino ≡ Some row → IsReached image ckpt ino
  reached ino row there = let deep = is.can.good.reached ino row there in reached_at deep.0 ino row there deep.2

  -- the pages of a file
  file_page : (ino : ℕ) (row : Row) (there : map.get tree ino ≡ Some row) → row.kind ≡ Regular → (page : ℕ) → page < page_limit
      → map.get row.pages page ≡ block_there image (page_address image ckpt (inode_block image ckpt tree stored ino row (home_of ino row there)) page)
  file_page ino row there kind page within = by_place (cases_lt page inode_pages) ∙ sym (ap (block_there image) (page_found image ckpt tree stored ino row at row.kind _ page (is_inode image ckpt tree stored ino row at) within))
    where
      at : IsHome image ckpt tree stored ino row
      at = home_of ino row there

      past_none : (o : Option (List ℕ)) → map.get row.pages page ≡ o → inode_pages ≤ page → o ≡ None
      past_none None e past = refl
      past_none (Some bytes) e past = let short = is.can.short_files ino page row bytes there e in absurd (omega arith)

      by_place : (page < inode_pages) ⊎ (inode_pages ≤ page) → map.get row.pages page ≡ block_there image (page_at at.place page)
      by_place (inl short) = sym (pages_held tree row (page_in image at.place) at.content kind page short)
      by_place (inr past) = past_none (map.get row.pages page) refl past ∙ sym (ap (block_there image) (page_past image ckpt tree stored ino row at page past))

  content : (ino : ℕ) (row : Row) (there : map.get tree ino ≡ Some row) (kind : Kind) → row.kind ≡ kind → HasContent image ckpt (inode_block image ckpt tree stored ino row (home_of ino row there)) kind row
  content ino row there Regular e =
      (sym ((home_of ino row there).inode.own_size e), file_page ino row there e, λ page bytes h. let short = is.can.short_files ino page row bytes there h in omega arith)
  content ino row there Directory e = (is.can.good.pages ino row there).directory e

  are_rows : (ino : ℕ) (row : Row) → map.get tree ino ≡ Some row → IsBaseRow image ckpt ino row
  are_rows ino row there = let at = home_of ino row there in record {
    own = at.own;
    reached = reached ino row there;
    inode = inode_block image ckpt tree stored ino row at;
    is = is_inode image ckpt tree stored ino row at;
    content = content ino row there row.kind refl;
  }

  are_named : (directory : ℕ) (dentry : Dentry) → IsReached image ckpt directory → HasDentry image ckpt directory dentry → StandsOnce tree dentry.ino directory dentry.name
  are_named directory dentry up has =
      let under = in_tree directory up in
      let to = bound directory has.0 has.1 dentry under.0 under.1 has.2 in
      record { row = to.row; there = to.there; not_root = λ root. to.below (sym (home_of dentry.ino to.row to.there).own ∙ root); parent = to.parent; named = to.named }

  pub is_base : IsBase image ckpt tree
  is_base = let top = is.can.good.root in base_of_once image ckpt tree are_rows are_named (has_root tree top.0 top.1 top.2.ino top.2.parent top.2.name)
