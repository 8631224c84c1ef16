-- A tree that stands at its places is the base of its image.
use Rattle.std.proofs.Common.{◌≡◌, ◌≢◌, ℕ, zero, suc, ◌*◌, ◌<◌, ◌≤◌, List, refl, sym, ap, ◌∙◌, subst, arith, is_some, true≢false}
use Rattle.std.specs.Prelude.{Option, Some, None}
use Rattle.std.specs.Option.{unwrap_or}
use Rattle.std.specs.FinMap as map
use Rattle.f2_format.specs.Offsets.{page_limit}
use Rattle.f2_format.specs.Dentry.{Dentry}
use Rattle.f2_format.specs.Inode.{SIZE_LIMIT}
use Rattle.f2_model.specs.Content.{PAGE}
use Rattle.f2_model.specs.Tree.{Rows, ROOT, IsAtDepth}
use Rattle.f2_model.specs.declared.rows.Row.{Row}
use Rattle.f2_model.specs.declared.rows.Kind.{Kind}
use Rattle.f2_model.specs.declared.rows.Kind.TheVariants.{Regular, Directory}
use Rattle.f2_image.specs.Images.{Image}
use Rattle.f2_image.specs.Packs.{Checkpoint}
use Rattle.f2_image.specs.Nodes.{block_there}
use Rattle.f2_image.specs.Bases.{HasDentryAt, HasDentry, IsReached, root, below, HasContent, IsBaseRow, IsBase}
use Rattle.f2_image.proofs.OneName.{StandsOnce, has_root, base_of_once}
use Rattle.f2_stored.specs.Places.{Places, page_at, IsBound}
use Rattle.f2_place_laws.proofs.Stood.{IsStood, block_is_there}
use Rattle.f2_place_laws.proofs.Homes.{IsHome, home, inode_block, is_inode, page_is, page_some, bytes_of, names_of, block_found, seen, shown}

-- a page that begins before the greatest size is one of a file's
page_small : (page size : ℕ) → page * PAGE < size → size ≤ SIZE_LIMIT → page < page_limit
page_small page size before small = omega (arith, before, small)

module _ (image : Image) (ckpt : Checkpoint) (tree : Rows) (places : Places) (is : IsStood image ckpt tree places) where
  pub home_of : (ino : ℕ) (row : Row) → map.get tree ino ≡ Some row → IsHome image ckpt tree places ino row
  home_of = home image ckpt tree places is

  -- what has a dentry is a directory, and each of its dentries is bound
  pub is_directory : (ino page slot : ℕ) (dentry : Dentry) (row : Row) → map.get tree ino ≡ Some row → HasDentryAt image ckpt ino page slot dentry → row.kind ≡ Directory
  is_directory ino page slot dentry row there has = (block_found image ckpt tree places is ino row (home_of ino row there) page has.at has.block).1

  pub bound : (ino page slot : ℕ) (dentry : Dentry) (row : Row) → map.get tree ino ≡ Some row → HasDentryAt image ckpt ino page slot dentry → IsBound tree ino dentry
  bound ino page slot dentry row there has =
      let at = home_of ino row there in
      let held = names_of image ckpt tree places is ino row at (is_directory ino page slot dentry row there has) in
      let found = seen image ckpt tree places is ino row at page slot dentry has in
      held.bound page found.place dentry found.is_at

  -- what is reached is in the tree
  pub in_tree : (ino : ℕ) → IsReached image ckpt ino → (row : Row) × (map.get tree ino ≡ Some row)
  in_tree _ root = let top = is.proper.good.root in (top.0, top.1)
  in_tree _ (below directory dentry up has) =
      let under = in_tree directory up in
      let to = bound directory has.0 has.1 dentry under.0 under.1 has.2 in
      (to.row, to.there)

  -- a row of the tree has a dentry in its directory
  dentry_of : (ino : ℕ) (row up : Row) → map.get tree ino ≡ Some row → ino ≢ ROOT → map.get tree row.parent ≡ Some up → up.kind ≡ Directory → (dentry : Dentry) × HasDentry image ckpt row.parent dentry × (dentry.ino ≡ ino)
  dentry_of ino row up there not_root above kind =
      let at = home_of row.parent up above in
      let held = names_of image ckpt tree places is row.parent up at kind in
      let found = held.all ino row there not_root refl in
      let has = shown image ckpt tree places is row.parent up at kind found.0 found.1 found.2.0 found.2.1 in
      (found.2.0, (found.0, has.0, has.1), found.2.2)

  -- what is in the tree is reached
  reached_at : (depth ino : ℕ) (row : Row) → map.get tree ino ≡ Some row → IsAtDepth tree depth ino → IsReached image ckpt ino
  reached_at zero ino row there at = subst (IsReached image ckpt) (sym at) root
  reached_at (suc depth) ino row there at =
      let up = is.proper.good.parents ino at.1.0 at.1.1 in
      let above = reached_at depth at.1.0.parent up.0 up.1 at.1.2 in
      let found = dentry_of ino at.1.0 up.0 at.1.1 at.0 up.1 up.2 in
      subst (IsReached image ckpt) found.2 (below at.1.0.parent found.0 above found.1)

  pub reached : (ino : ℕ) (row : Row) → map.get tree ino ≡ Some row → IsReached image ckpt ino
  reached ino row there = let deep = is.proper.good.reached ino row there in reached_at deep.0 ino row there deep.2

  -- the pages of a file
  pub file_page : (ino : ℕ) (row : Row) (there : map.get tree ino ≡ Some row) → row.kind ≡ Regular → (page : ℕ) → page < page_limit → map.get row.pages page ≡ block_there image (page_at places ino page)
  file_page ino row there kind page within =
      by_page (map.get places.pages (ino, page)) refl
    where
      not_there : (o : Option (List ℕ)) → map.get row.pages page ≡ o → map.get places.pages (ino, page) ≡ None → map.get row.pages page ≡ None
      not_there None e none = e
      not_there (Some bytes) e none =
          let told = is.stands.rows ino row there kind page (ap is_some e) in
          let own = (home_of ino row there).own in
          absurd (true≢false (sym told ∙ ap (λ n. is_some (map.get places.pages (n, page))) own ∙ ap is_some none))

      by_page : (o : Option ℕ) → map.get places.pages (ino, page) ≡ o → map.get row.pages page ≡ block_there image (page_at places ino page)
      by_page None e = not_there (map.get row.pages page) refl e ∙ sym (ap (λ o. block_there image (unwrap_or o 0)) e)
      by_page (Some at) e =
          let some = page_some image ckpt tree places is ino page (ap is_some e) in
          bytes_of image ckpt tree places is ino row (home_of ino row there) kind page some ∙ sym (block_is_there image (page_at places ino page) some)

  page_within : (ino : ℕ) (row : Row) → map.get tree ino ≡ Some row → (page : ℕ) (bytes : List ℕ) → map.get row.pages page ≡ Some bytes → page < page_limit
  page_within ino row there page bytes has =
      let good = is.proper.good.pages ino row there in
      page_small page row.size (good.before page bytes has) good.size

  content : (ino : ℕ) (row : Row) (there : map.get tree ino ≡ Some row) (kind : Kind) → row.kind ≡ kind → HasContent image ckpt (inode_block image ckpt tree places is ino row (home_of ino row there)) kind row
  content ino row there Regular e =
      let at = home_of ino row there in (
        sym (at.inode.size e),
        (λ page within. file_page ino row there e page within ∙ sym (ap (block_there image) (page_is image ckpt tree places is ino row at page within))),
        page_within ino row there,
      )
  content ino row there Directory e = (is.proper.good.pages ino row there).directory e

  are_rows : (ino : ℕ) (row : Row) → map.get tree ino ≡ Some row → IsBaseRow image ckpt ino row
  are_rows ino row there = let at = home_of ino row there in record {
    own = at.own;
    reached = reached ino row there;
    inode = inode_block image ckpt tree places is ino row at;
    is = is_inode image ckpt tree places is ino row at;
    content = content ino row there row.kind refl;
  }

  are_named : (directory : ℕ) (dentry : Dentry) → IsReached image ckpt directory → HasDentry image ckpt directory dentry → StandsOnce tree dentry.ino directory dentry.name
  are_named directory dentry up has =
      let under = in_tree directory up in
      let to = bound directory has.0 has.1 dentry under.0 under.1 has.2 in
      record { row = to.row; there = to.there; not_root = λ root. to.below (sym (home_of dentry.ino to.row to.there).own ∙ root); parent = to.parent; named = to.named }

  pub is_base : IsBase image ckpt tree
  is_base = let top = is.proper.good.root in base_of_once image ckpt tree are_rows are_named (has_root tree top.0 top.1 top.2.ino top.2.parent top.2.name)
