-- A tree that is laid out is a good tree in its image.
use Rattle.std.proofs.Common.{◌≡◌, ◌≢◌, ◌⊎◌, ℕ, ◌+◌, ◌*◌, ◌<◌, ◌≤◌, List, slice_index, sym, ap, ◌∙◌, subst, arith, true≢false}
use Rattle.std.specs.Prelude.{Some}
use Rattle.std.specs.FinMap as map
use Rattle.f2_format.specs.Inode.{inode_of}
use Rattle.f2_format.specs.Dentry.{Dentry}
use Rattle.f2_model.specs.Names.{is_good_name}
use Rattle.f2_model.specs.Content.{PAGE}
use Rattle.f2_model.specs.Tree.{most_depth, Rows, ROOT}
use Rattle.f2_model.specs.declared.rows.Row.{Row}
use Rattle.f2_model.specs.declared.rows.Kind.{Kind}
use Rattle.f2_model.specs.declared.rows.Kind.TheVariants.{Regular, Directory}
use Rattle.f2_image.specs.Reached.{IsBasePage}
use Rattle.f2_image.specs.Faults as faults
use Rattle.f2_image.specs.Faults.{type_of_kind, IsBelow, IsPastSize, whole, partly, IsBadTree}
use Rattle.f2_image.specs.Images.{Image, block_at}
use Rattle.f2_image.specs.Packs.{Checkpoint}
use Rattle.f2_image.specs.Nodes.{block_there}
use Rattle.f2_image.specs.Bases.{IsInode, IsReached, HasDentryAt}
use Rattle.f2_image.proofs.OneBase.{same_some}
use Rattle.f2_laid.specs.Laid.{page_at, page_in, IsBound}
use Rattle.f2_laid.specs.declared.stored.Stored.{Stored}
use Rattle.f2_laid_laws.proofs.Refuted.{neither, none_of_three}
use Rattle.f2_laid_laws.proofs.Homes.{block_is_there, inode_is, page_short}
use Rattle.f2_laid_laws.proofs.Listings.{pages_held, one_name, seen_at}
use Rattle.f2_laid_laws.proofs.Base.{IsStored, geometry, home_of, listing, is_directory, bound, in_tree}
use Rattle.f2_laid_laws.proofs.NoLog.{none_marked}
use Rattle.f2_laid_laws.proofs.Nodes.{own_page}
use Rattle.f2_laid_laws.proofs.Depths.{reached_below, shallow}

module _ (image : Image) (ckpt : Checkpoint) (tree : Rows) (stored : Stored) (is : IsStored image ckpt tree stored) where
  -- two dentries of one directory with one name stand at one place
  one_dentry : (directory page slot more place : ℕ) (a b : Dentry) → IsReached image ckpt directory → HasDentryAt image ckpt directory page slot a → HasDentryAt image ckpt directory more place b → a.name ≡ b.name → (page ≡ more) × (slot ≡ place)
  one_dentry directory page slot more place a b reach has_a has_b same =
      let row = in_tree image ckpt tree stored is directory reach in
      let at = home_of image ckpt tree stored is directory row.0 row.1 in
      let held = listing image ckpt tree stored is directory row.0 row.1 (is_directory image ckpt tree stored is directory page slot a row.0 row.1 has_a) in
      let right = geometry image ckpt tree stored is in
      let seen = seen_at image ckpt tree stored is.can right directory row.0 row.1 at held in
      one_name ckpt.geom right tree is.can row.0.ino held.dentries held.are page slot more place a b (seen page slot a has_a) (seen more place b has_b) same

  -- a dentry of what is reached is bound to a row
  bound_to : (directory page slot : ℕ) (dentry : Dentry) → IsReached image ckpt directory → HasDentryAt image ckpt directory page slot dentry → IsBound tree directory dentry
  bound_to directory page slot dentry reach has =
      let row = in_tree image ckpt tree stored is directory reach in
      bound image ckpt tree stored is directory page slot dentry row.0 row.1 has

  -- an ino has one dentry, and a name stands once in a directory
  not_twice : (ino directory page slot other more place : ℕ) (a b : Dentry) → IsReached image ckpt directory → IsReached image ckpt other → HasDentryAt image ckpt directory page slot a → HasDentryAt image ckpt other more place b
      → (directory ≢ other) ⊎ (page ≢ more) ⊎ (slot ≢ place) → a.ino ≡ ino → b.ino ≡ ino → ⊥
  not_twice ino directory page slot other more place a b reach_a reach_b has_a has_b bad a_is b_is =
      let to_a = bound_to directory page slot a reach_a has_a in
      let to_b = bound_to other more place b reach_b has_b in
      let row : to_a.row ≡ to_b.row = same_some to_a.row to_b.row (sym to_a.there ∙ ap (map.get tree) (a_is ∙ sym b_is) ∙ to_b.there) in
      let same : directory ≡ other = sym to_a.parent ∙ ap (λ (r : Row). r.parent) row ∙ to_b.parent in
      let name : a.name ≡ b.name = sym to_a.named ∙ ap (λ (r : Row). r.name) row ∙ to_b.named in
      let one = one_dentry directory page slot more place a b reach_a has_a (subst (λ d. HasDentryAt image ckpt d more place b) (sym same) has_b) name in
      none_of_three same one.0 one.1 bad

  not_named_twice : (directory page slot more place : ℕ) (a b : Dentry) → IsReached image ckpt directory → HasDentryAt image ckpt directory page slot a → HasDentryAt image ckpt directory more place b
      → (page ≢ more) ⊎ (slot ≢ place) → a.name ≡ b.name → ⊥
  not_named_twice directory page slot more place a b reach has_a has_b bad name =
      let one = one_dentry directory page slot more place a b reach has_a has_b name in
      neither one.0 one.1 bad

  -- the type of a dentry is that of its row
  right_type : (ino directory page slot : ℕ) (dentry : Dentry) (kind : Kind) (inode : List ℕ) → IsReached image ckpt directory → HasDentryAt image ckpt directory page slot dentry → dentry.ino ≡ ino → IsInode image ckpt ino kind inode
      → type_of_kind kind ≢ dentry.type → ⊥
  right_type ino directory page slot dentry kind inode reach has is_ino is_inode bad =
      let to = bound_to directory page slot dentry reach has in
      let there : map.get tree ino ≡ Some to.row = ap (map.get tree) (sym is_ino) ∙ to.there in
      let same = (inode_is image ckpt tree stored ino to.row (home_of image ckpt tree stored is ino to.row there) kind inode is_inode).1 in
      bad (ap type_of_kind same ∙ sym to.typed)

  -- a page of a file within its size, and zeros past it
  within_size : (ino page at : ℕ) (inode : List ℕ) → IsInode image ckpt ino Regular inode → IsBasePage image ckpt ino page at → IsPastSize image (inode_of inode).size page at → ⊥
  within_size ino page at inode is_inode is_page bad =
      let own = own_page image ckpt tree stored is ino page at is_page in
      let is_row = inode_is image ckpt tree stored ino own.row own.at Regular inode is_inode in
      let size : (inode_of inode).size ≡ own.row.size = ap (λ bytes. (inode_of bytes).size) is_row.0 ∙ own.at.inode.own_size (sym is_row.1) in
      let some : page_at own.at.place page ≢ 0 = λ none. is_page.there (sym own.stands ∙ none) in
      let short = page_short image ckpt tree stored ino own.row own.at page some in
      let bytes : map.get own.row.pages page ≡ Some (block_at image at) =
      sym (pages_held tree own.row (page_in image own.at.place) own.at.content (sym is_row.1) page short) ∙ ap (block_there image) own.stands ∙ block_is_there image at is_page.there in
      let good = is.can.good.pages ino own.row own.there in
      by_part own.row.size (inode_of inode).size size (good.before page (block_at image at) bytes) (λ place. good.zeros page place (block_at image at) bytes) bad
    where
      by_part : (row_size size : ℕ) → size ≡ row_size → page * PAGE < row_size → ((place : ℕ) → row_size ≤ page * PAGE + place → slice_index (block_at image at) place ≡ 0) → IsPastSize image size page at → ⊥
      by_part row_size size same before zeros (whole beyond) = omega (arith, same, before, beyond)
      by_part row_size size same before zeros (partly place within beyond some) = some (zeros place (subst (λ n. n ≤ page * PAGE + place) same beyond))

  -- nothing is too deep, and the root is a directory
  not_deep : (ino depth : ℕ) (kind : Kind) (inode : List ℕ) → IsBelow image ckpt depth ino → IsInode image ckpt ino kind inode → most_depth kind < depth → ⊥
  not_deep ino depth kind inode below is_inode deep =
      let row = in_tree image ckpt tree stored is ino (reached_below image ckpt tree stored is depth ino below) in
      let same = (inode_is image ckpt tree stored ino row.0 (home_of image ckpt tree stored is ino row.0 row.1) kind inode is_inode).1 in
      let high = shallow image ckpt tree stored is depth ino row.0 row.1 below in
      let limit = ap most_depth same in
      omega (arith, high, limit, deep)

  root_directory : (inode : List ℕ) → IsInode image ckpt ROOT Regular inode → ⊥
  root_directory inode is_inode =
      let top = is.can.good.root in
      let same = (inode_is image ckpt tree stored ROOT top.0 (home_of image ckpt tree stored is ROOT top.0 top.1) Regular inode is_inode).1 in
      other (same ∙ top.2.kind)
    where
      other : Regular ≡ Directory → ⊥
      other e = cc

  pub right_tree : (ino : ℕ) → IsBadTree image ckpt ino → ⊥
  right_tree ino (faults.too_low directory dentry reach has same low) =
      let to = bound_to directory has.0 has.1 dentry reach has.2 in
      let high = is.can.low dentry.ino to.row to.there to.below in
      omega (arith, high, same, low)
  right_tree ino (faults.twice directory page slot other more place a b reach_a reach_b has_a has_b bad a_is b_is) = not_twice ino directory page slot other more place a b reach_a reach_b has_a has_b bad a_is b_is
  right_tree ino (faults.other_kind directory dentry kind inode reach has is_ino is_inode bad) = right_type ino directory has.0 has.1 dentry kind inode reach has.2 is_ino is_inode bad
  right_tree ino (faults.same_name directory page slot more place a b reach has_a has_b bad name is_ino) = not_named_twice directory page slot more place a b reach has_a has_b bad name
  right_tree ino (faults.bad_name directory dentry reach has bad is_ino) =
      let to = bound_to directory has.0 has.1 dentry reach has.2 in
      true≢false (sym (is.can.good.names dentry.ino to.row to.there to.below) ∙ ap is_good_name to.named ∙ bad)
  right_tree ino (faults.too_deep depth kind inode below is_inode deep) = not_deep ino depth kind inode below is_inode deep
  right_tree ino (faults.past_size page at inode reach is_inode is_page bad) = within_size ino page at inode is_inode is_page bad
  right_tree ino (faults.marked_past_size place page at inode marked own within address some bad) = none_marked image ckpt tree stored is place inode marked
  right_tree ino (faults.marked_directory place inode marked own bad) = none_marked image ckpt tree stored is place inode marked
  right_tree ino (faults.unbound place inode marked own fresh bad) = none_marked image ckpt tree stored is place inode marked
  right_tree ino (faults.marked_bad_name place parent name brings bad) = none_marked image ckpt tree stored is place brings.block brings.marked
  right_tree ino (faults.root_file inode is_inode same) = root_directory inode is_inode
