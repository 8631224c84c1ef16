-- Conditions on names and trees: what stands in one of two images that are alike stands in the other.
use Rattle.std.proofs.Common.{◌≡◌, inl, inr, ℕ, List, [], ◌∷◌, slice_index, sym, ap, ◌∙◌}
use Rattle.std.specs.List.{AllByRecursion}
use Rattle.f2_format.specs.Dentry.{Dentry}
use Rattle.f2_model.specs.Tree.{Rows}
use Rattle.f2_model.specs.declared.rows.Kind.{Kind}
use Rattle.f2_model.specs.declared.rows.Kind.TheVariants.{Regular, Directory}
use Rattle.f2_image.specs.Images.{Image}
use Rattle.f2_image.specs.Packs.{Checkpoint}
use Rattle.f2_image.specs.Bases.{IsInode, HasDentryAt, HasDentry, IsReached}
use Rattle.f2_image.specs.Bases as bases
use Rattle.f2_image.specs.Chains.{chain, marked_address}
use Rattle.f2_image.specs.Reached.{IsMarkedAt, IsMarkedPage, IsPage, HasMore}
use Rattle.f2_image.specs.Faults.{BringsName, IsConflict, IsDirectoryOf, HasNoParent, IsBelow, IsPastSize, IsBadTree, HasTree, IsSomeNode, IsBaseBlock, IsSomeBlock, IsTooFull}
use Rattle.f2_image.specs.Faults as faults
use Rattle.f2_image_laws.proofs.SameNodes.{same_marked_address, inode_of_other, marked_of_other}
use Rattle.f2_image_laws.proofs.Alike.{IsAlike, alike_back, dentry_at_of_other, dentry_of_other, reached_of_other, base_page_of_other, page_of_other, node_of_other}
use Rattle.f2_image_laws.proofs.AlikeBases.{base_of_other}
use Rattle.f2_image_laws.proofs.AlikeMarks.{marks_of_other}

-- an ino that stands below the root is in the base
pub below_is_reached : (image : Image) (ckpt : Checkpoint) (depth ino : ℕ) → IsBelow image ckpt depth ino → IsReached image ckpt ino
below_is_reached image ckpt _ _ faults.root = bases.root
below_is_reached image ckpt _ _ (faults.deeper depth directory dentry up has) = bases.below directory dentry (below_is_reached image ckpt depth directory up) has

-- more than so many have a weaker property
more_weaker : {X : Type 0} (P Q : X → Type 0) → ((x : X) → P x → Q x) → (most : ℕ) → HasMore X P most → HasMore X Q most
more_weaker {X = X} P Q weaker most has = record { some = has.some; differ = has.differ; all = each has.some has.all; more = has.more }
  where
    each : (xs : List X) → AllByRecursion P xs → AllByRecursion Q xs
    each [] all = tt
    each (x ∷ xs) all = (weaker x all.0, each xs all.1)

module _ (image other : Image) (ckpt : Checkpoint) (alike : IsAlike image other ckpt) where
  back : IsAlike other image ckpt
  back = alike_back image other ckpt alike

  -- names that marked blocks bring
  brings_of_other : (place ino parent : ℕ) (name : List ℕ) → BringsName other ckpt place ino parent name → BringsName image ckpt place ino parent name
  brings_of_other place ino parent name brings = record {
    block = brings.block;
    marked = marked_of_other image other ckpt alike.same place brings.block brings.marked;
    own = brings.own;
    fresh = λ reach. brings.fresh (reached_of_other other image ckpt back ino reach);
    under = brings.under;
    named = brings.named;
  }

  pub conflict_of_other : (ino : ℕ) → IsConflict other ckpt ino → IsConflict image ckpt ino
  conflict_of_other ino (faults.in_base place parent name dentry brings up has is) =
      let reach = reached_of_other image other ckpt alike parent up in
      faults.in_base place parent name dentry (brings_of_other place ino parent name brings) reach (dentry_of_other image other ckpt alike parent dentry reach has) is
  conflict_of_other ino (faults.in_log place earlier more parent name brings too before differ) =
      faults.in_log place earlier more parent name (brings_of_other place ino parent name brings) (brings_of_other earlier more parent name too) before differ

  directory_of_other : (ino : ℕ) → IsDirectoryOf other ckpt ino → IsDirectoryOf image ckpt ino
  directory_of_other ino is = (reached_of_other image other ckpt alike ino is.0, (is.1.0, inode_of_other image other ckpt alike.same ino Directory is.1.0 is.1.1))

  -- pages past a size
  past_of_other : (ino page at size : ℕ) → IsPage image ckpt ino page at → IsPastSize other size page at → IsPastSize image size page at
  past_of_other ino page at size is (faults.whole past) = faults.whole past
  past_of_other ino page at size is (faults.partly place small past byte) =
      faults.partly place small past (λ zero. byte (ap (λ block. slice_index block place) (alike.pages ino page at is) ∙ zero))

  below_of_other : (depth ino : ℕ) → IsBelow other ckpt depth ino → IsBelow image ckpt depth ino
  below_of_other _ _ faults.root = faults.root
  below_of_other _ _ (faults.deeper depth directory dentry up has) =
      let above = below_of_other depth directory up in
      faults.deeper depth directory dentry above (dentry_of_other image other ckpt alike directory dentry (below_is_reached image ckpt depth directory above) has)

  tree_of_other : (tree : Rows) → HasTree other ckpt tree → HasTree image ckpt tree
  tree_of_other tree has = record {
    base = has.base;
    marks = has.marks;
    is_base = base_of_other image other ckpt alike has.base has.is_base;
    are_marks = marks_of_other image other ckpt alike has.base has.marks has.are_marks;
    is = has.is;
  }

  pub full_of_other : (limit : ℕ) → IsTooFull other ckpt limit → IsTooFull image ckpt limit
  full_of_other limit (faults.base_nodes is many) =
      faults.base_nodes is (more_weaker (IsSomeNode other ckpt) (IsSomeNode image ckpt) (λ at has. (has.0, node_of_other image other ckpt alike at.0 at.1 has.0 has.1)) limit many)
  full_of_other limit (faults.base_blocks is many) =
      faults.base_blocks is (more_weaker (IsBaseBlock other ckpt) (IsBaseBlock image ckpt) (λ at has. (has.0, has.1, base_page_of_other image other ckpt alike has.0 has.1 at has.2)) limit many)
  full_of_other limit (faults.tree_nodes tree has is many) = faults.tree_nodes tree (tree_of_other tree has) is many
  full_of_other limit (faults.tree_blocks tree has is many) = faults.tree_blocks tree (tree_of_other tree has) is many
  full_of_other limit (faults.all_blocks is many) =
      faults.all_blocks is (more_weaker (IsSomeBlock other ckpt) (IsSomeBlock image ckpt) (λ at has. (has.0, has.1, page_of_other image other ckpt alike has.0 has.1 at has.2)) limit many)

-- these need both ways
module _ (image other : Image) (ckpt : Checkpoint) (alike : IsAlike image other ckpt) where
  pub parent_of_other : (ino : ℕ) → HasNoParent other ckpt ino → HasNoParent image ckpt ino
  parent_of_other ino has = record {
    place = has.place;
    parent = has.parent;
    name = has.name;
    brings = brings_of_other image other ckpt alike has.place ino has.parent has.name has.brings;
    none = λ is. has.none (directory_of_other other image ckpt (alike_back image other ckpt alike) has.parent is);
  }

  reach : (ino : ℕ) → IsReached other ckpt ino → IsReached image ckpt ino
  reach = reached_of_other image other ckpt alike

  dentry_at : (directory page slot : ℕ) (dentry : Dentry) → IsReached other ckpt directory → HasDentryAt other ckpt directory page slot dentry → HasDentryAt image ckpt directory page slot dentry
  dentry_at directory page slot dentry up has = dentry_at_of_other image other ckpt alike directory page slot dentry (reach directory up) has

  has_name : (directory : ℕ) (dentry : Dentry) → IsReached other ckpt directory → HasDentry other ckpt directory dentry → HasDentry image ckpt directory dentry
  has_name directory dentry up has = dentry_of_other image other ckpt alike directory dentry (reach directory up) has

  has_inode : (ino : ℕ) (kind : Kind) (inode : List ℕ) → IsInode other ckpt ino kind inode → IsInode image ckpt ino kind inode
  has_inode = inode_of_other image other ckpt alike.same

  marked : (place : ℕ) (block : List ℕ) → IsMarkedAt other ckpt place block → IsMarkedAt image ckpt place block
  marked = marked_of_other image other ckpt alike.same

  address : (place page at : ℕ) → marked_address other ckpt (chain other ckpt) place page ≡ at → marked_address image ckpt (chain image ckpt) place page ≡ at
  address place page at is = sym (ap (λ log. marked_address other ckpt log place page) alike.same.log ∙ same_marked_address image other ckpt alike.same (chain image ckpt) place page) ∙ is

  pub tree_fault_of_other : (ino : ℕ) → IsBadTree other ckpt ino → IsBadTree image ckpt ino
  tree_fault_of_other ino (faults.too_low directory d up has is small) = faults.too_low directory d (reach directory up) (has_name directory d up has) is small
  tree_fault_of_other ino (faults.twice directory page slot more other_page place a b up too has has_too differ is is_too) =
      faults.twice directory page slot more other_page place a b (reach directory up) (reach more too) (dentry_at directory page slot a up has) (dentry_at more other_page place b too has_too) differ is is_too
  tree_fault_of_other ino (faults.other_kind directory d kind block up has is is_inode differ) =
      faults.other_kind directory d kind block (reach directory up) (has_name directory d up has) is (has_inode ino kind block is_inode) differ
  tree_fault_of_other ino (faults.same_name directory page slot more place a b up has has_too differ same is) =
      faults.same_name directory page slot more place a b (reach directory up) (dentry_at directory page slot a up has) (dentry_at directory more place b up has_too) differ same is
  tree_fault_of_other ino (faults.bad_name directory d up has bad is) = faults.bad_name directory d (reach directory up) (has_name directory d up has) bad is
  tree_fault_of_other ino (faults.too_deep depth kind block is is_inode deep) = faults.too_deep depth kind block (below_of_other image other ckpt alike depth ino is) (has_inode ino kind block is_inode) deep
  tree_fault_of_other ino (faults.past_size page at block up is_inode is past) =
      let here = base_page_of_other image other ckpt alike ino page at is in
      faults.past_size page at block (reach ino up) (has_inode ino Regular block is_inode) here (past_of_other image other ckpt alike ino page at _ (inl here) past)
  tree_fault_of_other ino (faults.marked_past_size place page at block is own within here there past) =
      let is_page : IsMarkedPage image ckpt ino page at = record { place = place; inode = block; marked = marked place block is; own = own; within = within; address = address place page at here; there = there } in
      faults.marked_past_size place page at block (marked place block is) own within (address place page at here) there (past_of_other image other ckpt alike ino page at _ (inr is_page) past)
  tree_fault_of_other ino (faults.marked_directory place block is own (inl kind)) = faults.marked_directory place block (marked place block is) own (inl kind)
  tree_fault_of_other ino (faults.marked_directory place block is own (inr directory)) = faults.marked_directory place block (marked place block is) own (inr (directory_of_other image other ckpt alike ino directory))
  tree_fault_of_other ino (faults.unbound place block is own none unmarked) =
      faults.unbound place block (marked place block is) own (λ here. none (reached_of_other other image ckpt (alike_back image other ckpt alike) ino here)) unmarked
  tree_fault_of_other ino (faults.marked_bad_name place parent name brings bad) = faults.marked_bad_name place parent name (brings_of_other image other ckpt alike place ino parent name brings) bad
  tree_fault_of_other ino (faults.root_file block is_inode is) = faults.root_file block (has_inode _ Regular block is_inode) is
