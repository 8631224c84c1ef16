-- Base and marks are a good tree.
use Rattle.std.proofs.Common.{◌≡◌, ◌≢◌, ◌⊎◌, ℕ, ◌<◌, List, sym, ◌∙◌, subst, arith}
use Rattle.std.proofs.lemmas.Bool.{both_ways}
use Rattle.f2_format.specs.Dentry.{Dentry}
use Rattle.f2_format.specs.Inode.{inode_of}
use Rattle.f2_format.specs.Offsets.{page_limit}
use Rattle.f2_model.specs.Tree.{most_depth}
use Rattle.f2_model.specs.declared.rows.Kind.{Kind}
use Rattle.f2_image.specs.Images.{Image}
use Rattle.f2_image.specs.Packs.{Checkpoint}
use Rattle.f2_image.specs.Bases.{IsInode, IsReached, HasDentryAt, HasDentry}
use Rattle.f2_image.specs.Chains.{chain, marked_address}
use Rattle.f2_image.specs.Reached.{IsMarkedAt}
use Rattle.f2_image.specs.Faults as faults
use Rattle.f2_image.specs.Faults.{IsBelow, IsPastSize, IsBadTree, type_of_kind}
use Rattle.f2_overlay.specs.Names.{HasRightMarks}
use Rattle.f2_overlay.specs.Rolls.{HasRightPages}
use Rattle.f2_recover_laws.specs.Sound.{HasRightNames}
use Rattle.f2_overlay_laws.proofs.Refuted.{neither, none_of_three}
use Rattle.f2_overlay_laws.proofs.RightMarks.{no_directory}

module _ (image : Image) (ckpt : Checkpoint) (names : HasRightNames image ckpt) where
  not_twice : (directory page slot other more place : ℕ) (a b : Dentry) → IsReached image ckpt directory → IsReached image ckpt other → HasDentryAt image ckpt directory page slot a → HasDentryAt image ckpt other more place b
      → (directory ≢ other) ⊎ (page ≢ more) ⊎ (slot ≢ place) → a.ino ≡ b.ino → ⊥
  not_twice directory page slot other more place a b reached above has_a has_b differ same = let one = names.once directory page slot other more place a b reached above has_a has_b same in none_of_three one.0 one.1 one.2 differ

  right_type : (ino directory : ℕ) (dentry : Dentry) (kind : Kind) (inode : List ℕ) → IsReached image ckpt directory → HasDentry image ckpt directory dentry → dentry.ino ≡ ino → IsInode image ckpt ino kind inode
      → type_of_kind kind ≡ dentry.type
  right_type ino directory dentry kind inode reached has own is = names.kinds directory dentry kind inode reached has (subst (λ n. IsInode image ckpt n kind inode) (sym own) is)

  not_deep : (depth ino : ℕ) (kind : Kind) (inode : List ℕ) → IsBelow image ckpt depth ino → IsInode image ckpt ino kind inode → most_depth kind < depth → ⊥
  not_deep depth ino kind inode below is deep = let fit = names.depth depth ino kind inode below is in omega (arith, fit, deep)

  module _ (marks : HasRightMarks image ckpt) (pages : HasRightPages image ckpt) where
    -- a marked file ends where its inode says
    marked_ends : (place page at : ℕ) (inode : List ℕ) → IsMarkedAt image ckpt place inode → page < page_limit → marked_address image ckpt (chain image ckpt) place page ≡ at → at ≢ 0 → IsPastSize image (inode_of inode).size page at → ⊥
    marked_ends place page at inode marked within address some past =
        pages.ends place page inode marked within (λ none. some (sym address ∙ none)) (subst (λ n. IsPastSize image (inode_of inode).size page n) (sym address) past)

    pub right_tree : (ino : ℕ) → IsBadTree image ckpt ino → ⊥
    right_tree ino (faults.too_low directory dentry reached has own low) = let least = names.least directory dentry reached has in omega (arith, least, own, low)
    right_tree ino (faults.twice directory page slot other more place a b reached above has_a has_b differ a_is b_is) = not_twice directory page slot other more place a b reached above has_a has_b differ (a_is ∙ sym b_is)
    right_tree ino (faults.other_kind directory dentry kind inode reached has own is other) = other (right_type ino directory dentry kind inode reached has own is)
    right_tree ino (faults.same_name directory page slot more place a b reached has_a has_b differ same own) = let one = names.names directory page slot more place a b reached has_a has_b same in neither one.0 one.1 differ
    right_tree ino (faults.bad_name directory dentry reached has bad own) = both_ways _ bad (names.good directory dentry reached has)
    right_tree ino (faults.too_deep depth kind inode below is deep) = not_deep depth ino kind inode below is deep
    right_tree ino (faults.past_size page at inode reached is is_page past) = names.ends ino page at inode reached is is_page past
    right_tree ino (faults.marked_past_size place page at inode marked own within address some past) = marked_ends place page at inode marked within address some past
    right_tree ino (faults.marked_directory place inode marked own bad) = no_directory image ckpt marks ino inode (marks.marks place inode marked) own bad
    right_tree ino (faults.unbound place inode marked own fresh bad) = both_ways _ bad ((marks.marks place inode marked).bound (λ reached. fresh (subst (IsReached image ckpt) own reached)))
    right_tree ino (faults.marked_bad_name place parent name brings bad) = both_ways _ bad (marks.names place ino parent name brings).good
    right_tree ino (faults.root_file inode is own) = names.root inode is
