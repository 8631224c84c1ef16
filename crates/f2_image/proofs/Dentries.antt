-- What can be decided of an image: the dentries of a directory, and how deep an ino stands.
use Rattle.std.proofs.Common.{◌≡◌, ℕ, ◌<◌, ◌≤◌, ◌==◌, nat_le, ◌||◌, Bool, true, false, cond, IsTrue, List, refl, sym, ap, ◌∙◌, subst, arith}
use Rattle.std.specs.Prelude.{Option, Some, None}
use Rattle.std.proofs.lemmas.Option.{none-some, same_Some}
use native.Mathlib.Decide.{ℕ_discrete, dec_lt}
use Rattle.f2_format.specs.Offsets.{page_limit}
use Rattle.f2_format.specs.Packing.{SLOTS_A_BLOCK}
use Rattle.f2_format.specs.Geometry.{nid_limit}
use Rattle.f2_format.specs.Dentry.{Dentry, dentry_at, begins_name}
use Rattle.f2_model.specs.declared.rows.Kind.{Kind}
use Rattle.f2_model.specs.declared.rows.Kind.TheVariants.{Regular, Directory}
use Rattle.f2_image.specs.Images.{Image, block_at}
use Rattle.f2_image.specs.Packs.{Checkpoint}
use Rattle.f2_image.specs.Nodes.{node, block_there, page_address, place_of_nid}
use Rattle.f2_image.specs.Bases.{IsInode, IsDirectoryBlock, HasDentryAt, inode_kind}

-- a number past a limit, or 0, has no block
below_limit : (image : Image) (limit nid place : ℕ) (block : List ℕ) → block_there image (cond ((nid == 0) || nat_le limit nid) 0 place) ≡ Some block → nid < limit
below_limit image limit nid place block there = by_order (dec_lt nid limit)
  where
    past : (b : Bool) (x : ℕ) → (cond (b || true) 0 x) ≡ 0
    past true x = refl
    past false x = refl

    is_past : ¬ (nid < limit) → nat_le limit nid ≡ true
    is_past no_less = le_test limit nid (omega (arith, no_less))
      where
        le_test : (m n : ℕ) → m ≤ n → nat_le m n ≡ true
        le_test m n le = grind (arith, le)

    by_order : Dec (nid < limit) → nid < limit
    by_order (yes less) = less
    by_order (no no_less) =
        let address : cond ((nid == 0) || nat_le limit nid) 0 place ≡ 0 = ap (λ b. cond ((nid == 0) || b) 0 place) (is_past no_less) ∙ past (nid == 0) place in
        absurd (none-some block (sym (ap (block_there image) address) ∙ there))

-- of two kinds one is a directory
is_directory : (kind : Option Kind) → Dec (kind ≡ Some Directory)
is_directory None = no (λ e. none-some Directory e)
is_directory (Some Regular) = no (λ e. cc)
is_directory (Some Directory) = yes refl

is_true : (b : Bool) → Dec (IsTrue b)
is_true true = yes refl
is_true false = no (λ e. cc)

module _ (image : Image) (ckpt : Checkpoint) where
  pub node_in_table : (nid : ℕ) (block : List ℕ) → node image ckpt nid ≡ Some block → nid < nid_limit ckpt.geom
  node_in_table nid block there = below_limit image (nid_limit ckpt.geom) nid (place_of_nid image ckpt nid).1 block there

  -- an inode is the only one of its ino
  pub same_inode : (ino : ℕ) (kind other : Kind) (a b : List ℕ) → IsInode image ckpt ino kind a → IsInode image ckpt ino other b → a ≡ b
  same_inode ino kind other a b p q = same_Some a b (sym p.there ∙ q.there)

  -- whether a page of a directory is there
  is_block : (directory page : ℕ) → Dec ((at : ℕ) × IsDirectoryBlock image ckpt directory page at)
  is_block directory page = by_node (node image ckpt directory) refl
    where
      by_address : (inode : List ℕ) → IsInode image ckpt directory Directory inode → page < page_limit → Dec (page_address image ckpt inode page ≡ 0) → Dec ((at : ℕ) × IsDirectoryBlock image ckpt directory page at)
      by_address inode is within (yes none) =
          no (λ found. found.1.there (sym found.1.at_page ∙ ap (λ n. page_address image ckpt n page) (same_inode directory Directory Directory found.1.inode inode found.1.is is) ∙ none))
      by_address inode is within (no there) = yes (page_address image ckpt inode page, record { inode = inode; is = is; within = within; at_page = refl; there = there })

      by_page : (inode : List ℕ) → IsInode image ckpt directory Directory inode → Dec (page < page_limit) → Dec ((at : ℕ) × IsDirectoryBlock image ckpt directory page at)
      by_page inode is (yes within) = by_address inode is within (ℕ_discrete (page_address image ckpt inode page) 0)
      by_page inode is (no past) = no (λ found. past found.1.within)

      by_kind : (inode : List ℕ) → node image ckpt directory ≡ Some inode → Dec (inode_kind inode ≡ Some Directory) → Dec ((at : ℕ) × IsDirectoryBlock image ckpt directory page at)
      by_kind inode there (yes is) = by_page inode (record { there = there; is_kind = is }) (dec_lt page page_limit)
      by_kind inode there (no other) = no (λ found. other (ap inode_kind (same_Some inode found.1.inode (sym there ∙ found.1.is.there)) ∙ found.1.is.is_kind))

      by_node : (o : Option (List ℕ)) → node image ckpt directory ≡ o → Dec ((at : ℕ) × IsDirectoryBlock image ckpt directory page at)
      by_node None e = no (λ found. none-some found.1.inode (sym e ∙ found.1.is.there))
      by_node (Some inode) e = by_kind inode e (is_directory (inode_kind inode))

  -- the address of a block of a directory
  pub same_place : (directory page a b : ℕ) → IsDirectoryBlock image ckpt directory page a → IsDirectoryBlock image ckpt directory page b → a ≡ b
  same_place directory page a b p q = sym p.at_page ∙ ap (λ inode. page_address image ckpt inode page) (same_inode directory Directory Directory p.inode q.inode p.is q.is) ∙ q.at_page

  -- the dentry of a slot
  pub same_dentry : (directory page slot : ℕ) (a b : Dentry) → HasDentryAt image ckpt directory page slot a → HasDentryAt image ckpt directory page slot b → a ≡ b
  same_dentry directory page slot a b p q = sym p.is ∙ ap (λ at. dentry_at (block_at image at) slot) (same_place directory page p.at q.at p.block q.block) ∙ q.is

  -- whether a name begins in a slot
  pub is_dentry : (directory page slot : ℕ) → Dec ((dentry : Dentry) × HasDentryAt image ckpt directory page slot dentry)
  is_dentry directory page slot = by_block (is_block directory page)
    where
      by_name : (at : ℕ) → IsDirectoryBlock image ckpt directory page at → slot < SLOTS_A_BLOCK → Dec (IsTrue (begins_name (block_at image at) slot)) → Dec ((dentry : Dentry) × HasDentryAt image ckpt directory page slot dentry)
      by_name at block within (yes begins) = yes (dentry_at (block_at image at) slot, record { at = at; block = block; within = within; begins = begins; is = refl })
      by_name at block within (no none) =
          no (λ found. none (subst (λ n. IsTrue (begins_name (block_at image n) slot)) (same_place directory page found.1.at at found.1.block block) found.1.begins))

      by_slot : (at : ℕ) → IsDirectoryBlock image ckpt directory page at → Dec (slot < SLOTS_A_BLOCK) → Dec ((dentry : Dentry) × HasDentryAt image ckpt directory page slot dentry)
      by_slot at block (yes within) = by_name at block within (is_true (begins_name (block_at image at) slot))
      by_slot at block (no past) = no (λ found. past found.1.within)

      by_block : Dec ((at : ℕ) × IsDirectoryBlock image ckpt directory page at) → Dec ((dentry : Dentry) × HasDentryAt image ckpt directory page slot dentry)
      by_block (yes found) = by_slot found.0 found.1 (dec_lt slot SLOTS_A_BLOCK)
      by_block (no none) = no (λ found. none (found.1.at, found.1.block))
