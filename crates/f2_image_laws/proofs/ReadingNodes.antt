-- Images that agree on what a sound one depends on have the same node address table and nodes, whatever their node logs are.
use Rattle.std.proofs.Common.{◌≡◌, ◌≢◌, ℕ, ◌<◌, ◌≤◌, ◌==◌, ◌||◌, nat_le, Bool, true, false, cond, IsTrue, List, [], ◌∷◌, slice_index_or, refl, sym, ap, ◌∙◌, subst, arith}
use Rattle.std.specs.Prelude.{Option, Some, None, nat_eq}
use Rattle.std.specs.Option.{unwrap_or}
use Rattle.std.specs.Cmp.Lexicographic.{pointwise, same_text, other_text}
use native.Mathlib.Decide.{dec_lt}
use Rattle.f2_format.specs.Offsets.{direct_of}
use Rattle.f2_format.specs.Geometry.{nat_address, nid_limit}
use Rattle.f2_format.specs.Nat.{nat_entry, nat_block_of, nat_place_of, is_second_copy}
use Rattle.f2_format.specs.Footer.{footer_ino}
use Rattle.f2_format.specs.Inode.{inode_of, node_word}
use Rattle.f2_format.specs.Journal.{journal_find}
use Rattle.f2_format.specs.Dentry.{Dentry, dentry_at, begins_name}
use Rattle.f2_model.specs.declared.rows.Kind.{Kind}
use Rattle.f2_image.specs.Images.{Image, block_at}
use Rattle.f2_image.specs.Packs.{Checkpoint, journal}
use Rattle.f2_image.specs.Nodes.{place_of_nid, node_address, block_there, node, node_along, node_below, direct_node, address_in, page_address}
use Rattle.f2_image.specs.Bases.{IsInode, IsDirectoryBlock, HasDentryAt}
use Rattle.f2_image.specs.Chains.{Logged, block_in, or_below, base_direct, logged_direct, marked_address}
use Rattle.f2_image.specs.Faults.{IsSound, BadNat}
use Rattle.f2_image.specs.Faults as faults
use Rattle.f2_image_laws.specs.Depending.{DependsOn}
use Rattle.f2_image_laws.specs.Depending as depending
use Rattle.f2_image_laws.proofs.Agreeing.{sound_table, bad_nat, block_there-same}

-- lists of numbers are the same or differ
same_or_not : (xs ys : List ℕ) → Dec (xs ≡ ys)
same_or_not xs ys = by_test (pointwise nat_eq xs ys) refl
  where
    by_test : (b : Bool) → b ≡ pointwise nat_eq xs ys → Dec (xs ≡ ys)
    by_test true e = yes (same_text xs ys e)
    by_test false e = no (other_text xs ys e)

-- past the table there is no address
pub none_past : (limit nid place : ℕ) → ¬ (nid < limit) → cond ((nid == 0) || nat_le limit nid) 0 place ≡ 0
none_past limit nid place past = ap (λ b. cond ((nid == 0) || b) 0 place) (test limit nid (omega (arith, past))) ∙ either (nid == 0)
  where
    test : (m n : ℕ) → m ≤ n → nat_le m n ≡ true
    test m n le = grind (arith, le)

    either : (b : Bool) → cond (b || true) 0 place ≡ 0
    either true = refl
    either false = refl

-- an address comes from the table
from_table : (limit nid place : ℕ) → cond ((nid == 0) || nat_le limit nid) 0 place ≢ 0 → (nid < limit) × (place ≢ 0)
from_table limit nid place there = (by_order (dec_lt nid limit), λ none. there (of_zero ((nid == 0) || nat_le limit nid) place none))
  where
    by_order : Dec (nid < limit) → nid < limit
    by_order (yes small) = small
    by_order (no past) = absurd (there (none_past limit nid place past))

    of_zero : (b : Bool) (place : ℕ) → place ≡ 0 → cond b 0 place ≡ 0
    of_zero true place none = refl
    of_zero false place none = none

-- the same node address table, as far as it goes, and the same nodes
pub record SameTable (image other : Image) (ckpt : Checkpoint) : Type 0 where
  pub places : (nid : ℕ) → nid < nid_limit ckpt.geom → place_of_nid other ckpt nid ≡ place_of_nid image ckpt nid
  pub addresses : (nid : ℕ) → node_address other ckpt nid ≡ node_address image ckpt nid
  pub nodes : (nid : ℕ) → node other ckpt nid ≡ node image ckpt nid

pub same_table_back : (image other : Image) (ckpt : Checkpoint) → SameTable image other ckpt → SameTable other image ckpt
same_table_back image other ckpt same = record {
  places = λ nid small. sym (same.places nid small);
  addresses = λ nid. sym (same.addresses nid);
  nodes = λ nid. sym (same.nodes nid);
}

module _ (image other : Image) (ckpt : Checkpoint) (sound : IsSound image ckpt) (agree : (at : ℕ) → DependsOn image ckpt at → block_at other at ≡ block_at image at) where
  same_place : (nid : ℕ) → nid < nid_limit ckpt.geom → place_of_nid other ckpt nid ≡ place_of_nid image ckpt nid
  unfolding place_of_nid
  same_place nid small =
      ap (λ block. unwrap_or (journal_find (journal ckpt) nid) (nat_entry block (nat_place_of nid))) (agree (nat_address ckpt.geom (nat_block_of nid) (is_second_copy ckpt.head.bitmap (nat_block_of nid))) (depending.table nid small refl))

  same_address : (nid : ℕ) → node_address other ckpt nid ≡ node_address image ckpt nid
  same_address nid = by_order (dec_lt nid (nid_limit ckpt.geom))
    where
      by_order : Dec (nid < nid_limit ckpt.geom) → node_address other ckpt nid ≡ node_address image ckpt nid
      by_order (yes small) = ap (λ place. cond ((nid == 0) || nat_le (nid_limit ckpt.geom) nid) 0 place.1) (same_place nid small)
      by_order (no past) = none_past (nid_limit ckpt.geom) nid (place_of_nid other ckpt nid).1 past ∙ sym (none_past (nid_limit ckpt.geom) nid (place_of_nid image ckpt nid).1 past)

  -- an address in the table of a sound image is that of a node of the base
  same_at_address : (nid : ℕ) → node_address image ckpt nid ≢ 0 → block_at other (node_address image ckpt nid) ≡ block_at image (node_address image ckpt nid)
  same_at_address nid there = by_test (same_or_not (block_at other (node_address image ckpt nid)) (block_at image (node_address image ckpt nid)))
    where
      by_test : Dec (block_at other (node_address image ckpt nid) ≡ block_at image (node_address image ckpt nid)) → block_at other (node_address image ckpt nid) ≡ block_at image (node_address image ckpt nid)
      by_test (yes same) = same
      by_test (no differ) =
          let place = from_table (nid_limit ckpt.geom) nid (place_of_nid image ckpt nid).1 there in
          absurd (sound BadNat nid bad_nat (
            sound_table image ckpt sound,
            faults.unreached place.0 place.1 (λ ino offset is. differ (agree (node_address image ckpt nid) (depending.node ino offset nid is refl))),
          ))

  pub same_table : SameTable image other ckpt
  same_table = record {
    places = same_place;
    addresses = same_address;
    nodes = λ nid. ap (block_there other) (same_address nid) ∙ block_there-same image other (node_address image ckpt nid) (same_at_address nid);
  }

-- from here on things move from the other image to the first
module _ (image other : Image) (ckpt : Checkpoint) (same : SameTable image other ckpt) where
  -- the ways to pages
  same_along : (from : Option (List ℕ)) (slots : List ℕ) → node_along other ckpt from slots ≡ node_along image ckpt from slots
  same_along from [] = refl
  same_along None (slot ∷ slots) = refl
  same_along (Some block) (slot ∷ slots) = ap (λ x. node_along other ckpt x slots) (same.nodes (node_word block slot)) ∙ same_along (node image ckpt (node_word block slot)) slots

  same_below : (inode : List ℕ) (slots : List ℕ) → node_below other ckpt inode slots ≡ node_below image ckpt inode slots
  same_below inode [] = refl
  same_below inode (slot ∷ slots) =
      let nid = slice_index_or (inode_of inode).nids slot 0 in
      ap (λ x. node_along other ckpt x slots) (same.nodes nid) ∙ same_along (node image ckpt nid) slots

  same_direct : (inode : List ℕ) (page : ℕ) → direct_node other ckpt inode page ≡ direct_node image ckpt inode page
  unfolding direct_node
  same_direct inode page = same_below inode _

  pub read_page_address : (inode : List ℕ) (page : ℕ) → page_address other ckpt inode page ≡ page_address image ckpt inode page
  read_page_address inode page = ap (λ direct. address_in inode direct page) (same_direct inode page)

  same_base_direct : (inode : Option (List ℕ)) (page : ℕ) → base_direct other ckpt inode page ≡ base_direct image ckpt inode page
  same_base_direct None page = refl
  same_base_direct (Some inode) page = same_direct inode page

  pub read_marked_address : (log : List Logged) (place page : ℕ) → marked_address other ckpt log place page ≡ marked_address image ckpt log place page
  read_marked_address log place page =
      let ino = footer_ino (block_in log place) in
      ap (λ base. address_in (block_in log place) (or_below (logged_direct log place ino (direct_of page)) base) page)
      (ap (λ inode. base_direct other ckpt inode page) (same.nodes ino) ∙ same_base_direct (node image ckpt ino) page)

  -- inodes and blocks of directories
  pub read_inode : (ino : ℕ) (kind : Kind) (inode : List ℕ) → IsInode other ckpt ino kind inode → IsInode image ckpt ino kind inode
  read_inode ino kind inode is = record { there = sym (same.nodes ino) ∙ is.there; is_kind = is.is_kind }

  pub read_directory_block : (directory page at : ℕ) → IsDirectoryBlock other ckpt directory page at → IsDirectoryBlock image ckpt directory page at
  read_directory_block directory page at is = record {
    inode = is.inode;
    is = read_inode directory _ is.inode is.is;
    within = is.within;
    at_page = sym (read_page_address is.inode page) ∙ is.at_page;
    there = is.there;
  }

  pub read_dentry_in : (directory page slot : ℕ) (dentry : Dentry) (has : HasDentryAt other ckpt directory page slot dentry) → block_at other has.at ≡ block_at image has.at → HasDentryAt image ckpt directory page slot dentry
  read_dentry_in directory page slot dentry has block = record {
    at = has.at;
    block = read_directory_block directory page has.at has.block;
    within = has.within;
    begins = subst (λ b. IsTrue (begins_name b slot)) block has.begins;
    is = ap (λ b. dentry_at b slot) (sym block) ∙ has.is;
  }
