-- The inodes, the blocks of directories and the addresses of an image are right.
use Rattle.std.proofs.Common.{◌≡◌, inl, inr, ℕ, false, Some, List, sym, ◌∙◌, subst}
use Rattle.std.proofs.lemmas.Bool.{both_ways}
use Rattle.std.proofs.lemmas.Option.{none-some, same_Some}
use Rattle.f2_format.specs.Geometry.{is_in_data}
use Rattle.f2_image.specs.Images.{Image}
use Rattle.f2_image.specs.Packs.{Checkpoint}
use Rattle.f2_image.specs.Nodes.{node}
use Rattle.f2_image.specs.Bases.{IsReached}
use Rattle.f2_image.specs.Reached.{IsPage}
use Rattle.f2_image.specs.Faults as faults
use Rattle.f2_image.specs.Faults.{IsForeign, IsBadInode, HasDentryFault, IsOutOfZone, IsShared}
use Rattle.f2_overlay.specs.Nodes.{IsApart}
use Rattle.f2_overlay.specs.Rolls.{HasRightPages}
use Rattle.f2_recover_laws.specs.Sound.{HasRightNodes, HasRightNames}
use Rattle.f2_scan.specs.Laws.{HasNoLogFault}
use Rattle.f2_overlay_laws.proofs.Refuted.{neither}

module _ (image : Image) (ckpt : Checkpoint) (nodes : HasRightNodes image ckpt) where
  own_inode : (ino : ℕ) (block : List ℕ) → IsReached image ckpt ino → node image ckpt ino ≡ Some block → IsForeign block → ⊥
  own_inode ino block reached there foreign =
      let has = nodes.inodes ino reached in
      let same : block ≡ has.inode = same_Some block has.inode (sym there ∙ has.is.there) in
      has.own (subst IsForeign same foreign)

  pub right_inode : HasNoLogFault image ckpt → (at : ℕ) → IsBadInode image ckpt at → ⊥
  right_inode log at (faults.in_base table ino block reached there address foreign) = own_inode ino block reached there foreign
  right_inode log at (faults.in_log place block marked address foreign) = log.no_bad_inode place block marked foreign

  pub right_dentries : HasRightNames image ckpt → (at : ℕ) → HasDentryFault image ckpt at → ⊥
  right_dentries names at bad = none-some bad.slot (sym (names.whole bad.directory bad.page at bad.reached bad.block) ∙ bad.fault)

  module _ (pages : HasRightPages image ckpt) where
    in_zone : (ino page at : ℕ) → IsPage image ckpt ino page at → is_in_data ckpt.geom at ≡ false → ⊥
    in_zone ino page at (inl base) outside = both_ways _ outside (nodes.pages ino page at base)
    in_zone ino page at (inr marked) outside = both_ways _ outside (pages.zones ino page at marked)

    pub right_zones : HasNoLogFault image ckpt → (at : ℕ) → IsOutOfZone image ckpt at → ⊥
    right_zones log at (faults.page table ino page is outside) = in_zone ino page at is outside
    right_zones log at (faults.next place within is some outside) = log.no_out_of_zone place at within is some outside

    pub not_shared : IsApart image ckpt → (at : ℕ) → IsShared image ckpt at → ⊥
    not_shared apart at (faults.pages ino page other more is_page is_more differ) = let same = pages.apart ino page other more at is_page is_more in neither same.0 same.1 differ
    not_shared apart at (faults.nodes ino offset nid other more own is_node is_more differ some here there) = let same = nodes.nodes_apart ino offset nid other more own is_node is_more (here ∙ sym there) in neither same.0 same.1 differ
    not_shared apart at (faults.logged ino offset nid place is_node here within there) = apart ino offset nid place is_node within (there ∙ sym here)
