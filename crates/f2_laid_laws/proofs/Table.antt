-- What the node address table of an image that is laid out plainly says goes together with its nodes.
use Rattle.std.proofs.Common.{◌≡◌, ◌≢◌, ◌⊎◌, inl, inr, ℕ, ◌<◌, ◌≤◌, ◌==◌, false, [], List, map as map_list, refl, sym, ap, ◌∙◌, arith, true≢false}
use Rattle.std.specs.Prelude.{Option, Some, None}
use Rattle.std.specs.List.{count_by, range_with_len}
use Rattle.std.specs.FinMap as map
use Rattle.f2_format.specs.Geometry.{is_in_node}
use Rattle.f2_format.specs.Footer.{footer_nid, footer_ino, footer_offset}
use Rattle.f2_format.specs.Journal.{JournalList, journal_count, journal_entry}
use Rattle.f2_model.specs.Tree.{Rows, ROOT}
use Rattle.f2_image.specs.Reached as nodes
use Rattle.f2_image.specs.Reached.{IsNode}
use Rattle.f2_image.specs.Faults as faults
use Rattle.f2_image.specs.Faults.{IsBadEntry, twice, past, IsMisplaced, IsBadNat}
use Rattle.f2_image.specs.Images.{Image}
use Rattle.f2_image.specs.Packs.{Checkpoint, journal}
use Rattle.f2_image.specs.Nodes.{node, node_address, place_of_nid}
use Rattle.f2_image.proofs.OneBase.{same_some}
use Rattle.f2_laid.specs.Laid.{at_of}
use Rattle.f2_laid.specs.declared.places.Place.{Place}
use Rattle.f2_laid.specs.declared.stored.Stored.{Stored}
use Rattle.f2_laid_laws.proofs.Refuted.{none_of_three}
use Rattle.f2_laid_laws.proofs.Homes.{inode_block, node_is}
use Rattle.f2_laid_laws.proofs.Base.{IsStored, reached}
use Rattle.f2_laid_laws.proofs.NoLog.{none_taken}
use Rattle.f2_laid_laws.proofs.Nodes.{own_node}

-- a journal that counts nothing has no entry
empty_journal : (ckpt : Checkpoint) → journal_count ckpt.summary ≡ 0 → journal ckpt ≡ []
empty_journal ckpt none = ap (λ n. map_list (journal_entry ckpt.summary) (range_with_len 0 n)) none

-- how often a journal has a nid
times : JournalList → ℕ → ℕ
times list nid = count_by (λ entry. entry.0 == nid) list

module _ (image : Image) (ckpt : Checkpoint) (tree : Rows) (stored : Stored) (is : IsStored image ckpt tree stored) where
  no_entry : (nid : ℕ) → IsBadEntry ckpt nid → ⊥
  unfolding times
  no_entry nid bad = by_kind (ap (λ list. times list nid) (empty_journal ckpt is.laid.journal)) bad
    where
      by_kind : times (journal ckpt) nid ≡ 0 → IsBadEntry ckpt nid → ⊥
      by_kind none (twice more) = omega (arith, more, none)
      by_kind none (past more beyond) = omega (arith, more, none)

  -- a nid that has an address is one of the tree's
  all_reached : (nid : ℕ) → (place_of_nid image ckpt nid).1 ≡ at_of (map.get stored.places nid) → (place_of_nid image ckpt nid).1 ≢ 0 → ((ino offset : ℕ) → ¬ (IsNode image ckpt ino offset nid)) → ⊥
  all_reached nid table some none = by_place (map.get stored.places nid) refl
    where
      by_place : (o : Option Place) → map.get stored.places nid ≡ o → ⊥
      by_place None e = some (table ∙ ap at_of e)
      by_place (Some place) e =
          let row = is.laid.only nid place e in
          none nid 0 (nodes.inode nid (reached image ckpt tree stored is nid row.0 row.1))

  -- the footer of a node tells the node
  right_place : (ino offset nid : ℕ) (block : List ℕ) → IsNode image ckpt ino offset nid → node image ckpt nid ≡ Some block → IsMisplaced block ino offset nid → ⊥
  right_place ino offset nid block is_node there bad =
      let own = own_node image ckpt tree stored is ino offset nid is_node in
      let at = own.at in
      let same : block ≡ inode_block image ckpt tree stored ino own.row at = same_some block _ (sym there ∙ ap (node image ckpt) own.own ∙ node_is image ckpt tree stored ino own.row at) in
      none_of_three (ap footer_nid same ∙ at.inode.nid ∙ at.own ∙ sym own.own) (ap footer_ino same ∙ at.inode.ino ∙ at.own) (ap footer_offset same ∙ at.inode.offset ∙ sym own.first) bad

  -- a low nid is the root's
  not_low : (ino offset nid : ℕ) → IsNode image ckpt ino offset nid → nid < 4 → (ino ≢ ROOT) ⊎ (offset ≢ 0) → ⊥
  not_low ino offset nid is_node low bad =
      let own = own_node image ckpt tree stored is ino offset nid is_node in
      by_part own.first own.own (is.can.low ino own.row own.there) bad
    where
      by_part : offset ≡ 0 → nid ≡ ino → (ino ≢ ROOT → 4 ≤ ino) → (ino ≢ ROOT) ⊎ (offset ≢ 0) → ⊥
      by_part first own high (inl other) = let above = high other in omega arith
      by_part first own high (inr other) = other first

  -- a node stands in its zone
  in_zone : (ino offset nid : ℕ) → IsNode image ckpt ino offset nid → is_in_node ckpt.geom (node_address image ckpt nid) ≡ false → ⊥
  in_zone ino offset nid is_node outside =
      let own = own_node image ckpt tree stored is ino offset nid is_node in
      let address = ap (node_address image ckpt) own.own ∙ own.at.address in
      true≢false (sym own.at.inside ∙ sym (ap (is_in_node ckpt.geom) address) ∙ outside)

  pub right_table : (nid : ℕ) → IsBadNat image ckpt nid → ⊥
  right_table nid (faults.entry bad) = no_entry nid bad
  right_table nid (faults.unreached within some none) = all_reached nid (is.laid.table nid within) some none
  right_table nid (faults.too_low ino offset is_node low bad) = not_low ino offset nid is_node low bad
  right_table nid (faults.nowhere ino offset is_node outside) = in_zone ino offset nid is_node outside
  right_table nid (faults.misplaced ino offset block is_node there bad) = right_place ino offset nid block is_node there bad
  right_table nid (faults.no_nid place block taken own bad) = none_taken image ckpt tree stored is place block taken
  right_table nid (faults.taken place block ino offset taken own has bad) = none_taken image ckpt tree stored is place block taken
  right_table nid (faults.no_ino place block taken own first bad) = none_taken image ckpt tree stored is place block taken
  right_table nid (faults.other place block own taken is_nid is_node bad) = none_taken image ckpt tree stored is place block taken
