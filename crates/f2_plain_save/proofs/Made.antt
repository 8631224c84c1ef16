-- A plan, written whole, makes an image on which its tree is laid out.
use Rattle.std.proofs.Common.{◌≡◌, ◌≢◌, inl, inr, ℕ, ◌<◌, ◌≤◌, IsTrue, List, [], length, set, refl, sym, ap, ◌∙◌, subst, arith}
use Rattle.std.specs.Prelude.{Option, Some, None}
use Rattle.std.specs.FinMap as map
use Rattle.std.proofs.lemmas.List.{length-set, get_or-set_same, get_or-set_other}
use Rattle.std.proofs.lemmas.List.Elements.{All-contains}
use Rattle.f2_format.specs.Geometry.{IsGeometry, nid_limit, is_in_node, nat_address}
use Rattle.f2_format.specs.Nat.{nat_entry, nat_block_of, nat_place_of, is_second_copy}
use Rattle.f2_format.specs.Footer.{footer_version}
use Rattle.f2_format.specs.Journal.{journal_count}
use Rattle.f2_format.specs.Pack.{IsPack, head_of}
use Rattle.f2_model.specs.Tree.{Rows}
use Rattle.f2_model.specs.declared.rows.Row.{Row}
use Rattle.f2_image.specs.Images.{Image, block_at, IsSized}
use Rattle.f2_image.specs.Packs.{Side, A, B, other_side, head_address, summary_address, tail_address, version_of, IsValid, IsNewest, Checkpoint}
use Rattle.f2_image.specs.Nodes.{place_of_nid, block_there}
use Rattle.f2_laid.specs.Laid.{PlaceMap, at_of, page_at, side_of, IsStorable, IsInodeOf, page_in, StandsIn, IsLaid}
use Rattle.f2_laid.specs.Planned.{put_all, Writes, WritesPage, WritesRow, WritesTable, IsWriteOf, IsPlanOf}
use Rattle.f2_laid.specs.Laws.{IsReadyFor}
use Rattle.f2_laid.specs.declared.places.Place.{Place}
use Rattle.f2_laid.specs.declared.planned.Planned.{Planned}
use Rattle.f2_laid.specs.declared.stored.Stored.{Stored}
use Rattle.f2_plain_save.proofs.Addresses.{node_range, pack_range, tail_apart}
use Rattle.f2_plain_save.proofs.Written.{length-put_all, put_all-other, put_all-written, put_all-cases, written_once}
use Rattle.f2_plain_save.proofs.Targets.{above, within, off_tails, off_head, in_nodes}
use Rattle.f2_plain_save.proofs.Laid.{sized_same, sized_geometry, greater_first, content_same, none_there, some_there, place_in_table, block_less, place_less, nid_again}

-- the block of an inode that a plan writes has no version
pub inode_unlogged : (tree : Rows) (old : PlaceMap) (stored : Stored) (plan : List Planned) (tail : List ℕ) → IsStorable stored.geometry tree → IsPlanOf tree old stored plan tail
    → (at ino : ℕ) (place : Place) (bytes : List ℕ) → map.get stored.places ino ≡ Some place → at ≡ place.at → Writes plan at bytes → footer_version bytes ≡ 0
inode_unlogged tree old stored plan tail storable is at ino place bytes there here found = by_row (is.only ino place there).0 (is.only ino place there).1
  where
    by_row : (row : Row) → map.get tree ino ≡ Some row → footer_version bytes ≡ 0
    by_row row held =
        let writes : WritesRow plan tree row stored.places = is.rows ino row held in
        let same : writes.place ≡ place = one_some (sym writes.there ∙ (ap (map.get stored.places) (storable.good.keyed ino row held) ∙ there)) in
        let again : Writes plan at writes.block = subst (λ (a : ℕ). Writes plan a writes.block) (ap (λ (p : Place). p.at) same ∙ sym here) writes.written in
        ap footer_version (written_once plan at bytes writes.block is.once found again) ∙ writes.unlogged
      where
        one_some : {a b : Place} → Some a ≡ Some b → a ≡ b
        one_some e = cc

module _ (image : Image) (tree : Rows) (stored : Stored) (old : PlaceMap) (plan : List Planned) (tail : List ℕ)
    (storable : IsStorable stored.geometry tree) (ready : IsReadyFor image stored) (is : IsPlanOf tree old stored plan tail) where
  side : Side
  side = side_of stored.side

  last : Image
  last = set (put_all image plan) (tail_address (side_of stored.side)) tail

  geometry : IsGeometry stored.geometry
  geometry = sized_geometry image stored.geometry ready.sized

  target : (at : ℕ) (bytes : List ℕ) → Writes plan at bytes → IsWriteOf stored at
  target at bytes found = All-contains (λ (one : Planned). IsWriteOf stored one.at) plan (record { at = at; block = bytes }) is.within found

  size : length last ≡ length image
  unfolding last
  size = length-set (put_all image plan) (tail_address (side_of stored.side)) tail ∙ length-put_all plan image

  -- what the plan doesn't write is as it was
  kept : (at : ℕ) → ¬ (IsWriteOf stored at) → at ≢ tail_address (side_of stored.side) → block_at last at ≡ block_at image at
  unfolding last
  kept at none apart =
      get_or-set_other (put_all image plan) (tail_address (side_of stored.side)) at tail [] apart
      ∙ put_all-other plan image at (λ bytes found. none (target at bytes found))

  -- what it writes is there
  there : (at : ℕ) (bytes : List ℕ) → Writes plan at bytes → block_at last at ≡ bytes
  unfolding last
  there at bytes found =
      let small : at < stored.geometry.blocks = within stored geometry is.placed at (target at bytes found) in
      get_or-set_other (put_all image plan) (tail_address (side_of stored.side)) at tail [] (off_tails stored geometry is.placed (side_of stored.side) at (target at bytes found))
      ∙ put_all-written plan image at bytes is.once found (omega (arith, small, ready.blocks))

  -- the tail is there
  tail_there : block_at last (tail_address (side_of stored.side)) ≡ tail
  unfolding last
  tail_there =
      let small : tail_address (side_of stored.side) < stored.geometry.blocks = omega (arith, (pack_range (side_of stored.side)).1, geometry.least_blocks) in
      get_or-set_same (put_all image plan) (tail_address (side_of stored.side)) tail [] (omega (arith, small, ready.blocks, length-put_all plan image))

  head_there : block_at last (head_address (side_of stored.side)) ≡ tail
  head_there = there (head_address (side_of stored.side)) tail is.head_written

  ckpt : Checkpoint
  ckpt = record { geom = stored.geometry; side = side_of stored.side; head = head_of tail; summary = block_at last (summary_address (side_of stored.side)) }

  -- the superblocks are as they were
  super_kept : (at : ℕ) → at < 2 → block_at last at ≡ block_at image at
  super_kept at less =
      kept at (λ write. absurd (omega (arith, above stored geometry is.placed at write, less))) (λ e. omega (arith, e, less, (pack_range (side_of stored.side)).0))

  sized : IsSized last stored.geometry
  sized = sized_same image last stored.geometry size (super_kept 0 (omega arith)) (super_kept 1 (omega arith)) ready.sized

  -- the parts of the other pack are as they were
  other_head : block_at last (head_address (other_side (side_of stored.side))) ≡ block_at image (head_address (other_side (side_of stored.side)))
  other_head =
      kept (head_address (other_side (side_of stored.side))) (λ write. off_head stored geometry is.placed _ write refl)
      (λ e. (tail_apart (other_side (side_of stored.side)) (side_of stored.side)).0 (sym e))

  other_tail : block_at last (tail_address (other_side (side_of stored.side))) ≡ block_at image (tail_address (other_side (side_of stored.side)))
  other_tail =
      kept (tail_address (other_side (side_of stored.side))) (λ write. off_tails stored geometry is.placed (other_side (side_of stored.side)) _ write refl) (tails_apart (side_of stored.side))
    where
      tails_apart : (own : Side) → tail_address (other_side own) ≢ tail_address own
      tails_apart A e = omega (arith, e)
      tails_apart B e = omega (arith, e)

  newest : IsNewest stored.geometry last (side_of stored.side)
  newest =
      record {
        valid = subst (λ (b : List ℕ). IsPack stored.geometry b (block_at last (tail_address (side_of stored.side)))) (sym head_there)
            (subst (IsPack stored.geometry tail) (sym tail_there) is.head.pack);
        newest = λ other. greater_first last (side_of stored.side) (less other);
      }
    where
      less : IsValid stored.geometry last (other_side (side_of stored.side)) → version_of last (other_side (side_of stored.side)) < version_of last (side_of stored.side)
      less other =
          let before : version_of image (other_side (side_of stored.side)) < stored.version =
          ready.other (subst (λ (b : List ℕ). IsPack stored.geometry b (block_at image (tail_address (other_side (side_of stored.side))))) other_head
          (subst (IsPack stored.geometry (block_at last (head_address (other_side (side_of stored.side))))) other_tail other)) in
          omega (arith, before, ap (λ (b : List ℕ). (head_of b).version) other_head, ap (λ (b : List ℕ). (head_of b).version) head_there, is.head.version)

  -- a nid's entry is in the copy that was written
  entry : (nid : ℕ) → nid < nid_limit stored.geometry → (place_of_nid last ckpt nid).1 ≡ at_of (map.get stored.places nid)
  unfolding ckpt
  entry nid less =
      let block = nat_block_of nid in
      let small : nat_block_of nid < stored.geometry.nat = block_less nid stored.geometry.nat less in
      let writes : WritesTable plan stored (nat_block_of nid) = is.table (nat_block_of nid) small in
      let copy : is_second_copy (head_of tail).bitmap (nat_block_of nid) ≡ stored.second = is.head.bitmap (nat_block_of nid) small in
      ap (λ (p : ℕ × ℕ). p.1) (place_in_table last ckpt nid empty)
      ∙ ap (λ b. (nat_entry (block_at last (nat_address stored.geometry (nat_block_of nid) b)) (nat_place_of nid)).1) copy
      ∙ ap (λ (b : List ℕ). (nat_entry b (nat_place_of nid)).1) (there _ writes.bytes writes.written)
      ∙ writes.entries (nat_place_of nid) (place_less nid)
      ∙ ap (λ n. at_of (map.get stored.places n)) (nid_again nid)
    where
      empty : journal_count ckpt.summary ≡ 0
      empty = ap journal_count (there _ is.summary.0 is.summary.2) ∙ is.summary.1

  -- a row stands where the plan writes it
  stands : (ino : ℕ) (row : Row) → map.get tree ino ≡ Some row → StandsIn last tree row stored.places
  stands ino row held =
      let writes : WritesRow plan tree row stored.places = is.rows ino row held in
      record {
        place = writes.place;
        there = writes.there;
        inode = subst (IsInodeOf row writes.place) (sym (there writes.place.at writes.block writes.written)) writes.inode;
        content = content_same tree row writes.contents (page_in last writes.place) (λ page less. page_there (page_at writes.place page) (writes.contents page) (writes.pages page less)) writes.content;
      }
    where
      page_there : (at : ℕ) (content : Option (List ℕ)) → WritesPage plan at content → block_there last at ≡ content
      page_there at None zero = none_there last at zero
      page_there at (Some bytes) writes = some_there last at writes.0 ∙ ap (λ (b : List ℕ). Some b) (there at bytes writes.1)

  -- no block of the node zone is of a node log
  unlogged : (at : ℕ) → IsTrue (is_in_node stored.geometry at) → footer_version (block_at last at) ≡ 0
  unfolding last
  unlogged at zone = elim (put_all-cases plan image at) [ inl same ↦ ap footer_version (after ∙ same) ∙ ready.unlogged at zone | inr found ↦ written found ]
    where
      after : block_at last at ≡ block_at (put_all image plan) at
      after =
          get_or-set_other (put_all image plan) (tail_address (side_of stored.side)) at tail []
          (λ e. omega (arith, e, (pack_range (side_of stored.side)).1, (node_range stored.geometry at zone).0))

      written : Writes plan at (block_at (put_all image plan) at) → footer_version (block_at last at) ≡ 0
      written found =
          let spot = in_nodes stored geometry is.placed at zone (target at _ found) in
          ap footer_version after ∙ inode_unlogged tree old stored plan tail storable is at spot.ino spot.place _ spot.there spot.is found

  tails : (each : Side) → (head_of (block_at last (tail_address each))).version ≤ stored.version
  tails each = by_side (side_of stored.side) refl each
    where
      own : (head_of (block_at last (tail_address (side_of stored.side)))).version ≤ stored.version
      own = omega (arith, ap (λ (b : List ℕ). (head_of b).version) tail_there, is.head.version)

      others : (head_of (block_at last (tail_address (other_side (side_of stored.side))))).version ≤ stored.version
      others = omega (arith, ap (λ (b : List ℕ). (head_of b).version) other_tail, ready.tail)

      by_side : (s : Side) → s ≡ side_of stored.side → (each : Side) → (head_of (block_at last (tail_address each))).version ≤ stored.version
      by_side A e A = subst (λ (s : Side). (head_of (block_at last (tail_address s))).version ≤ stored.version) (sym e) own
      by_side A e B = subst (λ (s : Side). (head_of (block_at last (tail_address (other_side s)))).version ≤ stored.version) (sym e) others
      by_side B e B = subst (λ (s : Side). (head_of (block_at last (tail_address s))).version ≤ stored.version) (sym e) own
      by_side B e A = subst (λ (s : Side). (head_of (block_at last (tail_address (other_side s)))).version ≤ stored.version) (sym e) others

  pub made : IsLaid (set (put_all image plan) (tail_address (side_of stored.side)) tail) tree stored
  unfolding last ckpt
  made = (
    ckpt,
    record {
      checkpoint = record { sized = sized; newest = newest; head = ap head_of (sym head_there); summary = refl };
      geom = refl;
      side = refl;
      version = is.head.version;
      low = is.head.low;
      newer = is.head.newer;
      copies = is.head.bitmap;
      journal = ap journal_count (there _ is.summary.0 is.summary.2) ∙ is.summary.1;
      table = entry;
      rows = stands;
      only = is.only;
      placed = is.placed;
      unlogged = unlogged;
      tails = λ each. omega (arith, tails each, is.head.version);
    },
  )

  -- and on which the superblocks are as they were
  pub supers_kept : (at : ℕ) → at < 2 → block_at (set (put_all image plan) (tail_address (side_of stored.side)) tail) at ≡ block_at image at
  unfolding last
  supers_kept = super_kept
