-- A plan, written in part, leaves the tree of the last checkpoint laid out.
use Rattle.std.proofs.Common.{◌≡◌, ◌≢◌, inl, inr, ℕ, ◌<◌, ◌≤◌, not, IsTrue, List, refl, sym, ap, ◌∙◌, subst, arith}
use Rattle.std.specs.Prelude.{Option, Some, None}
use Rattle.std.specs.FinMap as map
use Rattle.std.proofs.lemmas.List.Elements.{All-contains}
use Rattle.f2_format.specs.Geometry.{ImageGeometry, IsGeometry, nid_limit, is_in_node, nat_address}
use Rattle.f2_format.specs.Nat.{nat_entry, nat_block_of, nat_place_of, is_second_copy}
use Rattle.f2_format.specs.Footer.{footer_version}
use Rattle.f2_format.specs.Pack.{IsPack, head_of}
use Rattle.f2_model.specs.Tree.{Rows}
use Rattle.f2_model.specs.declared.rows.Row.{Row}
use Rattle.f2_image.specs.Images.{Image, block_at}
use Rattle.f2_image.specs.Packs.{Side, A, B, other_side, head_address, summary_address, tail_address, IsValid, GoesBefore, IsNewest, Checkpoint, IsCheckpoint}
use Rattle.f2_image.specs.Nodes.{place_of_nid}
use Rattle.f2_laid.specs.Laid.{at_of, page_at, side_of, IsStorable, IsInodeOf, IsPlaced, page_in, StandsIn, IsLaidAt}
use Rattle.f2_laid.specs.Planned.{Writes, IsWriteOf, IsPlanOf}
use Rattle.f2_laid.specs.Laws.{IsNext, IsPartlyWritten}
use Rattle.f2_laid.specs.declared.places.Place.{Place}
use Rattle.f2_laid.specs.declared.planned.Planned.{Planned}
use Rattle.f2_laid.specs.declared.stored.Stored.{Stored}
use Rattle.f2_plain_save.proofs.Addresses.{other_twice}
use Rattle.f2_plain_save.proofs.Written.{written_once}
use Rattle.f2_plain_save.proofs.Targets.{IsInodeAt, IsPageAt, above, off_tails, off_head, off_summary, off_copy, in_nodes, in_datas}
use Rattle.f2_plain_save.proofs.Laid.{sized_same, sized_geometry, content_same, there_same, place_in_table, block_less}
use Rattle.f2_plain_save.proofs.Made.{inode_unlogged}

module _ (image other : Image) (tree new : Rows) (stored next : Stored) (plan : List Planned) (tail : List ℕ) (ckpt : Checkpoint)
    (storable : IsStorable next.geometry new) (laid : IsLaidAt image ckpt tree stored) (after : IsNext stored next)
    (is : IsPlanOf new stored.places next plan tail) (partly : IsPartlyWritten image other plan) where
  -- the plan's geometry is that of the image
  same_geom : next.geometry ≡ ckpt.geom
  same_geom = after.geometry ∙ sym laid.geom

  geometry : IsGeometry next.geometry
  geometry = subst IsGeometry (sym same_geom) (sized_geometry image ckpt.geom laid.checkpoint.sized)

  -- the side of the last checkpoint is the other one of the plan
  own_side : other_side (side_of next.side) ≡ ckpt.side
  own_side = ap other_side after.side ∙ (other_twice (side_of stored.side) ∙ sym laid.side)

  target : (at : ℕ) (bytes : List ℕ) → Writes plan at bytes → IsWriteOf next at
  target at bytes found = All-contains (λ (one : Planned). IsWriteOf next one.at) plan (record { at = at; block = bytes }) is.within found

  -- what the plan doesn't write is as it was
  kept : (at : ℕ) → ¬ (IsWriteOf next at) → block_at other at ≡ block_at image at
  kept at none = elim (partly.blocks at) [ inl same ↦ same | inr found ↦ absurd (none (target at _ found)) ]

  super_kept : (at : ℕ) → at < 2 → block_at other at ≡ block_at image at
  super_kept at less = kept at (λ write. omega (arith, less, above next geometry is.placed at write))

  tail_kept : (each : Side) → block_at other (tail_address each) ≡ block_at image (tail_address each)
  tail_kept each = kept (tail_address each) (λ write. off_tails next geometry is.placed each _ write refl)

  head_kept : block_at other (head_address ckpt.side) ≡ block_at image (head_address ckpt.side)
  head_kept = kept (head_address ckpt.side) (λ write. off_head next geometry is.placed _ write (ap head_address (sym own_side)))

  summary_kept : block_at other (summary_address ckpt.side) ≡ block_at image (summary_address ckpt.side)
  summary_kept = kept (summary_address ckpt.side) (λ write. off_summary next geometry is.placed _ write (ap summary_address (sym own_side)))

  -- the new pack doesn't count before its tail is written
  newest : IsNewest ckpt.geom other ckpt.side
  newest =
      record {
        valid = subst (λ (b : List ℕ). IsPack ckpt.geom b (block_at other (tail_address ckpt.side))) (sym head_kept)
            (subst (IsPack ckpt.geom (block_at image (head_address ckpt.side))) (sym (tail_kept ckpt.side)) laid.checkpoint.newest.valid);
        newest = λ valid. elim (partly.blocks (head_address (other_side ckpt.side))) [ inl same ↦ as_before valid same | inr found ↦ absurd (counts valid found) ];
      }
    where
      goes_same : (side : Side) → block_at other (head_address side) ≡ block_at image (head_address side) → block_at other (head_address (other_side side)) ≡ block_at image (head_address (other_side side))
          → GoesBefore image side → GoesBefore other side
      goes_same A e f goes = omega (arith, ap (λ (b : List ℕ). (head_of b).version) e, ap (λ (b : List ℕ). (head_of b).version) f, goes)
      goes_same B e f goes = omega (arith, ap (λ (b : List ℕ). (head_of b).version) e, ap (λ (b : List ℕ). (head_of b).version) f, goes)

      as_before : IsValid ckpt.geom other (other_side ckpt.side) → block_at other (head_address (other_side ckpt.side)) ≡ block_at image (head_address (other_side ckpt.side)) → GoesBefore other ckpt.side
      as_before valid same =
          goes_same ckpt.side head_kept same
          (laid.checkpoint.newest.newest
          (subst (λ (b : List ℕ). IsPack ckpt.geom b (block_at image (tail_address (other_side ckpt.side)))) same
          (subst (IsPack ckpt.geom (block_at other (head_address (other_side ckpt.side)))) (tail_kept (other_side ckpt.side)) valid)))

      plan_side : side_of next.side ≡ other_side ckpt.side
      plan_side = sym (other_twice (side_of next.side)) ∙ ap other_side own_side

      counts : IsValid ckpt.geom other (other_side ckpt.side) → Writes plan (head_address (other_side ckpt.side)) (block_at other (head_address (other_side ckpt.side))) → ⊥
      counts valid found =
          let planned : Writes plan (head_address (other_side ckpt.side)) tail = subst (λ (s : Side). Writes plan (head_address s) tail) plan_side is.head_written in
          let head : block_at other (head_address (other_side ckpt.side)) ≡ tail = written_once plan _ _ tail is.once found planned in
          let end : block_at image (tail_address (other_side ckpt.side)) ≡ tail = sym (tail_kept (other_side ckpt.side)) ∙ (valid.same ∙ head) in
          omega (arith, laid.tails (other_side ckpt.side), ap (λ (b : List ℕ). (head_of b).version) end, is.head.version, after.version, laid.version)

  checkpoint : IsCheckpoint other ckpt
  checkpoint =
      record {
        sized = sized_same image other ckpt.geom partly.size (super_kept 0 (omega arith)) (super_kept 1 (omega arith)) laid.checkpoint.sized;
        newest = newest;
        head = laid.checkpoint.head ∙ ap head_of (sym head_kept);
        summary = laid.checkpoint.summary ∙ sym summary_kept;
      }

  -- the copy of the table that counts is as it was
  entry : (nid : ℕ) → nid < nid_limit ckpt.geom → (place_of_nid other ckpt nid).1 ≡ at_of (map.get stored.places nid)
  entry nid less =
      let at = nat_address ckpt.geom (nat_block_of nid) (is_second_copy ckpt.head.bitmap (nat_block_of nid)) in
      let same : block_at other at ≡ block_at image at = kept at (λ write. off_copy next geometry is.placed (nat_block_of nid) at in_plan write here) in
      ap (λ (p : ℕ × ℕ). p.1) (place_in_table other ckpt nid laid.journal)
      ∙ ap (λ (b : List ℕ). (nat_entry b (nat_place_of nid)).1) same
      ∙ sym (ap (λ (p : ℕ × ℕ). p.1) (place_in_table image ckpt nid laid.journal))
      ∙ laid.table nid less
    where
      small : nat_block_of nid < ckpt.geom.nat
      small = block_less nid ckpt.geom.nat less

      in_plan : nat_block_of nid < next.geometry.nat
      in_plan = subst (λ (e : ImageGeometry). nat_block_of nid < e.nat) (sym same_geom) small

      old_copy : is_second_copy ckpt.head.bitmap (nat_block_of nid) ≡ not next.second
      old_copy = laid.copies (nat_block_of nid) (subst (λ (e : ImageGeometry). nat_block_of nid < e.nat) laid.geom small) ∙ (not_twice stored.second ∙ ap not (sym after.second))
        where
          not_twice : (b : Rattle.std.specs.Prelude.Bool) → b ≡ not (not b)
          not_twice b = grind arith

      here : nat_address ckpt.geom (nat_block_of nid) (is_second_copy ckpt.head.bitmap (nat_block_of nid)) ≡ nat_address next.geometry (nat_block_of nid) (not next.second)
      here = ap (nat_address ckpt.geom (nat_block_of nid)) old_copy ∙ ap (λ (e : ImageGeometry). nat_address e (nat_block_of nid) (not next.second)) (sym same_geom)

  placed : IsPlaced next.geometry stored.places
  placed = subst (λ (e : ImageGeometry). IsPlaced e stored.places) (sym same_geom) laid.placed

  -- a row stands where it stood
  stands : (ino : ℕ) (row : Row) → map.get tree ino ≡ Some row → StandsIn other tree row stored.places
  stands ino row held = again (laid.rows ino row held)
    where
      again : StandsIn image tree row stored.places → StandsIn other tree row stored.places
      again stood =
          record {
            place = stood.place;
            there = stood.there;
            inode = subst (IsInodeOf row stood.place) (sym (inode_kept row.ino stood.place stood.there)) stood.inode;
            content = content_same tree row (page_in image stood.place) (page_in other stood.place)
                (λ page less. there_same image other (page_at stood.place page) (page_kept row.ino page stood.place stood.there)) stood.content;
          }
        where
          inode_kept : (ino : ℕ) (place : Place) → map.get stored.places ino ≡ Some place → block_at other place.at ≡ block_at image place.at
          inode_kept ino place there = kept place.at (λ write. apart (in_nodes next geometry is.placed place.at (placed.nodes ino place there) write))
            where
              apart : IsInodeAt next place.at → ⊥
              apart spot = is.apart.nodes ino spot.ino place spot.place there spot.there spot.is

          page_kept : (ino page : ℕ) (place : Place) → map.get stored.places ino ≡ Some place → page_at place page ≢ 0 → block_at other (page_at place page) ≡ block_at image (page_at place page)
          page_kept ino page place there some = kept (page_at place page) (λ write. apart (in_datas next geometry is.placed (page_at place page) (placed.pages ino page place there some) write))
            where
              apart : IsPageAt next (page_at place page) → ⊥
              apart spot = is.apart.pages ino page spot.ino spot.page place spot.place there spot.there some spot.is

  -- no block of the node zone is of a node log
  unlogged : (at : ℕ) → IsTrue (is_in_node ckpt.geom at) → footer_version (block_at other at) ≡ 0
  unlogged at zone = elim (partly.blocks at) [ inl same ↦ ap footer_version same ∙ laid.unlogged at zone | inr found ↦ written found ]
    where
      written : Writes plan at (block_at other at) → footer_version (block_at other at) ≡ 0
      written found = by_spot (in_nodes next geometry is.placed at (subst (λ (e : ImageGeometry). IsTrue (is_in_node e at)) (sym same_geom) zone) (target at _ found))
        where
          by_spot : IsInodeAt next at → footer_version (block_at other at) ≡ 0
          by_spot spot = inode_unlogged new stored.places next plan tail storable is at spot.ino spot.place _ spot.there spot.is found

  pub left : IsLaidAt other ckpt tree stored
  left =
      record {
        checkpoint = checkpoint;
        geom = laid.geom;
        side = laid.side;
        version = laid.version;
        low = laid.low;
        newer = laid.newer;
        copies = laid.copies;
        journal = laid.journal;
        table = entry;
        rows = stands;
        only = laid.only;
        placed = laid.placed;
        unlogged = unlogged;
        tails = λ each. subst (λ (b : List ℕ). (head_of b).version ≤ ckpt.head.version) (sym (tail_kept each)) (laid.tails each);
      }
