-- The base and the marks of an image of a disk with a node log.
use Rattle.std.proofs.Common.{◌≡◌, ◌≢◌, inl, ℕ, ◌<◌, ◌==◌, false, cond, IsTrue, List, length, take, refl, sym, ap, ◌∙◌, subst, arith}
use Rattle.std.specs.Prelude.{Option, Some, None}
use Rattle.std.specs.List.{AllZip}
use Rattle.std.specs.FinMap as map
use Rattle.std.proofs.lemmas.List.{length-take-le}
use native.Mathlib.Decide.{dec_lt}
use Rattle.f2_format.specs.Geometry.{ImageGeometry, nid_limit, is_in_node}
use Rattle.f2_format.specs.Footer.{footer_ino}
use Rattle.f2_format.specs.Inode.{inode_of}
use Rattle.f2_disk.specs.Contents.{Contents, IsImage}
use Rattle.f2_model.specs.State.{State, Mark}
use Rattle.f2_image.specs.Images.{Image, block_at}
use Rattle.f2_image.specs.Packs.{Checkpoint}
use Rattle.f2_image.specs.Nodes.{place_of_nid, block_there}
use Rattle.f2_image.specs.Bases.{IsBase, inode_kind}
use Rattle.f2_image.specs.Chains.{block_in, is_marked, marked_places, IsNamed, IsMark, AreMarks}
use Rattle.f2_image.specs.Reached.{IsNode}
use Rattle.f2_image.specs.Faults.{IsSound, BadNat}
use Rattle.f2_image.specs.Faults as faults
use Rattle.f2_image.specs.Laws.{IsReadFrom}
use Rattle.f2_image.specs.Laws as laws
use Rattle.f2_image.proofs.SameBase.{base_too}
use Rattle.f2_image_laws.specs.Depending.{DependsOn}
use Rattle.f2_image_laws.specs.Depending as depending
use Rattle.f2_image_laws.proofs.Agreeing.{sound_table, bad_nat}
use Rattle.f2_image_laws.proofs.ReadingNodes.{none_past}
use Rattle.f2_stored.specs.Layout.{Layout, chained}
use Rattle.f2_stored.specs.Marks.{HasPage, HoldsMark}
use Rattle.f2_stored.specs.Marks as marks
use Rattle.f2_stored_laws.proofs.Images.{one_content, the_content}
use Rattle.f2_stored_laws.proofs.Lists.{zip_other}
use Rattle.f2_stored_laws.proofs.LogParts.{block_of_part, address_of_part, places_marked}
use Rattle.f2_stored_laws.proofs.LogImages.{HasPart, kept, kept_marks}

zero_outside : (geom : ImageGeometry) → is_in_node geom 0 ≡ false
zero_outside geom = grind arith

-- the nid of a node of a sound image is in its table
node_in_table : (image : Image) (ckpt : Checkpoint) → IsSound image ckpt → (ino offset nid : ℕ) → IsNode image ckpt ino offset nid → nid < nid_limit ckpt.geom
node_in_table image ckpt sound ino offset nid is = by_order (dec_lt nid (nid_limit ckpt.geom))
  where
    by_order : Dec (nid < nid_limit ckpt.geom) → nid < nid_limit ckpt.geom
    by_order (yes small) = small
    by_order (no past) =
        absurd (sound BadNat nid bad_nat (
          sound_table image ckpt sound,
          faults.nowhere ino offset is (ap (is_in_node ckpt.geom) (none_past (nid_limit ckpt.geom) nid (place_of_nid image ckpt nid).1 past) ∙ zero_outside ckpt.geom),
        ))

-- a base is read from no more than what an image depends on
depends : (image : Image) (ckpt : Checkpoint) → IsSound image ckpt → (at : ℕ) → IsReadFrom image ckpt at → DependsOn image ckpt at
depends image ckpt sound at (laws.table ino offset nid is here) = depending.table nid (node_in_table image ckpt sound ino offset nid is) here
depends image ckpt sound at (laws.node ino offset nid is here) = depending.node ino offset nid is here
depends image ckpt sound at (laws.page ino page is) = depending.page ino page (inl is)

-- what a page of a mark is
page_is : (lists : Contents) (image : Image) → IsImage lists image → (at : ℕ) (page : Option (List ℕ)) → HasPage lists at page → page ≡ block_there image at
page_is lists image is _ _ marks.none = refl
page_is lists image is _ _ (marks.there at bytes there one) = ap Some (sym (the_content lists image is at bytes one)) ∙ ap (λ b. cond b None (Some (block_at image at))) (sym (test at there))
  where
    test : (n : ℕ) → n ≢ 0 → (n == 0) ≡ false
    test n other = grind (arith, other)

module _ (lists : Contents) (layout : Layout) (state : State) (image : Image) (part : HasPart lists layout state image) where
  pub base_meant : IsBase image layout.base.ckpt state.base
  base_meant =
      base_too layout.base.image image layout.base.ckpt
      (λ at needs. one_content lists image part.is layout.base.image at (part.keeps.base.read at (depends layout.base.image layout.base.ckpt part.keeps.base.means.sound at needs)))
      state.base part.keeps.base.means.is_base

  mark_meant : (place : ℕ) (mark : Mark) → (place < length (take part.count (chained layout))) × IsTrue (is_marked (block_in (take part.count (chained layout)) place))
      → place < part.count → HoldsMark lists layout state.base place mark → IsMark image layout.base.ckpt state.base (take part.count (chained layout)) place mark
  mark_meant place mark at small holds =
      let log = chained layout in
      let block : block_in log place ≡ block_in (take part.count log) place = sym (block_of_part log part.count place small) in
      record {
        ino = holds.ino ∙ ap footer_ino block;
        row_ino = holds.row_ino;
        kind = ap inode_kind (sym block) ∙ holds.kind;
        size = holds.size ∙ ap (λ b. (inode_of b).size) block;
        pages = record {
          within = holds.within;
          blocks = λ page within.
              page_is lists image part.is _ (map.get mark.row.pages page) (holds.pages page within)
              ∙ ap (block_there image) (sym (address_of_part log part.count image layout.base.ckpt place page small ∙ part.alike.marked_addresses log place page));
        };
        named = subst (λ b. IsNamed state.base b mark.row (map.get state.base mark.ino)) block holds.named;
      }

  pub marks_meant : AreMarks image layout.base.ckpt state.base (take (kept lists layout state image part) state.marks)
  marks_meant =
      let log = take part.count (chained layout) in
      subst (λ log. AllZip (IsMark image layout.base.ckpt state.base log) (marked_places log) (take (kept lists layout state image part) state.marks)) (sym part.chain)
      (zip_other (λ place. (place < length log) × IsTrue (is_marked (block_in log place))) (HoldsMark lists layout state.base) (IsMark image layout.base.ckpt state.base log)
      (λ place mark at holds. mark_meant place mark at (subst (λ n. place < n) (length-take-le part.count (chained layout) part.within) at.0) holds)
      (marked_places log) (take (kept lists layout state image part) state.marks) (places_marked log) (kept_marks lists layout state image part).0)
