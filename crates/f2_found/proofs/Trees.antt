-- The rows of a tree with its marks, and where they come from.
use Rattle.std.proofs.Common.{◌≡◌, ◌⊎◌, inl, inr, ℕ, ◌<◌, ◌==◌, List, length, refl, sym, ap, ◌∙◌, subst, arith}
use Rattle.std.specs.Prelude.{Option, Some, None}
use Rattle.std.specs.FinMap as map
use Rattle.std.proofs.lemmas.Bool.{eqb-true, and_parts}
use Rattle.f2_format.specs.Footer.{footer_ino, footer_offset, has_fsync_mark}
use Rattle.f2_format.specs.Geometry.{nid_limit}
use Rattle.f2_model.specs.Tree.{Rows}
use Rattle.f2_model.specs.State.{Mark, rolled}
use Rattle.f2_model.specs.declared.rows.Row.{Row}
use Rattle.f2_model.specs.declared.rows.Kind.{Kind}
use Rattle.f2_model.specs.declared.rows.Kind.TheVariants.{Regular, Directory}
use Rattle.f2_image.specs.Images.{Image}
use Rattle.f2_image.specs.Packs.{Checkpoint}
use Rattle.f2_image.specs.Bases.{IsBase, inode_kind}
use Rattle.f2_image.specs.Chains.{chain, block_in, IsMark, AreMarks}
use Rattle.f2_image.specs.Reached.{IsMarkedAt, marked}
use Rattle.f2_overlay.specs.Lasts.{last_mark_before}
use Rattle.f2_overlay.specs.Names.{HasRightMarks}
use Rattle.f2_overlay.specs.Nodes.{HasRightNids}
use Rattle.f2_overlay.specs.Rolls.{IsRoll, IsRollAt, AreRolls, HasRightPages}
use Rattle.f2_overlay.specs.declared.rolls.Roll.{Roll}
use Rattle.f2_overlay.proofs.Based.{nid_within, row_of}
use Rattle.f2_overlay.proofs.LastPlaces.{last_is}
use Rattle.f2_overlay_laws.proofs.LastMarks.{IsLeft, rolls_on}
use Rattle.f2_overlay_laws.proofs.RolledRows.{rolled_alike}
use Rattle.f2_overlay_laws.specs.Rolled.{AreAlikeRolled}
use Rattle.f2_recover.specs.Walking.{IsBaseRead}
use Rattle.f2_recover.specs.declared.rows.BaseRow.{BaseRow}
use Rattle.f2_recover.specs.declared.walk.Walk.{Walk}
use Rattle.f2_found.specs.Made.{Rolls}
use Rattle.f2_found.proofs.Maps.{one_some}

-- an image whose base and marks were read, and its tree
pub record IsTree (image : Image) (ckpt : Checkpoint) (walk : Walk) (rolls : Rolls) (base : Rows) (marks : List Mark) : Type 0 where
  pub read : IsBaseRead image ckpt walk
  pub nids : HasRightNids image ckpt
  pub right : HasRightMarks image ckpt
  pub pages : HasRightPages image ckpt
  pub are : AreRolls image ckpt walk rolls
  pub is_base : IsBase image ckpt base
  pub are_marks : AreMarks image ckpt base marks

-- a kind that isn't a directory's
regular_of : (kind : Kind) (told : Option Kind) → told ≡ Some kind → ¬ (told ≡ Some Directory) → kind ≡ Regular
regular_of Regular told is other = refl
regular_of Directory told is other = absurd (other is)

module _ (image : Image) (ckpt : Checkpoint) (walk : Walk) (rolls : Rolls) (base : Rows) (marks : List Mark) (is : IsTree image ckpt walk rolls base marks) where
  abbrev last : ℕ → Option ℕ
  last ino = last_mark_before (chain image ckpt) (length (chain image ckpt)) ino

  abbrev pub tree : Rows
  tree = rolled base marks

  pub alike : (ino : ℕ) → AreAlikeRolled image (map.get tree ino) (map.get rolls ino) (map.get walk.rows ino)
  alike ino = rolled_alike image ckpt walk rolls base marks is.read is.right is.are is.is_base is.are_marks ino

  -- a row of the tree is one of the base, or a file's
  pub row_from : (ino : ℕ) (row : Row) → map.get tree ino ≡ Some row → (map.get base ino ≡ Some row) ⊎ ((row.ino ≡ ino) × (row.kind ≡ Regular))
  row_from ino row there = by (rolls_on (chain image ckpt) (IsMark image ckpt base (chain image ckpt)) (λ place mark is. is.ino) ino (length (chain image ckpt)) 0 (length (chain image ckpt)) base marks (omega arith) is.are_marks)
    where
      by : IsLeft (chain image ckpt) (IsMark image ckpt base (chain image ckpt)) (λ place mark is. is.ino) ino None (map.get base ino) (last ino) (map.get tree ino) → (map.get base ino ≡ Some row) ⊎ ((row.ino ≡ ino) × (row.kind ≡ Regular))
      by (inl none) = inl (sym none.1 ∙ there)
      by (inr one) =
          let own = last_is (chain image ckpt) ino (length (chain image ckpt)) one.place one.found_is in
          let block = block_in (chain image ckpt) one.place in
          let file = (is.right.marks one.place block (record { within = own.0; stands = refl; marked = own.1.marked })).kind in
          let same : one.mark.row ≡ row = one_some one.mark.row row (sym one.row_is ∙ there) in
          inr (
            ap (λ (r : Row). r.ino) (sym same) ∙ one.is.row_ino ∙ one.is.ino ∙ own.1.own,
            ap (λ (r : Row). r.kind) (sym same) ∙ regular_of one.mark.row.kind (inode_kind block) one.is.kind file,
          )

  pub own_ino : (ino : ℕ) (row : Row) → map.get tree ino ≡ Some row → row.ino ≡ ino
  own_ino ino row there = by (row_from ino row there)
    where
      by : (map.get base ino ≡ Some row) ⊎ ((row.ino ≡ ino) × (row.kind ≡ Regular)) → row.ino ≡ ino
      by (inl old) = (is.is_base.rows ino row old).own
      by (inr file) = file.0

  -- a file that was rolled has its mark
  pub record IsRollFrom (ino : ℕ) (roll : Roll) : Type 0 where
    pub place : ℕ
    pub at : IsRollAt image ckpt walk place ino roll
    pub marked_at : IsMarkedAt image ckpt place (block_in (chain image ckpt) place)
    pub own : footer_ino (block_in (chain image ckpt) place) ≡ ino

  pub roll_from : (ino : ℕ) (roll : Roll) → map.get rolls ino ≡ Some roll → IsRollFrom ino roll
  roll_from ino roll there = by (last ino) refl (subst (IsRoll image ckpt walk ino (last ino)) there (is.are ino))
    where
      by : (o : Option ℕ) → last ino ≡ o → IsRoll image ckpt walk ino o (Some roll) → IsRollFrom ino roll
      by None found at = absurd at
      by (Some place) found at =
          let mark = last_is (chain image ckpt) ino (length (chain image ckpt)) place found in
          record { place = place; at = at; marked_at = record { within = mark.0; stands = refl; marked = mark.1.marked }; own = mark.1.own }

  -- no ino is past the table
  pub roll_within : (ino : ℕ) (roll : Roll) → map.get rolls ino ≡ Some roll → ino < nid_limit ckpt.geom
  roll_within ino roll there =
      let from = roll_from ino roll there in
      let block = block_in (chain image ckpt) from.place in
      let top = eqb-true (footer_offset block) 0 (and_parts (footer_offset block == 0) (has_fsync_mark block) from.marked_at.marked).0 in
      let nid = is.nids from.place block (marked from.marked_at) in
      subst (λ n. n < nid_limit ckpt.geom) (nid.inode top ∙ from.own) nid.most

  pub row_within : (ino : ℕ) (row : BaseRow) → map.get walk.rows ino ≡ Some row → ino < nid_limit ckpt.geom
  row_within ino row there = let file = (row_of image ckpt walk is.read ino row there).file in nid_within image ckpt ino file.inode file.is.there
