-- The rows below the limit of nids are all rows of an image that was read.
use Rattle.std.proofs.Common.{◌≡◌, ◌⊎◌, inl, inr, ℕ, ◌<◌, ◌≤◌, ◌==◌, true, length, refl, sym, ap, subst, ◌∙◌, arith}
use Rattle.std.specs.Prelude.{Option, Some, None, ◌↔◌}
use Rattle.std.specs.Ordering.{nat_cmp}
use Rattle.std.specs.FinMap as map
use Rattle.std.specs.FinSet as set
use Rattle.std.proofs.lemmas.Bool.{cases_lt, eqb-true, and_parts}
use Rattle.f2_format.specs.Footer.{footer_offset}
use Rattle.f2_format.specs.Geometry.{nid_limit}
use Rattle.f2_image.specs.Images.{Image}
use Rattle.f2_image.specs.Packs.{Checkpoint}
use Rattle.f2_image.specs.Chains.{chain, block_in}
use Rattle.f2_image.specs.Reached.{marked}
use Rattle.f2_overlay.specs.Lasts.{last_mark_before}
use Rattle.f2_overlay.specs.Nodes.{HasRightNids}
use Rattle.f2_overlay.specs.Rolls.{IsRoll, AreRolls}
use Rattle.f2_overlay.specs.declared.rolls.Roll.{Roll}
use Rattle.f2_overlay.proofs.Based.{nid_within}
use Rattle.f2_overlay.proofs.LastPlaces.{last_is}
use Rattle.f2_recover.specs.Walking.{IsBaseRead}
use Rattle.f2_recover.specs.declared.rows.BaseRow.{BaseRow}
use Rattle.f2_recover.specs.declared.walk.Walk.{Walk}
use Rattle.f2_takeover.specs.Rows.{Rolls, GainsName, IsMade, AreMadeTo, AreChangedTo, IsTakenOver, AreRowsOf}
use Rattle.f2_takeover.specs.declared.rows.TakenRow.{TakenRow}

module _ (image : Image) (ckpt : Checkpoint) (walk : Walk) (read : IsBaseRead image ckpt walk) (rolls : Rolls) where
  -- an ino with a row in the base is below the limit
  row_within : (ino : ℕ) (row : BaseRow) → map.get walk.rows ino ≡ Some row → ino < nid_limit walk.zones.geom
  row_within ino row there =
      let file = (read.walked.to.rows ino row there).file in
      subst (λ e. ino < nid_limit e) (sym read.geom_is) (nid_within image ckpt ino file.inode file.is.there)

  -- and so is a marked one
  module _ (right : HasRightNids image ckpt) (are : AreRolls image ckpt walk rolls) where
    roll_within : (ino : ℕ) (roll : Roll) → map.get rolls ino ≡ Some roll → ino < nid_limit walk.zones.geom
    roll_within ino roll there = by (last_mark_before (chain image ckpt) (length (chain image ckpt)) ino) refl (subst (λ (o : Option Roll). IsRoll image ckpt walk ino (last_mark_before (chain image ckpt) (length (chain image ckpt)) ino) o) there (are ino))
      where
        by : (o : Option ℕ) → last_mark_before (chain image ckpt) (length (chain image ckpt)) ino ≡ o → IsRoll image ckpt walk ino o (Some roll) → ino < nid_limit walk.zones.geom
        by None e is = absurd is
        by (Some place) e is =
            let found = last_is (chain image ckpt) ino (length (chain image ckpt)) place e in
            let nid = right place (block_in (chain image ckpt) place) (marked (record { within = found.0; stands = refl; marked = found.1.marked })) in
            let top : footer_offset (block_in (chain image ckpt) place) ≡ 0 = eqb-true (footer_offset (block_in (chain image ckpt) place)) 0 (and_parts (footer_offset (block_in (chain image ckpt) place) == 0) _ found.1.marked).0 in
            let own = nid.inode top ∙ found.1.own in
            subst (λ e. ino < nid_limit e) (sym read.geom_is) (subst (λ n. n < nid_limit ckpt.geom) own nid.most)

    module _ (changed : set.FinSet nat_cmp) (rows : map.FinMap nat_cmp TakenRow) (made : AreMadeTo rolls walk.rows changed (nid_limit walk.zones.geom) rows) (gained : AreChangedTo rolls walk.rows (nid_limit walk.zones.geom) (nid_limit walk.zones.geom) changed) where
      gains : (ino : ℕ) → ino < nid_limit walk.zones.geom → (set.contains changed ino ≡ true) ↔ GainsName rolls walk.rows ino
      gains ino low = (
        gained.only ino,
        λ name.
            ap (set.contains changed) (sym name.parent) ∙ gained.all name.ino name.roll (roll_within name.ino name.roll name.there) name.there name.new (subst (λ n. n < nid_limit walk.zones.geom) (sym name.parent) low),
      )

      of_made : (ino : ℕ) → ino < nid_limit walk.zones.geom → (roll : Option Roll) (base : Option BaseRow) (row : Option TakenRow) → IsMade walk.rows roll base (set.contains changed ino) row → IsTakenOver rolls walk.rows ino roll base row
      of_made ino low (Some roll) base (Some row) is = is
      of_made ino low (Some roll) base None is = is
      of_made ino low None (Some base) (Some row) is = let both = gains ino low in (is.0, (λ e. both.0 (sym is.1 ∙ e), λ name. is.1 ∙ both.1 name))
      of_made ino low None (Some base) None is = is
      of_made ino low None None (Some row) is = is
      of_made ino low None None None is = is

      past : (ino : ℕ) → nid_limit walk.zones.geom ≤ ino → (roll : Option Roll) → map.get rolls ino ≡ roll → (base : Option BaseRow) → map.get walk.rows ino ≡ base → IsTakenOver rolls walk.rows ino roll base None
      past ino high (Some roll) e base f = let low = roll_within ino roll e in absurd (omega (arith, high, low))
      past ino high None e (Some base) f = let low = row_within ino base f in absurd (omega (arith, high, low))
      past ino high None e None f = tt

      pub all_rows : AreRowsOf rolls walk.rows rows
      all_rows ino = by (cases_lt ino (nid_limit walk.zones.geom))
        where
          by : (ino < nid_limit walk.zones.geom) ⊎ (nid_limit walk.zones.geom ≤ ino) → IsTakenOver rolls walk.rows ino (map.get rolls ino) (map.get walk.rows ino) (map.get rows ino)
          by (inl low) = of_made ino low (map.get rolls ino) (map.get walk.rows ino) (map.get rows ino) (made.below ino low)
          by (inr high) = subst (IsTakenOver rolls walk.rows ino (map.get rolls ino) (map.get walk.rows ino)) (sym (made.above ino high)) (past ino high (map.get rolls ino) refl (map.get walk.rows ino) refl)
