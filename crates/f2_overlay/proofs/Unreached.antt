-- An ino that has no row in the base: it has no node there, unless it is the nid of another node.
use Rattle.std.proofs.Common.{◌≡◌, ◌≢◌, ◌⊎◌, inl, inr, ℕ, ◌==◌, ◌||◌, nat_le, Bool, true, false, cond, List, refl, sym, ap, subst, ◌∙◌, arith}
use Rattle.std.specs.Prelude.{Option, Some, None, is_some}
use Rattle.std.specs.FinMap as map
use Rattle.std.specs.FinSet as set
use Rattle.std.proofs.lemmas.Bool.{cases_eq, eqb-true, and_parts}
use Rattle.f2_footer.specs.Footer.{footer_of}
use Rattle.f2_footer.specs.declared.Footer.{Footer}
use Rattle.f2_format.specs.Footer.{footer_ino, footer_offset, footer_nid, has_fsync_mark}
use Rattle.f2_format.specs.Geometry.{nid_limit}
use Rattle.f2_image.specs.Images.{Image}
use Rattle.f2_image.specs.Packs.{Checkpoint}
use Rattle.f2_image.specs.Nodes.{place_of_nid, node, block_there}
use Rattle.f2_image.specs.Reached.{IsMarkedAt, marked}
use Rattle.f2_image.specs.Faults.{HasTable, HasNid, IsBadNat, in_base}
use Rattle.f2_image.specs.Faults as faults
use Rattle.f2_recover.specs.Walking.{IsBaseRead}
use Rattle.f2_recover.specs.Taking.{TakenNid}
use Rattle.f2_recover.specs.declared.rows.BaseRow.{BaseRow}
use Rattle.f2_recover.specs.declared.walk.Walk.{Walk}
use Rattle.f2_recover.proofs.NodesOfFiles.{reached_of}
use Rattle.f2_recover.proofs.Sets.{not_both}
use Rattle.f2_overlay.proofs.Maps.{not_none}
use Rattle.f2_overlay.proofs.Based.{nid_within, reached_row}

-- a nid without an address has no node
either_way : (b : Bool) → cond {A = ℕ} b 0 0 ≡ 0
either_way true = refl
either_way false = refl

no_node : (image : Image) (ckpt : Checkpoint) (nid : ℕ) → (place_of_nid image ckpt nid).1 ≡ 0 → node image ckpt nid ≡ None
no_node image ckpt nid none = ap (block_there image) (ap (λ n. cond ((nid == 0) || nat_le (nid_limit ckpt.geom) nid) 0 n) none ∙ either_way ((nid == 0) || nat_le (nid_limit ckpt.geom) nid))

module _ (image : Image) (ckpt : Checkpoint) (walk : Walk) (base : IsBaseRead image ckpt walk) where
  no_zero : map.contains_key walk.rows 0 ≡ false
  no_zero = by (map.get walk.rows 0) refl
    where
      by : (o : Option BaseRow) → map.get walk.rows 0 ≡ o → map.contains_key walk.rows 0 ≡ false
      by None e = ap (λ (x : Option BaseRow). is_some x) e
      by (Some row) e = let bound = base.walked.to.bound 0 row e (λ same. omega (arith, same)) in let least = bound.stands.least in absurd (omega (arith, least, bound.own))

  -- a nid that no node of the base has has no node
  pub free_nid : (nid : ℕ) → set.contains walk.zones.nids nid ≡ false → node image ckpt nid ≡ None
  free_nid nid free = by (node image ckpt nid) refl
    where
      by : (o : Option (List ℕ)) → node image ckpt nid ≡ o → node image ckpt nid ≡ None
      by None e = e
      by (Some block) e = absurd (not_both (base.reached nid (nid_within image ckpt nid block e) (λ none. not_none block (sym (no_node image ckpt nid none) ∙ e))) free)

  taken_nid : (nid : ℕ) → set.contains walk.zones.nids nid ≡ true → TakenNid image ckpt nid
  taken_nid nid has = (base.walked.to.taken.next 0 no_zero).nids nid has

  -- a marked block whose ino is the nid of another node
  module _ (place : ℕ) (block : List ℕ) (footer : Footer) (is : IsMarkedAt image ckpt place block) (read : footer ≡ footer_of block) (none : map.get walk.rows footer.ino ≡ None) (has : set.contains walk.zones.nids footer.ino ≡ true) where
    top : footer_offset block ≡ 0
    top = eqb-true (footer_offset block) 0 (and_parts (footer_offset block == 0) (has_fsync_mark block) is.marked).0

    ino_is : footer_ino block ≡ footer.ino
    ino_is = sym (ap (λ (f : Footer). f.ino) read)

    nid_is : footer_nid block ≡ footer.nid
    nid_is = sym (ap (λ (f : Footer). f.nid) read)

    bad_by : (footer.nid ≡ footer.ino) ⊎ (footer.nid ≢ footer.ino) → IsBadNat image ckpt footer.nid
    bad_by (inr other) = faults.no_ino place block (marked is) nid_is top (λ same. other (same ∙ ino_is))
    bad_by (inl same) =
        let taken = taken_nid footer.ino has in
        let node_is : HasNid image ckpt taken.ino taken.offset footer.nid = subst (λ n. HasNid image ckpt taken.ino taken.offset n) (sym same) (in_base taken.is) in
        faults.taken place block taken.ino taken.offset (marked is) nid_is node_is
        (inl (λ own.
        let row = reached_row image ckpt walk base taken.ino (reached_of image ckpt taken.ino taken.offset footer.ino taken.is) in
        not_none row.row (sym none ∙ ap (map.get walk.rows) (sym ino_is ∙ own) ∙ row.there)))

    pub bad_ino : HasTable ckpt × IsBadNat image ckpt footer.nid
    bad_ino = (base.has, bad_by (cases_eq footer.nid footer.ino))
