-- No condition on nids, inodes and blocks of directories stands in an image of a disk with a node log.
use Rattle.std.proofs.Common.{◌≡◌, ◌≢◌, ◌⊎◌, inl, inr, ℕ, List, slice_index_or, sym, ap, ◌∙◌, subst, arith}
use Rattle.std.specs.Prelude.{Some}
use Rattle.std.specs.FinMap as map
use Rattle.std.proofs.lemmas.Option.{none-some, same_Some}
use Rattle.f2_format.specs.Geometry.{is_in_node}
use Rattle.f2_format.specs.Footer.{footer_ino, footer_offset}
use Rattle.f2_format.specs.Dentry.{dentry_fault}
use Rattle.f2_disk.specs.Contents.{Contents}
use Rattle.f2_model.specs.State.{State}
use Rattle.f2_model.specs.declared.rows.Kind.TheVariants.{Directory}
use Rattle.f2_image.specs.Images.{Image}
use Rattle.f2_image.specs.Chains.{no_block, block_in}
use Rattle.f2_image.specs.Reached.{IsTaken}
use Rattle.f2_image.specs.Faults.{HasTable, IsNoNid, HasNid, IsBadNat, IsForeign, IsBadInode, HasDentryFault, BadNat, BadInode, DentFault, VersionEnd}
use Rattle.f2_image.specs.Faults as faults
use Rattle.f2_image_laws.proofs.Agreeing.{bad_nat}
use Rattle.f2_stored.specs.Layout.{Layout, chained}
use Rattle.f2_stored.specs.Numbers.{IsNumbered}
use Rattle.f2_stored_laws.proofs.LogImages.{HasPart, MarkAt, in_log, taken_in, counts_in, mark_at}

bad_inode : BadInode ≢ VersionEnd
bad_inode e = cc

dent_fault : DentFault ≢ VersionEnd
dent_fault e = cc

module _ (lists : Contents) (layout : Layout) (state : State) (image : Image) (part : HasPart lists layout state image) where
  -- the numbers of a block that recovery takes
  numbered : (place : ℕ) (block : List ℕ) → IsTaken image layout.base.ckpt place block → IsNumbered layout (record { at = (slice_index_or (chained layout) place no_block).at; block = block })
  numbered place block taken =
      let at = taken_in lists layout state image part place block taken in
      let one = slice_index_or (chained layout) place no_block in
      subst (λ b. IsNumbered layout (record { at = one.at; block = b })) (sym at.1)
      (part.keeps.nids.log place (in_log lists layout state image part place at.0) (counts_in lists layout state image part place block taken))

  nid_of : (ino offset nid : ℕ) → HasNid image layout.base.ckpt ino offset nid → map.get layout.nids (ino, offset) ≡ Some nid
  nid_of ino offset nid (faults.in_base is) = part.keeps.nids.base ino offset nid (part.alike.back.node ino offset nid is)
  nid_of ino offset nid (faults.in_log place block taken own at is) =
      (λ i. map.get layout.nids (sym own i, sym at i)) ∙ (numbered place block taken).nid ∙ ap Some is

  pub no_bad_nat : (nid : ℕ) → HasTable layout.base.ckpt → IsBadNat image layout.base.ckpt nid → ⊥
  no_bad_nat nid table (faults.entry bad) = part.keeps.base.means.sound BadNat nid bad_nat (table, faults.entry bad)
  no_bad_nat nid table (faults.unreached small there none) =
      part.keeps.base.means.sound BadNat nid bad_nat (
        table,
        faults.unreached small (λ zero_there. there (ap (λ place. place.1) (part.alike.places nid small) ∙ zero_there))
            (λ ino offset is. none ino offset (part.alike.there.node ino offset nid is)),
      )
  no_bad_nat nid table (faults.too_low ino offset is small apart) = part.keeps.base.means.sound BadNat nid bad_nat (table, faults.too_low ino offset (part.alike.back.node ino offset nid is) small apart)
  no_bad_nat nid table (faults.nowhere ino offset is out) =
      part.keeps.base.means.sound BadNat nid bad_nat (table, faults.nowhere ino offset (part.alike.back.node ino offset nid is) (ap (is_in_node layout.base.ckpt.geom) (sym (part.alike.addresses nid)) ∙ out))
  no_bad_nat nid table (faults.misplaced ino offset block is there wrong) =
      part.keeps.base.means.sound BadNat nid bad_nat (table, faults.misplaced ino offset block (part.alike.back.node ino offset nid is) (sym (part.alike.nodes nid) ∙ there) wrong)
  no_bad_nat nid table (faults.no_nid place block taken is none) = by_bound none
    where
      by_bound : IsNoNid layout.base.ckpt nid → ⊥
      by_bound (inl low) = let least = (numbered place block taken).least in absurd (omega (arith, low, least, is))
      by_bound (inr past) = let most = (numbered place block taken).most in absurd (omega (arith, past, most, is))
  no_bad_nat nid table (faults.taken place block ino offset taken is has differ) = by_part differ
    where
      same : ◌≡◌ {A = ℕ × ℕ} (footer_ino block, footer_offset block) (ino, offset)
      same = part.keeps.nids.differ (footer_ino block, footer_offset block) (ino, offset) nid ((numbered place block taken).nid ∙ ap Some is) (nid_of ino offset nid has)

      by_part : (footer_ino block ≢ ino) ⊎ (footer_offset block ≢ offset) → ⊥
      by_part (inl other) = other (ap (λ (at : ℕ × ℕ). at.0) same)
      by_part (inr other) = other (ap (λ (at : ℕ × ℕ). at.1) same)
  no_bad_nat nid table (faults.no_ino place block taken is at differ) = differ (sym is ∙ (numbered place block taken).inode at)
  no_bad_nat nid table (faults.other place block own taken is node differ) =
      differ (same_Some own nid (sym (nid_of _ _ own (faults.in_base node)) ∙ (numbered place block taken).nid ∙ ap Some is))

  pub no_bad_inode : (at : ℕ) → IsBadInode image layout.base.ckpt at → ⊥
  no_bad_inode at (faults.in_base table ino block reach there is foreign) =
      part.keeps.base.means.sound BadInode at bad_inode
      (faults.in_base table ino block (part.alike.back.reached ino reach) (sym (part.alike.nodes ino) ∙ there) (sym (part.alike.addresses ino) ∙ is) foreign)
  no_bad_inode at (faults.in_log place block marked is foreign) = by_part (subst IsForeign found.stands foreign)
    where
      found : MarkAt lists layout state image part place block
      found = mark_at lists layout state image part place block marked

      by_part : IsForeign (block_in (chained layout) place) → ⊥
      by_part (inl no_kind) = none-some found.mark.row.kind (sym no_kind ∙ found.holds.kind)
      by_part (inr (inl long)) = let few = found.holds.name_length in absurd (omega (arith, long, few))
      by_part (inr (inr big)) = let same = found.holds.size in let most = found.holds.most_size in absurd (omega (arith, big, same, most))

  pub no_dentry_fault : (at : ℕ) → HasTable layout.base.ckpt → HasDentryFault image layout.base.ckpt at → ⊥
  no_dentry_fault at table has =
      let reach = part.alike.back.reached has.directory has.reached in
      let block = part.alike.back.directory_block has.directory has.page at has.block in
      let same = part.alike.pages has.directory has.page at (record { reached = reach; kind = Directory; inode = block.inode; is = block.is; within = block.within; address = block.at_page; there = block.there }) in
      part.keeps.base.means.sound DentFault at dent_fault (
        table,
        record { directory = has.directory; page = has.page; slot = has.slot; reached = reach; block = block; fault = ap dentry_fault (sym same) ∙ has.fault },
      )
