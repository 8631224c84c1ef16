-- The nids and the addresses of a node log, block by block, over a base that was read.
use Rattle.std.proofs.Common.{◌≡◌, ◌≢◌, ◌⊎◌, ℕ, ◌+◌, ◌<◌, ◌≤◌, ◌==◌, Bool, true, false, cond, Some, None, List, length, refl, sym, ap, ◌∙◌, subst, inl, inr, arith, eq-eqb}
use Rattle.std.specs.Prelude.{slice_index_or}
use Rattle.std.specs.FinMap as map
use Rattle.std.specs.FinSet as set
use Rattle.std.specs.Ordering.{nat_cmp, eq_by_cmp}
use Rattle.std.specs.Cmp.{nat_cmp_total, unsigned_tied}
use Rattle.std.proofs.lemmas.Bool.{both_ways, cases_eq, cases_lt, ne_eqb}
use Rattle.std.proofs.lemmas.Option.{same_Some}
use Rattle.f2_footer.specs.Footer.{footer_of}
use Rattle.f2_footer.specs.declared.Footer.{Footer}
use Rattle.f2_format.specs.Footer.{footer_nid, footer_ino, footer_offset}
use Rattle.f2_format.specs.Geometry.{ImageGeometry, nid_limit}
use Rattle.f2_image.specs.Images.{Image}
use Rattle.f2_image.specs.Packs.{Checkpoint}
use Rattle.f2_image.specs.Nodes.{node_address}
use Rattle.f2_image.specs.Chains.{Logged, chain, block_in, no_block}
use Rattle.f2_image.specs.Reached.{IsNode, IsTaken, marked, direct}
use Rattle.f2_image.specs.Faults.{HasTable, HasNid, in_base, in_log, IsBadNat, no_nid, no_ino, other, taken, IsShared}
use Rattle.f2_image.specs.Faults as faults
use Rattle.f2_recover.specs.Faults.{IsRightFault}
use Rattle.f2_recover.specs.Walking.{IsBaseRead}
use Rattle.f2_recover.specs.declared.faults.MountFault.{MountFault}
use Rattle.f2_recover.specs.declared.faults.MountFault.TheVariants.{Bad, Read, Memory}
use Rattle.f2_recover.specs.declared.faults.BadImage.{BadImage}
use Rattle.f2_recover.specs.declared.walk.Walk.{Walk}
use Rattle.f2_recover.proofs.NodesOfFiles.{one_nid}
use Rattle.f2_overlay.specs.Nids.{Holders, owner_of, IsFitNid, IsClaimed, IsClaimFault, IsClaimedBefore, IsCheckedTo}
use Rattle.f2_overlay.specs.Nodes.{HasRightNids, IsApart}
use Rattle.f2_overlay.specs.declared.holders.Holder.{Holder}
use Rattle.f2_overlay.proofs.BasedNids.{has_table, right_node, node_taken, nid_taken, one_node}

-- nodes that differ do so in the file or in the place there
same_owner : (a b : Holder) → a.ino ≡ b.ino → a.offset ≡ b.offset → a ≡ b
same_owner a b p q = λ i. record { ino = p i; offset = q i }

owners_differ : (a b : Holder) → a ≢ b → (a.ino ≢ b.ino) ⊎ (a.offset ≢ b.offset)
owners_differ a b differ = by (cases_eq a.ino b.ino)
  where
    by : (a.ino ≡ b.ino) ⊎ (a.ino ≢ b.ino) → (a.ino ≢ b.ino) ⊎ (a.offset ≢ b.offset)
    by (inr apart) = inl apart
    by (inl same) = inr (λ too. differ (same_owner a b same too))

module _ (image : Image) (ckpt : Checkpoint) where
  -- a block that is taken stands in the chain
  pub taken_within : (place : ℕ) (block : List ℕ) → IsTaken image ckpt place block → place < length (chain image ckpt)
  taken_within place block (marked m) = m.within
  taken_within place block (direct counted d) =
      let later : place ≤ counted.mark = counted.later in
      let within : counted.mark < length (chain image ckpt) = counted.marked.within in
      omega (arith, later, within)

  pub taken_stands : (place : ℕ) (block : List ℕ) → IsTaken image ckpt place block → block ≡ block_in (chain image ckpt) place
  taken_stands place block (marked m) = m.stands
  taken_stands place block (direct counted d) = counted.stands

module _ (image : Image) (ckpt : Checkpoint) (walk : Walk) (base : IsBaseRead image ckpt walk) where
  -- a nid fits: it is the node's own in the base, or the base has neither
  module _ (ino offset nid : ℕ) (least : 4 ≤ nid) (most : nid < nid_limit walk.zones.geom) (inode : offset ≡ 0 → nid ≡ ino) where
    within : nid < nid_limit ckpt.geom
    within = subst (λ (e : ImageGeometry). nid < nid_limit e) base.geom_is most

    pub fit_own : (own : ℕ) → IsNode image ckpt ino offset own → own ≡ nid → IsFitNid image ckpt ino offset nid
    fit_own own is same =
        let at : IsNode image ckpt ino offset nid = subst (IsNode image ckpt ino offset) same is in
        record {
          least = least;
          most = within;
          inode = inode;
          kept = λ one node. one_nid image ckpt ino offset one nid node at;
          alone = λ one more node. one_node image ckpt walk base one more ino offset nid node at;
        }

    pub fit_new : ((own : ℕ) → IsNode image ckpt ino offset own → ⊥) → set.contains walk.zones.nids nid ≡ false → IsFitNid image ckpt ino offset nid
    fit_new none free = record {
      least = least;
      most = within;
      inode = inode;
      kept = λ one node. absurd (none one node);
      alone = λ one more node. absurd (both_ways _ free (right_node image ckpt walk base one more nid node).nid_is);
    }

  -- and where one doesn't, the condition stands
  module _ (footer : Footer) (place : ℕ) (block : List ℕ) (is : footer ≡ footer_of block) (takes : IsTaken image ckpt place block) where
    nid_is : footer_nid block ≡ footer.nid
    nid_is = sym (ap (λ (f : Footer). f.nid) is)

    pub too_low : footer.nid < 4 → IsBadNat image ckpt footer.nid
    too_low low = no_nid place block takes nid_is (inl low)

    pub too_great : nid_limit walk.zones.geom ≤ footer.nid → IsBadNat image ckpt footer.nid
    too_great past = no_nid place block takes nid_is (inr (subst (λ (e : ImageGeometry). nid_limit e ≤ footer.nid) base.geom_is past))

    pub not_ino : footer.offset ≡ 0 → footer.nid ≢ footer.ino → IsBadNat image ckpt footer.nid
    not_ino first differs = no_ino place block takes nid_is (sym (ap (λ (f : Footer). f.offset) is) ∙ first) (λ same. differs (same ∙ sym (ap (λ (f : Footer). f.ino) is)))

    pub not_own : (own : ℕ) → IsNode image ckpt footer.ino footer.offset own → own ≢ footer.nid → IsBadNat image ckpt footer.nid
    not_own own node differs = other place block own takes nid_is (subst (λ (f : Footer). IsNode image ckpt f.ino f.offset own) is node) differs

    pub not_free : ((own : ℕ) → IsNode image ckpt footer.ino footer.offset own → ⊥) → set.contains walk.zones.nids footer.nid ≡ true → IsBadNat image ckpt footer.nid
    not_free none held =
        let t = nid_taken image ckpt walk base footer.nid held in
        taken place block t.ino t.offset takes nid_is (in_base t.is) (differs t.ino t.offset t.is)
      where
        differs : (i o : ℕ) → IsNode image ckpt i o footer.nid → (footer_ino block ≢ i) ⊎ (footer_offset block ≢ o)
        differs i o node = by (cases_eq (footer_ino block) i)
          where
            by : (footer_ino block ≡ i) ⊎ (footer_ino block ≢ i) → (footer_ino block ≢ i) ⊎ (footer_offset block ≢ o)
            by (inr apart) = inl apart
            by (inl same) = inr (λ too. none footer.nid
                (subst (λ (f : Footer). IsNode image ckpt f.ino f.offset footer.nid) (sym is)
                (subst (λ x. IsNode image ckpt (footer_ino block) x footer.nid) (sym too) (subst (λ x. IsNode image ckpt x o footer.nid) (sym same) node))))

  -- one block more of a log
  module _ (log : List Logged) (whole : log ≡ chain image ckpt) (place : ℕ) (inside : place < length log) (owners : Holders) (to : IsCheckedTo image ckpt place owners) where
    abbrev stood : Logged
    stood = slice_index_or log place no_block

    here : stood ≡ slice_index_or (chain image ckpt) place no_block
    here = ap (λ (l : List Logged). slice_index_or l place no_block) whole

    pub is_shared : set.contains walk.zones.nodes stood.at ≡ true → HasTable ckpt × IsShared image ckpt stood.at
    is_shared held =
        let t = node_taken image ckpt walk base stood.at held in (
          has_table image ckpt walk base,
          faults.logged t.other t.more t.nid place t.is t.address (subst (λ (l : List Logged). place < length l) whole inside) (sym (ap (λ (l : Logged). l.at) here)),
        )

    module _ (free : set.contains walk.zones.nodes stood.at ≡ false) where
      apart_here : (ino offset nid : ℕ) → IsNode image ckpt ino offset nid → (slice_index_or (chain image ckpt) place no_block).at ≢ node_address image ckpt nid
      apart_here ino offset nid node same =
          both_ways _ free (ap (set.contains walk.zones.nodes) (ap (λ (l : Logged). l.at) here ∙ same) ∙ (right_node image ckpt walk base ino offset nid node).taken_is)

      apart_more : (ino offset nid earlier : ℕ) → IsNode image ckpt ino offset nid → earlier < place + 1 → (slice_index_or (chain image ckpt) earlier no_block).at ≢ node_address image ckpt nid
      apart_more ino offset nid earlier node low = by (cases_lt earlier place)
        where
          by : (earlier < place) ⊎ (place ≤ earlier) → (slice_index_or (chain image ckpt) earlier no_block).at ≢ node_address image ckpt nid
          by (inl before) = to.apart ino offset nid earlier node before
          by (inr least) =
              let same : place ≡ earlier = omega (arith, low, least) in
              subst (λ e. (slice_index_or (chain image ckpt) e no_block).at ≢ node_address image ckpt nid) same (apart_here ino offset nid node)

      later : (nid : ℕ) (owner : Holder) → IsClaimedBefore image ckpt place nid owner → IsClaimedBefore image ckpt (place + 1) nid owner
      later nid owner claimed =
          let low : claimed.earlier < place = claimed.before in
          record { earlier = claimed.earlier; before = omega (arith, low); block = claimed.block; taken = claimed.taken; nid_is = claimed.nid_is; owner_is = claimed.owner_is }

      -- where it isn't taken
      pub passed_more : (IsTaken image ckpt place (block_in log place) → ⊥) → IsCheckedTo image ckpt (place + 1) owners
      passed_more passed = record {
        apart = apart_more;
        fit = λ earlier block takes low. to.fit earlier block takes (before earlier block takes low);
        known = λ earlier block takes low. to.known earlier block takes (before earlier block takes low);
        only = λ nid owner is. later nid owner (to.only nid owner is);
      }
        where
          before : (earlier : ℕ) (block : List ℕ) → IsTaken image ckpt earlier block → earlier < place + 1 → earlier < place
          before earlier block takes low = by (cases_lt earlier place)
            where
              by : (earlier < place) ⊎ (place ≤ earlier) → earlier < place
              by (inl less) = less
              by (inr least) =
                  let same : earlier ≡ place = omega (arith, low, least) in
                  let at : IsTaken image ckpt place block = subst (λ e. IsTaken image ckpt e block) same takes in
                  absurd (passed (subst (IsTaken image ckpt place) (taken_stands image ckpt place block at ∙ sym (ap (λ (l : Logged). l.block) here)) at))

      -- where it is, and its nid fits and is given to its node
      module _ (now : Holders) (takes : IsTaken image ckpt place (block_in log place)) where
        abbrev block : List ℕ
        block = block_in log place

        pub taken_more : IsFitNid image ckpt (footer_ino block) (footer_offset block) (footer_nid block) → IsClaimed owners now (footer_nid block) (owner_of block) → IsCheckedTo image ckpt (place + 1) now
        taken_more fits claimed = record {
          apart = apart_more;
          fit = λ earlier one takes_one low. fit_by earlier one takes_one (part earlier one takes_one low);
          known = λ earlier one takes_one low. known_by earlier one takes_one (part earlier one takes_one low);
          only = λ nid owner is. only_by nid owner is (cases_eq nid (footer_nid block));
        }
          where
            part : (earlier : ℕ) (one : List ℕ) → IsTaken image ckpt earlier one → earlier < place + 1 → (earlier < place) ⊎ (one ≡ block)
            part earlier one takes_one low = by (cases_lt earlier place)
              where
                by : (earlier < place) ⊎ (place ≤ earlier) → (earlier < place) ⊎ (one ≡ block)
                by (inl less) = inl less
                by (inr least) =
                    let same : earlier ≡ place = omega (arith, low, least) in
                    inr (taken_stands image ckpt earlier one takes_one ∙ ap (block_in (chain image ckpt)) same ∙ sym (ap (λ (l : Logged). l.block) here))

            fit_by : (earlier : ℕ) (one : List ℕ) → IsTaken image ckpt earlier one → (earlier < place) ⊎ (one ≡ block) → IsFitNid image ckpt (footer_ino one) (footer_offset one) (footer_nid one)
            fit_by earlier one takes_one (inl less) = to.fit earlier one takes_one less
            fit_by earlier one takes_one (inr same) = subst (λ (b : List ℕ). IsFitNid image ckpt (footer_ino b) (footer_offset b) (footer_nid b)) (sym same) fits

            known_by : (earlier : ℕ) (one : List ℕ) → IsTaken image ckpt earlier one → (earlier < place) ⊎ (one ≡ block) → map.get now (footer_nid one) ≡ Some (owner_of one)
            known_by earlier one takes_one (inr same) = subst (λ (b : List ℕ). map.get now (footer_nid b) ≡ Some (owner_of b)) (sym same) claimed.own
            known_by earlier one takes_one (inl less) = by (cases_eq (footer_nid one) (footer_nid block))
              where
                by : (footer_nid one ≡ footer_nid block) ⊎ (footer_nid one ≢ footer_nid block) → map.get now (footer_nid one) ≡ Some (owner_of one)
                by (inr differs) = claimed.others (footer_nid one) differs ∙ to.known earlier one takes_one less
                by (inl same) =
                    let old : owner_of one ≡ owner_of block = claimed.kept (owner_of one) (ap (map.get owners) (sym same) ∙ to.known earlier one takes_one less) in
                    ap (map.get now) same ∙ claimed.own ∙ ap (λ (o : Holder). Some o) (sym old)

            only_by : (nid : ℕ) (owner : Holder) → map.get now nid ≡ Some owner → (nid ≡ footer_nid block) ⊎ (nid ≢ footer_nid block) → IsClaimedBefore image ckpt (place + 1) nid owner
            only_by nid owner is (inr differs) = later nid owner (to.only nid owner (sym (claimed.others nid differs) ∙ is))
            only_by nid owner is (inl same) = record {
              earlier = place;
              before = omega arith;
              block = block;
              taken = takes;
              nid_is = sym same;
              owner_is = same_Some _ _ (sym claimed.own ∙ ap (map.get now) (sym same) ∙ is);
            }

    -- or it has another node
    pub claim_fault : (fault : MountFault) → IsTaken image ckpt place (block_in log place) → IsClaimFault owners (footer_nid (block_in log place)) (owner_of (block_in log place)) fault → IsRightFault image ckpt fault
    claim_fault Read takes wrong = absurd wrong
    claim_fault Memory takes wrong = tt
    claim_fault (Bad bad) takes wrong =
        let held = to.only (footer_nid (block_in log place)) wrong.1.0 wrong.1.1.0 in
        let has : HasNid image ckpt wrong.1.0.ino wrong.1.0.offset (footer_nid (block_in log place)) = in_log held.earlier held.block held.taken (ap (λ (o : Holder). o.ino) held.owner_is) (ap (λ (o : Holder). o.offset) held.owner_is) held.nid_is in
        subst (λ (b : BadImage). IsRightFault image ckpt (Bad b)) (sym wrong.0)
        (has_table image ckpt walk base, taken place (block_in log place) wrong.1.0.ino wrong.1.0.offset takes refl has (owners_differ (owner_of (block_in log place)) wrong.1.0 (λ same. wrong.1.1.1 (sym same))))

  -- all blocks were looked at
  module _ (place : ℕ) (owners : Holders) (to : IsCheckedTo image ckpt place owners) (all : length (chain image ckpt) ≤ place) where
    pub all_right : HasRightNids image ckpt
    all_right at block takes = record {
      least = fits.least;
      most = fits.most;
      inode = fits.inode;
      kept = fits.kept;
      alone = by;
    }
      where
        before : (p : ℕ) (b : List ℕ) → IsTaken image ckpt p b → p < place
        before p b t = let low : p < length (chain image ckpt) = taken_within image ckpt p b t in omega (arith, low, all)

        fits : IsFitNid image ckpt (footer_ino block) (footer_offset block) (footer_nid block)
        fits = to.fit at block takes (before at block takes)

        by : (ino offset : ℕ) → HasNid image ckpt ino offset (footer_nid block) → (ino ≡ footer_ino block) × (offset ≡ footer_offset block)
        by ino offset (in_base node) = fits.alone ino offset node
        by ino offset (in_log p b t own_ino own_offset own_nid) =
            let same : owner_of b ≡ owner_of block = same_Some _ _ (sym (to.known p b t (before p b t)) ∙ ap (map.get owners) own_nid ∙ to.known at block takes (before at block takes)) in
            (sym own_ino ∙ ap (λ (o : Holder). o.ino) same, sym own_offset ∙ ap (λ (o : Holder). o.offset) same)

    pub all_apart : IsApart image ckpt
    all_apart ino offset nid at node low = to.apart ino offset nid at node (omega (arith, low, all))

-- nothing was looked at
pub none_checked : (image : Image) (ckpt : Checkpoint) → IsCheckedTo image ckpt 0 map.empty
none_checked image ckpt = record {
  apart = λ ino offset nid earlier node low. absurd (omega (arith, low));
  fit = λ earlier block takes low. absurd (omega (arith, low));
  known = λ earlier block takes low. absurd (omega (arith, low));
  only = λ nid owner is. absurd (cc (is, map.get-empty {X = Holder} nat_cmp nid));
}

-- a nid that no node has is given to one
module _ (owners : Holders) (nid : ℕ) (owner : Holder) where
  tie : (q : ℕ) → eq_by_cmp nat_cmp q nid ≡ (q == nid)
  tie q = unsigned_tied q nid

  pub newly_claimed : map.get owners nid ≡ None → IsClaimed owners (map.insert owners nid owner) nid owner
  newly_claimed none = record {
    own = map.get-insert nat_cmp_total owners nid owner nid ∙ ap (λ (b : Bool). cond b (Some owner) (map.get owners nid)) (tie nid ∙ eq-eqb nid nid refl);
    kept = λ before is. absurd (cc (none, is));
    others = λ q differs. map.get-insert nat_cmp_total owners nid owner q ∙ ap (λ (b : Bool). cond b (Some owner) (map.get owners q)) (tie q ∙ ne_eqb q nid differs);
  }
