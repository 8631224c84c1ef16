-- The nodes of a file as its last mark has them are those of the last blocks that recovery takes.
use Rattle.std.proofs.Common.{◌≡◌, ◌≢◌, ◌⊎◌, inl, inr, ℕ, zero, suc, ◌+◌, ◌<◌, ◌≤◌, ◌==◌, Bool, true, false, cond, List, length, refl, sym, ap, subst, ◌∙◌, arith, eq-eqb}
use Rattle.std.specs.Prelude.{Option, Some, None}
use Rattle.std.specs.Option.{option_map}
use Rattle.std.specs.Ordering.{nat_cmp}
use Rattle.std.specs.FinMap as map
use Rattle.std.proofs.lemmas.Bool.{and_parts, and_from, both_ways, cases_eq, eqb-true}
use Rattle.std.proofs.lemmas.Option.{same_Some}
use Rattle.f2_format.specs.Footer.{footer_ino, footer_offset}
use Rattle.f2_format.specs.Offsets.{direct_limit, nth_direct}
use Rattle.f2_image.specs.Images.{Image}
use Rattle.f2_image.specs.Packs.{Checkpoint}
use Rattle.f2_image.specs.Chains.{Logged, chain, block_in, is_marked, is_node_of}
use Rattle.f2_image.specs.Reached.{IsDirect, IsMarkedAt, IsCounted, IsTaken, marked, direct}
use Rattle.f2_overlay.specs.Lasts.{last_mark_before}
use Rattle.f2_overlay.specs.Nodes.{HasRightNids}
use Rattle.f2_overlay.specs.Rolls.{IsRollAt, IsRoll, AreRolls}
use Rattle.f2_overlay.specs.Taking.{last_node_before, node_in}
use Rattle.f2_overlay.specs.declared.rolls.Roll.{Roll}
use Rattle.f2_overlay.specs.declared.taking.NodeAt.{NodeAt}
use Rattle.f2_overlay.proofs.LastPlaces.{IsMark, last_is, last_from}
use Rattle.f2_overlay.proofs.Maps.{not_none}
use Rattle.f2_recover.specs.declared.walk.Walk.{Walk}
use Rattle.f2_overlay_laws.specs.Taken.{IsOfTaken, IsLastTaken, TellsNode, AreTakenNodes}

-- whether an offset is that of a direct node
direct_below : (offset n : ℕ) → n ≤ direct_limit → IsDirect offset ⊎ ((number : ℕ) → number < n → nth_direct number ≢ offset)
direct_below offset zero small = inr (λ number low. absurd (omega (arith, low)))
direct_below offset (suc n) small = by (cases_eq (nth_direct n) offset) (direct_below offset n (omega (arith, small)))
  where
    by : (nth_direct n ≡ offset) ⊎ (nth_direct n ≢ offset) → IsDirect offset ⊎ ((number : ℕ) → number < n → nth_direct number ≢ offset) → IsDirect offset ⊎ ((number : ℕ) → number < suc n → nth_direct number ≢ offset)
    by (inl same) below = inl (record { number = n; within = omega (arith, small); is = same })
    by (inr other) (inl found) = inl found
    by (inr other) (inr none) = inr (λ number low. at number low (cases_eq number n))
      where
        at : (number : ℕ) → number < suc n → (number ≡ n) ⊎ (number ≢ n) → nth_direct number ≢ offset
        at number low (inl same) is = other (ap nth_direct (sym same) ∙ is)
        at number low (inr different) is = none number (omega (arith, low, different)) is

module _ (log : List Logged) (ino offset : ℕ) where
  -- a node of a file stands at a place
  record IsNodeAt (place : ℕ) : Type 0 where
    own : footer_ino (block_in log place) ≡ ino
    offset_is : footer_offset (block_in log place) ≡ offset

  abbrev stands : ℕ → Bool
  stands place = is_node_of (block_in log place) ino offset

  is_node_at : (place : ℕ) → stands place ≡ true → IsNodeAt place
  is_node_at place e = let parts = and_parts (footer_ino (block_in log place) == ino) _ e in record { own = eqb-true _ _ parts.0; offset_is = eqb-true _ _ parts.1 }

  node_stands : (place : ℕ) → IsNodeAt place → stands place ≡ true
  node_stands place is = and_from (footer_ino (block_in log place) == ino) _ (eq-eqb _ _ is.own) (eq-eqb _ _ is.offset_is)

  step : (n : ℕ) (b : Bool) → stands n ≡ b → last_node_before log (suc n) ino offset ≡ cond b (Some n) (last_node_before log n ino offset)
  step n b e = ap (λ (t : Bool). cond t (Some n) (last_node_before log n ino offset)) e

  last_node_is : (n place : ℕ) → last_node_before log n ino offset ≡ Some place → (place < n) × IsNodeAt place
  last_node_is zero place e = absurd (not_none place e)
  last_node_is (suc n) place e = by (stands n) refl (last_node_is n place)
    where
      by : (b : Bool) → stands n ≡ b → (last_node_before log n ino offset ≡ Some place → (place < n) × IsNodeAt place) → (place < suc n) × IsNodeAt place
      by true t earlier = let same : n ≡ place = same_Some n place (sym (step n true t) ∙ e) in (omega (arith, same), subst IsNodeAt same (is_node_at n t))
      by false t earlier = let before = earlier (sym (step n false t) ∙ e) in (omega (arith, before.0), before.1)

  last_node_from : (n k : ℕ) → k < n → IsNodeAt k → (place : ℕ) × ((last_node_before log n ino offset ≡ Some place) × (k ≤ place))
  last_node_from zero k low is = absurd (omega (arith, low))
  last_node_from (suc n) k low is = by (stands n) refl (λ less. last_node_from n k less is)
    where
      by : (b : Bool) → stands n ≡ b → (k < n → (place : ℕ) × ((last_node_before log n ino offset ≡ Some place) × (k ≤ place))) → (place : ℕ) × ((last_node_before log (suc n) ino offset ≡ Some place) × (k ≤ place))
      by true t earlier = (n, (step n true t, omega (arith, low)))
      by false t earlier =
          let other : k ≢ n = λ same. both_ways (stands n) t (subst (λ (p : ℕ). stands p ≡ true) same (node_stands k is)) in
          let before = earlier (omega (arith, low, other)) in
          (before.0, (step n false t ∙ before.1.0, before.1.1))

module _ (image : Image) (ckpt : Checkpoint) (walk : Walk) (rolls : map.FinMap nat_cmp Roll) (right : HasRightNids image ckpt) (are : AreRolls image ckpt walk rolls) where
  -- the last mark of a file
  record IsLastMark (ino place : ℕ) : Type 0 where
    within : place < length (chain image ckpt)
    is : IsMark (chain image ckpt) ino place

  mark_at : (ino place : ℕ) → IsLastMark ino place → IsMarkedAt image ckpt place (block_in (chain image ckpt) place)
  mark_at ino place m = record { within = m.within; stands = refl; marked = m.is.marked }

  top_of : (block : List ℕ) → is_marked block ≡ true → footer_offset block ≡ 0
  top_of block e = eqb-true (footer_offset block) 0 (and_parts (footer_offset block == 0) _ e).0

  -- a file that was rolled was rolled from its last mark
  record IsRolledFrom (ino : ℕ) (roll : Roll) : Type 0 where
    place : ℕ
    mark : IsLastMark ino place
    at : IsRollAt image ckpt walk place ino roll

  rolled_from : (ino : ℕ) (roll : Roll) → map.get rolls ino ≡ Some roll → IsRolledFrom ino roll
  rolled_from ino roll there = by (last_mark_before (chain image ckpt) (length (chain image ckpt)) ino) refl (subst (λ (o : Option Roll). IsRoll image ckpt walk ino (last_mark_before (chain image ckpt) (length (chain image ckpt)) ino) o) there (are ino))
    where
      by : (o : Option ℕ) → last_mark_before (chain image ckpt) (length (chain image ckpt)) ino ≡ o → IsRoll image ckpt walk ino o (Some roll) → IsRolledFrom ino roll
      by None e is = absurd is
      by (Some place) e is = let found = last_is (chain image ckpt) ino (length (chain image ckpt)) place e in record { place = place; mark = record { within = found.0; is = found.1 }; at = is }

  -- the block of a direct node up to a mark of its file is taken
  direct_taken : (ino place offset q : ℕ) → IsLastMark ino place → q ≤ place → IsNodeAt (chain image ckpt) ino offset q → IsDirect offset → IsTaken image ckpt q (block_in (chain image ckpt) q)
  direct_taken ino place offset q m low is d =
      direct
      (record { stands = refl; mark = place; inode = block_in (chain image ckpt) place; later = low; marked = mark_at ino place m; same = m.is.own ∙ sym is.own })
      (subst IsDirect (sym is.offset_is) d)

  of_taken : (ino offset place : ℕ) (told : NodeAt) → IsTaken image ckpt place (block_in (chain image ckpt) place) → IsNodeAt (chain image ckpt) ino offset place → told ≡ node_in (chain image ckpt) place → IsOfTaken image ckpt ino offset told
  of_taken ino offset place told taken is same = record { place = place; taken = taken; own = is.own; offset_is = is.offset_is; node_is = same; right = right place (block_in (chain image ckpt) place) taken }

  -- each node that is told
  module _ (ino offset : ℕ) (told : NodeAt) (has : TellsNode rolls ino offset told) (from : IsRolledFrom ino has.roll) where
    of_inode : offset ≡ 0 → IsOfTaken image ckpt ino offset told
    of_inode top =
        let m : IsMark (chain image ckpt) ino from.place = from.mark.is in
        of_taken ino offset from.place told (marked (mark_at ino from.place from.mark)) (record { own = m.own; offset_is = top_of _ m.marked ∙ sym top })
        (same_Some _ _ (sym has.tells ∙ ap (map.get has.roll.nodes) top ∙ from.at.nodes.inode))

    of_direct : IsDirect offset → (o : Option ℕ) → last_node_before (chain image ckpt) (from.place + 1) ino offset ≡ o → IsOfTaken image ckpt ino offset told
    of_direct d None e = absurd (not_none told (sym (from.at.nodes.direct offset d ∙ ap (λ o. option_map (node_in (chain image ckpt)) o) e) ∙ has.tells))
    of_direct d (Some q) e =
        let found = last_node_is (chain image ckpt) ino offset (from.place + 1) q e in
        of_taken ino offset q told (direct_taken ino from.place offset q from.mark (omega (arith, found.0)) found.1 d) found.1
        (same_Some _ _ (sym has.tells ∙ from.at.nodes.direct offset d ∙ ap (λ o. option_map (node_in (chain image ckpt)) o) e))

    by_offset : (offset ≡ 0) ⊎ (offset ≢ 0) → IsDirect offset ⊎ ((number : ℕ) → number < direct_limit → nth_direct number ≢ offset) → IsOfTaken image ckpt ino offset told
    by_offset (inl top) d = of_inode top
    by_offset (inr some) (inl d) = of_direct d (last_node_before (chain image ckpt) (from.place + 1) ino offset) refl
    by_offset (inr some) (inr none) = absurd (not_none told (sym (from.at.nodes.others offset some (λ d. none d.number d.within d.is)) ∙ has.tells))

  -- each last block
  last_mark_of : (ino place : ℕ) → place < length (chain image ckpt) → IsMark (chain image ckpt) ino place → (last : ℕ) × ((last_mark_before (chain image ckpt) (length (chain image ckpt)) ino ≡ Some last) × (place ≤ last) × IsLastMark ino last)
  last_mark_of ino place within is =
      let found = last_from (chain image ckpt) ino (length (chain image ckpt)) place within is in
      let mark = last_is (chain image ckpt) ino (length (chain image ckpt)) found.0 found.1.0 in
      (found.0, (found.1.0, found.1.1, record { within = mark.0; is = mark.1 }))

  -- the roll of a file whose last mark is there
  record HasRollAt (ino place : ℕ) : Type 0 where
    roll : Roll
    there : map.get rolls ino ≡ Some roll
    at : IsRollAt image ckpt walk place ino roll

  roll_at : (ino place : ℕ) → last_mark_before (chain image ckpt) (length (chain image ckpt)) ino ≡ Some place → HasRollAt ino place
  roll_at ino place e = by (map.get rolls ino) refl (subst (λ (o : Option ℕ). IsRoll image ckpt walk ino o (map.get rolls ino)) e (are ino))
    where
      by : (r : Option Roll) → map.get rolls ino ≡ r → IsRoll image ckpt walk ino (Some place) r → HasRollAt ino place
      by None f is = absurd is
      by (Some roll) f is = record { roll = roll; there = f; at = is }

  tells_mark : (place : ℕ) (block : List ℕ) → IsLastTaken image ckpt place block → IsMarkedAt image ckpt place block → TellsNode rolls (footer_ino block) (footer_offset block) (node_in (chain image ckpt) place)
  tells_mark place block last m =
      let ino = footer_ino block in
      let here : IsMark (chain image ckpt) (footer_ino block) place = record { marked = ap is_marked (sym m.stands) ∙ m.marked; own = ap footer_ino (sym m.stands) } in
      let found = last_mark_of (footer_ino block) place m.within here in
      let end : IsLastMark (footer_ino block) found.0 = found.1.2 in
      let top : footer_offset block ≡ 0 = top_of block m.marked in
      let low = last.last found.0 (block_in (chain image ckpt) found.0) (marked (mark_at (footer_ino block) found.0 end)) end.is.own (top_of _ end.is.marked ∙ sym top) in
      let same : found.0 ≡ place = omega (arith, low, found.1.1) in
      let roll = roll_at (footer_ino block) place (found.1.0 ∙ ap Some same) in
      record { roll = roll.roll; there = roll.there; tells = ap (map.get roll.roll.nodes) top ∙ roll.at.nodes.inode }

  tells_direct : (place : ℕ) (block : List ℕ) → IsLastTaken image ckpt place block → IsCounted image ckpt place block → IsDirect (footer_offset block) → TellsNode rolls (footer_ino block) (footer_offset block) (node_in (chain image ckpt) place)
  tells_direct place block last counted d =
      let stands : block ≡ block_in (chain image ckpt) place = counted.stands in
      let m : IsMarkedAt image ckpt counted.mark counted.inode = counted.marked in
      let here : IsMark (chain image ckpt) (footer_ino block) counted.mark = record { marked = ap is_marked (sym m.stands) ∙ m.marked; own = ap footer_ino (sym m.stands) ∙ counted.same } in
      let found = last_mark_of (footer_ino block) counted.mark m.within here in
      let end : IsLastMark (footer_ino block) found.0 = found.1.2 in
      let later : place ≤ counted.mark = counted.later in
      let node : IsNodeAt (chain image ckpt) (footer_ino block) (footer_offset block) place = record { own = ap footer_ino (sym stands); offset_is = ap footer_offset (sym stands) } in
      let near = last_node_from (chain image ckpt) (footer_ino block) (footer_offset block) (found.0 + 1) place (omega (arith, later, found.1.1)) node in
      let is = last_node_is (chain image ckpt) (footer_ino block) (footer_offset block) (found.0 + 1) near.0 near.1.0 in
      let low = last.last near.0 (block_in (chain image ckpt) near.0) (direct_taken (footer_ino block) found.0 (footer_offset block) near.0 end (omega (arith, is.0)) is.1 d) is.1.own is.1.offset_is in
      let same : near.0 ≡ place = omega (arith, low, near.1.1) in
      let roll = roll_at (footer_ino block) found.0 found.1.0 in
      record {
        roll = roll.roll;
        there = roll.there;
        tells = roll.at.nodes.direct (footer_offset block) d ∙ ap (λ o. option_map (node_in (chain image ckpt)) o) (near.1.0 ∙ ap Some same);
      }

  tells_last : (place : ℕ) (block : List ℕ) → IsLastTaken image ckpt place block → IsTaken image ckpt place block → TellsNode rolls (footer_ino block) (footer_offset block) (node_in (chain image ckpt) place)
  tells_last place block last (marked m) = tells_mark place block last m
  tells_last place block last (direct counted d) = tells_direct place block last counted d

  pub taken_nodes : AreTakenNodes image ckpt rolls
  taken_nodes = record {
    only = λ ino offset told has. by_offset ino offset told has (rolled_from ino has.roll has.there) (cases_eq offset 0) (direct_below offset direct_limit (omega arith));
    all = λ place block last. tells_last place block last last.taken;
  }
