-- What is known of the files that were marked, a place of the log later.
use Rattle.std.proofs.Common.{◌≡◌, ◌≢◌, ◌⊎◌, inl, inr, ℕ, ◌+◌, ◌<◌, ◌≤◌, true, false, List, refl, sym, ap, subst, ◌∙◌, arith}
use Rattle.std.specs.Prelude.{Option, Some, None}
use Rattle.std.specs.Option.{unwrap_or}
use Rattle.std.specs.Ordering.{nat_cmp}
use Rattle.std.specs.FinMap as map
use Rattle.std.specs.FinMap.{get-empty}
use Rattle.std.proofs.lemmas.Bool.{cases_eq, cases_lt}
use Rattle.f2_format.specs.Footer.{footer_ino}
use Rattle.f2_format.specs.Inode.{inode_of}
use Rattle.f2_format.specs.Offsets.{page_limit}
use Rattle.f2_image.specs.Images.{Image}
use Rattle.f2_image.specs.Packs.{Checkpoint}
use Rattle.f2_image.specs.Chains.{chain, block_in, is_marked, marked_address}
use Rattle.f2_image.specs.Reached.{IsBasePage, IsMarkedAt}
use Rattle.f2_image.specs.Faults.{IsPastSize}
use Rattle.f2_recover.specs.declared.walk.Walk.{Walk}
use Rattle.f2_overlay.specs.Lasts.{last_mark_before}
use Rattle.f2_overlay.specs.Pending.{IsLeft, ArePending}
use Rattle.f2_overlay.specs.Owning.{IsMore, AreRight, AreOwn}
use Rattle.f2_overlay.specs.Rolling.{AreMarked, AreOwnersTo, EndsWell, IsRolledTo}
use Rattle.f2_overlay.specs.Taking.{AreNodesAt}
use Rattle.f2_overlay.specs.Rolls.{IsRollNamed, IsRoll}
use Rattle.f2_overlay.specs.declared.rolls.Roll.{Roll}
use Rattle.f2_overlay.specs.declared.marks.Rolling.{Rolling}
use Rattle.f2_recover.proofs.Sets.{not_both}
use Rattle.f2_overlay.proofs.Newer.{mark_here, mark_elsewhere, mark_nowhere, pending_marked, pending_none}

module _ (image : Image) (ckpt : Checkpoint) (walk : Walk) (place : ℕ) (old new : Rolling) (before : IsRolledTo image ckpt walk place old) where
  -- at a mark
  module _ (ino : ℕ) (is : IsMarkedAt image ckpt place (block_in (chain image ckpt) place)) (own : footer_ino (block_in (chain image ckpt) place) ≡ ino) (left : IsLeft old.pending new.pending ino)
      (others : (other : ℕ) → other ≢ ino → map.get new.rolls other ≡ map.get old.rolls other) (roll : Roll) (here : map.get new.rolls ino ≡ Some roll) (size : roll.size ≡ (inode_of (block_in (chain image ckpt) place)).size)
      (named : IsRollNamed (block_in (chain image ckpt) place) roll (map.get walk.rows ino)) (pages : AreMarked image ckpt place roll.pages) (nodes : AreNodesAt image ckpt place ino roll.nodes) (more : IsMore old.owners new.owners) (right : AreRight image ckpt new.owners)
      (are_own : AreOwn ino roll.pages new.owners) (ends : (page at : ℕ) → map.get roll.pages page ≡ Some at → ¬ (IsPastSize image roll.size page at)) where
    marked : is_marked (block_in (chain image ckpt) place) ≡ true
    marked = is.marked

    roll_of : (other : ℕ) → (other ≡ ino) ⊎ (other ≢ ino) → IsRoll image ckpt walk other (last_mark_before (chain image ckpt) (place + 1) other) (map.get new.rolls other)
    roll_of other (inl same) =
        subst (λ n. IsRoll image ckpt walk n (last_mark_before (chain image ckpt) (place + 1) n) (map.get new.rolls n)) (sym same)
        (subst (λ (o : Option ℕ). IsRoll image ckpt walk ino o (map.get new.rolls ino)) (sym (mark_here (chain image ckpt) place ino marked own))
        (subst (λ (o : Option Roll). IsRoll image ckpt walk ino (Some place) o) (sym here)
        (record { size = size; named = named; pages = pages.addresses; there = pages.some; within = pages.within; nodes = nodes })))
    roll_of other (inr different) =
        subst (λ (o : Option ℕ). IsRoll image ckpt walk other o (map.get new.rolls other)) (sym (mark_elsewhere (chain image ckpt) place ino marked own other different))
        (subst (λ (o : Option Roll). IsRoll image ckpt walk other (last_mark_before (chain image ckpt) place other) o) (sym (others other different)) (before.rolls other))

    -- a page of the mark
    page_is : (page : ℕ) → page < page_limit → marked_address image ckpt (chain image ckpt) place page ≢ 0 → map.get roll.pages page ≡ Some (marked_address image ckpt (chain image ckpt) place page)
    page_is page within some = by (map.get roll.pages page) refl
      where
        by : (o : Option ℕ) → map.get roll.pages page ≡ o → map.get roll.pages page ≡ Some (marked_address image ckpt (chain image ckpt) place page)
        by (Some at) e = e ∙ ap Some (sym (ap (λ o. unwrap_or o 0) e) ∙ pages.addresses page within)
        by None e = absurd (some (sym (pages.addresses page within) ∙ ap (λ o. unwrap_or o 0) e))

    same_place : (mark : ℕ) → mark < place + 1 → place ≤ mark → place ≡ mark
    same_place mark small high = omega (arith, small, high)

    owner_of : (mark page : ℕ) (block : List ℕ) → mark < place + 1 → IsMarkedAt image ckpt mark block → page < page_limit → marked_address image ckpt (chain image ckpt) mark page ≢ 0 → (mark < place) ⊎ (place ≤ mark)
        → map.get new.owners (marked_address image ckpt (chain image ckpt) mark page) ≡ Some (record { ino = footer_ino block; page = page })
    owner_of mark page block small at within some (inl low) =
        more (marked_address image ckpt (chain image ckpt) mark page) (record { ino = footer_ino block; page = page }) (before.owners.marks mark page block low at within some)
    owner_of mark page block small at within some (inr high) =
        let same = same_place mark small high in
        let block_is : ino ≡ footer_ino block = sym own ∙ ap (λ n. footer_ino (block_in (chain image ckpt) n)) same ∙ ap footer_ino (sym at.stands) in
        let address : marked_address image ckpt (chain image ckpt) place page ≡ marked_address image ckpt (chain image ckpt) mark page = ap (λ n. marked_address image ckpt (chain image ckpt) n page) same in
        ap (map.get new.owners) (sym address) ∙ are_own.own page (marked_address image ckpt (chain image ckpt) place page) (page_is page within (λ zero. some (sym address ∙ zero))) ∙ ap (λ n. Some (record { ino = n; page = page })) block_is

    end_of : (mark : ℕ) → mark < place + 1 → (mark < place) ⊎ (place ≤ mark) → EndsWell image ckpt mark
    end_of mark small (inl low) = before.ends mark low
    end_of mark small (inr high) = subst (EndsWell image ckpt) (same_place mark small high) at_mark
      where
        at_mark : EndsWell image ckpt place
        at_mark page block at within some past =
            ends page (marked_address image ckpt (chain image ckpt) place page) (page_is page within some)
            (subst (λ n. IsPastSize image n page (marked_address image ckpt (chain image ckpt) place page)) (ap (λ (b : List ℕ). (inode_of b).size) at.stands ∙ sym size) past)

    pub rolled_marked : IsRolledTo image ckpt walk (place + 1) new
    rolled_marked = record {
      rolls = λ other. roll_of other (cases_eq other ino);
      pending = pending_marked (chain image ckpt) place ino marked own old.pending new.pending left before.pending;
      owners = record {
        right = right;
        base = λ other page at of_base. more at (record { ino = other; page = page }) (before.owners.base other page at of_base);
        marks = λ mark page block small at within some. owner_of mark page block small at within some (cases_lt mark place);
      };
      ends = λ mark small. end_of mark small (cases_lt mark place);
    }

  -- at a place without a mark
  module _ (unmarked : is_marked (block_in (chain image ckpt) place) ≡ false) (rolls : new.rolls ≡ old.rolls) (owners : new.owners ≡ old.owners) (pending : ArePending (chain image ckpt) (place + 1) new.pending) where
    earlier : (mark : ℕ) (block : List ℕ) → mark < place + 1 → IsMarkedAt image ckpt mark block → mark < place
    earlier mark block small at = by (cases_lt mark place)
      where
        by : (mark < place) ⊎ (place ≤ mark) → mark < place
        by (inl low) = low
        by (inr high) =
            let same : mark ≡ place = omega (arith, small, high) in
            absurd (not_both (sym (ap (λ (b : List ℕ). is_marked b) (at.stands ∙ ap (λ n. block_in (chain image ckpt) n) same)) ∙ at.marked) unmarked)

    pub rolled_unmarked : IsRolledTo image ckpt walk (place + 1) new
    rolled_unmarked = record {
      rolls = λ ino.
          subst (λ (m : map.FinMap nat_cmp Roll). IsRoll image ckpt walk ino (last_mark_before (chain image ckpt) (place + 1) ino) (map.get m ino)) (sym rolls)
          (subst (λ (o : Option ℕ). IsRoll image ckpt walk ino o (map.get old.rolls ino)) (sym (mark_nowhere (chain image ckpt) place unmarked ino)) (before.rolls ino));
      pending = pending;
      owners = subst (AreOwnersTo image ckpt (place + 1)) (sym owners) (record {
        right = before.owners.right;
        base = before.owners.base;
        marks = λ mark page block small at. before.owners.marks mark page block (earlier mark block small at) at;
      });
      ends = λ mark small page block at. before.ends mark (earlier mark block small at) page block at;
    }

-- at the beginning
pub rolled_none : (image : Image) (ckpt : Checkpoint) (walk : Walk) (rolling : Rolling) → rolling.rolls ≡ map.empty → rolling.pending ≡ map.empty → AreRight image ckpt rolling.owners
    → ((ino page at : ℕ) → IsBasePage image ckpt ino page at → map.get rolling.owners at ≡ Some (record { ino = ino; page = page })) → IsRolledTo image ckpt walk 0 rolling
rolled_none image ckpt walk rolling rolls pending right base = record {
  rolls = λ ino. subst (λ (o : Option Roll). IsRoll image ckpt walk ino None o) (sym (ap (λ (m : map.FinMap nat_cmp Roll). map.get m ino) rolls ∙ get-empty nat_cmp ino)) tt;
  pending = pending_none (chain image ckpt) rolling.pending pending;
  owners = record { right = right; base = base; marks = λ mark page block small. absurd (omega (arith, small)) };
  ends = λ mark small. absurd (omega (arith, small));
}
