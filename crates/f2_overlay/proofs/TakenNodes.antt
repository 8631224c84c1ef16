-- Nodes of a marked file: those of the blocks since its mark before, one after another, and what the mark then has.
use Rattle.std.proofs.Common.{◌≡◌, ◌≢◌, ◌⊎◌, inl, inr, ℕ, true, List, refl, sym, ap, subst, ◌∙◌, add-one}
use Rattle.std.specs.Prelude.{Option, Some, None}
use Rattle.std.specs.Option.{option_map}
use Rattle.std.specs.Ordering.{nat_cmp}
use Rattle.std.specs.FinMap as map
use Rattle.std.specs.FinMap.{get-empty}
use Rattle.std.proofs.lemmas.Bool.{cases_eq}
use Rattle.f2_format.specs.Footer.{footer_ino}
use Rattle.f2_format.specs.Offsets.{direct_of}
use Rattle.f2_image.specs.Images.{Image}
use Rattle.f2_image.specs.Packs.{Checkpoint}
use Rattle.f2_image.specs.Chains.{Logged, chain, block_in, is_marked}
use Rattle.f2_image.specs.Reached.{IsDirect, IsMarkedAt}
use Rattle.f2_recover.specs.declared.walk.Walk.{Walk}
use Rattle.f2_overlay.specs.Lasts.{last_mark_before}
use Rattle.f2_overlay.specs.Pending.{Places, newest_before}
use Rattle.f2_overlay.specs.Taking.{Nodes, last_node_before, node_in, AreNodesAt, AreNodesTaken}
use Rattle.f2_overlay.specs.Rolls.{IsRoll, AreRollsTo}
use Rattle.f2_overlay.specs.Rolling.{StartNodesAs}
use Rattle.f2_overlay.specs.declared.rolls.Roll.{Roll}
use Rattle.f2_overlay.proofs.LastPlaces.{direct_from_page, page_from_direct}
use Rattle.f2_overlay.proofs.MarkPages.{direct_some}
use Rattle.f2_overlay.proofs.Maps.{not_none, one_some, get_put, get_put-other, get_taken-other, taken_cases}
use Rattle.f2_overlay.proofs.Newer.{newest_node_some, newest_node_none, newest_node_marked, last_node_stays}

pub taken_none : (log : List Logged) (places : Places) (old : Nodes) → AreNodesTaken log places places old old
taken_none log places old = record {
  taken = λ offset place direct there none. absurd (not_none place (sym none ∙ there));
  later = λ offset place there. refl;
  others = λ offset none. refl;
  passed = λ offset isnt. refl;
}

-- a node is taken out of those that are left
module _ (log : List Logged) (places left less : Places) (old mid : Nodes) (offset place : ℕ) (there : map.get left offset ≡ Some place) (is : map.get places offset ≡ Some place) (gone : less ≡ map.remove left offset)
    (before : AreNodesTaken log places left old mid) where
  still : (other q : ℕ) → map.get less other ≡ Some q → (other ≢ offset) × (map.get left other ≡ Some q)
  still other q h = taken_cases left offset other q (ap (λ (m : Places). map.get m other) (sym gone) ∙ h)

  was_none : (other : ℕ) → other ≢ offset → map.get less other ≡ None → map.get left other ≡ None
  was_none other different none = sym (get_taken-other left offset other different) ∙ ap (λ (m : Places). map.get m other) (sym gone) ∙ none

  next : (new : Nodes) → ((other : ℕ) → other ≢ offset → map.get new other ≡ map.get mid other) → (IsDirect offset → map.get new offset ≡ Some (node_in log place)) → (¬ (IsDirect offset) → map.get new offset ≡ map.get mid offset)
      → AreNodesTaken log places less old new
  next new stay here passed = record {
    taken = λ other q direct h none. by_taken other q direct h none (cases_eq other offset);
    later = λ other q h. let was = still other q h in stay other was.0 ∙ before.later other q was.1;
    others = λ other none. stay other (λ same. not_none place (sym none ∙ ap (map.get places) same ∙ is)) ∙ before.others other none;
    passed = λ other isnt. by_passed other isnt (cases_eq other offset);
  }
    where
      by_taken : (other q : ℕ) → IsDirect other → map.get places other ≡ Some q → map.get less other ≡ None → (other ≡ offset) ⊎ (other ≢ offset) → map.get new other ≡ Some (node_in log q)
      by_taken other q direct h none (inl same) =
          let place_is : place ≡ q = one_some place q (sym is ∙ ap (map.get places) (sym same) ∙ h) in
          ap (map.get new) same ∙ here (subst IsDirect same direct) ∙ ap (λ n. Some (node_in log n)) place_is
      by_taken other q direct h none (inr different) = stay other different ∙ before.taken other q direct h (was_none other different none)

      by_passed : (other : ℕ) → ¬ (IsDirect other) → (other ≡ offset) ⊎ (other ≢ offset) → map.get new other ≡ map.get old other
      by_passed other isnt (inl same) =
          ap (map.get new) same ∙ passed (λ direct. isnt (subst IsDirect (sym same) direct)) ∙ ap (map.get mid) (sym same) ∙ before.passed other isnt
      by_passed other isnt (inr different) = stay other different ∙ before.passed other isnt

  -- it is a direct node, and is put
  pub node_taken : (page : ℕ) → direct_of page ≡ Some offset → (new : Nodes) → new ≡ map.insert mid offset (node_in log place) → AreNodesTaken log places less old new
  node_taken page direct new put =
      next new (λ other different. ap (λ (m : Nodes). map.get m other) put ∙ get_put-other mid offset (node_in log place) other different)
      (λ _. ap (λ (m : Nodes). map.get m offset) put ∙ get_put mid offset (node_in log place)) (λ isnt. absurd (isnt (direct_from_page page offset direct)))

  -- or it isn't, and is passed over
  pub node_left : ((page : ℕ) → direct_of page ≢ Some offset) → AreNodesTaken log places less old mid
  node_left none = next mid (λ other different. refl) (λ direct. let first = page_from_direct offset direct in absurd (none first.0 first.1)) (λ isnt. refl)

-- no node is left
pub taken_all : (log : List Logged) (places left : Places) (old new : Nodes) → ((offset : ℕ) → map.get left offset ≡ None) → AreNodesTaken log places left old new → AreNodesTaken log places map.empty old new
taken_all log places left old new none all = record {
  taken = λ offset place direct there _. all.taken offset place direct there (none offset);
  later = λ offset place there. absurd (not_none place (sym (get-empty nat_cmp offset) ∙ there));
  others = all.others;
  passed = all.passed;
}

-- the nodes of a file as its mark has them
module _ (image : Image) (ckpt : Checkpoint) (walk : Walk) (place ino : ℕ) (is : IsMarkedAt image ckpt place (block_in (chain image ckpt) place)) (own : footer_ino (block_in (chain image ckpt) place) ≡ ino)
    (rolls : map.FinMap nat_cmp Roll) (are : AreRollsTo image ckpt walk place rolls) (newest : Places) (newest_is : (offset : ℕ) → offset ≢ 0 → map.get newest offset ≡ newest_before (chain image ckpt) place ino offset)
    (begun mid : Nodes) (starts : StartNodesAs (map.get rolls ino) begun) (taken : AreNodesTaken (chain image ckpt) newest map.empty begun mid) where
  marked : is_marked (block_in (chain image ckpt) place) ≡ true
  marked = is.marked

  -- with what it begins
  start_last : (offset : ℕ) → IsDirect offset → newest_before (chain image ckpt) place ino offset ≡ None → (o : Option ℕ) → last_mark_before (chain image ckpt) place ino ≡ o → (r : Option Roll) → StartNodesAs r begun
      → IsRoll image ckpt walk ino o r → map.get begun offset ≡ option_map (node_in (chain image ckpt)) (last_node_before (chain image ckpt) place ino offset)
  start_last offset direct none None unmarked None begins roll =
      ap (λ (m : Nodes). map.get m offset) begins ∙ get-empty nat_cmp offset ∙ sym (ap (λ o. option_map (node_in (chain image ckpt)) o) (newest_node_none (chain image ckpt) place ino offset none unmarked))
  start_last offset direct none (Some mark) before (Some r) begins roll =
      ap (λ (m : Nodes). map.get m offset) begins ∙ roll.nodes.direct offset direct
      ∙ ap (λ n. option_map (node_in (chain image ckpt)) (last_node_before (chain image ckpt) n ino offset)) (add-one mark)
      ∙ ap (λ o. option_map (node_in (chain image ckpt)) o) (sym (newest_node_marked (chain image ckpt) place ino offset mark none before))
  start_last offset direct none None unmarked (Some r) begins roll = absurd roll
  start_last offset direct none (Some mark) before None begins roll = absurd roll

  start_none : (offset : ℕ) → offset ≢ 0 → ¬ (IsDirect offset) → (o : Option ℕ) (r : Option Roll) → StartNodesAs r begun → IsRoll image ckpt walk ino o r → map.get begun offset ≡ None
  start_none offset some isnt None None begins roll = ap (λ (m : Nodes). map.get m offset) begins ∙ get-empty nat_cmp offset
  start_none offset some isnt (Some mark) (Some r) begins roll = ap (λ (m : Nodes). map.get m offset) begins ∙ roll.nodes.others offset some isnt
  start_none offset some isnt None (Some r) begins roll = absurd roll
  start_none offset some isnt (Some mark) None begins roll = absurd roll

  by_newest : (offset : ℕ) → IsDirect offset → offset ≢ 0 → (o : Option ℕ) → map.get newest offset ≡ o → map.get mid offset ≡ option_map (node_in (chain image ckpt)) (last_node_before (chain image ckpt) place ino offset)
  by_newest offset direct some (Some q) there =
      taken.taken offset q direct there (get-empty nat_cmp offset)
      ∙ sym (ap (λ o. option_map (node_in (chain image ckpt)) o) (newest_node_some (chain image ckpt) place ino offset q (sym (newest_is offset some) ∙ there)).1)
  by_newest offset direct some None none =
      taken.others offset none ∙ start_last offset direct (sym (newest_is offset some) ∙ none) (last_mark_before (chain image ckpt) place ino) refl (map.get rolls ino) starts (are ino)

  not_top : (offset : ℕ) → IsDirect offset → offset ≢ 0
  not_top offset direct = let first = page_from_direct offset direct in direct_some first.0 offset first.1

  pub nodes_at : (nodes : Nodes) → nodes ≡ map.insert mid 0 (node_in (chain image ckpt) place) → AreNodesAt image ckpt place ino nodes
  nodes_at nodes put = record {
    inode = ap (λ (m : Nodes). map.get m 0) put ∙ get_put mid 0 (node_in (chain image ckpt) place);
    direct = λ offset direct.
        below offset (not_top offset direct) ∙ by_newest offset direct (not_top offset direct) (map.get newest offset) refl
        ∙ ap (λ o. option_map (node_in (chain image ckpt)) o) (sym (last_node_stays (chain image ckpt) place ino marked own ino offset (not_top offset direct)));
    others = λ offset some isnt. below offset some ∙ taken.passed offset isnt ∙ start_none offset some isnt (last_mark_before (chain image ckpt) place ino) (map.get rolls ino) starts (are ino);
  }
    where
      below : (offset : ℕ) → offset ≢ 0 → map.get nodes offset ≡ map.get mid offset
      below offset some = ap (λ (m : Nodes). map.get m offset) put ∙ get_put-other mid 0 (node_in (chain image ckpt) place) offset some
