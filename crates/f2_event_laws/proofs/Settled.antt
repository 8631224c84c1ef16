-- The settled positions of a kept log are written.
use Rattle.std.proofs.Common.{◌≡◌, ◌⊎◌, inl, inr, ℕ, ◌<◌, ◌≤◌, List, [], length, take, get_or, All, ◌≢◌, subst, sym, ◌∙◌, arith}
use Rattle.std.specs.List.{AllByRecursion}
use Rattle.std.proofs.lemmas.List.{length-map, get_or-map, length-take, get_or-take, get_or_default}
use Rattle.std.proofs.lemmas.List.Elements.{All-from_recursion, recursion_from_All}
use Rattle.f2_format.specs.Footer.{footer_version}
use Rattle.f2_disk.specs.Contents.{Contents}
use Rattle.f2_model.specs.State.{State}
use Rattle.f2_image_laws.specs.Chained.{HoldsNone, HoldsAlone}
use Rattle.f2_stored.specs.Places.{Places}
use Rattle.f2_stored.specs.Trees.{Unwritten}
use Rattle.f2_stored.specs.Layout.{Open, Written, Position, Layout, chained, log_version}
use Rattle.f2_stored.specs.Logs.{HoldsAs}
use Rattle.f2_stored.specs.Changes.{no_position}
use Rattle.f2_stored.specs.Kept.{IsSlotOf, IsSomeSlot, position_at, IsKept}
use Rattle.f2_event_laws.proofs.Standing.{slot_of}

module _ (lists : Contents) (layout : Layout) (state : State) (places : Places) (unwritten : Unwritten) (kept : IsKept lists layout state places unwritten) where
  -- a slot is an open position of the log
  pub slot_there : (place : ℕ) (one : IsSomeSlot state place) → (place < length layout.log) × ((position_at layout place).fate ≡ Open)
  slot_there place one =
      let stands : IsSlotOf layout state places one.ino one.slot = slot_of lists layout state places one.ino one.progress one.slot one.is_open (kept.fsyncs one.seat one.ino one.progress one.in_flight) in
      (subst (λ p. p < length layout.log) one.at_place stands.small, subst (λ p. (position_at layout p).fate ≡ Open) one.at_place stands.is_open)

  alone_at : (place : ℕ) → place < layout.settled → HoldsAlone lists (log_version layout) (position_at layout place).logged
  alone_at place small =
      let inside : place < length layout.log = let within = kept.log.log.within in omega (arith, within, small) in
      let long : length (chained layout) ≡ length layout.log = length-map layout.log (λ (p : Position). p.logged) in
      subst (HoldsAlone lists (log_version layout)) (get_or-take layout.settled (chained layout) place no_position.logged small ∙ get_or-map (λ (p : Position). p.logged) layout.log place no_position no_position.logged inside)
      (All-from_recursion (HoldsAlone lists (log_version layout)) (take layout.settled (chained layout)) kept.log.log.settled place no_position.logged (omega (arith, small, inside, long, length-take layout.settled (chained layout))))

  not_open : (place : ℕ) → place < layout.settled → ¬ ((position_at layout place).fate ≡ Open)
  not_open place small is =
      let inside : place < length layout.log = let within = kept.log.log.within in omega (arith, within, small) in
      let held : HoldsAs lists (log_version layout) (position_at layout place).logged (position_at layout place).fate =
      All-from_recursion (λ position. HoldsAs lists (log_version layout) position.logged position.fate) layout.log kept.log.log.held place no_position inside in
      let none : HoldsNone lists (log_version layout) (position_at layout place).logged.at = subst (HoldsAs lists (log_version layout) (position_at layout place).logged) is held in
      let alone = alone_at place small in
      let block : footer_version (position_at layout place).logged.block ≢ log_version layout =
      (subst (λ (l : List (List ℕ)). All (λ content. footer_version content ≢ log_version layout) l) alone.0 none) 0 [] (omega arith) in
      block alone.1

  pub settled_written : (place : ℕ) → place < layout.settled → (position_at layout place).fate ≡ Written
  settled_written place small =
      let inside : place < length layout.log = let within = kept.log.log.within in omega (arith, within, small) in
      by_case (kept.tied.fates place inside)
    where
      by_case : ((position_at layout place).fate ≡ Written) ⊎ IsSomeSlot state place → (position_at layout place).fate ≡ Written
      by_case (inl written) = written
      by_case (inr one) = absurd (not_open place small (slot_there place one).1)

  -- so are the first ones of which each place is
  pub written_first : (count : ℕ) → count ≤ length layout.log → ((place : ℕ) → place < count → (position_at layout place).fate ≡ Written) → AllByRecursion (λ (position : Position). position.fate ≡ Written) (take count layout.log)
  written_first count within written =
      recursion_from_All (λ (position : Position). position.fate ≡ Written) (take count layout.log)
      (λ k d small.
      let few : k < count = omega (arith, small, within, length-take count layout.log) in
      subst (λ (p : Position). p.fate ≡ Written) (sym (get_or-take count layout.log k d few ∙ defaults layout.log k no_position d (omega (arith, few, within)))) (written k few))
    where
      defaults : (xs : List Position) (k : ℕ) (d e : Position) → k < length xs → get_or xs k e ≡ get_or xs k d
      defaults xs k d e small = get_or_default xs k e d small
