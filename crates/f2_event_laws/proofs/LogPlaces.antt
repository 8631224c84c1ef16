-- The positions of a log by their places: their addresses, and a log after the block of one of them was written.
use Rattle.std.proofs.Common.{◌≡◌, ◌≢◌, ◌⊎◌, inl, inr, ℕ, ◌+◌, ◌<◌, List, length, take, get_or, set, sym, ap, ◌∙◌, arith}
use Rattle.std.specs.Prelude.{Option, Some, None, MatchOption}
use Rattle.std.specs.List.{Contains}
use Rattle.std.proofs.lemmas.Bool.{cases_eq}
use Rattle.std.proofs.lemmas.List.{length-map, length-set, get_or-map, get_or-set_same, get_or-set_other, map-set, set-get_or}
use Rattle.std.proofs.lemmas.List.Elements.{Contains-get_or}
use Rattle.f2_disk.specs.Contents.{Contents}
use Rattle.f2_model.specs.State.{Slot, Progress}
use Rattle.f2_image.specs.Chains.{Logged, marked_places}
use Rattle.f2_stored.specs.Layout.{Fate, Written, Position, Layout, chained}
use Rattle.f2_stored.specs.Logs.{HoldsLog, IsLogAddress, log_addresses}
use Rattle.f2_stored.specs.Changes.{no_position, with_fate}
use Rattle.f2_stored.specs.Marks.{marks_within}
use Rattle.f2_stored.specs.Kept.{HasMarkAt, position_at}
use Rattle.f2_change_laws.proofs.Each.{each_at}
use Rattle.f2_change_laws.proofs.Members.{contains_map, differ_before, differ_last}

-- the address of a place
abbrev pub place_address : Layout → ℕ → ℕ
place_address layout place = (position_at layout place).logged.at

pub chain_long : (layout : Layout) → length (chained layout) ≡ length layout.log
chain_long layout = length-map layout.log (λ (p : Position). p.logged)

pub address_there : (layout : Layout) (place : ℕ) → place < length layout.log → Contains (log_addresses layout) (place_address layout place)
address_there layout place small =
    contains_map (λ (l : Logged). l.at) (chained layout) (position_at layout place).logged
    (contains_map (λ (p : Position). p.logged) layout.log (position_at layout place) (Contains-get_or layout.log place no_position small))

address_is : (layout : Layout) (place : ℕ) → place < length layout.log → get_or (log_addresses layout) place no_position.logged.at ≡ place_address layout place
address_is layout place small =
    get_or-map (λ (l : Logged). l.at) (chained layout) place no_position.logged no_position.logged.at (omega (arith, small, chain_long layout))
    ∙ ap (λ (l : Logged). l.at) (get_or-map (λ (p : Position). p.logged) layout.log place no_position no_position.logged small)

module _ (lists : Contents) (layout : Layout) (holds : HoldsLog lists layout) where
  pub is_address : (place : ℕ) → place < length layout.log → IsLogAddress layout (place_address layout place)
  is_address place small = each_at (IsLogAddress layout) (log_addresses layout) holds.addresses (place_address layout place) (address_there layout place small)

  -- two places have two addresses, and none has the next one
  pub addresses_apart : (one other : ℕ) → one < length layout.log → other < length layout.log → one ≢ other → place_address layout one ≢ place_address layout other
  addresses_apart one other small less apart same =
      let long : length (log_addresses layout) ≡ length layout.log = length-map (chained layout) (λ (l : Logged). l.at) ∙ chain_long layout in
      differ_before (log_addresses layout) layout.next holds.differ one other no_position.logged.at no_position.logged.at (omega (arith, small, long)) (omega (arith, less, long)) apart
      (address_is layout one small ∙ same ∙ sym (address_is layout other less))

  pub next_apart : (place : ℕ) → place < length layout.log → place_address layout place ≢ layout.next
  next_apart place small = differ_last (log_addresses layout) layout.next holds.differ (place_address layout place) (address_there layout place small)

module _ (layout : Layout) (place : ℕ) (fate : Fate) (small : place < length layout.log) where
  pub as_long : length (with_fate layout place fate).log ≡ length layout.log
  as_long = length-set layout.log place (record (position_at layout place) { fate = fate })

  pub position_here : position_at (with_fate layout place fate) place ≡ record (position_at layout place) { fate = fate }
  position_here = get_or-set_same layout.log place (record (position_at layout place) { fate = fate }) no_position small

  pub position_other : (k : ℕ) → k ≢ place → position_at (with_fate layout place fate) k ≡ position_at layout k
  position_other k other = get_or-set_other layout.log place k (record (position_at layout place) { fate = fate }) no_position other

  pub same_chain : chained (with_fate layout place fate) ≡ chained layout
  same_chain =
      map-set (λ (p : Position). p.logged) layout.log place (record (position_at layout place) { fate = fate })
      ∙ ap (set (chained layout) place) (sym (get_or-map (λ (p : Position). p.logged) layout.log place no_position no_position.logged small))
      ∙ set-get_or (chained layout) place no_position.logged

-- once a block was written, what was written is so still, and marks stay where they are
module _ (layout : Layout) (place : ℕ) (small : place < length layout.log) where
  written_still : (k : ℕ) → (position_at layout k).fate ≡ Written → (position_at (with_fate layout place Written) k).fate ≡ Written
  written_still k is = by_case (cases_eq k place)
    where
      by_case : (k ≡ place) ⊎ (k ≢ place) → (position_at (with_fate layout place Written) k).fate ≡ Written
      by_case (inl same) = ap (λ n. (position_at (with_fate layout place Written) n).fate) same ∙ ap (λ (p : Position). p.fate) (position_here layout place Written small)
      by_case (inr other) = ap (λ (p : Position). p.fate) (position_other layout place Written small k other) ∙ is

  pub written_count : (count : ℕ) → marks_within (with_fate layout place Written) count ≡ marks_within layout count
  written_count count = ap (λ (chain : List Logged). length (marked_places (take count chain))) (same_chain layout place Written small)

  pub written_mark : (next : Progress) → HasMarkAt layout next → HasMarkAt (with_fate layout place Written) next
  written_mark next mark = record {
    small = (let inside = mark.small in omega (arith, inside, as_long layout place Written small));
    counted = (let counted = mark.counted in omega (arith, counted, written_count (next.position + 1)));
    own = by_slot next.slot mark.own;
  }
    where
      by_slot : (s : Option Slot) → MatchOption s ((position_at layout next.position).fate ≡ Written) (λ slot. slot.position ≡ next.position)
          → MatchOption s ((position_at (with_fate layout place Written) next.position).fate ≡ Written) (λ slot. slot.position ≡ next.position)
      by_slot None is = written_still next.position is
      by_slot (Some one) is = is
