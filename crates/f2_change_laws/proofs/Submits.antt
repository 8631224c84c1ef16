-- The write of an open position's block.
use Rattle.std.proofs.Common.{◌≡◌, ◌≢◌, ◌⊎◌, inl, inr, ℕ, ◌%◌, ◌^◌, ◌<◌, ◌≤◌, List, [], length, take, set, All, Option, Some, None, refl, sym, ap, ◌∙◌, subst, arith}
use Rattle.std.specs.Prelude.{map as map_list, slice_index_or}
use Rattle.std.specs.List.{AllByRecursion, Contains}
use Rattle.std.proofs.lemmas.Bool.{cases_eq}
use Rattle.std.proofs.lemmas.List.{length-map, length-set, get_or-map, get_or-set_same, get_or-set_other, map-set, set-get_or}
use Rattle.std.proofs.lemmas.List.Elements.{All-from_recursion, recursion_from_All, Contains-get_or}
use Rattle.f2_format.specs.Geometry.{NAT_START}
use Rattle.f2_format.specs.Footer.{footer_version}
use Rattle.f2_disk.specs.Contents.{Contents, IsBlock}
use Rattle.f2_model.specs.State.{State}
use Rattle.f2_image.specs.Packs.{head_address, tail_address, other_side}
use Rattle.f2_image.specs.Chains.{Logged}
use Rattle.f2_image_laws.specs.Chained.{contents_at, HoldsOrOther, HoldsNone, HoldsAlone}
use Rattle.f2_image_laws.specs.Depending.{DependsOn}
use Rattle.f2_stored.specs.Layout.{Open, Written, Failed, Fate, Position, Reference, Layout, chained, log_version}
use Rattle.f2_stored.specs.Logs.{HoldsAs, IsLogAddress, log_addresses}
use Rattle.f2_stored.specs.Changes.{no_position, with_fate}
use Rattle.f2_stored.specs.Stored.{KeepsPacks, KeepsLog}
use Rattle.f2_change_laws.specs.Writing.{SubmitsKeep}
use Rattle.f2_change_laws.proofs.Addresses.{node_range, data_range, head_low, tail_low, tells_low, log_version_low}
use Rattle.f2_change_laws.proofs.Zones.{depends_off}
use Rattle.f2_change_laws.proofs.Each.{each_at, each_within}
use Rattle.f2_change_laws.proofs.Members.{contains_map, differ_before, differ_last}
use Rattle.f2_change_laws.proofs.Fewer.{Fewer, fewer_all}
use Rattle.f2_change_laws.proofs.OneMore.{IsOneMore, written_more, failed_more, written_last, more_all, more_off}
use Rattle.f2_change_laws.proofs.FewerLogs.{fewer_none}
use Rattle.f2_change_laws.proofs.FreeWrites.{as_kept}
use Rattle.f2_change_laws.proofs.KeptImages.{image_kept, some_kept, heads_kept, packs_kept}
use Rattle.f2_change_laws.proofs.KeptLogs.{log_kept}

some_none : (one : Reference) (pending : Option Reference) → pending ≡ None → ¬ (pending ≡ Some one)
some_none one pending there some = cc

module _ (lists new : Contents) (layout : Layout) (state : State) (place : ℕ) (fate : Fate) (packs : KeepsPacks lists layout state) (keeps : KeepsLog lists layout state)
    (alone : layout.pending ≡ None) (small : place < length layout.log) (open_one : (slice_index_or layout.log place no_position).fate ≡ Open)
    (block : IsBlock (slice_index_or layout.log place no_position).logged.block)
    (more : IsOneMore lists new (slice_index_or layout.log place no_position).logged.at (slice_index_or layout.log place no_position).logged.block)
    (held_now : HoldsAs new (log_version layout) (slice_index_or layout.log place no_position).logged fate) where
  abbrev position : Position
  position = slice_index_or layout.log place no_position

  abbrev one : Logged
  one = position.logged

  in_log : Contains layout.log position
  in_log = Contains-get_or layout.log place no_position small

  in_chain : Contains (chained layout) one
  in_chain = contains_map (λ (p : Position). p.logged) layout.log position in_log

  in_addresses : Contains (log_addresses layout) one.at
  in_addresses = contains_map (λ (l : Logged). l.at) (chained layout) one in_chain

  is_address : IsLogAddress layout one.at
  is_address = each_at (IsLogAddress layout) (log_addresses layout) keeps.log.addresses one.at in_addresses

  own : footer_version one.block ≡ log_version layout
  own = each_at (λ (l : Logged). footer_version l.block ≡ log_version layout) (chained layout) keeps.log.own one in_chain

  none_there : HoldsNone lists (log_version layout) one.at
  none_there = subst (HoldsAs lists (log_version layout) one) open_one (each_at (λ (p : Position). HoldsAs lists (log_version layout) p.logged p.fate) layout.log keeps.log.held position in_log)

  off : (k : ℕ) → k ≢ one.at → Fewer lists new k
  off = more_off lists new one.at one.block more

  off_low : (k : ℕ) → k < NAT_START → Fewer lists new k
  off_low k low = off k (λ e. let range = node_range layout.base.ckpt.geom one.at is_address.0 in omega (arith, low, range.0, e))

  submit_packs : KeepsPacks new (with_fate layout place fate) state
  submit_packs =
      packs_kept lists new more.size layout state (with_fate layout place fate).log layout.settled layout.next layout.nids layout.owners state.marks state.acknowledged packs (more.whole packs.whole block)
      (heads_kept lists new more.size layout.base layout.pending (off_low (tail_address layout.base.ckpt.side) (tail_low layout.base.ckpt.side))
      (off_low (tail_address (other_side layout.base.ckpt.side)) (tail_low (other_side layout.base.ckpt.side)))
      (off_low (head_address (other_side layout.base.ckpt.side)) (head_low (other_side layout.base.ckpt.side))).from packs.packs)
      (λ k inside. more_all lists new one.at one.block more (λ content. footer_version content % 2 ^ 32 ≤ layout.base.ckpt.head.version) k (λ here. early) (packs.no_later k inside))
      (some_kept lists new more.size layout.base layout.pending state.pending (λ other rows there holds. absurd (some_none other layout.pending alone there)) packs.pending)
    where
      early : footer_version one.block % 2 ^ 32 ≤ layout.base.ckpt.head.version
      early = omega (arith, ap (λ n. n % 2 ^ 32) own, log_version_low layout.base.ckpt.head packs.early)

  -- other places have other addresses
  chain_place : (k : ℕ) (d : Logged) → k < length layout.log → slice_index_or (log_addresses layout) k d.at ≡ (slice_index_or (chained layout) k d).at
  chain_place k d less = get_or-map (λ (l : Logged). l.at) (chained layout) k d d.at (omega (arith, less, length-map layout.log (λ (p : Position). p.logged)))

  place_is : slice_index_or (chained layout) place one ≡ one
  place_is = get_or-map (λ (p : Position). p.logged) layout.log place no_position one small

  as_long : length (log_addresses layout) ≡ length layout.log
  as_long = length-map (chained layout) (λ (l : Logged). l.at) ∙ length-map layout.log (λ (p : Position). p.logged)

  apart_at : (k : ℕ) (d : Logged) → k < length layout.log → k ≢ place → (slice_index_or (chained layout) k d).at ≢ one.at
  apart_at k d less other e =
      differ_before (log_addresses layout) layout.next keeps.log.differ k place d.at one.at (omega (arith, less, as_long)) (omega (arith, small, as_long)) other
      (chain_place k d less ∙ e ∙ sym (chain_place place one small ∙ ap (λ (l : Logged). l.at) place_is))

  stands : AllByRecursion (HoldsOrOther new (log_version layout)) (chained layout)
  stands = recursion_from_All (HoldsOrOther new (log_version layout)) (chained layout) (λ k d less. at_place k d (omega (arith, less, length-map layout.log (λ (p : Position). p.logged))) (cases_eq k place))
    where
      stood : (k : ℕ) (d : Logged) → k < length layout.log → HoldsOrOther lists (log_version layout) (slice_index_or (chained layout) k d)
      stood k d less = All-from_recursion (HoldsOrOther lists (log_version layout)) (chained layout) keeps.log.linked.held k d (omega (arith, less, length-map layout.log (λ (p : Position). p.logged)))

      at_one : HoldsOrOther lists (log_version layout) one → HoldsOrOther new (log_version layout) one
      at_one holds = more_all lists new one.at one.block more (λ content. (content ≡ one.block) ⊎ (footer_version content ≢ log_version layout)) one.at (λ here. inl refl) holds

      at_place : (k : ℕ) (d : Logged) → k < length layout.log → (k ≡ place) ⊎ (k ≢ place) → HoldsOrOther new (log_version layout) (slice_index_or (chained layout) k d)
      at_place k d less (inl here) =
          let same : slice_index_or (chained layout) k d ≡ one = ap (λ i. slice_index_or (chained layout) i d) here ∙ get_or-map (λ (p : Position). p.logged) layout.log place no_position d small in
          subst (HoldsOrOther new (log_version layout)) (sym same) (at_one (subst (HoldsOrOther lists (log_version layout)) same (stood k d less)))
      at_place k d less (inr other) =
          let two : Logged = slice_index_or (chained layout) k d in
          fewer_all lists new two.at (λ content. (content ≡ two.block) ⊎ (footer_version content ≢ log_version layout)) (off two.at (apart_at k d less other)) (stood k d less)

  abbrev told : Position
  told = record position { fate = fate }

  held : AllByRecursion (λ p. HoldsAs new (log_version layout) p.logged p.fate) (set layout.log place told)
  held = recursion_from_All (λ p. HoldsAs new (log_version layout) p.logged p.fate) (set layout.log place told) (λ k d less. at_place k d (omega (arith, less, length-set layout.log place told)) (cases_eq k place))
    where
      at_place : (k : ℕ) (d : Position) → k < length layout.log → (k ≡ place) ⊎ (k ≢ place) → HoldsAs new (log_version layout) (slice_index_or (set layout.log place told) k d).logged (slice_index_or (set layout.log place told) k d).fate
      at_place k d less (inl here) =
          subst (λ (p : Position). HoldsAs new (log_version layout) p.logged p.fate) (sym (ap (λ i. slice_index_or (set layout.log place told) i d) here ∙ get_or-set_same layout.log place told d small)) held_now
      at_place k d less (inr other) =
          let was : Position = slice_index_or layout.log k d in
          let there : slice_index_or (chained layout) k d.logged ≡ was.logged = get_or-map (λ (p : Position). p.logged) layout.log k d d.logged less in
          subst (λ (p : Position). HoldsAs new (log_version layout) p.logged p.fate) (sym (get_or-set_other layout.log place k told d other))
          (as_kept lists new (log_version layout) was.logged was.fate
          (more.other was.logged.at (λ e. apart_at k d.logged less other (ap (λ (l : Logged). l.at) there ∙ e)))
          (All-from_recursion (λ p. HoldsAs lists (log_version layout) p.logged p.fate) layout.log keeps.log.held k d less))

  same : map_list (λ (p : Position). p.logged) (set layout.log place told) ≡ chained layout
  same =
      map-set (λ (p : Position). p.logged) layout.log place told
      ∙ ap (set (chained layout) place) (sym place_is)
      ∙ set-get_or (chained layout) place one

  submit_log : KeepsLog new (with_fate layout place fate) state
  submit_log =
      log_kept lists new layout state keeps layout.pending (with_fate layout place fate).log layout.settled state.pending state.acknowledged same
      (image_kept lists new more.size layout.base state.base [] (λ k is. off_low k (tells_low layout.base.ckpt k is))
      (λ k is. off k (λ e. depends_off layout.base.image layout.base.ckpt keeps.base.means.sound one.at is_address.0 is_address.1 (subst (DependsOn layout.base.image layout.base.ckpt) e is))) keeps.base)
      record {
        stands = stands;
        free = λ there. fewer_none lists new layout.next (log_version layout) (off layout.next (λ e. differ_last (log_addresses layout) layout.next keeps.log.differ one.at in_addresses (sym e))) (keeps.log.linked.free there);
        held = held;
        fresh = λ k inside no_place. fewer_none lists new k (log_version layout) (off k (λ e. no_place (subst (Contains (log_addresses layout)) (sym e) in_addresses))) (keeps.log.fresh k inside no_place);
        within = keeps.log.within;
        settled = each_within (HoldsAlone lists (log_version layout)) (HoldsAlone new (log_version layout)) (take layout.settled (chained layout))
            (λ two found stands. ((off two.at (not_alone two stands)).one two.block stands.0, stands.1)) keeps.log.settled;
        pages = λ k owner is inside. off k (λ e.
            let range = node_range layout.base.ckpt.geom one.at is_address.0 in
            omega (arith, range.1, data_range layout.base.ckpt.geom k inside, e));
      }
      (omega arith) keeps.acknowledged
    where
      not_alone : (two : Logged) → HoldsAlone lists (log_version layout) two → two.at ≢ one.at
      not_alone two stands e =
          subst (λ (l : List (List ℕ)). All (λ content. footer_version content ≢ log_version layout) l) (ap (contents_at lists) (sym e) ∙ stands.0) none_there 0 [] (omega arith) stands.1

pub submits_keep : SubmitsKeep
submits_keep lists new layout state place packs log alone small open_one inside block = (
  λ made. (
    submit_packs lists new layout state place Written packs log alone small open_one block (written_more lists new _ _ inside made) (written_last lists new _ _ inside made),
    submit_log lists new layout state place Written packs log alone small open_one block (written_more lists new _ _ inside made) (written_last lists new _ _ inside made),
  ),
  λ failed. (
    submit_packs lists new layout state place Failed packs log alone small open_one block (failed_more lists new _ _ inside failed) tt,
    submit_log lists new layout state place Failed packs log alone small open_one block (failed_more lists new _ _ inside failed) tt,
  ),
)
