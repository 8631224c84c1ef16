-- The log, its nids and its marks once a position is drawn.
use Rattle.std.proofs.Common.{◌≡◌, ◌⊎◌, inl, inr, ℕ, ◌+◌, ◌*◌, ◌<◌, ◌≤◌, true, List, [], ◌∷◌, ◌++◌, length, take, slice_index_or, refl, sym, ap, ◌∙◌, subst, arith}
use Rattle.std.specs.Prelude.{map as map_list, Some}
use Rattle.std.specs.List.{AllByRecursion, AllZip, Contains}
use Rattle.std.specs.FinMap as map
use Rattle.std.proofs.lemmas.Bool.{cases_lt}
use Rattle.std.proofs.lemmas.List.{length-map, length_push, map_push, take-append-le, get_or_append_left, get_or_push}
use Rattle.std.proofs.lemmas.List.Elements.{Contains-append_left}
use Rattle.f2_format.specs.Geometry.{data_third}
use Rattle.f2_format.specs.Footer.{footer_nid, footer_ino, footer_offset, footer_version, footer_next}
use Rattle.f2_disk.specs.Contents.{Contents}
use Rattle.f2_model.specs.State.{State, Mark}
use Rattle.f2_image.specs.Chains.{Logged, no_block, block_in, is_marked, marked_places, marked_address}
use Rattle.f2_image.specs.Reached.{AllDiffer}
use Rattle.f2_image_laws.specs.Chained.{Follow, HoldsOrOther, HoldsNone, HoldsAlone}
use Rattle.f2_stored.specs.Layout.{Open, Position, Owners, Layout, chained, log_version}
use Rattle.f2_stored.specs.Logs.{HoldsAs, HoldsLog, IsLogAddress, log_addresses}
use Rattle.f2_stored.specs.Numbers.{IsNumbered, CountsAt, MayCount, HasNids}
use Rattle.f2_stored.specs.Marks.{HoldsMark}
use Rattle.f2_image_laws.specs.Rolled.{image_limits}
use Rattle.f2_room_laws.specs.Fitting.{AreFitting}
use Rattle.f2_stored.specs.Changes.{with_drawn}
use Rattle.f2_stored.specs.Stored.{KeepsPacks, KeepsLog}
use Rattle.f2_change_laws.specs.Drawing.{MayBeDrawn}
use Rattle.f2_change_laws.proofs.Fewer.{fewer_same}
use Rattle.f2_change_laws.proofs.Each.{each_push, zip_weaker}
use Rattle.f2_change_laws.proofs.Counts.{marked_below, block_before, block_last}
use Rattle.f2_change_laws.proofs.Pairs.{got, gets_still}
use Rattle.f2_change_laws.proofs.LongerLogs.{follow_push, differ_push, address_same}
use Rattle.f2_change_laws.proofs.KeptImages.{packs_kept}
use Rattle.f2_change_laws.proofs.KeptMarks.{mark_kept}

module _ (lists : Contents) (layout : Layout) (state : State) (block : List ℕ) (owners : Owners) (keeps : KeepsLog lists layout state) (may : MayBeDrawn layout block)
    (counting : is_marked block ≡ true → MayCount layout (footer_ino block))
    (wider : (at : ℕ) (owner : ℕ × ℕ) → map.get layout.owners at ≡ Some owner → map.get owners at ≡ Some owner) (few : map.len owners ≤ 2 * data_third layout.base.ckpt.geom) where
  abbrev drawn : Layout
  drawn = with_drawn layout block owners

  abbrev one : Logged
  one = record { at = layout.next; block = block }

  abbrev place : Position
  place = record { logged = one; fate = Open }

  pub chain_more : chained (with_drawn layout block owners) ≡ chained layout ++ record { at = layout.next; block = block } ∷ []
  chain_more = map_push (λ (p : Position). p.logged) layout.log place

  addresses_more : log_addresses drawn ≡ log_addresses layout ++ layout.next ∷ []
  addresses_more = ap (map_list (λ (l : Logged). l.at)) chain_more ∙ map_push (λ (l : Logged). l.at) (chained layout) one

  as_long : length (chained layout) ≡ length layout.log
  as_long = length-map layout.log (λ (p : Position). p.logged)

  none_next : HoldsNone lists (log_version layout) layout.next
  none_next = keeps.log.linked.free may.there

  drawn_log : HoldsLog lists drawn
  drawn_log = record {
    linked = record {
      follow = subst (λ (c : List Logged). Follow layout.base.ckpt.head.log_start c (footer_next block)) (sym chain_more)
          (follow_push layout.base.ckpt.head.log_start layout.next (chained layout) block keeps.log.linked.follow may.there);
      held = subst (AllByRecursion (HoldsOrOther lists (log_version layout))) (sym chain_more)
          (each_push (HoldsOrOther lists (log_version layout)) (chained layout) one keeps.log.linked.held (λ k d small. inr (none_next k d small)));
      free = λ there. keeps.log.fresh (footer_next block) (may.next there).0 (λ found. may.further (Contains-append_left (log_addresses layout) (layout.next ∷ []) (footer_next block) found));
    };
    own = subst (AllByRecursion (λ (l : Logged). footer_version l.block ≡ log_version layout)) (sym chain_more)
        (each_push (λ (l : Logged). footer_version l.block ≡ log_version layout) (chained layout) one keeps.log.own may.version);
    held = each_push (λ p. HoldsAs lists (log_version layout) p.logged p.fate) layout.log place keeps.log.held none_next;
    fresh = λ at inside no_place. keeps.log.fresh at inside
        (λ found. no_place (subst (λ (ats : List ℕ). Contains ats at) (sym addresses_more) (Contains-append_left (log_addresses layout) (layout.next ∷ []) at found)));
    within = let less = keeps.log.within in omega (arith, less, length_push layout.log place);
    settled = subst (AllByRecursion (HoldsAlone lists (log_version layout))) (sym settled_same) keeps.log.settled;
    addresses = subst (AllByRecursion (IsLogAddress layout)) (sym addresses_more) (each_push (IsLogAddress layout) (log_addresses layout) layout.next keeps.log.addresses (keeps.log.next may.there));
    differ = subst (λ (ats : List ℕ). AllDiffer (ats ++ footer_next block ∷ [])) (sym addresses_more) (differ_push (log_addresses layout ++ layout.next ∷ []) (footer_next block) keeps.log.differ may.further);
    next = may.next;
    short = let less = may.room in omega (arith, less, length_push layout.log place);
  }
    where
      settled_same : take layout.settled (chained drawn) ≡ take layout.settled (chained layout)
      settled_same = ap (take layout.settled) chain_more ∙ take-append-le layout.settled (chained layout) (one ∷ []) (let less = keeps.log.within in omega (arith, less, as_long))

  abbrev key : ℕ × ℕ
  key = (footer_ino block, footer_offset block)

  still : (q : ℕ × ℕ) (n : ℕ) → map.get layout.nids q ≡ Some n → map.get (map.insert layout.nids key (footer_nid block)) q ≡ Some n
  still = gets_still layout.nids key (footer_nid block) may.known

  numbered : (l : Logged) → IsNumbered layout l → IsNumbered drawn l
  numbered l is = record { nid = still (footer_ino l.block, footer_offset l.block) (footer_nid l.block) is.nid; least = is.least; most = is.most; inode = is.inode; shape = is.shape }

  drawn_nids : HasNids drawn
  drawn_nids = record {
    base = λ ino offset nid is. still (ino, offset) nid (keeps.nids.base ino offset nid is);
    log = subst (λ (c : List Logged). (place : ℕ) → place < length c → CountsAt c place → IsNumbered drawn (slice_index_or c place no_block)) (sym chain_more) numbers;
    differ = λ a b nid here there. by_entry a b nid (got layout.nids key (footer_nid block) a nid here) (got layout.nids key (footer_nid block) b nid there);
  }
    where
      fresh : IsNumbered drawn one
      fresh = record { nid = may.numbered.nid; least = may.numbered.least; most = may.numbered.most; inode = may.numbered.inode; shape = may.numbered.shape }

      -- a block that was there counted before, or the new one is its file's mark
      before : (k : ℕ) → k < length (chained layout) → (counts : CountsAt (chained layout ++ one ∷ []) k) → (counts.mark < length (chained layout)) ⊎ (counts.mark ≡ length (chained layout))
          → IsNumbered layout (slice_index_or (chained layout) k no_block)
      before k small counts (inl old) =
          keeps.nids.log k small record {
            mark = counts.mark;
            later = counts.later;
            small = old;
            marked = ap is_marked (sym (block_before (chained layout) one counts.mark old)) ∙ counts.marked;
            same = ap footer_ino (sym (block_before (chained layout) one counts.mark old)) ∙ counts.same ∙ ap footer_ino (block_before (chained layout) one k small);
          }
      before k small counts (inr last) =
          let is : block_in (chained layout ++ one ∷ []) counts.mark ≡ block = ap (block_in (chained layout ++ one ∷ [])) last ∙ block_last (chained layout) one in
          counting (ap is_marked (sym is) ∙ counts.marked) k small (ap footer_ino (sym (block_before (chained layout) one k small)) ∙ sym counts.same ∙ ap footer_ino is)

      long : length (chained layout ++ one ∷ []) ≡ length (chained layout) + 1
      long = length_push (chained layout) one

      -- a place of the longer log is one of the log, or the new one
      mark_there : (at : ℕ) → at < length (chained layout ++ one ∷ []) → (at < length (chained layout)) ⊎ (length (chained layout) ≤ at) → (at < length (chained layout)) ⊎ (at ≡ length (chained layout))
      mark_there at within (inl less) = inl less
      mark_there at within (inr past) = inr (omega (arith, past, within, long))

      at_place : (k : ℕ) → k < length (chained layout ++ one ∷ []) → (k < length (chained layout)) ⊎ (length (chained layout) ≤ k) → CountsAt (chained layout ++ one ∷ []) k
          → IsNumbered drawn (slice_index_or (chained layout ++ one ∷ []) k no_block)
      at_place k small (inl old) counts =
          subst (IsNumbered drawn) (sym (get_or_append_left (chained layout) (one ∷ []) no_block k old))
          (numbered (slice_index_or (chained layout) k no_block)
          (before k old counts (mark_there counts.mark counts.small (cases_lt counts.mark (length (chained layout))))))
      at_place k small (inr past) counts = subst (IsNumbered drawn) (sym (get_or_push (chained layout) one no_block k (omega (arith, past, small, long)))) fresh

      numbers : (k : ℕ) → k < length (chained layout ++ one ∷ []) → CountsAt (chained layout ++ one ∷ []) k → IsNumbered drawn (slice_index_or (chained layout ++ one ∷ []) k no_block)
      numbers k small counts = at_place k small (cases_lt k (length (chained layout))) counts

      by_entry : (a b : ℕ × ℕ) (nid : ℕ) → ((a ≡ key) × (nid ≡ footer_nid block)) ⊎ (map.get layout.nids a ≡ Some nid) → ((b ≡ key) × (nid ≡ footer_nid block)) ⊎ (map.get layout.nids b ≡ Some nid) → a ≡ b
      by_entry a b nid (inl new) (inl also) = new.0 ∙ sym also.0
      by_entry a b nid (inl new) (inr old) = new.0 ∙ sym (may.own b (old ∙ ap Some new.1))
      by_entry a b nid (inr old) (inl new) = may.own a (old ∙ ap Some new.1) ∙ sym new.0
      by_entry a b nid (inr old) (inr also) = keeps.nids.differ a b nid old also

  -- the marks that were there, at their places
  pub marks_still : AllZip (HoldsMark lists (with_drawn layout block owners) state.base) (marked_places (chained layout)) state.marks
  marks_still =
      zip_weaker (λ place. place < length (chained layout)) (HoldsMark lists layout state.base) (HoldsMark lists drawn state.base) one_mark (marked_places (chained layout)) state.marks (marked_below (chained layout)) keeps.marks
    where
      one_mark : (at : ℕ) (mark : Mark) → at < length (chained layout) → HoldsMark lists layout state.base at mark → HoldsMark lists drawn state.base at mark
      one_mark at mark small =
          mark_kept lists lists layout drawn state.base at mark refl (ap (λ c. block_in c at) chain_more ∙ block_before (chained layout) one at small)
          (λ page. ap (λ c. marked_address layout.base.image layout.base.ckpt c at page) chain_more ∙ address_same (chained layout) one layout.base.image layout.base.ckpt page at small)
          wider (λ k owner is inside. fewer_same lists lists k refl)

  pub drawn_keeps : (marks : List Mark) → AllZip (HoldsMark lists (with_drawn layout block owners) state.base) (marked_places (chained (with_drawn layout block owners))) marks
      → AreFitting (image_limits layout.base.ckpt.geom) (record state { marks = marks }) → KeepsLog lists (with_drawn layout block owners) (record state { marks = marks })
  drawn_keeps marks hold fitting = record {
    base = keeps.base;
    no_log = keeps.no_log;
    log = drawn_log;
    nids = drawn_nids;
    owners = record { base = λ ino page at is. wider at (ino, page) (keeps.owners.base ino page at is); few = few };
    marks = hold;
    acknowledged = subst (λ (c : List Logged). state.acknowledged ≤ length (marked_places c)) (sym settled_same) keeps.acknowledged;
    fitting = fitting;
  }
    where
      settled_same : take layout.settled (chained drawn) ≡ take layout.settled (chained layout)
      settled_same = ap (take layout.settled) chain_more ∙ take-append-le layout.settled (chained layout) (one ∷ []) (let less = keeps.log.within in omega (arith, less, as_long))

  pub drawn_packs : (marks : List Mark) → KeepsPacks lists layout state → KeepsPacks lists (with_drawn layout block owners) (record state { marks = marks })
  drawn_packs marks packs =
      packs_kept lists lists refl layout state (layout.log ++ place ∷ []) layout.settled (footer_next block) drawn.nids owners marks state.acknowledged packs packs.whole packs.packs packs.no_later packs.pending
