-- A write at a free address.
use Rattle.std.proofs.Common.{◌≡◌, ◌≢◌, ◌⊎◌, inl, inr, ℕ, ◌%◌, ◌^◌, ◌<◌, ◌≤◌, IsTrue, List, [], length, take, All, Option, Some, None, refl, sym, ap, ◌∙◌, subst, arith}
use Rattle.std.specs.List.{Contains}
use Rattle.std.specs.FinMap as map
use Rattle.std.proofs.lemmas.Bool.{cases_eq}
use Rattle.std.proofs.lemmas.List.Elements.{All-contains}
use Rattle.f2_format.specs.Geometry.{is_in_node}
use Rattle.f2_format.specs.Footer.{footer_version}
use Rattle.f2_format.specs.Pack.{head_of, IsPack}
use Rattle.f2_disk.specs.Contents.{Contents, last_of}
use Rattle.f2_model.specs.Tree.{Rows}
use Rattle.f2_model.specs.State.{State}
use Rattle.f2_image.specs.Packs.{head_address, tail_address, other_side}
use Rattle.f2_image.specs.Chains.{Logged, chain}
use Rattle.f2_image_laws.specs.Chained.{contents_at, Follow, HoldsOrOther, HoldsAlone}
use Rattle.f2_stored.specs.Layout.{Open, Written, Failed, Fate, Position, Reference, Layout, chained, log_version}
use Rattle.f2_stored.specs.Bases.{HasPacks, IsBehind, IsPendingTail, HoldsPending}
use Rattle.f2_stored.specs.Logs.{HoldsAs, log_addresses}
use Rattle.f2_stored.specs.Changes.{Wrote, IsReadOf, tells, depends, logged, ends, IsReadOfSome, IsFree, MayBeWritten}
use Rattle.f2_stored.specs.Stored.{KeepsPacks, KeepsLog, IsStored, running, mounting}
use Rattle.f2_change_laws.specs.Writing.{FreeWritesKeep}
use Rattle.f2_change_laws.proofs.Addresses.{log_version_low}
use Rattle.f2_change_laws.proofs.Zones.{version_some}
use Rattle.f2_change_laws.proofs.Each.{each_within}
use Rattle.f2_change_laws.proofs.Members.{contains_map, contains_take}
use Rattle.f2_change_laws.proofs.Fewer.{Fewer, fewer_all}
use Rattle.f2_change_laws.proofs.OneMore.{IsOneMore, written_more, failed_more, more_all, more_off}
use Rattle.f2_change_laws.proofs.FewerLogs.{fewer_none}
use Rattle.f2_change_laws.proofs.KeptImages.{image_kept, pending_kept, some_kept, packs_kept, mount_kept}
use Rattle.f2_change_laws.proofs.KeptLogs.{log_kept}

-- what a position holds, where nothing changed there
pub as_kept : (lists new : Contents) (version : ℕ) (one : Logged) (fate : Fate) → contents_at new one.at ≡ contents_at lists one.at → HoldsAs lists version one fate → HoldsAs new version one fate
as_kept lists new version one Open same holds = subst (All (λ content. footer_version content ≢ version)) (sym same) holds
as_kept lists new version one Written same holds = ap last_of same ∙ holds
as_kept lists new version one Failed same holds = tt

no_owner : (found : Option (ℕ × ℕ)) (owner : ℕ × ℕ) → found ≡ None → ¬ (found ≡ Some owner)
no_owner found owner has_none some = cc

module _ (lists new : Contents) (layout : Layout) (state : State) (at : ℕ) (content : List ℕ)
    (more : IsOneMore lists new at content) (free : IsFree layout at) (may : MayBeWritten layout at content) where
  off : (k : ℕ) → k ≢ at → Fewer lists new k
  off = more_off lists new at content more

  off_base : (k : ℕ) → IsReadOf layout.base k → Fewer lists new k
  off_base k is = off k (λ e. free.base (subst (IsReadOf layout.base) e is))

  off_pending : (one : Reference) → layout.pending ≡ Some one → (k : ℕ) → IsReadOf one k → Fewer lists new k
  off_pending one there k is = off k (λ e. free.pending (subst (λ (p : Option Reference). IsReadOfSome p at) (sym there) (subst (IsReadOf one) e is)))

  -- the new head of the other pack is of a later version than its tails
  behind : HasPacks lists layout.base layout.pending → (head tail : List ℕ) → Contains (contents_at new (head_address (other_side layout.base.ckpt.side))) head
      → Contains (contents_at new (tail_address (other_side layout.base.ckpt.side))) tail → IsPack layout.base.ckpt.geom head tail
      → IsBehind layout.base.ckpt.side (head_of head).version layout.base.ckpt.head.version ⊎ IsPendingTail layout.pending tail
  behind packs head tail head_there tail_there pack = elim (cases_eq (head_address (other_side layout.base.ckpt.side)) at) [
    | inl here ↦ elim (more.from head (subst (λ k. Contains (contents_at new k) head) here head_there)) [
      | inl old ↦ packs.behind head tail (subst (λ k. Contains (contents_at lists k) head) (sym here) old) tail_was pack
      | inr is ↦ later here is
    ]
    | inr apart ↦ packs.behind head tail ((off (head_address (other_side layout.base.ckpt.side)) apart).from head head_there) tail_was pack
  ]
    where
      tail_was : Contains (contents_at lists (tail_address (other_side layout.base.ckpt.side))) tail
      tail_was = (off (tail_address (other_side layout.base.ckpt.side)) (λ e. free.other_tail (sym e))).from tail tail_there

      later : head_address (other_side layout.base.ckpt.side) ≡ at → head ≡ content → IsBehind layout.base.ckpt.side (head_of head).version layout.base.ckpt.head.version ⊎ IsPendingTail layout.pending tail
      later here is =
          elim (All-contains (λ tail. ((head_of tail).version ≤ layout.base.ckpt.head.version) ⊎ IsPendingTail layout.pending tail) _ tail packs.not_later tail_was) [
            | inl early ↦
                let late : layout.base.ckpt.head.version < (head_of content).version = may.head (sym here) in
                absurd (omega (arith, early, late, ap (λ (b : List ℕ). (head_of b).version) pack.same, ap (λ (b : List ℕ). (head_of b).version) is))
            | inr one ↦ inr one
          ]

  pub free_packs : KeepsPacks lists layout state → KeepsPacks new layout state
  free_packs keeps =
      packs_kept lists new more.size layout state layout.log layout.settled layout.next layout.nids layout.owners state.marks state.acknowledged keeps (more.whole keeps.whole may.block)
      record {
        own = (off (tail_address layout.base.ckpt.side) (λ e. free.own_tail (sym e))).one _ keeps.packs.own;
        not_later = fewer_all lists new (tail_address (other_side layout.base.ckpt.side)) (λ tail. ((head_of tail).version ≤ layout.base.ckpt.head.version) ⊎ IsPendingTail layout.pending tail)
            (off (tail_address (other_side layout.base.ckpt.side)) (λ e. free.other_tail (sym e))) keeps.packs.not_later;
        behind = behind keeps.packs;
      }
      (λ k inside. more_all lists new at content more (λ content. footer_version content % 2 ^ 32 ≤ layout.base.ckpt.head.version) k
      (λ here. unversioned (may.node (subst (λ k. IsTrue (is_in_node layout.base.ckpt.geom k)) here inside))) (keeps.no_later k inside))
      (some_kept lists new more.size layout.base layout.pending state.pending pending keeps.pending)
    where
      unversioned : footer_version content ≡ 0 → footer_version content % 2 ^ 32 ≤ layout.base.ckpt.head.version
      unversioned none = omega (arith, none)

      pending : (one : Reference) (rows : Rows) → layout.pending ≡ Some one → HoldsPending lists layout.base one rows → HoldsPending new layout.base one rows
      pending one rows there holds =
          pending_kept lists new more.size layout.base one rows (λ k is. off_pending one there k (tells is)) (λ k is. off_pending one there k (depends is))
          (off_pending one there one.ckpt.head.log_start (ends one.ckpt.head.log_start (subst (λ (c : List Logged). Follow one.ckpt.head.log_start c one.ckpt.head.log_start) (sym holds.no_log) refl) refl)) holds

  pub free_log : KeepsPacks lists layout state → KeepsLog lists layout state → KeepsLog new layout state
  free_log packs keeps =
      log_kept lists new layout state keeps layout.pending layout.log layout.settled state.pending state.acknowledged refl
      (image_kept lists new more.size layout.base state.base [] (λ k is. off_base k (tells is)) (λ k is. off_base k (depends is)) keeps.base)
      record {
        stands = each_within (HoldsOrOther lists (log_version layout)) (HoldsOrOther new (log_version layout)) (chained layout)
            (λ one found. fewer_all lists new one.at (λ c. (c ≡ one.block) ⊎ (footer_version c ≢ log_version layout)) (off_log one found)) keeps.log.linked.held;
        free = λ there. fewer_none lists new layout.next (log_version layout) (off layout.next (λ e. free.not_next (sym e))) (keeps.log.linked.free there);
        held = each_within (λ position. HoldsAs lists (log_version layout) position.logged position.fate) (λ position. HoldsAs new (log_version layout) position.logged position.fate) layout.log
            (λ position found. as_kept lists new (log_version layout) position.logged position.fate (more.other position.logged.at (apart_log position.logged (contains_map (λ (p : Position). p.logged) layout.log position found)))) keeps.log.held;
        fresh = λ k inside no_position. more_all lists new at content more (λ c. footer_version c ≢ log_version layout) k
            (λ here. versioned (may.node (subst (λ k. IsTrue (is_in_node layout.base.ckpt.geom k)) here inside))) (keeps.log.fresh k inside no_position);
        within = keeps.log.within;
        settled = each_within (HoldsAlone lists (log_version layout)) (HoldsAlone new (log_version layout)) (take layout.settled (chained layout))
            (λ one found alone. ((off_log one (contains_take layout.settled (chained layout) one found)).one one.block alone.0, alone.1)) keeps.log.settled;
        pages = λ k owner is inside. off k (λ e. no_owner (map.get layout.owners at) owner free.no_owner (subst (λ i. map.get layout.owners i ≡ Some owner) e is));
      }
      (omega arith) keeps.acknowledged
    where
      apart_log : (one : Logged) → Contains (chained layout) one → one.at ≢ at
      apart_log one found e = free.no_position (subst (Contains (log_addresses layout)) e (contains_map (λ (l : Logged). l.at) (chained layout) one found))

      off_log : (one : Logged) → Contains (chained layout) one → Fewer lists new one.at
      off_log one found = off one.at (apart_log one found)

      versioned : footer_version content ≡ 0 → footer_version content ≢ log_version layout
      versioned none same =
          omega (arith, none, same, log_version_low layout.base.ckpt.head packs.early, version_some layout.base.image layout.base.ckpt keeps.base.means.checkpoint)

  free_write : IsStored lists layout state → IsStored new layout state
  free_write (running packs log) = running (free_packs packs) (free_log packs log)
  free_write (mounting packs image) =
      mounting (free_packs packs)
      (mount_kept lists new more.size layout state layout.pending layout.log state.pending (λ k is. off_base k (tells is)) (λ k is. off_base k (depends is))
      (λ one found. off_base one.at (logged (contains_map (λ (l : Logged). l.at) (chain layout.base.image layout.base.ckpt) one found)))
      (λ next follow there. off_base next (ends next follow refl)) image)

pub wrote_more : (lists new : Contents) (at : ℕ) (content : List ℕ) → at < length lists → Wrote lists at content new → IsOneMore lists new at content
wrote_more lists new at content inside wrote = elim wrote [ inl made ↦ written_more lists new at content inside made | inr failed ↦ failed_more lists new at content inside failed ]

pub free_writes_keep : FreeWritesKeep
free_writes_keep lists new layout state at content stored inside free may wrote =
    free_write lists new layout state at content (wrote_more lists new at content inside wrote) free may stored
