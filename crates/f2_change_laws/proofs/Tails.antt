-- The tail of a checkpoint is written.
use Rattle.std.proofs.Common.{◌≡◌, ◌≢◌, ◌⊎◌, inl, inr, ℕ, ◌≤◌, IsTrue, List, [], take, Option, Some, None, refl, sym, ap, ◌∙◌, subst, arith}
use Rattle.std.specs.List.{Contains}
use Rattle.std.proofs.lemmas.List.Elements.{All-weaker}
use Rattle.f2_format.specs.Geometry.{NAT_START, is_in_node}
use Rattle.f2_format.specs.Footer.{footer_version}
use Rattle.f2_format.specs.Pack.{head_of, IsPack}
use Rattle.f2_disk.specs.Contents.{Contents, IsBlock}
use Rattle.f2_model.specs.Tree.{Rows}
use Rattle.f2_model.specs.State.{State}
use Rattle.f2_image.specs.Packs.{head_address, tail_address, other_side, format_of}
use Rattle.f2_image.specs.Chains.{Logged, chain}
use Rattle.f2_image_laws.specs.Chained.{contents_at, HoldsOrOther, HoldsAlone}
use Rattle.f2_stored.specs.Layout.{Position, Reference, Layout, chained, log_version}
use Rattle.f2_stored.specs.Bases.{tail_of, IsBehind, IsPendingTail, HoldsPending}
use Rattle.f2_stored.specs.Logs.{HoldsAs, IsLogAddress, log_addresses}
use Rattle.f2_stored.specs.Stored.{KeepsPacks, KeepsLog, KeepsImage, IsStored, running, mounting}
use Rattle.f2_change_laws.specs.Checkpointing.{TailsMayBeWritten}
use Rattle.f2_change_laws.proofs.Addresses.{node_range, data_range, tail_low, tails_apart, tail_no_head, tells_no_tail}
use Rattle.f2_change_laws.proofs.Zones.{depends_high, start_in_zone}
use Rattle.f2_change_laws.proofs.ChainZones.{chain_in_zone, end_in_zone}
use Rattle.f2_change_laws.proofs.Each.{each_at, each_within}
use Rattle.f2_change_laws.proofs.Members.{contains_map, contains_take}
use Rattle.f2_change_laws.proofs.Fewer.{Fewer, fewer_all}
use Rattle.f2_change_laws.proofs.OneMore.{IsOneMore, more_all, more_off}
use Rattle.f2_change_laws.proofs.FewerLogs.{fewer_none}
use Rattle.f2_change_laws.proofs.FreeWrites.{as_kept, wrote_more}
use Rattle.f2_change_laws.proofs.KeptImages.{image_kept, pending_kept, later_kept, mount_kept}
use Rattle.f2_change_laws.proofs.KeptLogs.{log_kept}

-- where no tree was pending, what held but for its tail holds
unless_pending : (P : Type 0) (pending : Option Reference) (one : Reference) (tail : List ℕ) → pending ≡ None → P ⊎ IsPendingTail pending tail → P ⊎ IsPendingTail (Some one) tail
unless_pending P pending one tail alone either = by_case (subst (λ (p : Option Reference). P ⊎ IsPendingTail p tail) alone either)
  where
    by_case : P ⊎ IsPendingTail None tail → P ⊎ IsPendingTail (Some one) tail
    by_case (inl holds) = inl holds
    by_case (inr none) = absurd none

module _ (lists new : Contents) (layout : Layout) (state : State) (pending : Reference) (tree : Rows) (alone : layout.pending ≡ None) (holds : HoldsPending lists layout.base pending tree)
    (block : IsBlock (tail_of pending)) (more : IsOneMore lists new (tail_address pending.ckpt.side) (tail_of pending)) where
  off : (k : ℕ) → k ≢ tail_address pending.ckpt.side → Fewer lists new k
  off = more_off lists new (tail_address pending.ckpt.side) (tail_of pending) more

  high : (k : ℕ) → NAT_START ≤ k → k ≢ tail_address pending.ckpt.side
  high k above e = omega (arith, above, e, tail_low pending.ckpt.side)

  inside_high : (k : ℕ) → IsTrue (is_in_node layout.base.ckpt.geom k) → NAT_START ≤ k
  inside_high k inside = let range = node_range layout.base.ckpt.geom k inside in omega (arith, range.0)

  off_inside : (k : ℕ) → IsTrue (is_in_node layout.base.ckpt.geom k) → Fewer lists new k
  off_inside k inside = off k (high k (inside_high k inside))

  here : tail_address (other_side layout.base.ckpt.side) ≡ tail_address pending.ckpt.side
  here = ap tail_address (sym holds.side)

  tail_packs : KeepsPacks lists layout state → format_of pending.ckpt ≡ state.next_format → KeepsPacks new (record layout { pending = Some pending }) (record state { pending = Some tree })
  tail_packs keeps format = record {
    whole = more.whole keeps.whole block;
    packs = record {
      own = (off (tail_address layout.base.ckpt.side) (λ e. tails_apart layout.base.ckpt.side (e ∙ sym here))).one _ keeps.packs.own;
      not_later = more_all lists new (tail_address pending.ckpt.side) (tail_of pending) more (λ tail. ((head_of tail).version ≤ layout.base.ckpt.head.version) ⊎ IsPendingTail (Some pending) tail)
          (tail_address (other_side layout.base.ckpt.side)) (λ e. inr refl)
          (All-weaker (λ tail. ((head_of tail).version ≤ layout.base.ckpt.head.version) ⊎ IsPendingTail layout.pending tail) (λ tail. ((head_of tail).version ≤ layout.base.ckpt.head.version) ⊎ IsPendingTail (Some pending) tail)
          (λ tail. unless_pending ((head_of tail).version ≤ layout.base.ckpt.head.version) layout.pending pending tail alone) (contents_at lists (tail_address (other_side layout.base.ckpt.side))) keeps.packs.not_later);
      behind = behind;
    };
    no_later = later_kept lists new more.size layout off_inside keeps.no_later;
    pending = pending_kept lists new more.size layout.base pending tree (λ k is. off k (tells_no_tail pending.ckpt pending.ckpt.side k is))
        (λ k is. off k (high k (depends_high pending.image pending.ckpt holds.holds.means.sound k is)))
        (off pending.ckpt.head.log_start (high pending.ckpt.head.log_start start_high)) holds;
    format = keeps.format;
    next_format = format;
    version = keeps.version;
    early = keeps.early;
  }
    where
      start_high : NAT_START ≤ pending.ckpt.head.log_start
      start_high = let range = node_range pending.ckpt.geom pending.ckpt.head.log_start (start_in_zone pending.image pending.ckpt holds.holds.means.checkpoint) in omega (arith, range.0)

      behind : (head tail : List ℕ) → Contains (contents_at new (head_address (other_side layout.base.ckpt.side))) head → Contains (contents_at new (tail_address (other_side layout.base.ckpt.side))) tail
          → IsPack layout.base.ckpt.geom head tail → IsBehind layout.base.ckpt.side (head_of head).version layout.base.ckpt.head.version ⊎ IsPendingTail (Some pending) tail
      behind head tail head_there tail_there pack =
          elim (more.from tail (subst (λ k. Contains (contents_at new k) tail) here tail_there)) [
            | inl old ↦ unless_pending (IsBehind layout.base.ckpt.side (head_of head).version layout.base.ckpt.head.version) layout.pending pending tail alone
                (keeps.packs.behind head tail ((off (head_address (other_side layout.base.ckpt.side)) (λ e. tail_no_head (other_side layout.base.ckpt.side) pending.ckpt.side (sym e))).from head head_there)
                (subst (λ k. Contains (contents_at lists k) tail) (sym here) old) pack)
            | inr is ↦ inr is
          ]

  tail_log : KeepsLog lists layout state → KeepsLog new (record layout { pending = Some pending }) (record state { pending = Some tree })
  tail_log keeps =
      log_kept lists new layout state keeps (Some pending) layout.log layout.settled (Some tree) state.acknowledged refl
      (image_kept lists new more.size layout.base state.base [] (λ k is. off k (tells_no_tail layout.base.ckpt pending.ckpt.side k is))
      (λ k is. off k (high k (depends_high layout.base.image layout.base.ckpt keeps.base.means.sound k is))) keeps.base)
      record {
        stands = each_within (HoldsOrOther lists (log_version layout)) (HoldsOrOther new (log_version layout)) (chained layout)
            (λ one found. fewer_all lists new one.at (λ content. (content ≡ one.block) ⊎ (footer_version content ≢ log_version layout)) (off_inside one.at (logged one found))) keeps.log.linked.held;
        free = λ there. fewer_none lists new layout.next (log_version layout) (off_inside layout.next (keeps.log.next there).0) (keeps.log.linked.free there);
        held = each_within (λ position. HoldsAs lists (log_version layout) position.logged position.fate) (λ position. HoldsAs new (log_version layout) position.logged position.fate) layout.log
            (λ position found. as_kept lists new (log_version layout) position.logged position.fate
            (more.other position.logged.at (high position.logged.at (inside_high position.logged.at (logged position.logged (contains_map (λ (p : Position). p.logged) layout.log position found)))))) keeps.log.held;
        fresh = λ k inside no_place. fewer_none lists new k (log_version layout) (off_inside k inside) (keeps.log.fresh k inside no_place);
        within = keeps.log.within;
        settled = each_within (HoldsAlone lists (log_version layout)) (HoldsAlone new (log_version layout)) (take layout.settled (chained layout))
            (λ one found stands. ((off_inside one.at (logged one (contains_take layout.settled (chained layout) one found))).one one.block stands.0, stands.1)) keeps.log.settled;
        pages = λ k owner is inside. off k (high k (omega (arith, data_range layout.base.ckpt.geom k inside)));
      }
      (omega arith) keeps.acknowledged
    where
      logged : (one : Logged) → Contains (chained layout) one → IsTrue (is_in_node layout.base.ckpt.geom one.at)
      logged one found = (each_at (IsLogAddress layout) (log_addresses layout) keeps.log.addresses one.at (contains_map (λ (l : Logged). l.at) (chained layout) one found)).0

  tail_mount : KeepsImage lists layout state → KeepsImage new (record layout { pending = Some pending }) (record state { pending = Some tree })
  tail_mount keeps =
      mount_kept lists new more.size layout state (Some pending) layout.log (Some tree) (λ k is. off k (tells_no_tail layout.base.ckpt pending.ckpt.side k is))
      (λ k is. off k (high k (depends_high layout.base.image layout.base.ckpt keeps.base.means.sound k is)))
      (λ one found. off_inside one.at (each_at (λ (l : Logged). IsTrue (is_in_node layout.base.ckpt.geom l.at)) (chain layout.base.image layout.base.ckpt)
      (chain_in_zone layout.base.image layout.base.ckpt keeps.base.means.checkpoint keeps.base.means.sound) one found))
      (λ next follow there. off_inside next (end_in_zone layout.base.image layout.base.ckpt keeps.base.means.checkpoint keeps.base.means.sound next follow there)) keeps

  tail_stored : format_of pending.ckpt ≡ state.next_format → IsStored lists layout state → IsStored new (record layout { pending = Some pending }) (record state { pending = Some tree })
  tail_stored format (running packs log) = running (tail_packs packs format) (tail_log log)
  tail_stored format (mounting packs image) = mounting (tail_packs packs format) (tail_mount image)

pub tails_may_be_written : TailsMayBeWritten
tails_may_be_written lists new layout state pending tree stored alone holds format inside block wrote =
    tail_stored lists new layout state pending tree alone holds block (wrote_more lists new (tail_address pending.ckpt.side) (tail_of pending) inside wrote) format stored
