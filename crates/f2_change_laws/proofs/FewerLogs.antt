-- What a disk keeps where no address has other contents.
use Rattle.std.proofs.Common.{◌≡◌, ◌≢◌, ◌⊎◌, ℕ, ◌≤◌, List, [], length, take, arith}
use Rattle.std.specs.Prelude.{map as map_list}
use Rattle.std.specs.List.{AllByRecursion}
use Rattle.f2_format.specs.Footer.{footer_version}
use Rattle.f2_disk.specs.Contents.{Contents, IsWhole}
use Rattle.f2_model.specs.State.{State}
use Rattle.f2_image.specs.Packs.{tail_address, other_side, head_address}
use Rattle.f2_image.specs.Chains.{Logged}
use Rattle.f2_image_laws.specs.Chained.{HoldsOrOther, HoldsNone, HoldsAlone}
use Rattle.f2_stored.specs.Layout.{Position, Layout, chained, log_version}
use Rattle.f2_stored.specs.Logs.{HoldsAs}
use Rattle.f2_stored.specs.Marks.{marks_within}
use Rattle.f2_stored.specs.Stored.{KeepsPacks, KeepsLog, KeepsImage}
use Rattle.f2_change_laws.proofs.Fewer.{Fewer, fewer_all}
use Rattle.f2_change_laws.proofs.Each.{each_weaker}
use Rattle.f2_change_laws.proofs.KeptImages.{image_kept, pending_kept, some_kept, later_kept, heads_kept, packs_kept, mount_kept}
use Rattle.f2_change_laws.proofs.KeptLogs.{log_kept}

-- no block of a version
pub fewer_none : (lists new : Contents) (at version : ℕ) → Fewer lists new at → HoldsNone lists version at → HoldsNone new version at
fewer_none lists new at version fewer = fewer_all lists new at (λ content. footer_version content ≢ version) fewer

module _ (lists new : Contents) (size : length new ≡ length lists) (whole : IsWhole (length new) new) (fewer : (at : ℕ) → Fewer lists new at) (layout : Layout) (state : State) where
  pub fewer_packs : (log : List Position) (settled : ℕ) → KeepsPacks lists layout state → KeepsPacks new (record layout { log = log; settled = settled }) state
  fewer_packs log settled keeps =
      packs_kept lists new size layout state log settled layout.next layout.nids layout.owners state.marks state.acknowledged keeps whole
      (heads_kept lists new size layout.base layout.pending (fewer (tail_address layout.base.ckpt.side)) (fewer (tail_address (other_side layout.base.ckpt.side))) (fewer (head_address (other_side layout.base.ckpt.side))).from keeps.packs)
      (later_kept lists new size layout (λ at inside. fewer at) keeps.no_later)
      (some_kept lists new size layout.base layout.pending state.pending
      (λ one rows is. pending_kept lists new size layout.base one rows (λ at tells. fewer at) (λ at depends. fewer at) (fewer one.ckpt.head.log_start)) keeps.pending)

  pub fewer_mount : (log : List Position) → KeepsImage lists layout state → KeepsImage new (record layout { log = log }) state
  fewer_mount log keeps =
      mount_kept lists new size layout state layout.pending log state.pending (λ at tells. fewer at) (λ at depends. fewer at) (λ one found. fewer one.at) (λ next follow there. fewer next) keeps

  alone_kept : (one : Logged) → HoldsAlone lists (log_version layout) one → HoldsAlone new (log_version layout) one
  alone_kept one alone = ((fewer one.at).one one.block alone.0, alone.1)

  pub fewer_log : (log : List Position) (settled : ℕ) (keeps : KeepsLog lists layout state) → map_list (λ position. position.logged) log ≡ chained layout
      → AllByRecursion (λ position. HoldsAs new (log_version layout) position.logged position.fate) log
      → settled ≤ length layout.log → AllByRecursion (HoldsAlone new (log_version layout)) (take settled (chained layout)) → state.acknowledged ≤ marks_within layout settled
      → KeepsLog new (record layout { log = log; settled = settled }) state
  fewer_log log settled keeps same held within alone few =
      log_kept lists new layout state keeps layout.pending log settled state.pending state.acknowledged same (image_kept lists new size layout.base state.base [] (λ at tells. fewer at) (λ at depends. fewer at) keeps.base)
      record {
        stands = each_weaker (HoldsOrOther lists (log_version layout)) (HoldsOrOther new (log_version layout))
            (λ one. fewer_all lists new one.at (λ content. (content ≡ one.block) ⊎ (footer_version content ≢ log_version layout)) (fewer one.at)) (chained layout) keeps.log.linked.held;
        free = λ there. fewer_none lists new layout.next (log_version layout) (fewer layout.next) (keeps.log.linked.free there);
        held = held;
        fresh = λ at inside no_position. fewer_none lists new at (log_version layout) (fewer at) (keeps.log.fresh at inside no_position);
        within = within;
        settled = alone;
        pages = λ at owner is inside. fewer at;
      }
      (omega arith) few

  pub fewer_alone : (count : ℕ) → AllByRecursion (HoldsAlone lists (log_version layout)) (take count (chained layout)) → AllByRecursion (HoldsAlone new (log_version layout)) (take count (chained layout))
  fewer_alone count = each_weaker (HoldsAlone lists (log_version layout)) (HoldsAlone new (log_version layout)) alone_kept (take count (chained layout))
