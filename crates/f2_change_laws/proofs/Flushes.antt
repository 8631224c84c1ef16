-- Flushes, and what is acknowledged after them.
use Rattle.std.proofs.Common.{◌≡◌, ℕ, zero, suc, ◌≤◌, List, [], ◌∷◌, length, take, refl, ap, ◌∙◌, subst, arith}
use Rattle.std.specs.Prelude.{map as map_list}
use Rattle.std.specs.List.{AllByRecursion}
use Rattle.std.proofs.lemmas.List.{length-map}
use Rattle.f2_format.specs.Footer.{footer_version}
use Rattle.f2_disk.specs.Contents.{Contents, IsWhole, latest, last_of, flushed}
use Rattle.f2_model.specs.State.{State}
use Rattle.f2_image.specs.Chains.{Logged}
use Rattle.f2_image_laws.specs.Chained.{contents_at, HoldsAlone}
use Rattle.f2_stored.specs.Layout.{Open, Written, Failed, Fate, Position, Layout, chained, log_version}
use Rattle.f2_stored.specs.Logs.{HoldsAs}
use Rattle.f2_stored.specs.Marks.{marks_within}
use Rattle.f2_stored.specs.Stored.{KeepsPacks, KeepsLog, IsStored, running, mounting}
use Rattle.f2_change_laws.specs.Flushing.{FlushesKeep, FlushesSettle, SettledMarksMayBeAcknowledged}
use Rattle.f2_change_laws.proofs.Fewer.{Fewer}
use Rattle.f2_change_laws.proofs.Each.{each_weaker}
use Rattle.f2_change_laws.proofs.Crashed.{crashed_size, crashed_fewer, crashed_whole, flushed_image, flushed_at}
use Rattle.f2_change_laws.proofs.FewerLogs.{fewer_packs, fewer_mount, fewer_none, fewer_log, fewer_alone}
use Rattle.f2_change_laws.proofs.Counts.{more_count}
use Rattle.f2_change_laws.proofs.KeptMarks.{fitting_kept}

-- a flush leaves fewer contents
pub flushed_fewer : (lists : Contents) → IsWhole (length lists) lists → (at : ℕ) → Fewer lists (flushed lists) at
flushed_fewer lists whole = crashed_fewer lists (latest lists) (flushed_image lists whole)

pub flushed_size : (lists : Contents) → IsWhole (length lists) lists → length (flushed lists) ≡ length lists
flushed_size lists whole = crashed_size lists (latest lists) (flushed_image lists whole)

pub flushed_whole : (lists : Contents) → IsWhole (length lists) lists → IsWhole (length (flushed lists)) (flushed lists)
flushed_whole lists whole = crashed_whole lists (latest lists) (flushed_image lists whole) whole

module _ (lists : Contents) (layout : Layout) (state : State) where
  -- what a position holds stays
  held_flushed : IsWhole (length lists) lists → (one : Logged) (fate : Fate) → HoldsAs lists (log_version layout) one fate → HoldsAs (flushed lists) (log_version layout) one fate
  held_flushed whole one Open holds = fewer_none lists (flushed lists) one.at (log_version layout) (flushed_fewer lists whole one.at) holds
  held_flushed whole one Written holds = ap last_of (flushed_at lists one.at) ∙ holds
  held_flushed whole one Failed holds = tt

  all_held : (packs : KeepsPacks lists layout state) (log : KeepsLog lists layout state) → AllByRecursion (λ position. HoldsAs (flushed lists) (log_version layout) position.logged position.fate) layout.log
  all_held packs log =
      each_weaker (λ position. HoldsAs lists (log_version layout) position.logged position.fate) (λ position. HoldsAs (flushed lists) (log_version layout) position.logged position.fate)
      (λ position. held_flushed packs.whole position.logged position.fate) layout.log log.log.held

  packs_flushed : (settled : ℕ) → KeepsPacks lists layout state → KeepsPacks (flushed lists) (record layout { settled = settled }) state
  packs_flushed settled packs = fewer_packs lists (flushed lists) (flushed_size lists packs.whole) (flushed_whole lists packs.whole) (flushed_fewer lists packs.whole) layout state layout.log settled packs

  flush_keeps : IsStored lists layout state → IsStored (flushed lists) layout state
  flush_keeps (running packs log) =
      running (packs_flushed layout.settled packs)
      (fewer_log lists (flushed lists) (flushed_size lists packs.whole) (flushed_whole lists packs.whole) (flushed_fewer lists packs.whole) layout state layout.log layout.settled log refl (all_held packs log)
      log.log.within (fewer_alone lists (flushed lists) (flushed_size lists packs.whole) (flushed_whole lists packs.whole) (flushed_fewer lists packs.whole) layout state layout.settled log.log.settled) log.acknowledged)
  flush_keeps (mounting packs image) =
      mounting (packs_flushed layout.settled packs) (fewer_mount lists (flushed lists) (flushed_size lists packs.whole) (flushed_whole lists packs.whole) (flushed_fewer lists packs.whole) layout state layout.log image)

  -- a written position is held alone after a flush
  settled_alone : (count : ℕ) (log : List Position) → AllByRecursion (λ (one : Logged). footer_version one.block ≡ log_version layout) (map_list (λ (position : Position). position.logged) log)
      → AllByRecursion (λ position. HoldsAs lists (log_version layout) position.logged position.fate) log → AllByRecursion (λ position. position.fate ≡ Written) (take count log)
      → AllByRecursion (HoldsAlone (flushed lists) (log_version layout)) (take count (map_list (λ (position : Position). position.logged) log))
  settled_alone zero [] own held written = tt
  settled_alone zero (one ∷ log) own held written = tt
  settled_alone (suc count) [] own held written = tt
  settled_alone (suc count) (one ∷ log) own held written =
      let last : last_of (contents_at lists one.logged.at) ≡ one.logged.block = subst (λ (fate : Fate). HoldsAs lists (log_version layout) one.logged fate) written.0 held.0 in
      ((flushed_at lists one.logged.at ∙ ap (λ (block : List ℕ). block ∷ []) last, own.0), settled_alone count log own.1 held.1 written.1)

  flush_settles : (count : ℕ) → KeepsPacks lists layout state → KeepsLog lists layout state → layout.settled ≤ count → count ≤ length layout.log
      → AllByRecursion (λ position. position.fate ≡ Written) (take count layout.log)
      → KeepsPacks (flushed lists) (record layout { settled = count }) state × KeepsLog (flushed lists) (record layout { settled = count }) state
  flush_settles count packs log more within written = (
    packs_flushed count packs,
    fewer_log lists (flushed lists) (flushed_size lists packs.whole) (flushed_whole lists packs.whole) (flushed_fewer lists packs.whole) layout state layout.log count log refl (all_held packs log)
        within (settled_alone count layout.log log.log.own log.log.held written) further,
  )
    where
      further : state.acknowledged ≤ marks_within layout count
      further =
          let counts = more_count (chained layout) layout.settled count more (omega (arith, within, length-map layout.log (λ (position : Position). position.logged))) in
          let few = log.acknowledged in
          omega (arith, counts, few)

pub flushes_keep : FlushesKeep
flushes_keep = flush_keeps

pub flushes_settle : FlushesSettle
flushes_settle lists layout state count = flush_settles lists layout state count

pub settled_marks_may_be_acknowledged : SettledMarksMayBeAcknowledged
settled_marks_may_be_acknowledged lists layout state count packs log more within = (
  record {
    whole = packs.whole;
    packs = packs.packs;
    no_later = packs.no_later;
    pending = packs.pending;
    format = packs.format;
    next_format = packs.next_format;
    version = packs.version;
    early = packs.early;
  },
  record {
    base = log.base;
    no_log = log.no_log;
    log = log.log;
    nids = log.nids;
    owners = log.owners;
    marks = log.marks;
    acknowledged = within;
    fitting = fitting_kept _ state state.pending count more log.fitting;
  },
)
