-- How long the history is says nothing of files and disk: a state with another number of entries stands where the state did.
use Rattle.std.proofs.Common.{◌≡◌, ℕ, length, List, refl}
use Rattle.std.specs.Prelude.{Option, Some, None, IfSome}
use Rattle.f2_disk.specs.Contents.{Contents}
use Rattle.f2_model.specs.History.{History}
use Rattle.f2_model.specs.State.{State}
use Rattle.f2_model.specs.declared.bounds.Limits.{Limits}
use Rattle.f2_image_laws.specs.Rolled.{image_limits}
use Rattle.f2_room_laws.specs.RoomForWrites.{IsRoomyState}
use Rattle.f2_files.specs.Known.{Known, IsKnownOf}
use Rattle.f2_pages.specs.Kept.{Kept}
use Rattle.f2_stored.specs.Layout.{Layout}
use Rattle.f2_stored.specs.Stored.{IsStored, running, mounting, KeepsPacks, KeepsLog, KeepsImage}
use Rattle.f2_event_laws.proofs.Rest.{entries_for_nothing}
use Rattle.f2_state.specs.Contents.{IsDirtyPage, AreContentsOf}
use Rattle.f2_state.specs.Seen.{Seen}
use Rattle.f2_state.specs.Standing.{StandsAt, StandsOn, IsVolume}

-- a state with so many entries
abbrev pub with_entries : State → ℕ → State
with_entries state n = record state { entries = n }

module _ (lists : Contents) (layout : Layout) (state : State) (n : ℕ) where
  packs_counted : KeepsPacks lists layout state → KeepsPacks lists layout (with_entries state n)
  packs_counted k = record { whole = k.whole; packs = k.packs; no_later = k.no_later; pending = k.pending; format = k.format; next_format = k.next_format; version = k.version; early = k.early }

  log_counted : KeepsLog lists layout state → KeepsLog lists layout (with_entries state n)
  log_counted k = record {
    base = k.base;
    no_log = k.no_log;
    log = k.log;
    nids = k.nids;
    owners = k.owners;
    marks = k.marks;
    acknowledged = k.acknowledged;
    fitting = record { base = k.fitting.base; names = k.fitting.names; trees = k.fitting.trees };
  }

  image_counted : KeepsImage lists layout state → KeepsImage lists layout (with_entries state n)
  image_counted k = record { base = k.base; log = k.log; ends = k.ends; acknowledged = k.acknowledged }

  pub stored_counted : IsStored lists layout state → IsStored lists layout (with_entries state n)
  stored_counted (running packs log) = running (packs_counted packs) (log_counted log)
  stored_counted (mounting packs image) = mounting (packs_counted packs) (image_counted image)

  -- it is as roomy
  pub roomy_counted : (limits : Limits) → IsRoomyState limits state → IsRoomyState limits (with_entries state n)
  roomy_counted limits r = record {
    proper = record { live = r.proper.live; pending = r.proper.pending; remains = r.proper.remains; alone = r.proper.alone; mode = r.proper.mode };
    writes = λ up. record { nodes = (r.writes up).nodes; pages = (r.writes up).pages };
    logged = r.logged;
  }

known_counted : (known : Known) (state : State) (n : ℕ) → IsKnownOf known state → IsKnownOf known (with_entries state n)
known_counted known state n k = record { shapes = k.shapes; dirty_pages = k.dirty_pages; dirty_nodes = k.dirty_nodes; moved = k.moved; shrunk = k.shrunk; flights = k.flights }

contents_counted : (lists : Contents) (known : Known) (kept : Kept) (state : State) (n : ℕ) → AreContentsOf lists known kept state → AreContentsOf lists known kept (with_entries state n)
contents_counted lists known kept state n k = record {
  dirty = λ ino page bytes. (λ is. forth ino page bytes ((k.dirty ino page bytes).0 is), λ is. (k.dirty ino page bytes).1 (back ino page bytes is));
  clean = k.clean;
}
  where
    forth : (ino page : ℕ) (bytes : List ℕ) → IsDirtyPage state ino page bytes → IsDirtyPage (with_entries state n) ino page bytes
    forth ino page bytes d = record { dirty = d.dirty; row = d.row; there = d.there; file = d.file; has = d.has }

    back : (ino page : ℕ) (bytes : List ℕ) → IsDirtyPage (with_entries state n) ino page bytes → IsDirtyPage state ino page bytes
    back ino page bytes d = record { dirty = d.dirty; row = d.row; there = d.there; file = d.file; has = d.has }

-- a volume with another history stands in the state with as many entries
at_counted : {D : Type 0} (lists : Contents) (old : Seen D) (history : History) (state : State) (n : ℕ) → n ≡ length history.entries → StandsAt lists old state
    → StandsAt lists (record old { history = history }) (with_entries state n)
at_counted lists old history state n is at = record {
  layout = at.layout;
  places = at.places;
  unwritten = at.unwritten;
  roomy = roomy_counted lists at.layout state n (image_limits at.layout.base.ckpt.geom) at.roomy;
  stored = stored_counted lists at.layout state n at.stored;
  kept = λ quiet. entries_for_nothing lists at.layout state at.places at.unwritten n (at.kept quiet);
  sizes = at.sizes;
  known = known_counted old.files state n at.known;
  placed = at.placed;
  mode = at.mode;
  entries = is;
}

pub stands_counted : {D : Type 0} (lists : Contents) (old : Seen D) (history : History) (state : State) (n : ℕ) → n ≡ length history.entries → StandsOn lists old state
    → StandsOn lists (record old { history = history }) (with_entries state n)
stands_counted lists old history state n is stands = record { at = at_counted lists old history state n is stands.at; contents = contents_counted lists old.files old.pages state n stands.contents }

-- and is a volume with any history
pub volume_counted : {D : Type 0} (blocks : ℕ) (told : Option Contents) (old : Seen D) (history : History) → IsVolume blocks told old → IsVolume blocks told (record old { history = history })
volume_counted blocks told old history is = record {
  held = is.held;
  within = is.within;
  somewhere = record {
    lists = is.somewhere.lists;
    state = with_entries is.somewhere.state (length history.entries);
    at = at_counted is.somewhere.lists old history is.somewhere.state (length history.entries) refl is.somewhere.at;
    holds = is.somewhere.holds;
    contents = λ tells. contents_counted is.somewhere.lists old.files old.pages is.somewhere.state (length history.entries) (is.somewhere.contents tells);
  };
}
