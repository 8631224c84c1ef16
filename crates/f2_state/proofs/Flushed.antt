-- An fsync's flush, made or failed: where the volume stands after it.
use Rattle.std.proofs.Common.{◌≡◌, inl, inr, ℕ, zero, suc, ◌+◌, true, false, List, [], ◌∷◌, length, refl, ap, sym, subst, ◌∙◌, arith, true≢false}
use Rattle.std.specs.Prelude.{Some, None}
use Rattle.std.specs.FinMap as map
use Rattle.std.specs.FinSet as set
use Rattle.f2_disk.specs.Contents.{Contents, list_at, last_of, flushed}
use Rattle.f2_image_laws.specs.Rolled.{image_limits}
use Rattle.f2_model.specs.History.{History}
use Rattle.f2_model.specs.State.{State}
use Rattle.f2_model.specs.Step.{Faults, unchanged, closed_by_fault}
use Rattle.f2_model.specs.declared.events.Answer.{Answer}
use Rattle.f2_model.specs.declared.histories.CallKind.TheVariants as kind
use Rattle.f2_model.specs.declared.modes.Mode.TheVariants.{Shut}
use Rattle.f2_event_laws.proofs.Faulted.{failed_flushes}
use Rattle.f2_files.specs.Known.{Known, IsKnownOf}
use Rattle.f2_files.specs.Shape.{IsShapeOf, address_in}
use Rattle.f2_laws.specs.Flights.{Flights}
use Rattle.f2_pages.specs.Kept.{Kept}
use Rattle.f2_room_laws.specs.RoomForWrites.{IsRoomyState}
use Rattle.f2_stored.specs.Layout.{Layout}
use Rattle.f2_stored.specs.Stored.{running}
use Rattle.f2_stored.specs.Whole.{IsKeptWhole}
use Rattle.f2_state.specs.Contents.{IsDirtyPage, IsCleanPage, AreContentsOf}
use Rattle.f2_state.specs.Seen.{Seen}
use Rattle.f2_state.specs.Standing.{StandsAt}

-- a flush changes no read
pub read_flushed : (lists : Contents) (at : ℕ) → last_of (list_at (flushed lists) at) ≡ last_of (list_at lists at)
read_flushed [] at = refl
read_flushed (list ∷ lists) zero = refl
read_flushed (list ∷ lists) (suc at) = read_flushed lists at

-- contents in memory stay those of a state with the same live tree of which the same is dirty
module _ (files now : Known) (kept : Kept) (from after : State) (shapes : now.shapes ≡ files.shapes) (live : after.live ≡ from.live) (dirty : after.dirty_pages ≡ from.dirty_pages) where
  dirty_forth : (ino page : ℕ) (bytes : List ℕ) → IsDirtyPage from ino page bytes → IsDirtyPage after ino page bytes
  dirty_forth ino page bytes d = record {
    dirty = subst (λ pages. set.contains pages (ino, page) ≡ true) (sym dirty) d.dirty;
    row = d.row;
    there = ap (λ tree. map.get tree ino) live ∙ d.there;
    file = d.file;
    has = d.has;
  }

  dirty_back : (ino page : ℕ) (bytes : List ℕ) → IsDirtyPage after ino page bytes → IsDirtyPage from ino page bytes
  dirty_back ino page bytes d = record {
    dirty = subst (λ pages. set.contains pages (ino, page) ≡ true) dirty d.dirty;
    row = d.row;
    there = ap (λ tree. map.get tree ino) (sym live) ∙ d.there;
    file = d.file;
    has = d.has;
  }

  pub contents_stay : (lists new : Contents) → ((at : ℕ) → last_of (list_at new at) ≡ last_of (list_at lists at)) → AreContentsOf lists files kept from → AreContentsOf new now kept after
  contents_stay lists new reads are = record {
    dirty = λ ino page bytes. (λ is. dirty_forth ino page bytes ((are.dirty ino page bytes).0 is), λ is. (are.dirty ino page bytes).1 (dirty_back ino page bytes is));
    clean = λ ino page bytes kept. current ino page bytes (are.clean ino page bytes kept);
  }
    where
      current : (ino page : ℕ) (bytes : List ℕ) → IsCleanPage lists files ino page bytes → IsCleanPage new now ino page bytes
      current ino page bytes c = record {
        at = c.at;
        address = ap (λ all. address_in page (map.get all ino)) shapes ∙ c.address;
        written = c.written;
        current = c.current ∙ sym (reads c.at);
      }

module _ {D : Type 0} (lists : Contents) (old : Seen D) (from : State) (at : StandsAt lists old from) (disk : D) (files : Known) (history : History) (shapes : files.shapes ≡ old.files.shapes) where
  -- the flush was made, and what a running volume keeps is kept with another layout of the same image
  pub at_flushed : (layout : Layout) (after : State) → layout.base.ckpt.geom ≡ at.layout.base.ckpt.geom → IsKeptWhole (flushed lists) layout after at.places at.unwritten
      → IsRoomyState (image_limits at.layout.base.ckpt.geom) after → IsKnownOf files after → after.mode ≡ from.mode
      → after.entries ≡ length history.entries → StandsAt (flushed lists) (record old { disk = disk; files = files; history = history }) after
  at_flushed layout after sizes whole roomy known mode entries = record {
    layout = layout;
    places = at.places;
    unwritten = at.unwritten;
    roomy = subst (λ geom. IsRoomyState (image_limits geom) after) (sym sizes) roomy;
    stored = running whole.kept.packs whole.kept.log;
    kept = λ quiet. whole;
    sizes = sizes ∙ at.sizes;
    known = known;
    placed = λ ino page. ap (λ all. address_in page (map.get all ino)) shapes ∙ at.placed ino page;
    mode = at.mode ∙ sym mode;
    entries = entries;
  }

  -- the flush failed
  pub at_closed : (faults : Faults) (seat : ℕ) (failed : Answer) → IsRoomyState (image_limits at.layout.base.ckpt.geom) (closed_by_fault faults seat kind.Flush failed (unchanged from failed)).after
      → files.dirty_pages ≡ old.files.dirty_pages → files.dirty_nodes ≡ old.files.dirty_nodes → files.moved ≡ old.files.moved → files.shrunk ≡ old.files.shrunk → files.flights ≡ map.remove old.files.flights seat
      → from.entries + 1 ≡ length history.entries
      → StandsAt lists (record old { disk = disk; mode = Shut; files = files; history = history }) (closed_by_fault faults seat kind.Flush failed (unchanged from failed)).after
  at_closed faults seat failed roomy pages nodes moved shrunk flights entries = record {
    layout = at.layout;
    places = at.places;
    unwritten = at.unwritten;
    roomy = roomy;
    stored = failed_flushes lists at.layout from faults seat failed at.stored;
    kept = λ quiet. absurd (true≢false (sym quiet));
    sizes = at.sizes;
    known = record {
      shapes = subst (λ all. IsShapeOf all from.live) (sym shapes) at.known.shapes;
      dirty_pages = pages ∙ at.known.dirty_pages;
      dirty_nodes = nodes ∙ at.known.dirty_nodes;
      moved = moved ∙ at.known.moved;
      shrunk = shrunk ∙ at.known.shrunk;
      flights = flights ∙ ap (λ (f : Flights). map.remove f seat) at.known.flights;
    };
    placed = λ ino page. ap (λ all. address_in page (map.get all ino)) shapes ∙ at.placed ino page;
    mode = refl;
    entries = omega (arith, entries);
  }
