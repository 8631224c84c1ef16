-- What a call changes of a state beside the tree, as far as what is dirty goes.
use Rattle.std.proofs.Common.{◌≡◌, ◌⊎◌, ℕ, true, false, IsSome}
use Rattle.std.specs.Prelude.{Some}
use Rattle.std.specs.FinMap as map
use Rattle.std.specs.FinSet as set
use Rattle.f2_format.specs.Offsets.{direct_of}
use Rattle.f2_model.specs.State.{State, IsFreeIno}
use Rattle.f2_model.specs.declared.bounds.Limits.{Limits}
use Rattle.f2_model.specs.declared.rows.Row.{Row}
use Rattle.f2_model.specs.declared.rows.Kind.TheVariants.{Regular}
use Rattle.f2_image.specs.Reached.{IsDirect}
use Rattle.f2_laws.specs.Flights.{IsFrozen}
use Rattle.f2_room_laws.proofs.CalledPairs.{LeavesFile}
use Rattle.f2_stored.specs.Changes.{LeaveTheSame}
use Rattle.f2_stored.specs.Whole.{IsFilePage}

-- nothing of what a crash leaves, of the calls in flight and of the log
pub record LeavesRest (state after : State) : Type 0 where
  pub same : LeaveTheSame state after
  pub flights : after.flights ≡ state.flights
  pub node_writes : after.node_writes ≡ state.node_writes
  pub logged : after.logged ≡ state.logged

-- a file was there, and a direct node of it that wasn't dirty lost none of its pages
pub record WasThere (state : State) (ino page offset : ℕ) (row : Row) : Type 0 where
  pub before : Row
  pub there : map.get state.live ino ≡ Some before
  pub regular : before.kind ≡ Regular
  pub whole : set.contains state.shrunk ino ≡ false
  pub clean : set.contains state.dirty_nodes (ino, offset) ≡ false
  pub stays : IsSome (map.get before.pages page) → IsSome (map.get row.pages page)

-- files in fsync stay; what is new has a free ino; nodes that aren't dirty after it, of files that lost none, have the pages that they had
pub record DirtiesRight (limits : Limits) (state after : State) : Type 0 where
  pub rest : LeavesRest state after
  pub frozen_rows : (ino : ℕ) → IsFrozen state.flights ino → map.get after.live ino ≡ map.get state.live ino
  pub frozen : (ino : ℕ) → IsFrozen state.flights ino → LeavesFile state after ino
  pub shrunk : (ino : ℕ) → IsFrozen state.flights ino → set.contains after.shrunk ino ≡ set.contains state.shrunk ino
  pub rows : (ino : ℕ) (row : Row) → map.get after.live ino ≡ Some row → IsSome (map.get state.live ino) ⊎ IsFreeIno limits state ino
  pub told : (ino page offset : ℕ) (row : Row) → map.get after.live ino ≡ Some row → row.kind ≡ Regular → set.contains after.shrunk ino ≡ false → direct_of page ≡ Some offset
      → set.contains after.dirty_nodes (ino, offset) ≡ false → WasThere state ino page offset row ⊎ IsFreeIno limits state ino
  pub direct : (ino offset : ℕ) → set.contains after.dirty_nodes (ino, offset) ≡ true → IsDirect offset
  pub covered : (ino page offset : ℕ) → set.contains after.dirty_pages (ino, page) ≡ true → direct_of page ≡ Some offset → set.contains after.dirty_nodes (ino, offset) ≡ true
  pub dirty : (ino page : ℕ) → set.contains after.dirty_pages (ino, page) ≡ true → IsFilePage after.live ino page
