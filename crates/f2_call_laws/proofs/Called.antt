-- What a call that takes place keeps of the tree, of what a crash leaves and of the files in fsync.
use Rattle.std.proofs.Common.{◌≡◌, ℕ, true, refl, ◌∙◌, arith}
use Rattle.std.specs.Prelude.{Option, Some, None}
use Rattle.std.specs.FinMap as map
use Rattle.f2_disk.specs.Contents.{Contents}
use Rattle.f2_model.specs.Call.{effect, space_refusal}
use Rattle.f2_model.specs.State.{State, Pairs, Inos, IsFreeIno}
use Rattle.f2_model.specs.Step.{adds_row}
use Rattle.f2_model.specs.Tree.{Rows}
use Rattle.f2_model.specs.declared.bounds.Limits.{Limits}
use Rattle.f2_model.specs.declared.requests.Request.{Request}
use Rattle.f2_model.specs.declared.requests.Request.TheVariants.{Create, Mkdir, Write, Truncate, Unlink, Rmdir, Rename, Read, List as ListNames, Fsync, Sync}
use Rattle.f2_model.specs.declared.rows.Row.{Row}
use Rattle.f2_model.specs.declared.rows.Kind.TheVariants.{Regular}
use Rattle.f2_image_laws.specs.Rolled.{image_limits}
use Rattle.f2_laws.specs.Flights.{IsFrozen}
use Rattle.f2_laws.proofs.NewRows.{same_space}
use Rattle.f2_laws.proofs.Passed.{Passed, passed}
use Rattle.f2_room_laws.specs.ProperTrees.{IsNumber, IsProperTree}
use Rattle.f2_room_laws.proofs.Effects.{Keeps, effect_keeps, effect_proper}
use Rattle.f2_stored.specs.Places.{Places}
use Rattle.f2_stored.specs.Trees.{Unwritten}
use Rattle.f2_stored.specs.Layout.{Layout}
use Rattle.f2_stored.specs.Whole.{IsKeptWhole}
use Rattle.f2_call_laws.specs.Calls.{TakesPlace}
use Rattle.f2_call_laws.proofs.Dirtied.{LeavesRest}

-- a state in which nothing changed but the live tree and what is dirty, moved and shrunk
pub leaves_rest : (state : State) (live : Rows) (pages nodes : Pairs) (moved shrunk : Inos) → LeavesRest state (record state { live = live; dirty_pages = pages; dirty_nodes = nodes; moved = moved; shrunk = shrunk })
leaves_rest state live pages nodes moved shrunk = record {
  same = record { base = refl; marks = refl; acknowledged = refl; pending = refl; format = refl; version = refl; next_format = refl };
  flights = refl;
  node_writes = refl;
  logged = refl;
}

module _ (lists : Contents) (layout : Layout) (state : State) (places : Places) (unwritten : Unwritten) (whole : IsKeptWhole lists layout state places unwritten) where
  abbrev limits : Limits
  limits = image_limits layout.base.ckpt.geom

  pub frozen_row : (at : ℕ) → IsFrozen state.flights at → (row : Row) × (map.get state.live at ≡ Some row) × (row.kind ≡ Regular)
  frozen_row at frozen = (whole.kept.fsyncs frozen.0 at frozen.1.0 frozen.1.1).file

  absent : map.get state.live limits.nids ≡ None
  absent = by_row (map.get state.live limits.nids) refl
    where
      by_row : (o : Option Row) → map.get state.live limits.nids ≡ o → o ≡ None
      by_row None e = refl
      by_row (Some row) e = let number = whole.kept.proper.numbers limits.nids row e in absurd (omega (arith, number.1))

  -- a number of a new row takes as much room as any other
  alike : (request : Request) (ino : ℕ) → (adds_row request ≡ true → map.get state.live ino ≡ None) → space_refusal limits (effect state.live request ino) ≡ space_refusal limits (effect state.live request limits.nids)
  alike (Create path) ino new = same_space limits state.live (Create path) ino limits.nids whole.kept.proper.good (new refl) absent
  alike (Mkdir path) ino new = same_space limits state.live (Mkdir path) ino limits.nids whole.kept.proper.good (new refl) absent
  alike (Write path pieces) ino new = refl
  alike (Truncate path size) ino new = refl
  alike (Unlink path) ino new = refl
  alike (Rmdir path) ino new = refl
  alike (Rename from to) ino new = refl
  alike (Read path off len) ino new = refl
  alike (ListNames path) ino new = refl
  alike (Fsync path) ino new = refl
  alike Sync ino new = refl

  module _ (request : Request) (ino : ℕ) (takes : TakesPlace limits state request ino) where
    pub has_passed : Passed limits state.live request
    has_passed = passed limits state.live request takes.passes

    pub rows_keep : Keeps state.live (effect state.live request ino) state.flights (adds_row request) ino
    rows_keep = effect_keeps limits state whole.kept.proper.good frozen_row ino request (λ adds. (takes.free adds).no_row) has_passed takes.thawed

    number : IsFreeIno limits state ino → IsNumber limits ino
    number free = (let above = free.above in omega arith, free.below)

    pub tree_proper : IsProperTree limits (effect state.live request ino)
    tree_proper =
        effect_proper limits state.live state.flights request ino whole.kept.proper takes.passes (λ adds. (takes.free adds).no_row) (λ adds. number (takes.free adds))
        (alike request ino (λ adds. (takes.free adds).no_row) ∙ takes.space) rows_keep
