-- Each call that takes place makes the right things dirty.
use Rattle.std.proofs.Common.{ℕ, refl}
use Rattle.f2_disk.specs.Contents.{Contents}
use Rattle.f2_model.specs.Call.{refusal_of, walk_parent}
use Rattle.f2_model.specs.State.{State}
use Rattle.f2_model.specs.Step.{called}
use Rattle.f2_model.specs.Tree.{walk}
use Rattle.f2_model.specs.declared.bounds.Limits.{Limits}
use Rattle.f2_model.specs.declared.requests.Request.{Request}
use Rattle.f2_model.specs.declared.requests.Request.TheVariants.{Create, Mkdir, Write, Truncate, Unlink, Rmdir, Rename, Read, List as ListNames, Fsync, Sync}
use Rattle.f2_model.specs.declared.rows.Kind.TheVariants.{Regular, Directory}
use Rattle.f2_image_laws.specs.Rolled.{image_limits}
use Rattle.f2_laws.proofs.Passed.{none_first}
use Rattle.f2_stored.specs.Places.{Places}
use Rattle.f2_stored.specs.Trees.{Unwritten}
use Rattle.f2_stored.specs.Layout.{Layout}
use Rattle.f2_stored.specs.Whole.{IsKeptWhole}
use Rattle.f2_call_laws.specs.Calls.{TakesPlace}
use Rattle.f2_call_laws.proofs.Called.{leaves_rest, has_passed, tree_proper}
use Rattle.f2_call_laws.proofs.Dirtied.{DirtiesRight}
use Rattle.f2_call_laws.proofs.OneRow.{unchanged_right}
use Rattle.f2_call_laws.proofs.Filed.{written_right, truncated_right}
use Rattle.f2_call_laws.proofs.Naming.{added_right, emptied_right, unlinked_right, moved_right}

module _ (lists : Contents) (layout : Layout) (state : State) (places : Places) (unwritten : Unwritten) (whole : IsKeptWhole lists layout state places unwritten) where
  abbrev limits : Limits
  limits = image_limits layout.base.ckpt.geom

  nothing_right : DirtiesRight limits state state
  nothing_right =
      unchanged_right limits lists layout state state places unwritten whole (leaves_rest state state.live state.dirty_pages state.dirty_nodes state.moved state.shrunk)
      (λ ino. refl) (λ ino. record { pages = λ number. refl; nodes = λ number. refl }) (λ ino. refl)

  pub call_right : (request : Request) (ino : ℕ) → TakesPlace limits state request ino → DirtiesRight limits state (called state request ino)
  call_right (Create path) ino takes = added_right lists layout state places unwritten whole ino (takes.free refl) Regular path (has_passed lists layout state places unwritten whole (Create path) ino takes).walks
  call_right (Mkdir path) ino takes = added_right lists layout state places unwritten whole ino (takes.free refl) Directory path (has_passed lists layout state places unwritten whole (Mkdir path) ino takes).walks
  call_right (Write path pieces) ino takes =
      let passed = has_passed lists layout state places unwritten whole (Write path pieces) ino takes in
      written_right lists layout state places unwritten whole path pieces ino passed.walks passed.file takes.thawed (tree_proper lists layout state places unwritten whole (Write path pieces) ino takes).good
  call_right (Truncate path size) ino takes =
      let passed = has_passed lists layout state places unwritten whole (Truncate path size) ino takes in
      truncated_right lists layout state places unwritten whole path size ino passed.walks passed.file takes.thawed (tree_proper lists layout state places unwritten whole (Truncate path size) ino takes).good
  call_right (Unlink path) ino takes = unlinked_right lists layout state places unwritten whole path ino (has_passed lists layout state places unwritten whole (Unlink path) ino takes).walks takes.thawed
  call_right (Rmdir path) ino takes = emptied_right lists layout state places unwritten whole path (has_passed lists layout state places unwritten whole (Rmdir path) ino takes).walks
  call_right (Rename from to) ino takes =
      let passed = has_passed lists layout state places unwritten whole (Rename from to) ino takes in
      let walks = none_first (refusal_of (walk state.live from)) _ passed.walks in
      let parent = none_first (refusal_of (walk_parent state.live to)) _ walks.1 in
      moved_right lists layout state places unwritten whole from to ino walks.0 parent.0 takes.thawed
  call_right (Read path off len) ino takes = nothing_right
  call_right (ListNames path) ino takes = nothing_right
  call_right (Fsync path) ino takes = nothing_right
  call_right Sync ino takes = nothing_right
