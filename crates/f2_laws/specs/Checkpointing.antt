-- How a checkpoint's tree comes to be pending, and what its end leaves.
use Rattle.std.specs.Prelude.{◌≡◌, ◌+◌, ◌⊎◌, Bool, true, false, IsTrue, [], Some, None}
use Rattle.std.specs.List.{list_any}
use Rattle.std.specs.FinSet as set
use Rattle.f2_model.specs.declared.bounds.Limits.{Limits}
use Rattle.f2_model.specs.State.{State}
use Rattle.f2_model.specs.Step.{Faults, Turn, Step}
use Rattle.f2_model.specs.declared.events.Event.{Event}
use Rattle.f2_model.specs.declared.histories.Entry.{Entry}
use Rattle.f2_model.specs.declared.histories.Entry.TheVariants.{CpTail}
use Rattle.f2_laws.specs.Survival.{is_checkpoint_done, is_mounted}

-- an entry that tells that a checkpoint wrote its tail
abbrev pub is_tail : Entry → Bool
is_tail (CpTail seat) = true
is_tail _ = false

-- a tree comes to be pending: none was, the tail was written, and it is the tree that calls saw
pub record ComesPending (before : State) (turn : Turn) : Type 0 where
  pub none : before.pending ≡ None
  pub tail : IsTrue (list_any is_tail turn.entries)
  pub tree : turn.after.pending ≡ Some before.live

-- a pending tree is so no more: a checkpoint is done, or a mount found a tree
pub record GoesPending (turn : Turn) : Type 0 where
  pub ends : IsTrue (list_any is_checkpoint_done turn.entries) ⊎ IsTrue (list_any is_mounted turn.entries)
  pub none : turn.after.pending ≡ None

-- a tree comes to be pending by a checkpoint's tail alone, and goes by its end or a mount alone; a checkpoint that left its tree pending
-- with an earlier block, and a tail that left another tree, would break it
abbrev pub TailsAlonePend : Type 0
TailsAlonePend =
    (limits : Limits) (faults : Faults) (state : State) (event : Event) (turn : Turn) →
    Step limits faults state event turn →
    (turn.after.pending ≡ state.pending) ⊎ ComesPending state turn ⊎ GoesPending turn

-- all that was written since the base is in a new one
pub record IsWhole (before after : State) : Type 0 where
  pub base : after.base ≡ before.live
  pub live : after.live ≡ before.live
  pub format : after.format ≡ before.next_format
  pub version : after.version ≡ before.version + 1
  pub marks : after.marks ≡ []
  pub acknowledged : after.acknowledged ≡ 0
  pub pending : after.pending ≡ None
  pub dirty_pages : after.dirty_pages ≡ set.empty
  pub dirty_nodes : after.dirty_nodes ≡ set.empty
  pub moved : after.moved ≡ set.empty
  pub shrunk : after.shrunk ≡ set.empty
  pub logged : after.logged ≡ set.empty
  pub node_writes : after.node_writes ≡ 0
  pub data_writes : after.data_writes ≡ 0

-- the end of a checkpoint makes the tree that calls see the base, in the checkpoint's format and the next version, with nothing written
-- since; one that kept a mark, or a file's node in the log, would break it
abbrev pub CheckpointsAreWhole : Type 0
CheckpointsAreWhole =
    (limits : Limits) (faults : Faults) (state : State) (event : Event) (turn : Turn) →
    Step limits faults state event turn →
    IsTrue (list_any is_checkpoint_done turn.entries) →
    IsWhole state turn.after
