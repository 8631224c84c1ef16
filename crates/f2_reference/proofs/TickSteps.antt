-- What an event of the flusher comes to, row by row.
use Rattle.std.proofs.Common.{◌≡◌, ℕ, ◌<◌, ◌≤◌, true, false, not, nat_lt, nat_le, is_some, [], ◌∷◌, Some, None, MatchOption, refl, arith, sym, ap, ◌∙◌, inl}
use Rattle.f2_model.specs.State.{State}
use Rattle.f2_model.specs.Step as machine
use Rattle.f2_model.specs.Step.{Turn, calm, StepTick, TicksPage, TicksNode, unchanged, least_thawed, has_data_room, has_node_room}
use Rattle.f2_model.specs.declared.events.Answer.TheVariants.{Ticked}
use Rattle.f2_model.specs.declared.bounds.Limits.{Limits}
use Rattle.f2_model.specs.declared.replies.Tick as tick_type
use Rattle.f2_model.specs.declared.replies.Tick.TheVariants as tick
use Rattle.f2_model.specs.declared.histories.Entry.TheVariants as entry
use Rattle.f2_laws.specs.Choice.{tells_failure}
use Rattle.f2_reference_state.specs.Seen.{Seen, told, after_turn}
use Rattle.f2_reference.specs.Going.{MayTick, TicksTo}
use Rattle.f2_reference.proofs.GoSteps.{on_false, on_true, on_none, on_some, rested}

-- tests of numbers at a known answer
pub is_below : (m n : ℕ) → m < n → nat_lt m n ≡ true
is_below m n lt = grind (arith, lt)

pub is_not_below : (m n : ℕ) → n ≤ m → nat_lt m n ≡ false
is_not_below m n le = grind (arith, le)

pub is_up_to : (m n : ℕ) → m ≤ n → nat_le m n ≡ true
is_up_to m n le = grind (arith, le)

pub is_past : (m n : ℕ) → n < m → nat_le m n ≡ false
is_past m n lt = grind (arith, lt)

-- an event of the flusher with this answer that tells no failure
ticked : (old new : Seen) (told_tick : tick_type.Tick) (turn : Turn) → StepTick old.limits calm old.state turn → turn.answer ≡ Ticked told_tick → tells_failure (Ticked told_tick) ≡ false
    → new ≡ after_turn old turn → TicksTo old new told_tick
ticked old new told_tick turn row is calmly after choices = record {
  turn = turn;
  step = row;
  faultless = ap tells_failure is ∙ calmly;
  chosen = tt;
  told = is;
  after = after;
}

-- one that changes nothing
idle : (old : Seen) (told_tick : tick_type.Tick) → StepTick old.limits calm old.state (unchanged old.state (Ticked told_tick)) → tells_failure (Ticked told_tick) ≡ false → TicksTo old old told_tick
idle old told_tick row calmly = ticked old old told_tick (unchanged old.state (Ticked told_tick)) row refl calmly (sym (rested old old.state (Ticked told_tick)))

-- what is left to decide where the flusher may look for a block
past : (limits : Limits) (state : State) (turn : Turn) → MayTick state
    → MatchOption (least_thawed state state.dirty_pages)
    (MatchOption (least_thawed state state.dirty_nodes) (turn ≡ unchanged state (Ticked tick.Busy)) (λ node. TicksNode limits calm state node turn))
    (λ page. TicksPage limits calm state page turn)
    → StepTick limits calm state turn
past limits state turn may rest =
    on_false (not (machine.is_up state.mode)) _ _ (ap not may.up)
    (on_false (nat_le machine.MOST_ENTRIES state.entries) _ _ may.early
    (on_false (is_some (machine.checking_seat state)) _ _ may.alone
    (on_false (machine.is_clean state) _ _ may.dirty rest)))

module _ (old : Seen) where
  pub closed-TicksTo : not (machine.is_up old.state.mode) ≡ true → TicksTo old old tick.Closed
  closed-TicksTo closed = idle old tick.Closed (on_true (not (machine.is_up old.state.mode)) _ _ closed refl) refl

  module _ (up : not (machine.is_up old.state.mode) ≡ false) where
    pub spent-TicksTo : nat_le machine.MOST_ENTRIES old.state.entries ≡ true → TicksTo old old tick.Spent
    spent-TicksTo late = idle old tick.Spent (on_false (not (machine.is_up old.state.mode)) _ _ up (on_true (nat_le machine.MOST_ENTRIES old.state.entries) _ _ late refl)) refl

    module _ (early : nat_le machine.MOST_ENTRIES old.state.entries ≡ false) where
      pub checked-TicksTo : is_some (machine.checking_seat old.state) ≡ true → TicksTo old old tick.Busy
      checked-TicksTo checked = idle old tick.Busy
          (on_false (not (machine.is_up old.state.mode)) _ _ up
          (on_false (nat_le machine.MOST_ENTRIES old.state.entries) _ _ early
          (on_true (is_some (machine.checking_seat old.state)) _ _ checked refl))) refl

      pub clean-TicksTo : is_some (machine.checking_seat old.state) ≡ false → machine.is_clean old.state ≡ true → TicksTo old old tick.Idle
      clean-TicksTo alone clean = idle old tick.Idle
          (on_false (not (machine.is_up old.state.mode)) _ _ up
          (on_false (nat_le machine.MOST_ENTRIES old.state.entries) _ _ early
          (on_false (is_some (machine.checking_seat old.state)) _ _ alone
          (on_true (machine.is_clean old.state) _ _ clean refl)))) refl

module _ (old : Seen) (may : MayTick old.state) where
  pub frozen-TicksTo : least_thawed old.state old.state.dirty_pages ≡ None → least_thawed old.state old.state.dirty_nodes ≡ None → TicksTo old old tick.Busy
  frozen-TicksTo no_page no_node = idle old tick.Busy
      (past old.limits old.state _ may (on_none (least_thawed old.state old.state.dirty_pages) _ _ no_page (on_none (least_thawed old.state old.state.dirty_nodes) _ _ no_node refl))) refl

  module _ (page : ℕ × ℕ) (least : least_thawed old.state old.state.dirty_pages ≡ Some page) where
    pub page-TicksTo : (new : Seen) → has_data_room old.limits old.state ≡ true
        → new ≡ told old (entry.WrotePage page.0 page.1 ∷ []) [] (machine.page_written old.state page.0 page.1) → TicksTo old new tick.Data
    page-TicksTo new room after = ticked old new tick.Data _
        (past old.limits old.state _ may (on_some (least_thawed old.state old.state.dirty_pages) _ _ page least (on_true (has_data_room old.limits old.state) _ _ room (inl refl)))) refl refl after

    pub full_of_pages-TicksTo : has_data_room old.limits old.state ≡ false → TicksTo old old tick.Room
    full_of_pages-TicksTo full = idle old tick.Room
        (past old.limits old.state _ may (on_some (least_thawed old.state old.state.dirty_pages) _ _ page least (on_false (has_data_room old.limits old.state) _ _ full refl))) refl

  module _ (node : ℕ × ℕ) (no_page : least_thawed old.state old.state.dirty_pages ≡ None) (least : least_thawed old.state old.state.dirty_nodes ≡ Some node) where
    pub node-TicksTo : (new : Seen) → has_node_room old.limits old.state ≡ true
        → new ≡ told old (entry.WroteNode node.0 node.1 ∷ []) [] (machine.node_logged old.state node.0 node.1) → TicksTo old new tick.Node
    node-TicksTo new room after = ticked old new tick.Node _
        (past old.limits old.state _ may (on_none (least_thawed old.state old.state.dirty_pages) _ _ no_page
        (on_some (least_thawed old.state old.state.dirty_nodes) _ _ node least (on_true (has_node_room old.limits old.state) _ _ room (inl refl))))) refl refl after

    pub full_of_nodes-TicksTo : has_node_room old.limits old.state ≡ false → TicksTo old old tick.Room
    full_of_nodes-TicksTo full = idle old tick.Room
        (past old.limits old.state _ may (on_none (least_thawed old.state old.state.dirty_pages) _ _ no_page
        (on_some (least_thawed old.state old.state.dirty_nodes) _ _ node least (on_false (has_node_room old.limits old.state) _ _ full refl)))) refl
