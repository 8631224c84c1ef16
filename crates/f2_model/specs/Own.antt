-- What a history tells of one seat, and how many events a call takes.
use Rattle.std.specs.Prelude.{ℕ, ◌+◌, Bool, true, false, if◌then◌else◌, ◌==◌, List, [], ◌∷◌, Option, Some, None}
use Rattle.std.specs.Bool.{then_some}
use Rattle.std.specs.List.{count_by}
use Rattle.f2_model.specs.Tree.{Rows}
use Rattle.f2_model.specs.Count.{nodes_of_tree, data_of_tree}
use Rattle.f2_model.specs.declared.requests.Request.{Request}
use Rattle.f2_model.specs.declared.histories.Entry.{Entry}
use Rattle.f2_model.specs.declared.histories.Entry.TheVariants.{Begin, Did, Ack, CpBegin, CpDone, Fault}
use Rattle.f2_model.specs.declared.replies.Outcome.{Outcome}
use Rattle.f2_model.specs.declared.replies.Outcome.TheVariants as outcome
use Rattle.f2_model.specs.declared.replies.Plan.{Plan}
use Rattle.f2_model.specs.declared.replies.Plan.TheVariants as plan

-- a call of a seat: what was asked, and its reply, if there is one; what a read or a list told beside it is determined by the
-- tree that the history before it leaves
pub record OwnCall : Type 0 where
  pub request : Request
  pub reply : Option Outcome

-- whether an entry begins a call of a seat
abbrev pub begins_call : ℕ → Entry → Bool
begins_call seat (Begin by request) = by == seat
begins_call seat (Did by request outcome) = by == seat
begins_call seat _ = false

-- the plan of a seat's checkpoint, once it begins
abbrev pub plan_from : ℕ → Plan → Entry → Plan
plan_from seat before (CpBegin by plan) = if by == seat then plan else before
plan_from seat before _ = before

-- the reply of a checkpoint by its plan
abbrev pub outcome_of_plan : Plan → Outcome
outcome_of_plan (plan.Cp reason) = outcome.Cp reason
outcome_of_plan _ = outcome.Synced

-- the reply that an entry tells of a seat's call of several events
abbrev pub reply_told : ℕ → Plan → Entry → Option Outcome
reply_told seat plan (Ack by ino) = then_some (by == seat) outcome.Roll
reply_told seat plan (CpDone by) = then_some (by == seat) (outcome_of_plan plan)
reply_told seat plan (Fault by kind count) = then_some (by == seat) outcome.WriteFault
reply_told seat plan _ = None

-- the reply of a seat's call in flight, and none where another call of the seat begins first
abbrev pub or_later : Option Outcome → Option Outcome → Option Outcome
or_later None later = later
or_later (Some told) later = Some told

abbrev pub reply_in : ℕ → Plan → List Entry → Option Outcome
reply_in seat plan [] = None
reply_in seat plan (one ∷ rest) =
    if begins_call seat one then None else or_later (reply_told seat plan one) (reply_in seat (plan_from seat plan one) rest)

-- the calls of a seat, in the order in which they began
abbrev pub own_calls : ℕ → List Entry → List OwnCall
own_calls seat [] = []
own_calls seat (Did by request outcome ∷ rest) =
    if by == seat then record { request = request; reply = Some outcome } ∷ own_calls seat rest else own_calls seat rest
own_calls seat (Begin by request ∷ rest) =
    if by == seat then record { request = request; reply = reply_in seat plan.Roll rest } ∷ own_calls seat rest else own_calls seat rest
own_calls seat (_ ∷ rest) = own_calls seat rest

-- how many fsyncs a history acknowledged by the node log
abbrev pub is_ack : Entry → Bool
is_ack (Ack seat ino) = true
is_ack _ = false

abbrev pub acks_of : List Entry → ℕ
acks_of entries = count_by is_ack entries

-- the events of an fsync that has so many dirty pages and nodes when it begins, but for those that draw a position of the node log or wait for one: the Begin, the writes, two flushes and the mark
abbrev pub steps_of_fsync : ℕ → ℕ → ℕ
steps_of_fsync pages nodes = pages + nodes + 4

-- the most events of a checkpoint: the tree's blocks and nodes, a copy of the node address table of so many blocks, and 8 more
abbrev pub most_steps_of_checkpoint : Rows → ℕ → ℕ
most_steps_of_checkpoint tree nat = data_of_tree tree + nodes_of_tree tree + nat + 8
