-- The text that is printed for an event, without the end of its line.
use Rattle.std.specs.Prelude.{ℕ, List, ◌∷◌, ◌++◌, codes, decimal}
use Rattle.f2_model.specs.declared.replies.Plan.{Plan}
use Rattle.f2_model.specs.declared.replies.Plan.TheVariants as plan
use Rattle.f2_model.specs.declared.replies.Begun.{Begun}
use Rattle.f2_model.specs.declared.replies.Begun.TheVariants as begun
use Rattle.f2_model.specs.declared.replies.Step.{Step}
use Rattle.f2_model.specs.declared.replies.Step.TheVariants as step
use Rattle.f2_model.specs.declared.replies.Tick.{Tick}
use Rattle.f2_model.specs.declared.replies.Tick.TheVariants as tick
use Rattle.f2_script.specs.Replies.{reason_word, reply_spelling}

-- a call that began and goes on
abbrev pub plan_spelling : Plan → List ℕ
plan_spelling plan.Roll = codes "begun roll"
plan_spelling (plan.Cp reason) = codes "begun cp " ++ reason_word reason
plan_spelling plan.Sync = codes "begun sync"

-- a call that began: it goes on, or it has its reply
abbrev pub begun_spelling : Begun → List ℕ
begun_spelling (begun.Replied reply) = reply_spelling reply
begun_spelling (begun.Going plan) = plan_spelling plan

-- one event of a call in flight
abbrev pub step_spelling : Step → List ℕ
step_spelling step.None = codes "none"
step_spelling (step.Page page) = codes "page " ++ decimal page
step_spelling step.Flushed = codes "flushed"
step_spelling (step.Node offset) = codes "node " ++ decimal offset
step_spelling step.Mark = codes "mark"
step_spelling step.Block = codes "block"
step_spelling step.Tail = codes "tail"
step_spelling (step.Slot position) = codes "slot " ++ decimal position
step_spelling (step.Again position) = codes "again " ++ decimal position
step_spelling (step.Replied reply) = reply_spelling reply

-- one step of the flusher
abbrev pub tick_spelling : Tick → List ℕ
tick_spelling tick.Data = codes "data"
tick_spelling tick.Node = codes "node"
tick_spelling tick.Idle = codes "idle"
tick_spelling tick.Room = codes "room"
tick_spelling tick.Busy = codes "busy"
tick_spelling tick.Closed = codes "closed"
tick_spelling tick.Spent = codes "spent"
tick_spelling tick.WriteFault = codes "writefault"

-- an image that was made, with the thirds of its two zones
abbrev pub made_spelling : ℕ → ℕ → List ℕ
made_spelling nodes data_blocks = codes "ok mkfs " ++ decimal nodes ++ 32 ∷ decimal data_blocks

-- a mount, with the rows that were rolled forward; one of a volume that is open; and an unmount
abbrev pub found_spelling : ℕ → List ℕ
found_spelling rows = codes "ok mount " ++ decimal rows

abbrev pub mounted_spelling : List ℕ
mounted_spelling = codes "mounted"

abbrev pub unmounted_spelling : List ℕ
unmounted_spelling = codes "ok unmount"

-- generated calls, with the replies that begin with `ok` and the others
abbrev pub counted_spelling : ℕ → ℕ → ℕ → List ℕ
counted_spelling count ok refused = codes "gen " ++ decimal count ++ 32 ∷ decimal ok ++ 32 ∷ decimal refused
