-- The state of the abstract machine, how a crash leaves it, and what a call makes dirty.
use Rattle.std.specs.Prelude.{◌≡◌, ℕ, ◌+◌, ◌/◌, ◌%◌, ◌<◌, ◌≤◌, Bool, false, not, ◌&&◌, nat_lt, if◌then◌else◌, ◌==◌, ◌⊎◌, List, [], ◌∷◌, ◌++◌, take, length}
use Rattle.std.specs.Prelude.{Option, Some, None, Result, Ok, Err}
use Rattle.std.specs.List.{list_any, filter, filter_map, fold, flat_map}
use Rattle.std.specs.Ordering.{nat_cmp, on, then_cmp}
use Rattle.std.specs.declared.cmp.Ordering.{Ordering}
use Rattle.std.specs.FinMap as map
use Rattle.std.specs.FinSet as set
use Rattle.f2_format.specs.Offsets.{direct_of}
use Rattle.f2_model.specs.Content.{PAGE, begins_before, pages_of_piece}
use Rattle.f2_model.specs.Tree.{Rows, walk}
use Rattle.f2_model.specs.Call.{Limits}
use Rattle.f2_model.specs.declared.rows.Row.{Row}
use Rattle.f2_model.specs.declared.modes.Format.{Format}
use Rattle.f2_model.specs.declared.modes.Format.TheVariants.{One, Two}
use Rattle.f2_model.specs.declared.modes.Mode.{Mode}
use Rattle.f2_model.specs.declared.modes.Mode.TheVariants.{Shut}
use Rattle.f2_model.specs.declared.requests.Request.{Request}
use Rattle.f2_model.specs.declared.requests.Request.TheVariants.{Write, Truncate, Unlink, Rename}
use Rattle.f2_model.specs.declared.replies.Plan.{Plan}
use Rattle.f2_model.specs.declared.replies.Reply.{Reply}

-- a file as it was when an fsync of it wrote its marked inode
pub record Mark : Type 0 where
  pub ino : ℕ
  pub row : Row

-- the number of a format, as a choice tells it
abbrev pub number_of : Format → ℕ
number_of One = 1
number_of Two = 2

-- what an image is left as: a base with the rows that were marked since, the image's format, and its checkpoint's version
pub record Meaning : Type 0 where
  pub base : Rows
  pub marks : List Mark
  pub format : Format
  pub version : ℕ

-- what an fsync has still to write: pages, then nodes, then nothing but its last flush
pub data Part : Type 0 where
  InPages : Part
  InNodes : Part
  Marked : Part

-- what is to be written at a position of the node log that was drawn: a direct node of the file, or its marked inode
pub data Drawn : Type 0 where
  DrawnNode : ℕ → Drawn
  DrawnMark : Drawn

-- a position of the node log that was drawn and isn't written yet
pub record Slot : Type 0 where
  pub position : ℕ
  pub drawn : Drawn

-- what an fsync has done so far
pub record Progress : Type 0 where
  pub part : Part
  -- the place of its mark among the marks, and its position in the node log, once they are drawn
  pub place : ℕ
  pub position : ℕ
  -- its open position: one that was drawn and whose block isn't written
  pub slot : Option Slot

-- the progress of an fsync that begins, of one that flushed its pages, and of one that drew its mark
abbrev pub fresh_progress : Progress
fresh_progress = record { part = InPages; place = 0; position = 0; slot = None }

abbrev pub in_nodes : Option Slot → Progress
in_nodes slot = record { part = InNodes; place = 0; position = 0; slot = slot }

abbrev pub marked_at : ℕ → ℕ → Option Slot → Progress
marked_at place position slot = record { part = Marked; place = place; position = position; slot = slot }

-- a call in flight: an fsync of a file, or a checkpoint
pub data Flight : Type 0 where
  InFsync : ℕ → Progress → Flight
  InCheck : Plan → Flight

-- pairs of an ino and a page, or of an ino and the offset of a node, by the ino first
abbrev pub pair_cmp : ℕ × ℕ → ℕ × ℕ → Ordering
pair_cmp = then_cmp (on (λ pair. pair.0) nat_cmp) (on (λ pair. pair.1) nat_cmp)

abbrev pub Pairs : Type 0
Pairs = set.FinSet pair_cmp

abbrev pub Inos : Type 0
Inos = set.FinSet nat_cmp

-- the state of a volume as its callers know it
pub record State : Type 0 where
  -- the tree that calls see, and the tree of the last checkpoint
  pub live : Rows
  pub base : Rows
  -- the rows fsynced since then, in the order of their marks, and the place after the last acknowledged one
  pub marks : List Mark
  pub acknowledged : ℕ
  -- the tree of a checkpoint whose tail was written
  pub pending : Option Rows
  -- the format and the version of the base's checkpoint, and the format that the checkpoint in flight writes
  pub format : Format
  pub version : ℕ
  pub next_format : Format
  pub mode : Mode
  -- the seats with a call in flight
  pub flights : map.FinMap nat_cmp Flight
  -- pages and direct nodes of files that a call touched since their last write
  pub dirty_pages : Pairs
  pub dirty_nodes : Pairs
  -- files that a rename moved, or of which a truncate emptied a direct node, since the base
  pub moved : Inos
  pub shrunk : Inos
  -- files with a node block in the node log since the base, and the blocks written since then to each zone
  pub logged : Inos
  pub node_writes : ℕ
  pub data_writes : ℕ
  -- the length of the history
  pub entries : ℕ

-- a base with marked rows put in place under their inos, in order (recover_data of fs/f2fs/recovery.c)
abbrev pub rolled : Rows → List Mark → Rows
rolled base [] = base
rolled base (mark ∷ marks) = rolled (map.insert base mark.ino mark.row) marks

-- the state in which nothing is known but what a mount will find
abbrev pub initial : Meaning → State
initial meaning = record {
  live = rolled meaning.base meaning.marks;
  base = meaning.base;
  marks = meaning.marks;
  acknowledged = length meaning.marks;
  pending = None;
  format = meaning.format;
  version = meaning.version;
  next_format = meaning.format;
  mode = Shut;
  flights = map.empty;
  dirty_pages = set.empty;
  dirty_nodes = set.empty;
  moved = set.empty;
  shrunk = set.empty;
  logged = set.empty;
  node_writes = 0;
  data_writes = 0;
  entries = 0;
}

-- the base with the marks up to a place, and the tree of a checkpoint whose tail was written
abbrev pub base_up_to : State → ℕ → Meaning
base_up_to state place = record { base = state.base; marks = take place state.marks; format = state.format; version = state.version }

abbrev pub pending_with : State → Rows → Meaning
pending_with state tree = record { base = tree; marks = []; format = state.next_format; version = state.version + 1 }

-- what a crash may leave of a state: the base with the marks up to any place from the last acknowledged on, or a pending tree
abbrev pub MayRemain : State → Meaning → Type 0
MayRemain state meaning =
    ((place : ℕ) × (state.acknowledged ≤ place) × (place ≤ length state.marks) × (meaning ≡ base_up_to state place))
    ⊎ ((tree : Rows) × (state.pending ≡ Some tree) × (meaning ≡ pending_with state tree))

-- the inos that a new row may get: a number of a node that neither a row of the tree or the base has, nor a node of the node log
pub record IsFreeIno (limits : Limits) (state : State) (ino : ℕ) : Type 0 where
  pub above : 4 ≤ ino
  pub below : ino < limits.nids
  pub no_row : map.get state.live ino ≡ None
  pub no_base_row : map.get state.base ino ≡ None
  pub not_logged : set.contains state.logged ino ≡ false

-- the direct nodes that pages stand in
abbrev pub directs_of : List ℕ → List ℕ
directs_of pages = filter_map direct_of pages

-- whether a file has a page in a direct node
abbrev pub has_direct : Row → ℕ → Bool
has_direct row offset = list_any (λ other. other == offset) (directs_of (map.keys row.pages))

-- the pages that a call touches: those that a write's pieces reach, and the one that a smaller size cuts
abbrev pub touched : Row → Request → List ℕ
touched row (Write path pieces) = flat_map pages_of_piece pieces
touched row (Truncate path size) =
    if nat_lt size row.size && not (size % PAGE == 0) && map.contains_key row.pages (size / PAGE) then (size / PAGE) ∷ [] else []
touched row _ = []

-- the pages that a call removes: those that begin at a smaller size or past it
abbrev pub removed : Row → Request → List ℕ
removed row (Truncate path size) = filter (λ page. not (begins_before size page)) (map.keys row.pages)
removed row _ = []

-- pairs of one ino put into a set, and taken out of it
abbrev pub with_pairs : ℕ → Pairs → List ℕ → Pairs
with_pairs ino pairs numbers = fold (λ left number. set.insert left (ino, number)) pairs numbers

abbrev pub without_pairs : ℕ → Pairs → List ℕ → Pairs
without_pairs ino pairs numbers = fold (λ left number. set.remove left (ino, number)) pairs numbers

abbrev pub without_ino : ℕ → Pairs → Pairs
without_ino ino pairs = set.retain pairs (λ pair. not (pair.0 == ino))

-- a state after a call changed a file's row: what the call touched is dirty, what it removed isn't, and a node that lost a page is dirty as long as it keeps one
abbrev pub dirtied : State → Row → Row → List ℕ → List ℕ → State
dirtied state before after now_touched now_removed =
    let ino = before.ino in
    let lost = directs_of now_removed in
    record state {
      dirty_pages = with_pairs ino (without_pairs ino state.dirty_pages now_removed) now_touched;
      dirty_nodes = with_pairs ino (without_pairs ino state.dirty_nodes lost) (filter (has_direct after) lost ++ directs_of now_touched);
      shrunk = if list_any (λ offset. not (has_direct after offset)) lost then set.insert state.shrunk ino else state.shrunk;
    }

-- a state that follows from the rows at the end of a walk in the trees before and after a call, and the state itself where one isn't there
abbrev pub from_both_rows : State → Result Row Reply → Result Row Reply → (Row → Row → State) → State
from_both_rows state (Ok before) (Ok after) next = next before after
from_both_rows state (Ok before) (Err refusal) next = state
from_both_rows state (Err refusal) after next = state

abbrev pub from_row : State → Result Row Reply → (Row → State) → State
from_row state (Ok row) next = next row
from_row state (Err refusal) next = state

-- what a call of one event that took effect changes beside the tree, where the tree after it is given
abbrev pub marked_dirty : State → Request → Rows → State
marked_dirty state (Write path pieces) after =
    from_both_rows state (walk state.live path) (walk after path) (λ old new. dirtied state old new (touched old (Write path pieces)) (removed old (Write path pieces)))
marked_dirty state (Truncate path size) after =
    from_both_rows state (walk state.live path) (walk after path) (λ old new. dirtied state old new (touched old (Truncate path size)) (removed old (Truncate path size)))
marked_dirty state (Unlink path) after =
    from_row state (walk state.live path) (λ row. record state { dirty_pages = without_ino row.ino state.dirty_pages; dirty_nodes = without_ino row.ino state.dirty_nodes })
marked_dirty state (Rename from to) after =
    from_row state (walk state.live from) (λ row. record state { moved = set.insert state.moved row.ino })
marked_dirty state _ after = state
