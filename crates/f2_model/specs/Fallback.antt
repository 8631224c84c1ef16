-- When an fsync makes a checkpoint in place of rolling forward, and the room that it is measured against
-- (f2fs_do_sync_file and need_do_checkpoint of fs/f2fs/file.c).
use Rattle.std.specs.Prelude.{ℕ, ◌+◌, max, Bool, not, ◌&&◌, ◌||◌, nat_lt, ◌==◌, List, [], ◌∷◌, ◌++◌, map as map_list}
use Rattle.std.specs.Prelude.{Option, Some, None}
use Rattle.std.specs.Bool.{then_some}
use Rattle.std.specs.List.{list_any, filter, filter_map, fold, count_by, range_with_len}
use Rattle.std.specs.Ordering.{nat_cmp}
use Rattle.std.specs.FinMap as map
use Rattle.std.specs.FinSet as set
use Rattle.f2_model.specs.Lists.{first_some}
use Rattle.f2_model.specs.Rising.{rising}
use Rattle.f2_format.specs.Offsets.{node_count}
use Rattle.f2_model.specs.Tree.{Rows, is_directory, stands_at, names_of}
use Rattle.f2_model.specs.Count.{dentry_blocks, nodes_of_row, data_of_row}
use Rattle.f2_model.specs.Call.{Limits}
use Rattle.f2_model.specs.State.{State, Flight, InFsync, InCheck, Part, Marked, Pairs}
use Rattle.f2_model.specs.declared.rows.Row.{Row}
use Rattle.f2_model.specs.declared.replies.Reason.{Reason}
use Rattle.f2_model.specs.declared.replies.Reason.TheVariants.{NonRegular, Renamed, ParentNew, NameTaken, Shrunk, Room}

-- a number for each zone
pub record Both : Type 0 where
  pub nodes : ℕ
  pub pages : ℕ

abbrev pub sum_of : Both → Both → Both
sum_of a b = record { nodes = a.nodes + b.nodes; pages = a.pages + b.pages }

abbrev pub greater_of : Both → Both → Both
greater_of a b = record { nodes = max a.nodes b.nodes; pages = max a.pages b.pages }

abbrev pub nothing : Both
nothing = record { nodes = 0; pages = 0 }

-- how many pairs of a set an ino has
abbrev pub pairs_of : ℕ → Pairs → ℕ
pairs_of ino pairs = count_by (λ pair. pair.0 == ino) (rising pairs)

-- what one more fsync of a file has to write: its dirty pages, and its dirty direct nodes and the inode
abbrev pub needed : State → ℕ → Both
needed state ino = record { nodes = pairs_of ino state.dirty_nodes + 1; pages = pairs_of ino state.dirty_pages }

-- what a call in flight has still to write: a marked fsync has drawn its inode's position, and a checkpoint's blocks aren't the node log's
abbrev pub owed_by_part : State → ℕ → Part → Both
owed_by_part state ino Marked = record { nodes = pairs_of ino state.dirty_nodes; pages = pairs_of ino state.dirty_pages }
owed_by_part state ino _ = needed state ino

abbrev pub owed_by : State → Flight → Both
owed_by state (InFsync ino progress) = owed_by_part state ino progress.part
owed_by state (InCheck plan) = nothing

abbrev pub owed : State → Both
owed state = fold (λ total flight. sum_of total (owed_by state flight)) nothing (map.values state.flights)

-- the inos that fsyncs in flight hold
abbrev pub frozen_ino : Flight → Option ℕ
frozen_ino (InFsync ino progress) = Some ino
frozen_ino (InCheck plan) = None

abbrev pub frozen_inos : State → List ℕ
frozen_inos state = filter_map frozen_ino (map.values state.flights)

-- the rows that a recovery may put together: those of the base, of the marks, of the fsyncs in flight, and of one file more
abbrev pub recoverable : State → ℕ → List Row
recoverable state ino =
    map.values state.base ++ map_list (λ mark. mark.row) state.marks ++ filter_map (map.get state.live) (frozen_inos state ++ ino ∷ [])

-- the greatest node count and the greatest page count of the rows of a file, each by itself
abbrev pub greatest_of : List Row → ℕ → Both
greatest_of rows ino =
    fold (λ most row. greater_of most (record { nodes = nodes_of_row rows row; pages = data_of_row rows row })) nothing (filter (λ row. row.ino == ino) rows)

-- the inos of the regular files among rows
abbrev pub regular_inos : List Row → List ℕ
regular_inos rows = rising {R = nat_cmp} (set.from_list (map_list (λ row. row.ino) (filter (λ row. not (is_directory row.kind)) rows)))

-- what a directory takes with the names that rows have in it
abbrev pub of_directory : List Row → ℕ → Both
of_directory rows directory = record { nodes = node_count (range_with_len 0 (dentry_blocks rows directory)); pages = dentry_blocks rows directory }

-- the inos of the directories of a tree
abbrev pub directory_inos : Rows → List ℕ
directory_inos tree = map_list (λ row. row.ino) (filter (λ row. is_directory row.kind) (map.values tree))

-- the most that a tree which recovery may find takes, were one file fsynced more
abbrev pub held : State → ℕ → Both
held state ino =
    let rows = recoverable state ino in
    sum_of (fold (λ total file. sum_of total (greatest_of rows file)) nothing (regular_inos rows))
    (fold (λ total directory. sum_of total (of_directory rows directory)) nothing (directory_inos state.base))

-- whether another file of the base or of a mark has the row's name
abbrev pub is_name_taken : State → Row → Bool
is_name_taken state row =
    list_any (λ other. not (other.ino == row.ino) && list_any (λ at. stands_at at.0 at.1 other) (names_of row))
    (map.values state.base ++ map_list (λ mark. mark.row) state.marks)

-- whether a zone lacks room: for what is to be written since the base, or for what recovery may find
abbrev pub lacks_room : Limits → State → ℕ → Bool
lacks_room limits state ino =
    let writes = sum_of (sum_of (record { nodes = state.node_writes; pages = state.data_writes }) (owed state)) (needed state ino) in
    nat_lt limits.nodes writes.nodes || nat_lt limits.data_blocks writes.pages
    || nat_lt limits.nodes (held state ino).nodes || nat_lt limits.data_blocks (held state ino).pages

-- why an fsync of a row makes a checkpoint, or nothing where it rolls forward
abbrev pub fallback : Limits → State → Row → Option Reason
fallback limits state row = first_some (
    then_some (is_directory row.kind) NonRegular
    ∷ then_some (set.contains state.moved row.ino) Renamed
    ∷ then_some (not (map.contains_key state.base row.parent)) ParentNew
    ∷ then_some (is_name_taken state row) NameTaken
    ∷ then_some (set.contains state.shrunk row.ino) Shrunk
    ∷ then_some (lacks_room limits state row.ino) Room
    ∷ [])
