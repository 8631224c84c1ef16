-- What a call does to a tree: the first refusal that holds, or else the reply and the tree after it.
use Rattle.std.specs.Prelude.{ℕ, zero, suc, ◌+◌, min, Bool, false, not, ◌&&◌, ◌||◌, nat_lt, if◌then◌else◌, ◌==◌, List, [], ◌∷◌, length, is_ok}
use Rattle.std.specs.Prelude.{Option, Some, None, Result, Ok, Err}
use Rattle.std.specs.Bool.{then_some}
use Rattle.std.specs.List.{list_any, starts_with}
use Rattle.std.specs.FinMap as map
use Rattle.f2_model.specs.Rising.{rising}
use Rattle.f2_model.specs.Lists.{first_some}
use Rattle.f2_model.specs.Names.{same_name, is_good_path}
use Rattle.f2_model.specs.Content.{bytes_between, put_pieces, raised_size, cut_pages, end_of}
use Rattle.f2_model.specs.Tree.{Rows, MOST_DEPTH, is_directory, is_in, walk, parent_path, last_name, names_in}
use Rattle.f2_model.specs.Count.{nodes_of_tree, data_of_tree}
pub use Rattle.f2_model.specs.declared.bounds.Limits.{Limits}
use Rattle.f2_model.specs.declared.rows.Row.{Row}
use Rattle.f2_model.specs.declared.rows.Kind.{Kind}
use Rattle.f2_model.specs.declared.rows.Kind.TheVariants.{Regular, Directory}
use Rattle.f2_model.specs.declared.requests.Request.{Request}
use Rattle.f2_model.specs.declared.requests.Request.TheVariants.{Create, Mkdir, Write, Truncate, Unlink, Rmdir, Rename, Read, List as ListNames, Fsync, Sync}
use Rattle.f2_model.specs.declared.replies.Space.TheVariants.{Node, Data}
use Rattle.f2_model.specs.declared.replies.Reply.{Reply}
use Rattle.f2_model.specs.declared.replies.Reply.TheVariants.{Done, Bytes, Names, BadName, NotDir, IsDir, Exists, NotEmpty, TooBig, NoSpace}

-- the refusal of a walk
abbrev pub refusal_of : Result Row Reply → Option Reply
refusal_of (Ok row) = None
refusal_of (Err refusal) = Some refusal

-- a walk that has to end at a directory
abbrev pub to_directory : Result Row Reply → Result Row Reply
to_directory (Ok row) = if is_directory row.kind then Ok row else Err NotDir
to_directory (Err refusal) = Err refusal

-- the directory in which a path's last name stands, or would stand
abbrev pub walk_parent : Rows → List (List ℕ) → Result Row Reply
walk_parent tree path = to_directory (walk tree (parent_path path))

-- whether a path goes on below another one
abbrev pub goes_below : List (List ℕ) → List (List ℕ) → Bool
goes_below path top = starts_with same_name path top && nat_lt (length top) (length path)

abbrev pub is_root_path : List (List ℕ) → Bool
is_root_path path = length path == 0

-- whether a path of the call is none that it could have: a bad name or too many, the root where it can't stand, a move below itself
abbrev pub has_bad_name : Request → Bool
has_bad_name (Create path) = not (is_good_path path)
has_bad_name (Mkdir path) = not (is_good_path path)
has_bad_name (Write path pieces) = not (is_good_path path)
has_bad_name (Truncate path size) = not (is_good_path path)
has_bad_name (Unlink path) = not (is_good_path path)
has_bad_name (Rmdir path) = not (is_good_path path) || is_root_path path
has_bad_name (Rename from to) = not (is_good_path from) || not (is_good_path to) || is_root_path from || goes_below to from
has_bad_name (Read path off len) = not (is_good_path path)
has_bad_name (ListNames path) = not (is_good_path path)
has_bad_name (Fsync path) = not (is_good_path path)
has_bad_name Sync = false

-- where the walks of a call stop: the first path is walked before the second
abbrev pub walk_refusal : Rows → Request → Option Reply
walk_refusal tree (Create path) = refusal_of (walk_parent tree path)
walk_refusal tree (Mkdir path) = refusal_of (walk_parent tree path)
walk_refusal tree (Write path pieces) = refusal_of (walk tree path)
walk_refusal tree (Truncate path size) = refusal_of (walk tree path)
walk_refusal tree (Unlink path) = refusal_of (walk tree path)
walk_refusal tree (Rmdir path) = refusal_of (to_directory (walk tree path))
walk_refusal tree (Rename from to) = first_some (refusal_of (walk tree from) ∷ refusal_of (walk_parent tree to) ∷ [])
walk_refusal tree (Read path off len) = refusal_of (walk tree path)
walk_refusal tree (ListNames path) = refusal_of (to_directory (walk tree path))
walk_refusal tree (Fsync path) = refusal_of (walk tree path)
walk_refusal tree Sync = None

-- a test of the row at the end of a walk; no row passes where the walk stops
abbrev pub row_passes : (Row → Bool) → Result Row Reply → Bool
row_passes test (Ok row) = test row
row_passes test (Err refusal) = false

-- whether a call that wants a file names a directory
abbrev pub names_directory : Rows → Request → Bool
names_directory tree (Write path pieces) = row_passes (λ row. is_directory row.kind) (walk tree path)
names_directory tree (Truncate path size) = row_passes (λ row. is_directory row.kind) (walk tree path)
names_directory tree (Unlink path) = row_passes (λ row. is_directory row.kind) (walk tree path)
names_directory tree (Read path off len) = row_passes (λ row. is_directory row.kind) (walk tree path)
names_directory tree _ = false

-- whether a call that makes a name finds it there
abbrev pub name_is_there : Rows → Request → Bool
name_is_there tree (Create path) = is_ok (walk tree path)
name_is_there tree (Mkdir path) = is_ok (walk tree path)
name_is_there tree (Rename from to) = is_ok (walk tree to)
name_is_there tree _ = false

-- whether a directory that is to go has a row in it
abbrev pub has_entries : Rows → Request → Bool
has_entries tree (Rmdir path) = row_passes (λ row. list_any (is_in row.ino) (map.values tree)) (walk tree path)
has_entries tree _ = false

-- one more than a count, where there is one
abbrev pub one_more : Option ℕ → Option ℕ
one_more None = None
one_more (Some n) = Some (n + 1)

-- how many steps lead from a row up to an ino, among the first few
abbrev pub steps_up : Rows → ℕ → ℕ → Row → Option ℕ
steps_up tree zero top row = if row.ino == top then Some 0 else None
steps_up tree (suc few) top row =
    if row.ino == top then Some 0 else one_more (steps_from (map.get tree row.parent) (steps_up tree few top))
  where
    steps_from : Option Row → (Row → Option ℕ) → Option ℕ
    steps_from None next = None
    steps_from (Some up) next = next up

-- whether a directory at or below a row would stand too deep, were the row moved to a depth
abbrev pub is_too_deep : ℕ → Option ℕ → Bool
is_too_deep depth None = false
is_too_deep depth (Some below) = nat_lt MOST_DEPTH (depth + below)

abbrev pub puts_too_deep : Rows → ℕ → Row → Bool
puts_too_deep tree depth row = list_any (λ other. is_directory other.kind && is_too_deep depth (steps_up tree (MOST_DEPTH + 1) row.ino other)) (map.values tree)

-- whether a call would make a file too long, or a directory too deep
abbrev pub is_too_big : Limits → Rows → Request → Bool
is_too_big limits tree (Write path pieces) = list_any (λ piece. nat_lt limits.size (end_of piece)) pieces
is_too_big limits tree (Truncate path size) = nat_lt limits.size size
is_too_big limits tree (Mkdir path) = nat_lt MOST_DEPTH (length path)
is_too_big limits tree (Rename from to) = row_passes (puts_too_deep tree (length to)) (walk tree from)
is_too_big limits tree _ = false

-- the first refusal of a call by its paths, the tree and its numbers
abbrev pub refusal : Limits → Rows → Request → Option Reply
refusal limits tree request = first_some (
    then_some (has_bad_name request) BadName
    ∷ walk_refusal tree request
    ∷ then_some (names_directory tree request) IsDir
    ∷ then_some (name_is_there tree request) Exists
    ∷ then_some (has_entries tree request) NotEmpty
    ∷ then_some (is_too_big limits tree request) TooBig
    ∷ [])

-- the tree with the row at the end of a walk changed; the tree itself where the walk stops
abbrev pub on_row : Rows → Result Row Reply → (Row → Rows) → Rows
on_row tree (Ok row) change = change row
on_row tree (Err refusal) change = tree

-- a row that was just made
abbrev pub new_row : Kind → ℕ → ℕ → List ℕ → Row
new_row kind ino parent name = record { ino = ino; kind = kind; parent = parent; name = name; size = 0; pages = map.empty }

-- the tree after a call that isn't refused; a new row gets the ino
abbrev pub effect : Rows → Request → ℕ → Rows
effect tree (Create path) ino = on_row tree (walk_parent tree path) (λ up. map.insert tree ino (new_row Regular ino up.ino (last_name path)))
effect tree (Mkdir path) ino = on_row tree (walk_parent tree path) (λ up. map.insert tree ino (new_row Directory ino up.ino (last_name path)))
effect tree (Write path pieces) ino = on_row tree (walk tree path) (λ row. map.insert tree row.ino (record row { size = raised_size row.size pieces; pages = put_pieces row.pages pieces }))
effect tree (Truncate path size) ino = on_row tree (walk tree path) (λ row. map.insert tree row.ino (record row { size = size; pages = cut_pages row.pages size }))
effect tree (Unlink path) ino = on_row tree (walk tree path) (λ row. map.remove tree row.ino)
effect tree (Rmdir path) ino = on_row tree (walk tree path) (λ row. map.remove tree row.ino)
effect tree (Rename from to) ino = on_row tree (walk tree from) (λ row. on_row tree (walk_parent tree to) (λ up. map.insert tree row.ino (record row { parent = up.ino; name = last_name to })))
effect tree (Read path off len) ino = tree
effect tree (ListNames path) ino = tree
effect tree (Fsync path) ino = tree
effect tree Sync ino = tree

-- what a read and a list tell of the row at the end of a walk
abbrev pub bytes_told : ℕ → ℕ → Result Row Reply → Reply
bytes_told off len (Ok row) = Bytes (bytes_between row.pages off (min (off + len) row.size))
bytes_told off len (Err refusal) = refusal

abbrev pub names_told : Rows → Result Row Reply → Reply
names_told tree (Ok row) = Names (rising (names_in (map.values tree) row.ino))
names_told tree (Err refusal) = refusal

-- the reply to a call that isn't refused
abbrev pub answer : Rows → Request → Reply
answer tree (Read path off len) = bytes_told off len (walk tree path)
answer tree (ListNames path) = names_told tree (walk tree path)
answer tree _ = Done

-- the refusal for want of space: the tree would have more nodes, or else more data blocks, than are granted
abbrev pub space_refusal : Limits → Rows → Option Reply
space_refusal limits tree = first_some (
    then_some (nat_lt limits.nodes (nodes_of_tree tree)) (NoSpace Node (nodes_of_tree tree) limits.nodes)
    ∷ then_some (nat_lt limits.data_blocks (data_of_tree tree)) (NoSpace Data (data_of_tree tree) limits.data_blocks)
    ∷ [])

-- the same of a call: an fsync and a sync want none for the tree, since they don't change it
abbrev pub space_wanted : Limits → Rows → Request → Option Reply
space_wanted limits after (Fsync path) = None
space_wanted limits after Sync = None
space_wanted limits after request = space_refusal limits after

-- a refusal leaves the tree; else the reply comes with the tree after the call
abbrev pub or_refused : Rows → Option Reply → Reply × Rows → Reply × Rows
or_refused tree (Some refusal) done = (refusal, tree)
or_refused tree None done = done

-- the reply to a call, and the tree after it: the first refusal that holds, then want of space, else the effect
abbrev pub outcome : Limits → Rows → Request → ℕ → Reply × Rows
outcome limits tree request ino =
    let after = effect tree request ino in
    or_refused tree (refusal limits tree request) (or_refused tree (space_wanted limits after request) (answer tree request, after))
