-- How directories refuse requests: the tests of a call, in their order, over what names lead to.
use Rattle.std.specs.Prelude.{ℕ, ◌+◌, ◌-◌, Bool, false, ◌&&◌, nat_lt, List, ◌∷◌, [], length, is_ok, Option, Some, None, Result, Ok, Err, if◌then◌else◌}
use Rattle.std.specs.Bool.{then_some}
use Rattle.std.specs.List.{list_any}
use Rattle.f2_model.specs.Lists.{first_some}
use Rattle.f2_model.specs.Content.{end_of}
use Rattle.f2_model.specs.Tree.{MOST_DEPTH, is_directory, parent_path}
use Rattle.f2_model.specs.Call.{has_bad_name}
use Rattle.f2_model.specs.declared.bounds.Limits.{Limits}
use Rattle.f2_model.specs.declared.requests.Request.{Request}
use Rattle.f2_model.specs.declared.requests.Request.TheVariants.{Create, Mkdir, Write, Truncate, Unlink, Rmdir, Rename, Read, List as ListNames, Fsync, Sync}
use Rattle.f2_model.specs.declared.replies.Reply.{Reply}
use Rattle.f2_model.specs.declared.replies.Reply.TheVariants.{BadName, NotDir, IsDir, Exists, NotEmpty, TooBig}
use Rattle.f2_files.specs.Led.{Dirs, Place, led, is_occupied, reaches}

-- the refusal of names that don't lead to their end
abbrev pub stopped : Result Place Reply → Option Reply
stopped (Ok place) = None
stopped (Err refusal) = Some refusal

-- names that have to lead to a directory
abbrev pub onto_directory : Result Place Reply → Result Place Reply
onto_directory (Ok place) = if is_directory place.1 then Ok place else Err NotDir
onto_directory (Err refusal) = Err refusal

-- the directory in which a path's last name stands, or would stand
abbrev pub led_parent : Dirs → List (List ℕ) → Result Place Reply
led_parent dirs path = onto_directory (led dirs (parent_path path))

-- a test of the place at the end of a path; none passes where the names don't lead to it
abbrev pub place_passes : (Place → Bool) → Result Place Reply → Bool
place_passes test (Ok place) = test place
place_passes test (Err refusal) = false

abbrev pub stops : Dirs → Request → Option Reply
stops dirs (Create path) = stopped (led_parent dirs path)
stops dirs (Mkdir path) = stopped (led_parent dirs path)
stops dirs (Write path pieces) = stopped (led dirs path)
stops dirs (Truncate path size) = stopped (led dirs path)
stops dirs (Unlink path) = stopped (led dirs path)
stops dirs (Rmdir path) = stopped (onto_directory (led dirs path))
stops dirs (Rename from to) = first_some (stopped (led dirs from) ∷ stopped (led_parent dirs to) ∷ [])
stops dirs (Read path off len) = stopped (led dirs path)
stops dirs (ListNames path) = stopped (onto_directory (led dirs path))
stops dirs (Fsync path) = stopped (led dirs path)
stops dirs Sync = None

abbrev pub leads_to_directory : Dirs → Request → Bool
leads_to_directory dirs (Write path pieces) = place_passes (λ place. is_directory place.1) (led dirs path)
leads_to_directory dirs (Truncate path size) = place_passes (λ place. is_directory place.1) (led dirs path)
leads_to_directory dirs (Unlink path) = place_passes (λ place. is_directory place.1) (led dirs path)
leads_to_directory dirs (Read path off len) = place_passes (λ place. is_directory place.1) (led dirs path)
leads_to_directory dirs _ = false

abbrev pub is_bound : Dirs → Request → Bool
is_bound dirs (Create path) = is_ok (led dirs path)
is_bound dirs (Mkdir path) = is_ok (led dirs path)
is_bound dirs (Rename from to) = is_ok (led dirs to)
is_bound dirs _ = false

abbrev pub has_more : Dirs → Request → Bool
has_more dirs (Rmdir path) = place_passes (λ place. is_occupied dirs place.0) (led dirs path)
has_more dirs _ = false

-- whether a directory at or below a place would stand too deep, were the place moved to a depth
abbrev pub goes_deep : Dirs → ℕ → Place → Bool
goes_deep dirs depth place = is_directory place.1 && reaches dirs (MOST_DEPTH + 1 - depth) place.0

abbrev pub exceeds : Limits → Dirs → Request → Bool
exceeds limits dirs (Write path pieces) = list_any (λ piece. nat_lt limits.size (end_of piece)) pieces
exceeds limits dirs (Truncate path size) = nat_lt limits.size size
exceeds limits dirs (Mkdir path) = nat_lt MOST_DEPTH (length path)
exceeds limits dirs (Rename from to) = place_passes (goes_deep dirs (length to)) (led dirs from)
exceeds limits dirs _ = false

abbrev pub refused_by : Limits → Dirs → Request → Option Reply
refused_by limits dirs request = first_some (
    then_some (has_bad_name request) BadName
    ∷ stops dirs request
    ∷ then_some (leads_to_directory dirs request) IsDir
    ∷ then_some (is_bound dirs request) Exists
    ∷ then_some (has_more dirs request) NotEmpty
    ∷ then_some (exceeds limits dirs request) TooBig
    ∷ [])
