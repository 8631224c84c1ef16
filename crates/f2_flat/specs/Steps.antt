-- What the steps of a call come to.
use Rattle.std.specs.Prelude.{◌≡◌, ◌⊎◌, ℕ, List, Option, Some, None, Result, Ok, MatchResult, nat_lt}
use Rattle.std.specs.Bool.{then_some}
use Rattle.std.specs.FinMap as map
use Rattle.f2_format.specs.Geometry.{ImageGeometry}
use Rattle.f2_model.specs.Content.{put_pieces, raised_size}
use Rattle.f2_model.specs.Count.{data_of_tree}
use Rattle.f2_model.specs.Tree.{Rows, ROOT, walk, last_name}
use Rattle.f2_model.specs.Call.{refusal, new_row}
use Rattle.f2_model.specs.declared.rows.Row.{Row}
use Rattle.f2_model.specs.declared.rows.Kind.TheVariants.{Regular}
use Rattle.f2_model.specs.declared.requests.Piece.{Piece}
use Rattle.f2_model.specs.declared.requests.Request.TheVariants.{Create, Write}
use Rattle.f2_model.specs.declared.replies.Reply.{Reply}
use Rattle.f2_model.specs.declared.replies.Reply.TheVariants.{NoSpace, Memory}
use Rattle.f2_model.specs.declared.replies.Space.{Space}
use Rattle.f2_model.specs.declared.replies.Space.TheVariants.{Data}
use Rattle.f2_pieces.specs.Fresh.{fresh_pages}
use Rattle.f2_spans.specs.Spans.{EndWithin}
use Rattle.f2_flat.specs.Flat.{limits_of}

-- the refusal of a zone that has to hold some blocks and grants fewer
abbrev pub told_beyond : Space → ℕ → ℕ → Option Reply
told_beyond space need limit = then_some (nat_lt limit need) (NoSpace space need limit)

-- room is granted where no refusal is told; else it is refused with that, or for want of memory
abbrev pub IsGranted : {T : Type 0} → Option Reply → Result T Reply → Type 0
IsGranted told result = MatchResult result (λ _. told ≡ None) (λ refused. (refused ≡ Memory) ⊎ (told ≡ Some refused))

-- a path has a place for a file, whose name this is; or this refusal is the first
abbrev pub MakesPlace : ImageGeometry → Rows → List (List ℕ) → Result (List ℕ) Reply → Type 0
MakesPlace geom tree path result = MatchResult result
    (λ name. (refusal (limits_of geom) tree (Create path) ≡ None) × (name ≡ last_name path))
    (λ refused. refusal (limits_of geom) tree (Create path) ≡ Some refused)

-- a path leads to this file and pieces may be put into it; or this refusal is the first
abbrev pub FindsFile : ImageGeometry → Rows → List (List ℕ) → List Piece → Result Row Reply → Type 0
FindsFile geom tree path pieces result = MatchResult result
    (λ row. (refusal (limits_of geom) tree (Write path pieces) ≡ None) × (walk tree path ≡ Ok row))
    (λ refused. refusal (limits_of geom) tree (Write path pieces) ≡ Some refused)

-- a tree with an empty file more in the root
abbrev pub with_file : Rows → ℕ → List ℕ → Rows
with_file tree ino name = map.insert tree ino (new_row Regular ino ROOT name)

-- the refusal of a file more, where its data blocks are more than are granted
abbrev pub told_for_file : Rows → ℕ → List ℕ → ℕ → Option Reply
told_for_file tree ino name limit = told_beyond Data (data_of_tree (with_file tree ino name)) limit

-- a row with pieces put into it
abbrev pub row_with : Row → List Piece → Row
row_with row pieces = record row { size = raised_size row.size pieces; pages = put_pieces row.pages pieces }

-- a tree with pieces put into one of its rows
abbrev pub with_pieces : Rows → Row → List Piece → Rows
with_pieces tree row pieces = map.insert tree row.ino (row_with row pieces)

-- pieces may be put into a row of a tree, to which they bring these pages
pub record TakesPieces (tree : Rows) (ino : ℕ) (pieces : List Piece) (fresh : List ℕ) (row : Row) : Type 0 where
  pub there : map.get tree ino ≡ Some row
  pub own : row.ino ≡ ino
  pub ends : EndWithin pieces
  pub brought : fresh ≡ fresh_pages row.pages pieces
