-- Where the pieces of a write lie, and how far files go.
use Rattle.std.specs.Prelude.{ℕ, ◌+◌, ◌*◌, ◌<◌, ◌≤◌, All, List}
use Rattle.f2_format.specs.Offsets.{page_limit}
use Rattle.f2_model.specs.Content.{PAGE, end_of}
use Rattle.f2_model.specs.declared.requests.Piece.{Piece}

-- the most bytes that a file's pages have room for (max_file_blocks of the kernel's fs/f2fs/super.c, in bytes)
abbrev pub MOST_SIZE : ℕ
MOST_SIZE = page_limit * PAGE

-- no piece ends past the last byte that a file's pages have room for
abbrev pub EndWithin : List Piece → Type 0
EndWithin pieces = All (λ piece. end_of piece ≤ MOST_SIZE) pieces

-- a piece puts a byte into a page
pub record Reaches (piece : Piece) (page : ℕ) : Type 0 where
  pub before : page * PAGE < end_of piece
  pub behind : piece.off < page * PAGE + PAGE
