-- The calls that a `gen` line makes; all of it is this project's own.
use Rattle.std.specs.Prelude.{ℕ, ◌+◌, ◌*◌, ◌^◌, ◌/◌, ◌%◌, nat_lt, ◌==◌, if◌then◌else◌, List, [], ◌∷◌, ◌++◌, codes, decimal}
use Rattle.f2_model.specs.declared.requests.Piece.{Piece}
use Rattle.f2_model.specs.declared.requests.Request.{Request}
use Rattle.f2_model.specs.declared.requests.Request.TheVariants.{Create, Write, Truncate, Unlink, Fsync}

-- the number after a number, by the linear congruential generator of Knuth's MMIX
abbrev pub after : ℕ → ℕ
after x = (x * 6364136223846793005 + 1442695040888963407) % 2 ^ 64

-- what is drawn from a number: its upper 31 bits
abbrev pub drawn : ℕ → ℕ
drawn x = x / 2 ^ 33

-- the seat and the path of a draw
abbrev pub seat_of : ℕ → ℕ
seat_of u = 1 + u % 8

abbrev pub path_of : ℕ → List (List ℕ)
path_of u = (codes "g" ++ decimal (u % 7)) ∷ []

-- the piece and the size of a draw
abbrev pub piece_of : ℕ → Piece
piece_of u = record { off = 1000 * (u / 70 % 64); len = 1 + u / 70 / 64 % 5000; byte = u % 251 }

abbrev pub size_of : ℕ → ℕ
size_of u = 1000 * (u / 70 % 64)

-- the call of a draw, by the kind that it draws
abbrev pub call_of_kind : ℕ → ℕ → Request
call_of_kind kind u =
    if nat_lt kind 2 then Create (path_of u) else
    if nat_lt kind 6 then Write (path_of u) (piece_of u ∷ []) else
    if kind == 6 then Truncate (path_of u) (size_of u) else
    if kind == 7 then Unlink (path_of u) else
    Fsync (path_of u)

abbrev pub call_of : ℕ → Request
call_of u = call_of_kind (u / 7 % 10) u
