-- What a write to a sink appends.
use Rattle.std.specs.Prelude.{ℕ, ◌<◌, ◌≤◌, List, length, take, Option, Result, IfOk, MatchResult}
use Rattle.std.specs.Io.KnownBytes.{Appends}

-- `Ok(n)` appended the first n bytes of the piece, and a fault a prefix of it, which may be empty
abbrev pub SinkAppends : {E : Type 0} → Option (List ℕ) → Option (List ℕ) → Result ℕ E → List ℕ → Type 0
SinkAppends old new result piece =
    MatchResult result (λ n. Appends old new (take n piece)) (λ _. (k : ℕ) × Appends old new (take k piece))

-- `Ok(n)` is at most the piece's length, and at least 1 for a piece that isn't empty
abbrev pub TakesSome : {E : Type 0} → Result ℕ E → List ℕ → Type 0
TakesSome result piece = IfOk result (λ n. (n ≤ length piece) × (0 < length piece → 0 < n))
