-- What a text comes to on a sink that may fail.
use Rattle.std.specs.Prelude.{◌≡◌, ℕ, List, ◌++◌, Option, Result, MatchResult}
use Rattle.std.specs.Io.KnownBytes.{Appends}

-- the first bytes of a text went out, and this is the rest of it
pub record IsCutAfter (gone text : List ℕ) : Type 0 where
  pub rest : List ℕ
  pub whole : text ≡ gone ++ rest

-- some first bytes of a text went out
pub record PutsSome (old new : Option (List ℕ)) (text : List ℕ) : Type 0 where
  pub gone : List ℕ
  pub cut : IsCutAfter gone text
  pub written : Appends old new gone

-- the whole text went out, or some first bytes of it where the sink failed
abbrev pub Puts : {T E : Type 0} → Option (List ℕ) → Option (List ℕ) → Result T E → List ℕ → Type 0
Puts old new result text = MatchResult result (λ _. Appends old new text) (λ _. PutsSome old new text)
