-- How much a call adds to what a tree takes, and how much of that goes.
use Rattle.std.specs.Prelude.{◌≡◌, ◌+◌, ◌<◌, ◌≤◌, ◌^◌, All, ⊤}
use Rattle.f2_model.specs.Content.{end_of}
use Rattle.f2_model.specs.Count.{nodes_of_tree, data_of_tree}
use Rattle.f2_model.specs.Fallback.{Both, nothing, sum_of}
use Rattle.f2_model.specs.Tree.{Rows}
use Rattle.f2_model.specs.declared.requests.Request.{Request}
use Rattle.f2_model.specs.declared.requests.Request.TheVariants.{Write, Truncate}
use Rattle.f2_spans.specs.Spans.{MOST_SIZE}
use Rattle.f2_call_size.specs.declared.sizes.CallSize.{CallSize}

-- what was there and what is added are together what is there afterwards and what went
pub record IsDifference (before after : Both) (size : CallSize) : Type 0 where
  pub nodes : after.nodes + size.gone.nodes ≡ before.nodes + size.added.nodes
  pub pages : after.pages + size.gone.pages ≡ before.pages + size.added.pages

-- what a tree takes
abbrev pub takes : Rows → Both
takes tree = record { nodes = nodes_of_tree tree; pages = data_of_tree tree }

-- from one tree to another
abbrev pub IsSizeOf : Rows → Rows → CallSize → Type 0
IsSizeOf tree after size = IsDifference (takes tree) (takes after) size

-- no more than a file may hold is put or cut to
abbrev pub IsWithin : Request → Type 0
IsWithin (Write path pieces) = All (λ piece. end_of piece ≤ MOST_SIZE) pieces
IsWithin (Truncate path size) = size ≤ MOST_SIZE
IsWithin _ = ⊤

-- what is added alone, what goes alone, nothing, and two changes one after the other
abbrev pub added : Both → CallSize
added size = record { added = size; gone = nothing }

abbrev pub gone : Both → CallSize
gone size = record { added = nothing; gone = size }

abbrev pub unchanged : CallSize
unchanged = record { added = nothing; gone = nothing }

abbrev pub together : CallSize → CallSize → CallSize
together one other = record { added = sum_of one.added other.added; gone = sum_of one.gone other.gone }

-- numbers of one file, or of names
abbrev pub IsFew : Both → Type 0
IsFew size = (size.nodes ≤ 2 ^ 63) × (size.pages ≤ 2 ^ 63)

pub record IsModest (size : CallSize) : Type 0 where
  pub added : IsFew size.added
  pub gone : IsFew size.gone

-- numbers of directories
abbrev pub IsSmallSide : Both → Type 0
IsSmallSide size = (size.nodes < 2 ^ 32) × (size.pages < 2 ^ 32)

pub record IsSmallChange (size : CallSize) : Type 0 where
  pub added : IsSmallSide size.added
  pub gone : IsSmallSide size.gone

-- numbers with which a sum is far from the end of its range
abbrev pub IsFarSide : Both → Type 0
IsFarSide size = (size.nodes < 2 ^ 63 + 2 ^ 33) × (size.pages < 2 ^ 63 + 2 ^ 33)

pub record IsFar (size : CallSize) : Type 0 where
  pub added : IsFarSide size.added
  pub gone : IsFarSide size.gone

abbrev pub IsUnder : Both → Type 0
IsUnder size = (size.nodes < 2 ^ 63) × (size.pages < 2 ^ 63)
