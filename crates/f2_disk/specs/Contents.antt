-- What a disk holds, block by block, and what its calls and a crash do to that.
use Rattle.std.specs.Prelude.{◌≡◌, ◌⊎◌, ℕ, ◌-◌, ◌<◌, List, [], ◌∷◌, ◌++◌, length, map, replicate, Option, Some, None, ⊤, All, Contains, insert, slice_index, slice_index_or, slice_set}
use Rattle.std.specs.List.{AllZip}

-- the bytes of a block
pub record IsBlock (content : List ℕ) : Type 0 where
  pub size : length content ≡ 4096
  pub bytes : (at : ℕ) → slice_index content at < 256

-- What a disk holds: one list of contents per block, oldest first. The last is what a read gives; until a flush
-- a crash may leave any one of them.
abbrev pub Contents : Type 0
Contents = List (List (List ℕ))

-- the contents of the block at this address
abbrev pub list_at : Contents → ℕ → List (List ℕ)
list_at lists at = slice_index_or lists at []

-- the newest content of a list
abbrev pub last_of : List (List ℕ) → List ℕ
last_of list = slice_index_or list (length list - 1) []

-- what reads give, block by block
abbrev pub latest : Contents → List (List ℕ)
latest lists = map last_of lists

-- each block's one content
abbrev pub alone : List (List ℕ) → Contents
alone image = map (λ content. content ∷ []) image

-- a block of zeros
unfoldable pub zeros : List ℕ
zeros = replicate 4096 0

-- this many blocks of zeros
abbrev pub blank : ℕ → Contents
blank blocks = replicate blocks (zeros ∷ [])

-- one list per block, each with a content at least, and each content a block
pub record IsWhole (blocks : ℕ) (lists : Contents) : Type 0 where
  pub size : length lists ≡ blocks
  pub held : All (λ list. 0 < length list) lists
  pub contents : All (All IsBlock) lists

-- an image that a crash may leave: for each block by itself one content of its list
abbrev pub IsImage : Contents → List (List ℕ) → Type 0
IsImage lists image = AllZip Contains lists image

-- A write that succeeded: the content stands last in the list of its block, or alone in it.
-- No other list changes.
abbrev pub IsWritten : ℕ → List ℕ → Contents → Contents → Type 0
IsWritten at content old new =
    (new ≡ slice_set old at (list_at old at ++ content ∷ [])) ⊎ (new ≡ slice_set old at (content ∷ []))

-- A write that failed: nothing changed, or the content stands last in the list of its block, or before the last.
-- No other list changes.
abbrev pub IsWriteFailed : ℕ → List ℕ → Contents → Contents → Type 0
IsWriteFailed at content old new =
    (new ≡ old) ⊎ ((new ≡ slice_set old at (list_at old at ++ content ∷ []))
    ⊎ (new ≡ slice_set old at (insert (list_at old at) (length (list_at old at) - 1) content)))

-- after a flush: each block has its last content alone
abbrev pub flushed : Contents → Contents
flushed lists = alone (latest lists)

-- One change of a disk: none, one write of a block that succeeded or failed, or one flush.
pub data IsOneChange (old new : Contents) : Type 0 where
  same : new ≡ old → IsOneChange old new
  written : (at : ℕ) (content : List ℕ) → at < length old → IsBlock content → IsWritten at content old new → IsOneChange old new
  write_failed : (at : ℕ) (content : List ℕ) → at < length old → IsBlock content → IsWriteFailed at content old new → IsOneChange old new
  flush : new ≡ flushed old → IsOneChange old new

-- What is told stays told, and this holds between what was told before and what is told now; a disk that doesn't tell never does.
abbrev pub WhereTold : Option Contents → Option Contents → (Contents → Contents → Type 0) → Type 0
WhereTold None None R = ⊤
WhereTold None (Some now) R = ⊥
WhereTold (Some before) None R = ⊥
WhereTold (Some before) (Some now) R = R before now
