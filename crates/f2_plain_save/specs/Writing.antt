-- What runs of writes, each ended by a flush, leave of what a disk holds.
use Rattle.std.specs.Prelude.{◌≡◌, ◌⊎◌, ℕ, List, [], ◌∷◌, length, Contains, slice_set}
use Rattle.f2_disk.specs.Contents.{Contents, list_at, latest, alone, IsImage}
use Rattle.f2_image.specs.Images.{Image}
use Rattle.f2_image.specs.Packs.{tail_address}
use Rattle.f2_laid.specs.Laid.{side_of}
use Rattle.f2_laid.specs.Planned.{Writes, put_all}
use Rattle.f2_laid.specs.Laws.{IsPartlyWritten}
use Rattle.f2_laid.specs.declared.planned.Planned.{Planned}
use Rattle.f2_laid.specs.declared.stored.Stored.{Stored}

-- where the tail of a checkpoint stands
abbrev pub tail_of : Stored → ℕ
tail_of stored = tail_address (side_of stored.side)

-- one block, as a plan
abbrev pub one_block : ℕ → List ℕ → List Planned
one_block at block = record { at = at; block = block } ∷ []

-- each content of a disk was there before, or the plan writes it
pub record OnlyAdds (plan : List Planned) (before after : Contents) : Type 0 where
  pub size : length after ≡ length before
  pub held : (at : ℕ) (content : List ℕ) → Contains (list_at after at) content → Contains (list_at before at) content ⊎ Writes plan at content

-- the newest contents are those that a plan makes of the ones before
abbrev pub HasPut : List Planned → Contents → Contents → Type 0
HasPut plan before after = latest after ≡ put_all (latest before) plan

-- and there are no others
abbrev pub HasSettled : List Planned → Contents → Contents → Type 0
HasSettled plan before after = after ≡ alone (put_all (latest before) plan)

-- of a disk that held one image a crash leaves one with a part of the plan
abbrev pub MayLeave : List Planned → Contents → Contents → Type 0
MayLeave plan before after = (image : Image) → before ≡ alone image → (left : Image) → IsImage after left → IsPartlyWritten image left plan

-- a disk that held one image holds the one that a plan and its tail make of it
abbrev pub IsPlanWritten : List Planned → ℕ → List ℕ → Contents → Contents → Type 0
IsPlanWritten plan at tail before after = (image : Image) → before ≡ alone image → after ≡ alone (slice_set (put_all image plan) at tail)

-- of a disk that held one image a crash leaves one with a part of the plan but no tail, or with both as a whole
abbrev pub IsPlanLeft : List Planned → ℕ → List ℕ → Contents → Contents → Type 0
IsPlanLeft plan at tail before after =
    (image : Image) → before ≡ alone image → (left : Image) → IsImage after left → IsPartlyWritten image left plan ⊎ (left ≡ slice_set (put_all image plan) at tail)
