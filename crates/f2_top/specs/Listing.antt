-- What the command does that prints the tree of an image.
use Rattle.std.specs.Prelude.{◌≡◌, ℕ, List, [], ◌∷◌, codes, Option}
use Rattle.std.specs.Io.KnownBytes.{Appends}
use Rattle.f2_disk.specs.Contents.{Contents, WhereTold}
use Rattle.f2_disk.specs.Meter.{Meter, HasFailed}
use Rattle.f2_image.specs.Images.{Image}
use Rattle.f2_image.specs.Faults.{Stands}
use Rattle.f2_image.specs.Meanings.{Means}
use Rattle.f2_model.specs.Tree.{Rows}
use Rattle.f2_model.specs.State.{Mark, rolled}
use Rattle.f2_recover.specs.Faults.{which_of, number_of}
use Rattle.f2_recover.specs.Told.{Tells}
use Rattle.f2_script.specs.Trees.{tree_spelling}
use Rattle.f2_play.specs.declared.status.Status.{Status}
use Rattle.f2_play.specs.declared.status.Status.TheVariants.{Done, Usage, TooLong, Script, SourceFault, SinkFault, DiskFault, BadImage, Geometry, Memory}
use Rattle.f2_play.specs.Endings.{last_line}
use Rattle.f2_top.specs.Making.{ReadsTheSame}
use Rattle.f2_top.specs.Streams.{IsCutAfter}

-- its words: `tree` and the image's name
pub record IsTree (words : List (List ℕ)) : Type 0 where
  pub image : List ℕ
  pub are : words ≡ codes "tree" ∷ image ∷ []

-- a text is that of the tree which an image stands for, with its marks rolled forward
pub record ShowsTree (image : Image) (text : List ℕ) : Type 0 where
  pub base : Rows
  pub marks : List Mark
  pub means : Means image base marks
  pub spelled : text ≡ tree_spelling (rolled base marks)

-- What is printed of a disk, by the status: of the image that it tells, where it tells one, the tree, or a condition that stands
-- in it. What reads give stays, whatever the status.
abbrev pub ListsBy : Option Contents → Meter → Meter → Status → List ℕ → Type 0
ListsBy told old new Done text = (image : Image) → Tells told image → ShowsTree image text
ListsBy told old new (BadImage bad) text = ((image : Image) → Tells told image → Stands (which_of bad) image (number_of bad)) × (text ≡ last_line (BadImage bad))
ListsBy told old new DiskFault text = HasFailed old new × (text ≡ last_line DiskFault)
ListsBy told old new Memory text = text ≡ []
ListsBy told old new (Geometry limit value) text = ⊥
ListsBy told old new Usage text = ⊥
ListsBy told old new TooLong text = ⊥
ListsBy told old new (Script line) text = ⊥
ListsBy told old new SourceFault text = ⊥
ListsBy told old new SinkFault text = ⊥

-- the text of another status was cut off where the sink failed
pub record IsCutListing (told : Option Contents) (old new : Meter) (out : List ℕ) : Type 0 where
  pub status : Status
  pub text : List ℕ
  pub lists : ListsBy told old new status text
  pub cut : IsCutAfter out text

-- what went out of the text that is printed
abbrev pub Lists : Option Contents → Meter → Meter → Status → List ℕ → Type 0
Lists told old new SinkFault out = IsCutListing told old new out
Lists told old new status out = ListsBy told old new status out

-- the whole command: what reads give stays, and what went out is what is printed of the disk
pub record IsListed (told now : Option Contents) (old new : Meter) (before after : Option (List ℕ)) (status : Status) : Type 0 where
  pub kept : WhereTold told now ReadsTheSame
  pub out : List ℕ
  pub written : Appends before after out
  pub lists : Lists told old new status out
