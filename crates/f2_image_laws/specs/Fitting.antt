-- The marks of a sound image go with its base and with each other, and so they do in every run from it.
use Rattle.std.specs.Prelude.{ℕ, List, All}
use Rattle.f2_disk.specs.Contents.{IsBlock}
use Rattle.f2_model.specs.Tree.{Rows}
use Rattle.f2_model.specs.State.{State, Mark, Meaning, MayRemain, rolled, initial}
use Rattle.f2_model.specs.Step.{Faults}
use Rattle.f2_model.specs.Run.{IsRun}
use Rattle.f2_model.specs.declared.bounds.Limits.{Limits}
use Rattle.f2_model.specs.declared.histories.Entry.{Entry}
use Rattle.f2_model.specs.declared.modes.Format.{Format}
use Rattle.f2_image.specs.Images.{Image}
use Rattle.f2_image.specs.Packs.{Checkpoint}
use Rattle.f2_image.specs.Meanings.{MeansAt}
use Rattle.f2_room_laws.specs.ProperTrees.{IsProperTree}
use Rattle.f2_room_laws.specs.Fitting.{AreFitting}
use Rattle.f2_image_laws.specs.Rolled.{image_limits}

-- the marks that a sound image of whole blocks stands for are fitting, whatever its format and its version
abbrev pub SoundMarksFit : Type 0
SoundMarksFit =
    (image : Image) (ckpt : Checkpoint) (base : Rows) (marks : List Mark) (format : Format) (version : ℕ) →
    All IsBlock image →
    MeansAt image ckpt base marks →
    AreFitting (image_limits ckpt.geom) (initial (record { base = base; marks = marks; format = format; version = version }))

-- the marks of a state are fitting, and what a crash may leave of it makes proper trees
pub record StaysFit (limits : Limits) (state : State) : Type 0 where
  pub marks : AreFitting limits state
  pub left : (meaning : Meaning) → MayRemain state meaning → IsProperTree limits (rolled meaning.base meaning.marks)

-- every run from what such an image stands for leads to such a state
abbrev pub SoundRunsStayFit : Type 0
SoundRunsStayFit =
    (image : Image) (ckpt : Checkpoint) (base : Rows) (marks : List Mark) (format : Format) (version : ℕ) (faults : Faults) (entries : List Entry) (choices : List ℕ) (state : State) →
    All IsBlock image →
    MeansAt image ckpt base marks →
    IsRun (image_limits ckpt.geom) faults (initial (record { base = base; marks = marks; format = format; version = version })) entries choices state →
    StaysFit (image_limits ckpt.geom) state
