-- What a script leaves on a bench.
use Rattle.std.specs.Prelude.{List, [], ◌∷◌, IfSome, Option}
use Rattle.f2_disk.specs.Contents.{Contents}
use Rattle.f2_flat.specs.Flat.{FILE_SIZE}
use Rattle.f2_image.specs.Meanings.{IsSafe}
use Rattle.f2_model.specs.State.{State}
use Rattle.f2_script.specs.declared.script.Line.{Line}
use Rattle.f2_script.specs.declared.script.Grammar.TheVariants.{Replay}
use Rattle.f2_play.specs.declared.status.Status.{Status}
use Rattle.f2_play.specs.declared.status.Status.TheVariants.{Done}
use Rattle.f2_play.specs.Parts.{Part, state_after}
use Rattle.f2_play.specs.Scripts.{Scope}

-- whatever a crash may leave of the disk stands for what may remain of a state
abbrev pub IsSafeWhereTold : Option Contents → State → Type 0
IsSafeWhereTold told state = IfSome told (λ lists. IsSafe lists state)

-- the same of the state after the lines that came to these parts, where there are any
abbrev pub IsSafeAfter : Option Contents → List Part → Type 0
IsSafeAfter told [] = Unit {0}
IsSafeAfter told (part ∷ parts) = IsSafeWhereTold told (state_after part.after parts)

-- what is said of a bench whose script was run to its end
abbrev pub Leaves : Option Contents → Status → List Line → List Part → Type 0
Leaves told Done lines parts = IsSafeAfter told parts
Leaves told _ lines parts = Unit {0}

-- what `replay` takes so far: its grammar, and files that an inode has the addresses of
abbrev pub replay_scope : Scope
replay_scope = record { grammar = Replay; size = FILE_SIZE }
