-- Lemmas of the plain machine.
pub mod BeginReplies
pub mod BeginTurns
pub mod BeginInos
pub mod GoSteps
pub mod TickSteps
pub mod MountRolls
pub mod MountModes
pub mod MountComes
pub mod MountSound
pub mod RunPlain
pub mod RunMade
pub mod BeginSound
