-- A volume that was never opened.
use Rattle.std.specs.Prelude.{[]}
use Rattle.f2_model.specs.Tree.{root_alone}
use Rattle.f2_model.specs.State.{State, initial}
use Rattle.f2_model.specs.History.{Account}
use Rattle.f2_model.specs.declared.modes.Format.TheVariants.{Two}

-- its state: closed, with the tree of the root alone
abbrev pub never_opened : State
never_opened = initial (record { base = root_alone; marks = []; format = Two; version = 1 })

-- its past, in which nothing happened
abbrev pub no_past : Account
no_past = record { start = never_opened; entries = []; choices = [] }
