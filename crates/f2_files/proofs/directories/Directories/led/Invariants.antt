use Rattle.std.proofs.Common.{◌≡◌, drop}
use Rattle.f2_files.specs.Led.{led, led_from}
use Rattle.f2_files.proofs.directories.Directories.led.Given as goal

-- the names that are left lead from the place to where the whole path leads
abbrev pub invariant-loop-name : goal.invariant-loop-name
invariant-loop-name l = led l.self l.path ≡ led_from l.self (drop l.name-index l.path) l.place
