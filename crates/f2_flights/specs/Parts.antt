-- Calls in flight as the abstract machine has them.
use Rattle.std.specs.Option.{option_map}
use Rattle.f2_model.specs.State as machine
use Rattle.f2_flights.specs.declared.flights.Part.{Part}
use Rattle.f2_flights.specs.declared.flights.Part.TheVariants.{Pages, Nodes, Marked}
use Rattle.f2_flights.specs.declared.flights.Drawn.{Drawn}
use Rattle.f2_flights.specs.declared.flights.Drawn.TheVariants as drawn
use Rattle.f2_flights.specs.declared.flights.Slot.{Slot}
use Rattle.f2_flights.specs.declared.flights.Progress.{Progress}
use Rattle.f2_flights.specs.declared.flights.Flight.{Flight}
use Rattle.f2_flights.specs.declared.flights.Flight.TheVariants.{Fsync, Check}

abbrev pub part_of : Part → machine.Part
part_of Pages = machine.InPages
part_of Nodes = machine.InNodes
part_of Marked = machine.Marked

abbrev pub drawn_of : Drawn → machine.Drawn
drawn_of (drawn.Node offset) = machine.DrawnNode offset
drawn_of drawn.Mark = machine.DrawnMark

abbrev pub slot_of : Slot → machine.Slot
slot_of slot = record { position = slot.position; drawn = drawn_of slot.drawn }

abbrev pub progress_of : Progress → machine.Progress
progress_of progress = record { part = part_of progress.part; place = progress.place; position = progress.position; slot = option_map slot_of progress.slot }

abbrev pub flight_of : Flight → machine.Flight
flight_of (Fsync ino progress) = machine.InFsync ino (progress_of progress)
flight_of (Check plan) = machine.InCheck plan
