use Rattle.std.proofs.Common.{◌≡◌, ◌≤◌, ◌++◌}
use Rattle.std.specs.Prelude.{IsSome}
use Rattle.std.specs.List.{AllByRecursion}
use Rattle.std.specs.Vec.Iter.{into_iter_items}
use Rattle.f2_disk.specs.Meter.{HasFailed}
use Rattle.f2_model.specs.State.{State}
use Rattle.f2_core.specs.Seen.{IsIn}
use Rattle.f2_core.specs.Events.{IsServed, ComeTo}
use Rattle.f2_core.proofs.machine.Core.run.Given as goal

-- the events so far came to the answers so far, and the others are still to be made
abbrev pub invariant-loop-event : goal.invariant-loop-event
invariant-loop-event g l =
    let was = l.fn.self in
    let contents = g.D.Disk.contents in
    let meter = g.D.Disk.meter in
    record {
      whole : l.fn.events.items ≡ l.yielded ++ into_iter_items l.event-iterator;
      served : AllByRecursion IsServed (into_iter_items l.event-iterator);
      geometry : l.self.geometry ≡ was.geometry;
      told : IsSome (contents was.disk) → IsSome (contents l.self.disk);
      later : (meter was.disk).faults ≤ (meter l.self.disk).faults;
      come : (from : State) → IsSome (contents was.disk) → IsIn was.geometry (contents was.disk) was.volume was.history from → ¬ (HasFailed (meter was.disk) (meter l.self.disk))
          → ComeTo was l.self (contents l.self.disk) from l.yielded l.answers.items;
    }
