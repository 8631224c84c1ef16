use Rattle.std.proofs.Common.{◌≤◌, length}
use Rattle.f2_pages.proofs.store.fill.Given as goal

abbrev pub invariant-loop : goal.invariant-loop
invariant-loop l = (length l.fn.blocks.items ≤ length l.blocks.items) × (l.counter ≤ length l.blocks.items)
