use Rattle.std.proofs.Common.{◌≡◌, drop}
use Rattle.f2_reference_calls.specs.Given.{StandOnce, set_of, with_all}
use Rattle.f2_reference_calls.proofs.counts.add_offsets.Given as goal

-- the offsets that are left make the set whole
abbrev pub invariant-loop-offset : goal.invariant-loop-offset
invariant-loop-offset l = record {
  once : StandOnce l.offsets.items;
  added : with_all (set_of l.offsets.items) (drop l.offset-index l.more) ≡ with_all (set_of l.fn.offsets.items) l.more;
}
