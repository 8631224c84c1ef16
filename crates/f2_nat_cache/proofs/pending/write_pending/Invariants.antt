use Rattle.std.proofs.Common.{◌≡◌, ℕ, ◌<◌, ◌≤◌}
use Rattle.std.specs.Option.{unwrap_or}
use Rattle.f2_format.specs.Nat.{nat_entry}
use Rattle.f2_nat_block.specs.NatEntry.{entry_of}
use Rattle.f2_nat_cache.specs.Table.{pending, nid_at, with_pending_below}
use Rattle.f2_nat_cache.proofs.pending.write_pending.Given as goal

abbrev pub invariant-loop-place : goal.invariant-loop-place
invariant-loop-place l =
    record {
      content : l.into ≡ with_pending_below l.dirty.entries l.journal l.block l.initial.into l.place;
      entries : (place : ℕ) → place < l.place → entry_of (nat_entry l.into place) ≡ unwrap_or (pending l.dirty.entries l.journal (nid_at l.block place)) (entry_of (nat_entry l.initial.into place));
      rest : (place : ℕ) → l.place ≤ place → place < 455 → nat_entry l.into place ≡ nat_entry l.initial.into place;
    }
