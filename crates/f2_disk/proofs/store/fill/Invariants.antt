use Rattle.std.proofs.Common.{◌≡◌, ◌≤◌, max, vec_len}
use Rattle.f2_disk.proofs.store.fill.Given as goal

abbrev pub invariant-loop : goal.invariant-loop
invariant-loop l =
    (vec_len l.room ≡ l.counter) × (vec_len l.fn.room ≤ vec_len l.room) × (vec_len l.room ≤ max (vec_len l.fn.room) l.wanted)
