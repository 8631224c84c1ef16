use Rattle.std.proofs.Common.{◌≡◌, drop}
use Rattle.f2_reference_calls.proofs.Copied.{with_keys}
use Rattle.f2_reference_calls.proofs.copies.copy_tree.Given as goal

-- the rows that are left make the copy whole
abbrev pub invariant-loop-ino : goal.invariant-loop-ino
invariant-loop-ino l = with_keys l.tree l.copy (drop l.ino-index l.ino-items) ≡ l.tree
