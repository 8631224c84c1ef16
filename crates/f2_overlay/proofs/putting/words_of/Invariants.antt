use Rattle.std.proofs.Common.{◌≡◌, ℕ, ◌<◌, length}
use Rattle.std.specs.Prelude.{slice_index}
use Rattle.f2_format.specs.Inode.{node_word}
use Rattle.f2_overlay.proofs.putting.words_of.Given as goal

abbrev pub invariant-loop-slot : goal.invariant-loop-slot
invariant-loop-slot l = (length l.words ≡ 1018) × ((slot : ℕ) → slot < l.slot → slice_index l.words slot ≡ node_word l.block slot)
