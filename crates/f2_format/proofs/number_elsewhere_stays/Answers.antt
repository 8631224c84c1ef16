use Rattle.std.proofs.Common.{inl, inr, arith}
use Rattle.f2_format.proofs.BytesLemmas.{number_at-with_bytes_before, number_at-with_bytes_past}
use Rattle.f2_format.proofs.number_elsewhere_stays.Goals as goal

pub returns : goal.returns
returns c n block at bytes other fits apart = elim apart [
  | inl before ↦ number_at-with_bytes_before n block at bytes other (omega arith) before
  | inr past ↦ number_at-with_bytes_past n block at bytes other fits past
]
