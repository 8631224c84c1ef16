use Rattle.std.proofs.Common.{◌∙◌, ap, List, ℕ}
use Rattle.f2_format.specs.Bytes.{number_at}
use Rattle.f2_start.proofs.Seals.{seal_in_head}
use Rattle.f2_start.proofs.recovery.seal_in_newer_format.Goals as goal

pub returns : goal.returns
returns c = c.get32.ensures ∙ ap (λ (b : List ℕ). number_at 4 b 4092) c.write_head.ensures.written ∙ seal_in_head _
