use Rattle.std.proofs.Common.{get_or, take, ap, sym, ◌∙◌, arith}
use Rattle.std.proofs.lemmas.List.{take_all}
use Rattle.std.proofs.lemmas.List.Sums.{fold_more}
use Rattle.f2_format.specs.Seal.{SEAL_SEED}
use Rattle.f2_bytes.specs.Register.{register_with, register_after}
use Rattle.f2_bytes.proofs.SealLemmas.{register_after-seal, get_or-take-lt}
use Rattle.f2_bytes.proofs.seal.Goals as goal

pub loop-byte-preserved : goal.loop-byte-preserved
loop-byte-preserved c =
    c.with_byte-register.ensures
    ∙ ap (λ r. register_with r (get_or (take 4092 c.args.b.now) c.loop-byte.byte-index 0)) c.loop-byte.invariant
    ∙ sym (fold_more register_with SEAL_SEED (take 4092 c.args.b.now) c.loop-byte.byte-index 0 (omega arith))

pub returns : goal.returns
returns c =
    c.loop-byte.invariant
    ∙ ap register_after (take_all c.loop-byte.byte-index (take 4092 c.args.b.now) (omega arith))
    ∙ register_after-seal (take 4092 c.args.b.now) (get_or-take-lt 4092 c.args.b.now c.fits-b)
