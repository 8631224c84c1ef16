use Rattle.std.proofs.Common.{ap, ◌∙◌}
use Rattle.f2_format.specs.Pack.{recovery_version_of}
use Rattle.f2_pack.specs.Packs.{fields_of}
use Rattle.f2_mount.proofs.Scanned.{is_chain, no_fault, has_fault}
use Rattle.f2_mount.proofs.logs.read_log.Goals as goal

pub returns-in-Ok-clause-chain : goal.returns-in-Ok-clause-chain
returns-in-Ok-clause-chain g c image ckpt tells is =
    let carried = c.recovery_version-version.ensures ∙ ap (λ n. recovery_version_of (fields_of c.args.start.now.pack.head n)) c.nat.ensures.value in
    is_chain _ c.args.start.now image ckpt _ tells is carried c.in-Ok.log c.in-Ok.ensures.chain

pub returns-in-Ok-clause-sound : goal.returns-in-Ok-clause-sound
returns-in-Ok-clause-sound g c image ckpt tells is =
    let carried = c.recovery_version-version.ensures ∙ ap (λ n. recovery_version_of (fields_of c.args.start.now.pack.head n)) c.nat.ensures.value in
    no_fault _ c.args.start.now image ckpt _ tells is carried c.in-Ok.log c.in-Ok.ensures.chain c.in-Ok.ensures.sound

pub returns-in-Err-clause-fault : goal.returns-in-Err-clause-fault
returns-in-Err-clause-fault g c image ckpt tells is =
    let carried = c.recovery_version-version.ensures ∙ ap (λ n. recovery_version_of (fields_of c.args.start.now.pack.head n)) c.nat.ensures.value in
    c.fault_of.ensures.right image ckpt (has_fault _ c.args.start.now image ckpt _ tells is carried c.in-Err.fault c.in-Err.ensures.fault)
