use Rattle.std.proofs.lemmas.Result.{IfOk-weaker, IfErr-weaker}
use Rattle.f2_recover.proofs.Telling.{tells_on}
use Rattle.f2_mount.proofs.Standing.{stands}
use Rattle.f2_mount.proofs.Within.{within_more}
use Rattle.f2_mount.proofs.recovering.recover_image.Goals as goal

pub returns-clause-recovered : goal.returns-clause-recovered
returns-clause-recovered g c =
    IfOk-weaker c.recover_from.result _ _
    (λ recovered is image tells.
    let start = c.in_ok-start.ensures.start image tells in
    is image start.0 (tells_on _ _ image c.in_ok-start.ensures.reads.kept tells) start.1.0 start.1.1)
    c.recover_from.ensures.recovered

pub returns-clause-fault : goal.returns-clause-fault
returns-clause-fault g c =
    IfErr-weaker c.recover_from.result _ _
    (λ fault is image tells.
    let start = c.in_ok-start.ensures.start image tells in
    stands image start.0 start.1.0 fault (is image start.0 (tells_on _ _ image c.in_ok-start.ensures.reads.kept tells) start.1.0 start.1.1))
    c.recover_from.ensures.fault

pub returns-clause-fits : goal.returns-clause-fits
returns-clause-fits g c =
    IfOk-weaker c.recover_from.result _ _ (λ recovered within. within_more _ _ recovered.tree c.in_ok-start.ensures.fits within) c.recover_from.ensures.fits
