use Rattle.std.proofs.Common.{sym}
use Rattle.f2_recover.proofs.Telling.{fault_holds}
use Rattle.f2_recover.proofs.DentFaults.{block_outside, dents_fault}
use Rattle.f2_recover.proofs.dentries.read_dents.Goals as goal

pub returns-then-not-in_data-clause-fault : goal.returns-then-not-in_data-clause-fault
returns-then-not-in_data-clause-fault g c image ckpt directory page tells has sizes reached is =
    block_outside image ckpt directory page c.args.at has reached is c.args.g.now sizes (sym c.if-not-in_data.ensures)

pub returns-in_err-dents-clause-fault : goal.returns-in_err-dents-clause-fault
returns-in_err-dents-clause-fault g c =
    fault_holds _ _ _ c.from_residual-in_err-dents.ensures.1
    (λ image ckpt directory page tells has sizes reached is.
    dents_fault image ckpt directory page c.args.at has reached is c.read_block.new.into _ (c.in_ok-read_block.ensures.content image tells) c.in_err-dents.ensures.fault)
