use Rattle.std.proofs.Common.{◌≡◌, length, subst, arith}
use Rattle.f2_recover.proofs.Telling.{fault_holds, reads_none, reads_then}
use Rattle.f2_overlay.specs.declared.marks.Rolling.{Rolling}
use Rattle.f2_overlay.specs.Rolling.{IsRolledTo}
use Rattle.f2_overlay.proofs.Newer.{pending_none}
use Rattle.f2_overlay.proofs.RollBlock.{ground_on, rolled_first}
use Rattle.f2_overlay.proofs.rolls.roll_log.Goals as goal

pub loop-place-init : goal.loop-place-init
loop-place-init g c =
    let rolling : Rolling = record { rolls = c.new.result; pending = c.new-2.result; owners = c.in_ok-owners_of_base.field-0 } in
    record {
      reads = reads_none _ _;
      pending = pending_none c.args.log.now c.new-2.result c.new-2.ensures;
      rolled = λ image ckpt ground.
          rolled_first _ c.args.g.now image ckpt c.args.walk.now c.args.log.now ground rolling c.new.ensures c.new-2.ensures (c.in_ok-owners_of_base.ensures.base image ckpt ground.base.has ground.geom_is ground.base);
    }

pub returns-in_err-owners_of_base-clause-fault : goal.returns-in_err-owners_of_base-clause-fault
returns-in_err-owners_of_base-clause-fault g c = fault_holds _ _ _ c.from_residual.ensures.1 (λ image ckpt ground. c.in_err-owners_of_base.ensures.fault image ckpt ground.base.has ground.geom_is ground.base)

pub roll_block-requires-clause-device : goal.roll_block-requires-clause-device
roll_block-requires-clause-device g c = let device = c.requires.device in omega (arith, device, c.loop-place.invariant.reads.within.same_blocks)

pub loop-place-preserved : goal.loop-place-preserved
loop-place-preserved g c =
    let before = c.loop-place.invariant in
    record {
      reads = reads_then _ _ _ _ _ _ before.reads c.in_ok-roll_block.ensures.reads;
      pending = c.in_ok-roll_block.ensures.pending;
      rolled = λ image ckpt ground. c.in_ok-roll_block.ensures.rolled image ckpt (ground_on _ _ c.args.g.now image ckpt c.args.walk.now c.args.log.now before.reads.kept ground) (before.rolled image ckpt ground);
    }

pub returns-in_err-roll_block-clause-fault : goal.returns-in_err-roll_block-clause-fault
returns-in_err-roll_block-clause-fault g c =
    let before = c.loop-place.invariant in
    fault_holds _ _ _ c.from_residual-in_err-roll_block.ensures.1
    (λ image ckpt ground. c.in_err-roll_block.ensures.fault image ckpt (ground_on _ _ c.args.g.now image ckpt c.args.walk.now c.args.log.now before.reads.kept ground) (before.rolled image ckpt ground))

pub returns-clause-rolled : goal.returns-clause-rolled
returns-clause-rolled g c image ckpt ground =
    let ended : c.loop-place.place ≡ length c.args.log.now = omega (arith, c.loop-place-test.false, c.loop-place.auto.place-end) in
    subst (λ n. IsRolledTo image ckpt c.args.walk.now n c.loop-place.rolling) ended (c.loop-place.invariant.rolled image ckpt ground)
