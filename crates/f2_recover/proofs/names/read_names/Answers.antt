use Rattle.std.proofs.Common.{arith}
use Rattle.std.proofs.lemmas.List.Elements.{All-same, All-append}
use Rattle.f2_recover.specs.Dents.{IsFitDent}
use Rattle.f2_recover.proofs.Telling.{fault_holds, reads_then, tells_on}
use Rattle.f2_recover.proofs.DirectoryDents.{dentries_more, dentries_all, listed_block, found_are, dents_of_blocks}
use Rattle.f2_recover.proofs.names.read_names.Goals as goal

pub returns-in_err-found-clause-fault : goal.returns-in_err-found-clause-fault
returns-in_err-found-clause-fault g c =
    fault_holds _ _ _ c.from_residual.ensures.1
    (λ image ckpt directory tells has sizes reached are.
    c.in_err-found.ensures.fault image ckpt directory _ (tells_on _ _ image c.loop-block.invariant.reads.kept tells) has sizes reached
    (listed_block image ckpt directory c.args.blocks.now c.loop-block.block-index are c.loop-block-test.true))

pub returns-in_err-add_dents-clause-fault : goal.returns-in_err-add_dents-clause-fault
returns-in_err-add_dents-clause-fault g c =
    fault_holds _ _ _ c.from_residual-in_err-add_dents.ensures.1
    (λ image ckpt directory tells has sizes reached are.
    c.in_err-add_dents.ensures.fault image ckpt directory has reached
    (found_are image ckpt directory _ _ c.in_ok-found.found.items (listed_block image ckpt directory c.args.blocks.now c.loop-block.block-index are c.loop-block-test.true)
    (c.in_ok-found.ensures.dents image (tells_on _ _ image c.loop-block.invariant.reads.kept tells))))

pub loop-block-preserved : goal.loop-block-preserved
loop-block-preserved g c =
    let before = c.loop-block.invariant in
    record {
      reads = reads_then _ _ _ _ _ _ before.reads c.in_ok-found.ensures.reads;
      dents = λ image tells.
          dentries_more image c.args.blocks.now c.loop-block.block-index c.loop-block.dents.items c.in_ok-found.found.items c.add_dents.new.dents.items c.loop-block-test.true (before.dents image tells)
          (c.in_ok-found.ensures.dents image (tells_on _ _ image before.reads.kept tells)) (c.in_ok-found.ensures.whole image (tells_on _ _ image before.reads.kept tells)) c.in_ok-add_dents.ensures.dents;
      fit = All-same IsFitDent _ _ c.in_ok-add_dents.ensures.dents (All-append IsFitDent c.loop-block.dents.items c.in_ok-found.found.items before.fit c.in_ok-add_dents.ensures.fit);
    }

pub returns-clause-dents : goal.returns-clause-dents
returns-clause-dents g c image ckpt directory tells are =
    dents_of_blocks image c.args.blocks.now c.loop-block.dents.items
    (dentries_all image c.args.blocks.now c.loop-block.block-index c.loop-block.dents.items (omega (arith, c.loop-block-test.false)) (c.loop-block.invariant.dents image tells)) ckpt directory are
