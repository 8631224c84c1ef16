use Rattle.std.proofs.Common.{length, arith}
use Rattle.f2_blocks.specs.Blocks.{address_of}
use Rattle.f2_blocks.proofs.Words.{AreFilled-all, words_of-is}
use Rattle.f2_blocks.proofs.blocks.put_addresses.Goals as goal

pub returns-clause-written : goal.returns-clause-written
returns-clause-written g c =
    words_of-is (address_of (g.P.PageAddresses.addresses c.args.index.now)) c.loop-page.into (length c.args.into.now) (omega arith) (λ k h. c.loop-page.invariant.addresses k (omega arith))

pub returns-clause-fit : goal.returns-clause-fit
returns-clause-fit g c =
    AreFilled-all (address_of (g.P.PageAddresses.addresses c.args.index.now)) c.loop-page.into c.loop-page.page c.loop-page.invariant (omega arith)
