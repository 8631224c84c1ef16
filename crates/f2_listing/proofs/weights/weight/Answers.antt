use Rattle.std.proofs.Common.{◌<◌, ◌^◌, arith}
use Rattle.f2_listing.proofs.PageWeights.{weight_all}
use Rattle.f2_listing.proofs.weights.weight.Goals as goal

pub returns-clause-weight : goal.returns-clause-weight
returns-clause-weight g c image map tells at =
    let small : c.loop-listed.sum < 2 ^ 64 = omega (arith, c.loop-listed.auto.sum-fits) in
    weight_all image c.args.pages.now c.loop-listed.listed-index c.loop-listed.sum c.loop-listed-test.false small (c.loop-listed.invariant.sum image tells) map at
