use Rattle.std.proofs.Common.{◌≡◌, length, subst, arith}
use Rattle.f2_overlay.proofs.Copies.{AreCopiedTo, copied_none, copied_more, copied_all}
use Rattle.f2_overlay.proofs.marks.addresses_of.Goals as goal

pub loop-listed-init : goal.loop-listed-init
loop-listed-init c limit pages is = copied_none limit pages c.args.list.now is _ c.new-addresses.ensures

pub loop-listed-preserved : goal.loop-listed-preserved
loop-listed-preserved c limit pages is = copied_more limit pages c.args.list.now is c.loop-listed.listed-index _ _ c.loop-listed-test.true (c.loop-listed.invariant limit pages is) c.in_ok-set.ensures.ok

pub returns : goal.returns
returns c limit pages is =
    let ended : c.loop-listed.listed-index ≡ length c.args.list.now = omega (arith, c.loop-listed-test.false, c.loop-listed.auto.listed-index-end) in
    copied_all limit pages c.args.list.now is c.loop-listed.addresses (subst (λ n. AreCopiedTo pages c.args.list.now n c.loop-listed.addresses) ended (c.loop-listed.invariant limit pages is))
