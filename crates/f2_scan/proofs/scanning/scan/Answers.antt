use Rattle.std.proofs.Common.{◌≡◌, ◌≤◌, ℕ, IsTrue, length, sym, ◌∙◌, arith, subst}
use Rattle.f2_disk.proofs.UsingLaws.{reads_then}
use Rattle.f2_format.specs.Geometry.{is_in_node, node_third}
use Rattle.f2_image.specs.Chains.{Logged}
use Rattle.f2_scan.specs.Logs.{IsRight}
use Rattle.f2_scan.proofs.Scans.{all_more, ends, ends_at, fault_holds, goes_on, is_long_at, is_wrong, some_holds}
use Rattle.f2_scan.proofs.scanning.scan.Goals as goal

pub loop-preserved : goal.loop-preserved
loop-preserved g c =
    let before = c.loop.invariant in
    let found = c.in-Some.found in
    let next = c.in_ok-at.ensures in
    let grown = c.in_ok-push.ensures.items in
    let place = some_holds _ found _ c.in-Some.is c.in_ok-found.ensures.place in
    record {
      reads = reads_then _ _ _ _ _ before.reads c.read_logged.ensures.reads;
      count = omega (arith, c.in_ok-push.ensures.len, before.count);
      next = λ some. subst (λ (k : ℕ). IsTrue (is_in_node c.args.g.now k)) (sym next.next) (next.right.next (λ z. some (next.next ∙ z)));
      within = all_more (λ (l : Logged). IsTrue (is_in_node c.args.g.now l.at)) c.loop.log.items _ found grown before.within
          (subst (λ (k : ℕ). IsTrue (is_in_node c.args.g.now k)) (sym place.0) (before.next place.1));
      right = all_more (IsRight c.args.g.now) c.loop.log.items _ found grown before.right next.right;
      walked = goes_on _ _ before.reads.kept c.args.g.now c.args.version c.args.start c.loop.log.items c.loop.at _ before.walked c.in_ok-found.ensures.logged found _ _ c.in-Some.is next.next grown;
    }

pub returns-in_default-clause-chain : goal.returns-in_default-clause-chain
returns-in_default-clause-chain g c =
    let before = c.loop.invariant in
    ends _ _ before.reads.kept c.args.g.now c.args.version c.args.start c.loop.log.items c.loop.at _ before.walked c.in_ok-found.ensures.logged c.in_default.is
    (omega (arith, before.count, c.cn-most.ensures.value, c.loop-test.true))

pub returns-in_err-at-clause-fault : goal.returns-in_err-at-clause-fault
returns-in_err-at-clause-fault g c =
    let before = c.loop.invariant in
    fault_holds _ _ _ c.from_residual-in_err-at.ensures.1
    (is_wrong _ _ before.reads.kept c.args.g.now c.args.version c.args.start c.loop.log.items c.loop.at _ before.walked c.in_ok-found.ensures.logged c.in-Some.found _ c.in-Some.is
    (omega (arith, before.count, c.cn-most.ensures.value, c.loop-test.true)) c.in_err-at.ensures.fault)

pub returns-then-is_some-clause-fault : goal.returns-then-is_some-clause-fault
returns-then-is_some-clause-fault g c =
    let before = c.loop.invariant in
    let third : length c.loop.log.items ≡ node_third c.args.g.now = omega (arith, before.count, c.cn-most.ensures.value) in
    is_long_at _ _ before.reads.kept c.args.g.now c.args.version c.args.start c.loop.log.items c.loop.at _ before.walked c.in_ok-read_logged.ensures.logged
    (sym c.if-is_some.true ∙ c.is_some.ensures) third c.in_ok-read_logged.ensures.place

pub returns-clause-chain : goal.returns-clause-chain
returns-clause-chain g c =
    let before = c.loop.invariant in
    let third : length c.loop.log.items ≤ node_third c.args.g.now = omega (arith, before.count, c.cn-most.ensures.value) in
    ends_at _ _ before.reads.kept c.args.g.now c.args.version c.args.start c.loop.log.items c.loop.at _ before.walked c.in_ok-read_logged.ensures.logged
    (sym c.if-is_some.false ∙ c.is_some.ensures) third
