use Rattle.std.proofs.Common.{◌≡◌, arith, subst}
use Rattle.f2_play.specs.Calls.{Generates, none}
use Rattle.f2_reference_run.specs.Runs.{Leads}
use Rattle.f2_reference_run.proofs.Playing.{if_ok, leads_none, drawn_seated, generated, says_gen}
use Rattle.f2_reference_run.proofs.player.Player.generate.Goals as goal

pub loop-init : goal.loop-init
loop-init c = record { made = leads_none _ _ none; few = omega arith }

pub call-requires : goal.call-requires
call-requires c = drawn_seated _ _ c.in_ok-next.ensures.seat

pub loop-preserved : goal.loop-preserved
loop-preserved c =
    let called = c.in_ok-next.ensures in
    record {
      made = generated _ _ _ _ _ _ _ _ _ _ _ _ c.loop.invariant.made called.number called.seat called.call c.in_ok-last.ensures c.fine_of-fine.ensures.value;
      few = omega (arith, c.loop.invariant.few, c.fine_of-fine.ensures.most);
    }

pub returns : goal.returns
returns c =
    let ended : c.loop.counter ≡ c.args.count = omega (arith, c.loop.auto.counter-end, c.loop-test.false) in
    let all = subst (λ n. Leads (Generates c.args.start n c.loop.x c.loop.fine) c.args.self.now c.loop.self) ended c.loop.invariant.made in
    if_ok _ _ c.counted_text.result (λ text said. says_gen c.args.start c.args.count c.loop.x c.loop.fine c.args.self.now c.loop.self text.items all said) c.counted_text.ensures
