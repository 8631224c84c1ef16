use Rattle.std.proofs.Common.{◌∙◌, refl, sym, ap, arith, take, [], ◌∷◌, ◌++◌}
use Rattle.std.proofs.lemmas.List.{take_more, take_all}
use Rattle.f2_format.specs.Packing.{place_after, place_after_all}
use Rattle.f2_held.proofs.NameLemmas.{place_after_all-append}
use Rattle.f2_held.proofs.packing.Reach.after_all.Goals as goal

pub loop-name-init : goal.loop-name-init
loop-name-init c = (refl, c.requires.slots, omega arith)

pub after-reach-requires-clause-blocks : goal.after-reach-requires-clause-blocks
after-reach-requires-clause-blocks c = let reached = c.loop-name.invariant.2 in omega (arith, reached, c.requires.blocks, c.loop-name-test.true)

pub after-reach-requires-clause-slots : goal.after-reach-requires-clause-slots
after-reach-requires-clause-slots c = c.loop-name.invariant.1

pub loop-name-preserved : goal.loop-name-preserved
loop-name-preserved c =
    let reached = c.loop-name.invariant.2 in
    let more = c.after-reach.ensures.blocks in (
      c.after-reach.ensures.place
          ∙ ap (λ reach. place_after reach c.name-item.result) c.loop-name.invariant.0
          ∙ sym (place_after_all-append c.args.self (take c.loop-name.name-index c.args.names.now) (c.name-item.result ∷ []))
          ∙ ap (place_after_all c.args.self) (ap (λ name. take c.loop-name.name-index c.args.names.now ++ name ∷ []) c.name-item.is ∙ sym (take_more c.args.names.now c.loop-name.name-index c.name-item.result c.loop-name-test.true)),
      c.after-reach.ensures.slots,
      omega (arith, reached, more),
    )

pub returns-clause-place : goal.returns-clause-place
returns-clause-place c = c.loop-name.invariant.0 ∙ ap (place_after_all c.args.self) (take_all c.loop-name.name-index c.args.names.now c.loop-name-test.false)

pub returns-clause-slots : goal.returns-clause-slots
returns-clause-slots c = c.loop-name.invariant.1

pub returns-clause-blocks : goal.returns-clause-blocks
returns-clause-blocks c = let reached = c.loop-name.invariant.2 in omega (arith, reached, c.loop-name.auto.name-index-end)
