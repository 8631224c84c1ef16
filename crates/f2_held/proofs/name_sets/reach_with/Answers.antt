use Rattle.std.proofs.Common.{◌∙◌, ◌-◌, ap, take, drop, length, arith}
use Rattle.std.proofs.lemmas.List.{take_all, length-drop}
use Rattle.f2_format.specs.Packing.{nothing_packed, place_after, place_after_all}
use Rattle.f2_held.proofs.NameLemmas.{reached-with_at, reached-behind}
use Rattle.f2_held.proofs.name_sets.reach_with.Goals as goal

pub returns-then-at-names-clause-place : goal.returns-then-at-names-clause-place
returns-then-at-names-clause-place c = c.after.ensures.place ∙ reached-behind c.args.names.now c.args.reach c.args.at c.args.name.now c.requires.names c.if-at-names.true

pub returns-clause-place : goal.returns-clause-place
returns-clause-place c =
    c.after_all-2.ensures.place
    ∙ ap (λ reach. place_after_all reach (take (length c.args.names.now - c.args.at) (drop c.args.at c.args.names.now))) (c.after-2.ensures.place ∙ ap (λ reach. place_after reach c.args.name.now) c.after_all.ensures.place)
    ∙ ap (place_after_all (place_after (place_after_all nothing_packed (take c.args.at c.args.names.now)) c.args.name.now)) (take_all (length c.args.names.now - c.args.at) (drop c.args.at c.args.names.now) (omega (arith, length-drop c.args.at c.args.names.now)))
    ∙ reached-with_at c.args.names.now c.args.at c.args.name.now nothing_packed
