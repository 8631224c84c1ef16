use Rattle.std.proofs.Common.{◌≡◌, suc, ◌∙◌, ◌-◌, ◌+◌, ap, take, drop, length, arith}
use Rattle.std.proofs.lemmas.List.{take_all, length-drop}
use Rattle.f2_format.specs.Packing.{nothing_packed, place_after_all}
use Rattle.f2_held.proofs.NameLemmas.{reached-without}
use Rattle.f2_held.proofs.name_sets.reach_without.Goals as goal

pub returns-clause-place : goal.returns-clause-place
returns-clause-place c =
    let next : c.args.at + 1 ≡ suc c.args.at = omega arith in
    c.after_all-2.ensures.place
    ∙ ap (λ reach. place_after_all reach (take (length c.args.names.now - (c.args.at + 1)) (drop (c.args.at + 1) c.args.names.now))) c.after_all.ensures.place
    ∙ ap (place_after_all (place_after_all nothing_packed (take c.args.at c.args.names.now))) (take_all (length c.args.names.now - (c.args.at + 1)) (drop (c.args.at + 1) c.args.names.now) (omega (arith, length-drop (c.args.at + 1) c.args.names.now)))
    ∙ ap (λ from. place_after_all (place_after_all nothing_packed (take c.args.at c.args.names.now)) (drop from c.args.names.now)) next
    ∙ reached-without c.args.names.now c.args.at
