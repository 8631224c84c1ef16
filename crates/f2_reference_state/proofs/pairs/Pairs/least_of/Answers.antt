use Rattle.std.proofs.Common.{ℕ, ◌==◌, ◌∙◌, ap, rules, tests}
use Rattle.std.specs.List.{find}
use Rattle.std.proofs.lemmas.Iterator.Search.{find_from_yields_List}
use Rattle.std.proofs.lemmas.Iterator.Consumers.{YieldsList-from_rest}
use Rattle.f2_model.specs.Step.{second_of}
use Rattle.f2_flights.proofs.SetViews.{pair_cmp_total, pair_cmp-IsAntisymmetric, keys-items}
use Rattle.f2_reference_state.proofs.pairs.Pairs.least_of.Goals as goal

pub returns-in_err-found : goal.returns-in_err-found
returns-in_err-found c = let found = find_from_yields_List (λ pair. pair.0 == c.args.ino) _ _ c.find.result c.find.ensures.ran (YieldsList-from_rest c.self.inside.pairs.keys c.iter.ensures.rest) (λ x b q k. search (rules, tests)) in
    let items = keys-items pair_cmp_total pair_cmp-IsAntisymmetric _ _ c.self.view_is c.iter.ensures.ordered in
    let least = ap second_of (found ∙ ap (find (λ (pair : ℕ × ℕ). pair.0 == c.args.ino)) items) in
    c.from_residual.ensures ∙ (rw c.in_err-found.was at least)

pub returns : goal.returns
returns c = let found = find_from_yields_List (λ pair. pair.0 == c.args.ino) _ _ c.find.result c.find.ensures.ran (YieldsList-from_rest c.self.inside.pairs.keys c.iter.ensures.rest) (λ x b q k. search (rules, tests)) in
    let items = keys-items pair_cmp_total pair_cmp-IsAntisymmetric _ _ c.self.view_is c.iter.ensures.ordered in
    let least = ap second_of (found ∙ ap (find (λ (pair : ℕ × ℕ). pair.0 == c.args.ino)) items) in
    rw c.in_ok-found.was at least
