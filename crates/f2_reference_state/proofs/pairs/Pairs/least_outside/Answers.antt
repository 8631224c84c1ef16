use Rattle.std.proofs.Common.{ℕ, ◌==◌, not, ◌∙◌, ap, rules, tests}
use Rattle.std.specs.List.{find, list_any}
use Rattle.std.proofs.lemmas.Iterator.Search.{find_from_yields_List}
use Rattle.std.proofs.lemmas.Iterator.Consumers.{YieldsList-from_rest}
use Rattle.f2_flights.proofs.SetViews.{pair_cmp_total, pair_cmp-IsAntisymmetric, keys-items}
use Rattle.f2_reference_state.proofs.pairs.Pairs.least_outside.Goals as goal

pub returns : goal.returns
returns c = let found = find_from_yields_List (λ pair. not (list_any (λ ino. ino == pair.0) c.args.inos.now)) _ _ c.find.result c.find.ensures.ran (YieldsList-from_rest c.self.inside.pairs.keys c.iter.ensures.rest) (λ x b q k. search (rules, tests)) in
    let items = keys-items pair_cmp_total pair_cmp-IsAntisymmetric _ _ c.self.view_is c.iter.ensures.ordered in
    c.copied.ensures ∙ found ∙ ap (find (λ (pair : ℕ × ℕ). not (list_any (λ ino. ino == pair.0) c.args.inos.now))) items
