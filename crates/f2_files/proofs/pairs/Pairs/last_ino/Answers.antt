use Rattle.std.proofs.Common.{◌≡◌, ◌∙◌, ◌++◌, [], ◌∷◌, List, sym, subst}
use Rattle.std.specs.Prelude.{None, nat_lt}
use Rattle.std.specs.List.{find}
use Rattle.std.specs.List.Sorted.{IsStrictlySortedBy}
use Rattle.f2_model.specs.State.{pair_cmp}
use Rattle.f2_flights.proofs.SetViews.{pair_cmp_total, pair_cmp-IsAntisymmetric, keys-items}
use Rattle.f2_files.proofs.PairOrder.{Pair}
use Rattle.f2_files.proofs.Thawed.{if_none, last_most}
use Rattle.f2_files.proofs.pairs.Pairs.last_ino.Goals as goal

pub returns-in_err-pair-clause-none : goal.returns-in_err-pair-clause-none
returns-in_err-pair-clause-none c =
    let items = keys-items pair_cmp_total pair_cmp-IsAntisymmetric _ _ c.self.view_is c.iter.ensures.ordered in
    if_none c.from_residual.result (sym items ∙ sym c.iter.ensures.rest ∙ c.in_err-pair.ensures.steps.0)

pub returns-clause-last : goal.returns-clause-last
returns-clause-last c =
    let keys : List Pair = c.self.inside.pairs.keys in
    let last : Pair = c.in_ok-pair.pair.now in
    let items = keys-items pair_cmp_total pair_cmp-IsAntisymmetric _ _ c.self.view_is c.iter.ensures.ordered in
    let ends : keys ≡ c.next_back.new.self ++ last ∷ [] = sym c.iter.ensures.rest ∙ c.in_ok-pair.ensures.steps in
    subst (λ (xs : List Pair). find (λ (q : Pair). nat_lt last.0 q.0) xs ≡ None) items
    (subst (λ (xs : List Pair). find (λ (q : Pair). nat_lt last.0 q.0) xs ≡ None) (sym ends)
    (last_most c.next_back.new.self last (subst (λ (xs : List Pair). IsStrictlySortedBy pair_cmp xs) ends c.iter.ensures.ordered)))
