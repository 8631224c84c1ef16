use Rattle.std.proofs.Common.{◌≡◌, true, ◌&&◌, List, length, ap, ◌∙◌, rules, tests}
use Rattle.std.specs.List.{filter, take_while, count_by}
use Rattle.std.specs.Ordering.{is_le}
use Rattle.std.proofs.lemmas.Iterator.Consumers.{YieldsList-from_rest, count_from_yields_List}
use Rattle.std.proofs.lemmas.Iterator.Search.{YieldsList-from_take_while}
use Rattle.f2_model.specs.State.{pair_cmp}
use Rattle.f2_spans.proofs.Agreed.{and_true}
use Rattle.f2_flights.proofs.SetViews.{pair_cmp_total, pair_cmp-IsAntisymmetric, keys-items}
use Rattle.f2_files.proofs.Counting.{counted, own}
use Rattle.f2_files.proofs.PairOrder.{Pair, filter_same, from_ino, from_start}
use Rattle.f2_files.proofs.pairs.Pairs.count_of.Goals as goal

pub returns : goal.returns
returns c =
    let keys : List Pair = c.self.inside.pairs.keys in
    let ino = c.args.ino in
    let between : c.range.result ≡ filter (λ (q : Pair). is_le (pair_cmp (ino, 0) q) && true) keys = c.range.ensures.between tt in
    let many : c.count.result ≡ length (take_while (own ino) c.range.result) =
    count_from_yields_List _ c.count.result c.count.ensures.ran (YieldsList-from_take_while _ (own ino) (YieldsList-from_rest c.range.result c.take_while.ensures.source) c.take_while.ensures.closure c.take_while.ensures.done (λ x b q k. search (rules, tests))) in
    many
    ∙ ap (λ (xs : List Pair). length (take_while (own ino) xs)) (between ∙ filter_same (λ (q : Pair). is_le (pair_cmp (ino, 0) q) && true) (from_ino ino) (λ q. ap (λ b. b && true) (from_start ino q) ∙ and_true (from_ino ino q)) keys)
    ∙ counted ino keys c.range.ensures.ordered
    ∙ ap (count_by (own ino)) (keys-items pair_cmp_total pair_cmp-IsAntisymmetric _ _ c.self.view_is c.range.ensures.ordered)
