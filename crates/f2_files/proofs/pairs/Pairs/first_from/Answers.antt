use Rattle.std.proofs.Common.{◌≡◌, ap, ◌∙◌, List, true, ◌&&◌}
use Rattle.std.specs.List.{find, filter}
use Rattle.std.specs.Ordering.{is_le}
use Rattle.f2_model.specs.State.{pair_cmp}
use Rattle.f2_spans.proofs.Agreed.{and_true}
use Rattle.f2_flights.proofs.SetViews.{pair_cmp_total, pair_cmp-IsAntisymmetric, keys-items}
use Rattle.f2_files.proofs.PairOrder.{Pair, from_ino, from_start, found_same, next_found}
use Rattle.f2_files.proofs.pairs.Pairs.first_from.Goals as goal

pub returns : goal.returns
returns c =
    let keys : List Pair = c.self.inside.pairs.keys in
    let ino = c.args.ino in
    let between : c.range.result ≡ filter (λ (q : Pair). is_le (pair_cmp (ino, 0) q) && true) keys = c.range.ensures.between tt in
    c.copied.ensures
    ∙ next_found c.next.result c.range.result c.next.new.self c.next.ensures.steps (λ (q : Pair). is_le (pair_cmp (ino, 0) q) && true) keys between
    ∙ found_same (λ (q : Pair). is_le (pair_cmp (ino, 0) q) && true) (from_ino ino) (λ q. ap (λ b. b && true) (from_start ino q) ∙ and_true (from_ino ino q)) keys
    ∙ ap (find (from_ino ino)) (keys-items pair_cmp_total pair_cmp-IsAntisymmetric _ _ c.self.view_is c.range.ensures.ordered)
