use Rattle.std.proofs.Common.{◌≡◌, ℕ, ◌+◌, ◌≤◌, ◌==◌, true, false, List, sym, ap, ◌∙◌, arith}
use Rattle.std.specs.Prelude.{Some, nat_lt}
use Rattle.std.specs.List.{filter_map, find, list_any}
use Rattle.std.specs.FinMap as map
use Rattle.std.proofs.lemmas.Bool.{ltb-false}
use Rattle.f2_model.proofs.RisingLemmas.{rises}
use Rattle.f2_model.specs.Fallback.{frozen_ino}
use Rattle.f2_model.specs.Rising.{rising}
use Rattle.f2_files.proofs.PairOrder.{Pair, from_ino}
use Rattle.f2_files.proofs.Thawed.{thawed_from, found_low, none_greater, none_thawed, not_among, one_thawed, skipped}
use Rattle.f2_files.proofs.pairs.Pairs.first_thawed.Goals as goal

pub returns-then-not-is_frozen : goal.returns-then-not-is_frozen
returns-then-not-is_frozen c =
    let frozen = λ (n : ℕ). list_any (λ one. one == n) (filter_map frozen_ino (map.values c.args.flights.now)) in
    let xs : List Pair = rising c.args.self.now in
    let found : find (from_ino c.loop-pair.from) xs ≡ Some c.in-Some.pair = sym c.first_from.ensures ∙ c.in-Some.is in
    let free : frozen c.in-Some.pair.0 ≡ false = sym c.is_frozen.ensures ∙ c.if-not-is_frozen.true in
    sym (c.loop-pair.invariant ∙ one_thawed frozen c.loop-pair.from xs c.in-Some.pair found free)

pub returns-then-pair-last : goal.returns-then-pair-last
returns-then-pair-last c =
    let frozen = λ (n : ℕ). list_any (λ one. one == n) (filter_map frozen_ino (map.values c.args.flights.now)) in
    let xs : List Pair = rising c.args.self.now in
    let found : find (from_ino c.loop-pair.from) xs ≡ Some c.in-Some.pair = sym c.first_from.ensures ∙ c.in-Some.is in
    let kept : frozen c.in-Some.pair.0 ≡ true = sym c.is_frozen.ensures ∙ c.if-not-is_frozen.false in
    let most : c.in-Some.pair.0 ≤ c.in_ok-last.last = ltb-false c.in_ok-last.last c.in-Some.pair.0 (not_among (from_ino c.loop-pair.from) (λ (q : Pair). nat_lt c.in_ok-last.last q.0) xs c.in-Some.pair found c.in_ok-last.ensures.last) in
    let same : c.in-Some.pair.0 ≡ c.in_ok-last.last = omega (arith, most, c.if-pair-last.true) in
    let past = ap (λ (n : ℕ). find (thawed_from frozen (n + 1)) xs) same in
    sym (c.loop-pair.invariant ∙ skipped frozen c.loop-pair.from xs (rises c.args.self.now) c.in-Some.pair found kept ∙ past ∙ none_greater frozen c.in_ok-last.last xs c.in_ok-last.ensures.last)

pub loop-pair-smaller : goal.loop-pair-smaller
loop-pair-smaller c =
    let xs : List Pair = rising c.args.self.now in
    let found : find (from_ino c.loop-pair.from) xs ≡ Some c.in-Some.pair = sym c.first_from.ensures ∙ c.in-Some.is in
    let most : c.in-Some.pair.0 ≤ c.in_ok-last.last = ltb-false c.in_ok-last.last c.in-Some.pair.0 (not_among (from_ino c.loop-pair.from) (λ (q : Pair). nat_lt c.in_ok-last.last q.0) xs c.in-Some.pair found c.in_ok-last.ensures.last) in
    let low : c.loop-pair.from ≤ c.in-Some.pair.0 = found_low c.loop-pair.from xs c.in-Some.pair found in
    omega (arith, most, low)

pub loop-pair-preserved : goal.loop-pair-preserved
loop-pair-preserved c =
    let frozen = λ (n : ℕ). list_any (λ one. one == n) (filter_map frozen_ino (map.values c.args.flights.now)) in
    let xs : List Pair = rising c.args.self.now in
    let found : find (from_ino c.loop-pair.from) xs ≡ Some c.in-Some.pair = sym c.first_from.ensures ∙ c.in-Some.is in
    let kept : frozen c.in-Some.pair.0 ≡ true = sym c.is_frozen.ensures ∙ c.if-not-is_frozen.false in
    c.loop-pair.invariant ∙ skipped frozen c.loop-pair.from xs (rises c.args.self.now) c.in-Some.pair found kept

pub returns : goal.returns
returns c =
    let frozen = λ (n : ℕ). list_any (λ one. one == n) (filter_map frozen_ino (map.values c.args.flights.now)) in
    let xs : List Pair = rising c.args.self.now in
    sym (c.loop-pair.invariant ∙ none_thawed frozen c.loop-pair.from xs (sym c.first_from.ensures ∙ c.in_default.is))
