use Rattle.std.proofs.Common.{◌≡◌, ℕ, ◌&&◌, true, Bool, List, map as list_map, rules, ap, ◌∙◌}
use Rattle.std.specs.List.{filter}
use Rattle.std.specs.Ordering.{nat_cmp, is_le}
use Rattle.std.specs.FinMap as map
use Rattle.std.proofs.lemmas.Result.{IfOk-weaker}
use Rattle.f2_model.proofs.MapViews.{keys_of-seen}
use Rattle.f2_files.proofs.PageOrder.{filter_keys, from_bound}
use Rattle.f2_files.proofs.addresses.Addresses.numbers_from.Goals as goal

pub returns : goal.returns
returns c =
    let entries : List (ℕ × ℕ) = c.self.inside.pages.entries in
    let from = c.args.from in
    let between : c.range.result ≡ filter (λ (e : ℕ × ℕ). is_le (nat_cmp from e.0) && true) entries = c.range.ensures.between tt in
    IfOk-weaker c.collect.result (λ numbers. numbers.items ≡ list_map (λ (e : ℕ × ℕ). e.0) c.range.result) _
    (λ numbers e. e
    ∙ ap (list_map (λ (e : ℕ × ℕ). e.0)) between
    ∙ filter_keys (λ q. is_le (nat_cmp from q) && true) entries
    ∙ ap (filter (λ q. is_le (nat_cmp from q) && true)) (keys_of-seen entries _ c.self.view_is c.range.ensures.ordered)
    ∙ ap (λ (p : ℕ → Bool). filter p (map.keys c.args.self.now)) (from_bound from)) (search rules)
