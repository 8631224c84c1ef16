use Rattle.std.proofs.Common.{◌≡◌, ℕ, ◌&&◌, not, Bool, List, ap, sym, ◌∙◌}
use Rattle.std.specs.List.{filter, list_any}
use Rattle.std.specs.Map.Iter.{deref_pair}
use Rattle.std.specs.Ordering.{nat_cmp, is_le}
use Rattle.std.specs.FinMap as map
use Rattle.std.proofs.lemmas.Bool.{le-ltb}
use Rattle.f2_model.proofs.MapViews.{keys_of-seen}
use Rattle.f2_files.proofs.PageOrder.{any_keys, both_bounds, next_any, none_between}
use Rattle.f2_files.proofs.addresses.Addresses.has_between.Goals as goal

pub returns-then-from-to : goal.returns-then-from-to
returns-then-from-to c =
    let entries : List (ℕ × ℕ) = c.self.inside.pages.entries in
    let from = c.args.from in
    let to = c.args.to in
    let between : c.range.result ≡ filter (λ (e : ℕ × ℕ). is_le (nat_cmp from e.0) && not (is_le (nat_cmp to e.0))) entries = c.range.ensures.between tt in
    c.is_some.ensures
    ∙ next_any deref_pair c.next.result c.range.result c.next.new.self c.next.ensures.steps (λ (e : ℕ × ℕ). is_le (nat_cmp from e.0) && not (is_le (nat_cmp to e.0))) entries between
    ∙ any_keys (λ q. is_le (nat_cmp from q) && not (is_le (nat_cmp to q))) entries
    ∙ ap (list_any (λ q. is_le (nat_cmp from q) && not (is_le (nat_cmp to q)))) (keys_of-seen entries _ c.self.view_is c.range.ensures.ordered)
    ∙ ap (λ (p : ℕ → Bool). list_any p (map.keys c.args.self.now)) (both_bounds from to)

pub returns-else-from-to : goal.returns-else-from-to
returns-else-from-to c = le-ltb c.args.from c.args.to c.if-from-to.false ∙ sym (none_between c.args.from c.args.to c.if-from-to.false (map.keys c.args.self.now))
