use Rattle.std.proofs.Common.{◌≡◌, ℕ, ◌+◌, ◌<◌, false, true, sym, ap, ◌∙◌, arith}
use Rattle.std.specs.Prelude.{Option, Some, None, IfNone, is_some, ◌↔◌}
use Rattle.std.specs.Ordering.{nat_cmp}
use Rattle.std.specs.BTreeMap as tree
use Rattle.std.specs.FinMap as map
use Rattle.f2_model.proofs.MapViews.{lookup-seen, seen-remove}
use Rattle.f2_overlay.proofs.Maps.{if_some, if_both, no_entries, one_fewer}
use Rattle.f2_overlay.proofs.pending.Newest.take_one.Goals as goal

none_left : {X : Type 0} (r : Option X) (n : ℕ) (P : Type 0) → ((is_some r ≡ true) ↔ (0 < n)) → (n ≡ 0 → P) → IfNone r P
none_left (Some x) n P variant h = tt
none_left None n P variant h = h (zero n variant.1)
  where
    zero : (n : ℕ) → (0 < n → false ≡ true) → n ≡ 0
    zero n h = grind (arith, h)

pub returns-clause-taken : goal.returns-clause-taken
returns-clause-taken c =
    if_some {X = ℕ × ℕ} c.pop_first.result (λ one. tree.get nat_cmp c.self.inside.places one.0 ≡ Some one.1) (λ one. map.get c.args.self.now one.0 ≡ Some one.1)
    (λ one there. sym (lookup-seen _ _ c.self.view_is one.0) ∙ there) c.pop_first.ensures.value

pub returns-clause-left : goal.returns-clause-left
returns-clause-left c =
    if_some {X = ℕ × ℕ} c.pop_first.result (λ one. tree.Updates nat_cmp c.self.inside.places c.pop_first.new.self one.0 None) (λ one. map.from_entries c.pop_first.new.self.entries ≡ map.remove c.args.self.now one.0)
    (λ one updates. seen-remove _ _ c.self.view_is _ one.0 updates.0) c.pop_first.ensures.updates

pub returns-clause-fewer : goal.returns-clause-fewer
returns-clause-fewer c =
    if_both {X = ℕ × ℕ} c.pop_first.result (λ one. map.get c.args.self.now one.0 ≡ Some one.1) (λ one. map.from_entries c.pop_first.new.self.entries ≡ map.remove c.args.self.now one.0)
    (λ one. map.len c.args.self.now ≡ map.len {R = nat_cmp} (map.from_entries c.pop_first.new.self.entries) + 1)
    (λ one there left. one_fewer c.args.self.now one.0 one.1 there ∙ ap (λ (m : map.FinMap nat_cmp ℕ). map.len m + 1) (sym left))
    (returns-clause-taken c) (returns-clause-left c)

pub returns-clause-none : goal.returns-clause-none
returns-clause-none c = none_left c.pop_first.result _ ((offset : ℕ) → map.get c.args.self.now offset ≡ None) c.pop_first.ensures.variant (λ zero offset. sym (lookup-seen _ _ c.self.view_is offset) ∙ no_entries _ _ zero)
