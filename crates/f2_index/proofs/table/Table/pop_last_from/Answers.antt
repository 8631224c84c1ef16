use Rattle.std.proofs.Common.{◌≡◌, ◌≤◌, ℕ, None, true, false, arith, ap, sym, is_some, ◌∙◌}
use Rattle.std.specs.FinMap as map
use Rattle.f2_index.proofs.Tables.{get-view, if_none, none_above, none_in_empty}
use Rattle.f2_index.proofs.table.Table.pop_last_from.Goals as goal

pub returns-in_err-last-clause-none : goal.returns-in_err-last-clause-none
returns-in_err-last-clause-none g c =
    if_none c.from_residual.result ((key : ℕ) → c.args.from ≤ key → map.get c.args.self.now key ≡ None)
    (λ q _. ap (λ m. map.get m q) (sym c.self.view_is)
    ∙ none_in_empty c.self.inside.entries.entries (λ some. let wrong : ◌≡◌ false true = c.in_err-last.ensures.variant.1 some in cc) q)

pub returns-then-last-from-clause-none : goal.returns-then-last-from-clause-none
returns-then-last-from-clause-none g c = λ q after.
    ap (λ m. map.get m q) (sym c.self.view_is)
    ∙ none_above c.self.inside.entries.entries c.in_ok-last.field-0-0.now q (c.in_ok-last.ensures.greatest q) (omega arith)

pub returns-clause-last : goal.returns-clause-last
returns-clause-last g c =
    record {
      from_here = c.if-last-from.false;
      there =
          let found = ap (λ m. map.get m c.in_ok-last.field-0-0.now) (sym c.self.view_is) ∙ get-view c.self.inside.entries.entries c.in_ok-last.field-0-0.now ∙ c.in_ok-last.ensures.value in
          ap is_some found;
      greatest = λ q after. ap (λ m. map.get m q) (sym c.self.view_is)
          ∙ none_above c.self.inside.entries.entries c.in_ok-last.field-0-0.now q (c.in_ok-last.ensures.greatest q) after;
    }
