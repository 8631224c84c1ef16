use Rattle.std.proofs.Common.{◌≡◌, ◌+◌, ◌≤◌, min, sym, ap, ◌∙◌, arith}
use Rattle.f2_format.specs.Offsets.{page_limit}
use Rattle.f2_held.proofs.FirstPages.{used-is, used-Some, used-None}
use Rattle.f2_tree_size.proofs.Blocks.{within_limit}
use Rattle.f2_tree_size.proofs.first_pages.nodes_of_first.Goals as goal

pub returns-then-within-eq0 : goal.returns-then-within-eq0
returns-then-within-eq0 c =
    let within : 0 ≡ min c.args.pages page_limit = sym c.if-within-eq0.true ∙ c.min-within.ensures in
    used-is 0 (omega arith) ∙ within_limit c.args.pages 0 within

pub returns-in-Some : goal.returns-in-Some
returns-in-Some c =
    let pages = c.min-within.result in
    let fits : pages ≤ page_limit = omega (arith, c.min-within.ensures) in
    ap (λ n. n + 1) c.from.ensures
    ∙ used-Some pages c.in-Some.offset (λ e. c.if-within-eq0.false e) fits (sym c.direct_of.ensures ∙ c.in-Some.is)
    ∙ used-is pages fits
    ∙ within_limit c.args.pages pages c.min-within.ensures

pub returns-in-None : goal.returns-in-None
returns-in-None c =
    let pages = c.min-within.result in
    let fits : pages ≤ page_limit = omega (arith, c.min-within.ensures) in
    used-None pages (λ e. c.if-within-eq0.false e) fits (sym c.direct_of.ensures ∙ c.in-None.is)
    ∙ used-is pages fits
    ∙ within_limit c.args.pages pages c.min-within.ensures
