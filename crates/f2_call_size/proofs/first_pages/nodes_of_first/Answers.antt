use Rattle.std.proofs.Common.{◌+◌, ◌∙◌, sym, ap, arith}
use Rattle.f2_held.proofs.FirstPages.{used-is, used-few, used-Some, used-None}
use Rattle.f2_call_size.proofs.first_pages.nodes_of_first.Goals as goal

pub returns-then-pages-eq0-clause-nodes : goal.returns-then-pages-eq0-clause-nodes
returns-then-pages-eq0-clause-nodes c = rw c.if-pages-eq0.true (used-is 0 (omega arith))

pub returns-in-Some-clause-nodes : goal.returns-in-Some-clause-nodes
returns-in-Some-clause-nodes c =
    ap (λ n. n + 1) c.from.ensures ∙ used-Some c.args.pages c.in-Some.offset (λ e. c.if-pages-eq0.false e) c.requires (sym c.direct_of.ensures ∙ c.in-Some.is) ∙ used-is c.args.pages c.requires

pub returns-in-Some-clause-few : goal.returns-in-Some-clause-few
returns-in-Some-clause-few c =
    let same = ap (λ n. n + 1) c.from.ensures ∙ used-Some c.args.pages c.in-Some.offset (λ e. c.if-pages-eq0.false e) c.requires (sym c.direct_of.ensures ∙ c.in-Some.is) in
    omega (arith, same, used-few c.args.pages c.requires)

pub returns-in-None-clause-nodes : goal.returns-in-None-clause-nodes
returns-in-None-clause-nodes c = used-None c.args.pages (λ e. c.if-pages-eq0.false e) c.requires (sym c.direct_of.ensures ∙ c.in-None.is) ∙ used-is c.args.pages c.requires
