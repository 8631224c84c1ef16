use Rattle.std.proofs.Common.{ap, sym, subst, ◌∙◌, arith}
use Rattle.std.specs.FinMap as map
use Rattle.std.specs.Cmp.{nat_cmp_total}
use Rattle.std.proofs.lemmas.Bool.Decides.{nat_tests}
use Rattle.f2_index.specs.Paged.{Paged, IsCut}
use Rattle.f2_index.specs.Nodes.{dirty_of}
use Rattle.f2_index.proofs.Tables.{if_none}
use Rattle.f2_index.proofs.Indexed.{len_since, shown, same_shown}
use Rattle.f2_index.proofs.Cuts.{AreNodesOf-removed, IsCut-beyond, IsCut-last}
use Rattle.f2_index.proofs.index.Index.cut_last.Goals as goal

pub returns-in_err-page-clause-none : goal.returns-in_err-page-clause-none
returns-in_err-page-clause-none c =
    let was = c.self.inside in
    let now = same_shown (sym c.in_err-page.ensures.unchanged) (λ _. dirty_of was.nodes) in
    if_none c.from_residual.result (IsCut c.args.from c.args.self.now (shown c.pop_last_from.new.self (dirty_of was.nodes)))
    (subst (λ a. IsCut c.args.from a (shown c.pop_last_from.new.self (dirty_of was.nodes))) c.self.view_is
    (subst (IsCut c.args.from (shown was.pages (dirty_of was.nodes))) now
    (IsCut-beyond was.pages was.nodes c.self.invariant c.args.from c.in_err-page.ensures.none)))

pub invariant_of-self-2 : goal.invariant_of-self-2
invariant_of-self-2 c =
    let was = c.self.inside in
    rw (c.in_ok-page.ensures.removed, c.drop_page.ensures)
    (AreNodesOf-removed was.pages was.nodes c.self.invariant c.in_ok-page.page c.in_ok-page.ensures.last.there)

pub returns-clause-cut : goal.returns-clause-cut
returns-clause-cut c =
    let was = c.self.inside in
    let page = c.in_ok-page.page in
    let now = same_shown (sym c.in_ok-page.ensures.removed) (sym (ap dirty_of c.drop_page.ensures)) in
    subst (λ a. IsCut page a (shown c.pop_last_from.new.self (dirty_of c.drop_page.new.nodes))) c.self.view_is
    (subst (IsCut page (shown was.pages (dirty_of was.nodes))) now
    (IsCut-last was.pages was.nodes c.self.invariant c.args.from page c.in_ok-page.ensures.last))

pub returns-clause-shorter : goal.returns-clause-shorter
returns-clause-shorter c =
    let was = c.self.inside in
    let page = c.in_ok-page.page in
    let there = c.in_ok-page.ensures.last.there in
    let some = len_since was.pages page there in
    let less = ap map.len c.in_ok-page.ensures.removed ∙ map.len-remove nat_cmp_total was.pages page in
    let same = ap (λ (v : Paged). map.len v.pages) c.self.view_is in
    grind (arith, nat_tests)
