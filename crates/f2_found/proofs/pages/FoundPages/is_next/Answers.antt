use Rattle.std.proofs.Common.{◌<◌, List, sym, subst, ◌∙◌, arith, ltb-true, lt-ltb}
use Rattle.f2_format.specs.Offsets.{page_limit}
use Rattle.f2_recover.specs.Seeing.{no_page}
use Rattle.f2_recover.specs.declared.nodes.PageAt.{PageAt}
use Rattle.f2_found.specs.Pages.{AreInOrder, IsNext}
use Rattle.f2_found.proofs.Orders.{behind_last, last_below}
use Rattle.f2_found.proofs.pages.FoundPages.is_next.Goals as goal

pub returns-then-within-clause-next : goal.returns-then-within-clause-next
returns-then-within-clause-next c test =
    let list = c.deref.result.now in
    let item = c.in-Some.ensures.item in
    let order : AreInOrder list = subst (λ (xs : List PageAt). AreInOrder xs) (sym c.deref.ensures.value) c.self.invariant in
    let within : c.args.page < page_limit = omega (arith, c.if-within.true, c.from-within.ensures) in
    subst (λ (xs : List PageAt). IsNext xs c.args.page) (c.deref.ensures.value ∙ c.self.view_is)
    (behind_last list order c.in-Some.last.now no_page c.args.page item.3.0 (sym (item.3.1 no_page)) within (ltb-true c.in-Some.last.now.page c.args.page test))

pub returns-then-within-clause-passed : goal.returns-then-within-clause-passed
returns-then-within-clause-passed c next =
    let list = c.deref.result.now in
    let item = c.in-Some.ensures.item in
    lt-ltb c.in-Some.last.now.page c.args.page
    (last_below list c.in-Some.last.now no_page c.args.page item.3.0 (sym (item.3.1 no_page)) (subst (λ (xs : List PageAt). IsNext xs c.args.page) (sym (c.deref.ensures.value ∙ c.self.view_is)) next))
