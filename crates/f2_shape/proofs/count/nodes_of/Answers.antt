use Rattle.std.proofs.Common.{◌<◌, ap, ◌∙◌, get_or}
use Rattle.std.proofs.lemmas.List.Elements.{All-get_or}
use Rattle.f2_format.specs.Offsets.{page_limit}
use Rattle.f2_shape.specs.declared.path.Route.{Route}
use Rattle.f2_shape.proofs.Counted.{CountedTo-none, CountedTo-more}
use Rattle.f2_shape.proofs.Places.{places-nodes_of_page}
use Rattle.f2_shape.proofs.count.nodes_of.Goals as goal

pub loop-page-init : goal.loop-page-init
loop-page-init c = CountedTo-none c.args.pages.now

pub loop-page-preserved : goal.loop-page-preserved
loop-page-preserved c =
    let page = get_or c.args.pages.now c.loop-page.page-index 0 in
    let below : page < page_limit = All-get_or (λ p. p < page_limit) c.args.pages.now c.loop-page.page-index 0 c.loop-page-test.true c.requires.below in
    let nodes = ap (λ (r : Route). r.nodes) c.route_to.ensures ∙ places-nodes_of_page page below in
    rw c.changes-count.ensures
    (CountedTo-more c.args.pages.now c.loop-page.page-index c.loop-page.count c.loop-page.before c.route_to.result.nodes c.loop-page.invariant c.loop-page-test.true c.requires.rising below nodes)
