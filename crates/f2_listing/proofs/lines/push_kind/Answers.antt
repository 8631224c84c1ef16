use Rattle.std.proofs.Common.{◌≡◌, sym, subst, ◌∙◌, rules}
use Rattle.f2_found.specs.Pages.{AreAt}
use Rattle.f2_model.specs.declared.rows.Kind.TheVariants.{Regular}
use Rattle.f2_listing.proofs.PageWeights.{count_listed}
use Rattle.f2_listing.proofs.DentLines.{file_text}
use Rattle.f2_listing.proofs.lines.push_kind.Goals as goal

pub returns-clause-text : goal.returns-clause-text
returns-clause-text g c image row tells is =
    let kind : c.args.found.now.kind ≡ Regular = search rules in
    let at : AreAt image row.pages c.as_slice-pages.result.now = subst (AreAt image row.pages) (sym c.as_slice-pages.ensures.list) is.pages in
    file_text c.args.text.now.items _ _ _ _ row _ _ _ (sym is.kind ∙ kind) is.size (count_listed image row.pages c.as_slice-pages.result.now at) (c.in_ok-weight.ensures.weight image row.pages tells at)
    c.in_ok-extend_from_slice-2.ensures.items c.in_ok-push_argument.ensures c.in_ok-push_argument-2.ensures c.in_ok-push_argument-3.ensures
