use Rattle.std.proofs.Common.{ℕ, not, nat_lt, ap, ◌∙◌}
use Rattle.std.specs.List.{filter}
use Rattle.std.specs.FinMap as map
use Rattle.f2_model.specs.State.{directs_of}
use Rattle.f2_files.specs.Cuts.{has_page_in}
use Rattle.f2_files.proofs.truncates.cut_of.Goals as goal

pub returns-clause-nodes : goal.returns-clause-nodes
returns-clause-nodes c =
    let pages : map.FinMap _ ℕ = c.args.row.now.pages in
    let lost = c.as_slice-2.ensures.value ∙ c.in_ok-lost.ensures ∙ ap directs_of (c.as_slice.ensures.value ∙ c.in_ok-pages.ensures) in
    c.in_ok-nodes.ensures
    ∙ ap (filter (λ node. not (has_page_in (map.retain_keys pages (λ page. nat_lt page c.pages_to-end.result)) node))) lost
    ∙ (λ i. filter (λ node. not (has_page_in (map.retain_keys pages (λ page. c.pages_to-end.ensures page i)) node)) (directs_of (filter (λ page. not (c.pages_to-end.ensures page i)) (map.keys pages))))
