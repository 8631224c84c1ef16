use Rattle.std.proofs.Common.{◌≡◌, ◌++◌, ℕ, List, length, ap, sym, ◌∙◌}
use Rattle.f2_format.specs.Offsets.{node_count}
use Rattle.f2_call_size.specs.Beyond.{pages_below, pages_from}
use Rattle.f2_call_size.proofs.FilePages.{less_by_cut}
use Rattle.f2_call_size.proofs.files.size_of_cut.Goals as goal

pub returns-clause-more : goal.returns-clause-more
returns-clause-more c = λ one alike file.
    let own = c.args.row.now.pages in
    let end : ℕ = c.pages_to-end.result in
    let lost : c.as_slice-lost.result.now ≡ pages_from own end = c.as_slice-lost.ensures.value ∙ c.in_ok-numbers.ensures in
    less_by_cut c.args.row.now one alike file c.args.size end c.pages_to-end.ensures (record { nodes = c.in_ok-nodes.nodes; pages = length c.as_slice-lost.result.now })
    (sym (ap (λ (xs : List ℕ). node_count (pages_below own end ++ xs)) lost) ∙ c.in_ok-nodes.ensures.nodes)
    (ap (λ (xs : List ℕ). length xs) lost)
