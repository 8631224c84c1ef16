use Rattle.std.proofs.Common.{◌≡◌, ◌++◌, ℕ, List, ap, sym, ◌∙◌}
use Rattle.std.specs.List.{flat_map}
use Rattle.std.specs.FinMap as map
use Rattle.std.specs.FinSet as set
use Rattle.f2_format.specs.Offsets.{node_count}
use Rattle.f2_model.specs.Content.{pages_of_piece}
use Rattle.f2_call_size.specs.Beyond.{listed}
use Rattle.f2_call_size.proofs.FilePages.{more_by_pieces}
use Rattle.f2_call_size.proofs.files.size_of_pieces.Goals as goal

pub returns-clause-more : goal.returns-clause-more
returns-clause-more c = λ one alike file.
    let own : List ℕ = map.keys c.args.row.now.pages in
    let reached : List ℕ = flat_map pages_of_piece c.args.pieces.now in
    let first : c.as_slice.result.now ≡ reached = c.as_slice.ensures.value ∙ c.in_ok-pages.ensures in
    let second : c.as_slice-2.result.now ≡ reached = c.as_slice-2.ensures.value ∙ c.in_ok-pages.ensures in
    more_by_pieces c.args.row.now one alike file c.args.pieces.now (record { nodes = c.in_ok-nodes.nodes; pages = c.in_ok-pages-2.pages })
    (sym (ap (λ (xs : List ℕ). node_count (own ++ xs)) first) ∙ c.in_ok-nodes.ensures.nodes)
    (sym (ap (λ (xs : List ℕ). set.len (listed (own ++ xs))) second) ∙ c.in_ok-pages-2.ensures.pages)
