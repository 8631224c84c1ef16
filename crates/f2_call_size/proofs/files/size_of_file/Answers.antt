use Rattle.std.proofs.Common.{◌≡◌, ◌+◌, ap, ◌∙◌, arith}
use Rattle.f2_held.specs.Recovered.{size_of_file}
use Rattle.f2_model.specs.Fallback.{Both, sum_of}
use Rattle.f2_call_size.proofs.FilePages.{emptied}
use Rattle.f2_call_size.proofs.files.size_of_file.Goals as goal

pub returns-clause-size : goal.returns-clause-size
returns-clause-size c = λ one alike file.
    let own : Both = c.in_ok-pages.pages in
    let inside = c.pages.view_is in
    let whole : size_of_file one ≡ sum_of (record { nodes = 1; pages = 0 }) own = c.in_ok-pages.ensures.more one alike file ∙ ap (λ less. sum_of less own) (emptied one) in
    let nodes : c.pages.inside.nodes + 1 ≡ (size_of_file one).nodes = omega (arith, ap (λ (b : Both). b.nodes) inside, ap (λ (b : Both). b.nodes) whole) in
    let pages : c.pages.inside.pages ≡ (size_of_file one).pages = omega (arith, ap (λ (b : Both). b.pages) inside, ap (λ (b : Both). b.pages) whole) in
    λ i. record { nodes = nodes i; pages = pages i }
