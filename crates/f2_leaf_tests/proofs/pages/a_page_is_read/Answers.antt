use Rattle.std.proofs.Common.{ap, ◌∙◌}
use Rattle.std.specs.FinMap as map
use Rattle.f2_pages.specs.Kept.{Kept, page_cmp}
use Rattle.f2_leaf_tests.proofs.pages.a_page_is_read.Goals as goal

pub read-requires-clause-current : goal.read-requires-clause-current
read-requires-clause-current g =
    let none = ap (λ (k : Kept). map.get k.clean (4, 0)) g.in_ok-store.ensures ∙ map.get-empty page_cmp (4, 0) in
    rw none tt
