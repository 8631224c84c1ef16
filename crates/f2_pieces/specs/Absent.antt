-- Pages that a file doesn't have, put in their order one after another.
use Rattle.std.specs.Prelude.{ℕ, List, if◌then◌else◌}
use Rattle.std.specs.List.{fold}
use Rattle.std.specs.Ordering.{nat_cmp}
use Rattle.std.specs.BTreeSet.{insert_key}
use Rattle.std.specs.FinMap as map
use Rattle.f2_model.specs.Content.{PageMap, pages_of_piece}
use Rattle.f2_model.specs.declared.requests.Piece.{Piece}

-- rising numbers after those of some pages that a file doesn't have were added
abbrev pub with_absent : PageMap → List ℕ → List ℕ → List ℕ
with_absent pages absent numbers = fold (λ left page. if map.contains_key pages page then left else insert_key nat_cmp left page) absent numbers

-- rising numbers after those of the pages that pieces reach and a file doesn't have were added
abbrev pub with_absent_of : PageMap → List ℕ → List Piece → List ℕ
with_absent_of pages absent pieces = fold (λ left piece. with_absent pages left (pages_of_piece piece)) absent pieces
