-- The pages that a write brings to a file.
use Rattle.std.specs.Prelude.{ℕ, not, List}
use Rattle.std.specs.List.{filter}
use Rattle.std.specs.FinMap as map
use Rattle.f2_model.specs.Content.{PageMap, put_pieces}
use Rattle.f2_model.specs.declared.requests.Piece.{Piece}

-- the pages that a file has once pieces are put and doesn't have before, rising
abbrev pub fresh_pages : PageMap → List Piece → List ℕ
fresh_pages pages pieces = filter (λ page. not (map.contains_key pages page)) (map.keys (put_pieces pages pieces))
