-- A file cut at a size: the pages that go, the page that is cut, and the direct nodes that go or stay.
use Rattle.std.specs.Prelude.{ℕ, ◌/◌, ◌%◌, Bool, not, ◌&&◌, nat_lt, if◌then◌else◌, ◌==◌, List, [], ◌∷◌}
use Rattle.std.specs.List.{list_any, filter}
use Rattle.std.specs.Ordering.{nat_cmp}
use Rattle.std.specs.FinMap as map
use Rattle.f2_model.specs.Content.{PAGE, begins_before}
use Rattle.f2_model.specs.State.{directs_of}
use Rattle.f2_files.specs.declared.shapes.Shape.{Shape}

-- pages with their addresses
abbrev pub Addressed : Type 0
Addressed = map.FinMap nat_cmp ℕ

-- the pages that begin before a size, and the numbers of the others
abbrev pub pages_before : Addressed → ℕ → Addressed
pages_before pages size = map.retain_keys pages (begins_before size)

abbrev pub pages_past : Addressed → ℕ → List ℕ
pages_past pages size = filter (λ page. not (begins_before size page)) (map.keys pages)

-- the page that a smaller size cuts, where it is there
abbrev pub page_cut : Shape → ℕ → List ℕ
page_cut shape size = if nat_lt size shape.size && not (size % PAGE == 0) && map.contains_key shape.pages (size / PAGE) then (size / PAGE) ∷ [] else []

-- whether a direct node has one of some pages
abbrev pub has_page_in : Addressed → ℕ → Bool
has_page_in pages node = list_any (λ other. other == node) (directs_of (map.keys pages))

-- the direct nodes that lose a page: those that keep one, and those that go
abbrev pub nodes_kept : Addressed → ℕ → List ℕ
nodes_kept pages size = filter (has_page_in (pages_before pages size)) (directs_of (pages_past pages size))

abbrev pub nodes_gone : Addressed → ℕ → List ℕ
nodes_gone pages size = filter (λ node. not (has_page_in (pages_before pages size) node)) (directs_of (pages_past pages size))
