-- Which pages are there.
use Rattle.std.specs.Prelude.{ℕ, IsTrue}
use Rattle.std.specs.FinMap as map
use Rattle.f2_model.specs.Content.{PageMap}

-- some pages have each page that others have
abbrev pub HasPagesOf : PageMap → PageMap → Type 0
HasPagesOf pages others = (page : ℕ) → IsTrue (map.contains_key others page) → IsTrue (map.contains_key pages page)
