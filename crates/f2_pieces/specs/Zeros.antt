-- Pages of zeros, put and taken out.
use Rattle.std.specs.Prelude.{ℕ, List}
use Rattle.std.specs.List.{fold}
use Rattle.std.specs.FinMap as map
use Rattle.f2_model.specs.Content.{PageMap, zero_page}

-- pages after a page of zeros was put at each of some numbers
abbrev pub with_zeros : PageMap → List ℕ → PageMap
with_zeros pages numbers = fold (λ left page. map.insert left page zero_page) pages numbers

-- pages after those at some numbers were taken out
abbrev pub without : PageMap → List ℕ → PageMap
without pages numbers = fold (λ left page. map.remove left page) pages numbers
