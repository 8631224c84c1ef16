-- The pages of a row, with the addresses at which they stand.
use Rattle.std.specs.Prelude.{◌≡◌, ℕ, ◌<◌, List, All, map as map_list}
use Rattle.std.specs.List.Sorted.{IsStrictlyIncreasing}
use Rattle.std.specs.FinMap as map
use Rattle.f2_format.specs.Offsets.{page_limit}
use Rattle.f2_image.specs.Images.{Image, block_at}
use Rattle.f2_model.specs.Content.{PageMap}
use Rattle.f2_recover.specs.declared.nodes.PageAt.{PageAt}

-- the page numbers of a list
abbrev pub numbers_of : List PageAt → List ℕ
numbers_of pages = map_list (λ listed. listed.page) pages

-- pages that a file can have, each behind the one before
pub record AreInOrder (pages : List PageAt) : Type 0 where
  pub rising : IsStrictlyIncreasing (numbers_of pages)
  pub within : All (λ page. page < page_limit) (numbers_of pages)

-- a page that a file can have, and that stands behind all of a list
pub record IsNext (pages : List PageAt) (page : ℕ) : Type 0 where
  pub behind : All (λ other. other < page) (numbers_of pages)
  pub within : page < page_limit

-- the pages of a file stand in an image at the addresses of a list
abbrev pub AreAt : Image → PageMap → List PageAt → Type 0
AreAt image pages list = map.entries pages ≡ map_list (λ listed. (listed.page, block_at image listed.at)) list
