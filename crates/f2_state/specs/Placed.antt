-- The addresses of pages that a volume knows.
use Rattle.std.specs.Prelude.{◌≡◌, ℕ, ◌<◌, Some}
use Rattle.std.specs.FinMap as map
use Rattle.f2_format.specs.Geometry.{ImageGeometry}
use Rattle.f2_files.specs.Known.{Known}
use Rattle.f2_files.specs.Shape.{address_in}
use Rattle.f2_stored.specs.Places.{Places}

-- the pages of the tree stand where the files know them
abbrev pub ArePagesPlaced : Known → Places → Type 0
ArePagesPlaced known places = (ino page : ℕ) → address_in page (map.get known.shapes ino) ≡ map.get places.pages (ino, page)

-- each address that the files know is within an image of these sizes
abbrev pub ArePagesWithin : ImageGeometry → Known → Type 0
ArePagesWithin geom known = (ino page at : ℕ) → address_in page (map.get known.shapes ino) ≡ Some at → at < geom.blocks
