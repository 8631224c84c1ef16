-- A tree without the contents of its pages, and the trees that it is the shape of.
use Rattle.std.specs.Prelude.{◌≡◌, ℕ, nat_lt, if◌then◌else◌, List, Option, Some, None}
use Rattle.std.specs.List.{fold, range_with_len}
use Rattle.std.specs.Ordering.{nat_cmp}
use Rattle.std.specs.FinMap as map
use Rattle.f2_model.specs.Tree.{Rows}
use Rattle.f2_model.specs.declared.rows.Row.{Row}
use Rattle.f2_model.specs.declared.rows.Kind.{Kind}
use Rattle.f2_model.specs.declared.rows.Kind.TheVariants.{Regular}
use Rattle.f2_files.specs.declared.shapes.Shape.{Shape}

-- rows without contents, by their inos: a page has its address in the place of its bytes, 0 where it was never written
abbrev pub Shapes : Type 0
Shapes = map.FinMap nat_cmp Shape

-- a row has this shape: a file's pages are at the same numbers; those of a directory, which the image has for its names, are none
-- of the tree's
pub record IsShape (shape : Shape) (row : Row) : Type 0 where
  pub ino : shape.ino ≡ row.ino
  pub kind : shape.kind ≡ row.kind
  pub parent : shape.parent ≡ row.parent
  pub name : shape.name ≡ row.name
  pub size : shape.size ≡ row.size
  pub pages : row.kind ≡ Regular → (page : ℕ) → map.contains_key shape.pages page ≡ map.contains_key row.pages page

-- both are there and one is the shape of the other, or neither is there
abbrev pub AreAlike : Option Shape → Option Row → Type 0
AreAlike None None = Unit {0}
AreAlike None (Some row) = ⊥
AreAlike (Some shape) None = ⊥
AreAlike (Some shape) (Some row) = IsShape shape row

-- shapes are those of a tree's rows, ino by ino
pub record IsShapeOf (shapes : Shapes) (tree : Rows) : Type 0 where
  pub each : (ino : ℕ) → AreAlike (map.get shapes ino) (map.get tree ino)

-- the shape of a row that was just made
abbrev pub new_shape : Kind → ℕ → ℕ → List ℕ → Shape
new_shape kind ino parent name = record { ino = ino; kind = kind; parent = parent; name = name; size = 0; pages = map.empty; nids = map.empty }

-- the address of a page, and the nid of a node, of a row that may be there
abbrev pub address_in : ℕ → Option Shape → Option ℕ
address_in page None = None
address_in page (Some shape) = map.get shape.pages page

abbrev pub nid_in : ℕ → Option Shape → Option ℕ
nid_in offset None = None
nid_in offset (Some shape) = map.get shape.nids offset

-- pages of which one is there, with the address 0 where it wasn't, and of which some are
abbrev pub with_page : map.FinMap nat_cmp ℕ → ℕ → map.FinMap nat_cmp ℕ
with_page pages page = if map.contains_key pages page then pages else map.insert pages page 0

abbrev pub with_all_pages : map.FinMap nat_cmp ℕ → List ℕ → map.FinMap nat_cmp ℕ
with_all_pages pages numbers = fold with_page pages numbers

-- pages without some
abbrev pub without_all_pages : map.FinMap nat_cmp ℕ → List ℕ → map.FinMap nat_cmp ℕ
without_all_pages pages numbers = fold (λ left page. map.remove left page) pages numbers

-- the pages below a number: those that were there have their addresses, and the others have 0
abbrev pub first_pages : ℕ → map.FinMap nat_cmp ℕ → map.FinMap nat_cmp ℕ
first_pages end pages = map.retain_keys (with_all_pages pages (range_with_len 0 end)) (λ page. nat_lt page end)
