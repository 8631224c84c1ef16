-- What the pages of a row hold.
use Rattle.std.specs.Prelude.{◌≡◌, ℕ, zero, suc, ◌+◌, List, slice_get, if◌then◌else◌, Option, is_some}
use Rattle.std.specs.FinMap as map
use Rattle.f2_format.specs.Offsets.{inode_pages}
use Rattle.f2_laid.specs.Laid.{HoldsContent}
use Rattle.f2_model.specs.Count.{data_of_row}
use Rattle.f2_model.specs.Tree.{Rows}
use Rattle.f2_model.specs.declared.rows.Row.{Row}
use Rattle.f2_plain_plan.specs.declared.contents.Contents.{Contents}
use Rattle.f2_plain_plan.specs.declared.contents.Contents.TheVariants.{File, Directory}

-- the content of a page
abbrev pub content_at : Contents → ℕ → Option (List ℕ)
content_at (File pages) page = map.get pages.now page
content_at (Directory blocks) page = slice_get blocks.items page

-- how many pages below a number are there
unfoldable pub pages_before : (ℕ → Option (List ℕ)) → ℕ → ℕ
pages_before contents zero = 0
pages_before contents (suc page) = (if is_some (contents page) then 1 else 0) + pages_before contents page

-- contents are a row's, and as many as the row has
pub record IsContentOf (tree : Rows) (row : Row) (contents : ℕ → Option (List ℕ)) : Type 0 where
  pub holds : HoldsContent tree row contents
  pub count : pages_before contents inode_pages ≡ data_of_row (map.values tree) row
