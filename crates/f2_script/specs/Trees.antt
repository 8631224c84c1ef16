-- The text that is printed for a tree: a line for each row, depth first, the names of a directory in byte order.
use Rattle.std.specs.Prelude.{ℕ, zero, suc, ◌+◌, ◌*◌, ◌%◌, ◌^◌, if◌then◌else◌, List, [], ◌∷◌, ◌++◌, codes, decimal, Option, Some, None}
use Rattle.std.specs.Option.{unwrap_or}
use Rattle.std.specs.List.{fold, filter, flat_map, sum_by}
use Rattle.std.specs.Ordering.{nat_cmp}
use Rattle.std.specs.Cmp.Lexicographic.{slice_cmp}
use Rattle.std.specs.FinMap as map
use Rattle.f2_model.specs.Content.{PAGE, PageMap}
use Rattle.f2_model.specs.Tree.{Rows, ROOT, MOST_DEPTH, is_directory, is_in}
use Rattle.f2_model.specs.declared.rows.Row.{Row}
use Rattle.f2_model.specs.declared.rows.Kind.{Kind}
use Rattle.f2_model.specs.declared.rows.Kind.TheVariants.{Regular, Directory}
use Rattle.f2_script.specs.Text.{name_text}

-- the sum, over bytes that stand from an offset on, of the byte times its offset plus 1
abbrev pub bytes_weight : ℕ → List ℕ → ℕ
bytes_weight offset [] = 0
bytes_weight offset (b ∷ bytes) = (offset + 1) * b + bytes_weight (offset + 1) bytes

-- the same over the bytes of one page of a file
abbrev pub page_weight : PageMap → ℕ → ℕ
page_weight pages page = bytes_weight (page * PAGE) (unwrap_or (map.get pages page) [])

-- a file's weight: the same over all its pages, modulo 2^64
abbrev pub weight_of : PageMap → ℕ
weight_of pages = sum_by (page_weight pages) (map.keys pages) % 2 ^ 64

-- the rows of a directory by their names, so that its values stand in byte order of the names
abbrev pub rows_in : Rows → ℕ → map.FinMap (slice_cmp nat_cmp) Row
rows_in tree directory = fold (λ rows row. map.insert rows row.name row) map.empty (filter (is_in directory) (map.values tree))

-- a row's path as it is shown: the names from the root on, a `/` before each; the root's has no name and is a `/` alone
abbrev pub shown_path : List ℕ → List ℕ
shown_path [] = 47 ∷ []
shown_path (b ∷ path) = b ∷ path

-- what follows a row's path: a directory's word, or a file's with its size, its number of pages and its weight
abbrev pub kind_text : Kind → Row → List ℕ
kind_text Directory row = codes " dir"
kind_text Regular row = codes " file" ++ 32 ∷ decimal row.size ++ 32 ∷ decimal (map.len row.pages) ++ 32 ∷ decimal (weight_of row.pages)

-- the line of a row
abbrev pub row_line : List ℕ → Row → List ℕ
row_line path row = shown_path path ++ kind_text row.kind row ++ 10 ∷ []

-- the path of a row in a directory
abbrev pub child_path : List ℕ → Row → List ℕ
child_path path child = path ++ 47 ∷ name_text child.name

-- the lines of a row and of all that stands below it, so many levels in all
abbrev pub lines_below : ℕ → Rows → List ℕ → Row → List ℕ
lines_below zero tree path row = []
lines_below (suc levels) tree path row =
    row_line path row ++ (if is_directory row.kind then flat_map (λ child. lines_below levels tree (child_path path child) child) (map.values (rows_in tree row.ino)) else [])

-- the levels of a good tree: the root's, those of the directories below it, and one more for files
abbrev pub LEVELS : ℕ
LEVELS = MOST_DEPTH + 2

-- the lines of a tree, from its root on
abbrev pub root_lines : Rows → Option Row → List ℕ
root_lines tree None = []
root_lines tree (Some root) = lines_below LEVELS tree [] root

-- the text of a tree: a line a row, each directory before what stands in it
abbrev pub tree_spelling : Rows → List ℕ
tree_spelling tree = root_lines tree (map.get tree ROOT)
