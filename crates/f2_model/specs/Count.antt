-- How many nodes and data blocks rows take, counted from page numbers and names alone.
use Rattle.std.specs.Prelude.{ℕ, List}
use Rattle.std.specs.List.{range_with_len, sum_by}
use Rattle.std.specs.FinMap as map
use Rattle.f2_model.specs.Rising.{rising}
use Rattle.f2_format.specs.Offsets.{node_count}
use Rattle.f2_format.specs.Packing.{blocks_of_names}
use Rattle.f2_model.specs.Tree.{Rows, names_in}
use Rattle.f2_model.specs.declared.rows.Row.{Row}
use Rattle.f2_model.specs.declared.rows.Kind.{Kind}
use Rattle.f2_model.specs.declared.rows.Kind.TheVariants.{Regular, Directory}

-- the dentry blocks of a directory that has the names that rows have in it
abbrev pub dentry_blocks : List Row → ℕ → ℕ
dentry_blocks rows directory = blocks_of_names (rising (names_in rows directory))

-- the page numbers of a row of a kind among rows: a directory's dentry blocks count as its pages
abbrev pub page_numbers : Kind → List Row → Row → List ℕ
page_numbers Regular rows row = map.keys row.pages
page_numbers Directory rows row = range_with_len 0 (dentry_blocks rows row.ino)

-- the nodes of a row among rows: its inode and the nodes that its pages need
abbrev pub nodes_of_row : List Row → Row → ℕ
nodes_of_row rows row = node_count (page_numbers row.kind rows row)

-- the data blocks of a row of a kind among rows: a file's pages, a directory's dentry blocks
abbrev pub data_of_kind : Kind → List Row → Row → ℕ
data_of_kind Regular rows row = map.len row.pages
data_of_kind Directory rows row = dentry_blocks rows row.ino

abbrev pub data_of_row : List Row → Row → ℕ
data_of_row rows row = data_of_kind row.kind rows row

-- the nodes and the data blocks of a tree
abbrev pub nodes_of_tree : Rows → ℕ
nodes_of_tree tree = sum_by (nodes_of_row (map.values tree)) (map.values tree)

abbrev pub data_of_tree : Rows → ℕ
data_of_tree tree = sum_by (data_of_row (map.values tree)) (map.values tree)
