-- The names of a directory.
use Rattle.std.specs.Prelude.{ℕ, List, map as map_list}
use Rattle.std.specs.Ordering.{nat_cmp}
use Rattle.std.specs.Cmp.Lexicographic.{slice_cmp}
use Rattle.std.specs.Coded.{Coded, coded×, coded_list, coded_ℕ}
use Rattle.std.specs.FinMap as map
use Rattle.f2_dentry_block.specs.declared.dents.Dent.{Dent}
use Rattle.f2_model.specs.declared.rows.Kind.{Kind}
use Rattle.f2_model.specs.contracts.rows.Kind as coded_kind

-- from each name, in the order of its bytes, to the ino and the kind that it is bound to (this project's own; on the
-- image the names are in dentry blocks, `struct f2fs_dentry_block` of f2fs_fs.h)
abbrev pub Entries : Type 0
Entries = map.FinMap (slice_cmp nat_cmp) (ℕ × Kind)

-- they are stored as a list of names, each with its ino and its kind
abbrev pub entries_code : Coded Entries
entries_code = map.code (coded_list coded_ℕ) (coded× coded_ℕ coded_kind.the_row.coded)

-- all names in order, as `f2_dentry_block::pack` takes them (one `struct f2fs_dir_entry` each)
abbrev pub dents_of : Entries → List Dent
dents_of entries = map_list (λ e. record { name = e.0; ino = e.1.0; kind = e.1.1 }) (map.entries entries)
