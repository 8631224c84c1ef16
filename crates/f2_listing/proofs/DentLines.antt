-- The lines of the rows that dents name, and those of a directory a level down.
use Rattle.std.proofs.Common.{◌≡◌, ℕ, zero, suc, ◌-◌, ◌<◌, List, [], ◌∷◌, ◌++◌, map as map_list, refl, sym, ap, ap₂, ◌∙◌, Some, None, if◌then◌else◌, codes, decimal, append_assoc, append-nil, arith}
use Rattle.std.specs.Prelude.{Option}
use Rattle.std.specs.List.{AllByRecursion, flat_map}
use Rattle.std.specs.Ordering.{nat_cmp}
use Rattle.std.specs.Cmp.Lexicographic.{slice_cmp, nat_list_cmp_total}
use Rattle.std.specs.FinMap as map
use Rattle.f2_dentry_block.specs.declared.dents.Dent.{Dent}
use Rattle.f2_dir.specs.Entries.{Entries, dents_of}
use Rattle.f2_model.specs.Tree.{Rows, is_directory}
use Rattle.f2_model.specs.declared.rows.Row.{Row}
use Rattle.f2_model.specs.declared.rows.Kind.{Kind}
use Rattle.f2_model.specs.declared.rows.Kind.TheVariants.{Regular, Directory}
use Rattle.f2_found.specs.Found.{AreNamesIn}
use Rattle.f2_script.specs.Text.{name_text}
use Rattle.f2_script.specs.Trees.{kind_text, row_line, rows_in, child_path, lines_below, weight_of}
use Rattle.f2_listing.proofs.Entries.{seen}
use Rattle.f2_listing.proofs.Children.{IsChild, place_of, entries_as, named_entries}

-- the lines of a row that may be there
abbrev pub lines_at : ℕ → Rows → List ℕ → Option Row → List ℕ
lines_at levels tree path None = []
lines_at levels tree path (Some row) = lines_below levels tree path row

-- the lines of what a dent names
abbrev pub dent_lines : ℕ → Rows → List ℕ → Dent → List ℕ
dent_lines levels tree path dent = lines_at levels tree (path ++ 47 ∷ name_text dent.name) (map.get tree dent.ino)

-- the lines of rows a level further down
abbrev pub lines_in : ℕ → Rows → List ℕ → List Row → List ℕ
lines_in levels tree path rows = flat_map (λ child. lines_below levels tree (child_path path child) child) rows

-- the dent of an entry
abbrev dent_of : List ℕ × (ℕ × Kind) → Dent
dent_of e = record { name = e.0; ino = e.1.0; kind = e.1.1 }

module _ (levels : ℕ) (tree : Rows) (path : List ℕ) (names : Entries) where
  entry_lines : (es : List (List ℕ × Row)) → AllByRecursion (λ e. IsChild tree names e.0 e.1) es
      → flat_map (dent_lines levels tree path) (map_list dent_of (seen (slice_cmp nat_cmp) nat_list_cmp_total place_of es)) ≡ lines_in levels tree path (map_list (λ e. e.1) es)
  entry_lines [] all = refl
  entry_lines (e ∷ es) all =
      let one : lines_at levels tree (path ++ 47 ∷ name_text e.0) (map.get tree e.1.ino) ≡ lines_below levels tree (path ++ 47 ∷ name_text e.1.name) e.1 =
      ap (lines_at levels tree (path ++ 47 ∷ name_text e.0)) all.0.there ∙ ap (λ n. lines_below levels tree (path ++ 47 ∷ name_text n) e.1) (sym all.0.named) in
      ap₂ (λ xs ys. xs ++ ys) one (entry_lines es all.1)

  -- what the dents of a directory name are its rows, in the order of their names
  pub directory_lines : (directory : ℕ) → AreNamesIn tree directory names → ((ino : ℕ) (row : Row) → map.get tree ino ≡ Some row → row.ino ≡ ino)
      → flat_map (dent_lines levels tree path) (dents_of names) ≡ lines_in levels tree path (map.values (rows_in tree directory))
  directory_lines directory are own =
      ap (λ es. flat_map (dent_lines levels tree path) (map_list dent_of es)) (entries_as tree directory names are own)
      ∙ entry_lines (map.entries (rows_in tree directory)) (named_entries tree directory names are own)

-- the lines of a row: its own, and for a directory those of its rows
lines-levels : (levels : ℕ) (tree : Rows) (path : List ℕ) (row : Row) → 0 < levels → lines_below levels tree path row ≡ row_line path row ++ (if is_directory row.kind then lines_in (levels - 1) tree path (map.values (rows_in tree row.ino)) else [])
lines-levels zero tree path row some = absurd (omega arith)
lines-levels (suc levels) tree path row some =
    let e : suc levels - 1 ≡ levels = omega arith in
    rw e refl

pub file_lines : (levels : ℕ) (tree : Rows) (path : List ℕ) (row : Row) → 0 < levels → row.kind ≡ Regular → lines_below levels tree path row ≡ row_line path row
file_lines levels tree path row some kind =
    lines-levels levels tree path row some
    ∙ ap (λ k. row_line path row ++ (if is_directory k then lines_in (levels - 1) tree path (map.values (rows_in tree row.ino)) else [])) kind
    ∙ append-nil (row_line path row)

pub directory_lines_below : (levels : ℕ) (tree : Rows) (path : List ℕ) (row : Row) (ino : ℕ) (names : Entries) → 0 < levels → row.kind ≡ Directory → row.ino ≡ ino → AreNamesIn tree ino names
    → ((i : ℕ) (r : Row) → map.get tree i ≡ Some r → r.ino ≡ i)
    → row_line path row ++ flat_map (dent_lines (levels - 1) tree path) (dents_of names) ≡ lines_below levels tree path row
directory_lines_below levels tree path row ino names some kind keyed are own =
    ap (λ lines. row_line path row ++ lines) (directory_lines (levels - 1) tree path names ino are own ∙ ap (λ i. lines_in (levels - 1) tree path (map.values (rows_in tree i))) (sym keyed))
    ∙ ap (λ k. row_line path row ++ (if is_directory k then lines_in (levels - 1) tree path (map.values (rows_in tree row.ino)) else [])) (sym kind)
    ∙ sym (lines-levels levels tree path row some)

-- a file's text, piece after piece
pub file_text : (old name size count new : List ℕ) (row : Row) (bytes pages weight : ℕ) → row.kind ≡ Regular → bytes ≡ row.size → map.len row.pages ≡ pages → weight ≡ weight_of row.pages
    → name ≡ old ++ codes " file" → size ≡ name ++ 32 ∷ decimal bytes → count ≡ size ++ 32 ∷ decimal pages → new ≡ count ++ 32 ∷ decimal weight → new ≡ old ++ kind_text row.kind row
file_text old name size count new row bytes pages weight kind bytes_is pages_is weight_is name_is size_is count_is new_is =
    let file = codes " file" in
    let first = 32 ∷ decimal row.size in
    let second = 32 ∷ decimal (map.len row.pages) in
    let third = 32 ∷ decimal (weight_of row.pages) in
    let name_size : size ≡ (old ++ file) ++ first = size_is ∙ ap₂ (λ xs n. xs ++ 32 ∷ decimal n) name_is bytes_is in
    let all_count : count ≡ ((old ++ file) ++ first) ++ second = count_is ∙ ap₂ (λ xs n. xs ++ 32 ∷ decimal n) name_size (sym pages_is) in
    new_is
    ∙ ap₂ (λ xs n. xs ++ 32 ∷ decimal n) all_count weight_is
    ∙ ap (λ xs. (xs ++ second) ++ third) (append_assoc old file first)
    ∙ ap (λ xs. xs ++ third) (append_assoc old (file ++ first) second)
    ∙ append_assoc old ((file ++ first) ++ second) third
    ∙ ap (λ k. old ++ kind_text k row) (sym kind)
