-- A text that grows by the lines of a row and of all that stands below it.
use Rattle.std.proofs.Common.{◌≡◌, ℕ, List, [], ◌∷◌, ◌++◌, length, refl, sym, ap, subst, subst₂, ◌∙◌, Some, None, append_assoc, append-nil, arith}
use Rattle.std.specs.Prelude.{Option}
use Rattle.std.specs.List.{flat_map}
use Rattle.std.specs.FinMap as map
use Rattle.f2_dentry_block.specs.declared.dents.Dent.{Dent}
use Rattle.f2_dir.specs.Entries.{Entries}
use Rattle.f2_found.specs.Found.{IsFound, IsFoundRow, AreFound, AreKnownIn, AreNamesIn}
use Rattle.f2_found.specs.declared.rows.FoundRow.{FoundRow}
use Rattle.f2_found.specs.declared.found.Found.{Found}
use Rattle.f2_image.specs.Images.{Image}
use Rattle.f2_model.specs.Tree.{Rows}
use Rattle.f2_model.specs.declared.rows.Row.{Row}
use Rattle.f2_model.specs.declared.rows.Kind.TheVariants.{Directory}
use Rattle.f2_script.specs.Text.{name_text}
use Rattle.f2_script.specs.Trees.{shown_path, kind_text, row_line, lines_below}
use Rattle.f2_listing.proofs.DentLines.{lines_at, dent_lines}

-- what is known of a row of a tree that was found, and of a directory
pub found_row : (image : Image) (rows : Rows) (found : Found) (ino : ℕ) (row : Row) (has : FoundRow) → IsFound image rows found → map.get rows ino ≡ Some row → Some has ≡ map.get found.rows ino → IsFoundRow image row has
found_row image rows found ino row has is there got = subst₂ (AreFound image) there (sym got) (is.rows ino)

pub found_names : (image : Image) (rows : Rows) (found : Found) (ino : ℕ) (row : Row) (names : Entries) → IsFound image rows found → map.get rows ino ≡ Some row → row.kind ≡ Directory → Some names ≡ map.get found.names ino → AreNamesIn rows ino names
found_names image rows found ino row names is there kind got = subst (AreKnownIn rows ino) (sym got) (is.names ino row there kind)

-- a row's line at the end of a text
pub line_added : (old shown kind new path : List ℕ) (row : Row) → shown ≡ old ++ shown_path path → kind ≡ shown ++ kind_text row.kind row → new ≡ kind ++ 10 ∷ [] → new ≡ old ++ row_line path row
line_added old shown kind new path row shown_is kind_is new_is =
    new_is
    ∙ ap (λ text. text ++ 10 ∷ []) (kind_is ∙ ap (λ text. text ++ kind_text row.kind row) shown_is ∙ append_assoc old (shown_path path) (kind_text row.kind row))
    ∙ append_assoc old (shown_path path ++ kind_text row.kind row) (10 ∷ [])

-- a line and what follows it, at the end of a text
pub text_after : (old new line rest all : List ℕ) → new ≡ old ++ line → line ++ rest ≡ all → new ++ rest ≡ old ++ all
text_after old new line rest all is whole = ap (λ text. text ++ rest) is ∙ append_assoc old line rest ∙ ap (λ end. old ++ end) whole

-- the lines of a row that may be there, at the end of a text
pub lines_added : (levels : ℕ) (rows : Rows) (path old new : List ℕ) (there : Option Row) → ((row : Row) → there ≡ Some row → new ≡ old ++ lines_below levels rows path row) → (there ≡ None → new ≡ old) → new ≡ old ++ lines_at levels rows path there
lines_added levels rows path old new None some none = none refl ∙ sym (append-nil old)
lines_added levels rows path old new (Some row) some none = some row refl

-- the path of what a dent names
pub path_added : (path start more below : List ℕ) (dent : Dent) → start ≡ path → more ≡ start ++ 47 ∷ [] → below ≡ more ++ name_text dent.name → below ≡ path ++ 47 ∷ name_text dent.name
path_added path start more below dent start_is more_is below_is =
    below_is ∙ ap (λ text. text ++ name_text dent.name) (more_is ∙ ap (λ text. text ++ 47 ∷ []) start_is) ∙ append_assoc path (47 ∷ []) (name_text dent.name)

-- one dent more
pub dent_added : (levels : ℕ) (rows : Rows) (path old new whole : List ℕ) (dent : Dent) (rest left : List Dent) → new ≡ old ++ dent_lines levels rows path dent → left ≡ dent ∷ rest → old ++ flat_map (dent_lines levels rows path) left ≡ whole
    → new ++ flat_map (dent_lines levels rows path) rest ≡ whole
dent_added levels rows path old new whole dent rest left is next before =
    text_after old new (dent_lines levels rows path dent) (flat_map (dent_lines levels rows path) rest) (flat_map (dent_lines levels rows path) left) is (ap (flat_map (dent_lines levels rows path)) (sym next)) ∙ before

-- no dent is left
pub none_left : (levels : ℕ) (rows : Rows) (path text whole : List ℕ) (left : List Dent) → length left ≡ 0 → text ++ flat_map (dent_lines levels rows path) left ≡ whole → text ≡ whole
none_left levels rows path text whole [] none before = sym (append-nil text) ∙ before
none_left levels rows path text whole (dent ∷ left) none before = absurd (omega arith)
