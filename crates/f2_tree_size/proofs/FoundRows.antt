-- What was found of a row tells what the row takes.
use Rattle.std.proofs.Common.{◌≡◌, ℕ, length, refl, sym, ap, subst, ◌∙◌, Result, Ok, Err, IfOk}
use Rattle.std.specs.Prelude.{Option, Some, None, map as map_list}
use Rattle.std.specs.List.{range_with_len}
use Rattle.std.proofs.lemmas.List.{length-map}
use Rattle.std.proofs.lemmas.Simd.{map-map}
use Rattle.std.specs.FinMap as map
use Rattle.f2_dir.specs.Entries.{Entries}
use Rattle.f2_format.specs.Offsets.{node_count}
use Rattle.f2_format.specs.Packing.{blocks_of_names}
use Rattle.f2_image.specs.Images.{Image}
use Rattle.f2_model.specs.Count.{dentry_blocks, page_numbers, data_of_kind}
use Rattle.f2_model.specs.Fallback.{Both}
use Rattle.f2_model.specs.Rising.{rising}
use Rattle.f2_model.specs.Tree.{Rows, names_in}
use Rattle.f2_model.specs.declared.rows.Row.{Row}
use Rattle.f2_model.specs.declared.rows.Kind.TheVariants.{Regular, Directory}
use Rattle.f2_found.specs.Found.{IsFoundRow, AreFound, AreKnownIn, IsFound}
use Rattle.f2_found.specs.Pages.{numbers_of}
use Rattle.f2_found.specs.declared.found.Found.{Found}
use Rattle.f2_found.specs.declared.rows.FoundRow.{FoundRow}
use Rattle.f2_tree_size.specs.Sizes.{blocks_of_entries}
use Rattle.f2_tree_size.specs.Parts.{nodes_of_part, data_of_part, IsPartOf}
use Rattle.f2_tree_size.proofs.Names.{names_are}

-- what follows of the value in an `Ok` from two facts on it
pub ok_from : {A E : Type 0} {P Q S : A → Type 0} (result : Result A E) → ((value : A) → P value → Q value → S value) → IfOk result P → IfOk result Q → IfOk result S
ok_from (Ok value) next p q = next value p q
ok_from (Err error) next p q = p

module _ (found : Found) (ino : ℕ) (row : FoundRow) (there : map.get found.rows ino ≡ Some row) (size : Both) (image : Image) (tree : Rows) (is : IsFound image tree found) where
  -- the row of a tree that was found so
  of_row : ((own : Row) → map.get tree ino ≡ Some own → IsFoundRow image own row → IsPartOf tree ino size) → IsPartOf tree ino size
  of_row told = by_row (map.get tree ino) refl (subst (λ o. AreFound image (map.get tree ino) o) there (is.rows ino))
    where
      by_row : (o : Option Row) → map.get tree ino ≡ o → AreFound image o (Some row) → IsPartOf tree ino size
      by_row None e h = absurd h
      by_row (Some own) e h = told own e h

  -- a file takes its pages and the nodes that they need
  pub file_part : row.kind ≡ Regular → size.nodes ≡ node_count (numbers_of row.pages) → size.pages ≡ length row.pages → IsPartOf tree ino size
  file_part regular nodes blocks = of_row (λ own e h.
      let rows = map.values tree in
      let kind : Regular ≡ own.kind = sym regular ∙ h.kind in
      let numbers : map.keys own.pages ≡ numbers_of row.pages = ap (map_list (λ e. e.0)) h.pages ∙ map-map _ _ row.pages in
      let count : map.len own.pages ≡ length row.pages = map.len-entries own.pages ∙ ap length h.pages ∙ length-map row.pages _ in
      record {
        nodes = nodes ∙ sym (ap node_count numbers) ∙ ap (λ kind. node_count (page_numbers kind rows own)) kind ∙ sym (ap (nodes_of_part rows) e);
        blocks = blocks ∙ sym count ∙ ap (λ kind. data_of_kind kind rows own) kind ∙ sym (ap (data_of_part rows) e);
      })

  -- a directory takes the blocks that its names fill, and the nodes of these
  pub directory_part : (names : Entries) → row.kind ≡ Directory → map.get found.names ino ≡ Some names → size.nodes ≡ node_count (range_with_len 0 (blocks_of_entries names)) → size.pages ≡ blocks_of_entries names → IsPartOf tree ino size
  directory_part names directory known nodes blocks = of_row (λ own e h.
      let rows = map.values tree in
      let kind : Directory ≡ own.kind = sym directory ∙ h.kind in
      let are = subst (AreKnownIn tree ino) known (is.names ino own e (sym kind)) in
      let filled : dentry_blocks rows own.ino ≡ blocks_of_entries names =
      ap (λ i. blocks_of_names (rising (names_in rows i))) (is.own ino own e) ∙ ap blocks_of_names (names_are tree is.own ino names are) in
      record {
        nodes = nodes ∙ sym (ap (λ n. node_count (range_with_len 0 n)) filled) ∙ ap (λ kind. node_count (page_numbers kind rows own)) kind ∙ sym (ap (nodes_of_part rows) e);
        blocks = blocks ∙ sym filled ∙ ap (λ kind. data_of_kind kind rows own) kind ∙ sym (ap (data_of_part rows) e);
      })
