-- What the rows of a tree take, added up ino by ino.
use Rattle.std.proofs.Common.{◌≡◌, ℕ, ◌+◌, List, [], ◌∷◌, refl, ap, ◌∙◌}
use Rattle.std.specs.Prelude.{Option, Some, None, is_some, map as map_list}
use Rattle.std.specs.List.{fold, sum_by, AllByRecursion}
use Rattle.std.specs.FinMap as map
use Rattle.f2_image.specs.Images.{Image}
use Rattle.f2_model.specs.Count.{nodes_of_tree, data_of_tree}
use Rattle.f2_model.specs.Tree.{Rows}
use Rattle.f2_model.specs.declared.rows.Row.{Row}
use Rattle.f2_held.proofs.MapSums.{each_entry}
use Rattle.f2_found.specs.Found.{AreFound, IsFound}
use Rattle.f2_found.specs.declared.found.Found.{Found}
use Rattle.f2_found.specs.declared.rows.FoundRow.{FoundRow}
use Rattle.f2_tree_size.specs.Parts.{nodes_of_part, data_of_part}
use Rattle.f2_tree_size.proofs.Keys.{same_keys}

-- a sum that goes on over inos
abbrev pub more_of : (ℕ → ℕ) → ℕ → List ℕ → ℕ
more_of count sum inos = fold (λ total ino. total + count ino) sum inos

-- what the row of an ino takes of a tree
abbrev pub nodes_at : Rows → ℕ → ℕ
nodes_at tree ino = nodes_of_part (map.values tree) (map.get tree ino)

abbrev pub data_at : Rows → ℕ → ℕ
data_at tree ino = data_of_part (map.values tree) (map.get tree ino)

module _ (part : Option Row → ℕ) (tree : Rows) where
  over_entries : (sum : ℕ) (es : List (ℕ × Row)) → AllByRecursion (λ e. map.get tree e.0 ≡ Some e.1) es →
      more_of (λ ino. part (map.get tree ino)) sum (map_list (λ (e : ℕ × Row). e.0) es) ≡ fold (λ total row. total + part (Some row)) sum (map_list (λ (e : ℕ × Row). e.1) es)
  over_entries sum [] all = refl
  over_entries sum (e ∷ es) all =
      ap (λ o. more_of (λ ino. part (map.get tree ino)) (sum + part o) (map_list (λ (e : ℕ × Row). e.0) es)) all.0
      ∙ over_entries (sum + part (Some e.1)) es all.1

  over_tree : more_of (λ ino. part (map.get tree ino)) 0 (map.keys tree) ≡ sum_by (λ row. part (Some row)) (map.values tree)
  over_tree =
      over_entries 0 (map.entries tree) (each_entry (λ e. map.get tree e.0 ≡ Some e.1) (map.entries tree) (map.entries_sorted tree) (λ k row f. map.get-entries tree k ∙ f))

module _ (image : Image) (tree : Rows) (found : Found) (is : IsFound image tree found) where
  alike : (a : Option Row) (b : Option FoundRow) → AreFound image a b → is_some b ≡ is_some a
  alike None None h = refl
  alike None (Some b) h = absurd h
  alike (Some a) None h = absurd h
  alike (Some a) (Some b) h = refl

  same_inos : map.keys found.rows ≡ map.keys tree
  same_inos = same_keys found.rows tree (λ k. alike (map.get tree k) (map.get found.rows k) (is.rows k))

  -- over all rows that were found they make what the tree takes
  pub all_nodes : more_of (nodes_at tree) 0 (map.keys found.rows) ≡ nodes_of_tree tree
  all_nodes = ap (more_of (nodes_at tree) 0) same_inos ∙ over_tree (nodes_of_part (map.values tree)) tree

  pub all_data : more_of (data_at tree) 0 (map.keys found.rows) ≡ data_of_tree tree
  all_data = ap (more_of (data_at tree) 0) same_inos ∙ over_tree (data_of_part (map.values tree)) tree
