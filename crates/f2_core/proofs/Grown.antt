-- How many rows a flat tree has after a call.
use Rattle.std.proofs.Common.{◌≡◌, ℕ, ◌+◌, cond, List, refl, ap, ◌∙◌, arith}
use Rattle.std.specs.Prelude.{Option, Some, None, Ok, Err, is_some, if◌then◌else◌}
use Rattle.std.specs.Cmp.{nat_cmp_total}
use Rattle.std.specs.FinMap as map
use Rattle.f2_format.specs.Geometry.{ImageGeometry}
use Rattle.f2_model.specs.Content.{put_pieces, raised_size}
use Rattle.f2_model.specs.Tree.{Rows, ROOT, is_directory, walk, parent_path, last_name}
use Rattle.f2_model.specs.Call.{walk_parent, to_directory, on_row, refusal, effect, new_row}
use Rattle.f2_model.specs.declared.rows.Row.{Row}
use Rattle.f2_model.specs.declared.rows.Kind.{Kind}
use Rattle.f2_model.specs.declared.rows.Kind.TheVariants.{Regular}
use Rattle.f2_model.specs.declared.requests.Piece.{Piece}
use Rattle.f2_model.specs.declared.requests.Request.TheVariants.{Create, Write}
use Rattle.f2_model.specs.declared.replies.Reply.TheVariants.{NotDir}
use Rattle.f2_laws.proofs.Passed.{passed, directory_ok, walk_ok}
use Rattle.f2_laws.proofs.Walks.{walk_ends}
use Rattle.f2_flat.specs.Flat.{IsFlat, FILE_SIZE, limits_of}

-- a row put under a number counts where there was none
length_put : (tree : Rows) (ino : ℕ) (row : Row) (was : Option Row) → map.get tree ino ≡ was → map.len (map.insert tree ino row) ≡ cond (is_some was) (map.len tree) (map.len tree + 1)
length_put tree ino row was there = map.len-insert nat_cmp_total tree ino row ∙ ap (λ (o : Option Row). cond (is_some o) (map.len tree) (map.len tree + 1)) there

module _ (geom : ImageGeometry) (tree : Rows) (flat : IsFlat geom tree) where
  -- the number after the last one is free
  pub next_free : map.get tree (map.len tree + ROOT) ≡ None
  next_free = by_row (map.get tree (map.len tree + ROOT)) refl
    where
      by_row : (o : Option Row) → map.get tree (map.len tree + ROOT) ≡ o → o ≡ None
      by_row None is = refl
      by_row (Some row) is = let dense = (flat.dense (map.len tree + ROOT) row is).1 in absurd (omega (arith, dense))

  pub length-created : (path : List (List ℕ)) (ino : ℕ) → refusal (limits_of geom) tree (Create path) ≡ None → map.get tree ino ≡ None → map.len (effect tree (Create path) ino) ≡ map.len tree + 1
  length-created path ino none free =
      let end = directory_ok (walk tree (parent_path path)) (passed (limits_of geom) tree (Create path) none).walks in
      let up : Row = end.0 in
      let led : walk_parent tree path ≡ Ok up = ap to_directory end.1 ∙ ap (λ (kind : Kind). if is_directory kind then Ok up else Err NotDir) end.2 in
      let row = new_row Regular ino up.ino (last_name path) in
      let is : effect tree (Create path) ino ≡ map.insert tree ino row = ap (λ to. on_row tree to (λ above. map.insert tree ino (new_row Regular ino above.ino (last_name path)))) led in
      ap map.len is ∙ length_put tree ino row None free

  pub length-written : (path : List (List ℕ)) (pieces : List Piece) (ino : ℕ) → refusal (limits_of geom) tree (Write path pieces) ≡ None → map.len (effect tree (Write path pieces) ino) ≡ map.len tree
  length-written path pieces ino none =
      let end = walk_ok (walk tree path) (passed (limits_of geom) tree (Write path pieces) none).walks in
      let old : Row = end.0 in
      let row : Row = record old { size = raised_size old.size pieces; pages = put_pieces old.pages pieces } in
      let is : effect tree (Write path pieces) ino ≡ map.insert tree old.ino row = ap (λ to. on_row tree to (λ at. map.insert tree at.ino (record at { size = raised_size at.size pieces; pages = put_pieces at.pages pieces }))) end.1 in
      ap map.len is ∙ length_put tree old.ino row (Some old) (walk_ends FILE_SIZE tree flat.good path old end.1).there
