-- The queue of rows: it is no longer than the table, and has no row that stands too deep.
use Rattle.std.proofs.Common.{◌≡◌, ℕ, ◌<◌, ◌≤◌, eqb, true, false, List, length, get_or, sym, ap, ◌∙◌, subst, arith, ne_eqb, eqb-true}
use Rattle.std.specs.Prelude.{Some, slice_index_or}
use Rattle.std.specs.List.{list_any}
use Rattle.std.specs.FinMap as map
use Rattle.std.proofs.lemmas.List.{get_or_default}
use Rattle.std.proofs.lemmas.Map.Keys.{IsDistinct-from_apart}
use Rattle.std.proofs.lemmas.Map.Steps.{length-le_from_distinct_below}
use Rattle.std.proofs.lemmas.Map.Views.{Contains-from_any}
use Rattle.f2_format.specs.Geometry.{ImageGeometry, nid_limit}
use Rattle.f2_model.specs.Tree.{most_depth}
use Rattle.f2_model.specs.declared.rows.Kind.{Kind}
use Rattle.f2_model.specs.declared.rows.Kind.TheVariants.{Regular, Directory}
use Rattle.f2_image.proofs.OneBase.{same_some}
use Rattle.f2_recover.specs.Walking.{BaseRows, IsQueue}
use Rattle.f2_recover.specs.declared.rows.BaseRow.{BaseRow}

depth_within : (kind : Kind) (depth : ℕ) → depth ≤ most_depth kind → depth ≤ 16
depth_within Regular depth small = omega (arith, small)
depth_within Directory depth small = omega (arith, small)

module _ (geom : ImageGeometry) (rows : BaseRows) (order : List ℕ) (queue : IsQueue geom rows order) where
  apart : (i j d : ℕ) → i < j → j < length order → eqb (get_or order i d) (get_or order j d) ≡ false
  apart i j d less small =
      let before : i < length order = omega (arith, less, small) in
      ne_eqb (get_or order i d) (get_or order j d) (λ same.
      let one : i ≡ j = queue.apart i j before small (get_or_default order i 0 d before ∙ same ∙ get_or_default order j d 0 small) in
      omega (arith, less, one))

  below : (q : ℕ) → list_any (eqb q) order ≡ true → q < nid_limit geom
  below q found =
      let has = Contains-from_any eqb-true q order found in
      subst (λ n. n < nid_limit geom) (get_or_default order has.0 0 q has.1 ∙ has.2) (queue.within has.0 has.1)

  pub length_within : length order ≤ nid_limit geom
  length_within = length-le_from_distinct_below order (nid_limit geom) (IsDistinct-from_apart eqb order apart) below

  -- where a row stands in the queue
  pub place_of : (ino : ℕ) (row : BaseRow) → map.get rows ino ≡ Some row → (k : ℕ) × ((k < length order) × (slice_index_or order k 0 ≡ ino))
  place_of ino row there =
      let has = queue.all ino row there in
      (has.0, (has.1, get_or_default order has.0 0 ino has.1 ∙ has.2))

  pub row_depth : (ino : ℕ) (row : BaseRow) → map.get rows ino ≡ Some row → row.depth ≤ 16
  row_depth ino row there =
      let at = place_of ino row there in
      let found = queue.there at.0 at.1.0 in
      let same : found.row ≡ row = same_some found.row row (sym found.there ∙ ap (map.get rows) at.1.1 ∙ there) in
      depth_within row.file.kind row.depth (subst (λ (r : BaseRow). r.depth ≤ most_depth r.file.kind) same found.is)
