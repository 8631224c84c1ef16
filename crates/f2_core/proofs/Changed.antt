-- What a file that is added, and a write, make of files.
use Rattle.std.proofs.Common.{◌≡◌, List, ℕ, refl, ap, ◌∙◌}
use Rattle.std.specs.Prelude.{Some, None}
use Rattle.std.specs.FinMap as map
use Rattle.f2_format.specs.Geometry.{ImageGeometry}
use Rattle.f2_model.specs.Tree.{Rows}
use Rattle.f2_model.specs.declared.requests.Piece.{Piece}
use Rattle.f2_model.specs.declared.requests.Request.TheVariants.{Create, Write}
use Rattle.f2_flat.specs.Flat.{IsFlat, limits_of}
use Rattle.f2_flat.specs.Calls.{IsAdded, IsWritten}
use Rattle.f2_core.specs.Changes.{IsChanged, in_place, by_new_row}
use Rattle.f2_core.proofs.Grown.{next_free, length-created, length-written}

module _ (geom : ImageGeometry) (old new : Rows) (flat : IsFlat geom old) where
  pub is_added : (path : List (List ℕ)) (ino : ℕ) → IsAdded geom old new path ino → IsChanged geom old new (Create path) (Some ino)
  is_added path ino is =
      let free : map.get old ino ≡ None = ap (λ i. map.get old i) is.next ∙ next_free geom old flat in
      by_new_row ino refl (record { none = is.none; space = is.space; reply = refl; tree = is.tree }) (ap map.len is.tree ∙ length-created geom old flat path ino is.none free) is.next is.fits refl

  pub is_written : (path : List (List ℕ)) (pieces : List Piece) → IsWritten geom old new path pieces → IsChanged geom old new (Write path pieces) None
  is_written path pieces is =
      in_place refl (record { none = is.none; space = is.space; reply = refl; tree = is.tree })
      (ap map.len is.tree ∙ length-written geom old flat path pieces (limits_of geom).nids is.none) refl
