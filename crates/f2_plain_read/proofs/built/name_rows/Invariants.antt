use Rattle.std.proofs.Common.{◌≡◌, ℕ, ◌≤◌}
use Rattle.std.specs.FinMap as map
use Rattle.f2_format.specs.Geometry.{ImageGeometry, nid_limit}
use Rattle.f2_laid.specs.Laid.{PlaceMap, IsStorable}
use Rattle.f2_model.specs.Tree.{Rows}
use Rattle.f2_plain_read.specs.Building.{IsBuilt, up_to}
use Rattle.f2_plain_read.proofs.built.name_rows.Given as goal

abbrev pub invariant-loop-ino : goal.invariant-loop-ino
invariant-loop-ino l = record {
  named : (geom : ImageGeometry) (tree : Rows) (stood : PlaceMap) → IsStorable geom tree → l.limit ≡ nid_limit geom → IsBuilt tree stood l.limit l.fn.built → (q : ℕ) → map.get l.tree q ≡ up_to l.ino tree q;
  rows : (q : ℕ) → l.ino ≤ q → map.get l.rows q ≡ map.get l.fn.built.rows q;
  names : (q : ℕ) → l.ino ≤ q → map.get l.names q ≡ map.get l.fn.built.names q;
}
