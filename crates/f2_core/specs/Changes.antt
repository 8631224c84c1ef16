-- What calls make of files.
use Rattle.std.specs.Prelude.{◌≡◌, ℕ, ◌+◌, ◌≤◌, true, false, Option, Some, None}
use Rattle.std.specs.FinMap as map
use Rattle.f2_format.specs.Geometry.{ImageGeometry, node_third}
use Rattle.f2_model.specs.Tree.{Rows, ROOT}
use Rattle.f2_model.specs.Call.{answer, effect, refusal, space_refusal}
use Rattle.f2_model.specs.Step.{adds_row}
use Rattle.f2_model.specs.declared.replies.Reply.{Reply}
use Rattle.f2_model.specs.declared.replies.Reply.TheVariants.{Done}
use Rattle.f2_model.specs.declared.requests.Request.{Request}
use Rattle.f2_model.specs.declared.requests.Request.TheVariants.{Create, Write}
use Rattle.f2_flat.specs.Flat.{limits_of}

-- the calls that change files
abbrev pub IsChange : Request → Type 0
IsChange (Create path) = Unit {0}
IsChange (Write path pieces) = Unit {0}
IsChange _ = ⊥

-- a call took effect with this reply; a new row got the ino
pub record TookEffect (geom : ImageGeometry) (old new : Rows) (request : Request) (said : Reply) (ino : ℕ) : Type 0 where
  pub none : refusal (limits_of geom) old request ≡ None
  pub space : space_refusal (limits_of geom) (effect old request (limits_of geom).nids) ≡ None
  pub reply : said ≡ answer old request
  pub tree : new ≡ effect old request ino

-- a call took effect: it changed rows, or added one under the number after the tree's last
pub data IsChanged (geom : ImageGeometry) (old new : Rows) (request : Request) (choice : Option ℕ) : Type 0 where
  in_place : adds_row request ≡ false → TookEffect geom old new request Done 0 → map.len new ≡ map.len old → choice ≡ None → IsChanged geom old new request choice
  by_new_row : (ino : ℕ) → adds_row request ≡ true → TookEffect geom old new request Done ino → map.len new ≡ map.len old + 1 → ino ≡ map.len old + ROOT → map.len old + 1 ≤ node_third geom
      → choice ≡ Some ino → IsChanged geom old new request choice
