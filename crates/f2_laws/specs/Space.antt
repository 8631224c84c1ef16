-- The space that a new row takes.
use Rattle.std.specs.Prelude.{◌≡◌, ℕ, None}
use Rattle.std.specs.FinMap as map
use Rattle.f2_model.specs.Tree.{Rows, IsGoodTree}
use Rattle.f2_model.specs.Call.{effect, space_refusal}
use Rattle.f2_model.specs.declared.bounds.Limits.{Limits}
use Rattle.f2_model.specs.declared.requests.Request.{Request}

-- whichever ino that no row has a new row gets, the call is refused alike for want of space, or not at all
abbrev pub InoLeavesSpace : Type 0
InoLeavesSpace =
    (limits : Limits) (tree : Rows) (request : Request) (ino other : ℕ) →
    IsGoodTree limits.size tree →
    map.get tree ino ≡ None →
    map.get tree other ≡ None →
    space_refusal limits (effect tree request ino) ≡ space_refusal limits (effect tree request other)
