-- Calls on good trees.
use Rattle.std.specs.Prelude.{◌≡◌, ℕ, None, IsTrue}
use Rattle.std.specs.FinMap as map
use Rattle.f2_model.specs.Tree.{Rows, IsGoodTree}
use Rattle.f2_model.specs.Call.{outcome}
use Rattle.f2_model.specs.declared.bounds.Limits.{Limits}
use Rattle.f2_model.specs.Step.{adds_row}
use Rattle.f2_model.specs.declared.requests.Request.{Request}

-- whatever is called, a good tree is left good, where a call that adds a row gets an ino that no row has
abbrev pub CallsKeepTreesGood : Type 0
CallsKeepTreesGood =
    (limits : Limits) (tree : Rows) (request : Request) (ino : ℕ) →
    IsGoodTree limits.size tree →
    (IsTrue (adds_row request) → map.get tree ino ≡ None) →
    IsGoodTree limits.size (outcome limits tree request ino).1
