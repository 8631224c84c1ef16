-- Marks roll one after another.
use Rattle.std.proofs.Common.{[], ◌∷◌, refl, ap, ◌∙◌}
use Rattle.std.specs.FinMap as map
use Rattle.f2_model.specs.State.{rolled}
use Rattle.f2_laws.specs.Rolling.{MarksRollInTurn, LastMarkIsThere}
use Rattle.f2_laws.proofs.Maps.{get_put}

pub rolled-append : MarksRollInTurn
rolled-append base [] more = refl
rolled-append base (mark ∷ marks) more = rolled-append (map.insert base mark.ino mark.row) marks more

pub get-rolled_last : LastMarkIsThere
get-rolled_last base marks mark = ap (λ rows. map.get rows mark.ino) (rolled-append base marks (mark ∷ [])) ∙ get_put (rolled base marks) mark.ino mark.row
