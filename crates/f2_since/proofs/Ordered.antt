-- The reasons in their order, told from what is known of a file.
use Rattle.std.proofs.Common.{◌≡◌, Bool, false, not, ◌∷◌, [], sym, ap, ◌∙◌, Some}
use Rattle.std.specs.Prelude.{Option}
use Rattle.std.specs.Bool.{then_some}
use Rattle.std.specs.FinMap as map
use Rattle.std.specs.FinSet as set
use Rattle.f2_files.specs.Known.{Known, IsKnownOf}
use Rattle.f2_files.specs.Shape.{IsShape}
use Rattle.f2_files.specs.declared.shapes.Shape.{Shape}
use Rattle.f2_model.specs.declared.bounds.Limits.{Limits}
use Rattle.f2_model.specs.Fallback.{fallback, is_name_taken, lacks_room}
use Rattle.f2_model.specs.Lists.{first_some}
use Rattle.f2_model.specs.State.{State}
use Rattle.f2_model.specs.Tree.{is_directory}
use Rattle.f2_model.specs.declared.rows.Kind.TheVariants.{Regular}
use Rattle.f2_model.specs.declared.rows.Row.{Row}
use Rattle.f2_model.specs.declared.replies.Reason.{Reason}
use Rattle.f2_model.specs.declared.replies.Reason.TheVariants.{NonRegular, Renamed, ParentNew, NameTaken, Shrunk, Room}
use Rattle.f2_since.proofs.Holding.{shape_of}

-- the first reason whose test holds
abbrev pub first_reason : Bool → Bool → Bool → Bool → Bool → Bool → Option Reason
first_reason directory moved parent_new name_taken shrunk room = first_some (
    then_some directory NonRegular
    ∷ then_some moved Renamed
    ∷ then_some parent_new ParentNew
    ∷ then_some name_taken NameTaken
    ∷ then_some shrunk Shrunk
    ∷ then_some room Room
    ∷ [])

-- tests that are the machine's give its reason
pub in_order : (limits : Limits) (state : State) (row : Row) (moved parent_new name_taken shrunk room : Bool)
    → row.kind ≡ Regular
    → moved ≡ set.contains state.moved row.ino
    → parent_new ≡ not (map.contains_key state.base row.parent)
    → name_taken ≡ is_name_taken state row
    → shrunk ≡ set.contains state.shrunk row.ino
    → room ≡ lacks_room limits state row.ino
    → first_reason false moved parent_new name_taken shrunk room ≡ fallback limits state row
in_order limits state row moved parent_new name_taken shrunk room regular m p n s r =
    let directory : false ≡ is_directory row.kind = sym (ap is_directory regular) in
    λ i. first_reason (directory i) (m i) (p i) (n i) (s i) (r i)

module _ (files : Known) (state : State) (shape : Shape) (row : Row) (known : IsKnownOf files state) (at : map.get files.shapes shape.ino ≡ Some shape) (live : map.get state.live shape.ino ≡ Some row) where
  pub alike : IsShape shape row
  alike = shape_of files state shape.ino shape known at row live

  pub live_there : map.get state.live row.ino ≡ Some row
  live_there = ap (map.get state.live) (sym alike.ino) ∙ live

  pub moved_same : set.contains files.moved shape.ino ≡ set.contains state.moved row.ino
  moved_same = λ i. set.contains (known.moved i) (alike.ino i)

  pub shrunk_same : set.contains files.shrunk shape.ino ≡ set.contains state.shrunk row.ino
  shrunk_same = λ i. set.contains (known.shrunk i) (alike.ino i)
