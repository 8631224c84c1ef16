-- The history of a volume, and the choices that its tree doesn't determine.
use Rattle.std.specs.Prelude.{◌≡◌, ℕ, List, ◌++◌}
use Rattle.f2_model.specs.State.{State}
use Rattle.f2_model.specs.declared.histories.Entry.{Entry}

-- what a log holds: its entries in order, the choices in order, and for how many more entries there is room
pub record History : Type 0 where
  pub entries : List Entry
  pub choices : List ℕ
  pub spare : ℕ

-- what a machine tells of its past: the state in which its history began, the entries and the choices
pub record Account : Type 0 where
  pub start : State
  pub entries : List Entry
  pub choices : List ℕ

-- an account begins with another: they began in one state, and both lists go on where the other's end
pub record BeginsWith (account first : Account) : Type 0 where
  pub start : account.start ≡ first.start
  pub more_entries : List Entry
  pub more_choices : List ℕ
  pub entries : account.entries ≡ first.entries ++ more_entries
  pub choices : account.choices ≡ first.choices ++ more_choices
