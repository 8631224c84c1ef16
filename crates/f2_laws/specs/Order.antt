-- What the order of a set's members comes to.
use Rattle.std.specs.Prelude.{◌≡◌, List}
use Rattle.std.specs.List.{list_any}
use Rattle.std.specs.List.Sorted.{IsStrictlySortedBy}
use Rattle.std.specs.Ordering.{eq_by_cmp}
use Rattle.std.specs.declared.cmp.Ordering.{Ordering}
use Rattle.std.specs.FinSet as set
use Rattle.f2_model.specs.Rising.{rising}

-- a list has the members of a set, each once, in their order
pub record IsInOrder {K : Type 0} (R : K → K → Ordering) (members : set.FinSet R) (list : List K) : Type 0 where
  pub rises : IsStrictlySortedBy R list
  pub all : (q : K) → set.contains members q ≡ list_any (eq_by_cmp R q) list

-- the members of each set are told in order, and no other list is so
abbrev pub MembersAreInOrder : {K : Type 0} → (K → K → Ordering) → Type 0
MembersAreInOrder {K} R = (members : set.FinSet R) → IsInOrder R members (rising members) × ((list : List K) → IsInOrder R members list → rising members ≡ list)
