-- The members of a set in their order.
use Rattle.std.specs.Prelude.{List, map as map_list}
use Rattle.std.specs.declared.cmp.Ordering.{Ordering}
use Rattle.std.specs.FinMap as map
use Rattle.std.specs.FinSet as set

-- the map with nothing at each member of a set, and so at no other key
abbrev pub map_of : {K : Type 0} {R : K → K → Ordering} → set.FinSet R → map.FinMap R (Unit {0})
map_of {K} {R} members = map.from_entries {R = R} (map_list (λ member. (member, tt {0})) (set.items members))

-- the members of a set, rising: the keys of a map stand in their order
abbrev pub rising : {K : Type 0} {R : K → K → Ordering} → set.FinSet R → List K
rising members = map.keys (map_of members)
