-- The way from an inode down to a page, as the arrays that a walk reads.
use Rattle.std.specs.Prelude.{◌≡◌, ℕ, ◌≤◌, List, ◌∷◌, ◌++◌, Option, None, Some, length, take, replicate, nat_lt, if◌then◌else◌}
use Rattle.f2_format.specs.Offsets.{page_limit, direct_of, nodes_of_page, slots_of_page}
use Rattle.f2_shape.specs.declared.path.Route.{Route}

-- four places, of which those that the way doesn't use are 0
abbrev pub four_places : List ℕ → List ℕ
four_places xs = take 4 (xs ++ replicate 4 0)

-- a way through these nodes, in each of which it takes the slot at the same place
abbrev pub route_through : List ℕ → List ℕ → Route
route_through nodes slots =
    record {
      levels = length slots;
      nodes = four_places nodes;
      slots = four_places slots;
    }

-- the page's way from the inode down (get_node_path of the kernel's fs/f2fs/node.c); none at or above the limit
unfoldable pub route_of : ℕ → Option Route
route_of page =
    if nat_lt page page_limit then Some (route_through (0 ∷ nodes_of_page page) (slots_of_page page))
    else None

-- the page is the least one that has this direct node (start_bidx_of_node of fs/f2fs/node.c)
pub record IsFirstPage (offset page : ℕ) : Type 0 where
  pub held : direct_of page ≡ Some offset
  pub least : (other : ℕ) → direct_of other ≡ Some offset → page ≤ other
