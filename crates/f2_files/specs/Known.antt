-- What a running volume knows of its files: the shapes of their rows, and beside them parts of the machine's state as it has them.
use Rattle.std.specs.Prelude.{◌≡◌, ◌≢◌, ℕ, ◌*◌, ◌<◌, ◌≤◌, ◌⊎◌, List, [], Option, Some, None, Ok}
use Rattle.std.specs.Ordering.{nat_cmp}
use Rattle.std.specs.FinMap as map
use Rattle.std.specs.FinSet as set
use Rattle.f2_model.specs.Begins.{called}
use Rattle.f2_model.specs.Call.{refusal}
use Rattle.f2_model.specs.Content.{PAGE}
use Rattle.f2_model.specs.State.{State, Pairs, Inos, Flight}
use Rattle.f2_model.specs.Tree.{Rows, ROOT, IsGoodTree, walk}
use Rattle.f2_model.specs.declared.rows.Kind.TheVariants.{Directory}
use Rattle.f2_model.specs.declared.bounds.Limits.{Limits}
use Rattle.f2_model.specs.declared.requests.Request.{Request}
use Rattle.f2_files.specs.Led.{ino_at}
use Rattle.f2_files.specs.Shape.{Shapes, IsShapeOf, new_shape}
use Rattle.f2_files.specs.declared.shapes.Shape.{Shape}

pub record Known : Type 0 where
  pub shapes : Shapes
  -- pages and direct nodes of files that a call touched since their last write
  pub dirty_pages : Pairs
  pub dirty_nodes : Pairs
  -- files that a rename moved, or of which a truncate emptied a direct node, since the base
  pub moved : Inos
  pub shrunk : Inos
  -- the seats with a call in flight
  pub flights : map.FinMap nat_cmp Flight

-- what is known is what a state of the machine has
pub record IsKnownOf (known : Known) (state : State) : Type 0 where
  pub shapes : IsShapeOf known.shapes state.live
  pub dirty_pages : known.dirty_pages ≡ state.dirty_pages
  pub dirty_nodes : known.dirty_nodes ≡ state.dirty_nodes
  pub moved : known.moved ≡ state.moved
  pub shrunk : known.shrunk ≡ state.shrunk
  pub flights : known.flights ≡ state.flights

-- a good tree of the shape that is known doesn't refuse a request, so none of that shape does
pub record IsAllowed (known : Known) (request : Request) : Type 0 where
  pub limits : Limits
  pub most : ℕ
  pub tree : Rows
  pub good : IsGoodTree most tree
  pub shape : IsShapeOf known.shapes tree
  pub unrefused : refusal limits tree request ≡ None

-- whichever state with a good tree was known before a call, after it that is known which the call leaves
abbrev pub Follows : Known → Known → Request → ℕ → Type 0
Follows old new request ino = (most : ℕ) (state : State) → IsGoodTree most state.live → IsKnownOf old state → IsKnownOf new (called state request ino)

-- a page's address stays, or the page is new and has none yet
abbrev pub IsAddressKept : Option ℕ → Option ℕ → Type 0
IsAddressKept old now = (now ≡ old) ⊎ ((old ≡ None) × (now ≡ Some 0))

-- after a call that takes no page away each row has the addresses and the nids that it had, and a new row has none
pub record ArePlacesKept (old new : Known) : Type 0 where
  pub nids : (ino : ℕ) (shape now : Shape) → map.get old.shapes ino ≡ Some shape → map.get new.shapes ino ≡ Some now → now.nids ≡ shape.nids
  pub pages : (ino page : ℕ) (shape now : Shape) → map.get old.shapes ino ≡ Some shape → map.get new.shapes ino ≡ Some now → IsAddressKept (map.get shape.pages page) (map.get now.pages page)
  pub fresh : (ino : ℕ) (now : Shape) → map.get old.shapes ino ≡ None → map.get new.shapes ino ≡ Some now → (now.pages ≡ map.empty) × (now.nids ≡ map.empty)

-- a path leads to an ino, in each good tree of the shape that is known
abbrev pub LeadsTo : Known → List (List ℕ) → ℕ → Type 0
LeadsTo known path ino = (most : ℕ) (tree : Rows) → IsGoodTree most tree → IsShapeOf known.shapes tree → ino_at (walk tree path) ≡ Ok ino

-- after a cut of a file at a size its pages that begin before the size have the addresses that they had, and no others are there; all
-- nids stay, those of direct nodes that lost their last page too, and so does each other row
pub record ArePlacesCut (old new : Known) (ino size : ℕ) : Type 0 where
  pub others : (other : ℕ) → other ≢ ino → map.get new.shapes other ≡ map.get old.shapes other
  pub missing : map.get old.shapes ino ≡ None → map.get new.shapes ino ≡ None
  pub nids : (other : ℕ) (shape now : Shape) → map.get old.shapes other ≡ Some shape → map.get new.shapes other ≡ Some now → now.nids ≡ shape.nids
  pub kept : (page : ℕ) (shape now : Shape) → map.get old.shapes ino ≡ Some shape → map.get new.shapes ino ≡ Some now → page * PAGE < size → map.get now.pages page ≡ map.get shape.pages page
  pub gone : (page : ℕ) (now : Shape) → map.get new.shapes ino ≡ Some now → size ≤ page * PAGE → map.get now.pages page ≡ None

-- what is known of the tree of the root alone
abbrev pub known_root : Known
known_root = record {
  shapes = map.insert map.empty ROOT (new_shape Directory ROOT ROOT []);
  dirty_pages = set.empty;
  dirty_nodes = set.empty;
  moved = set.empty;
  shrunk = set.empty;
  flights = map.empty;
}
