-- The rule of the table. Its slot has the value while nobody holds the turn. Word 0 is the turn: 0 where nobody holds it,
-- 1 where a seat does, and 2 where another may wait for it. Word 1 is the durable number, the marks of the value's log.
use Rattle.std.specs.Prelude.{◌≡◌, ◌≢◌, ℕ, ◌-◌, ◌≤◌, List, [], ◌∷◌, length, max, Option, Some, None}
use mathlib.Core.Option.{some, none}
use mathlib.Core.List.{IsPrefix}
use lib.ListN.{get_elem?}
use Rattle.atomic_table.specs.Table.{State}
use Rattle.atomic_table.specs.Seated.{TableId}
use Rattle.f2_seat_lock.specs.declared.view.View.{View}
use Rattle.f2_seat_lock.specs.Map.{part_of, with_part, without, only, together, all_parts}
use Rattle.f2_seat_lock.specs.Known.{Known, longer}

module _ {S P E : Type 0} where
  -- the view of a seat that holds nothing
  abbrev pub at_rest : ℕ → ℕ → List (Option P) → List E → ℕ → View S P E
  at_rest seat left parts seen told = record { seat = seat; left = left; parts = parts; seen = seen; heard = []; told = told; holds = None }

  -- the view that a joined seat is left with
  abbrev pub spent : View S P E
  spent = at_rest 0 0 [] [] 0

  -- the number of the next seat that is split off
  abbrev pub next_of : View S P E → ℕ
  next_of v = length v.parts - v.left

  -- the splitting seat's view, without the next seat's part
  abbrev pub split_left : View S P E → View S P E
  split_left v = record v { left = v.left - 1; parts = without v.parts (next_of v) }

  -- the new seat's view, with its own part alone and with what the splitting seat had seen
  abbrev pub split_right : View S P E → View S P E
  split_right v = at_rest (next_of v) 0 (only v.parts (next_of v)) v.seen v.told

  -- the parts of both, and what the other has seen is heard of
  abbrev pub join_both : View S P E → View S P E → View S P E
  join_both v w = record v { parts = together v.parts w.parts; heard = w.seen; told = max v.told w.told }

  -- what is heard of is seen
  abbrev pub settled : View S P E → View S P E
  settled v = record v { seen = longer v.seen v.heard; heard = [] }

  -- the view while its seat has this copy of the value, or none
  abbrev pub holding : View S P E → Option S → View S P E
  holding v x = record v { holds = x }

  -- the view after its seat was told a number of marks
  abbrev pub telling : View S P E → ℕ → View S P E
  telling v n = record v { told = n }

  -- the view is at rest
  pub record Rests (v : View S P E) : Type 0 where
    pub heard : v.heard ≡ []
    pub holds : v.holds ≡ None

  -- the seat of the view answers for its own part
  abbrev pub HasOwn : View S P E → Type 0
  HasOwn v = (p : P) × (part_of v.parts v.seat ≡ Some p)

  -- a view with the turn is the only one, it answers for its own part, and has a copy of the value
  pub record Alone (value : S) (turn holder seat : ℕ) (v : View S P E) : Type 0 where
    pub taken : turn ≢ 0
    pub is_holder : seat ≡ holder
    pub copy : v.holds ≡ Some value
    pub own : HasOwn v

  -- no seat's part stands in two views
  abbrev pub Apart : List (View S P E) → Type 0
  Apart views =
      (i j k : ℕ) (v w : View S P E) (p q : P)
      → get_elem? views i ≡ some v → get_elem? views j ≡ some w
      → part_of v.parts k ≡ Some p → part_of w.parts k ≡ Some q → i ≡ j

  -- each map with a part has a place for each seat
  abbrev pub IsLevel : ℕ → List (View S P E) → Type 0
  IsLevel seats views =
      (j k : ℕ) (v : View S P E) (p : P)
      → get_elem? views j ≡ some v → part_of v.parts k ≡ Some p → length v.parts ≡ seats

  -- what the holder of a pass sees of its view
  abbrev pub known : TableId → View S P E → Known P E
  known table v = record { lock = record { table = table; seats = length v.parts }; seat = v.seat; left = v.left; parts = v.parts; seen = v.seen; told = v.told }

module _ {S P E : Type 0} (log : S → List E) (part : S → ℕ → P) where
  -- the view after its seat left this value
  abbrev pub raised : View S P E → S → View S P E
  raised v x = record v { parts = with_part v.parts v.seat (part x v.seat); seen = log x; holds = Some x }

  -- the view of the first seat, which answers for all parts and has seen the log
  abbrev pub first_view : ℕ → S → View S P E
  first_view seats x = at_rest 0 (seats - 1) (all_parts (part x) seats) (log x) 0

module _ {S P E : Type 0} (log : S → List E) (part : S → ℕ → P) (marks : List E → ℕ) where
  -- what a view says is true of the value
  pub record Fits (value : S) (v : View S P E) : Type 0 where
    pub seen : IsPrefix v.seen (log value)
    pub heard : IsPrefix v.heard (log value)
    pub told : v.told ≤ marks (log value)
    pub parts : (k : ℕ) (p : P) → part_of v.parts k ≡ Some p → part value k ≡ p

  -- The rule: one value stands behind the words, the slot and all views
  pub record Kept (s : State S (View S P E)) : Type 0 where
    pub value : S
    pub turn : ℕ
    pub holder : ℕ
    pub seats : ℕ
    pub words : s.words ≡ turn ∷ marks (log value) ∷ []
    -- at turn 0 the value is at home, and else the holder has it
    pub home : turn ≡ 0 → s.homes ≡ some value ∷ []
    pub away : turn ≢ 0 → (s.homes ≡ none ∷ []) × ((v : View S P E) × (get_elem? s.views holder ≡ some v) × Alone value turn holder holder v)
    pub alone : (j : ℕ) (v : View S P E) → get_elem? s.views j ≡ some v → (x : S) → v.holds ≡ Some x → Alone value turn holder j v
    pub fits : (j : ℕ) (v : View S P E) → get_elem? s.views j ≡ some v → Fits value v
    pub apart : Apart s.views
    pub level : IsLevel seats s.views
