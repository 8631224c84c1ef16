-- What each step tells its seat.
use Rattle.std.specs.Prelude.{◌≡◌, ◌≢◌, ℕ, ◌≤◌, List, [], ◌∷◌, Some, None}
use mathlib.Core.List.{IsPrefix}
use Rattle.atomic_table.specs.Table.{Me, Step, rest}
use Rattle.f2_seat_lock.specs.declared.view.View.{View}
use Rattle.f2_seat_lock.specs.Rule.{holding, telling, settled, raised, Fits}

module _ {S P E : Type 0} (log : S → List E) (part : S → ℕ → P) (marks : List E → ℕ) where
  -- the seat has the turn, and the value, of which all is true that it knows
  pub record Taken (m m' : Me S (View S P E)) : Type 0 where
    pub value : S
    pub fits : Fits log part marks value m.0
    pub after : m' ≡ (holding m.0 (Some value), (0, value) ∷ m.1)

  -- the turn was free, and is taken with the value; or nothing changed for the seat
  abbrev pub took : Step S → Me S (View S P E) → ℕ → Me S (View S P E) → Type 0
  took st m n m' = (n ≡ 0 → Taken m m') × (n ≢ 0 → m' ≡ m)

module _ {S P E : Type 0} (log : S → List E) (part : S → ℕ → P) where
  -- the view has what the job left in the value that the seat holds
  abbrev pub raised_to : Step S → Me S (View S P E) → ℕ → Me S (View S P E) → Type 0
  raised_to st m n m' = (x : S) → m.1 ≡ (0, x) ∷ [] → m' ≡ (raised log part m.0 x, m.1)

module _ {S P E : Type 0} (marks : List E → ℕ) where
  -- the number told is no less than the marks of what was seen, and than what was told before
  pub record Told (m : Me S (View S P E)) (n : ℕ) (m' : Me S (View S P E)) : Type 0 where
    pub seen : marks m.0.seen ≤ n
    pub before : m.0.told ≤ n
    pub after : m' ≡ (telling m.0 n, m.1)

  -- the durable number was read
  abbrev pub told : Step S → Me S (View S P E) → ℕ → Me S (View S P E) → Type 0
  told st m n m' = Told m n m'

module _ {S P E : Type 0} where
  -- the seat has given the turn and what it held
  abbrev pub gave : Step S → Me S (View S P E) → ℕ → Me S (View S P E) → Type 0
  gave st m n m' = m' ≡ (holding m.0 None, rest m.1)

  -- what was heard of is seen, and begins with both
  pub record Settles (m m' : Me S (View S P E)) : Type 0 where
    pub seen : IsPrefix m.0.seen (settled m.0).seen
    pub heard : IsPrefix m.0.heard (settled m.0).seen
    pub after : m' ≡ (settled m.0, m.1)

  -- the seat sees what it had heard of
  abbrev pub settles : Step S → Me S (View S P E) → ℕ → Me S (View S P E) → Type 0
  settles st m n m' = Settles m m'
