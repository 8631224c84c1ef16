-- What a pass keeps between its calls, and what one hold does to the value.
use Rattle.std.specs.Prelude.{◌≡◌, ◌≢◌, ℕ, ◌+◌, ◌<◌, ◌≤◌, List, [], ◌∷◌, length, Some}
use mathlib.Core.List.{IsPrefix}
use Rattle.atomic_table.specs.Table.{Me}
use Rattle.f2_seat_lock.specs.declared.view.View.{View}
use Rattle.f2_seat_lock.specs.Map.{part_of}
use Rattle.f2_seat_lock.specs.Rule.{Rests, HasOwn}

module _ {S P E : Type 0} where
  -- the pass of a seat rests: it holds nothing, has its own part and those of the seats that it can split off,
  -- and only the first seat can split any off
  pub record IsPass (seat left : ℕ) (me : Me S (View S P E)) : Type 0 where
    pub number : me.0.seat ≡ seat
    pub count : me.0.left ≡ left
    pub empty : me.1 ≡ []
    pub rests : Rests me.0
    pub own : HasOwn me.0
    pub room : left < length me.0.parts
    pub first : seat ≢ 0 → left ≡ 0
    pub unmade : (k : ℕ) → length me.0.parts ≤ k + left → k < length me.0.parts → (p : P) × (part_of me.0.parts k ≡ Some p)

  -- the seat holds the value, of which this is true
  abbrev pub HoldsValue : Me S (View S P E) → (S → Type 0) → Type 0
  HoldsValue me F = (x : S) × (me.1 ≡ (0, x) ∷ []) × F x

module _ {S P E : Type 0} (log : S → List E) (part : S → ℕ → P) where
  -- a job of this seat turned x into y: no other seat's part changed, and the log grew
  pub record Moves (seat : ℕ) (x y : S) : Type 0 where
    pub others : (k : ℕ) → k ≢ seat → part y k ≡ part x k
    pub grows : IsPrefix (log x) (log y)
