-- A pass rests again after each call.
use Rattle.std.proofs.Common.{◌≡◌, ◌≢◌, ℕ, ◌-◌, ◌<◌, ◌≤◌, List, [], length, get_or, refl, sym, ap, ◌∙◌, subst, arith, length-set, replicate}
use Rattle.std.specs.Prelude.{Option, Some, None}
use mathlib.Core.Logic.{dite}
use native.Mathlib.Decide.{ℕ_discrete}
use Rattle.atomic_table.specs.Table.{Me}
use Rattle.f2_seat_lock.specs.declared.view.View.{View}
use Rattle.f2_seat_lock.specs.Map.{part_of, with_part}
use Rattle.std.proofs.lemmas.List.{length-replicate}
use Rattle.atomic_table.specs.Seated.{TableId}
use Rattle.f2_seat_lock.specs.Known.{Known, split_off, split_rest, joined, after_hold, Holds}
use Rattle.f2_seat_lock.specs.Rule.{known, split_left, split_right, next_of, join_both, settled, holding, telling, raised, first_view, Fits}
use Rattle.f2_seat_lock.specs.Turn.{IsPass, HoldsValue, Moves}
use Rattle.f2_seat_lock.specs.Plays.{Taken}
use Rattle.f2_seat_lock.proofs.Maps.{in_range, set_here, set_else, all_parts_there, length-all_parts, length-only, together_left, length-together}

module _ {S P E : Type 0} where
  pub told_pass : (seat left : ℕ) (m : Me S (View S P E)) (n : ℕ) → IsPass seat left m → IsPass seat left (telling m.0 n, m.1)
  told_pass seat left m n p = record { number = p.number; count = p.count; empty = p.empty; rests = record { heard = p.rests.heard; holds = p.rests.holds }; own = p.own; room = p.room; first = p.first; unmade = p.unmade }

  pub settled_pass : (seat left : ℕ) (m : Me S (View S P E)) (w : View S P E) → length m.0.parts ≡ length w.parts → IsPass seat left m → IsPass seat left (settled (join_both m.0 w), m.1)
  settled_pass seat left m w long p =
      let v : View S P E = m.0 in
      let longer_map = length-together v.parts w.parts long in
      let room = p.room in record {
        number = p.number;
        count = p.count;
        empty = p.empty;
        rests = record { heard = refl; holds = p.rests.holds };
        own = (p.own.0, together_left v.parts w.parts v.seat p.own.0 p.own.1);
        room = omega arith;
        first = p.first;
        unmade = λ k far near. let there = p.unmade k (omega arith) (omega arith) in (there.0, together_left v.parts w.parts k there.0 there.1);
      }

module _ {S P E : Type 0} where
  -- what is known of a view whose map has n places
  abbrev pub placed : TableId → ℕ → View S P E → Known P E
  placed table n v = record { lock = record { table = table; seats = n }; seat = v.seat; left = v.left; parts = v.parts; seen = v.seen; told = v.told }

  pub known_split_left : (table : TableId) (v : View S P E) → known table (split_left v) ≡ split_rest (known table v)
  known_split_left table v = ap (λ n. placed table n (split_left v)) (length-set v.parts (next_of v) None)

  pub known_split_right : (table : TableId) (v : View S P E) → known table (split_right v) ≡ split_off (known table v)
  known_split_right table v = ap (λ n. placed table n (split_right v)) (length-only v.parts (next_of v))

  pub known_joined : (table : TableId) (v w : View S P E) → length v.parts ≡ length w.parts → known table (settled (join_both v w)) ≡ joined (known table v) (known table w)
  known_joined table v w long = ap (λ n. placed table n (settled (join_both v w))) (length-together v.parts w.parts long)

  pub split_left_pass : (seat left : ℕ) (m : Me S (View S P E)) → 0 < left → IsPass seat left m → IsPass seat (left - 1) (split_left m.0, m.1)
  split_left_pass seat left m some_left p =
      let v : View S P E = m.0 in
      let room = p.room in
      let count = p.count in
      let long = length-set v.parts (next_of v) None in
      let is_first : seat ≡ 0 = dite (ℕ_discrete seat 0) (λ z. z) (λ ne. let none_left = p.first ne in absurd (omega arith)) in
      let number = p.number in
      let apart : v.seat ≢ next_of v = λ e. omega arith in
      record {
        number = number;
        count = omega arith;
        empty = p.empty;
        rests = record { heard = p.rests.heard; holds = p.rests.holds };
        own = (p.own.0, set_else v.parts (next_of v) None v.seat apart ∙ p.own.1);
        room = omega arith;
        first = λ ne. let none_left = p.first ne in omega arith;
        unmade = λ k far near.
            let there = p.unmade k (omega arith) (omega arith) in
            (there.0, set_else v.parts (next_of v) None k (λ e. omega arith) ∙ there.1);
      }

  pub split_right_pass : (seat left n : ℕ) (m : Me S (View S P E)) → 0 < left → n ≡ next_of m.0 → IsPass seat left m → IsPass n 0 (split_right m.0, [])
  split_right_pass seat left n m some_left is p =
      let v : View S P E = m.0 in
      let room = p.room in
      let count = p.count in
      let long = length-only v.parts (next_of v) in
      let blank = length-replicate (length v.parts) (let x : Option P = None in x) in
      let there = p.unmade (next_of v) (omega arith) (omega arith) in
      record {
        number = sym is;
        count = refl;
        empty = refl;
        rests = record { heard = refl; holds = refl };
        own = (there.0, set_here (replicate (length v.parts) None) (next_of v) (part_of v.parts (next_of v)) (omega arith) ∙ there.1);
        room = omega arith;
        first = λ _. refl;
        unmade = λ k far near. absurd (omega arith);
      }

module _ {S P E : Type 0} (log : S → List E) (part : S → ℕ → P) where
  -- the view after a hold that found x and left y
  abbrev pub after_it : View S P E → S → S → View S P E
  after_it v x y = holding (raised log part (holding v (Some x)) y) None

  pub known_after_it : (table : TableId) (v : View S P E) (x y : S) → known table (after_it v x y) ≡ after_hold (known table v) (part y v.seat) (log y)
  known_after_it table v x y = ap (λ n. placed table n (after_it v x y)) (length-set v.parts v.seat (Some (part y v.seat)))

  pub after_it_pass : (seat left : ℕ) (m : Me S (View S P E)) (x y : S) → IsPass seat left m → IsPass seat left (after_it m.0 x y, [])
  after_it_pass seat left m x y p =
      let v : View S P E = m.0 in
      let room = p.room in
      let q : P = part y v.seat in
      let long = length-set v.parts v.seat (Some q) in
      let inside = in_range v.parts v.seat p.own.0 p.own.1 in
      record {
        number = p.number;
        count = p.count;
        empty = refl;
        rests = record { heard = p.rests.heard; holds = refl };
        own = (q, set_here v.parts v.seat (Some q) inside);
        room = omega arith;
        first = p.first;
        unmade = λ k far near.
            dite (ℕ_discrete k v.seat)
            (λ e. (q, ap (part_of (with_part v.parts v.seat q)) e ∙ set_here v.parts v.seat (Some q) inside))
            (λ ne. let there = p.unmade k (omega arith) (omega arith) in (there.0, set_else v.parts v.seat (Some q) k ne ∙ there.1));
      }

  pub first_pass : (seats : ℕ) (x : S) → 1 ≤ seats → IsPass 0 (seats - 1) (first_view log part seats x, [])
  first_pass seats x some_seat =
      let long = length-all_parts (part x) seats in
      record {
        number = refl;
        count = refl;
        empty = refl;
        rests = record { heard = refl; holds = refl };
        own = (part x 0, all_parts_there (part x) seats 0 (omega arith));
        room = omega arith;
        first = λ ne. absurd (ne refl);
        unmade = λ k far near. (part x k, all_parts_there (part x) seats k (omega arith));
      }

module _ {S P E : Type 0} (log : S → List E) (part : S → ℕ → P) (marks : List E → ℕ) where
  -- the value x was found, a job turned it into y, and this is left
  pub record Held (m m' : Me S (View S P E)) (D : S → S → Type 0) : Type 0 where
    pub x : S
    pub y : S
    pub fits : Fits log part marks x m.0
    pub did : D x y
    pub after : m' ≡ (after_it log part m.0 x y, [])

  -- the four steps of a hold
  pub held : (m m1 m2 m3 m4 : Me S (View S P E)) (D : S → S → Type 0) → Taken log part marks m m1 → m2.0 ≡ m1.0 → HoldsValue m1 (λ x. HoldsValue m2 (D x)) → HoldsValue m2 (λ y. m3 ≡ (raised log part m2.0 y, m2.1)) → m4 ≡ (holding m3.0 None, []) → Held m m4 D
  held m m1 m2 m3 m4 D t view moved rose gave =
      let first_x : moved.0 ≡ t.value = ap (λ (l : List (ℕ × S)). (get_or l 0 (0, t.value)).1) (sym moved.1 ∙ ap (λ z. z.1) t.after) in
      let first_y : moved.2.0 ≡ rose.0 = ap (λ (l : List (ℕ × S)). (get_or l 0 (0, rose.0)).1) (sym moved.2.1 ∙ rose.1) in
      record {
        x = t.value;
        y = rose.0;
        fits = t.fits;
        did = subst (λ (z : S × S). D z.0 z.1) (λ i. (first_x i, first_y i)) moved.2.2;
        after = gave ∙ ap (λ v. (holding v None, [])) (ap (λ z. z.0) rose.2 ∙ ap (λ v. raised log part v rose.0) (view ∙ ap (λ z. z.0) t.after));
      }

  -- what a hold is to the holder of the pass
  pub holds_of : (table table' : TableId) (seat left : ℕ) (m m' : Me S (View S P E)) (step : ℕ → P → List E → P → List E → Type 0) → table' ≡ table → IsPass seat left m → Held m m' (λ x y. Moves log part seat x y × step seat (part x seat) (log x) (part y seat) (log y))
      → Holds marks (step m.0.seat) (known table m.0) (known table' m'.0)
  holds_of table table' seat left m m' step same p h =
      let did = subst (λ n. Moves log part n h.x h.y × step n (part h.x n) (log h.x) (part h.y n) (log h.y)) (sym p.number) h.did in
      record {
        found = part h.x m.0.seat;
        log = log h.x;
        left = part h.y m.0.seat;
        new_log = log h.y;
        own = p.own.1 ∙ ap (λ q. Some q) (sym (h.fits.parts m.0.seat p.own.0 p.own.1));
        begins = h.fits.seen;
        marked = h.fits.told;
        stepped = did.1;
        grown = did.0.grows;
        after = (λ i. known (same i) (h.after i).0) ∙ known_after_it log part table m.0 h.x h.y;
      }
