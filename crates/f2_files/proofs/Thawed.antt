-- The first pair of a file that isn't frozen, found by seeks that pass each frozen file in one step.
use Rattle.std.proofs.Common.{◌≡◌, ℕ, ◌+◌, ◌<◌, ◌≤◌, Bool, true, false, cond, not, ◌&&◌, ◌||◌, ◌==◌, List, [], ◌∷◌, ◌++◌, map as map_list, refl, sym, ap, subst, ◌∙◌, arith, true≢false}
use Rattle.std.specs.Prelude.{Option, Some, None, IfNone, is_some, nat_lt}
use Rattle.std.specs.List.{find, filter, filter_map, cons_option, list_any, AllByRecursion}
use Rattle.std.specs.List.Sorted.{IsStrictlySortedBy}
use Rattle.std.specs.declared.cmp.Ordering.TheVariants.{Less}
use Rattle.std.proofs.lemmas.Bool.{ltb-true, ltb-false, lt-ltb, le-ltb}
use Rattle.f2_model.specs.Begins.{first_key, freezes}
use Rattle.f2_model.specs.Fallback.{frozen_ino}
use Rattle.f2_model.specs.State.{pair_cmp, Flight, InFsync, InCheck}
use Rattle.f2_files.proofs.PairOrder.{Pair, from_ino, not_less}

-- a seat has a file in fsync where the file is among those that calls in flight keep
pub frozen_same : (ino : ℕ) (es : List (ℕ × Flight)) → is_some (first_key (filter (λ one. freezes ino one.1) es)) ≡ list_any (λ one. one == ino) (filter_map frozen_ino (map_list (λ (e : ℕ × Flight). e.1) es))
frozen_same ino [] = refl
frozen_same ino (e ∷ es) = by_flight e.1 (frozen_same ino es)
  where
    rest : List (ℕ × Flight)
    rest = filter (λ one. freezes ino one.1) es

    inos : List ℕ
    inos = filter_map frozen_ino (map_list (λ (e : ℕ × Flight). e.1) es)

    by_test : (b : Bool) → is_some (first_key rest) ≡ list_any (λ one. one == ino) inos → is_some (first_key (cond b (e ∷ rest) rest)) ≡ (b || list_any (λ one. one == ino) inos)
    by_test true h = refl
    by_test false h = h

    by_flight : (flight : Flight) → is_some (first_key rest) ≡ list_any (λ one. one == ino) inos → is_some (first_key (cond (freezes ino flight) (e ∷ rest) rest)) ≡ list_any (λ one. one == ino) (cons_option (frozen_ino flight) inos)
    by_flight (InFsync other progress) h = by_test (other == ino) h
    by_flight (InCheck plan) h = h

found_passes : (p : Pair → Bool) (xs : List Pair) (pair : Pair) → find p xs ≡ Some pair → p pair ≡ true
found_passes p [] pair h = absurd (cc)
found_passes p (x ∷ xs) pair h = by_test (found_passes p xs pair) (p x) refl h
  where
    by_test : (find p xs ≡ Some pair → p pair ≡ true) → (b : Bool) → p x ≡ b → cond b (Some x) (find p xs) ≡ Some pair → p pair ≡ true
    by_test rest true is h = let same : x ≡ pair = cc in subst (λ (q : Pair). p q ≡ true) same is
    by_test rest false is h = rest h

-- what passes one test where no pair passes another doesn't pass that one
pub not_among : (p q : Pair → Bool) (xs : List Pair) (pair : Pair) → find p xs ≡ Some pair → find q xs ≡ None → q pair ≡ false
not_among p q [] pair h none = absurd (cc)
not_among p q (x ∷ xs) pair h none = by_tests (not_among p q xs pair) (p x) (q x) refl h none
  where
    by_tests : (find p xs ≡ Some pair → find q xs ≡ None → q pair ≡ false) → (a b : Bool) → q x ≡ b → cond a (Some x) (find p xs) ≡ Some pair → cond b (Some x) (find q xs) ≡ None → q pair ≡ false
    by_tests rest a true is h none = absurd (cc)
    by_tests rest true false is h none = let same : x ≡ pair = cc in subst (λ (y : Pair). q y ≡ false) same is
    by_tests rest false false is h none = rest h none

and_false : (b : Bool) → (b && false) ≡ false
and_false true = refl
and_false false = refl

from_there : (from : ℕ) (y : Pair) → from ≤ y.0 → from_ino from y ≡ true
from_there from y low = ap not (le-ltb y.0 from low)

from_not : (from : ℕ) (y : Pair) → y.0 < from → from_ino from y ≡ false
from_not from y under = ap not (lt-ltb y.0 from under)

pub low_of : (from : ℕ) (y : Pair) → from_ino from y ≡ true → from ≤ y.0
low_of from y h = by_below (nat_lt y.0 from) refl h
  where
    by_below : (b : Bool) → nat_lt y.0 from ≡ b → not b ≡ true → from ≤ y.0
    by_below true is h = absurd (true≢false (sym h))
    by_below false is h = ltb-false y.0 from is

under_of : (from : ℕ) (y : Pair) → from_ino from y ≡ false → y.0 < from
under_of from y h = by_below (nat_lt y.0 from) refl h
  where
    by_below : (b : Bool) → nat_lt y.0 from ≡ b → not b ≡ false → y.0 < from
    by_below true is h = ltb-true y.0 from is
    by_below false is h = absurd (true≢false h)

pub found_low : (from : ℕ) (xs : List Pair) (pair : Pair) → find (from_ino from) xs ≡ Some pair → from ≤ pair.0
found_low from xs pair h = low_of from pair (found_passes (from_ino from) xs pair h)

module _ (g : ℕ → Bool) where
  -- a pair of a file that isn't frozen, and one with an ino from one on
  abbrev pub thawed : Pair → Bool
  thawed pair = not (g pair.0)

  abbrev pub thawed_from : ℕ → Pair → Bool
  thawed_from from pair = from_ino from pair && thawed pair

  pub none_thawed : (from : ℕ) (xs : List Pair) → find (from_ino from) xs ≡ None → find (thawed_from from) xs ≡ None
  none_thawed from [] h = refl
  none_thawed from (x ∷ xs) h = by_test (none_thawed from xs) (from_ino from x) h
    where
      by_test : (find (from_ino from) xs ≡ None → find (thawed_from from) xs ≡ None) → (b : Bool) → cond b (Some x) (find (from_ino from) xs) ≡ None → cond (b && thawed x) (Some x) (find (thawed_from from) xs) ≡ None
      by_test rest true h = absurd (cc)
      by_test rest false h = rest h

  pub one_thawed : (from : ℕ) (xs : List Pair) (pair : Pair) → find (from_ino from) xs ≡ Some pair → g pair.0 ≡ false → find (thawed_from from) xs ≡ Some pair
  one_thawed from [] pair h free = absurd (cc)
  one_thawed from (x ∷ xs) pair h free = by_test (λ found. one_thawed from xs pair found free) (from_ino from x) h
    where
      by_test : (find (from_ino from) xs ≡ Some pair → find (thawed_from from) xs ≡ Some pair) → (b : Bool) → cond b (Some x) (find (from_ino from) xs) ≡ Some pair → cond (b && thawed x) (Some x) (find (thawed_from from) xs) ≡ Some pair
      by_test rest true h =
          let same : x ≡ pair = cc in
          let own : g x.0 ≡ false = ap (λ (q : Pair). g q.0) same ∙ free in
          ap (λ b. cond (not b) (Some x) (find (thawed_from from) xs)) own ∙ ap (λ q. Some q) same
      by_test rest false h = rest h

  pub none_greater : (last : ℕ) (xs : List Pair) → find (λ (q : Pair). nat_lt last q.0) xs ≡ None → find (thawed_from (last + 1)) xs ≡ None
  none_greater last [] h = refl
  none_greater last (x ∷ xs) h = by_test (none_greater last xs) (nat_lt last x.0) refl h
    where
      by_test : (find (λ (q : Pair). nat_lt last q.0) xs ≡ None → find (thawed_from (last + 1)) xs ≡ None) → (b : Bool) → nat_lt last x.0 ≡ b → cond b (Some x) (find (λ (q : Pair). nat_lt last q.0) xs) ≡ None → cond (thawed_from (last + 1) x) (Some x) (find (thawed_from (last + 1)) xs) ≡ None
      by_test rest true is h = absurd (cc)
      by_test rest false is h =
          let most : x.0 ≤ last = ltb-false last x.0 is in
          ap (λ b. cond (b && thawed x) (Some x) (find (thawed_from (last + 1)) xs)) (from_not (last + 1) x (omega (arith, most))) ∙ rest h

  same_behind : (from : ℕ) (x : Pair) (ys : List Pair) → from ≤ x.0 → g x.0 ≡ true → AllByRecursion (λ y. pair_cmp x y ≡ Less) ys → find (thawed_from from) ys ≡ find (thawed_from (x.0 + 1)) ys
  same_behind from x [] low frozen behind = refl
  same_behind from x (y ∷ ys) low frozen behind =
      ap (λ b. cond b (Some y) (find (thawed_from from) ys)) (one (not_less x y behind.0) (nat_lt x.0 y.0) refl)
      ∙ ap (cond (thawed_from (x.0 + 1) y) (Some y)) (same_behind from x ys low frozen behind.1)
    where
      one : x.0 ≤ y.0 → (b : Bool) → nat_lt x.0 y.0 ≡ b → thawed_from from y ≡ thawed_from (x.0 + 1) y
      one up true is =
          let above : x.0 < y.0 = ltb-true x.0 y.0 is in
          ap (λ b. b && thawed y) (from_there from y (omega (arith, low, above)) ∙ sym (from_there (x.0 + 1) y (omega (arith, above))))
      one up false is =
          let most : y.0 ≤ x.0 = ltb-false x.0 y.0 is in
          let same : y.0 ≡ x.0 = omega (arith, up, most) in
          let none : thawed y ≡ false = ap (λ n. not (g n)) same ∙ ap not frozen in
          ap (λ b. from_ino from y && b) none ∙ and_false (from_ino from y)
          ∙ sym (ap (λ b. from_ino (x.0 + 1) y && b) none ∙ and_false (from_ino (x.0 + 1) y))

  -- a file that is frozen is passed in one step
  pub skipped : (from : ℕ) (xs : List Pair) → IsStrictlySortedBy pair_cmp xs → (pair : Pair) → find (from_ino from) xs ≡ Some pair → g pair.0 ≡ true → find (thawed_from from) xs ≡ find (thawed_from (pair.0 + 1)) xs
  unfolding IsStrictlySortedBy
  skipped from [] sorted pair h frozen = refl
  skipped from (x ∷ xs) sorted pair h frozen = by_test (λ found. skipped from xs sorted.1 pair found frozen) (from_ino from x) refl h
    where
      by_test : (find (from_ino from) xs ≡ Some pair → find (thawed_from from) xs ≡ find (thawed_from (pair.0 + 1)) xs) → (b : Bool) → from_ino from x ≡ b → cond b (Some x) (find (from_ino from) xs) ≡ Some pair
          → cond (thawed_from from x) (Some x) (find (thawed_from from) xs) ≡ cond (thawed_from (pair.0 + 1) x) (Some x) (find (thawed_from (pair.0 + 1)) xs)
      by_test rest true is h =
          let same : x ≡ pair = cc in
          let ice : g x.0 ≡ true = ap (λ (q : Pair). g q.0) same ∙ frozen in
          subst (λ (q : Pair). cond (thawed_from from x) (Some x) (find (thawed_from from) xs) ≡ cond (thawed_from (q.0 + 1) x) (Some x) (find (thawed_from (q.0 + 1)) xs)) same
          (ap (λ b. cond b (Some x) (find (thawed_from from) xs)) (ap (λ b. from_ino from x && not b) ice ∙ and_false (from_ino from x))
          ∙ same_behind from x xs (low_of from x is) ice sorted.0
          ∙ sym (ap (λ b. cond (b && thawed x) (Some x) (find (thawed_from (x.0 + 1)) xs)) (from_not (x.0 + 1) x (omega arith))))
      by_test rest false is h =
          let at = found_low from xs pair h in
          let under = under_of from x is in
          ap (λ b. cond (b && thawed x) (Some x) (find (thawed_from from) xs)) is
          ∙ rest h
          ∙ sym (ap (λ b. cond (b && thawed x) (Some x) (find (thawed_from (pair.0 + 1)) xs)) (from_not (pair.0 + 1) x (omega (arith, at, under))))

-- no pair stands behind the last one
before_last : (y x : Pair) (ys : List Pair) → AllByRecursion (λ z. pair_cmp y z ≡ Less) (ys ++ x ∷ []) → pair_cmp y x ≡ Less
before_last y x [] h = h.0
before_last y x (z ∷ zs) h = before_last y x zs h.1

pub last_most : (ys : List Pair) (x : Pair) → IsStrictlySortedBy pair_cmp (ys ++ x ∷ []) → find (λ (q : Pair). nat_lt x.0 q.0) (ys ++ x ∷ []) ≡ None
unfolding IsStrictlySortedBy
last_most [] x sorted = ap (λ b. cond b (Some x) None) (le-ltb x.0 x.0 (omega arith))
last_most (y ∷ ys) x sorted =
    let least = not_less y x (before_last y x ys sorted.0) in
    ap (λ b. cond b (Some y) (find (λ (q : Pair). nat_lt x.0 q.0) (ys ++ x ∷ []))) (le-ltb x.0 y.0 least) ∙ last_most ys x sorted.1

pub if_none : {X : Type 0} (o : Option X) {P : Type 0} → P → IfNone o P
if_none None p = p
if_none (Some x) p = tt
