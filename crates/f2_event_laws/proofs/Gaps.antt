-- No position below a mark is open where the machine says so.
use Rattle.std.proofs.Common.{◌≡◌, ℕ, ◌<◌, Bool, true, false, cond, nat_lt, min, List, [], ◌∷◌, map as map_list, refl, sym, ap, ◌∙◌, arith}
use Rattle.std.specs.Prelude.{Option, Some, None}
use Rattle.std.specs.List.{fold, filter, filter_map, cons_option}
use Rattle.std.specs.Ordering.{nat_cmp, eq_by_cmp}
use Rattle.std.specs.FinMap as finite
use Rattle.std.proofs.lemmas.Bool.Decides.{nat_tests}
use Rattle.f2_model.specs.Lists.{lesser, least_number}
use Rattle.f2_model.specs.State.{State, Slot, Flight, InFsync}
use Rattle.f2_model.specs.Goes.{open_position, gap_below}
use Rattle.f2_stored.specs.Kept.{IsSomeSlot}

-- numbers of which there is no least are none
still_some : (least : ℕ) (xs : List ℕ) → ¬ (fold lesser (Some least) xs ≡ None)
still_some least [] is = cc
still_some least (x ∷ xs) is = still_some (min least x) xs is

no_number : (x : ℕ) (xs : List ℕ) → ¬ (least_number (x ∷ xs) ≡ None)
no_number x xs is = still_some x xs is

abbrev below : ℕ → ℕ → Bool
below position place = nat_lt place position

is_below : (place position : ℕ) → place < position → below position place ≡ true
is_below place position less = grind (arith, nat_tests)

-- the open positions of some flights, below another one
abbrev gaps : ℕ → List (ℕ × Flight) → List ℕ
gaps position es = filter (below position) (filter_map open_position (map_list (λ e. e.1) es))

module _ (position place : ℕ) (less : place < position) where
  own_gap : (found : Option ℕ) (rest : List ℕ) → found ≡ Some place → ¬ (least_number (filter (below position) (cons_option found rest)) ≡ None)
  own_gap None rest is none = absurd (cc)
  own_gap (Some other) rest is none =
      let same : other ≡ place = cc in
      let passes : below position other ≡ true = ap (below position) same ∙ is_below place position less in
      no_number other (filter (below position) rest) (ap (λ b. least_number (cond b (other ∷ filter (below position) rest) (filter (below position) rest))) (sym passes) ∙ none)

  more_none : (found : Option ℕ) (rest : List ℕ) → least_number (filter (below position) (cons_option found rest)) ≡ None → least_number (filter (below position) rest) ≡ None
  more_none None rest none = none
  more_none (Some other) rest none = by_test (below position other) refl
    where
      by_test : (b : Bool) → below position other ≡ b → least_number (filter (below position) rest) ≡ None
      by_test true is = absurd (no_number other (filter (below position) rest) (ap (λ b. least_number (cond b (other ∷ filter (below position) rest) (filter (below position) rest))) (sym is) ∙ none))
      by_test false is = ap (λ b. least_number (cond b (other ∷ filter (below position) rest) (filter (below position) rest))) (sym is) ∙ none

  no_gap : (seat : ℕ) (flight : Flight) → open_position flight ≡ Some place → (es : List (ℕ × Flight)) → least_number (gaps position es) ≡ None → ¬ (finite.find nat_cmp seat es ≡ Some flight)
  no_gap seat flight is [] none found = cc
  no_gap seat flight is (e ∷ es) none found = by_test (no_gap seat flight is es (more_none (open_position e.1) (filter_map open_position (map_list (λ e. e.1) es)) none)) (eq_by_cmp nat_cmp seat e.0) found
    where
      by_test : ¬ (finite.find nat_cmp seat es ≡ Some flight) → (b : Bool) → cond b (Some e.1) (finite.find nat_cmp seat es) ≡ Some flight → ⊥
      by_test rest true same =
          let one : e.1 ≡ flight = cc in
          own_gap (open_position e.1) (filter_map open_position (map_list (λ e. e.1) es)) (ap open_position one ∙ is) none
      by_test rest false later = rest later

pub none_below : (state : State) (position place : ℕ) → gap_below state position ≡ None → IsSomeSlot state place → ¬ (place < position)
none_below state position place none one less =
    no_gap position place less one.seat (InFsync one.ino one.progress) (ap (λ (s : Option Slot). open_position (InFsync one.ino (record one.progress { slot = s }))) one.is_open ∙ ap Some one.at_place)
    (finite.entries state.flights) none (sym (finite.get-entries state.flights one.seat) ∙ one.in_flight)
