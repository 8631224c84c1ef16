-- What calls in flight owe, zone by zone, as calls come, go on and go.
use Rattle.std.proofs.Common.{◌≡◌, ◌≢◌, ◌⊎◌, inl, inr, ℕ, ◌+◌, ◌≤◌, List, [], ◌∷◌, map as map_list, sum_by, fold, length, refl, sym, ap, ◌∙◌, arith}
use Rattle.std.specs.Prelude.{Option, Some, None}
use Rattle.std.specs.Option.{option_map, unwrap_or}
use Rattle.std.specs.List.{AllByRecursion}
use Rattle.std.specs.Ordering.{nat_cmp}
use Rattle.std.specs.Cmp.{nat_cmp_total}
use Rattle.std.specs.FinMap as map
use Rattle.std.proofs.lemmas.List.Sums.{sum_by-cons}
use Rattle.f2_model.specs.State.{State, Part, InPages, InNodes, Marked, Pairs, Flight, InFsync, InCheck}
use Rattle.f2_model.specs.Fallback.{Both, sum_of, nothing, pairs_of, owed_by_part, owed_by, owed}
use Rattle.f2_laws.specs.Flights.{Flights}
use Rattle.f2_laws.proofs.Maps.{get_put, get_put-other, get_taken, get_taken-other}
use Rattle.f2_laws.proofs.Places.{same_or_other}
use Rattle.f2_held.proofs.MapSums.{each_entry, total_put}

-- what a call in flight owes the node log and the data zone
abbrev pub nodes_by_part : ℕ → Part → ℕ
nodes_by_part dirty Marked = dirty
nodes_by_part dirty _ = dirty + 1

abbrev pub nodes_owed : Pairs → Flight → ℕ
nodes_owed nodes (InFsync ino progress) = nodes_by_part (pairs_of ino nodes) progress.part
nodes_owed nodes (InCheck plan) = 0

abbrev pub pages_owed : Pairs → Flight → ℕ
pages_owed pages (InFsync ino progress) = pairs_of ino pages
pages_owed pages (InCheck plan) = 0

-- a sum over the calls in flight
abbrev pub total : (Flight → ℕ) → Flights → ℕ
total f flights = sum_by f (map.values flights)

module _ (state : State) where
  nodes_of_part : (ino : ℕ) (part : Part) → (owed_by_part state ino part).nodes ≡ nodes_by_part (pairs_of ino state.dirty_nodes) part
  nodes_of_part ino InPages = refl
  nodes_of_part ino InNodes = refl
  nodes_of_part ino Marked = refl

  pages_of_part : (ino : ℕ) (part : Part) → (owed_by_part state ino part).pages ≡ pairs_of ino state.dirty_pages
  pages_of_part ino InPages = refl
  pages_of_part ino InNodes = refl
  pages_of_part ino Marked = refl

  each_nodes : (flight : Flight) → (owed_by state flight).nodes ≡ nodes_owed state.dirty_nodes flight
  each_nodes (InFsync ino progress) = nodes_of_part ino progress.part
  each_nodes (InCheck plan) = refl

  each_pages : (flight : Flight) → (owed_by state flight).pages ≡ pages_owed state.dirty_pages flight
  each_pages (InFsync ino progress) = pages_of_part ino progress.part
  each_pages (InCheck plan) = refl

  fold_nodes : (a : Both) (xs : List Flight) → (fold (λ sum flight. sum_of sum (owed_by state flight)) a xs).nodes ≡ a.nodes + sum_by (nodes_owed state.dirty_nodes) xs
  fold_nodes a [] = omega arith
  fold_nodes a (x ∷ xs) = omega (arith, fold_nodes (sum_of a (owed_by state x)) xs, sum_by-cons (nodes_owed state.dirty_nodes) x xs, each_nodes x)

  fold_pages : (a : Both) (xs : List Flight) → (fold (λ sum flight. sum_of sum (owed_by state flight)) a xs).pages ≡ a.pages + sum_by (pages_owed state.dirty_pages) xs
  fold_pages a [] = omega arith
  fold_pages a (x ∷ xs) = omega (arith, fold_pages (sum_of a (owed_by state x)) xs, sum_by-cons (pages_owed state.dirty_pages) x xs, each_pages x)

  -- what is owed is the sum of what each call owes
  pub owed_nodes : (owed state).nodes ≡ total (nodes_owed state.dirty_nodes) state.flights
  owed_nodes = omega (arith, fold_nodes nothing (map.values state.flights))

  pub owed_pages : (owed state).pages ≡ total (pages_owed state.dirty_pages) state.flights
  owed_pages = omega (arith, fold_pages nothing (map.values state.flights))

-- two maps that have the same at each key are one
same_flights : (one other : Flights) → ((seat : ℕ) → map.get one seat ≡ map.get other seat) → one ≡ other
same_flights one other same = map.same_map nat_cmp_total map.nat_cmp-IsAntisymmetric one other same

no_list : {X : Type 0} (xs : List X) → length xs ≡ 0 → xs ≡ []
no_list [] e = refl
no_list (x ∷ xs) e = absurd (omega arith)

abbrev no_flights : Flights
no_flights = map.empty

-- nothing is owed where nobody is in flight
pub total_none : (f : Flight → ℕ) → total f map.empty ≡ 0
total_none f = ap (λ es. sum_by f (map_list (λ e. e.1) es)) (no_list (map.entries map.empty) (sym (map.len-entries map.empty) ∙ map.len-empty nat_cmp Flight))

pub total_nobody : (f : Flight → ℕ) (flights : Flights) → ((seat : ℕ) (one : Flight) → map.get flights seat ≡ Some one → ⊥) → total f flights ≡ 0
total_nobody f flights nobody = ap (total f) (same_flights flights no_flights (λ seat. by_found seat (map.get flights seat) refl)) ∙ total_none f
  where
    by_found : (seat : ℕ) (o : Option Flight) → map.get flights seat ≡ o → map.get flights seat ≡ map.get no_flights seat
    by_found seat None e = e ∙ sym (map.get-empty nat_cmp seat)
    by_found seat (Some one) e = absurd (nobody seat one e)

-- each call in flight owes no more than before
pub total_le : (f g : Flight → ℕ) (flights : Flights) → ((seat : ℕ) (one : Flight) → map.get flights seat ≡ Some one → f one ≤ g one) → total f flights ≤ total g flights
total_le f g flights each = go (map.entries flights) (each_entry (λ e. f e.1 ≤ g e.1) (map.entries flights) (map.entries_sorted flights) (λ k v found. each k v (map.get-entries flights k ∙ found)))
  where
    go : (es : List (ℕ × Flight)) → AllByRecursion (λ e. f e.1 ≤ g e.1) es → sum_by f (map_list (λ e. e.1) es) ≤ sum_by g (map_list (λ e. e.1) es)
    go [] all = omega arith
    go (e ∷ es) all = omega (arith, sum_by-cons f e.1 (map_list (λ e. e.1) es), sum_by-cons g e.1 (map_list (λ e. e.1) es), all.0, go es all.1)

module _ (f : Flight → ℕ) (flights : Flights) (seat : ℕ) where
  -- a call more adds no more than it owes
  pub total_more : (one : Flight) → total f (map.insert flights seat one) ≤ total f flights + f one
  total_more one = omega (arith, total_put f flights seat one)

  -- the sum without a seat, with what the seat owes
  pub total_split : (one : Flight) → map.get flights seat ≡ Some one → total f flights ≡ total f (map.remove flights seat) + f one
  total_split one there =
      let back : map.insert (map.remove flights seat) seat one ≡ flights = same_flights _ flights (λ at. by_seat at (same_or_other at seat)) in
      let put = total_put f (map.remove flights seat) seat one in
      let gone = ap (λ o. unwrap_or (option_map f o) 0) (get_taken flights seat) in
      omega (arith, ap (total f) back, put, gone)
    where
      by_seat : (at : ℕ) → (at ≡ seat) ⊎ (at ≢ seat) → map.get (map.insert (map.remove flights seat) seat one) at ≡ map.get flights at
      by_seat at (inl same) = ap (λ s. map.get (map.insert (map.remove flights seat) seat one) s) same ∙ get_put (map.remove flights seat) seat one ∙ sym there ∙ ap (λ s. map.get flights s) (sym same)
      by_seat at (inr other) = get_put-other (map.remove flights seat) seat one at other ∙ get_taken-other flights seat at other

  -- a call in the place of what the seat had
  pub total_put_split : (one : Flight) → total f (map.insert flights seat one) ≡ total f (map.remove flights seat) + f one
  total_put_split one =
      let put = total_put f (map.remove flights seat) seat one in
      let gone = ap (λ o. unwrap_or (option_map f o) 0) (get_taken flights seat) in
      let same : map.insert (map.remove flights seat) seat one ≡ map.insert flights seat one = same_flights _ _ (λ at. by_seat at (same_or_other at seat)) in
      omega (arith, ap (total f) same, put, gone)
    where
      by_seat : (at : ℕ) → (at ≡ seat) ⊎ (at ≢ seat) → map.get (map.insert (map.remove flights seat) seat one) at ≡ map.get (map.insert flights seat one) at
      by_seat at (inl same) =
          ap (λ s. map.get (map.insert (map.remove flights seat) seat one) s) same ∙ get_put (map.remove flights seat) seat one
          ∙ sym (ap (λ s. map.get (map.insert flights seat one) s) same ∙ get_put flights seat one)
      by_seat at (inr other) = get_put-other (map.remove flights seat) seat one at other ∙ get_taken-other flights seat at other ∙ sym (get_put-other flights seat one at other)

  -- a seat that leaves owes no more
  pub total_left : total f (map.remove flights seat) ≤ total f flights
  total_left = by_found (map.get flights seat) refl
    where
      by_found : (o : Option Flight) → map.get flights seat ≡ o → total f (map.remove flights seat) ≤ total f flights
      by_found None e = omega (arith, ap (total f) (same_flights (map.remove flights seat) flights (λ at. by_seat at (same_or_other at seat))))
        where
          by_seat : (at : ℕ) → (at ≡ seat) ⊎ (at ≢ seat) → map.get (map.remove flights seat) at ≡ map.get flights at
          by_seat at (inl same) = ap (λ s. map.get (map.remove flights seat) s) same ∙ get_taken flights seat ∙ sym (ap (λ s. map.get flights s) same ∙ e)
          by_seat at (inr other) = get_taken-other flights seat at other
      by_found (Some one) e = omega (arith, total_split one e)
