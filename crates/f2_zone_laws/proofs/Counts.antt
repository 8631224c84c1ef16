-- How many members a set has, of which each belongs to a thing that no other member belongs to.
use Rattle.std.proofs.Common.{◌≡◌, ◌≢◌, ℕ, zero, suc, ◌+◌, ◌-◌, ◌<◌, ◌≤◌, Bool, true, false, cond, ◌||◌, List, [], ◌∷◌, length, refl, sym, ap, ◌∙◌, subst, arith, nat_cmp, inl, inr, eq-eqb}
use Rattle.std.specs.List.{list_any, AllByRecursion, Contains}
use Rattle.std.specs.Ordering.{eq_by_cmp}
use Rattle.std.specs.Cmp.{nat_cmp_total, unsigned_tied}
use Rattle.std.specs.FinSet as set
use Rattle.std.specs.FinSet.{nat_cmp-IsAntisymmetric}
use Rattle.std.proofs.lemmas.Bool.{cases_eq, false≢true}
use Rattle.f2_bitset.proofs.Members.{contains-remove_same, contains-remove_other}
use Rattle.f2_image.specs.Reached.{AllDiffer, HasMore}

abbrev pub Numbers : Type 0
Numbers = set.FinSet nat_cmp

some_member : (s : Numbers) (items : List ℕ) → ((q : ℕ) → set.contains s q ≡ list_any (eq_by_cmp nat_cmp q) items) → 0 < set.len s → (k : ℕ) × (set.contains s k ≡ true)
some_member s [] are some =
    let empty : s ≡ set.empty = set.same_set nat_cmp_total nat_cmp-IsAntisymmetric s set.empty (λ q. are q ∙ sym (set.contains-empty nat_cmp q)) in
    let zero_long : set.len s ≡ 0 = ap set.len empty ∙ set.len-empty nat_cmp in
    absurd (omega (arith, zero_long, some))
some_member s (k ∷ items) are some = (k, are k ∙ ap (λ b. b || list_any (eq_by_cmp nat_cmp k) items) (unsigned_tied k k ∙ eq-eqb k k refl))

-- what is left where a number goes
stays_in : (s : Numbers) (k q : ℕ) → set.contains (set.remove s k) q ≡ true → (set.contains s q ≡ true) × (q ≢ k)
stays_in s k q there = elim (cases_eq q k) as (λ _. (set.contains s q ≡ true) × (q ≢ k)) [
  | inl same ↦ absurd (false≢true (sym (contains-remove_same s k) ∙ ap (set.contains (set.remove s k)) (sym same) ∙ there))
  | inr other ↦ (sym (contains-remove_other s k q other) ∙ there, other)
]

one_fewer : (s : Numbers) (k : ℕ) → set.len s ≤ set.len (set.remove s k) + 1
one_fewer s k = by_test (set.contains s k) (set.len-remove nat_cmp_total s k)
  where
    by_test : (b : Bool) → set.len (set.remove s k) ≡ cond b (set.len s - 1) (set.len s) → set.len s ≤ set.len (set.remove s k) + 1
    by_test true is = omega (arith, is)
    by_test false is = omega (arith, is)

-- a weaker property of each thing of a list
all_of : {X : Type 0} (P Q : X → Type 0) → ((x : X) → P x → Q x) → (xs : List X) → AllByRecursion P xs → AllByRecursion Q xs
all_of P Q each [] all = tt
all_of P Q each (x ∷ xs) all = (each x all.0, all_of P Q each xs all.1)

module _ {X : Type 0} (Belongs : ℕ → X → Type 0) (one : (k q : ℕ) (x : X) → Belongs k x → Belongs q x → k ≡ q) where
  abbrev BelongsTo : Numbers → X → Type 0
  BelongsTo s x = (k : ℕ) × (set.contains s k ≡ true) × Belongs k x

  -- so many things, no two the same, to which members belong
  record HasThings (s : Numbers) (count : ℕ) : Type 0 where
    things : List X
    long : length things ≡ count
    differ : AllDiffer things
    all : AllByRecursion (BelongsTo s) things

  fewer : (s : Numbers) (k : ℕ) (x : X) → BelongsTo (set.remove s k) x → BelongsTo s x
  fewer s k x (q, there, own) = (q, (stays_in s k q there).0, own)

  other : (s : Numbers) (k : ℕ) (y : X) → Belongs k y → (x : X) → BelongsTo (set.remove s k) x → y ≢ x
  other s k y own x (q, there, also) same = (stays_in s k q there).1 (sym (one k q x (subst (Belongs k) same own) also))

  things : (count : ℕ) (s : Numbers) → ((k : ℕ) → set.contains s k ≡ true → (x : X) × Belongs k x) → count ≤ set.len s → HasThings s count
  things zero s each most = record { things = []; long = refl; differ = tt; all = tt }
  things (suc count) s each most =
      let k = some_member s (set.items s) (set.contains-items s) (omega (arith, most)) in
      let x = each k.0 k.1 in
      let rest = things count (set.remove s k.0) (λ q there. each q (stays_in s k.0 q there).0) (omega (arith, most, one_fewer s k.0)) in
      record {
        things = x.0 ∷ rest.things;
        long = ap suc rest.long;
        differ = (all_of (BelongsTo (set.remove s k.0)) (λ y. x.0 ≢ y) (other s k.0 x.0 x.1) rest.things rest.all, rest.differ);
        all = ((k.0, k.1, x.1), all_of (BelongsTo (set.remove s k.0)) (BelongsTo s) (fewer s k.0) rest.things rest.all);
      }

  -- so more members are more things
  pub more_things : (P : X → Type 0) → ((k : ℕ) (x : X) → Belongs k x → P x) → (s : Numbers) → ((k : ℕ) → set.contains s k ≡ true → (x : X) × Belongs k x) → (most : ℕ) → most < set.len s → HasMore X P most
  more_things P has s each most more =
      let are = things (suc most) s each more in
      record { some = are.things; differ = are.differ; all = all_of (BelongsTo s) P (λ x is. has is.0 x is.2) are.things are.all; more = omega (arith, are.long) }

-- a set without the numbers of a list
pub without : Numbers → List ℕ → Numbers
without s [] = s
without s (k ∷ ks) = without (set.remove s k) ks

pub without_fewer : (s : Numbers) (ks : List ℕ) → set.len s ≤ set.len (without s ks) + length ks
unfolding without
without_fewer s [] = omega arith
without_fewer s (k ∷ ks) = omega (arith, one_fewer s k, without_fewer (set.remove s k) ks)

pub without_in : (s : Numbers) (ks : List ℕ) (q : ℕ) → set.contains (without s ks) q ≡ true → (set.contains s q ≡ true) × AllByRecursion (λ k. q ≢ k) ks
unfolding without
without_in s [] q there = (there, tt)
without_in s (k ∷ ks) q there =
    let rest = without_in (set.remove s k) ks q there in
    let here = stays_in s k q rest.0 in
    (here.0, (here.1, rest.1))

pub not_among : (ks : List ℕ) (q : ℕ) → AllByRecursion (λ k. q ≢ k) ks → ¬ (Contains ks q)
not_among [] q all (place, small, is) = omega (arith, small)
not_among (k ∷ ks) q all (zero, small, is) = all.0 (sym is)
not_among (k ∷ ks) q all (suc place, small, is) = not_among ks q all.1 (place, omega (arith, small), is)
