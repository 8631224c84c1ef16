-- Sets of pairs with numbers of a file put in or taken out.
use Rattle.std.proofs.Common.{◌≡◌, ◌≢◌, ◌⊎◌, inl, inr, ℕ, Bool, true, false, not, ◌&&◌, ◌||◌, List, [], ◌∷◌, refl, sym, ap, ◌∙◌, true≢false}
use Rattle.std.specs.Prelude.{◌==◌}
use Rattle.std.specs.Ordering.{eq_by_cmp, is_eq}
use Rattle.std.specs.Cmp.{Equal-is, tied_itself}
use Rattle.std.specs.FinSet as set
use Rattle.std.specs.FinSet.{contains-insert, contains-remove, contains-retain}
use Rattle.std.proofs.lemmas.Bool.{ne_eqb, eq-eqb}
use Rattle.f2_model.specs.State.{Pairs, pair_cmp, with_pairs, without_pairs, without_ino}
use Rattle.f2_laws.proofs.Clean.{other_pairs}
use Rattle.f2_laws.proofs.Listed.{Has}
use Rattle.f2_laws.proofs.Orders.{pair_cmp_total, pair_cmp-IsAntisymmetric}

abbrev is_pair : ℕ × ℕ → ℕ × ℕ → Bool
is_pair = eq_by_cmp pair_cmp

-- whether a pair is one of a file and some numbers
abbrev pub has : ℕ → List ℕ → ℕ × ℕ → Bool
has ino [] q = false
has ino (number ∷ numbers) q = is_pair q (ino, number) || has ino numbers q

pub listed : (ino n : ℕ) (numbers : List ℕ) → has ino numbers (ino, n) ≡ true → Has n numbers
listed ino n [] h = absurd (true≢false (sym h))
listed ino n (number ∷ numbers) h = by_test (listed ino n numbers) (is_pair (ino, n) (ino, number)) refl h
  where
    by_test : (has ino numbers (ino, n) ≡ true → Has n numbers) → (b : Bool) → is_pair (ino, n) (ino, number) ≡ b → (b || has ino numbers (ino, n)) ≡ true → (n ≡ number) ⊎ Has n numbers
    by_test rest true is h = inl (ap (λ (p : ℕ × ℕ). p.1) (pair_cmp-IsAntisymmetric (ino, n) (ino, number) ((Equal-is (pair_cmp (ino, n) (ino, number))).0 is)))
    by_test rest false is h = inr (rest h)

pub has_listed : (ino n : ℕ) (numbers : List ℕ) → Has n numbers → has ino numbers (ino, n) ≡ true
has_listed ino n [] h = absurd h
has_listed ino n (number ∷ numbers) (inl same) =
    ap (λ b. b || has ino numbers (ino, n)) (ap (λ i. is_pair (ino, n) (ino, i)) (sym same) ∙ ap is_eq (tied_itself pair_cmp_total (ino, n)))
has_listed ino n (number ∷ numbers) (inr h) = ap (λ b. is_pair (ino, n) (ino, number) || b) (has_listed ino n numbers h) ∙ or_true (is_pair (ino, n) (ino, number))
  where
    or_true : (a : Bool) → (a || true) ≡ true
    or_true true = refl
    or_true false = refl

-- no pair of another file is
has_other : (at ino n : ℕ) (numbers : List ℕ) → at ≢ ino → has ino numbers (at, n) ≡ false
has_other at ino n [] apart = refl
has_other at ino n (number ∷ numbers) apart = ap (λ b. b || has ino numbers (at, n)) (other_pairs (at, n) (ino, number) apart) ∙ has_other at ino n numbers apart

one_more : (a b c : Bool) → (b || (a || c)) ≡ ((a || b) || c)
one_more true true c = refl
one_more true false c = refl
one_more false b c = refl

one_less : (a b c : Bool) → ((not a && c) && not b) ≡ (c && not (a || b))
one_less true true true = refl
one_less true true false = refl
one_less true false true = refl
one_less true false false = refl
one_less false true true = refl
one_less false true false = refl
one_less false false true = refl
one_less false false false = refl

all_left : (c : Bool) → c ≡ (c && true)
all_left true = refl
all_left false = refl

contains-with : (ino : ℕ) (numbers : List ℕ) (s : Pairs) (q : ℕ × ℕ) → set.contains (with_pairs ino s numbers) q ≡ (has ino numbers q || set.contains s q)
contains-with ino [] s q = refl
contains-with ino (number ∷ numbers) s q =
    contains-with ino numbers (set.insert s (ino, number)) q
    ∙ ap (λ b. has ino numbers q || b) (contains-insert pair_cmp_total s (ino, number) q)
    ∙ one_more (is_pair q (ino, number)) (has ino numbers q) (set.contains s q)

contains-without : (ino : ℕ) (numbers : List ℕ) (s : Pairs) (q : ℕ × ℕ) → set.contains (without_pairs ino s numbers) q ≡ (set.contains s q && not (has ino numbers q))
contains-without ino [] s q = all_left (set.contains s q)
contains-without ino (number ∷ numbers) s q =
    contains-without ino numbers (set.remove s (ino, number)) q
    ∙ ap (λ b. b && not (has ino numbers q)) (contains-remove pair_cmp_total s (ino, number) q)
    ∙ one_less (is_pair q (ino, number)) (has ino numbers q) (set.contains s q)

contains-without_ino : (ino : ℕ) (s : Pairs) (q : ℕ × ℕ) → set.contains (without_ino ino s) q ≡ (set.contains s q && not (q.0 == ino))
contains-without_ino ino s q = contains-retain s (λ pair. not (pair.0 == ino)) q (λ pair same. ap (λ (p : ℕ × ℕ). not (p.0 == ino)) (sym (pair_cmp-IsAntisymmetric q pair same)))

-- pairs of another file stay as they are
pub other_with : (at ino n : ℕ) (numbers : List ℕ) (s : Pairs) → at ≢ ino → set.contains (with_pairs ino s numbers) (at, n) ≡ set.contains s (at, n)
other_with at ino n numbers s apart = contains-with ino numbers s (at, n) ∙ ap (λ b. b || set.contains s (at, n)) (has_other at ino n numbers apart)

pub other_without : (at ino n : ℕ) (numbers : List ℕ) (s : Pairs) → at ≢ ino → set.contains (without_pairs ino s numbers) (at, n) ≡ set.contains s (at, n)
other_without at ino n numbers s apart =
    contains-without ino numbers s (at, n) ∙ ap (λ b. set.contains s (at, n) && not b) (has_other at ino n numbers apart) ∙ sym (all_left (set.contains s (at, n)))

pub other_without_ino : (at ino n : ℕ) (s : Pairs) → at ≢ ino → set.contains (without_ino ino s) (at, n) ≡ set.contains s (at, n)
other_without_ino at ino n s apart = contains-without_ino ino s (at, n) ∙ ap (λ b. set.contains s (at, n) && not b) (ne_eqb at ino apart) ∙ sym (all_left (set.contains s (at, n)))

-- a file that was taken out has none
pub none_of_ino : (ino n : ℕ) (s : Pairs) → set.contains (without_ino ino s) (ino, n) ≡ false
none_of_ino ino n s = contains-without_ino ino s (ino, n) ∙ ap (λ b. set.contains s (ino, n) && not b) (eq-eqb ino ino refl) ∙ and_false (set.contains s (ino, n))
  where
    and_false : (c : Bool) → (c && false) ≡ false
    and_false true = refl
    and_false false = refl

-- a pair of a set with numbers put is of them or was there, and the other way round
pub in_with : (ino n : ℕ) (numbers : List ℕ) (s : Pairs) → set.contains (with_pairs ino s numbers) (ino, n) ≡ true → Has n numbers ⊎ (set.contains s (ino, n) ≡ true)
in_with ino n numbers s h = by_test (has ino numbers (ino, n)) refl (sym (contains-with ino numbers s (ino, n)) ∙ h)
  where
    by_test : (b : Bool) → has ino numbers (ino, n) ≡ b → (b || set.contains s (ino, n)) ≡ true → Has n numbers ⊎ (set.contains s (ino, n) ≡ true)
    by_test true is h = inl (listed ino n numbers is)
    by_test false is h = inr h

pub with_listed : (ino n : ℕ) (numbers : List ℕ) (s : Pairs) → Has n numbers → set.contains (with_pairs ino s numbers) (ino, n) ≡ true
with_listed ino n numbers s h = contains-with ino numbers s (ino, n) ∙ ap (λ b. b || set.contains s (ino, n)) (has_listed ino n numbers h)

pub with_kept : (ino n : ℕ) (numbers : List ℕ) (s : Pairs) → set.contains s (ino, n) ≡ true → set.contains (with_pairs ino s numbers) (ino, n) ≡ true
with_kept ino n numbers s h = contains-with ino numbers s (ino, n) ∙ ap (λ b. has ino numbers (ino, n) || b) h ∙ or_true (has ino numbers (ino, n))
  where
    or_true : (a : Bool) → (a || true) ≡ true
    or_true true = refl
    or_true false = refl

-- a pair of a set with numbers taken out was there and is none of them, and the other way round
pub in_without : (ino n : ℕ) (numbers : List ℕ) (s : Pairs) → set.contains (without_pairs ino s numbers) (ino, n) ≡ true → (set.contains s (ino, n) ≡ true) × (Has n numbers → ⊥)
in_without ino n numbers s h = by_tests (set.contains s (ino, n)) refl (has ino numbers (ino, n)) refl (sym (contains-without ino numbers s (ino, n)) ∙ h)
  where
    by_tests : (a : Bool) → set.contains s (ino, n) ≡ a → (b : Bool) → has ino numbers (ino, n) ≡ b → (a && not b) ≡ true → (set.contains s (ino, n) ≡ true) × (Has n numbers → ⊥)
    by_tests true there false none h = (there, λ has. true≢false (sym (has_listed ino n numbers has) ∙ none))
    by_tests true there true some h = absurd (true≢false (sym h))
    by_tests false there b is h = absurd (true≢false (sym h))

pub without_kept : (ino n : ℕ) (numbers : List ℕ) (s : Pairs) → set.contains s (ino, n) ≡ true → (Has n numbers → ⊥) → set.contains (without_pairs ino s numbers) (ino, n) ≡ true
without_kept ino n numbers s there none = contains-without ino numbers s (ino, n) ∙ ap (λ b. b && not (has ino numbers (ino, n))) there ∙ by_test (has ino numbers (ino, n)) refl
  where
    by_test : (b : Bool) → has ino numbers (ino, n) ≡ b → not b ≡ true
    by_test true is = absurd (none (listed ino n numbers is))
    by_test false is = refl

-- a number is one of a list, or it isn't
pub has_or_not : (n : ℕ) (numbers : List ℕ) → Has n numbers ⊎ (Has n numbers → ⊥)
has_or_not n numbers = by_test (has 0 numbers (0, n)) refl
  where
    by_test : (b : Bool) → has 0 numbers (0, n) ≡ b → Has n numbers ⊎ (Has n numbers → ⊥)
    by_test true is = inl (listed 0 n numbers is)
    by_test false is = inr (λ h. true≢false (sym (has_listed 0 n numbers h) ∙ is))
