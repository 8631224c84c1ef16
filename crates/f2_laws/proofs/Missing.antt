-- Fewer numbers than a range has leave one of the range out.
use Rattle.std.proofs.Common.{◌≡◌, ◌≢◌, ◌⊎◌, inl, inr, ℕ, zero, suc, ◌+◌, ◌<◌, ◌≤◌, Bool, true, false, cond, not, ◌||◌, ◌&&◌, ◌-◌, List, [], ◌∷◌, length, refl, sym, ap, ◌∙◌, arith, true≢false}
use Rattle.std.specs.List.{list_any, filter}
use Rattle.std.specs.Ordering.{nat_cmp, eq_by_cmp}
use Rattle.std.specs.Cmp.{unsigned_tied, nat_cmp_total}
use Rattle.std.specs.FinSet as set
use Rattle.std.proofs.lemmas.Bool.{ne_eqb, eqb-true, eq-eqb}
use Rattle.std.proofs.lemmas.Bool.Decides.{eqb_tells}
use Rattle.std.proofs.Math.Dec.{eqb}

-- whether a number is in a list
abbrev pub has : ℕ → List ℕ → Bool
has k xs = list_any (eq_by_cmp nat_cmp k) xs

pub tied-true : (k x : ℕ) → eq_by_cmp nat_cmp k x ≡ true → k ≡ x
tied-true k x e = eqb-true k x (sym (unsigned_tied k x) ∙ e)

pub tied-same : (k : ℕ) → eq_by_cmp nat_cmp k k ≡ true
tied-same k = unsigned_tied k k ∙ eq-eqb k k refl

pub tied-other : (k x : ℕ) → k ≢ x → eq_by_cmp nat_cmp k x ≡ false
tied-other k x h = unsigned_tied k x ∙ ne_eqb k x h

-- a list without a number
abbrev without : ℕ → List ℕ → List ℕ
without a xs = filter (λ x. not (eq_by_cmp nat_cmp a x)) xs

has-without : (k a : ℕ) → k ≢ a → (xs : List ℕ) → has k (without a xs) ≡ has k xs
has-without k a h [] = refl
has-without k a h (x ∷ xs) = by_test (has-without k a h xs) (eq_by_cmp nat_cmp a x) refl
  where
    by_test : has k (without a xs) ≡ has k xs → (b : Bool) → eq_by_cmp nat_cmp a x ≡ b → has k (cond (not b) (x ∷ without a xs) (without a xs)) ≡ (eq_by_cmp nat_cmp k x || has k xs)
    by_test rest true e =
        let other : k ≢ x = λ same. h (same ∙ sym (tied-true a x e)) in
        rest ∙ sym (ap (λ b. b || has k xs) (tied-other k x other))
    by_test rest false e = ap (λ b. eq_by_cmp nat_cmp k x || b) rest

length-without-le : (a : ℕ) (xs : List ℕ) → length (without a xs) ≤ length xs
length-without-le a [] = omega arith
length-without-le a (x ∷ xs) = by_test (length-without-le a xs) (eq_by_cmp nat_cmp a x)
  where
    by_test : length (without a xs) ≤ length xs → (b : Bool) → length (cond (not b) (x ∷ without a xs) (without a xs)) ≤ suc (length xs)
    by_test rest true = omega arith
    by_test rest false = omega arith

length-without-lt : (a : ℕ) (xs : List ℕ) → has a xs ≡ true → length (without a xs) < length xs
length-without-lt a [] h = absurd (true≢false (sym h))
length-without-lt a (x ∷ xs) h = by_test (length-without-le a xs) (length-without-lt a xs) (eq_by_cmp nat_cmp a x) h
  where
    by_test : length (without a xs) ≤ length xs → (has a xs ≡ true → length (without a xs) < length xs) → (b : Bool) → (b || has a xs) ≡ true → length (cond (not b) (x ∷ without a xs) (without a xs)) < suc (length xs)
    by_test most less true e = omega arith
    by_test most less false e = let rest = less e in omega arith

-- a number other than one that is there is there where it is without that one
still_has : (a j : ℕ) (xs : List ℕ) → has a xs ≡ true → (j ≢ a → has j (without a xs) ≡ true) → has j xs ≡ true
still_has a j xs e h = by_cases (eqb_tells j a)
  where
    by_cases : ((eqb j a ≡ true) × (j ≡ a)) ⊎ ((eqb j a ≡ false) × (j ≢ a)) → has j xs ≡ true
    by_cases (inl same) = ap (λ k. has k xs) same.1 ∙ e
    by_cases (inr other) = sym (has-without j a other.1 xs) ∙ h other.1

-- the least number of a range that a list hasn't
pub record IsMissing (a n : ℕ) (xs : List ℕ) (k : ℕ) : Type 0 where
  pub above : a ≤ k
  pub below : k < a + n
  pub missing : has k xs ≡ false
  pub least : (j : ℕ) → a ≤ j → j < k → has j xs ≡ true

-- where a number is there, the least other one of the rest of the range is missing
go_on : (n a : ℕ) (xs : List ℕ) → has a xs ≡ true → (k : ℕ) × IsMissing (suc a) n (without a xs) k → (k : ℕ) × IsMissing a (suc n) xs k
go_on n a xs e rest =
    let k = rest.0 in
    let m = rest.1 in
    let above : suc a ≤ k = m.above in
    let below : k < suc a + n = m.below in
    let apart : k ≢ a = λ same. omega arith in (
      k,
      record {
        above = omega arith;
        below = omega arith;
        missing = sym (has-without k a apart xs) ∙ m.missing;
        least = λ j from to. still_has a j xs e (λ other. m.least j (omega arith) to);
      },
    )

pub least_missing : (n a : ℕ) (xs : List ℕ) → length xs < n → (k : ℕ) × IsMissing a n xs k
least_missing zero a xs h = absurd (omega arith)
least_missing (suc n) a xs h = by_test (λ shorter. least_missing n (suc a) (without a xs) shorter) (has a xs) refl
  where
    by_test : (length (without a xs) < n → (k : ℕ) × IsMissing (suc a) n (without a xs) k) → (b : Bool) → has a xs ≡ b → (k : ℕ) × IsMissing a (suc n) xs k
    by_test rest false e = (a, record { above = omega arith; below = omega arith; missing = e; least = λ j from to. absurd (omega arith) })
    by_test rest true e = go_on n a xs e (rest (omega (arith, length-without-lt a xs e)))

-- a list of a set's numbers
pub record Lists (s : set.FinSet nat_cmp) (xs : List ℕ) : Type 0 where
  pub length_is : length xs ≡ set.len s
  pub members : (q : ℕ) → set.contains s q ≡ has q xs

-- a set without a number that it has, listed, gives a list of the set
module _ (s : set.FinSet nat_cmp) (k : ℕ) (there : set.contains s k ≡ true) (xs : List ℕ) (rest : Lists (set.remove s k) xs) where
  member : (q : ℕ) (b : Bool) → eq_by_cmp nat_cmp q k ≡ b → (not b && set.contains s q) ≡ has q xs → set.contains s q ≡ (b || has q xs)
  member q true e h = ap (λ i. set.contains s i) (tied-true q k e) ∙ there
  member q false e h = h

  one_less : (b : Bool) (m n : ℕ) → b ≡ true → n ≡ cond b (m - 1) m → n ≡ m - 1
  one_less true m n e h = h
  one_less false m n e h = absurd (true≢false (sym e))

  lists_cons : 1 ≤ set.len s → Lists s (k ∷ xs)
  lists_cons some =
      let less : set.len (set.remove s k) ≡ set.len s - 1 = one_less (set.contains s k) (set.len s) _ there (set.len-remove nat_cmp_total s k) in
      record {
        length_is = omega (arith, rest.length_is);
        members = λ q. member q (eq_by_cmp nat_cmp q k) refl (sym (set.contains-remove nat_cmp_total s k q) ∙ rest.members q);
      }

abbrev Listed : set.FinSet nat_cmp → Type 0
Listed s = (xs : List ℕ) × Lists s xs

no_items : (s : set.FinSet nat_cmp) → set.items s ≡ [] → set.len s ≡ 0
no_items s e =
    let same : s ≡ set.empty = set.same_set nat_cmp_total set.nat_cmp-IsAntisymmetric s set.empty (λ q. set.contains-items s q ∙ ap (λ ks. has q ks) e ∙ sym (set.contains-empty nat_cmp q)) in
    ap (λ (t : set.FinSet nat_cmp). set.len t) same ∙ set.len-empty nat_cmp

listed_to : (n : ℕ) (s : set.FinSet nat_cmp) → set.len s ≡ n → Listed s
listed_to zero s e = ([], record { length_is = sym e; members = λ q. ap (λ (t : set.FinSet nat_cmp). set.contains t q) (set.empty_of_len s e) ∙ set.contains-empty nat_cmp q })
listed_to (suc n) s e = by_items (listed_to n) (set.items s) refl
  where
    by_items : ((t : set.FinSet nat_cmp) → set.len t ≡ n → Listed t) → (ks : List ℕ) → set.items s ≡ ks → Listed s
    by_items rest [] is = let none = no_items s is in absurd (omega arith)
    by_items rest (k ∷ ks) is =
        let there : set.contains s k ≡ true = set.contains-items s k ∙ ap (λ l. has k l) is ∙ ap (λ b. b || has k ks) (tied-same k) in
        let less : set.len (set.remove s k) ≡ n = one_fewer (set.contains s k) (set.len s) _ there e (set.len-remove nat_cmp_total s k) in
        let more = rest (set.remove s k) less in
        (k ∷ more.0, lists_cons s k there more.0 more.1 (omega arith))
      where
        one_fewer : (b : Bool) (m l : ℕ) → b ≡ true → m ≡ suc n → l ≡ cond b (m - 1) m → l ≡ n
        one_fewer true m l t e h = omega arith
        one_fewer false m l t e h = absurd (true≢false (sym t))

pub listed : (s : set.FinSet nat_cmp) → Listed s
listed s = listed_to (set.len s) s refl
