-- Each change of a pool keeps what its sets keep.
use Rattle.std.proofs.Common.{◌≡◌, ◌≢◌, ℕ, ◌<◌, ◌≤◌, Bool, true, false, not, ◌&&◌, ◌||◌, nat_lt, inl, inr, refl, sym, ap, ◌∙◌, arith, nat_cmp}
use Rattle.std.specs.Ordering.{eq_by_cmp}
use Rattle.std.specs.Cmp.{nat_cmp_total, unsigned_tied}
use Rattle.std.specs.FinSet as set
use Rattle.std.specs.FinSet.{contains-insert, contains-remove, contains-empty}
use Rattle.std.proofs.lemmas.Bool.{cases_lt, cases_eq, false≢true}
use Rattle.std.proofs.lemmas.Bool.Decides.{nat_tests}
use Rattle.f2_bitset.specs.Numbers.{Numbers, IsFull, IsLeastMissing}
use Rattle.f2_bitset.proofs.Members.{contains-insert_same, contains-insert_other, contains-remove_other}
use Rattle.f2_nid_pool.specs.Nids.{IsPool}

-- the set with one number more, over the same range
abbrev pub with_number : Numbers → ℕ → Numbers
with_number s n = record s { members = set.insert s.members n }

-- and with one less
abbrev pub without_number : Numbers → ℕ → Numbers
without_number s n = record s { members = set.remove s.members n }

or_first : (e l r : Bool) → (e || (l || r)) ≡ ((e || l) || r)
or_first true l r = refl
or_first false l r = refl

or_second : (e l b r : Bool) → (e || (l || (b || r))) ≡ ((e || l) || ((e || b) || r))
or_second true l b r = refl
or_second false l b r = refl

or_third : (e l b g r : Bool) → (e || (l || (b || (g || r)))) ≡ (l || (b || ((e || g) || r)))
or_third true true b g r = refl
or_third true false true g r = refl
or_third true false false g r = refl
or_third false l b g r = refl

and_first : (e l r : Bool) → (e ≡ true → r ≡ false) → (not e && (l || r)) ≡ ((not e && l) || r)
and_first true l r gone = sym (gone refl)
and_first false l r gone = refl

or_kept : (e l r : Bool) → (e ≡ true → r ≡ true) → (l || r) ≡ ((not e && l) || r)
or_kept true true r kept = sym (kept refl)
or_kept true false r kept = refl
or_kept false l r kept = refl

-- equal numbers tie
tied : (n m : ℕ) → eq_by_cmp nat_cmp n m ≡ true → n ≡ m
tied n m e = grind (arith, nat_tests, unsigned_tied n m)

-- the root is live whatever is inserted
contains-insert_kept : (s : set.FinSet nat_cmp) (n q : ℕ) → set.contains s q ≡ true → set.contains (set.insert s n) q ≡ true
contains-insert_kept s n q there =
    elim (cases_eq q n) as (λ _. set.contains (set.insert s n) q ≡ true) [
      | inl same ↦ ap (set.contains (set.insert s n)) same ∙ contains-insert_same s n
      | inr other ↦ contains-insert_other s n q other ∙ there
    ]

-- what is inserted into a set of numbers from 3 on is one of these
above-insert : (s : set.FinSet nat_cmp) (n : ℕ) → 3 ≤ n → ((q : ℕ) → set.contains s q ≡ true → 3 ≤ q) → (q : ℕ) → set.contains (set.insert s n) q ≡ true → 3 ≤ q
above-insert s n high above q there =
    elim (cases_eq q n) as (λ _. 3 ≤ q) [
      | inl same ↦ omega arith
      | inr other ↦ above q (sym (contains-insert_other s n q other) ∙ there)
    ]

-- a nid that isn't taken is from 4 on
from_missing : (limit : ℕ) (live base logged taken : Numbers) (nid : ℕ) → IsPool limit live base logged taken → nid < limit → set.contains taken.members nid ≡ false → 4 ≤ nid
from_missing limit live base logged taken nid is below missing =
    elim (cases_lt nid 4) as (λ _. 4 ≤ nid) [
      | inl low ↦ absurd (false≢true (sym missing ∙ is.is_taken nid below ∙ grind (arith, nat_tests)))
      | inr high ↦ high
    ]

-- to draw the least nid that isn't taken
pub IsPool-take : (limit : ℕ) (live base logged taken : Numbers) (nid : ℕ) → IsPool limit live base logged taken → IsLeastMissing taken nid → IsPool limit (with_number live nid) base logged (with_number taken nid)
IsPool-take limit live base logged taken nid is found =
    let below : nid < limit = omega (arith, found.in_range.1, is.taken_over.0, is.taken_over.1) in
    let high : 4 ≤ nid = from_missing limit live base logged taken nid is below found.missing in
    record {
      enough = is.enough;
      live_over = is.live_over;
      base_over = is.base_over;
      logged_over = is.logged_over;
      taken_over = is.taken_over;
      root = contains-insert_kept live.members nid 3 is.root;
      above = above-insert live.members nid (omega arith) is.above;
      is_taken = λ n h.
          let e = eq_by_cmp nat_cmp n nid in
          let rest = set.contains base.members n || (set.contains logged.members n || nat_lt n 4) in
          contains-insert nat_cmp_total taken.members nid n
          ∙ ap (λ t. e || t) (is.is_taken n h)
          ∙ or_first e (set.contains live.members n) rest
          ∙ sym (ap (λ x. x || rest) (contains-insert nat_cmp_total live.members nid n));
    }

-- to take over a nid of an image
pub IsPool-adopt : (limit : ℕ) (live base logged taken : Numbers) (nid : ℕ) → IsPool limit live base logged taken → 4 ≤ nid → IsPool limit (with_number live nid) (with_number base nid) logged (with_number taken nid)
IsPool-adopt limit live base logged taken nid is high = record {
  enough = is.enough;
  live_over = is.live_over;
  base_over = is.base_over;
  logged_over = is.logged_over;
  taken_over = is.taken_over;
  root = contains-insert_kept live.members nid 3 is.root;
  above = above-insert live.members nid (omega arith) is.above;
  is_taken = λ n h.
      let e = eq_by_cmp nat_cmp n nid in
      let rest = set.contains logged.members n || nat_lt n 4 in
      contains-insert nat_cmp_total taken.members nid n
      ∙ ap (λ t. e || t) (is.is_taken n h)
      ∙ or_second e (set.contains live.members n) (set.contains base.members n) rest
      ∙ sym (ap (λ x. x || (set.contains (set.insert base.members nid) n || rest)) (contains-insert nat_cmp_total live.members nid n) ∙ ap (λ x. (e || set.contains live.members n) || (x || rest)) (contains-insert nat_cmp_total base.members nid n));
}

-- to log a nid
pub IsPool-logged : (limit : ℕ) (live base logged taken : Numbers) (nid : ℕ) → IsPool limit live base logged taken → IsPool limit live base (with_number logged nid) (with_number taken nid)
IsPool-logged limit live base logged taken nid is = record {
  enough = is.enough;
  live_over = is.live_over;
  base_over = is.base_over;
  logged_over = is.logged_over;
  taken_over = is.taken_over;
  root = is.root;
  above = is.above;
  is_taken = λ n h.
      let e = eq_by_cmp nat_cmp n nid in
      contains-insert nat_cmp_total taken.members nid n
      ∙ ap (λ t. e || t) (is.is_taken n h)
      ∙ or_third e (set.contains live.members n) (set.contains base.members n) (set.contains logged.members n) (nat_lt n 4)
      ∙ sym (ap (λ x. set.contains live.members n || (set.contains base.members n || (x || nat_lt n 4))) (contains-insert nat_cmp_total logged.members nid n));
}

-- what is left after a removal was there before
contains-remove_kept : (s : set.FinSet nat_cmp) (nid n : ℕ) → set.contains s nid ≡ true → set.contains (set.remove s nid) n ≡ true → set.contains s n ≡ true
contains-remove_kept s nid n there left =
    elim (cases_eq n nid) as (λ _. set.contains s n ≡ true) [
      | inl same ↦ ap (set.contains s) same ∙ there
      | inr other ↦ sym (contains-remove_other s nid n other) ∙ left
    ]

-- nothing holds a nid from 4 on that is neither of the base nor logged
none_holds : (base logged : set.FinSet nat_cmp) (nid n : ℕ) → n ≡ nid → 4 ≤ nid → set.contains base nid ≡ false → set.contains logged nid ≡ false → (set.contains base n || (set.contains logged n || nat_lt n 4)) ≡ false
none_holds base logged nid n same high not_base not_logged =
    ap (λ x. set.contains base x || (set.contains logged x || nat_lt x 4)) same
    ∙ ap (λ b. b || (set.contains logged nid || nat_lt nid 4)) not_base
    ∙ ap (λ b. b || nat_lt nid 4) not_logged
    ∙ grind (arith, nat_tests)

either : (a b c : Bool) → (a || b) ≡ true → (a || (b || c)) ≡ true
either true b c h = refl
either false true c h = refl
either false false c h = absurd (false≢true h)

-- something holds a nid of the base or the log
one_holds : (base logged : set.FinSet nat_cmp) (nid n : ℕ) → n ≡ nid → (set.contains base nid || set.contains logged nid) ≡ true → (set.contains base n || (set.contains logged n || nat_lt n 4)) ≡ true
one_holds base logged nid n same held =
    ap (λ x. set.contains base x || (set.contains logged x || nat_lt x 4)) same
    ∙ either (set.contains base nid) (set.contains logged nid) (nat_lt nid 4) held

-- to give back a nid that is free then
pub IsPool-give_free : (limit : ℕ) (live base logged taken : Numbers) (nid : ℕ) → IsPool limit live base logged taken → set.contains live.members nid ≡ true → nid ≢ 3 → set.contains base.members nid ≡ false → set.contains logged.members nid ≡ false → IsPool limit (without_number live nid) base logged (without_number taken nid)
IsPool-give_free limit live base logged taken nid is there ne not_base not_logged = record {
  enough = is.enough;
  live_over = is.live_over;
  base_over = is.base_over;
  logged_over = is.logged_over;
  taken_over = is.taken_over;
  root = (let other : 3 ≢ nid = λ same. ne (sym same) in contains-remove_other live.members nid 3 other) ∙ is.root;
  above = λ n left. is.above n (contains-remove_kept live.members nid n there left);
  is_taken = λ n h.
      let e = eq_by_cmp nat_cmp n nid in
      let rest = set.contains base.members n || (set.contains logged.members n || nat_lt n 4) in
      contains-remove nat_cmp_total taken.members nid n
      ∙ ap (λ t. not e && t) (is.is_taken n h)
      ∙ and_first e (set.contains live.members n) rest (λ same. none_holds base.members logged.members nid n (tied n nid same) (omega (arith, is.above nid there, ne)) not_base not_logged)
      ∙ sym (ap (λ x. x || rest) (contains-remove nat_cmp_total live.members nid n));
}

-- to give back a nid that the base or the log holds
pub IsPool-give_held : (limit : ℕ) (live base logged taken : Numbers) (nid : ℕ) → IsPool limit live base logged taken → set.contains live.members nid ≡ true → nid ≢ 3 → (set.contains base.members nid || set.contains logged.members nid) ≡ true → IsPool limit (without_number live nid) base logged taken
IsPool-give_held limit live base logged taken nid is there ne held = record {
  enough = is.enough;
  live_over = is.live_over;
  base_over = is.base_over;
  logged_over = is.logged_over;
  taken_over = is.taken_over;
  root = (let other : 3 ≢ nid = λ same. ne (sym same) in contains-remove_other live.members nid 3 other) ∙ is.root;
  above = λ n left. is.above n (contains-remove_kept live.members nid n there left);
  is_taken = λ n h.
      let e = eq_by_cmp nat_cmp n nid in
      let rest = set.contains base.members n || (set.contains logged.members n || nat_lt n 4) in
      is.is_taken n h
      ∙ or_kept e (set.contains live.members n) rest (λ same. one_holds base.members logged.members nid n (tied n nid same) held)
      ∙ sym (ap (λ x. x || rest) (contains-remove nat_cmp_total live.members nid n));
}

-- all that can't be drawn once a checkpoint is done
abbrev pub all_of : Numbers → Numbers
all_of live = record live { members = set.insert (set.insert (set.insert live.members 0) 1) 2 }

-- 0 to 3 and what is live can't be drawn, where 3 is live
taken_then : (s : set.FinSet nat_cmp) → set.contains s 3 ≡ true → (n : ℕ) → set.contains (set.insert (set.insert (set.insert s 0) 1) 2) n ≡ (set.contains s n || nat_lt n 4)
taken_then s root n =
    elim (cases_eq n 3) as (λ _. set.contains (set.insert (set.insert (set.insert s 0) 1) 2) n ≡ (set.contains s n || nat_lt n 4)) [
      | inl same ↦
          contains-insert_kept _ 2 n (contains-insert_kept _ 1 n (contains-insert_kept s 0 n (ap (set.contains s) same ∙ root)))
          ∙ sym (ap (λ b. b || nat_lt n 4) (ap (set.contains s) same ∙ root))
      | inr other ↦
          contains-insert nat_cmp_total _ 2 n
          ∙ ap (λ b. eq_by_cmp nat_cmp n 2 || b) (contains-insert nat_cmp_total _ 1 n ∙ ap (λ b. eq_by_cmp nat_cmp n 1 || b) (contains-insert nat_cmp_total s 0 n))
          ∙ grind (arith, nat_tests, unsigned_tied n 0, unsigned_tied n 1, unsigned_tied n 2)
    ]

or_twice : (a c : Bool) → (a || c) ≡ (a || (a || (false || c)))
or_twice true c = refl
or_twice false c = refl

-- once a checkpoint is done, the base is what is live, and nothing is logged
pub IsPool-committed : (limit : ℕ) (live logged : Numbers) → 5 ≤ limit → live.first ≡ 0 → live.count ≡ limit → logged.first ≡ 0 → logged.count ≡ limit → set.contains live.members 3 ≡ true → ((n : ℕ) → set.contains live.members n ≡ true → 3 ≤ n) → IsPool limit live live (record logged { members = set.empty }) (all_of live)
IsPool-committed limit live logged enough first count first' count' root above = record {
  enough = enough;
  live_over = (first, count);
  base_over = (first, count);
  logged_over = (first', count');
  taken_over = (first, count);
  root = root;
  above = above;
  is_taken = λ n h.
      taken_then live.members root n
      ∙ or_twice (set.contains live.members n) (nat_lt n 4)
      ∙ sym (ap (λ g. set.contains live.members n || (set.contains live.members n || (g || nat_lt n 4))) (contains-empty nat_cmp n));
}

-- the set that has the root alone
pub above-root : (n : ℕ) → set.contains (set.insert (set.empty {R = nat_cmp}) 3) n ≡ true → 3 ≤ n
above-root = above-insert set.empty 3 (omega arith) (λ q there. absurd (false≢true (sym (contains-empty nat_cmp q) ∙ there)))

drop_false : (l b g w : Bool) → w ≡ false → true ≡ (l || (b || (g || w))) → (l || (b || g)) ≡ true
drop_false true b g w e h = refl
drop_false false true g w e h = refl
drop_false false false true w e h = refl
drop_false false false false w e h = sym (h ∙ e)

-- where nothing can be drawn, each nid from 3 on is live, of the base or logged
pub IsPool-full : (limit : ℕ) (live base logged taken : Numbers) → IsPool limit live base logged taken → IsFull taken → (n : ℕ) → n < limit → 3 ≤ n → (set.contains live.members n || (set.contains base.members n || set.contains logged.members n)) ≡ true
IsPool-full limit live base logged taken is full n below from =
    elim (cases_eq n 3) as (λ _. (set.contains live.members n || (set.contains base.members n || set.contains logged.members n)) ≡ true) [
      | inl same ↦ ap (λ b. b || (set.contains base.members n || set.contains logged.members n)) (ap (set.contains live.members) same ∙ is.root)
      | inr other ↦
          let high : nat_lt n 4 ≡ false = grind (arith, nat_tests) in
          drop_false (set.contains live.members n) (set.contains base.members n) (set.contains logged.members n) (nat_lt n 4) high (sym (full n (omega (arith, is.taken_over.0), omega (arith, is.taken_over.0, is.taken_over.1))) ∙ is.is_taken n below)
    ]
