-- How many entries of each block there are.
use Rattle.std.proofs.Common.{◌≡◌, ◌≢◌, ℕ, zero, suc, ◌+◌, ◌-◌, ◌*◌, ◌/◌, ◌<◌, ◌≤◌, Bool, true, false, cond, List, length, set, get_or, Option, Some, None, is_some, IsSome, nat_eq, refl, ap, sym, subst, ◌∙◌, inl, inr, arith, get_or-set_same, get_or-set_other}
use Rattle.std.specs.Ordering.{nat_cmp}
use Rattle.std.specs.Cmp.{nat_cmp_total}
use Rattle.std.specs.FinMap as map
use Rattle.std.specs.FinMap.{nat_cmp-IsAntisymmetric}
use Rattle.std.proofs.lemmas.Bool.{cases_eq}
use Rattle.std.proofs.lemmas.Bool.Decides.{nat_tests}
use Rattle.std.proofs.lemmas.List.{length-set, get_or_default}
use Rattle.f2_format.specs.Nat.{nat_block_of}
use Rattle.f2_nat_block.specs.declared.entries.NatEntry.{NatEntry}
use Rattle.f2_nat_cache.specs.Entries.{Entries, AreCounts, count_in}
use Rattle.f2_nat_cache.proofs.Tables.{same, eq_same, eq_itself, get-insert, get-remove}

-- the entries whose nids pass a test
pub get-retain : (m : Entries) (p : ℕ → Bool) (q : ℕ) → map.get (map.retain_keys m p) q ≡ cond (p q) (map.get m q) None
get-retain m p q = map.get-retain_keys m p q (λ x tied. ap p (sym (nat_cmp-IsAntisymmetric q x tied)))

-- an entry that is put and passes the test is among them, and else they stay
pub retain-insert : (m : Entries) (k : ℕ) (v : NatEntry) (p : ℕ → Bool) → map.retain_keys (map.insert m k v) p ≡ cond (p k) (map.insert (map.retain_keys m p) k v) (map.retain_keys m p)
retain-insert m k v p = at (p k) refl
  where
    left : (q : ℕ) → map.get (map.retain_keys (map.insert m k v) p) q ≡ cond (p q) (cond (nat_eq q k) (Some v) (map.get m q)) None
    left q = get-retain (map.insert m k v) p q ∙ ap (λ o. cond (p q) o None) (get-insert m k v q)

    right : (q : ℕ) → map.get (map.insert (map.retain_keys m p) k v) q ≡ cond (nat_eq q k) (Some v) (cond (p q) (map.get m q) None)
    right q = get-insert (map.retain_keys m p) k v q ∙ ap (cond (nat_eq q k) (Some v)) (get-retain m p q)

    passes : (e b : Bool) (o : Option NatEntry) → (e ≡ true → b ≡ true) → cond b (cond e (Some v) o) None ≡ cond e (Some v) (cond b o None)
    passes true true o h = refl
    passes true false o h = let wrong = h refl in cc
    passes false b o h = refl

    fails : (e b : Bool) (o : Option NatEntry) → (e ≡ true → b ≡ false) → cond b (cond e (Some v) o) None ≡ cond b o None
    fails true true o h = let wrong = h refl in cc
    fails true false o h = refl
    fails false b o h = refl

    at : (b : Bool) → p k ≡ b → map.retain_keys (map.insert m k v) p ≡ cond b (map.insert (map.retain_keys m p) k v) (map.retain_keys m p)
    at true pass = same _ _ (λ q. left q ∙ passes (nat_eq q k) (p q) (map.get m q) (λ e. ap p (eq_same q k e) ∙ pass) ∙ sym (right q))
    at false fail = same _ _ (λ q. left q ∙ fails (nat_eq q k) (p q) (map.get m q) (λ e. ap p (eq_same q k e) ∙ fail) ∙ sym (get-retain m p q))

-- an entry that was there, or fails the test, changes no count
pub count-insert_there : (m : Entries) (k : ℕ) (v : NatEntry) (p : ℕ → Bool) → map.contains_key m k ≡ true → map.len (map.retain_keys (map.insert m k v) p) ≡ map.len (map.retain_keys m p)
count-insert_there m k v p there = ap (λ n. map.len n) (retain-insert m k v p) ∙ at (p k) refl
  where
    at : (b : Bool) → p k ≡ b → map.len (cond b (map.insert (map.retain_keys m p) k v) (map.retain_keys m p)) ≡ map.len (map.retain_keys m p)
    at true pass =
        map.len-insert nat_cmp_total (map.retain_keys m p) k v
        ∙ ap (λ b. cond b (map.len (map.retain_keys m p)) (map.len (map.retain_keys m p) + 1)) (ap is_some (get-retain m p k ∙ ap (λ b. cond b (map.get m k) None) pass) ∙ there)
    at false fail = refl

pub count-insert_fails : (m : Entries) (k : ℕ) (v : NatEntry) (p : ℕ → Bool) → p k ≡ false → map.len (map.retain_keys (map.insert m k v) p) ≡ map.len (map.retain_keys m p)
count-insert_fails m k v p fail = ap (λ n. map.len n) (retain-insert m k v p ∙ ap (λ b. cond b (map.insert (map.retain_keys m p) k v) (map.retain_keys m p)) fail)

-- a new one that passes counts once
pub count-insert_new : (m : Entries) (k : ℕ) (v : NatEntry) (p : ℕ → Bool) → map.contains_key m k ≡ false → p k ≡ true → map.len (map.retain_keys (map.insert m k v) p) ≡ map.len (map.retain_keys m p) + 1
count-insert_new m k v p absent pass =
    ap (λ n. map.len n) (retain-insert m k v p ∙ ap (λ b. cond b (map.insert (map.retain_keys m p) k v) (map.retain_keys m p)) pass)
    ∙ map.len-insert nat_cmp_total (map.retain_keys m p) k v
    ∙ ap (λ b. cond b (map.len (map.retain_keys m p)) (map.len (map.retain_keys m p) + 1)) (ap is_some (get-retain m p k ∙ ap (λ b. cond b (map.get m k) None) pass) ∙ absent)

-- ---- no more entries than nids

pub none_since : (o : Option NatEntry) → (IsSome o → ⊥) → o ≡ None
none_since None h = refl
none_since (Some x) h = absurd (h refl)

IsWithin : Entries → ℕ → ℕ → Type 0
IsWithin m low n = (q : ℕ) → IsSome (map.get m q) → (low ≤ q) × (q < low + n)

-- what is left without the last nid
left_within : (m : Entries) (low n : ℕ) → IsWithin m low (suc n) → IsWithin (map.remove m (low + n)) low n
unfolding IsWithin
left_within m low n within q there = at (nat_eq q (low + n)) refl
  where
    at : (b : Bool) → nat_eq q (low + n) ≡ b → (low ≤ q) × (q < low + n)
    at true here = let wrong : ◌≡◌ false true = sym (ap is_some (get-remove m (low + n) q ∙ ap (λ b. cond b None (map.get m q)) here)) ∙ there in cc
    at false other =
        let was = within q (sym (ap is_some (get-remove m (low + n) q ∙ ap (λ b. cond b None (map.get m q)) other)) ∙ there) in
        let apart : q ≢ low + n = grind (arith, nat_tests, other) in
        (was.0, omega (arith, was.1, apart))

one_less : (b : Bool) (a n : ℕ) → a ≡ cond b (n - 1) n → n ≤ a + 1
one_less true a n e = omega arith
one_less false a n e = omega arith

len-within : (n low : ℕ) (m : Entries) → IsWithin m low n → map.len m ≤ n
unfolding IsWithin
len-within zero low m within =
    let nothing : m ≡ map.empty = same _ _ (λ q. none_since _ (λ there. let w = within q there in absurd (omega (arith, w.0, w.1))) ∙ sym (map.get-empty nat_cmp q)) in
    let none = ap (λ n. map.len n) nothing ∙ map.len-empty nat_cmp NatEntry in
    omega (arith, none)
len-within (suc n) low m within =
    let rest = len-within n low (map.remove m (low + n)) (left_within m low n within) in
    omega (arith, rest, one_less (map.contains_key m (low + n)) (map.len (map.remove m (low + n))) (map.len m) (map.len-remove nat_cmp_total m (low + n)))

-- a block has 455 entries at most
pub count_in-le : (m : Entries) (block : ℕ) → count_in m block ≤ 455
unfolding IsWithin
count_in-le m block =
    len-within 455 (455 * block) (map.retain_keys m (λ nid. nat_eq (nat_block_of nid) block)) (λ q there. at q (nat_eq (nat_block_of q) block) refl there)
  where
    at : (q : ℕ) (b : Bool) → nat_eq (nat_block_of q) block ≡ b → IsSome (map.get (map.retain_keys m (λ nid. nat_eq (nat_block_of nid) block)) q) → (455 * block ≤ q) × (q < 455 * block + 455)
    at q true here there = let e = eq_same (q / 455) block here in (omega arith, omega arith)
    at q false here there = let wrong : ◌≡◌ false true = sym (ap is_some (get-retain m _ q ∙ ap (λ b. cond b (map.get m q) None) here)) ∙ there in cc

-- ---- what a put does to the counts

pub within_insert : (m : Entries) (k : ℕ) (v : NatEntry) (n : ℕ) → k < n → ((q : ℕ) → IsSome (map.get m q) → q < n) → (q : ℕ) → IsSome (map.get (map.insert m k v) q) → q < n
within_insert m k v n inside within q there = at (nat_eq q k) refl
  where
    at : (b : Bool) → nat_eq q k ≡ b → q < n
    at true here = subst (λ r. r < n) (sym (eq_same q k here)) inside
    at false other = within q (sym (ap is_some (get-insert m k v q ∙ ap (λ b. cond b (Some v) (map.get m q)) other)) ∙ there)

pub AreCounts-there : (m : Entries) (k : ℕ) (v : NatEntry) (counts : List ℕ) → k < 455 * length counts → map.contains_key m k ≡ true → AreCounts m counts → AreCounts (map.insert m k v) counts
AreCounts-there m k v counts inside there are =
    record {
      counted = λ block within. are.counted block within ∙ sym (count-insert_there m k v (λ nid. nat_eq (nat_block_of nid) block) there);
      within = within_insert m k v (455 * length counts) inside are.within;
    }

pub AreCounts-new : (m : Entries) (k : ℕ) (v : NatEntry) (counts : List ℕ) (n : ℕ) → k < 455 * length counts → map.contains_key m k ≡ false → n ≡ get_or counts (nat_block_of k) 0 → AreCounts m counts → AreCounts (map.insert m k v) (set counts (nat_block_of k) (n + 1))
AreCounts-new m k v counts n inside absent is are =
    let long = length-set counts (nat_block_of k) (n + 1) in
    record {
      counted = λ block within. elim (cases_eq block (nat_block_of k)) [
        | inl here ↦
            let place : k / 455 < length counts = omega arith in
            let pass : nat_eq (nat_block_of k) block ≡ true = ap (nat_eq (nat_block_of k)) here ∙ eq_itself (nat_block_of k) in
            ap (λ b. get_or (set counts (nat_block_of k) (n + 1)) b 0) here
            ∙ get_or-set_same counts (nat_block_of k) (n + 1) 0 place
            ∙ ap (λ x. x + 1) (is ∙ ap (λ b. get_or counts b 0) (sym here) ∙ are.counted block (omega (arith, within, long)))
            ∙ sym (count-insert_new m k v (λ nid. nat_eq (nat_block_of nid) block) absent pass)
        | inr other ↦
            let fail : nat_eq (nat_block_of k) block ≡ false = grind (arith, nat_tests, other) in
            get_or-set_other counts (nat_block_of k) block (n + 1) 0 other
            ∙ are.counted block (omega (arith, within, long))
            ∙ sym (count-insert_fails m k v (λ nid. nat_eq (nat_block_of nid) block) fail)
      ];
      within = λ q there. let w = within_insert m k v (455 * length counts) inside are.within q there in omega (arith, w, long);
    }

-- nothing is counted where nothing is dirty
pub AreCounts-empty : (counts : List ℕ) → ((block : ℕ) → get_or counts block 0 ≡ 0) → AreCounts map.empty counts
AreCounts-empty counts none =
    record {
      counted = λ block within.
          let m = map.retain_keys (map.empty {X = NatEntry} {R = nat_cmp}) (λ nid. nat_eq (nat_block_of nid) block) in
          let nothing : m ≡ map.empty = same _ _ (λ q. get-retain map.empty _ q ∙ either (nat_eq (nat_block_of q) block) (map.get-empty nat_cmp q) ∙ sym (map.get-empty nat_cmp q)) in
          none block ∙ sym (ap (λ n. map.len n) nothing ∙ map.len-empty nat_cmp NatEntry);
      within = λ q there. let wrong : ◌≡◌ false true = sym (ap is_some (map.get-empty nat_cmp q)) ∙ there in cc;
    }
  where
    either : (b : Bool) {o : Option NatEntry} → o ≡ None → cond b o None ≡ None
    either true e = e
    either false e = refl

-- the count that is read for the block of a nid
pub count_read : (counts : List ℕ) (at : ℕ × ℕ) (block place n : ℕ) → at ≡ (block, place) → n ≡ get_or counts at.0 n → block < length counts → n ≡ get_or counts block 0
count_read counts at block place n here read within =
    read ∙ ap (λ (a : ℕ × ℕ). get_or counts a.0 n) here ∙ get_or_default counts block n 0 within
