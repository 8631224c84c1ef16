-- Numbers of lists: which are members, how many there are, and lists with the same members.
use Rattle.std.proofs.Common.{◌≡◌, ◌+◌, ◌<◌, ℕ, Bool, true, false, cond, not, ◌&&◌, ◌||◌, List, [], ◌∷◌, length, get_or, zero, suc, refl, sym, ap, ◌∙◌, arith, true≢false}
use Rattle.std.specs.List.{AllByRecursion, filter, list_any, flat_map}
use Rattle.std.specs.List.Sorted.{IsStrictlySortedBy}
use Rattle.std.specs.Ordering.{nat_cmp, eq_by_cmp, is_eq}
use Rattle.std.specs.declared.cmp.Ordering.TheVariants.{Less}
use Rattle.std.specs.Cmp.{nat_cmp_total, Equal-is, tied_itself}
use Rattle.std.specs.FinSet as set
use Rattle.std.specs.FinSet.{nat_cmp-IsAntisymmetric}
use Rattle.std.specs.FinMap as map
use Rattle.std.proofs.lemmas.List.{length-map}
use Rattle.std.proofs.lemmas.List.Folds.{list_any-append}
use Rattle.f2_format.specs.Offsets.{nodes_over, nodes_of_page}
use Rattle.f2_files.proofs.Naming.{keys_sorted}
use Rattle.f2_call_size.specs.Beyond.{Numbers, is_one, listed, IsBeyond}

pub tied : (a b : ℕ) → eq_by_cmp nat_cmp a b ≡ true → a ≡ b
tied a b h = nat_cmp-IsAntisymmetric a b ((Equal-is (nat_cmp a b)).0 h)

pub itself : (a : ℕ) → eq_by_cmp nat_cmp a a ≡ true
itself a = ap is_eq (tied_itself nat_cmp_total a)

-- a number below all of a list is none of it
none_below : (x : ℕ) (ks : List ℕ) → AllByRecursion (λ y. nat_cmp x y ≡ Less) ks → is_one x ks ≡ false
none_below x [] h = refl
none_below x (k ∷ ks) h = ap (λ o. is_eq o || is_one x ks) h.0 ∙ none_below x ks h.1

-- numbers that rise are as many as their set has
pub len_sorted : (ks : List ℕ) → IsStrictlySortedBy nat_cmp ks → set.len (listed ks) ≡ length ks
unfolding IsStrictlySortedBy
len_sorted [] h = set.len-empty nat_cmp
len_sorted (k ∷ ks) h =
    let free : set.contains (listed ks) k ≡ false = set.contains-from_list nat_cmp_total ks k ∙ none_below k ks h.0 in
    set.len-insert nat_cmp_total (listed ks) k ∙ ap (λ b. cond b (set.len (listed ks)) (set.len (listed ks) + 1)) free ∙ omega (arith, len_sorted ks h.1)

-- the keys of a map are as many as it has
pub len_keys : {X : Type 0} (m : map.FinMap nat_cmp X) → set.len (listed (map.keys m)) ≡ map.len m
len_keys {X} m =
    len_sorted (map.keys m) (keys_sorted nat_cmp (map.entries m) (map.entries_sorted m))
    ∙ length-map (map.entries m) (λ (e : ℕ × X). e.0) ∙ sym (map.len-entries m)

-- a test that one of some numbers passes
pub passing : (p : ℕ → Bool) (xs : List ℕ) → list_any p xs ≡ true → (q : ℕ) × (is_one q xs ≡ true) × (p q ≡ true)
passing p [] h = absurd (true≢false (sym h))
passing p (x ∷ xs) h = by (passing p xs) (p x) refl h
  where
    or_true : (b : Bool) → (b || true) ≡ true
    or_true true = refl
    or_true false = refl

    by : (list_any p xs ≡ true → (q : ℕ) × (is_one q xs ≡ true) × (p q ≡ true)) → (b : Bool) → p x ≡ b → (b || list_any p xs) ≡ true → (q : ℕ) × (is_one q (x ∷ xs) ≡ true) × (p q ≡ true)
    by rest true t h = (x, ap (λ b. b || is_one x xs) (itself x), t)
    by rest false t h = let more = rest h in (more.0, ap (λ b. eq_by_cmp nat_cmp more.0 x || b) more.1 ∙ or_true (eq_by_cmp nat_cmp more.0 x), more.2)

pub passes : (p : ℕ → Bool) (xs : List ℕ) (q : ℕ) → is_one q xs ≡ true → p q ≡ true → list_any p xs ≡ true
passes p [] q h t = absurd (true≢false (sym h))
passes p (x ∷ xs) q h t = by (passes p xs q) (eq_by_cmp nat_cmp q x) refl h
  where
    or_true : (b : Bool) → (b || true) ≡ true
    or_true true = refl
    or_true false = refl

    by : (is_one q xs ≡ true → p q ≡ true → list_any p xs ≡ true) → (b : Bool) → eq_by_cmp nat_cmp q x ≡ b → (b || is_one q xs) ≡ true → (p x || list_any p xs) ≡ true
    by rest true e h = ap (λ b. b || list_any p xs) (ap p (sym (tied q x e)) ∙ t)
    by rest false e h = ap (λ b. p x || b) (rest h t) ∙ or_true (p x)

same_bools : (a b : Bool) → (a ≡ true → b ≡ true) → (b ≡ true → a ≡ true) → a ≡ b
same_bools true b h g = sym (h refl)
same_bools false false h g = refl
same_bools false true h g = g refl

-- lists with the same members have the same that pass, the same nodes, and are equally many
pub same_any : (p : ℕ → Bool) (xs ys : List ℕ) → ((q : ℕ) → is_one q xs ≡ is_one q ys) → list_any p xs ≡ list_any p ys
same_any p xs ys same = same_bools (list_any p xs) (list_any p ys)
    (λ h. (let one = passing p xs h in passes p ys one.0 (sym (same one.0) ∙ one.1) one.2))
    (λ h. (let one = passing p ys h in passes p xs one.0 (same one.0 ∙ one.1) one.2))

pub any_nodes : (p : ℕ → Bool) (xs : List ℕ) → list_any p (flat_map nodes_of_page xs) ≡ list_any (λ q. list_any p (nodes_of_page q)) xs
any_nodes p [] = refl
any_nodes p (x ∷ xs) = list_any-append p (nodes_of_page x) (flat_map nodes_of_page xs) ∙ ap (λ b. list_any p (nodes_of_page x) || b) (any_nodes p xs)

-- which nodes pages need
pub contains-nodes : (xs : List ℕ) (n : ℕ) → set.contains (nodes_over xs) n ≡ (eq_by_cmp nat_cmp n 0 || list_any (λ q. is_one n (nodes_of_page q)) xs)
unfolding nodes_over
contains-nodes xs n = set.contains-from_list nat_cmp_total (0 ∷ flat_map nodes_of_page xs) n ∙ ap (λ b. eq_by_cmp nat_cmp n 0 || b) (any_nodes (eq_by_cmp nat_cmp n) xs)

pub same_nodes : (xs ys : List ℕ) → ((q : ℕ) → is_one q xs ≡ is_one q ys) → nodes_over xs ≡ nodes_over ys
same_nodes xs ys same = set.same_set nat_cmp_total nat_cmp-IsAntisymmetric _ _ (λ n.
    contains-nodes xs n ∙ ap (λ b. eq_by_cmp nat_cmp n 0 || b) (same_any (λ q. is_one n (nodes_of_page q)) xs ys same) ∙ sym (contains-nodes ys n))

pub same_listed : (xs ys : List ℕ) → ((q : ℕ) → is_one q xs ≡ is_one q ys) → listed xs ≡ listed ys
same_listed xs ys same = set.same_set nat_cmp_total nat_cmp-IsAntisymmetric _ _ (λ n.
    set.contains-from_list nat_cmp_total xs n ∙ same n ∙ sym (set.contains-from_list nat_cmp_total ys n))

pub any_filter : (p : ℕ → Bool) (q : ℕ) (xs : List ℕ) → is_one q (filter p xs) ≡ (p q && is_one q xs)
any_filter p q [] = none (p q)
  where
    none : (b : Bool) → false ≡ (b && false)
    none true = refl
    none false = refl
any_filter p q (x ∷ xs) = by (any_filter p q xs) (p x) refl (eq_by_cmp nat_cmp q x) refl
  where
    or_true : (a b : Bool) → a ≡ true → true ≡ (a && (true || b))
    or_true true b h = refl
    or_true false b h = absurd (true≢false (sym h))

    not_one : (a b : Bool) → a ≡ false → (a && b) ≡ (a && (true || b))
    not_one true b h = absurd (true≢false h)
    not_one false b h = refl

    by : is_one q (filter p xs) ≡ (p q && is_one q xs) → (b : Bool) → p x ≡ b → (c : Bool) → eq_by_cmp nat_cmp q x ≡ c → is_one q (cond b (x ∷ filter p xs) (filter p xs)) ≡ (p q && (c || is_one q xs))
    by rest true t false e = ap (λ c. c || is_one q (filter p xs)) e ∙ rest
    by rest false t false e = rest
    by rest true t true e = ap (λ c. c || is_one q (filter p xs)) e ∙ or_true (p q) (is_one q xs) (ap p (tied q x e) ∙ t)
    by rest false t true e = rest ∙ not_one (p q) (is_one q xs) (ap p (tied q x e) ∙ t)

-- how many pass and how many don't
pub length-parts : (p : ℕ → Bool) (xs : List ℕ) → length (filter p xs) + length (filter (λ x. not (p x)) xs) ≡ length xs
length-parts p [] = refl
length-parts p (x ∷ xs) = by (length-parts p xs) (p x)
  where
    by : length (filter p xs) + length (filter (λ x. not (p x)) xs) ≡ length xs → (b : Bool) → length (cond b (x ∷ filter p xs) (filter p xs)) + length (cond (not b) (x ∷ filter (λ x. not (p x)) xs) (filter (λ x. not (p x)) xs)) ≡ length (x ∷ xs)
    by rest true = omega (arith, rest)
    by rest false = omega (arith, rest)

-- one number more is found, unless it is in the part
pub beyond_more : (part found all : Numbers) (n : ℕ) → IsBeyond part found all → (b : Bool) → set.contains part n ≡ b → IsBeyond part (cond b found (set.insert found n)) (set.insert all n)
beyond_more part found all n beyond true there = record {
  members = λ q. set.contains-insert nat_cmp_total all n q ∙ had q;
  count = set.len-insert nat_cmp_total all n ∙ ap (λ b. cond b (set.len all) (set.len all + 1)) (beyond.members n ∙ ap (λ b. b || set.contains found n) there) ∙ beyond.count;
}
  where
    had : (q : ℕ) → (eq_by_cmp nat_cmp q n || set.contains all q) ≡ (set.contains part q || set.contains found q)
    had q = by (eq_by_cmp nat_cmp q n) refl
      where
        by : (c : Bool) → eq_by_cmp nat_cmp q n ≡ c → (c || set.contains all q) ≡ (set.contains part q || set.contains found q)
        by true e = ap (λ b. b || set.contains found q) (sym (ap (set.contains part) (tied q n e) ∙ there))
        by false e = beyond.members q
beyond_more part found all n beyond false there = record {
  members = λ q. set.contains-insert nat_cmp_total all n q ∙ ap (λ b. eq_by_cmp nat_cmp q n || b) (beyond.members q) ∙ swap (eq_by_cmp nat_cmp q n) (set.contains part q) (set.contains found q)
      ∙ ap (λ b. set.contains part q || b) (sym (set.contains-insert nat_cmp_total found n q));
  count = by (set.contains found n) (beyond.members n ∙ ap (λ b. b || set.contains found n) there) refl;
}
  where
    swap : (a b c : Bool) → (a || (b || c)) ≡ (b || (a || c))
    swap true true c = refl
    swap true false c = refl
    swap false b c = refl

    by : (b : Bool) → set.contains all n ≡ b → set.contains found n ≡ b → set.len (set.insert all n) ≡ set.len part + set.len (set.insert found n)
    by true a f =
        set.len-insert nat_cmp_total all n ∙ ap (λ b. cond b (set.len all) (set.len all + 1)) a ∙ beyond.count
        ∙ ap (λ m. set.len part + m) (sym (set.len-insert nat_cmp_total found n ∙ ap (λ b. cond b (set.len found) (set.len found + 1)) f))
    by false a f =
        let one : set.len (set.insert all n) ≡ set.len all + 1 = set.len-insert nat_cmp_total all n ∙ ap (λ b. cond b (set.len all) (set.len all + 1)) a in
        let other : set.len (set.insert found n) ≡ set.len found + 1 = set.len-insert nat_cmp_total found n ∙ ap (λ b. cond b (set.len found) (set.len found + 1)) f in
        omega (arith, one, other, beyond.count)

-- at the start nothing is found
pub beyond_none : (part : Numbers) → IsBeyond part set.empty part
beyond_none part = record {
  members = λ n. sym (ap (λ b. set.contains part n || b) (set.contains-empty nat_cmp n) ∙ or_false (set.contains part n));
  count = omega (arith, set.len-empty nat_cmp);
}
  where
    or_false : (b : Bool) → (b || false) ≡ b
    or_false true = refl
    or_false false = refl

-- each number that a filter leaves passes
pub passes_at : (p : ℕ → Bool) (xs : List ℕ) (i : ℕ) → i < length (filter p xs) → p (get_or (filter p xs) i 0) ≡ true
passes_at p [] i within = absurd (omega arith)
passes_at p (x ∷ xs) i within = by (passes_at p xs) (p x) refl i within
  where
    by : ((i : ℕ) → i < length (filter p xs) → p (get_or (filter p xs) i 0) ≡ true) → (b : Bool) → p x ≡ b → (i : ℕ) → i < length (cond b (x ∷ filter p xs) (filter p xs)) → p (get_or (cond b (x ∷ filter p xs) (filter p xs)) i 0) ≡ true
    by rest true t zero h = t
    by rest true t (suc i) h = rest i (omega arith)
    by rest false t i h = rest i h
