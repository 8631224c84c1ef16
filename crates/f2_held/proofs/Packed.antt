-- Names in order that all stand in another list in order are a sublist of it, and what directories take rises with their names.
use Rattle.std.proofs.Common.{◌≡◌, ℕ, zero, suc, Bool, true, false, cond, ◌||◌, ◌&&◌, ◌+◌, ◌-◌, ◌≤◌, length, map as map_list, List, [], ◌∷◌, ◌++◌, refl, sym, ap, subst, ◌∙◌, arith, true≢false}
use Rattle.std.specs.List.{list_any, flat_map, range_with_len, AllByRecursion}
use Rattle.std.specs.List.Sorted.{IsStrictlySortedBy}
use Rattle.std.specs.Ordering.{nat_cmp, eq_by_cmp, is_eq, is_lt, ordering_reverse}
use Rattle.std.proofs.lemmas.List.{append-nil}
use Rattle.std.specs.Cmp.{nat_cmp_total}
use Rattle.std.specs.Cmp.Lexicographic.{slice_cmp, nat_list_cmp_total}
use Rattle.std.specs.declared.cmp.Ordering.{Ordering}
use Rattle.std.specs.declared.cmp.Ordering.TheVariants.{Less, Equal, Greater}
use Rattle.std.specs.Prelude.{T, is_some}
use Rattle.std.specs.FinMap as map
use Rattle.std.specs.FinMap.{is_sorted}
use Rattle.std.specs.FinMap.Entries.{below_all, is_some-find}
use Rattle.std.specs.FinSet as set
use Rattle.std.specs.FinSet.{nat_cmp-IsAntisymmetric, slice_cmp-IsAntisymmetric}
use Rattle.std.proofs.lemmas.List.Concat.{flat_map-append}
use Rattle.std.specs.FinMap.{nat_cmp-IsAntisymmetric, slice_cmp-IsAntisymmetric}
use Rattle.f2_model.proofs.RisingLemmas.{rising-keys}
use Rattle.f2_model.specs.Rising.{rising}
use Rattle.f2_format.specs.Packing.{IsSublist, none, kept, left_out, blocks_of_names, nothing_packed}
use Rattle.f2_format.specs.Offsets.{nodes_of_page, nodes_over, node_count}
use Rattle.f2_format.proofs.PackingLemmas.{sublist_no_further}
use Rattle.f2_held.specs.Taken.{names_from}
use Rattle.f2_held.proofs.NameLemmas.{keys_of_pairs}
use Rattle.f2_held.proofs.Lists.{or_left, or_right}

abbrev cmp : List ℕ → List ℕ → Ordering
cmp = slice_cmp nat_cmp

-- a name is one of a list
abbrev pub names : List ℕ → List (List ℕ) → Bool
names q xs = list_any (eq_by_cmp cmp q) xs

itself : (x : List ℕ) → cmp x x ≡ Equal
itself x = go (cmp x x) refl
  where
    go : (o : Ordering) → cmp x x ≡ o → o ≡ Equal
    go Less e = absurd (let back : cmp x x ≡ Greater = nat_list_cmp_total.antisymm x x ∙ ap ordering_reverse e in cc)
    go Equal e = refl
    go Greater e = absurd (let back : cmp x x ≡ Less = nat_list_cmp_total.antisymm x x ∙ ap ordering_reverse e in cc)

-- a name that all are above isn't one of them
above_all : (x : List ℕ) (ys : List (List ℕ)) → AllByRecursion (λ y. cmp x y ≡ Less) ys → names x ys ≡ false
above_all x [] all = refl
above_all x (y ∷ ys) all = ap (λ o. is_eq o || names x ys) all.0 ∙ above_all x ys all.1

above_lower : (x y : List ℕ) (ys : List (List ℕ)) → cmp x y ≡ Less → AllByRecursion (λ z. cmp y z ≡ Less) ys → AllByRecursion (λ z. cmp x z ≡ Less) ys
above_lower x y [] lt all = tt
above_lower x y (z ∷ zs) lt all = (nat_list_cmp_total.trans x y z lt all.0, above_lower x y zs lt all.1)

same_name : (x y : List ℕ) → eq_by_cmp cmp x y ≡ true → x ≡ y
same_name x y h = slice_cmp-IsAntisymmetric nat_cmp-IsAntisymmetric x y (equal (cmp x y) h)
  where
    equal : (o : Ordering) → is_eq o ≡ true → o ≡ Equal
    equal Less e = absurd (cc)
    equal Equal e = refl
    equal Greater e = absurd (cc)

or_else : (a b : Bool) → (a || b) ≡ true → (a ≡ true → ⊥) → b ≡ true
or_else true b h never = absurd (never refl)
or_else false b h never = h

pub sublist_of : (few all : List (List ℕ)) → IsStrictlySortedBy cmp few → IsStrictlySortedBy cmp all → ((q : List ℕ) → names q few ≡ true → names q all ≡ true) → IsSublist few all
unfolding IsStrictlySortedBy
sublist_of [] [] sf sa sub = none
sublist_of [] (y ∷ ys) sf sa sub = left_out y (sublist_of [] ys sf sa.1 (λ q h. absurd (true≢false (sym h))))
sublist_of (x ∷ xs) [] sf sa sub = absurd (true≢false (sym (sub x (or_left (eq_by_cmp cmp x x) (names x xs) (ap is_eq (itself x))))))
sublist_of (x ∷ xs) (y ∷ ys) sf sa sub = go (λ s. sublist_of xs ys sf.1 sa.1 s) (λ s. sublist_of (x ∷ xs) ys sf sa.1 s) (cmp x y) refl
  where
    go : (((q : List ℕ) → names q xs ≡ true → names q ys ≡ true) → IsSublist xs ys) → (((q : List ℕ) → names q (x ∷ xs) ≡ true → names q ys ≡ true) → IsSublist (x ∷ xs) ys) → (o : Ordering) → cmp x y ≡ o → IsSublist (x ∷ xs) (y ∷ ys)
    go keep skip Equal e =
        let same : x ≡ y = slice_cmp-IsAntisymmetric nat_cmp-IsAntisymmetric x y e in
        subst (λ z. IsSublist (x ∷ xs) (z ∷ ys)) same (kept x (keep (λ q h. or_else (eq_by_cmp cmp q y) (names q ys) (sub q (or_right (eq_by_cmp cmp q x) (names q xs) h)) (λ t.
        let it : q ≡ x = same_name q y t ∙ sym same in
        true≢false (sym (subst (λ z. names z xs ≡ true) it h) ∙ above_all x xs sf.0)))))
    go keep skip Less e =
        absurd (true≢false (sym (sub x (or_left (eq_by_cmp cmp x x) (names x xs) (ap is_eq (itself x)))) ∙ ap (λ o. is_eq o || names x ys) e ∙ above_all x ys (above_lower x y ys e sa.0)))
    go keep skip Greater e =
        let back : cmp y x ≡ Less = nat_list_cmp_total.antisymm y x ∙ ap ordering_reverse e in
        left_out y (skip (λ q h. or_else (eq_by_cmp cmp q y) (names q ys) (sub q h) (λ t.
        true≢false (sym (subst (λ z. names z (x ∷ xs) ≡ true) (same_name q y t) h) ∙ ap (λ o. is_eq o || names y xs) back ∙ above_all y xs (above_lower y x xs back sf.0)))))

-- more names take no fewer blocks
pub blocks_rise : (few all : List (List ℕ)) → IsStrictlySortedBy cmp few → IsStrictlySortedBy cmp all → ((q : List ℕ) → names q few ≡ true → names q all ≡ true) → blocks_of_names few ≤ blocks_of_names all
blocks_rise few all sf sa sub = (sublist_no_further nothing_packed nothing_packed (sublist_of few all sf sa sub) record { blocks = omega arith; slots = λ _. omega arith }).blocks

assoc : (l m : List ℕ) (k : ℕ) → (l ++ k ∷ []) ++ m ≡ l ++ k ∷ m
assoc [] m k = refl
assoc (x ∷ xs) m k = ap (λ ys. x ∷ ys) (assoc xs m k)

len_one : (l : List ℕ) (k : ℕ) → set.len (set.from_list {R = nat_cmp} l) ≤ set.len (set.from_list {R = nat_cmp} (l ++ k ∷ []))
len_one l k = go (set.contains (set.from_list l) k) (ap set.len (set.from_list_push nat_cmp_total nat_cmp-IsAntisymmetric l k) ∙ set.len-insert nat_cmp_total (set.from_list l) k)
  where
    go : (b : Bool) → set.len (set.from_list {R = nat_cmp} (l ++ k ∷ [])) ≡ cond b (set.len (set.from_list {R = nat_cmp} l)) (set.len (set.from_list {R = nat_cmp} l) + 1) → set.len (set.from_list {R = nat_cmp} l) ≤ set.len (set.from_list {R = nat_cmp} (l ++ k ∷ []))
    go true e = omega (arith, e)
    go false e = omega (arith, e)

len_more : (l m : List ℕ) → set.len (set.from_list {R = nat_cmp} l) ≤ set.len (set.from_list {R = nat_cmp} (l ++ m))
len_more l [] = let same = ap (λ k. set.len (set.from_list {R = nat_cmp} k)) (append-nil l) in omega (arith, same)
len_more l (k ∷ m) =
    let more = len_more (l ++ k ∷ []) m in
    let same = ap (λ n. set.len (set.from_list {R = nat_cmp} n)) (assoc l m k) in
    omega (arith, len_one l k, more, same)

-- more pages take no fewer nodes
node_count-more : (p q : List ℕ) → node_count p ≤ node_count (p ++ q)
unfolding nodes_over
node_count-more p q =
    let same = ap (λ n. set.len (set.from_list {R = nat_cmp} (0 ∷ n))) (flat_map-append nodes_of_page p q) in
    let more : set.len (set.from_list {R = nat_cmp} (0 ∷ flat_map nodes_of_page p)) ≤ set.len (set.from_list {R = nat_cmp} (0 ∷ (flat_map nodes_of_page p ++ flat_map nodes_of_page q))) = len_more (0 ∷ flat_map nodes_of_page p) (flat_map nodes_of_page q) in
    omega (arith, same, more)

range_split : (s a b : ℕ) → range_with_len s (a + b) ≡ range_with_len s a ++ range_with_len (s + a) b
range_split s zero b =
    let length : 0 + b ≡ b = omega arith in
    let start : s ≡ s + 0 = omega arith in
    λ i. range_with_len (start i) (length i)
range_split s (suc a) b =
    let length : suc a + b ≡ suc (a + b) = omega arith in
    let start : s + 1 + a ≡ s + suc a = omega arith in
    ap (range_with_len s) length ∙ ap (λ ns. s ∷ ns) (range_split (s + 1) a b) ∙ ap (λ n. s ∷ (range_with_len (s + 1) a ++ range_with_len n b)) start

pub nodes_rise : (a b : ℕ) → a ≤ b → node_count (range_with_len 0 a) ≤ node_count (range_with_len 0 b)
nodes_rise a b le =
    let whole : a + (b - a) ≡ b = omega arith in
    subst (λ n. node_count (range_with_len 0 a) ≤ node_count (range_with_len 0 n)) whole (subst (λ l. node_count (range_with_len 0 a) ≤ node_count l) (sym (range_split 0 a (b - a))) (node_count-more (range_with_len 0 a) (range_with_len (0 + a) (b - a))))

shorter : {few all : List (List ℕ)} → IsSublist few all → length few ≤ length all
shorter none = omega arith
shorter (kept name h) = let rest = shorter h in omega (arith, rest)
shorter (left_out name h) = let rest = shorter h in omega (arith, rest)

full : {few all : List (List ℕ)} → IsSublist few all → length all ≤ length few → few ≡ all
full none le = refl
full (kept name h) le = ap (λ l. name ∷ l) (full h (omega arith))
full (left_out name h) le = absurd (let rest = shorter h in omega (arith, rest, le))

same_lists : (xs ys : List (List ℕ)) → IsStrictlySortedBy cmp xs → IsStrictlySortedBy cmp ys → ((q : List ℕ) → names q xs ≡ names q ys) → xs ≡ ys
same_lists xs ys sx sy same = full (sublist_of xs ys sx sy (λ q h. sym (same q) ∙ h)) (shorter (sublist_of ys xs sy sx (λ q h. same q ∙ h)))

keys_sorted : {X : Type 0} (es : List (List ℕ × X)) → T (is_sorted cmp es) → IsStrictlySortedBy cmp (map_list (λ e. e.0) es)
unfolding IsStrictlySortedBy
keys_sorted [] h = tt
keys_sorted (e ∷ es) h = (below e.0 es (first _ _ h), keys_sorted es (second _ _ h))
  where
    is_less : (o : Ordering) → T (is_lt o) → o ≡ Less
    is_less Less p = refl
    is_less Equal p = absurd p
    is_less Greater p = absurd p

    first : (a b : Bool) → T (a && b) → T a
    first true b p = tt
    first false b p = p

    second : (a b : Bool) → T (a && b) → T b
    second true b p = p
    second false b p = absurd p

    below : {X : Type 0} (x : List ℕ) (es : List (List ℕ × X)) → T (below_all cmp x es) → AllByRecursion (λ y. cmp x y ≡ Less) (map_list (λ e. e.0) es)
    below x [] h = tt
    below x (e ∷ es) h = (is_less _ (first _ _ h), below x es (second _ _ h))

-- the set of a list has the same members in the same order, whichever of the two sets it is made
pub same_list : (list : List (List ℕ)) → map.keys (names_from list) ≡ rising (set.from_list {R = cmp} list)
same_list list = sym (rising-keys nat_list_cmp_total (slice_cmp-IsAntisymmetric nat_cmp-IsAntisymmetric) (set.from_list {R = cmp} list) (names_from list) (λ q.
    set.contains-from_list nat_list_cmp_total list q
    ∙ sym (ap is_some (map.get-from_entries nat_list_cmp_total (map_list (λ name. (name, tt)) list) q)
    ∙ is_some-find cmp q (map_list (λ name. (name, tt)) list)
    ∙ ap (names q) (keys_of_pairs list))))
