-- Sums over the values of a map: what one value more, or another one, makes of them, and how great they get.
use Rattle.std.proofs.Common.{◌≡◌, ℕ, Bool, true, false, cond, ◌&&◌, ◌+◌, ◌-◌, ◌*◌, ◌^◌, ◌<◌, ◌≤◌, List, [], ◌∷◌, map as map_list, refl, sym, ap, subst, ◌∙◌, arith, Some, None, Option, length}
use Rattle.std.specs.Prelude.{T, is_some}
use Rattle.std.specs.List.{sum_by, fold, AllByRecursion}
use Rattle.std.specs.Option.{option_map, unwrap_or}
use Rattle.std.specs.Ordering.{nat_cmp, eq_by_cmp, is_eq, is_lt}
use Rattle.std.specs.Cmp.{nat_cmp_total}
use Rattle.std.specs.declared.cmp.Ordering.{Ordering}
use Rattle.std.specs.declared.cmp.Ordering.TheVariants.{Less, Equal, Greater}
use Rattle.std.specs.FinMap as map
use Rattle.std.specs.FinMap.{FinMap, entries, entries_sorted, entries-insert, get-entries, get-insert, get-remove, len-entries, len-empty, nat_cmp-IsAntisymmetric, is_sorted, put, find}
use Rattle.std.specs.FinMap.Entries.{below_all, by_order}
use Rattle.std.proofs.lemmas.Cmp.{ranked}
use Rattle.std.proofs.lemmas.Nat.{mul-le}
use Rattle.std.proofs.lemmas.List.Sums.{sum_by-cons}
use Rattle.f2_model.specs.Fallback.{Both, sum_of, greater_of, nothing}
use Rattle.f2_held.specs.Taken.{Names, of_names, names_of, and_name, opened, bound, sum_of_all, of_files, of_directories, size_of}
use Rattle.f2_held.specs.Sums.{IsSmall, IsSmallSum, IsSizes, IsDirectories, in_place}

first : (a b : Bool) → T (a && b) → T a
first true b p = tt
first false b p = p

second : (a b : Bool) → T (a && b) → T b
second true b p = p
second false b p = absurd p

not_tied : (o : Ordering) → T (is_lt o) → is_eq o ≡ false
not_tied Less p = refl
not_tied Equal p = absurd p
not_tied Greater p = absurd p

is_less : (o : Ordering) → T (is_lt o) → o ≡ Less
is_less Less p = refl
is_less Equal p = absurd p
is_less Greater p = absurd p

some_none : {X : Type 0} (x : X) → Some x ≡ None → ⊥
some_none x e = cc

below_less : (a b : ℕ) → nat_cmp a b ≡ Less → a < b
below_less a b h = ranked a b Less (sym h)

less_below : (a b : ℕ) → a < b → nat_cmp a b ≡ Less
less_below a b h = go (nat_cmp a b) refl
  where
    go : (o : Ordering) → nat_cmp a b ≡ o → nat_cmp a b ≡ Less
    go Less e = e
    go Equal e = absurd (let same : a ≡ b = ranked a b Equal (sym e) in omega arith)
    go Greater e = absurd (let over : b < a = ranked a b Greater (sym e) in omega arith)

self_equal : (k : ℕ) → nat_cmp k k ≡ Equal
self_equal k = go (nat_cmp k k) refl
  where
    go : (o : Ordering) → nat_cmp k k ≡ o → nat_cmp k k ≡ Equal
    go Less e = absurd (let lt = below_less k k e in omega arith)
    go Greater e = absurd (let lt : k < k = ranked k k Greater (sym e) in omega arith)
    go Equal e = e

module _ {X : Type 0} where
  -- a key below all has no entry
  find_below : (q : ℕ) (es : List (ℕ × X)) → T (below_all nat_cmp q es) → find nat_cmp q es ≡ None
  find_below q [] h = refl
  find_below q (e ∷ es) h = ap (λ b. cond b (Some e.1) (find nat_cmp q es)) (not_tied (nat_cmp q e.0) (first _ _ h)) ∙ find_below q es (second _ _ h)

  below_lower : (q k : ℕ) (es : List (ℕ × X)) → q < k → T (below_all nat_cmp k es) → T (below_all nat_cmp q es)
  below_lower q k [] lt h = tt
  below_lower q k (e ∷ es) lt h =
      let far : k < e.0 = below_less k e.0 (is_less _ (first _ _ h)) in
      let here : nat_cmp q e.0 ≡ Less = less_below q e.0 (omega arith) in
      subst (λ o. T (is_lt o && below_all nat_cmp q es)) (sym here) (below_lower q k es lt (second _ _ h))

  -- what stands behind an entry is found behind it
  later : (e : ℕ × X) (es : List (ℕ × X)) (k : ℕ) (v : X) → T (below_all nat_cmp e.0 es) → find nat_cmp k es ≡ Some v → find nat_cmp k (e ∷ es) ≡ Some v
  later e es k v below h = go (nat_cmp k e.0) refl
    where
      go : (o : Ordering) → nat_cmp k e.0 ≡ o → find nat_cmp k (e ∷ es) ≡ Some v
      go Less t = ap (λ o. cond (is_eq o) (Some e.1) (find nat_cmp k es)) t ∙ h
      go Greater t = ap (λ o. cond (is_eq o) (Some e.1) (find nat_cmp k es)) t ∙ h
      go Equal t =
          let same : k ≡ e.0 = ranked k e.0 Equal (sym t) in
          absurd (some_none v (sym h ∙ ap (λ q. find nat_cmp q es) same ∙ find_below e.0 es below))

  found_here : (e : ℕ × X) (es : List (ℕ × X)) → find nat_cmp e.0 (e ∷ es) ≡ Some e.1
  found_here e es = go (nat_cmp e.0 e.0) refl
    where
      go : (o : Ordering) → nat_cmp e.0 e.0 ≡ o → find nat_cmp e.0 (e ∷ es) ≡ Some e.1
      go Less t = absurd (let lt = below_less e.0 e.0 t in omega arith)
      go Greater t = absurd (let lt : e.0 < e.0 = ranked e.0 e.0 Greater (sym t) in omega arith)
      go Equal t = ap (λ o. cond (is_eq o) (Some e.1) (find nat_cmp e.0 es)) t

  -- what holds of all that is found holds of each entry
  pub each_entry : (P : ℕ × X → Type 0) (es : List (ℕ × X)) → T (is_sorted nat_cmp es) → ((k : ℕ) (v : X) → find nat_cmp k es ≡ Some v → P (k, v)) → AllByRecursion P es
  each_entry P [] sorted h = tt
  each_entry P (e ∷ es) sorted h = (h e.0 e.1 (found_here e es), each_entry P es (second _ _ sorted) (λ k v f. h k v (later e es k v (first _ _ sorted) f)))

  module _ (g : X → ℕ) where
    abbrev sum : List (ℕ × X) → ℕ
    sum es = sum_by g (map_list (λ e. e.1) es)

    abbrev found : ℕ → List (ℕ × X) → ℕ
    found k es = unwrap_or (option_map g (find nat_cmp k es)) 0

    sum_cons : (e : ℕ × X) (es : List (ℕ × X)) → sum (e ∷ es) ≡ g e.1 + sum es
    sum_cons e es = sum_by-cons g e.1 (map_list (λ e. e.1) es)

    -- a value put in the place of what a key had
    sum_put : (k : ℕ) (v : X) (es : List (ℕ × X)) → T (is_sorted nat_cmp es) → sum (put nat_cmp k v es) + found k es ≡ sum es + g v
    sum_put k v [] sorted = omega (arith, sum_cons (k, v) [])
    sum_put k v (e ∷ es) sorted = go (sum_put k v es (second _ _ sorted)) (nat_cmp k e.0) refl
      where
        go : sum (put nat_cmp k v es) + found k es ≡ sum es + g v → (o : Ordering) → nat_cmp k e.0 ≡ o → sum (by_order (nat_cmp k e.0) ((k, v) ∷ e ∷ es) ((e.0, v) ∷ es) (e ∷ put nat_cmp k v es)) + unwrap_or (option_map g (cond (is_eq (nat_cmp k e.0)) (Some e.1) (find nat_cmp k es))) 0 ≡ sum (e ∷ es) + g v
        go rest Less t =
            let none : find nat_cmp k es ≡ None = find_below k es (below_lower k e.0 es (below_less k e.0 t) (first _ _ sorted)) in
            rw t (rw none (omega (arith, sum_cons (k, v) (e ∷ es))))
        go rest Equal t = rw t (omega (arith, sum_cons (e.0, v) es, sum_cons e es))
        go rest Greater t = rw t (omega (arith, sum_cons e (put nat_cmp k v es), sum_cons e es, rest))

    -- keys that rise below a number, each with a value below another
    sum_below : (n b lo : ℕ) (es : List (ℕ × X)) → lo ≤ n → T (is_sorted nat_cmp es) → AllByRecursion (λ e. lo ≤ e.0) es → AllByRecursion (λ e. (e.0 < n) × (g e.1 ≤ b)) es → sum es + lo * b ≤ n * b
    sum_below n b lo [] le sorted from all = let more : lo * b ≤ n * b = mul-le lo b n b le (omega arith) in omega arith
    sum_below n b lo (e ∷ es) le sorted from all =
        let rest = sum_below n b (e.0 + 1) es (omega (arith, all.0)) (second _ _ sorted) (above es (first _ _ sorted)) all.1 in
        let step : (e.0 + 1) * b ≡ e.0 * b + b = mul-suc e.0 b in
        let more : lo * b ≤ e.0 * b = mul-le lo b e.0 b from.0 (omega arith) in
        omega (arith, sum_cons e es, rest, step, more, all.0)
      where
        above : (es : List (ℕ × X)) → T (below_all nat_cmp e.0 es) → AllByRecursion (λ other. e.0 + 1 ≤ other.0) es
        above [] h = tt
        above (other ∷ es) h = (let far = below_less e.0 other.0 (is_less _ (first _ _ h)) in omega arith, above es (second _ _ h))

        mul-suc : (a b : ℕ) → (a + 1) * b ≡ a * b + b
        mul-suc a b = grind arith

    found_le : (k : ℕ) (es : List (ℕ × X)) → found k es ≤ sum es
    found_le k [] = omega arith
    found_le k (e ∷ es) = go (found_le k es) (is_eq (nat_cmp k e.0))
      where
        go : found k es ≤ sum es → (b : Bool) → unwrap_or (option_map g (cond b (Some e.1) (find nat_cmp k es))) 0 ≤ sum (e ∷ es)
        go rest true = omega (arith, sum_cons e es)
        go rest false = omega (arith, sum_cons e es, rest)

    pub total_has : (m : FinMap nat_cmp X) (k : ℕ) → unwrap_or (option_map g (map.get m k)) 0 ≤ sum_by g (map.values m)
    total_has m k = rw (get-entries m k) (found_le k (entries m))

    pub total_put : (m : FinMap nat_cmp X) (k : ℕ) (v : X) → sum_by g (map.values (map.insert m k v)) + unwrap_or (option_map g (map.get m k)) 0 ≡ sum_by g (map.values m) + g v
    total_put m k v =
        rw (entries-insert nat_cmp_total m k v) (rw (get-entries m k) (sum_put k v (entries m) (entries_sorted m)))

    pub total_below : (n b : ℕ) (m : FinMap nat_cmp X) → ((k : ℕ) (v : X) → map.get m k ≡ Some v → (k < n) × (g v ≤ b)) → sum_by g (map.values m) ≤ n * b
    total_below n b m h =
        let all = each_entry (λ e. (e.0 < n) × (g e.1 ≤ b)) (entries m) (entries_sorted m) (λ k v f. h k v (get-entries m k ∙ f)) in
        let whole = sum_below n b 0 (entries m) (omega arith) (entries_sorted m) (each_entry (λ e. 0 ≤ e.0) (entries m) (entries_sorted m) (λ k v f. omega arith)) all in
        omega (arith, whole)

-- the sum of numbers is the sum of each part
fold_nodes : (a : Both) (xs : List Both) → (fold sum_of a xs).nodes ≡ a.nodes + sum_by (λ b. b.nodes) xs
fold_nodes a [] = omega arith
fold_nodes a (x ∷ xs) = omega (arith, fold_nodes (sum_of a x) xs, sum_by-cons (λ (b : Both). b.nodes) x xs)

fold_pages : (a : Both) (xs : List Both) → (fold sum_of a xs).pages ≡ a.pages + sum_by (λ b. b.pages) xs
fold_pages a [] = omega arith
fold_pages a (x ∷ xs) = omega (arith, fold_pages (sum_of a x) xs, sum_by-cons (λ (b : Both). b.pages) x xs)

sum_by-mapped : {X Y : Type 0} (g : Y → ℕ) (f : X → Y) (xs : List X) → sum_by g (map_list f xs) ≡ sum_by (λ x. g (f x)) xs
sum_by-mapped g f [] = refl
sum_by-mapped g f (x ∷ xs) = sum_by-cons g (f x) (map_list f xs) ∙ ap (λ n. g (f x) + n) (sum_by-mapped g f xs) ∙ sym (sum_by-cons (λ x. g (f x)) x xs)

pub sum_nodes : {X : Type 0} (f : X → Both) (xs : List X) → (sum_of_all (map_list f xs)).nodes ≡ sum_by (λ x. (f x).nodes) xs
sum_nodes f xs = omega (arith, fold_nodes nothing (map_list f xs), sum_by-mapped (λ (b : Both). b.nodes) f xs)

pub sum_pages : {X : Type 0} (f : X → Both) (xs : List X) → (sum_of_all (map_list f xs)).pages ≡ sum_by (λ x. (f x).pages) xs
sum_pages f xs = omega (arith, fold_pages nothing (map_list f xs), sum_by-mapped (λ (b : Both). b.pages) f xs)

module _ {X : Type 0} (f : X → Both) (m : FinMap nat_cmp X) where
  -- the sum over a map, and what stands at a key
  abbrev of_map : Both
  of_map = sum_of_all (map_list f (map.values m))

  abbrev stands : ℕ → Both
  stands k = unwrap_or (option_map f (map.get m k)) nothing

  stands_nodes : (o : Option X) → (unwrap_or (option_map f o) nothing).nodes ≡ unwrap_or (option_map (λ x. (f x).nodes) o) 0
  stands_nodes None = refl
  stands_nodes (Some x) = refl

  stands_pages : (o : Option X) → (unwrap_or (option_map f o) nothing).pages ≡ unwrap_or (option_map (λ x. (f x).pages) o) 0
  stands_pages None = refl
  stands_pages (Some x) = refl

  small_nodes : ((k : ℕ) (v : X) → map.get m k ≡ Some v → (k < 2 ^ 32) × IsSmall (f v)) → of_map.nodes < 2 ^ 63
  small_nodes h = omega (arith, sum_nodes f (map.values m), total_below (λ x. (f x).nodes) (2 ^ 32) (2 ^ 31 - 1) m (λ k v e. ((h k v e).0, let small = (h k v e).1.0 in omega arith)))

  small_pages : ((k : ℕ) (v : X) → map.get m k ≡ Some v → (k < 2 ^ 32) × IsSmall (f v)) → of_map.pages < 2 ^ 63
  small_pages h = omega (arith, sum_pages f (map.values m), total_below (λ x. (f x).pages) (2 ^ 32) (2 ^ 31 - 1) m (λ k v e. ((h k v e).0, let small = (h k v e).1.1 in omega arith)))

  pub small_map : ((k : ℕ) (v : X) → map.get m k ≡ Some v → (k < 2 ^ 32) × IsSmall (f v)) → IsSmallSum of_map
  small_map h = (small_nodes h, small_pages h)

  module _ (k : ℕ) where
    pub stands_le : ((stands k).nodes ≤ of_map.nodes) × ((stands k).pages ≤ of_map.pages)
    stands_le = (
      omega (arith, sum_nodes f (map.values m), stands_nodes (map.get m k), total_has (λ x. (f x).nodes) m k),
      omega (arith, sum_pages f (map.values m), stands_pages (map.get m k), total_has (λ x. (f x).pages) m k),
    )

    put_nodes : (v : X) → (sum_of_all (map_list f (map.values (map.insert m k v)))).nodes + (stands k).nodes ≡ of_map.nodes + (f v).nodes
    put_nodes v = omega (arith, sum_nodes f (map.values (map.insert m k v)), sum_nodes f (map.values m), stands_nodes (map.get m k), total_put (λ x. (f x).nodes) m k v)

    put_pages : (v : X) → (sum_of_all (map_list f (map.values (map.insert m k v)))).pages + (stands k).pages ≡ of_map.pages + (f v).pages
    put_pages v = omega (arith, sum_pages f (map.values (map.insert m k v)), sum_pages f (map.values m), stands_pages (map.get m k), total_put (λ x. (f x).pages) m k v)

    -- a value in the place of what stood at a key
    pub put_map : (v : X) → in_place of_map (stands k) (f v) ≡ sum_of_all (map_list f (map.values (map.insert m k v)))
    put_map v =
        let nodes : of_map.nodes - (stands k).nodes + (f v).nodes ≡ (sum_of_all (map_list f (map.values (map.insert m k v)))).nodes = omega (arith, stands_le.0, put_nodes v) in
        let pages : of_map.pages - (stands k).pages + (f v).pages ≡ (sum_of_all (map_list f (map.values (map.insert m k v)))).pages = omega (arith, stands_le.1, put_pages v) in
        λ i. record { nodes = nodes i; pages = pages i }

-- a key that was taken out, and what stands at the others
removed_here : {X : Type 0} (m : FinMap nat_cmp X) (k : ℕ) → map.get (map.remove m k) k ≡ None
removed_here m k = get-remove nat_cmp_total m k k ∙ ap (λ o. cond (is_eq o) None (map.get m k)) (self_equal k)

pub still_there : {X : Type 0} (m : FinMap nat_cmp X) (k q : ℕ) (v : X) → map.get (map.remove m k) q ≡ Some v → map.get m q ≡ Some v
still_there m k q v is = go (eq_by_cmp nat_cmp q k) (sym (get-remove nat_cmp_total m k q) ∙ is)
  where
    go : (b : Bool) → cond b None (map.get m q) ≡ Some v → map.get m q ≡ Some v
    go true e = absurd (some_none v (sym e))
    go false e = e

put_again : {X : Type 0} (m : FinMap nat_cmp X) (k : ℕ) (v : X) → map.get m k ≡ Some v → map.insert (map.remove m k) k v ≡ m
put_again m k v there = map.same_map nat_cmp_total nat_cmp-IsAntisymmetric _ _ (λ q. get-insert nat_cmp_total (map.remove m k) k v q ∙ go q (nat_cmp q k) refl)
  where
    go : (q : ℕ) (o : Ordering) → nat_cmp q k ≡ o → cond (is_eq (nat_cmp q k)) (Some v) (map.get (map.remove m k) q) ≡ map.get m q
    go q Less t = ap (λ o. cond (is_eq o) (Some v) (map.get (map.remove m k) q)) t ∙ get-remove nat_cmp_total m k q ∙ ap (λ o. cond (is_eq o) None (map.get m q)) t
    go q Greater t = ap (λ o. cond (is_eq o) (Some v) (map.get (map.remove m k) q)) t ∙ get-remove nat_cmp_total m k q ∙ ap (λ o. cond (is_eq o) None (map.get m q)) t
    go q Equal t = ap (λ o. cond (is_eq o) (Some v) (map.get (map.remove m k) q)) t ∙ sym there ∙ ap (map.get m) (sym (ranked q k Equal (sym t)))

-- what isn't there is not taken out
pub nothing_removed : {X : Type 0} (m : FinMap nat_cmp X) (k : ℕ) → map.get m k ≡ None → map.remove m k ≡ m
nothing_removed m k none = map.same_map nat_cmp_total nat_cmp-IsAntisymmetric _ _ (λ q. get-remove nat_cmp_total m k q ∙ go q (nat_cmp q k) refl)
  where
    go : (q : ℕ) (o : Ordering) → nat_cmp q k ≡ o → cond (is_eq (nat_cmp q k)) None (map.get m q) ≡ map.get m q
    go q Less t = ap (λ o. cond (is_eq o) None (map.get m q)) t
    go q Greater t = ap (λ o. cond (is_eq o) None (map.get m q)) t
    go q Equal t = ap (λ o. cond (is_eq o) None (map.get m q)) t ∙ sym none ∙ ap (map.get m) (sym (ranked q k Equal (sym t)))

-- nothing in the place of what stood at a key, which is taken out
pub out_map : {X : Type 0} (f : X → Both) (m : FinMap nat_cmp X) (k : ℕ) → in_place (of_map f m) (stands f m k) nothing ≡ sum_of_all (map_list f (map.values (map.remove m k)))
out_map {X} f m k = go (map.get m k) refl
  where
    go : (o : Option X) → map.get m k ≡ o → in_place (of_map f m) (unwrap_or (option_map f (map.get m k)) nothing) nothing ≡ of_map f (map.remove m k)
    go None none =
        rw none (
        let nodes : (of_map f m).nodes - 0 + 0 ≡ (of_map f (map.remove m k)).nodes = omega (arith, ap (λ n. (of_map f n).nodes) (nothing_removed m k none)) in
        let pages : (of_map f m).pages - 0 + 0 ≡ (of_map f (map.remove m k)).pages = omega (arith, ap (λ n. (of_map f n).pages) (nothing_removed m k none)) in
        λ i. record { nodes = nodes i; pages = pages i })
    go (Some v) there =
        let whole = put_map f (map.remove m k) k v ∙ ap (of_map f) (put_again m k v there) in
        let gone = ap (λ o. unwrap_or (option_map f o) nothing) (removed_here m k) in
        rw there (
        let nodes : (of_map f m).nodes - (f v).nodes + 0 ≡ (of_map f (map.remove m k)).nodes = omega (arith, ap (λ b. b.nodes) whole, ap (λ b. b.nodes) gone) in
        let pages : (of_map f m).pages - (f v).pages + 0 ≡ (of_map f (map.remove m k)).pages = omega (arith, ap (λ b. b.pages) whole, ap (λ b. b.pages) gone) in
        λ i. record { nodes = nodes i; pages = pages i })

-- the same of files, whose numbers are the values
pub as_they_are : (xs : List Both) → map_list (λ x. x) xs ≡ xs
as_they_are [] = refl
as_they_are (x ∷ xs) = ap (λ ys. x ∷ ys) (as_they_are xs)

pub files_are : (m : FinMap nat_cmp Both) → sum_of_all (map_list (λ x. x) (map.values m)) ≡ of_files m
files_are m = ap sum_of_all (as_they_are (map.values m))

size_is : (o : Option Both) → unwrap_or (option_map (λ x. x) o) nothing ≡ unwrap_or o nothing
size_is None = refl
size_is (Some x) = refl

module _ (m : FinMap nat_cmp Both) where
  pub small_files : ((k : ℕ) (v : Both) → map.get m k ≡ Some v → (k < 2 ^ 32) × IsSmall v) → IsSmallSum (of_files m)
  small_files h = subst IsSmallSum (files_are m) (small_map (λ x. x) m h)

  pub size_small : ((k : ℕ) (v : Both) → map.get m k ≡ Some v → (k < 2 ^ 32) × IsSmall v) → (k : ℕ) → IsSmall (size_of m k)
  size_small h k = go (map.get m k) refl
    where
      go : (o : Option Both) → map.get m k ≡ o → IsSmall (unwrap_or o nothing)
      go None e = (omega arith, omega arith)
      go (Some v) e = (h k v e).1

  module _ (k : ℕ) where
    pub size_le : ((size_of m k).nodes ≤ (of_files m).nodes) × ((size_of m k).pages ≤ (of_files m).pages)
    size_le =
        let le = stands_le (λ x. x) m k in
        let sum = files_are m in
        let size = size_is (map.get m k) in
        (omega (arith, le.0, ap (λ b. b.nodes) sum, ap (λ b. b.nodes) size), omega (arith, le.1, ap (λ b. b.pages) sum, ap (λ b. b.pages) size))

    pub put_files : (v : Both) → in_place (of_files m) (size_of m k) v ≡ of_files (map.insert m k v)
    put_files v = sym (λ i. in_place (files_are m i) (size_is (map.get m k) i) v) ∙ put_map (λ x. x) m k v ∙ files_are (map.insert m k v)

pub out_files : (m : FinMap nat_cmp Both) (k : ℕ) → in_place (of_files m) (size_of m k) nothing ≡ of_files (map.remove m k)
out_files m k = sym (λ i. in_place (files_are m i) (size_is (map.get m k) i) nothing) ∙ out_map (λ x. x) m k ∙ files_are (map.remove m k)

no_entry : {X : Type 0} (es : List X) → length es ≡ 0 → es ≡ []
no_entry [] e = refl
no_entry (x ∷ xs) e = absurd (omega arith)

len-none : (X : Type 0) → map.values (map.empty {X = X} {R = nat_cmp}) ≡ []
len-none X = ap (map_list (λ e. e.1)) (no_entry (entries (map.empty {X = X} {R = nat_cmp})) (sym (len-entries map.empty) ∙ len-empty nat_cmp X))

-- an insert leaves what holds of each key's value, where it holds of the new one
each_put : {X : Type 0} (P : ℕ → X → Type 0) (m : FinMap nat_cmp X) (k : ℕ) (v : X) → ((q : ℕ) (w : X) → map.get m q ≡ Some w → P q w) → P k v → (q : ℕ) (w : X) → map.get (map.insert m k v) q ≡ Some w → P q w
each_put P m k v old new q w is = go (nat_cmp q k) refl
  where
    seen : cond (is_eq (nat_cmp q k)) (Some v) (map.get m q) ≡ Some w
    seen = sym (get-insert nat_cmp_total m k v q) ∙ is

    go : (o : Ordering) → nat_cmp q k ≡ o → P q w
    go Less t = old q w (sym (ap (λ o. cond (is_eq o) (Some v) (map.get m q)) t) ∙ seen)
    go Greater t = old q w (sym (ap (λ o. cond (is_eq o) (Some v) (map.get m q)) t) ∙ seen)
    go Equal t =
        let here : Some v ≡ Some w = sym (ap (λ o. cond (is_eq o) (Some v) (map.get m q)) t) ∙ seen in
        let same : v ≡ w = cc in
        subst (λ x. P q x) same (subst (λ n. P n v) (sym (ranked q k Equal (sym t))) new)

pub greater_small : (a b : Both) → IsSmall a → IsSmall b → IsSmall (greater_of a b)
greater_small a b s t = (grind (arith, s.0, t.0), grind (arith, s.1, t.1))

module _ (m : FinMap nat_cmp Both) (sum : Both) (is : IsSizes m sum) (k : ℕ) (stood : Both) (stands_there : stood ≡ size_of m k) where
  pub sizes_le : (stood.nodes ≤ sum.nodes) × (stood.pages ≤ sum.pages)
  sizes_le =
      let le = size_le m k in
      (omega (arith, le.0, ap (λ b. b.nodes) stands_there, ap (λ b. b.nodes) is.sum_is), omega (arith, le.1, ap (λ b. b.pages) stands_there, ap (λ b. b.pages) is.sum_is))

  pub sizes_sum : IsSmallSum sum
  sizes_sum = subst IsSmallSum (sym is.sum_is) (small_files m is.small)

  pub sizes_put : (v : Both) → in_place sum stood v ≡ of_files (map.insert m k v)
  sizes_put v = (λ i. in_place (is.sum_is i) (stands_there i) v) ∙ put_files m k v

  pub IsSizes-put : (v : Both) → k < 2 ^ 32 → IsSmall v → IsSizes (map.insert m k v) (in_place sum stood v)
  IsSizes-put v key small = record { sum_is = sizes_put v; small = each_put (λ q w. (q < 2 ^ 32) × IsSmall w) m k v is.small (key, small) }

  pub IsSizes-out : IsSizes (map.remove m k) (in_place sum stood nothing)
  IsSizes-out = record { sum_is = (λ i. in_place (is.sum_is i) (stands_there i) nothing) ∙ out_files m k; small = λ q w at. is.small q w (still_there m k q w at) }

module _ (m : FinMap nat_cmp Names) (sum : Both) (is : IsDirectories m sum) (k : ℕ) (stood : Both) (stands_there : stood ≡ unwrap_or (option_map of_names (map.get m k)) nothing) where
  pub directories_le : (stood.nodes ≤ sum.nodes) × (stood.pages ≤ sum.pages)
  directories_le =
      let le = stands_le of_names m k in
      (omega (arith, le.0, ap (λ b. b.nodes) stands_there, ap (λ b. b.nodes) is.sum_is), omega (arith, le.1, ap (λ b. b.pages) stands_there, ap (λ b. b.pages) is.sum_is))

  pub directories_put : (v : Names) → in_place sum stood (of_names v) ≡ of_directories (map.insert m k v)
  directories_put v = (λ i. in_place (is.sum_is i) (stands_there i) (of_names v)) ∙ put_map of_names m k v

  pub IsDirectories-put : (v : Names) → k < 2 ^ 32 → IsSmall (of_names v) → IsDirectories (map.insert m k v) (in_place sum stood (of_names v))
  IsDirectories-put v key small = record { sum_is = directories_put v; small = each_put (λ q w. (q < 2 ^ 32) × IsSmall (of_names w)) m k v is.small (key, small) }

  pub IsDirectories-out : IsDirectories (map.remove m k) (in_place sum stood nothing)
  IsDirectories-out = record { sum_is = (λ i. in_place (is.sum_is i) (stands_there i) nothing) ∙ out_map of_names m k; small = λ q w at. is.small q w (still_there m k q w at) }

pub directories_sum : (m : FinMap nat_cmp Names) (sum : Both) → IsDirectories m sum → IsSmallSum sum
directories_sum m sum is = subst IsSmallSum (sym is.sum_is) (small_map of_names m is.small)

-- nothing is in at first
pub IsSizes-empty : IsSizes map.empty nothing
IsSizes-empty = record { sum_is = sym (none_at_all (map.values map.empty) (len-none Both)); small = λ q w e. absurd (some_none w (sym e ∙ map.get-empty nat_cmp q)) }
  where
    none_at_all : (xs : List Both) → xs ≡ [] → sum_of_all xs ≡ nothing
    none_at_all xs e = ap sum_of_all e

pub IsDirectories-empty : IsDirectories map.empty nothing
IsDirectories-empty = record { sum_is = sym (ap (λ xs. sum_of_all (map_list of_names xs)) (len-none Names)); small = λ q w e. absurd (some_none w (sym e ∙ map.get-empty nat_cmp q)) }

-- a value put where it stands changes nothing
pub put_back : {X : Type 0} (m : FinMap nat_cmp X) (k : ℕ) (v : X) → map.get m k ≡ Some v → map.insert m k v ≡ m
put_back m k v there = map.same_map nat_cmp_total nat_cmp-IsAntisymmetric _ _ (λ q. get-insert nat_cmp_total m k v q ∙ go q (nat_cmp q k) refl)
  where
    go : (q : ℕ) (o : Ordering) → nat_cmp q k ≡ o → cond (is_eq (nat_cmp q k)) (Some v) (map.get m q) ≡ map.get m q
    go q Less t = ap (λ o. cond (is_eq o) (Some v) (map.get m q)) t
    go q Greater t = ap (λ o. cond (is_eq o) (Some v) (map.get m q)) t
    go q Equal t = ap (λ o. cond (is_eq o) (Some v) (map.get m q)) t ∙ sym there ∙ ap (map.get m) (sym (ranked q k Equal (sym t)))

-- what is there, and what isn't
pub there_or_not : {X : Type 0} (o : Option X) → o ≡ None → is_some o ≡ true → ⊥
there_or_not None none some = absurd (cc)
there_or_not (Some x) none some = some_none x none

pub opened_same : (m : FinMap nat_cmp Names) (k : ℕ) → map.contains_key m k ≡ true → m ≡ opened m k
opened_same m k has = go (map.get m k) refl
  where
    go : (o : Option Names) → map.get m k ≡ o → m ≡ map.insert m k (unwrap_or (map.get m k) map.empty)
    go None e = absurd (there_or_not (map.get m k) e has)
    go (Some names) e = sym (ap (λ o. map.insert m k (unwrap_or o map.empty)) e ∙ put_back m k names e)

pub opened_new : (m : FinMap nat_cmp Names) (k : ℕ) → map.get m k ≡ None → map.insert m k map.empty ≡ opened m k
opened_new m k none = sym (ap (λ o. map.insert m k (unwrap_or o map.empty)) none)

pub is_none : {X : Type 0} (o : Option X) → is_some o ≡ false → o ≡ None
is_none None e = refl
is_none (Some x) e = absurd (cc)

-- a directory that came in, and one that got a name, is in
pub opened_has : (m : FinMap nat_cmp Names) (k : ℕ) → map.contains_key (opened m k) k ≡ true
opened_has m k = ap is_some (get-insert nat_cmp_total m k (names_of m k) k) ∙ has_here (names_of m k) (map.get m k)
  where
    has_here : (v : Names) (o : Option Names) → is_some (cond (is_eq (nat_cmp k k)) (Some v) o) ≡ true
    has_here v o = ap (λ o'. is_some (cond (is_eq o') (Some v) o)) (self_equal k)

pub bound_has : (m : FinMap nat_cmp Names) (k : ℕ) (name : List ℕ) → map.contains_key (bound m k name) k ≡ true
bound_has m k name = ap is_some (get-insert nat_cmp_total m k (and_name (names_of m k) name) k) ∙ has_here (and_name (names_of m k) name) (map.get m k)
  where
    has_here : (v : Names) (o : Option Names) → is_some (cond (is_eq (nat_cmp k k)) (Some v) o) ≡ true
    has_here v o = ap (λ o'. is_some (cond (is_eq o') (Some v) o)) (self_equal k)
