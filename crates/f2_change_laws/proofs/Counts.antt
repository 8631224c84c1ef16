-- The marked blocks of a log with one block more, and how many stand in its first positions.
use Rattle.std.proofs.Common.{◌≡◌, ℕ, zero, suc, ◌+◌, ◌-◌, ◌<◌, ◌≤◌, Bool, cond, List, [], ◌∷◌, ◌++◌, length, take, filter, All, refl, sym, ap, ◌∙◌, subst, arith}
use Rattle.std.specs.List.{AllByRecursion, range_with_len}
use Rattle.std.proofs.lemmas.List.{length_push, length-append, take_more, get_or_append_left, get_or_push, map-id}
use Rattle.std.proofs.lemmas.List.Elements.{filter-append, All-filter, recursion_from_All}
use Rattle.std.proofs.lemmas.List.FromFn.{length-range_with_len, get_or-range_with_len, map-range_with_len_more}
use Rattle.std.specs.Prelude.{slice_index_or}
use Rattle.f2_image.specs.Chains.{Logged, no_block, block_in, is_marked, marked_places}

-- numbers from one on, and one more
range_more : (count : ℕ) → range_with_len 0 (count + 1) ≡ range_with_len 0 count ++ count ∷ []
range_more count =
    sym (map-id (range_with_len 0 (count + 1))) ∙ map-range_with_len_more (λ (x : ℕ). x) 0 count count (omega arith) ∙ ap (λ xs. xs ++ count ∷ []) (map-id (range_with_len 0 count))

range_below : (count : ℕ) → All (λ x. x < count) (range_with_len 0 count)
range_below count k d small =
    let few : k < count = omega (arith, small, length-range_with_len 0 count) in
    omega (arith, few, get_or-range_with_len 0 count k d few)

filter_same : (p q : ℕ → Bool) (xs : List ℕ) → AllByRecursion (λ x. p x ≡ q x) xs → filter p xs ≡ filter q xs
filter_same p q [] all = refl
filter_same p q (x ∷ xs) all = ap (λ b. cond b (x ∷ filter p xs) (filter p xs)) all.0 ∙ ap (λ rest. cond (q x) (x ∷ rest) rest) (filter_same p q xs all.1)

-- the places of a log's marked blocks are in it
pub marked_below : (log : List Logged) → AllByRecursion (λ place. place < length log) (marked_places log)
marked_below log =
    recursion_from_All (λ place. place < length log) (marked_places log)
    (All-filter (λ place. is_marked (block_in log place)) (λ place. place < length log) (range_with_len 0 (length log)) (range_below (length log)))

pub block_before : (log : List Logged) (one : Logged) (place : ℕ) → place < length log → block_in (log ++ one ∷ []) place ≡ block_in log place
block_before log one place small = ap (λ (x : Logged). x.block) (get_or_append_left log (one ∷ []) no_block place small)

pub block_last : (log : List Logged) (one : Logged) → block_in (log ++ one ∷ []) (length log) ≡ one.block
block_last log one = ap (λ (x : Logged). x.block) (get_or_push log one no_block (length log) refl)

abbrev test : List Logged → Logged → ℕ → Bool
test log one place = is_marked (block_in (log ++ one ∷ []) place)

pub marked_more : (log : List Logged) (one : Logged) → marked_places (log ++ one ∷ []) ≡ marked_places log ++ cond (is_marked one.block) (length log ∷ []) []
marked_more log one =
    ap (λ n. filter (test log one) (range_with_len 0 n)) (length_push log one)
    ∙ ap (filter (test log one)) (range_more (length log))
    ∙ filter-append (test log one) (range_with_len 0 (length log)) (length log ∷ [])
    ∙ ap (λ xs. xs ++ filter (test log one) (length log ∷ [])) (filter_same (test log one) (λ place. is_marked (block_in log place)) (range_with_len 0 (length log)) before)
    ∙ ap (λ b. marked_places log ++ cond b (length log ∷ []) []) (ap is_marked (block_last log one))
  where
    before : AllByRecursion (λ place. is_marked (block_in (log ++ one ∷ []) place) ≡ is_marked (block_in log place)) (range_with_len 0 (length log))
    before =
        recursion_from_All (λ place. is_marked (block_in (log ++ one ∷ []) place) ≡ is_marked (block_in log place)) (range_with_len 0 (length log))
        (λ k d small. ap is_marked (block_before log one _ (range_below (length log) k d small)))

abbrev count_in : List Logged → ℕ → ℕ
count_in log count = length (marked_places (take count log))

one_counts : (log : List Logged) (count : ℕ) → count < length log → count_in log count ≤ count_in log (count + 1)
one_counts log count small =
    let more : count_in log (count + 1) ≡ length (marked_places (take count log) ++ cond (is_marked (slice_index_or log count no_block).block) (length (take count log) ∷ []) []) =
    ap (λ (c : List Logged). length (marked_places c)) (take_more log count no_block small) ∙ ap length (marked_more (take count log) (slice_index_or log count no_block)) in
    omega (arith, more, length-append (marked_places (take count log)) (cond (is_marked (slice_index_or log count no_block).block) (length (take count log) ∷ []) []))

some_count : (log : List Logged) (count more : ℕ) → count + more ≤ length log → count_in log count ≤ count_in log (count + more)
some_count log count zero within = let same : count + 0 ≡ count = omega arith in subst (λ n. count_in log count ≤ count_in log n) (sym same) (omega arith)
some_count log count (suc more) within =
    let same : count + 1 + more ≡ count + suc more = omega arith in
    let later : count_in log (count + 1) ≤ count_in log (count + suc more) = subst (λ n. count_in log (count + 1) ≤ count_in log n) same (some_count log (count + 1) more (omega (arith, within))) in
    let first = one_counts log count (omega (arith, within)) in
    omega (arith, later, first)

-- further positions have no fewer marks
pub more_count : (log : List Logged) (count other : ℕ) → count ≤ other → other ≤ length log → length (marked_places (take count log)) ≤ length (marked_places (take other log))
more_count log count other more within =
    let same : count + (other - count) ≡ other = omega (arith, more) in
    subst (λ n. count_in log count ≤ count_in log n) same (some_count log count (other - count) (omega (arith, within, same)))
