-- Rows among lists, the names that they have, and the rows of a map.
use Rattle.std.proofs.Common.{◌≡◌, ◌⊎◌, inl, inr, ℕ, Bool, true, false, cond, ◌&&◌, ◌||◌, ◌==◌, List, [], ◌∷◌, ◌++◌, map as map_list, refl, sym, ap, subst, ◌∙◌, Some, true≢false}
use Rattle.std.specs.Prelude.{T}
use Rattle.std.specs.List.{list_any, filter, flat_map, AllByRecursion}
use Rattle.std.specs.Ordering.{nat_cmp, eq_by_cmp, is_eq, is_lt}
use Rattle.std.specs.FinMap as map
use Rattle.std.specs.FinMap.{entries, entries_sorted, is_sorted, find, get-entries, get-insert}
use Rattle.std.specs.Cmp.{nat_cmp_total}
use Rattle.std.specs.declared.cmp.Ordering.{Ordering}
use Rattle.std.specs.declared.cmp.Ordering.TheVariants.{Less, Equal, Greater}
use Rattle.std.proofs.lemmas.List.{append-nil}
use Rattle.std.specs.FinMap.Entries.{below_all}
use Rattle.std.proofs.lemmas.List.Folds.{list_any-append}
use Rattle.f2_model.specs.Tree.{Rows, names_of, names_under}
use Rattle.f2_model.specs.State.{Mark, rolled}
use Rattle.f2_model.specs.declared.rows.Row.{Row}
use Rattle.f2_held.specs.Recovered.{IsOneOf}
use Rattle.f2_held.proofs.Lists.{has, Apart, tied-true, tied-same, or_left, or_right}
use Rattle.f2_held.proofs.MapSums.{each_entry}

pub one_of-left : (row : Row) (xs ys : List Row) → IsOneOf row xs → IsOneOf row (xs ++ ys)
one_of-left row [] ys h = absurd h
one_of-left row (x ∷ xs) ys (inl e) = inl e
one_of-left row (x ∷ xs) ys (inr h) = inr (one_of-left row xs ys h)

pub one_of-right : (row : Row) (xs ys : List Row) → IsOneOf row ys → IsOneOf row (xs ++ ys)
one_of-right row [] ys h = h
one_of-right row (x ∷ xs) ys h = inr (one_of-right row xs ys h)

-- a row that passes a test is one of those that pass it
pub passes : (test : Row → Bool) (row : Row) (xs : List Row) → IsOneOf row xs → test row ≡ true → (f : Row → ℕ) → has (f row) (map_list f (filter test xs)) ≡ true
passes test row [] h t f = absurd h
passes test row (x ∷ xs) (inl e) t f =
    ap (λ b. has (f row) (map_list f (cond b (x ∷ filter test xs) (filter test xs)))) (ap test (sym e) ∙ t)
    ∙ or_left (eq_by_cmp nat_cmp (f row) (f x)) (has (f row) (map_list f (filter test xs))) (subst (λ y. eq_by_cmp nat_cmp (f row) (f y) ≡ true) e (tied-same (f row)))
passes test row (x ∷ xs) (inr h) t f = go (passes test row xs h t f) (test x)
  where
    go : has (f row) (map_list f (filter test xs)) ≡ true → (b : Bool) → has (f row) (map_list f (cond b (x ∷ filter test xs) (filter test xs))) ≡ true
    go rest true = or_right (eq_by_cmp nat_cmp (f row) (f x)) _ rest
    go rest false = rest

-- and a number of those that pass is that of a row that passes
pub passed : (test : Row → Bool) (f : Row → ℕ) (k : ℕ) (xs : List Row) → has k (map_list f (filter test xs)) ≡ true → (row : Row) × IsOneOf row xs × (test row ≡ true) × (k ≡ f row)
passed test f k [] h = absurd (true≢false (sym h))
passed test f k (x ∷ xs) h = go (passed test f k xs) (test x) refl h
  where
    later : ((row : Row) × IsOneOf row xs × (test row ≡ true) × (k ≡ f row)) → (row : Row) × IsOneOf row (x ∷ xs) × (test row ≡ true) × (k ≡ f row)
    later more = (more.0, inr more.1, more.2, more.3)

    tied : (b : Bool) → eq_by_cmp nat_cmp k (f x) ≡ b → test x ≡ true → (has k (map_list f (filter test xs)) ≡ true → (row : Row) × IsOneOf row xs × (test row ≡ true) × (k ≡ f row)) → (b || has k (map_list f (filter test xs))) ≡ true → (row : Row) × IsOneOf row (x ∷ xs) × (test row ≡ true) × (k ≡ f row)
    tied true e t rest h = (x, inl refl, t, tied-true k (f x) e)
    tied false e t rest h = later (rest h)

    go : (has k (map_list f (filter test xs)) ≡ true → (row : Row) × IsOneOf row xs × (test row ≡ true) × (k ≡ f row)) → (b : Bool) → test x ≡ b → has k (map_list f (cond b (x ∷ filter test xs) (filter test xs))) ≡ true → (row : Row) × IsOneOf row (x ∷ xs) × (test row ≡ true) × (k ≡ f row)
    go rest true t h = tied (eq_by_cmp nat_cmp k (f x)) refl t rest h
    go rest false t h = later (rest h)

-- what filtered rows are
pub each_filtered : (P : Row → Type 0) (test : Row → Bool) (xs : List Row) → ((row : Row) → IsOneOf row xs → test row ≡ true → P row) → AllByRecursion P (filter test xs)
each_filtered P test [] h = tt
each_filtered P test (x ∷ xs) h = go (each_filtered P test xs (λ row o t. h row (inr o) t)) (test x) refl
  where
    go : AllByRecursion P (filter test xs) → (b : Bool) → test x ≡ b → AllByRecursion P (cond b (x ∷ filter test xs) (filter test xs))
    go rest true t = (h x (inl refl) t, rest)
    go rest false t = rest

module _ (directory : ℕ) where
  abbrev under : List (ℕ × List ℕ) → List (List ℕ)
  under ats = map_list (λ at. at.1) (filter (λ at. at.0 == directory) ats)

  pub under-append : (xs bs : List (ℕ × List ℕ)) → under (xs ++ bs) ≡ under xs ++ under bs
  under-append [] bs = refl
  under-append (a ∷ xs) bs = go (under-append xs bs) (a.0 == directory)
    where
      go : under (xs ++ bs) ≡ under xs ++ under bs → (b : Bool) → map_list (λ at. at.1) (cond b (a ∷ filter (λ at. at.0 == directory) (xs ++ bs)) (filter (λ at. at.0 == directory) (xs ++ bs))) ≡ map_list (λ at. at.1) (cond b (a ∷ filter (λ at. at.0 == directory) xs) (filter (λ at. at.0 == directory) xs)) ++ under bs
      go rest true = ap (λ l. a.1 ∷ l) rest
      go rest false = rest

  names_split : (x : Row) (xs : List Row) → names_under (x ∷ xs) directory ≡ names_under (x ∷ []) directory ++ names_under xs directory
  names_split x xs = under-append (names_of x) (flat_map names_of xs) ∙ ap (λ ats. under ats ++ names_under xs directory) (sym (append-nil (names_of x)))

  module _ (test : List ℕ → Bool) where
    any_split : (x : Row) (xs : List Row) → list_any test (names_under (x ∷ xs) directory) ≡ (list_any test (names_under (x ∷ []) directory) || list_any test (names_under xs directory))
    any_split x xs = ap (list_any test) (names_split x xs) ∙ list_any-append test (names_under (x ∷ []) directory) (names_under xs directory)

    -- a name of a row is one of its list's, and each of those is a row's
    pub name_of_row : (row : Row) (xs : List Row) → IsOneOf row xs → list_any test (names_under (row ∷ []) directory) ≡ true → list_any test (names_under xs directory) ≡ true
    name_of_row row [] h t = absurd h
    name_of_row row (x ∷ xs) (inl e) t = any_split x xs ∙ or_left _ _ (subst (λ y. list_any test (names_under (y ∷ []) directory) ≡ true) e t)
    name_of_row row (x ∷ xs) (inr h) t = any_split x xs ∙ or_right (list_any test (names_under (x ∷ []) directory)) _ (name_of_row row xs h t)

    pub row_of_name : (xs : List Row) → list_any test (names_under xs directory) ≡ true → (row : Row) × IsOneOf row xs × (list_any test (names_under (row ∷ []) directory) ≡ true)
    row_of_name [] h = absurd (true≢false (sym h))
    row_of_name (x ∷ xs) h = go (row_of_name xs) (list_any test (names_under (x ∷ []) directory)) refl (sym (any_split x xs) ∙ h)
      where
        go : (list_any test (names_under xs directory) ≡ true → (row : Row) × IsOneOf row xs × (list_any test (names_under (row ∷ []) directory) ≡ true)) → (b : Bool) → list_any test (names_under (x ∷ []) directory) ≡ b → (b || list_any test (names_under xs directory)) ≡ true → (row : Row) × IsOneOf row (x ∷ xs) × (list_any test (names_under (row ∷ []) directory) ≡ true)
        go rest true e h = (x, inl refl, e)
        go rest false e h = let more = rest h in (more.0, inr more.1, more.2)

same_some : {X : Type 0} (a b : X) → Some a ≡ Some b → a ≡ b
same_some a b e = cc

-- the rows of a map
find_one_of : (k : ℕ) (row : Row) (es : List (ℕ × Row)) → find nat_cmp k es ≡ Some row → IsOneOf row (map_list (λ e. e.1) es)
find_one_of k row [] h = absurd (cc)
find_one_of k row (e ∷ es) h = go (find_one_of k row es) (eq_by_cmp nat_cmp k e.0) h
  where
    go : (find nat_cmp k es ≡ Some row → IsOneOf row (map_list (λ e. e.1) es)) → (b : Bool) → cond b (Some e.1) (find nat_cmp k es) ≡ Some row → IsOneOf row (e.1 ∷ map_list (λ e. e.1) es)
    go rest true h = inl (sym (same_some e.1 row h))
    go rest false h = inr (rest h)

module _ (m : Rows) where
  pub value_is_one : (k : ℕ) (row : Row) → map.get m k ≡ Some row → IsOneOf row (map.values m)
  value_is_one k row h = find_one_of k row (entries m) (sym (get-entries m k) ∙ h)

  keyed_entries : AllByRecursion (λ e. map.get m e.0 ≡ Some e.1) (entries m)
  keyed_entries = each_entry (λ e. map.get m e.0 ≡ Some e.1) (entries m) (entries_sorted m) (λ k v f. get-entries m k ∙ f)

  pub one_is_value : (row : Row) → IsOneOf row (map.values m) → (k : ℕ) × (map.get m k ≡ Some row)
  one_is_value row h = go (entries m) keyed_entries h
    where
      go : (es : List (ℕ × Row)) → AllByRecursion (λ e. map.get m e.0 ≡ Some e.1) es → IsOneOf row (map_list (λ e. e.1) es) → (k : ℕ) × (map.get m k ≡ Some row)
      go [] all h = absurd h
      go (e ∷ es) all (inl h) = (e.0, all.0 ∙ ap (λ r. Some r) (sym h))
      go (e ∷ es) all (inr h) = go es all.1 h

  -- rows that stand at their inos have each ino once
  pub inos_apart : (test : Row → Bool) → ((k : ℕ) (row : Row) → map.get m k ≡ Some row → row.ino ≡ k) → Apart (map_list (λ row. row.ino) (filter test (map.values m)))
  inos_apart test keyed = rows_apart (entries m) (entries_sorted m) (keyed_rows (entries m) keyed_entries)
    where
      keyed_rows : (es : List (ℕ × Row)) → AllByRecursion (λ e. map.get m e.0 ≡ Some e.1) es → AllByRecursion (λ e. e.1.ino ≡ e.0) es
      keyed_rows [] all = tt
      keyed_rows (e ∷ es) all = (keyed e.0 e.1 all.0, keyed_rows es all.1)

      first : (a b : Bool) → T (a && b) → T a
      first true b p = tt
      first false b p = p

      second : (a b : Bool) → T (a && b) → T b
      second true b p = p
      second false b p = absurd p

      not_tied : (o : Ordering) → T (is_lt o) → is_eq o ≡ false
      not_tied Less p = refl
      not_tied Equal p = absurd p
      not_tied Greater p = absurd p

      below : (k : ℕ) (es : List (ℕ × Row)) → T (below_all nat_cmp k es) → AllByRecursion (λ e. e.1.ino ≡ e.0) es → has k (map_list (λ row. row.ino) (filter test (map_list (λ e. e.1) es))) ≡ false
      below k [] h all = refl
      below k (e ∷ es) h all = go (below k es (second _ _ h) all.1) (test e.1)
        where
          other : eq_by_cmp nat_cmp k e.1.ino ≡ false
          other = ap (eq_by_cmp nat_cmp k) all.0 ∙ not_tied (nat_cmp k e.0) (first _ _ h)

          go : has k (map_list (λ row. row.ino) (filter test (map_list (λ e. e.1) es))) ≡ false → (b : Bool) → has k (map_list (λ row. row.ino) (cond b (e.1 ∷ filter test (map_list (λ e. e.1) es)) (filter test (map_list (λ e. e.1) es)))) ≡ false
          go rest true = ap (λ b. b || has k (map_list (λ row. row.ino) (filter test (map_list (λ e. e.1) es)))) other ∙ rest
          go rest false = rest

      rows_apart : (es : List (ℕ × Row)) → T (is_sorted nat_cmp es) → AllByRecursion (λ e. e.1.ino ≡ e.0) es → Apart (map_list (λ row. row.ino) (filter test (map_list (λ e. e.1) es)))
      rows_apart [] sorted all = tt
      rows_apart (e ∷ es) sorted all = go (rows_apart es (second _ _ sorted) all.1) (test e.1)
        where
          here : has e.1.ino (map_list (λ row. row.ino) (filter test (map_list (λ e. e.1) es))) ≡ false
          here = ap (λ k. has k (map_list (λ row. row.ino) (filter test (map_list (λ e. e.1) es)))) all.0 ∙ below e.0 es (first _ _ sorted) all.1

          go : Apart (map_list (λ row. row.ino) (filter test (map_list (λ e. e.1) es))) → (b : Bool) → Apart (map_list (λ row. row.ino) (cond b (e.1 ∷ filter test (map_list (λ e. e.1) es)) (filter test (map_list (λ e. e.1) es))))
          go rest true = (here, rest)
          go rest false = rest

-- a row of a rolled tree is the base's or a mark's
pub rolled_row : (base : Rows) (marks : List Mark) (k : ℕ) (row : Row) → map.get (rolled base marks) k ≡ Some row → (map.get base k ≡ Some row) ⊎ IsOneOf row (map_list (λ mark. mark.row) marks)
rolled_row base [] k row h = inl h
rolled_row base (mark ∷ marks) k row h = by (rolled_row (map.insert base mark.ino mark.row) marks k row h)
  where
    go : (b : Bool) → cond b (Some mark.row) (map.get base k) ≡ Some row → (map.get base k ≡ Some row) ⊎ IsOneOf row (mark.row ∷ map_list (λ mark. mark.row) marks)
    go true e = inr (inl (sym (same_some mark.row row e)))
    go false e = inl e

    by : (map.get (map.insert base mark.ino mark.row) k ≡ Some row) ⊎ IsOneOf row (map_list (λ mark. mark.row) marks) → (map.get base k ≡ Some row) ⊎ IsOneOf row (mark.row ∷ map_list (λ mark. mark.row) marks)
    by (inl e) = go (eq_by_cmp nat_cmp k mark.ino) (sym (get-insert nat_cmp_total base mark.ino mark.row k) ∙ e)
    by (inr h) = inr (inr h)
