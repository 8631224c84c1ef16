-- What was taken in hangs on which rows there are, not on their order nor on how often each stands.
use Rattle.std.proofs.Common.{◌≡◌, inl, inr, ℕ, Bool, true, false, cond, not, ◌||◌, ◌≤◌, ◌==◌, List, [], ◌∷◌, map as map_list, refl, sym, ap, subst, ◌∙◌, arith, Some, Option, true≢false}
use Rattle.std.specs.Bool.{then_some}
use Rattle.std.specs.List.{list_any, filter, fold}
use Rattle.std.specs.Ordering.{nat_cmp, eq_by_cmp}
use Rattle.std.specs.Cmp.Lexicographic.{slice_cmp, nat_list_cmp_total}
use Rattle.std.specs.FinMap as map
use Rattle.std.specs.FinMap.{find, nat_cmp-IsAntisymmetric, slice_cmp-IsAntisymmetric}
use Rattle.f2_format.specs.Offsets.{node_count}
use Rattle.f2_model.specs.Count.{nodes_of_row, data_of_row, page_numbers, data_of_kind}
use Rattle.f2_model.specs.Fallback.{Both, greater_of, nothing, greatest_of}
use Rattle.f2_model.specs.Tree.{Rows, is_directory, names_under}
use Rattle.f2_model.specs.declared.rows.Kind.{Kind}
use Rattle.f2_model.specs.declared.rows.Kind.TheVariants.{Regular, Directory}
use Rattle.f2_model.specs.declared.rows.Row.{Row}
use Rattle.f2_held.proofs.Counting.{tells}
use Rattle.f2_held.proofs.Lists.{tied-true}
use Rattle.f2_held.proofs.RowLists.{name_of_row, row_of_name}
use Rattle.f2_held.specs.Recovered.{IsOneOf, IsTakenOf, AreOfOneKind, is_of_file, size_of_file}
use Rattle.f2_held.specs.Taken.{Taken, names_from}
use Rattle.f2_since.proofs.Telling.{same_truth, one_passes, passes_one, both_hold}

-- no number is greater than the other's
abbrev AtMost : Both → Both → Type 0
AtMost a b = (a.nodes ≤ b.nodes) × (a.pages ≤ b.pages)

module _ (size : Row → Both) (test : Row → Bool) where
  abbrev most : Both → List Row → Both
  most a rows = fold (λ most row. greater_of most (size row)) a (filter test rows)

  rises : (a : Both) (rows : List Row) → AtMost a (most a rows)
  rises a [] = (omega arith, omega arith)
  rises a (x ∷ rows) = by_test (rises a rows) (rises (greater_of a (size x)) rows) (test x)
    where
      by_test : AtMost a (most a rows) → AtMost (greater_of a (size x)) (most (greater_of a (size x)) rows) → (b : Bool) → AtMost a (fold (λ most row. greater_of most (size row)) a (cond b (x ∷ filter test rows) (filter test rows)))
      by_test skip take true = (grind (arith, take.0), grind (arith, take.1))
      by_test skip take false = skip

  -- the most is no less than each
  reached : (row : Row) (rows : List Row) (a : Both) → IsOneOf row rows → test row ≡ true → AtMost (size row) (most a rows)
  reached row [] a h t = absurd h
  reached row (x ∷ rows) a (inl e) t =
      let here : test x ≡ true = ap test (sym e) ∙ t in
      let more = rises (greater_of a (size x)) rows in
      let own : AtMost (size x) (most (greater_of a (size x)) rows) = (grind (arith, more.0), grind (arith, more.1)) in
      subst (λ b. AtMost (size row) (fold (λ most row. greater_of most (size row)) a (cond b (x ∷ filter test rows) (filter test rows)))) (sym here)
      (subst (λ (r : Row). AtMost (size r) (most (greater_of a (size x)) rows)) (sym e) own)
  reached row (x ∷ rows) a (inr h) t = by_test (reached row rows a h t) (reached row rows (greater_of a (size x)) h t) (test x)
    where
      by_test : AtMost (size row) (most a rows) → AtMost (size row) (most (greater_of a (size x)) rows) → (b : Bool) → AtMost (size row) (fold (λ most row. greater_of most (size row)) a (cond b (x ∷ filter test rows) (filter test rows)))
      by_test skip take true = take
      by_test skip take false = skip

  -- and no more than what each is no more than
  bounded : (bound a : Both) (rows : List Row) → AtMost a bound → ((row : Row) → IsOneOf row rows → test row ≡ true → AtMost (size row) bound) → AtMost (most a rows) bound
  bounded bound a [] low each = low
  bounded bound a (x ∷ rows) low each = by_test (λ a low. bounded bound a rows low (λ row h t. each row (inr h) t)) (test x) refl
    where
      by_test : ((a : Both) → AtMost a bound → AtMost (most a rows) bound) → (b : Bool) → test x ≡ b → AtMost (fold (λ most row. greater_of most (size row)) a (cond b (x ∷ filter test rows) (filter test rows))) bound
      by_test rest true is = let own = each x (inl refl) is in rest (greater_of a (size x)) (grind (arith, low.0, own.0), grind (arith, low.1, own.1))
      by_test rest false is = rest a low

at_most_each_other : (a b : Both) → AtMost a b → AtMost b a → a ≡ b
at_most_each_other a b up down =
    let nodes : a.nodes ≡ b.nodes = omega (arith, up.0, down.0) in
    let pages : a.pages ≡ b.pages = omega (arith, up.1, down.1) in
    λ i. record { nodes = nodes i; pages = pages i }

none_below : (b : Both) → AtMost nothing b
none_below b = (omega arith, omega arith)

most_among : (size also : Row → Both) (test : Row → Bool) (rows others : List Row) → ((row : Row) → IsOneOf row rows → IsOneOf row others) → ((row : Row) → IsOneOf row rows → test row ≡ true → size row ≡ also row) → AtMost (most size test nothing rows) (most also test nothing others)
most_among size also test rows others to same =
    bounded size test (most also test nothing others) nothing rows (none_below (most also test nothing others)) (λ row h t.
    subst (λ (b : Both). AtMost b (most also test nothing others)) (sym (same row h t)) (reached also test row others nothing (to row h) t))

-- the size of a row among others, which of a file's is its own
abbrev size_in : List Row → Row → Both
size_in rows row = record { nodes = nodes_of_row rows row; pages = data_of_row rows row }

file_size : (rows : List Row) (row : Row) → row.kind ≡ Regular → size_in rows row ≡ size_of_file row
file_size rows row e = subst (λ (kind : Kind). ◌≡◌ {A = Both} (record { nodes = node_count (page_numbers kind rows row); pages = data_of_kind kind rows row }) (size_of_file row)) (sym e) refl

kind_of_file : (kind : Kind) → not (is_directory kind) ≡ true → kind ≡ Regular
kind_of_file Regular h = refl
kind_of_file Directory h = absurd (true≢false (sym h))

same_number : (a b : ℕ) → (a == b) ≡ true → a ≡ b
same_number a b h = sym (tied-true b a (tells b a ∙ h))

abbrev pairs : List (List ℕ) → List (List ℕ × Unit {0})
pairs names = map_list (λ name. (name, tt)) names

abbrev there_or_not : Bool → Option (Unit {0})
there_or_not b = then_some b tt

found_any : (name : List ℕ) (names : List (List ℕ)) → find (slice_cmp nat_cmp) name (pairs names) ≡ there_or_not (list_any (eq_by_cmp (slice_cmp nat_cmp) name) names)
found_any name [] = refl
found_any name (x ∷ names) = by_test (found_any name names) (eq_by_cmp (slice_cmp nat_cmp) name x)
  where
    by_test : find (slice_cmp nat_cmp) name (pairs names) ≡ there_or_not (list_any (eq_by_cmp (slice_cmp nat_cmp) name) names)
        → (b : Bool) → cond b (Some tt) (find (slice_cmp nat_cmp) name (pairs names)) ≡ there_or_not (b || list_any (eq_by_cmp (slice_cmp nat_cmp) name) names)
    by_test rest true = refl
    by_test rest false = rest

module _ (rows others : List Row) (to : (row : Row) → IsOneOf row rows → IsOneOf row others) (back : (row : Row) → IsOneOf row others → IsOneOf row rows) where
  any_same : (test : Row → Bool) → list_any test rows ≡ list_any test others
  any_same test = same_truth (list_any test rows) (list_any test others) (there rows others to) (there others rows back)
    where
      there : (xs ys : List Row) → ((row : Row) → IsOneOf row xs → IsOneOf row ys) → list_any test xs ≡ true → list_any test ys ≡ true
      there xs ys over h = let one = one_passes test xs h in passes_one test one.0 ys (over one.0 one.1) one.2

  names_same : (directory : ℕ) → names_from (names_under rows directory) ≡ names_from (names_under others directory)
  names_same directory = map.same_map nat_list_cmp_total (slice_cmp-IsAntisymmetric nat_cmp-IsAntisymmetric) _ _ (λ name.
      map.get-from_entries nat_list_cmp_total (pairs (names_under rows directory)) name
      ∙ found_any name (names_under rows directory)
      ∙ ap there_or_not (same_truth _ _ (there name rows others to) (there name others rows back))
      ∙ sym (found_any name (names_under others directory))
      ∙ sym (map.get-from_entries nat_list_cmp_total (pairs (names_under others directory)) name))
    where
      there : (name : List ℕ) (xs ys : List Row) → ((row : Row) → IsOneOf row xs → IsOneOf row ys) → list_any (eq_by_cmp (slice_cmp nat_cmp) name) (names_under xs directory) ≡ true → list_any (eq_by_cmp (slice_cmp nat_cmp) name) (names_under ys directory) ≡ true
      there name xs ys over h =
          let one = row_of_name directory (eq_by_cmp (slice_cmp nat_cmp) name) xs h in
          name_of_row directory (eq_by_cmp (slice_cmp nat_cmp) name) one.0 ys (over one.0 one.1) one.2

  module _ (kinds : AreOfOneKind rows) where
    greatest_same : (ino : ℕ) (file : Row) → IsOneOf file rows → is_of_file ino file ≡ true → greatest_of rows ino ≡ greatest_of others ino
    greatest_same ino file among is =
        at_most_each_other (greatest_of rows ino) (greatest_of others ino)
        (most_among (size_in rows) (size_in others) (λ row. row.ino == ino) rows others to (λ row h t. sized row h t))
        (most_among (size_in others) (size_in rows) (λ row. row.ino == ino) others rows back (λ row h t. sym (sized row (back row h) t)))
      where
        sized : (row : Row) → IsOneOf row rows → (row.ino == ino) ≡ true → size_in rows row ≡ size_in others row
        sized row h t =
            let tests = both_hold (not (is_directory file.kind)) (file.ino == ino) is in
            let regular = kinds row file h among (same_number row.ino ino t ∙ sym (same_number file.ino ino tests.1)) ∙ kind_of_file file.kind tests.0 in
            file_size rows row regular ∙ sym (file_size others row regular)

    files_same : (ino : ℕ) → then_some (list_any (is_of_file ino) rows) (greatest_of rows ino) ≡ then_some (list_any (is_of_file ino) others) (greatest_of others ino)
    files_same ino = by_any (list_any (is_of_file ino) rows) refl ∙ ap (λ b. then_some b (greatest_of others ino)) (any_same (is_of_file ino))
      where
        by_any : (b : Bool) → list_any (is_of_file ino) rows ≡ b → then_some b (greatest_of rows ino) ≡ then_some b (greatest_of others ino)
        by_any false is = refl
        by_any true is = let file = one_passes (is_of_file ino) rows is in ap (λ size. Some size) (greatest_same ino file.0 file.1 file.2)

    pub taken_among : (base : Rows) (taken : Taken) → IsTakenOf base rows taken → IsTakenOf base others taken
    taken_among base taken is = record {
      files = λ ino. is.files ino ∙ files_same ino;
      directories = λ ino. is.directories ino ∙ ap (then_some _) (names_same ino);
    }
