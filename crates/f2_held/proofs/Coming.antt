-- What one row more makes of what was taken in.
use Rattle.std.proofs.Common.{◌≡◌, ◌≢◌, inl, inr, ℕ, Bool, true, false, cond, not, ◌&&◌, ◌||◌, ◌==◌, List, [], ◌∷◌, ◌++◌, map as map_list, refl, sym, ap, subst, ◌∙◌, Some, Option, true≢false, if◌then◌else◌}
use Rattle.std.specs.Prelude.{is_some}
use Rattle.std.specs.Bool.{then_some}
use Rattle.std.specs.Option.{unwrap_or}
use Rattle.std.specs.List.{list_any, filter, fold, flat_map}
use Rattle.std.specs.Ordering.{nat_cmp, eq_by_cmp}
use Rattle.std.specs.Cmp.{nat_cmp_total}
use Rattle.std.specs.Cmp.Lexicographic.{slice_cmp, nat_list_cmp_total}
use Rattle.std.specs.FinMap as map
use Rattle.std.specs.FinMap.{find, get-insert, nat_cmp-IsAntisymmetric, slice_cmp-IsAntisymmetric}
use Rattle.std.proofs.lemmas.List.{append-nil}
use Rattle.std.proofs.lemmas.List.Concat.{flat_map-append}
use Rattle.std.proofs.lemmas.List.Folds.{list_any-append}
use Rattle.f2_format.specs.Offsets.{node_count}
use Rattle.f2_model.specs.Tree.{Rows, ROOT, is_directory, names_of, names_under}
use Rattle.f2_model.specs.Count.{nodes_of_row, data_of_row, page_numbers, data_of_kind}
use Rattle.f2_model.specs.Fallback.{Both, greater_of, nothing, greatest_of, directory_inos}
use Rattle.f2_model.specs.declared.rows.Row.{Row}
use Rattle.f2_model.specs.declared.rows.Kind.{Kind}
use Rattle.f2_model.specs.declared.rows.Kind.TheVariants.{Regular, Directory}
use Rattle.f2_held.specs.Taken.{Names, Taken, names_from, and_name, raised, bound, size_of, names_of as held_names}
use Rattle.f2_held.specs.Recovered.{IsOneOf, is_of_file, IsTakenOf, AreOfOneKind, size_of_file, with_row, RowsComeIn}
use Rattle.f2_held.proofs.Lists.{tied-true, tied-same, or_left, or_right}
use Rattle.f2_held.proofs.RowLists.{one_of-left, one_of-right, under-append}
use Rattle.f2_held.proofs.Counting.{tells}

filter-append : (test : Row → Bool) (xs ys : List Row) → filter test (xs ++ ys) ≡ filter test xs ++ filter test ys
filter-append test [] ys = refl
filter-append test (x ∷ xs) ys = go (filter-append test xs ys) (test x)
  where
    go : filter test (xs ++ ys) ≡ filter test xs ++ filter test ys → (b : Bool) → cond b (x ∷ filter test (xs ++ ys)) (filter test (xs ++ ys)) ≡ cond b (x ∷ filter test xs) (filter test xs) ++ filter test ys
    go rest true = ap (λ l. x ∷ l) rest
    go rest false = rest

fold-append : (f : Both → Row → Both) (a : Both) (xs ys : List Row) → fold f a (xs ++ ys) ≡ fold f (fold f a xs) ys
fold-append f a [] ys = refl
fold-append f a (x ∷ xs) ys = fold-append f (f a x) xs ys

-- the size of a row among rows
abbrev size_in : List Row → Row → Both
size_in rows row = record { nodes = nodes_of_row rows row; pages = data_of_row rows row }

file_size : (rows : List Row) (row : Row) → row.kind ≡ Regular → size_in rows row ≡ size_of_file row
file_size rows row e = subst (λ kind. record { nodes = node_count (page_numbers kind rows row); pages = data_of_kind kind rows row } ≡ size_of_file row) (sym e) refl

-- rows of files take the same among other rows
pub same_fold : (xs ys : List Row) (test : Row → Bool) (a : Both) (rows : List Row) → ((row : Row) → IsOneOf row rows → test row ≡ true → row.kind ≡ Regular) → fold (λ most row. greater_of most (size_in xs row)) a (filter test rows) ≡ fold (λ most row. greater_of most (size_in ys row)) a (filter test rows)
same_fold xs ys test a [] files = refl
same_fold xs ys test a (x ∷ rows) files = go (λ a. same_fold xs ys test a rows (λ row o t. files row (inr o) t)) (test x) refl
  where
    go : ((a : Both) → fold (λ most row. greater_of most (size_in xs row)) a (filter test rows) ≡ fold (λ most row. greater_of most (size_in ys row)) a (filter test rows)) → (b : Bool) → test x ≡ b → fold (λ most row. greater_of most (size_in xs row)) a (cond b (x ∷ filter test rows) (filter test rows)) ≡ fold (λ most row. greater_of most (size_in ys row)) a (cond b (x ∷ filter test rows) (filter test rows))
    go rest true t =
        let same : size_in xs x ≡ size_in ys x = file_size xs x (files x (inl refl) t) ∙ sym (file_size ys x (files x (inl refl) t)) in
        rest (greater_of a (size_in xs x)) ∙ ap (λ size. fold (λ most row. greater_of most (size_in ys row)) (greater_of a size) (filter test rows)) same
    go rest false t = rest a

none_pass : (test : Row → Bool) (xs : List Row) → list_any test xs ≡ false → filter test xs ≡ []
none_pass test [] h = refl
none_pass test (x ∷ xs) h = go (none_pass test xs) (test x) h
  where
    go : (list_any test xs ≡ false → filter test xs ≡ []) → (b : Bool) → (b || list_any test xs) ≡ false → cond b (x ∷ filter test xs) (filter test xs) ≡ []
    go rest true h = absurd (true≢false h)
    go rest false h = rest h

-- a row that passes, where one does
one_passes : (test : Row → Bool) (xs : List Row) → list_any test xs ≡ true → (row : Row) × IsOneOf row xs × (test row ≡ true)
one_passes test [] h = absurd (true≢false (sym h))
one_passes test (x ∷ xs) h = go (one_passes test xs) (test x) refl h
  where
    go : (list_any test xs ≡ true → (row : Row) × IsOneOf row xs × (test row ≡ true)) → (b : Bool) → test x ≡ b → (b || list_any test xs) ≡ true → (row : Row) × IsOneOf row (x ∷ xs) × (test row ≡ true)
    go rest true t h = (x, inl refl, t)
    go rest false t h = let more = rest h in (more.0, inr more.1, more.2)

both_hold : (a b : Bool) → (a && b) ≡ true → (a ≡ true) × (b ≡ true)
both_hold true b h = (refl, h)
both_hold false b h = absurd (true≢false (sym h))

same_number : (a b : ℕ) → (a == b) ≡ true → a ≡ b
same_number a b h = sym (tied-true b a (tells b a ∙ h))

is_number : (a : ℕ) → (a == a) ≡ true
is_number a = sym (tells a a) ∙ tied-same a

kind_of_file : (kind : Kind) → not (is_directory kind) ≡ true → kind ≡ Regular
kind_of_file Regular h = refl
kind_of_file Directory h = absurd (true≢false (sym h))

or_none : (b : Bool) → (b || false) ≡ b
or_none true = refl
or_none false = refl

any_of : (test : Row → Bool) (row : Row) (xs : List Row) → IsOneOf row xs → test row ≡ true → list_any test xs ≡ true
any_of test row [] h t = absurd h
any_of test row (x ∷ xs) (inl e) t = or_left (test x) (list_any test xs) (ap test (sym e) ∙ t)
any_of test row (x ∷ xs) (inr h) t = or_right (test x) (list_any test xs) (any_of test row xs h t)

-- names of more rows, and a set with one name more at the end of its list
names_append : (directory : ℕ) (xs ys : List Row) → names_under (xs ++ ys) directory ≡ names_under xs directory ++ names_under ys directory
names_append directory xs ys = ap (λ ats. map_list (λ at. at.1) (filter (λ at. at.0 == directory) ats)) (flat_map-append names_of xs ys) ∙ under-append directory (flat_map names_of xs) (flat_map names_of ys)

swapped : (a b : Bool) (o : Option (Unit {0})) → cond a (Some tt) (cond b (Some tt) o) ≡ cond b (Some tt) (cond a (Some tt) o)
swapped true true o = refl
swapped true false o = refl
swapped false true o = refl
swapped false false o = refl

abbrev pairs : List (List ℕ) → List (List ℕ × Unit {0})
pairs names = map_list (λ name. (name, tt)) names

find_push : (q name : List ℕ) (xs : List (List ℕ)) → find (slice_cmp nat_cmp) q (pairs (xs ++ name ∷ [])) ≡ cond (eq_by_cmp (slice_cmp nat_cmp) q name) (Some tt) (find (slice_cmp nat_cmp) q (pairs xs))
find_push q name [] = refl
find_push q name (x ∷ xs) = ap (cond (eq_by_cmp (slice_cmp nat_cmp) q x) (Some tt)) (find_push q name xs) ∙ swapped (eq_by_cmp (slice_cmp nat_cmp) q x) (eq_by_cmp (slice_cmp nat_cmp) q name) _

names_push : (xs : List (List ℕ)) (name : List ℕ) → names_from (xs ++ name ∷ []) ≡ and_name (names_from xs) name
names_push xs name = map.same_map nat_list_cmp_total (slice_cmp-IsAntisymmetric nat_cmp-IsAntisymmetric) _ _ (λ q.
    map.get-from_entries nat_list_cmp_total (pairs (xs ++ name ∷ [])) q
    ∙ find_push q name xs
    ∙ ap (cond (eq_by_cmp (slice_cmp nat_cmp) q name) (Some tt)) (sym (map.get-from_entries nat_list_cmp_total (pairs xs) q))
    ∙ sym (get-insert nat_list_cmp_total (names_from xs) name tt q))

-- the names of an entry, where it is one
abbrev names_at : Bool → ℕ → List ℕ → List (List ℕ)
names_at b parent name = map_list (λ (at : ℕ × List ℕ). at.1) (cond b ((parent, name) ∷ []) [])

module _ (base : Rows) (rows : List Row) (taken : Taken) (row : Row) (is : IsTakenOf base rows taken) (one_kind : AreOfOneKind (rows ++ row ∷ [])) where
  abbrev all : List Row
  all = rows ++ row ∷ []

  abbrev most_in : List Row → List Row → ℕ → Both
  most_in sizes xs ino = fold (λ most one. greater_of most (size_in sizes one)) nothing (filter (λ one. one.ino == ino) xs)

  -- where an ino is a file's, sizes don't hang on the row that comes in
  all_files : (ino : ℕ) (file : Row) → IsOneOf file all → file.ino ≡ ino → file.kind ≡ Regular → (one : Row) → IsOneOf one all → (one.ino == ino) ≡ true → one.kind ≡ Regular
  all_files ino file among at kind one o t = one_kind one file o among (same_number one.ino ino t ∙ sym at) ∙ kind

  same_sizes : (ino : ℕ) (file : Row) → IsOneOf file all → file.ino ≡ ino → file.kind ≡ Regular → most_in all rows ino ≡ most_in rows rows ino
  same_sizes ino file among at kind = same_fold all rows (λ one. one.ino == ino) nothing rows (λ one o t. all_files ino file among at kind one (one_of-left one rows (row ∷ []) o) t)

  most_split : (ino : ℕ) → greatest_of all ino ≡ fold (λ most one. greater_of most (size_in all one)) (most_in all rows ino) (filter (λ one. one.ino == ino) (row ∷ []))
  most_split ino =
      ap (fold (λ most one. greater_of most (size_in all one)) nothing) (filter-append (λ one. one.ino == ino) rows (row ∷ []))
      ∙ fold-append (λ most one. greater_of most (size_in all one)) nothing (filter (λ one. one.ino == ino) rows) (filter (λ one. one.ino == ino) (row ∷ []))

  -- another ino keeps its greatest numbers
  most_other : (ino : ℕ) → (row.ino == ino) ≡ false → greatest_of all ino ≡ most_in all rows ino
  most_other ino e = most_split ino ∙ ap (λ b. fold (λ most one. greater_of most (size_in all one)) (most_in all rows ino) (cond b (row ∷ []) [])) e

  -- the row's own get greater
  most_own : row.kind ≡ Regular → greatest_of all row.ino ≡ greater_of (most_in rows rows row.ino) (size_of_file row)
  most_own kind =
      most_split row.ino
      ∙ ap (λ b. fold (λ most one. greater_of most (size_in all one)) (most_in all rows row.ino) (cond b (row ∷ []) [])) (is_number row.ino)
      ∙ (λ i. greater_of (same_sizes row.ino row (one_of-right row rows (row ∷ []) (inl refl)) refl kind i) (file_size all row kind i))

  any_all : (ino : ℕ) → list_any (is_of_file ino) all ≡ (list_any (is_of_file ino) rows || (is_of_file ino row || false))
  any_all ino = list_any-append (is_of_file ino) rows (row ∷ [])

  -- where no row is the file's, nothing was taken in of it
  stood : row.kind ≡ Regular → size_of taken.files row.ino ≡ most_in rows rows row.ino
  stood kind = ap (λ o. unwrap_or o nothing) (is.files row.ino) ∙ go (list_any (is_of_file row.ino) rows) refl
    where
      passes_file : (one : Row) → IsOneOf one rows → (one.ino == row.ino) ≡ true → is_of_file row.ino one ≡ true
      passes_file one o t =
          let regular = all_files row.ino row (one_of-right row rows (row ∷ []) (inl refl)) refl kind one (one_of-left one rows (row ∷ []) o) t in
          ap (λ k. not (is_directory k) && (one.ino == row.ino)) regular ∙ t

      none_at : list_any (is_of_file row.ino) rows ≡ false → (b : Bool) → list_any (λ one. one.ino == row.ino) rows ≡ b → b ≡ false
      none_at none true e =
          let one = one_passes (λ one. one.ino == row.ino) rows e in
          absurd (true≢false (sym (any_of (is_of_file row.ino) one.0 rows one.1 (passes_file one.0 one.1 one.2)) ∙ none))
      none_at none false e = refl

      go : (b : Bool) → list_any (is_of_file row.ino) rows ≡ b → unwrap_or (then_some b (greatest_of rows row.ino)) nothing ≡ most_in rows rows row.ino
      go true e = refl
      go false e = sym (ap (fold (λ most one. greater_of most (size_in rows one)) nothing) (none_pass (λ one. one.ino == row.ino) rows (none_at e (list_any (λ one. one.ino == row.ino) rows) refl)))

  -- another ino's numbers stay
  others : (ino : ℕ) → (row.ino == ino) ≡ false → then_some (list_any (is_of_file ino) rows) (greatest_of rows ino) ≡ then_some (list_any (is_of_file ino) all) (greatest_of all ino)
  others ino other = go (list_any (is_of_file ino) rows) refl ∙ sym (ap (λ b. then_some b (greatest_of all ino)) same_any)
    where
      and_false : (a : Bool) → (a && false) ≡ false
      and_false true = refl
      and_false false = refl

      same_any : list_any (is_of_file ino) all ≡ list_any (is_of_file ino) rows
      same_any =
          any_all ino
          ∙ ap (λ b. list_any (is_of_file ino) rows || (b || false)) (ap (λ b. not (is_directory row.kind) && b) other ∙ and_false (not (is_directory row.kind)))
          ∙ or_none (list_any (is_of_file ino) rows)

      go : (b : Bool) → list_any (is_of_file ino) rows ≡ b → then_some b (greatest_of rows ino) ≡ then_some b (greatest_of all ino)
      go false e = refl
      go true e =
          let file = one_passes (is_of_file ino) rows e in
          let tests = both_hold (not (is_directory file.0.kind)) (file.0.ino == ino) file.2 in
          ap (λ size. Some size) (sym (most_other ino other ∙ same_sizes ino file.0 (one_of-left file.0 rows (row ∷ []) file.1) (same_number file.0.ino ino tests.1) (kind_of_file file.0.kind tests.0)))

  -- the files after the row came in, where it is a file's
  file_comes : row.kind ≡ Regular → (ino : ℕ) → map.get (raised taken.files row.ino (size_of_file row)) ino ≡ then_some (list_any (is_of_file ino) all) (greatest_of all ino)
  file_comes kind ino = get-insert nat_cmp_total taken.files row.ino (greater_of (size_of taken.files row.ino) (size_of_file row)) ino ∙ go (eq_by_cmp nat_cmp ino row.ino) refl
    where
      own : is_of_file row.ino row ≡ true
      own = ap (λ k. not (is_directory k) && (row.ino == row.ino)) kind ∙ is_number row.ino

      value : Some (greater_of (size_of taken.files row.ino) (size_of_file row)) ≡ then_some (list_any (is_of_file row.ino) all) (greatest_of all row.ino)
      value =
          ap (λ size. Some (greater_of size (size_of_file row))) (stood kind)
          ∙ ap (λ size. Some size) (sym (most_own kind))
          ∙ sym (ap (λ b. then_some b (greatest_of all row.ino)) (any_of (is_of_file row.ino) row all (one_of-right row rows (row ∷ []) (inl refl)) own))

      go : (b : Bool) → eq_by_cmp nat_cmp ino row.ino ≡ b → cond b (Some (greater_of (size_of taken.files row.ino) (size_of_file row))) (map.get taken.files ino) ≡ then_some (list_any (is_of_file ino) all) (greatest_of all ino)
      go true e = subst (λ i. Some (greater_of (size_of taken.files row.ino) (size_of_file row)) ≡ then_some (list_any (is_of_file i) all) (greatest_of all i)) (sym (tied-true ino row.ino e)) value
      go false e = is.files ino ∙ others ino (sym (tells ino row.ino) ∙ e)

  -- where it is a directory's, no file changes
  directory_comes : row.kind ≡ Directory → (ino : ℕ) → map.get taken.files ino ≡ then_some (list_any (is_of_file ino) all) (greatest_of all ino)
  directory_comes kind ino = is.files ino ∙ go (list_any (is_of_file ino) rows) refl ∙ sym (ap (λ b. then_some b (greatest_of all ino)) same_any)
    where
      same_any : list_any (is_of_file ino) all ≡ list_any (is_of_file ino) rows
      same_any =
          any_all ino
          ∙ ap (λ k. list_any (is_of_file ino) rows || ((not (is_directory k) && (row.ino == ino)) || false)) kind
          ∙ or_none (list_any (is_of_file ino) rows)

      go : (b : Bool) → list_any (is_of_file ino) rows ≡ b → then_some b (greatest_of rows ino) ≡ then_some b (greatest_of all ino)
      go false e = refl
      go true e =
          let file = one_passes (is_of_file ino) rows e in
          let tests = both_hold (not (is_directory file.0.kind)) (file.0.ino == ino) file.2 in
          let at = same_number file.0.ino ino tests.1 in
          let regular = kind_of_file file.0.kind tests.0 in
          let among = one_of-left file.0 rows (row ∷ []) file.1 in
          ap (λ size. Some size) (sym (most_other ino (apart (row.ino == ino) refl file.0 among at regular) ∙ same_sizes ino file.0 among at regular))
        where
          apart : (b : Bool) → (row.ino == ino) ≡ b → (file : Row) → IsOneOf file all → file.ino ≡ ino → file.kind ≡ Regular → (row.ino == ino) ≡ false
          apart false t file among at regular = t
          apart true t file among at regular =
              let both = one_kind row file (one_of-right row rows (row ∷ []) (inl refl)) among (same_number row.ino ino t ∙ sym at) in
              absurd (true≢false (ap is_directory (sym kind ∙ both ∙ regular)))

  -- the names after the row came in
  module _ (not_root : row.ino ≢ ROOT) (open_there : map.contains_key taken.directories row.parent ≡ true) where
    no_root : (b : Bool) → (row.ino == ROOT) ≡ b → b ≡ false
    no_root true e = absurd (not_root (same_number row.ino ROOT e))
    no_root false e = refl

    own_names : (ino : ℕ) → names_under (row ∷ []) ino ≡ names_at (row.parent == ino) row.parent row.name
    own_names ino = ap (λ b. map_list (λ (at : ℕ × List ℕ). at.1) (filter (λ (at : ℕ × List ℕ). at.0 == ino) (cond b [] ((row.parent, row.name) ∷ []) ++ []))) (no_root (row.ino == ROOT) refl)

    names_all : (ino : ℕ) → names_under all ino ≡ names_under rows ino ++ names_at (row.parent == ino) row.parent row.name
    names_all ino = names_append ino rows (row ∷ []) ∙ ap (λ l. names_under rows ino ++ l) (own_names ino)

    there : then_some (list_any (λ other. other == row.parent) (directory_inos base)) (names_from (names_under rows row.parent)) ≡ Some (names_from (names_under rows row.parent))
    there = go (list_any (λ other. other == row.parent) (directory_inos base)) (sym (ap is_some (is.directories row.parent)) ∙ open_there)
      where
        go : (b : Bool) → is_some (then_some b (names_from (names_under rows row.parent))) ≡ true → then_some b (names_from (names_under rows row.parent)) ≡ Some (names_from (names_under rows row.parent))
        go true h = refl
        go false h = absurd (true≢false (sym h))

    names_come : (ino : ℕ) → map.get (bound taken.directories row.parent row.name) ino ≡ then_some (list_any (λ other. other == ino) (directory_inos base)) (names_from (names_under all ino))
    names_come ino = get-insert nat_cmp_total taken.directories row.parent (and_name (held_names taken.directories row.parent) row.name) ino ∙ go (eq_by_cmp nat_cmp ino row.parent) refl
      where
        told : (b : Bool) (x y : Names) → then_some b x ≡ Some x → x ≡ y → then_some b x ≡ Some y
        told b x y h e = h ∙ ap (λ z. Some z) e

        some_of : (b : Bool) (x y : Names) → then_some b x ≡ Some x → Some y ≡ then_some b y
        some_of true x y h = refl
        some_of false x y h = absurd (cc)

        here : Some (and_name (held_names taken.directories row.parent) row.name) ≡ then_some (list_any (λ other. other == row.parent) (directory_inos base)) (names_from (names_under all row.parent))
        here =
            ap (λ o. Some (and_name (unwrap_or o map.empty) row.name)) (is.directories row.parent ∙ there)
            ∙ ap (λ names. Some names) (sym (names_push (names_under rows row.parent) row.name) ∙ ap names_from (sym (names_all row.parent ∙ ap (λ b. names_under rows row.parent ++ names_at b row.parent row.name) (is_number row.parent))))
            ∙ some_of (list_any (λ other. other == row.parent) (directory_inos base)) (names_from (names_under rows row.parent)) (names_from (names_under all row.parent)) there

        go : (b : Bool) → eq_by_cmp nat_cmp ino row.parent ≡ b → cond b (Some (and_name (held_names taken.directories row.parent) row.name)) (map.get taken.directories ino) ≡ then_some (list_any (λ other. other == ino) (directory_inos base)) (names_from (names_under all ino))
        go true e = subst (λ i. Some (and_name (held_names taken.directories row.parent) row.name) ≡ then_some (list_any (λ other. other == i) (directory_inos base)) (names_from (names_under all i))) (sym (tied-true ino row.parent e)) here
        go false e =
            is.directories ino
            ∙ ap (λ names. then_some (list_any (λ other. other == ino) (directory_inos base)) (names_from names)) (sym (names_all ino ∙ ap (λ b. names_under rows ino ++ names_at b row.parent row.name) (sym (tells ino row.parent) ∙ e) ∙ append-nil (names_under rows ino)))

    comes : IsTakenOf base all (with_row taken row)
    comes = record { files = by_kind row.kind refl; directories = names_come }
      where
        by_kind : (kind : Kind) → row.kind ≡ kind → (ino : ℕ) → map.get (if is_directory row.kind then taken.files else raised taken.files row.ino (size_of_file row)) ino ≡ then_some (list_any (is_of_file ino) all) (greatest_of all ino)
        by_kind Regular e ino = ap (λ k. map.get (if is_directory k then taken.files else raised taken.files row.ino (size_of_file row)) ino) e ∙ file_comes e ino
        by_kind Directory e ino = ap (λ k. map.get (if is_directory k then taken.files else raised taken.files row.ino (size_of_file row)) ino) e ∙ directory_comes e ino

pub rows_come_in : RowsComeIn
rows_come_in base rows taken row is one_kind not_root open_there = comes base rows taken row is one_kind not_root open_there
