-- The names in a directory, put one after another into a map.
use Rattle.std.proofs.Common.{◌≡◌, ℕ, ◌+◌, ◌<◌, Bool, true, false, cond, ◌||◌, Bor, List, [], ◌∷◌, ◌++◌, length, drop, get_or, map as map_list, add-one, drop-cons, arith, refl, sym, ap, subst, ◌∙◌}
use Rattle.std.specs.Prelude.{T, Option, Some, None, is_some, if◌then◌else◌, ◌==◌}
use Rattle.std.specs.List.{fold, list_any, filter, flat_map}
use Rattle.std.specs.Ordering.{nat_cmp, eq_by_cmp, match_ordering}
use Rattle.std.specs.declared.cmp.Ordering.{Ordering}
use Rattle.std.specs.declared.cmp.Ordering.TheVariants.{Less, Equal, Greater}
use Rattle.std.specs.Cmp.Lexicographic.{slice_cmp, nat_list_cmp_total}
use Rattle.std.specs.BTreeSet.{insert_key}
use Rattle.std.specs.FinMap as map
use Rattle.std.specs.FinMap.{FinMap, entries, entries-insert, get-empty, get-insert, get-from_entries, len-entries, len-empty, same_map, nat_cmp-IsAntisymmetric, slice_cmp-IsAntisymmetric}
use Rattle.std.specs.FinMap.Entries.{put, by_order, is_some-find}
use Rattle.std.specs.FinSet as set
use Rattle.f2_model.specs.Rising.{map_of, rising}
use Rattle.f2_model.specs.Tree.{ROOT, is_in, names_of, names_under, names_in}
use Rattle.f2_model.specs.declared.rows.Row.{Row}
use Rattle.f2_reference_calls.specs.Given.{listed, rows_at}

-- the order of names, and names as the keys of a map
abbrev pub name_cmp : List ℕ → List ℕ → Ordering
name_cmp = slice_cmp nat_cmp

abbrev pub NameMap : Type 0
NameMap = FinMap name_cmp (Unit {0})

abbrev pub with_names : NameMap → List (List ℕ) → NameMap
with_names m names = fold (λ left name. map.insert left name (tt {0})) m names

-- one key more among borrowed keys
abbrev pub names_at : List (Bor (List ℕ)) → List (List ℕ)
names_at names = map_list (λ name. name.now) names

abbrev pub borrowed_cmp : Bor (List ℕ) → Bor (List ℕ) → Ordering
borrowed_cmp a b = slice_cmp nat_cmp a.now b.now

names_at-insert_key : (names : List (Bor (List ℕ))) (name : Bor (List ℕ)) → names_at (insert_key borrowed_cmp names name) ≡ insert_key name_cmp (names_at names) name.now
names_at-insert_key [] name = refl
names_at-insert_key (one ∷ names) name =
    elim (borrowed_cmp name one) as (λ o. names_at (match_ordering o (name ∷ one ∷ names) (one ∷ names) (one ∷ insert_key borrowed_cmp names name)) ≡ match_ordering o (name.now ∷ one.now ∷ names_at names) (one.now ∷ names_at names) (one.now ∷ insert_key name_cmp (names_at names) name.now)) [
      | Less ↦ refl
      | Equal ↦ refl
      | Greater ↦ ap (λ rest. one.now ∷ rest) (names_at-insert_key names name)
    ]

keys-put : (es : List (List ℕ × Unit {0})) (name : List ℕ) → map_list (λ e. e.0) (put name_cmp name (tt {0}) es) ≡ insert_key name_cmp (map_list (λ e. e.0) es) name
keys-put [] name = refl
keys-put (e ∷ es) name =
    elim (name_cmp name e.0) as (λ o. map_list (λ e. e.0) (by_order o ((name, tt {0}) ∷ e ∷ es) ((e.0, tt {0}) ∷ es) (e ∷ put name_cmp name (tt {0}) es)) ≡ match_ordering o (name ∷ e.0 ∷ map_list (λ e. e.0) es) (e.0 ∷ map_list (λ e. e.0) es) (e.0 ∷ insert_key name_cmp (map_list (λ e. e.0) es) name)) [
      | Less ↦ refl
      | Equal ↦ refl
      | Greater ↦ ap (λ rest. e.0 ∷ rest) (keys-put es name)
    ]

-- borrowed keys that are those of a map stay so when one more is put
pub one_name_more : (names : List (Bor (List ℕ))) (m : NameMap) (name : Bor (List ℕ)) → names_at names ≡ map.keys m → names_at (insert_key borrowed_cmp names name) ≡ map.keys (map.insert m name.now (tt {0}))
one_name_more names m name same =
    names_at-insert_key names name
    ∙ ap (λ keys. insert_key name_cmp keys name.now) same
    ∙ sym (ap (map_list (λ e. e.0)) (entries-insert nat_list_cmp_total m name.now (tt {0})) ∙ keys-put (entries m) name.now)

-- the names of a row and of rows behind it
pub names_under-row : (row : Row) (rows : List Row) (directory : ℕ) → names_under (row ∷ rows) directory ≡ (if is_in directory row then row.name ∷ names_under rows directory else names_under rows directory)
names_under-row row rows directory = by_root (row.ino == ROOT)
  where
    by_there : (there : Bool) → map_list (λ at. at.1) (cond there ((row.parent, row.name) ∷ filter (λ (at : ℕ × List ℕ). at.0 == directory) (flat_map names_of rows)) (filter (λ (at : ℕ × List ℕ). at.0 == directory) (flat_map names_of rows))) ≡ (if (there || false) then row.name ∷ names_under rows directory else names_under rows directory)
    by_there true = refl
    by_there false = refl

    by_root : (root : Bool) → map_list (λ at. at.1) (filter (λ (at : ℕ × List ℕ). at.0 == directory) ((if root then [] else ((row.parent, row.name) ∷ [])) ++ flat_map names_of rows)) ≡ (if list_any (λ (at : ℕ × List ℕ). at.0 == directory) (if root then [] else ((row.parent, row.name) ∷ [])) then row.name ∷ names_under rows directory else names_under rows directory)
    by_root true = refl
    by_root false = by_there (row.parent == directory)

-- a name is among those put into a map
or_false : (a : Bool) → a ≡ (a || false)
or_false true = refl
or_false false = refl

some_or : (b : Bool) (x : Option (Unit {0})) (rest : Bool) → (is_some (cond b (Some (tt {0})) x) || rest) ≡ (is_some x || (b || rest))
some_or true None rest = refl
some_or true (Some u) rest = refl
some_or false None rest = refl
some_or false (Some u) rest = refl

contains-with_names : (m : NameMap) (names : List (List ℕ)) (q : List ℕ) → is_some (map.get (with_names m names) q) ≡ (is_some (map.get m q) || list_any (eq_by_cmp name_cmp q) names)
contains-with_names m [] q = or_false _
contains-with_names m (name ∷ names) q =
    contains-with_names (map.insert m name (tt {0})) names q
    ∙ ap (λ o. is_some o || list_any (eq_by_cmp name_cmp q) names) (get-insert nat_list_cmp_total m name (tt {0}) q)
    ∙ some_or (eq_by_cmp name_cmp q name) (map.get m q) _

-- names as entries
abbrev paired : List (List ℕ) → List (List ℕ × Unit {0})
paired names = map_list (λ name. (name, tt {0})) names

keys-paired : (names : List (List ℕ)) → map_list (λ e. e.0) (paired names) ≡ names
keys-paired [] = refl
keys-paired (name ∷ names) = ap (λ rest. name ∷ rest) (keys-paired names)

same_marks : (x y : Option (Unit {0})) → is_some x ≡ is_some y → x ≡ y
same_marks None None e = refl
same_marks None (Some u) e = absurd (subst (λ b. T b) (sym e) tt)
same_marks (Some u) None e = absurd (subst (λ b. T b) e tt)
same_marks (Some u) (Some v) e = refl

-- the names put into a map are the names in a directory, rising
pub listed-rising : (rows : List Row) (directory : ℕ) → listed rows directory ≡ rising (names_in rows directory)
listed-rising rows directory =
    let names = names_under rows directory in
    let members = names_in rows directory in
    let items = set.items members in
    let there : (q : List ℕ) → is_some (map.get (with_names map.empty names) q) ≡ list_any (eq_by_cmp name_cmp q) names =
    λ q. contains-with_names map.empty names q ∙ ap (λ o. is_some o || list_any (eq_by_cmp name_cmp q) names) (get-empty name_cmp q) in
    let told : (q : List ℕ) → is_some (map.get (map_of members) q) ≡ list_any (eq_by_cmp name_cmp q) names =
    λ q. ap is_some (get-from_entries nat_list_cmp_total (paired items) q)
    ∙ is_some-find name_cmp q (paired items)
    ∙ ap (list_any (eq_by_cmp name_cmp q)) (keys-paired items)
    ∙ sym (set.contains-items members q)
    ∙ set.contains-from_list nat_list_cmp_total names q in
    let same : with_names map.empty names ≡ map_of members =
    same_map nat_list_cmp_total (slice_cmp-IsAntisymmetric nat_cmp-IsAntisymmetric) _ _ (λ q. same_marks _ _ (there q ∙ sym (told q))) in
    ap map.keys same

nothing : {A : Type 0} (es : List A) → length es ≡ 0 → [] ≡ es
nothing [] e = refl
nothing (x ∷ es) e = absurd (omega arith)

-- no name yet
pub no_names : [] ≡ map.keys (map.empty {X = Unit {0}} {R = name_cmp})
no_names = ap (map_list (λ e. e.0)) (nothing (entries (map.empty {X = Unit {0}} {R = name_cmp})) (sym (len-entries _) ∙ len-empty name_cmp (Unit {0})))

-- the rows that are left, the first of them before the others
pub next_row : (m : NameMap) (rows : List (Bor Row)) (i : ℕ) (row : Bor Row) (directory : ℕ) → i < length rows → row ≡ get_or rows i row →
    with_names m (names_under (rows_at (drop i rows)) directory) ≡ with_names (if is_in directory row.now then map.insert m row.now.name (tt {0}) else m) (names_under (rows_at (drop (i + 1) rows)) directory)
next_row m rows i row directory below is =
    let behind = drop (i + 1) rows in
    let parted : drop i rows ≡ row ∷ behind = (rw (add-one, drop-cons rows i row) refl) ∙ ap (λ one. one ∷ behind) (sym is) in
    ap (λ left. with_names m (names_under (rows_at left) directory)) parted
    ∙ ap (with_names m) (names_under-row row.now (rows_at behind) directory)
    ∙ by_test (is_in directory row.now)
  where
    by_test : (b : Bool) → with_names m (if b then row.now.name ∷ names_under (rows_at (drop (i + 1) rows)) directory else names_under (rows_at (drop (i + 1) rows)) directory) ≡ with_names (if b then map.insert m row.now.name (tt {0}) else m) (names_under (rows_at (drop (i + 1) rows)) directory)
    by_test true = refl
    by_test false = refl
