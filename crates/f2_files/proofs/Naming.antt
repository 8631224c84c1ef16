-- The names in a directory, in their order.
use Rattle.std.proofs.Common.{◌≡◌, ℕ, Bool, true, false, cond, ◌&&◌, ◌||◌, ◌==◌, List, [], ◌∷◌, ◌++◌, refl, sym, ap, ◌∙◌}
use Rattle.std.specs.Prelude.{Option, Some, None, T, is_some, if◌then◌else◌, map as list_map}
use Rattle.std.specs.List.{AllByRecursion, filter, find, flat_map, list_any}
use Rattle.std.specs.List.Sorted.{IsStrictlySortedBy}
use Rattle.std.specs.Ordering.{nat_cmp, eq_by_cmp, is_eq, is_lt}
use Rattle.std.specs.declared.cmp.Ordering.{Ordering}
use Rattle.std.specs.declared.cmp.Ordering.TheVariants.{Less, Equal, Greater}
use Rattle.std.specs.Cmp.{Equal-is, tied_itself}
use Rattle.std.specs.Cmp.Lexicographic.{slice_cmp, nat_list_cmp_total, same_text}
use Rattle.std.specs.FinMap as map
use Rattle.std.specs.FinMap.{nat_cmp-IsAntisymmetric, slice_cmp-IsAntisymmetric, is_sorted}
use Rattle.std.specs.FinMap.Entries.{below_all}
use Rattle.std.specs.FinSet as set
use Rattle.f2_dir.specs.Entries.{Entries}
use Rattle.f2_model.proofs.RisingLemmas.{rising-is}
use Rattle.f2_model.specs.Names.{same_name}
use Rattle.f2_model.specs.Rising.{rising}
use Rattle.f2_model.specs.Tree.{Rows, ROOT, child, names_of, names_under, names_in, stands_at}
use Rattle.f2_model.specs.declared.rows.Row.{Row}
use Rattle.f2_laws.proofs.Names.{same_name-refl}
use Rattle.f2_files.specs.Led.{Dirs, among, BindsNames}
use Rattle.f2_files.specs.Shape.{Shapes, IsShapeOf}
use Rattle.f2_files.proofs.Leads.{IsRooted, child_bound, place_of}

first : (a b : Bool) → T (a && b) → T a
first true b h = tt
first false b h = absurd h

second : (a b : Bool) → T (a && b) → T b
second true b h = h
second false b h = absurd h

less : (o : Ordering) → T (is_lt o) → o ≡ Less
less Less h = refl
less Equal h = absurd h
less Greater h = absurd h

module _ {K X : Type 0} (R : K → K → Ordering) where
  keys_below : (x : K) (es : List (K × X)) → T (below_all R x es) → AllByRecursion (λ y. R x y ≡ Less) (list_map (λ (e : K × X). e.0) es)
  keys_below x [] h = tt
  keys_below x (e ∷ es) h = (less _ (first _ _ h), keys_below x es (second _ _ h))

  pub keys_sorted : (es : List (K × X)) → T (is_sorted R es) → IsStrictlySortedBy R (list_map (λ (e : K × X). e.0) es)
  unfolding IsStrictlySortedBy
  keys_sorted [] h = tt
  keys_sorted (e ∷ es) h = (keys_below e.0 es (first _ _ h), keys_sorted es (second _ _ h))

abbrev is_name : List ℕ → List ℕ → Bool
is_name = eq_by_cmp (slice_cmp nat_cmp)

name_eq : (p q : List ℕ) → is_name q p ≡ same_name p q
name_eq p q = by_cmp (is_name q p) refl (same_name p q) refl
  where
    by_cmp : (a : Bool) → is_name q p ≡ a → (b : Bool) → same_name p q ≡ b → a ≡ b
    by_cmp true h true g = refl
    by_cmp false h false g = refl
    by_cmp true h false g =
        let same : q ≡ p = slice_cmp-IsAntisymmetric nat_cmp-IsAntisymmetric q p ((Equal-is (slice_cmp nat_cmp q p)).0 h) in
        sym (same_name-refl p) ∙ ap (same_name p) (sym same) ∙ g
    by_cmp false h true g =
        let same : p ≡ q = same_text p q (sym g) in
        sym h ∙ ap (is_name q) same ∙ ap is_eq (tied_itself nat_list_cmp_total q)

-- a name is one of a directory exactly where a row stands under it there
under_any : (rows : List Row) (directory : ℕ) (q : List ℕ) → list_any (is_name q) (names_under rows directory) ≡ list_any (stands_at directory q) rows
under_any [] directory q = refl
under_any (row ∷ rows) directory q = by_root (under_any rows directory q) (row.ino == ROOT)
  where
    by_parent : (b : Bool) → list_any (is_name q) (list_map (λ (at : ℕ × List ℕ). at.1) (cond b ((row.parent, row.name) ∷ filter (λ (at : ℕ × List ℕ). at.0 == directory) (flat_map names_of rows)) (filter (λ (at : ℕ × List ℕ). at.0 == directory) (flat_map names_of rows))))
        ≡ (((b && is_name q row.name) || false) || list_any (is_name q) (names_under rows directory))
    by_parent true = either (is_name q row.name) (list_any (is_name q) (names_under rows directory))
      where
        either : (a c : Bool) → (a || c) ≡ ((a || false) || c)
        either true c = refl
        either false c = refl
    by_parent false = refl

    by_root : list_any (is_name q) (names_under rows directory) ≡ list_any (stands_at directory q) rows → (b : Bool)
        → list_any (is_name q) (list_map (λ (at : ℕ × List ℕ). at.1) (filter (λ (at : ℕ × List ℕ). at.0 == directory) ((if b then [] else ((row.parent, row.name) ∷ [])) ++ flat_map names_of rows)))
        ≡ (list_any (λ (at : ℕ × List ℕ). at.0 == directory && same_name at.1 q) (if b then [] else ((row.parent, row.name) ∷ [])) || list_any (stands_at directory q) rows)
    by_root rest true = rest
    by_root rest false =
        by_parent (row.parent == directory)
        ∙ ap (λ b. ((row.parent == directory && b) || false) || list_any (is_name q) (names_under rows directory)) (name_eq row.name q)
        ∙ ap (λ b. ((row.parent == directory && same_name row.name q) || false) || b) rest

any_found : (p : Row → Bool) (rows : List Row) → list_any p rows ≡ is_some (find p rows)
any_found p [] = refl
any_found p (row ∷ rows) = by_test (p row) (any_found p rows)
  where
    by_test : (b : Bool) → list_any p rows ≡ is_some (find p rows) → (b || list_any p rows) ≡ is_some (cond b (Some row) (find p rows))
    by_test true rest = refl
    by_test false rest = rest

placed : (o : Option Row) → is_some o ≡ is_some (place_of o)
placed None = refl
placed (Some row) = refl

module _ (tree : Rows) (rooted : IsRooted tree) (shapes : Shapes) (are : IsShapeOf shapes tree) (dirs : Dirs) (binds : BindsNames shapes dirs) where
  -- the names that are bound in a directory are those of the rows in it, in their order
  pub names_same : (directory : ℕ) (names : Entries) → map.get dirs directory ≡ Some names → map.keys names ≡ rising (names_in (map.values tree) directory)
  names_same directory names there = sym (rising-is nat_list_cmp_total (slice_cmp-IsAntisymmetric nat_cmp-IsAntisymmetric) (names_in (map.values tree) directory) (map.keys names) (keys_sorted (slice_cmp nat_cmp) (map.entries names) (map.entries_sorted names)) (λ q.
      set.contains-from_list nat_list_cmp_total (names_under (map.values tree) directory) q
      ∙ under_any (map.values tree) directory q
      ∙ any_found (stands_at directory q) (map.values tree)
      ∙ placed (child tree directory q)
      ∙ ap (λ o. is_some o) (sym (child_bound tree rooted shapes are dirs binds directory q))
      ∙ ap (λ o. is_some (among q o)) there
      ∙ map.contains_key-keys names q))
