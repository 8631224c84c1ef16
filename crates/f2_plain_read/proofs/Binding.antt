-- The names of files while the directories of a tree are read.
use Rattle.std.proofs.Common.{◌≡◌, ◌≢◌, ℕ, ◌+◌, ◌<◌, ◌≤◌, ◌==◌, Bool, true, false, ◌||◌, List, [], ◌∷◌, refl, sym, ap, ◌∙◌, arith, inl, inr, eq-eqb}
use Rattle.std.specs.Prelude.{Option, Some, None, ◌⊎◌, nat_lt, if◌then◌else◌}
use Rattle.std.specs.List.{AllByRecursion, list_any}
use Rattle.std.specs.FinMap as map
use Rattle.std.proofs.lemmas.Bool.{eqb-true, ne_eqb, lt-ltb, le-ltb, cases_lt}
use Rattle.f2_format.specs.Dentry.{Dentry}
use Rattle.f2_format.specs.Geometry.{ImageGeometry, IsGeometry}
use Rattle.f2_laid.specs.Laid.{IsStorable, IsBound, AreDentries}
use Rattle.f2_laws.proofs.Maps.{get_put, get_put-other}
use Rattle.f2_laws.proofs.Places.{same_or_other}
use Rattle.f2_model.specs.Tree.{Rows, ROOT}
use Rattle.f2_model.specs.declared.rows.Row.{Row}
use Rattle.f2_plain_read.specs.Bindings.{NameMap, with_name, with_names, AreFresh}
use Rattle.f2_plain_read.specs.Building.{bound_of, bound_below}
use Rattle.f2_plain_read.specs.declared.names.Bound.{Bound}
use Rattle.f2_plain_read.proofs.Listing.{AreApart, bound, apart, has_dentry}
use Rattle.f2_plain_read.proofs.Standing.{one_some, some_none}

abbrev bind : ℕ → List ℕ → Bound
bind directory name = record { parent = directory; name = name }

-- what a name has become once those of a directory were bound
with_names-get : (directory q : ℕ) (name : List ℕ) (names : NameMap) (ds : List Dentry) → AllByRecursion (λ (d : Dentry). d.ino ≡ q → d.name ≡ name) ds
    → map.get (with_names directory names ds) q ≡ (if list_any (λ (d : Dentry). d.ino == q) ds then Some (bind directory name) else map.get names q)
with_names-get directory q name names [] all = refl
with_names-get directory q name names (d ∷ ds) all = by_ino (same_or_other d.ino q) (with_names-get directory q name (with_name directory names d) ds all.1)
  where
    by_later : (b : Bool) → map.get (with_name directory names d) q ≡ Some (bind directory name) → (if b then Some (bind directory name) else map.get (with_name directory names d) q) ≡ Some (bind directory name)
    by_later true e = refl
    by_later false e = e

    by_ino : (d.ino ≡ q) ⊎ (d.ino ≢ q)
        → map.get (with_names directory (with_name directory names d) ds) q ≡ (if list_any (λ (e : Dentry). e.ino == q) ds then Some (bind directory name) else map.get (with_name directory names d) q)
        → map.get (with_names directory (with_name directory names d) ds) q ≡ (if (d.ino == q) || list_any (λ (e : Dentry). e.ino == q) ds then Some (bind directory name) else map.get names q)
    by_ino (inl same) rest =
        let here : map.get (with_name directory names d) q ≡ Some (bind directory name) =
        ap (map.get (with_name directory names d)) (sym same) ∙ get_put names d.ino (bind directory d.name) ∙ ap (λ (n : List ℕ). Some (bind directory n)) (all.0 same) in
        rest ∙ by_later (list_any (λ (e : Dentry). e.ino == q) ds) here
        ∙ sym (ap (λ (b : Bool). if b || list_any (λ (e : Dentry). e.ino == q) ds then Some (bind directory name) else map.get names q) (eq-eqb d.ino q same))
    by_ino (inr other) rest =
        rest ∙ ap (λ (o : Option Bound). if list_any (λ (e : Dentry). e.ino == q) ds then Some (bind directory name) else o) (get_put-other names d.ino (bind directory d.name) q (λ e. other (sym e)))
        ∙ sym (ap (λ (b : Bool). if b || list_any (λ (e : Dentry). e.ino == q) ds then Some (bind directory name) else map.get names q) (ne_eqb d.ino q other))

fresh_all : (directory : ℕ) (names : NameMap) (ds : List Dentry) → AllByRecursion (λ (d : Dentry). map.get names d.ino ≡ None) ds → AreApart ds → AreFresh directory names ds
fresh_all directory names [] none others = tt
fresh_all directory names (d ∷ ds) none others = (none.0, fresh_all directory (with_name directory names d) ds (still ds none.1 others.0) others.1)
  where
    still : (rest : List Dentry) → AllByRecursion (λ (e : Dentry). map.get names e.ino ≡ None) rest → AllByRecursion (λ (other : Dentry). other.ino ≢ d.ino) rest
        → AllByRecursion (λ (e : Dentry). map.get (with_name directory names d) e.ino ≡ None) rest
    still [] all other = tt
    still (e ∷ rest) all other = (get_put-other names d.ino (bind directory d.name) e.ino other.0 ∙ all.0, still rest all.1 other.1)

each_weaker : {X : Type 0} (P Q : X → Type 0) → ((x : X) → P x → Q x) → (xs : List X) → AllByRecursion P xs → AllByRecursion Q xs
each_weaker P Q weaker [] all = tt
each_weaker P Q weaker (x ∷ xs) all = (weaker x all.0, each_weaker P Q weaker xs all.1)

-- where one that is found has a property, and all have another
found_has : {X : Type 0} (p : X → Bool) (P : X → Type 0) (xs : List X) → list_any p xs ≡ true → AllByRecursion P xs → (x : X) × (p x ≡ true) × P x
found_has {X} p P [] h all = absurd (false_true h)
  where
    false_true : false ≡ true → ⊥
    false_true e = cc
found_has {X} p P (x ∷ xs) h all = by_test (λ left. found_has p P xs left all.1) (p x) refl h
  where
    by_test : (list_any p xs ≡ true → (x : X) × (p x ≡ true) × P x) → (b : Bool) → p x ≡ b → (b || list_any p xs) ≡ true → (x : X) × (p x ≡ true) × P x
    by_test rest true t h = (x, t, all.0)
    by_test rest false t h = rest h

-- a directory that isn't a row's parent doesn't tell its name
bound-other : (limit : ℕ) (row : Row) → row.parent ≢ limit → bound_below limit (Some row) ≡ bound_below (limit + 1) (Some row)
bound-other limit row other = by_place (cases_lt row.parent limit)
  where
    by_place : (row.parent < limit) ⊎ (limit ≤ row.parent) → bound_below limit (Some row) ≡ bound_below (limit + 1) (Some row)
    by_place (inl low) = ap (λ (b : Bool). if b then bound_of row else None) (lt-ltb row.parent limit low ∙ sym (lt-ltb row.parent (limit + 1) (omega arith)))
    by_place (inr high) = ap (λ (b : Bool). if b then bound_of row else None) (le-ltb row.parent limit high ∙ sym (le-ltb row.parent (limit + 1) (omega arith)))

bound-root : (limit : ℕ) (row : Row) → row.ino ≡ ROOT → bound_below limit (Some row) ≡ None
bound-root limit row root = ap (λ (o : Option Bound). if nat_lt row.parent limit then o else None) (ap (λ (b : Bool). if b then None else Some (bind row.parent row.name)) (eq-eqb row.ino ROOT root)) ∙ both (nat_lt row.parent limit)
  where
    none : Option Bound
    none = None

    both : (b : Bool) → (if b then none else none) ≡ None
    both true = refl
    both false = refl

bound-there : (limit : ℕ) (row : Row) → row.ino ≢ ROOT → row.parent < limit → bound_below limit (Some row) ≡ Some (bind row.parent row.name)
bound-there limit row other low = ap (λ (b : Bool). if b then bound_of row else None) (lt-ltb row.parent limit low) ∙ ap (λ (b : Bool). if b then None else Some (bind row.parent row.name)) (ne_eqb row.ino ROOT other)

bound-later : (limit : ℕ) (row : Row) → limit ≤ row.parent → bound_below limit (Some row) ≡ None
bound-later limit row high = ap (λ (b : Bool). if b then bound_of row else None) (le-ltb row.parent limit high)

module _ (tree : Rows) (ino : ℕ) where
  -- where no directory has this ino
  pub names_same : ((q : ℕ) (row : Row) → map.get tree q ≡ Some row → row.parent ≢ ino) → (q : ℕ) → bound_below ino (map.get tree q) ≡ bound_below (ino + 1) (map.get tree q)
  names_same none q = by_row (map.get tree q) refl
    where
      by_row : (o : Option Row) → map.get tree q ≡ o → bound_below ino o ≡ bound_below (ino + 1) o
      by_row None e = refl
      by_row (Some row) e = bound-other ino row (none q row e)

module _ (geom : ImageGeometry) (geometry : IsGeometry geom) (tree : Rows) (storable : IsStorable geom tree) (ino : ℕ) (dentries : List Dentry) (are : AreDentries tree ino dentries) (names : NameMap)
    (told : (q : ℕ) → map.get names q ≡ bound_below ino (map.get tree q)) where
  pub names_fresh : AreFresh ino names dentries
  names_fresh = fresh_all ino names dentries (each_weaker (IsBound tree ino) (λ (d : Dentry). map.get names d.ino ≡ None) none dentries (bound geom geometry tree storable ino dentries are)) (apart geom geometry tree storable ino dentries are)
    where
      none : (d : Dentry) → IsBound tree ino d → map.get names d.ino ≡ None
      none d b = told d.ino ∙ ap (bound_below ino) b.there ∙ bound-later ino b.row (omega (arith, b.parent))

  pub names_next : (q : ℕ) → map.get (with_names ino names dentries) q ≡ bound_below (ino + 1) (map.get tree q)
  names_next q = by_row (map.get tree q) refl
    where
      all : AllByRecursion (IsBound tree ino) dentries
      all = bound geom geometry tree storable ino dentries are

      any_here : Bool
      any_here = list_any (λ (d : Dentry). d.ino == q) dentries

      found : any_here ≡ true → (d : Dentry) × ((d.ino == q) ≡ true) × IsBound tree ino d
      found t = found_has (λ (d : Dentry). d.ino == q) (IsBound tree ino) dentries t all

      same_row : (row : Row) → map.get tree q ≡ Some row → (d : Dentry) (b : IsBound tree ino d) → d.ino ≡ q → b.row ≡ row
      same_row row e d b same = one_some b.row row (sym b.there ∙ ap (map.get tree) same ∙ e)

      by_row : (o : Option Row) → map.get tree q ≡ o → map.get (with_names ino names dentries) q ≡ bound_below (ino + 1) o
      by_row None e =
          with_names-get ino q [] names dentries (each_weaker (IsBound tree ino) (λ (d : Dentry). d.ino ≡ q → d.name ≡ []) no_row dentries all)
          ∙ by_any (list_any (λ (d : Dentry). d.ino == q) dentries) refl
        where
          no_row : (d : Dentry) → IsBound tree ino d → d.ino ≡ q → d.name ≡ []
          no_row d b same = absurd (some_none b.row (sym b.there ∙ ap (map.get tree) same ∙ e))

          by_any : (t : Bool) → list_any (λ (d : Dentry). d.ino == q) dentries ≡ t → (if t then Some (bind ino []) else map.get names q) ≡ None
          by_any true t = let d = found t in absurd (some_none d.2.row (sym d.2.there ∙ ap (map.get tree) (eqb-true d.0.ino q d.1) ∙ e))
          by_any false t = told q ∙ ap (bound_below ino) e
      by_row (Some row) e =
          with_names-get ino q row.name names dentries (each_weaker (IsBound tree ino) (λ (d : Dentry). d.ino ≡ q → d.name ≡ row.name) named dentries all)
          ∙ by_any (list_any (λ (d : Dentry). d.ino == q) dentries) refl
        where
          named : (d : Dentry) → IsBound tree ino d → d.ino ≡ q → d.name ≡ row.name
          named d b same = sym b.named ∙ ap (λ (r : Row). r.name) (same_row row e d b same)

          missed : list_any (λ (d : Dentry). d.ino == q) dentries ≡ false → (row.parent ≡ ino) ⊎ (row.parent ≢ ino) → (q ≡ ROOT) ⊎ (q ≢ ROOT) → bound_below ino (Some row) ≡ bound_below (ino + 1) (Some row)
          missed t (inr other) root = bound-other ino row other
          missed t (inl up) (inl root) = let own : row.ino ≡ ROOT = storable.good.keyed q row e ∙ root in bound-root ino row own ∙ sym (bound-root (ino + 1) row own)
          missed t (inl up) (inr other) = absurd (true_false (sym (has_dentry geom geometry tree storable ino dentries are q row e other up) ∙ t))
            where
              true_false : true ≡ false → ⊥
              true_false h = cc

          by_any : (t : Bool) → list_any (λ (d : Dentry). d.ino == q) dentries ≡ t → (if t then Some (bind ino row.name) else map.get names q) ≡ bound_below (ino + 1) (Some row)
          by_any true t =
              let d = found t in
              let same : d.0.ino ≡ q = eqb-true d.0.ino q d.1 in
              let up : row.parent ≡ ino = ap (λ (r : Row). r.parent) (sym (same_row row e d.0 d.2 same)) ∙ d.2.parent in
              let other : row.ino ≢ ROOT = λ root. d.2.below (same ∙ sym (storable.good.keyed q row e) ∙ root) in
              ap (λ (n : ℕ). Some (bind n row.name)) (sym up) ∙ sym (bound-there (ino + 1) row other (omega (arith, up)))
          by_any false t = told q ∙ ap (bound_below ino) e ∙ missed t (same_or_other row.parent ino) (same_or_other q ROOT)
