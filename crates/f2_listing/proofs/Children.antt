-- The rows of a directory, in the order of their names, and the names that are known of it.
use Rattle.std.proofs.Common.{◌≡◌, ◌≢◌, inl, inr, ℕ, ◌==◌, Bool, true, false, cond, ◌||◌, List, [], ◌∷◌, refl, sym, ap, subst, ◌∙◌, Some, None, is_some, true≢false, eqb-true, eq-eqb, ne_eqb}
use Rattle.std.specs.Prelude.{T, Option}
use Rattle.std.specs.Option.{option_map}
use Rattle.std.specs.List.{AllByRecursion, fold, filter, list_any}
use Rattle.std.specs.Ordering.{nat_cmp, eq_by_cmp, is_eq}
use Rattle.std.specs.Cmp.{nat_cmp_total, tied_itself, Equal-is}
use Rattle.std.specs.Cmp.Lexicographic.{slice_cmp, nat_list_cmp_total}
use Rattle.std.specs.FinMap as map
use Rattle.std.specs.FinMap.{nat_cmp-IsAntisymmetric, slice_cmp-IsAntisymmetric}
use Rattle.std.specs.FinMap.Entries.{same_entries}
use Rattle.f2_dir.specs.Entries.{Entries}
use Rattle.f2_model.specs.Tree.{Rows, ROOT, is_in}
use Rattle.f2_model.specs.declared.rows.Row.{Row}
use Rattle.f2_model.specs.declared.rows.Kind.{Kind}
use Rattle.f2_found.specs.Found.{AreNamesIn}
use Rattle.f2_script.specs.Trees.{rows_in}
use Rattle.f2_listing.proofs.Entries.{IsIn, some_same, each_entry, seen, find-seen, sorted-seen, value_in, each_passing}

-- rows by their names
abbrev pub Named : Type 0
Named = map.FinMap (slice_cmp nat_cmp) Row

abbrev pub with_rows : Named → List Row → Named
with_rows named rows = fold (λ rows row. map.insert rows row.name row) named rows

-- what a directory binds a row's name to
abbrev pub place_of : Row → ℕ × Kind
place_of row = (row.ino, row.kind)

same_name : (p q : List ℕ) → eq_by_cmp (slice_cmp nat_cmp) p q ≡ true → p ≡ q
same_name p q tied = slice_cmp-IsAntisymmetric nat_cmp-IsAntisymmetric p q ((Equal-is (slice_cmp nat_cmp p q)).0 tied)

-- a row that stands in a directory is another than the root, and its parent is the directory
one_or : (b : Bool) → (b || false) ≡ true → b ≡ true
one_or true h = refl
one_or false h = h

in_parts : (directory : ℕ) (row : Row) → is_in directory row ≡ true → (row.ino ≢ ROOT) × (row.parent ≡ directory)
in_parts directory row is =
    (elim (row.ino == ROOT) as (λ b. (row.ino == ROOT) ≡ b → list_any (λ (at : ℕ × List ℕ). at.0 == directory) (cond b [] ((row.parent, row.name) ∷ [])) ≡ true → (row.ino ≢ ROOT) × (row.parent ≡ directory)) [
      | true ↦ λ root h. absurd (true≢false (sym h))
      | false ↦ λ other h. ((λ root. true≢false (sym (eq-eqb row.ino ROOT root) ∙ other)), eqb-true row.parent directory (one_or (row.parent == directory) h))
    ]) refl is

in_whole : (directory : ℕ) (row : Row) → row.ino ≢ ROOT → row.parent ≡ directory → is_in directory row ≡ true
in_whole directory row other parent =
    ap (λ b. list_any (λ (at : ℕ × List ℕ). at.0 == directory) (cond b [] ((row.parent, row.name) ∷ []))) (ne_eqb row.ino ROOT other)
    ∙ ap (λ b. b || false) (eq-eqb row.parent directory parent)

-- a row of the tree that is bound under a name
pub record IsChild (tree : Rows) (names : Entries) (name : List ℕ) (row : Row) : Type 0 where
  pub bound : map.get names name ≡ Some (place_of row)
  pub named : row.name ≡ name
  pub there : map.get tree row.ino ≡ Some row

module _ (tree : Rows) (directory : ℕ) (names : Entries) (are : AreNamesIn tree directory names) (own : (ino : ℕ) (row : Row) → map.get tree ino ≡ Some row → row.ino ≡ ino) where
  -- each row that stands in the directory is one
  children : AllByRecursion (λ row. IsChild tree names row.name row) (filter (is_in directory) (map.values tree))
  children = each_passing (is_in directory) (λ row. IsChild tree names row.name row) (map.entries tree)
      (each_entry nat_cmp nat_cmp_total (λ e. is_in directory e.1 ≡ true → IsChild tree names e.1.name e.1) tree (λ ino row there is.
      let parts = in_parts directory row is in
      let keyed = own ino row there in
      record {
        bound = are.all ino row there (λ root. parts.0 (keyed ∙ root)) parts.1 ∙ ap (λ i. Some (i, row.kind)) (sym keyed);
        named = refl;
        there = ap (map.get tree) keyed ∙ there;
      }))

  -- what is found among rows by their names
  found_child : (rows : List Row) (named : Named) → AllByRecursion (λ row. IsChild tree names row.name row) rows → ((q : List ℕ) (row : Row) → map.get named q ≡ Some row → IsChild tree names q row)
      → (q : List ℕ) (row : Row) → map.get (with_rows named rows) q ≡ Some row → IsChild tree names q row
  found_child [] named all before = before
  found_child (x ∷ rows) named all before = found_child rows (map.insert named x.name x) all.1 (λ q row found.
      (elim (eq_by_cmp (slice_cmp nat_cmp) q x.name) as (λ b. eq_by_cmp (slice_cmp nat_cmp) q x.name ≡ b → cond b (Some x) (map.get named q) ≡ Some row → IsChild tree names q row) [
        | true ↦ λ tied is. subst (λ r. IsChild tree names q r) (some_same x row is) (subst (λ n. IsChild tree names n x) (sym (same_name q x.name tied)) all.0)
        | false ↦ λ tied is. before q row is
      ]) refl (sym (map.get-insert nat_list_cmp_total named x.name x q) ∙ found))

  -- what was there stays there under some row
  kept : (rows : List Row) (named : Named) (q : List ℕ) → is_some (map.get named q) ≡ true → is_some (map.get (with_rows named rows) q) ≡ true
  kept [] named q some = some
  kept (x ∷ rows) named q some = kept rows (map.insert named x.name x) q
      (ap is_some (map.get-insert nat_list_cmp_total named x.name x q)
      ∙ elim (eq_by_cmp (slice_cmp nat_cmp) q x.name) as (λ b. is_some (cond b (Some x) (map.get named q)) ≡ true) [ true ↦ refl | false ↦ some ])

  -- a row that was put is found
  put_found : (rows : List Row) (named : Named) (row : Row) → IsIn row rows → is_some (map.get (with_rows named rows) row.name) ≡ true
  put_found [] named row there = absurd there
  put_found (x ∷ rows) named row (inl same) = kept rows (map.insert named x.name x) row.name
      (ap is_some (map.get-insert nat_list_cmp_total named x.name x row.name)
      ∙ ap (λ n. is_some (cond (eq_by_cmp (slice_cmp nat_cmp) row.name n) (Some x) (map.get named row.name))) (sym (ap (λ (r : Row). r.name) same))
      ∙ ap (λ o. is_some (cond (is_eq o) (Some x) (map.get named row.name))) (tied_itself nat_list_cmp_total row.name))
  put_found (x ∷ rows) named row (inr there) = put_found rows (map.insert named x.name x) row there

  -- the rows of the directory
  child_at : (q : List ℕ) (row : Row) → map.get (rows_in tree directory) q ≡ Some row → IsChild tree names q row
  child_at = found_child (filter (is_in directory) (map.values tree)) map.empty children (λ q row found. absurd (none_some row (sym (map.get-empty (slice_cmp nat_cmp) q) ∙ found)))
    where
      none_some : (row : Row) → None ≡ Some row → ⊥
      none_some row e = cc

  no_child : (q : List ℕ) → map.get (rows_in tree directory) q ≡ None → (o : Option (ℕ × Kind)) → map.get names q ≡ o → o ≡ None
  no_child q none None is = refl
  no_child q none (Some place) is =
      let under = are.only q place.0 place.1 is in
      let keyed = own place.0 under.row under.there in
      let here = value_in nat_cmp (is_in directory) place.0 under.row tree under.there (in_whole directory under.row (λ root. under.other (sym keyed ∙ root)) under.parent) in
      let found = put_found (filter (is_in directory) (map.values tree)) map.empty under.row here in
      absurd (true≢false (sym found ∙ ap (λ n. is_some (map.get (rows_in tree directory) n)) under.named ∙ ap is_some none))

  -- a name is bound to the place of the row that stands under it
  bound_as : (q : List ℕ) → map.get names q ≡ option_map place_of (map.get (rows_in tree directory) q)
  bound_as q =
      (elim (map.get (rows_in tree directory) q) as (λ o. map.get (rows_in tree directory) q ≡ o → map.get names q ≡ option_map place_of o) [
        | None ↦ λ none. no_child q none (map.get names q) refl
        | Some row ↦ λ some. (child_at q row some).bound
      ]) refl

  pub entries_as : map.entries names ≡ seen (slice_cmp nat_cmp) nat_list_cmp_total place_of (map.entries (rows_in tree directory))
  entries_as =
      let es = map.entries (rows_in tree directory) in
      let cmp = slice_cmp nat_cmp in
      same_entries cmp nat_list_cmp_total (slice_cmp-IsAntisymmetric nat_cmp-IsAntisymmetric) (map.entries names) (seen cmp nat_list_cmp_total place_of es) (map.entries_sorted names)
      (subst T (sym (sorted-seen cmp nat_list_cmp_total place_of es)) (map.entries_sorted (rows_in tree directory)))
      (λ q. sym (map.get-entries names q) ∙ bound_as q ∙ ap (option_map place_of) (map.get-entries (rows_in tree directory) q) ∙ sym (find-seen cmp nat_list_cmp_total place_of q es))

  pub named_entries : AllByRecursion (λ e. IsChild tree names e.0 e.1) (map.entries (rows_in tree directory))
  named_entries = each_entry (slice_cmp nat_cmp) nat_list_cmp_total (λ e. IsChild tree names e.0 e.1) (rows_in tree directory) child_at
