-- The names that were found in a directory are those that rows have in it, in their order.
use Rattle.std.proofs.Common.{◌≡◌, ◌≢◌, ℕ, Bool, true, false, cond, ◌||◌, ◌==◌, List, [], ◌∷◌, ◌++◌, refl, sym, ap, subst, ◌∙◌, true≢false, eq-eqb}
use Rattle.std.specs.Prelude.{Option, Some, None, is_some, if◌then◌else◌, map as map_list}
use Rattle.std.specs.List.{filter, list_any}
use Rattle.std.specs.Ordering.{nat_cmp, eq_by_cmp, is_eq}
use Rattle.std.specs.Cmp.{Equal-is, tied_itself}
use Rattle.std.specs.Cmp.Lexicographic.{slice_cmp, nat_list_cmp_total}
use Rattle.std.proofs.lemmas.Bool.{eqb-true}
use Rattle.std.specs.FinMap as map
use Rattle.std.specs.FinMap.{nat_cmp-IsAntisymmetric, slice_cmp-IsAntisymmetric}
use Rattle.std.specs.FinSet as set
use Rattle.f2_dir.specs.Entries.{Entries}
use Rattle.f2_model.proofs.RisingLemmas.{rising-is}
use Rattle.f2_model.specs.Rising.{rising}
use Rattle.f2_model.specs.Tree.{Rows, ROOT, names_under, names_in}
use Rattle.f2_model.specs.declared.rows.Row.{Row}
use Rattle.f2_model.specs.declared.rows.Kind.{Kind}
use Rattle.f2_held.proofs.RowLists.{name_of_row, row_of_name, value_is_one, one_is_value}
use Rattle.f2_found.specs.Found.{AreNamesIn}
use Rattle.f2_tree_size.proofs.Keys.{keys_rise}

-- whether a name is this one
abbrev is_name : List ℕ → List ℕ → Bool
is_name = eq_by_cmp (slice_cmp nat_cmp)

same_name : (p q : List ℕ) → is_name p q ≡ true → p ≡ q
same_name p q h = slice_cmp-IsAntisymmetric nat_cmp-IsAntisymmetric p q ((Equal-is (slice_cmp nat_cmp p q)).0 h)

itself : (q : List ℕ) → is_name q q ≡ true
itself q = ap is_eq (tied_itself nat_list_cmp_total q)

none_some : {X : Type 0} (x : X) → None ≡ Some x → ⊥
none_some x e = cc

or_none : (b : Bool) → (b || false) ≡ true → b ≡ true
or_none true h = refl
or_none false h = h

module _ (row : Row) (directory : ℕ) where
  -- a row has its name in its directory, unless it is the root
  has_name : row.ino ≢ ROOT → row.parent ≡ directory → list_any (is_name row.name) (names_under (row ∷ []) directory) ≡ true
  has_name other inside = by_root (row.ino == ROOT) refl
    where
      by_parent : (b : Bool) → (row.parent == directory) ≡ b → list_any (is_name row.name) (map_list (λ (at : ℕ × List ℕ). at.1) (cond b ((row.parent, row.name) ∷ []) [])) ≡ true
      by_parent true e = ap (λ b. b || false) (itself row.name)
      by_parent false e = absurd (true≢false (sym (eq-eqb row.parent directory inside) ∙ e))

      by_root : (b : Bool) → (row.ino == ROOT) ≡ b → list_any (is_name row.name) (map_list (λ (at : ℕ × List ℕ). at.1) (filter (λ (at : ℕ × List ℕ). at.0 == directory) ((if b then [] else ((row.parent, row.name) ∷ [])) ++ []))) ≡ true
      by_root true e = absurd (other (eqb-true row.ino ROOT e))
      by_root false e = by_parent (row.parent == directory) refl

  -- and no other name, and in no other
  is_named : (q : List ℕ) → list_any (is_name q) (names_under (row ∷ []) directory) ≡ true → (row.ino ≢ ROOT) × (row.parent ≡ directory) × (q ≡ row.name)
  is_named q = by_root (row.ino == ROOT) refl
    where
      by_parent : (b : Bool) → (row.parent == directory) ≡ b → list_any (is_name q) (map_list (λ (at : ℕ × List ℕ). at.1) (cond b ((row.parent, row.name) ∷ []) [])) ≡ true → (row.parent ≡ directory) × (q ≡ row.name)
      by_parent true e h = (eqb-true row.parent directory e, same_name q row.name (or_none (is_name q row.name) h))
      by_parent false e h = absurd (true≢false (sym h))

      by_root : (b : Bool) → (row.ino == ROOT) ≡ b → list_any (is_name q) (map_list (λ (at : ℕ × List ℕ). at.1) (filter (λ (at : ℕ × List ℕ). at.0 == directory) ((if b then [] else ((row.parent, row.name) ∷ [])) ++ []))) ≡ true → (row.ino ≢ ROOT) × (row.parent ≡ directory) × (q ≡ row.name)
      by_root true e h = absurd (true≢false (sym h))
      by_root false e h =
          let rest = by_parent (row.parent == directory) refl h in
          (λ same. true≢false (sym (eq-eqb row.ino ROOT same) ∙ e), rest.0, rest.1)

module _ (tree : Rows) (own : (ino : ℕ) (row : Row) → map.get tree ino ≡ Some row → row.ino ≡ ino) (directory : ℕ) (names : Entries) (are : AreNamesIn tree directory names) where
  -- a name is one of a row exactly where it was found
  same : (q : List ℕ) → list_any (is_name q) (names_under (map.values tree) directory) ≡ map.contains_key names q
  same q = by_any (list_any (is_name q) (names_under (map.values tree) directory)) refl (map.get names q) refl
    where
      by_any : (b : Bool) → list_any (is_name q) (names_under (map.values tree) directory) ≡ b → (o : Option (ℕ × Kind)) → map.get names q ≡ o → b ≡ is_some o
      by_any true a (Some at) f = refl
      by_any false a None f = refl
      by_any true a None f =
          let one = row_of_name directory (is_name q) (map.values tree) a in
          let stands = one_is_value tree one.0 one.1 in
          let named = is_named one.0 directory q one.2 in
          let other : stands.0 ≢ ROOT = λ root. named.0 (own stands.0 one.0 stands.1 ∙ root) in
          absurd (none_some (stands.0, one.0.kind) (sym f ∙ ap (map.get names) named.2 ∙ are.all stands.0 one.0 stands.1 other named.1))
      by_any false a (Some at) f =
          let under = are.only q at.0 at.1 f in
          let other : under.row.ino ≢ ROOT = λ root. under.other (sym (own at.0 under.row under.there) ∙ root) in
          let told : list_any (is_name q) (names_under (under.row ∷ []) directory) ≡ true = subst (λ p. list_any (is_name p) (names_under (under.row ∷ []) directory) ≡ true) under.named (has_name under.row directory other under.parent) in
          absurd (true≢false (sym (name_of_row directory (is_name q) under.row (map.values tree) (value_is_one tree at.0 under.row under.there) told) ∙ a))

  pub names_are : rising (names_in (map.values tree) directory) ≡ map.keys names
  names_are = rising-is nat_list_cmp_total (slice_cmp-IsAntisymmetric nat_cmp-IsAntisymmetric) (names_in (map.values tree) directory) (map.keys names) (keys_rise (slice_cmp nat_cmp) names) (λ q.
      set.contains-from_list nat_list_cmp_total (names_under (map.values tree) directory) q ∙ same q ∙ map.contains_key-keys names q)
