-- The names of a directory are its dentries in order.
use Rattle.std.proofs.Common.{◌≡◌, ◌≢◌, inl, inr, ℕ, ◌==◌, Bool, true, false, cond, List, [], ◌∷◌, ◌++◌, map as map_list, length, refl, sym, ap, subst, ◌∙◌, Some, None, Option, All, IsTrue}
use Rattle.std.specs.Prelude.{Contains, is_some}
use Rattle.std.specs.List.{AllByRecursion, list_any, filter}
use Rattle.std.specs.Ordering.{eq_by_cmp}
use Rattle.std.specs.Cmp.Lexicographic.{nat_list_cmp_total}
use Rattle.std.specs.FinMap as map
use Rattle.std.specs.FinMap.{entries, contains_key-keys, nat_cmp-IsAntisymmetric, slice_cmp-IsAntisymmetric}
use Rattle.std.specs.FinSet as set
use Rattle.std.specs.FinSet.{contains-from_list}
use Rattle.std.proofs.lemmas.Bool.{and_parts, leb-true, true≢false, or_cases, or_left, eqb-true, eq-eqb, ne_eqb}
use Rattle.std.proofs.lemmas.List.Elements.{All-from_recursion}
use Rattle.f2_dentry_block.specs.Dents.{dentry_of, type_of}
use Rattle.f2_dentry_block.specs.Packed.{HasNameLength, names_of}
use Rattle.f2_dentry_block.specs.declared.dents.Dent.{Dent}
use Rattle.f2_dir.proofs.Listed.{dent_of}
use Rattle.f2_format.specs.Geometry.{ImageGeometry}
use Rattle.f2_held.proofs.RowLists.{value_is_one, one_is_value, name_of_row, row_of_name}
use Rattle.f2_image.specs.Faults.{type_of_kind}
use Rattle.f2_laid.specs.Laid.{IsStorable, AreDentries, IsBound}
use Rattle.f2_model.proofs.RisingLemmas.{rising-is}
use Rattle.f2_model.specs.Names.{is_good_name}
use Rattle.f2_model.specs.Rising.{rising}
use Rattle.f2_model.specs.Tree.{Rows, ROOT, names_in, names_under}
use Rattle.f2_model.specs.declared.rows.Kind.{Kind}
use Rattle.f2_model.specs.declared.rows.Kind.TheVariants.{Regular, Directory}
use Rattle.f2_model.specs.declared.rows.Row.{Row}
use Rattle.f2_plain_plan.specs.Directories.{AllNames, IsNamesOf, names_at, dents_in}
use Rattle.f2_plain_plan.proofs.NameMaps.{name_cmp, name_tied, name_same, names_rise, each_name}
use Rattle.f2_plain_plan.proofs.Values.{row_at, value_there, value_at}

names_listed : (es : List (List ℕ × (ℕ × Kind))) → names_of (map_list dentry_of (map_list dent_of es)) ≡ map_list (λ e. e.0) es
names_listed [] = refl
names_listed (e ∷ es) = ap (λ names. e.0 ∷ names) (names_listed es)

same_type : (kind : Kind) → type_of kind ≡ type_of_kind kind
same_type Regular = refl
same_type Directory = refl

both_ways : (a b : Bool) → (a ≡ true → b ≡ true) → (b ≡ true → a ≡ true) → a ≡ b
both_ways true b f g = sym (f refl)
both_ways false true f g = g refl
both_ways false false f g = refl

found : {X : Type 0} (o : Option X) → is_some o ≡ true → (x : X) × (o ≡ Some x)
found None e = absurd (true≢false (sym e))
found (Some x) e = (x, refl)

pub good_length : (name : List ℕ) → IsTrue (is_good_name name) → HasNameLength name
good_length name good =
    let outer = and_parts _ _ good in
    let middle = and_parts _ _ outer.0 in
    let inner = and_parts _ _ middle.0 in
    record { some = leb-true 1 (length name) inner.0; most = leb-true (length name) 255 inner.1 }

-- the name that a row has in a directory
has_name : (row : Row) (directory : ℕ) (name : List ℕ) → row.ino ≢ ROOT → row.parent ≡ directory → row.name ≡ name → list_any (eq_by_cmp name_cmp name) (names_under (row ∷ []) directory) ≡ true
has_name row directory name ne parent named =
    let test = eq_by_cmp name_cmp name in
    ap (λ b. list_any test (map_list (λ (at : ℕ × List ℕ). at.1) (filter (λ (at : ℕ × List ℕ). at.0 == directory) (cond b [] ((row.parent, row.name) ∷ []) ++ [])))) (ne_eqb row.ino ROOT ne)
    ∙ ap (λ b. list_any test (map_list (λ (at : ℕ × List ℕ). at.1) (cond b ((row.parent, row.name) ∷ []) []))) (eq-eqb row.parent directory parent)
    ∙ or_left (test row.name) false (subst (λ n. test n ≡ true) (sym named) (name_same name))

named_so : (row : Row) (directory : ℕ) (name : List ℕ) → list_any (eq_by_cmp name_cmp name) (names_under (row ∷ []) directory) ≡ true → (row.ino ≢ ROOT) × (row.parent ≡ directory) × (row.name ≡ name)
named_so row directory name h = by_ino (row.ino == ROOT) refl h
  where
    no_part : false ≡ true → ⊥
    no_part e = true≢false (sym e)

    by_parent : (b : Bool) → (row.parent == directory) ≡ b → list_any (eq_by_cmp name_cmp name) (map_list (λ (at : ℕ × List ℕ). at.1) (cond b ((row.parent, row.name) ∷ []) [])) ≡ true → (row.parent ≡ directory) × (row.name ≡ name)
    by_parent true e h = (eqb-true row.parent directory e, elim (or_cases (eq_by_cmp name_cmp name row.name) false h) [ inl t ↦ sym (name_tied name row.name t) | inr t ↦ absurd (no_part t) ])
    by_parent false e h = absurd (no_part h)

    by_ino : (b : Bool) → (row.ino == ROOT) ≡ b → list_any (eq_by_cmp name_cmp name) (map_list (λ (at : ℕ × List ℕ). at.1) (filter (λ (at : ℕ × List ℕ). at.0 == directory) (cond b [] ((row.parent, row.name) ∷ []) ++ []))) ≡ true
        → (row.ino ≢ ROOT) × (row.parent ≡ directory) × (row.name ≡ name)
    by_ino true e h = absurd (no_part h)
    by_ino false e h = let rest = by_parent (row.parent == directory) refl h in (λ same. true≢false (sym (eq-eqb row.ino ROOT same) ∙ e), rest.0, rest.1)

module _ (geom : ImageGeometry) (tree : Rows) (storable : IsStorable geom tree) (names : AllNames) (are : IsNamesOf tree names) where
  keyed : (row : Row) → Contains (map.values tree) row → map.get tree row.ino ≡ Some row
  keyed row c = row_at tree row storable.good.keyed c

  module _ (directory : ℕ) where
    has : (name : List ℕ) → set.contains (names_in (map.values tree) directory) name ≡ list_any (eq_by_cmp name_cmp name) (names_under (map.values tree) directory)
    has name = contains-from_list nat_list_cmp_total (names_under (map.values tree) directory) name

    there : (name : List ℕ) → list_any (eq_by_cmp name_cmp name) (names_under (map.values tree) directory) ≡ true → map.contains_key (names_at names directory) name ≡ true
    there name h =
        let one = row_of_name directory (eq_by_cmp name_cmp name) (map.values tree) h in
        let at = one_is_value tree one.0 one.1 in
        let so = named_so one.0 directory name one.2 in
        subst (λ d. map.contains_key (names_at names d) name ≡ true) so.1
        (subst (λ n. map.contains_key (names_at names one.0.parent) n ≡ true) so.2
        (are.complete one.0 (value_there tree at.0 one.0 at.1) so.0))

    back : (name : List ℕ) → map.contains_key (names_at names directory) name ≡ true → list_any (eq_by_cmp name_cmp name) (names_under (map.values tree) directory) ≡ true
    back name h =
        let at = found (map.get (names_at names directory) name) h in
        let named = are.sound directory name at.0 at.1 in
        let where_at = value_at tree named.0 named.1 in
        name_of_row directory (eq_by_cmp name_cmp name) named.0 (map.values tree) (value_is_one tree where_at.0 named.0 where_at.1)
        (has_name named.0 directory name named.2.below named.2.parent named.2.named)

    in_order : names_of (map_list dentry_of (dents_in names directory)) ≡ rising (names_in (map.values tree) directory)
    in_order =
        names_listed (entries (names_at names directory))
        ∙ sym (rising-is nat_list_cmp_total (slice_cmp-IsAntisymmetric nat_cmp-IsAntisymmetric) (names_in (map.values tree) directory) (map.keys (names_at names directory)) (names_rise (names_at names directory))
        (λ name. has name ∙ both_ways _ _ (there name) (back name) ∙ contains_key-keys (names_at names directory) name))

    bound_each : AllByRecursion (λ e. IsBound tree directory (dentry_of (dent_of e)) × HasNameLength e.0) (entries (names_at names directory))
    bound_each = each_name (λ e. IsBound tree directory (dentry_of (dent_of e)) × HasNameLength e.0) (names_at names directory) (λ name at f.
        let named = are.sound directory name at f in
        let here = subst (λ k. map.get tree k ≡ Some named.0) named.2.ino (keyed named.0 named.1) in (
          record {
            row = named.0;
            there = here;
            below = subst (λ k. k ≢ ROOT) named.2.ino named.2.below;
            parent = named.2.parent;
            named = named.2.named;
            typed = ap type_of (sym named.2.kind) ∙ same_type named.0.kind;
          },
          subst HasNameLength named.2.named (good_length named.0.name (storable.good.names at.0 named.0 here (subst (λ k. k ≢ ROOT) named.2.ino named.2.below))),
        ))

    each_bound : (es : List (List ℕ × (ℕ × Kind))) → AllByRecursion (λ e. IsBound tree directory (dentry_of (dent_of e)) × HasNameLength e.0) es → AllByRecursion (IsBound tree directory) (map_list dentry_of (map_list dent_of es))
    each_bound [] h = tt
    each_bound (e ∷ es) h = (h.0.0, each_bound es h.1)

    each_length : (es : List (List ℕ × (ℕ × Kind))) → AllByRecursion (λ e. IsBound tree directory (dentry_of (dent_of e)) × HasNameLength e.0) es → AllByRecursion (λ (dent : Dent). HasNameLength dent.name) (map_list dent_of es)
    each_length [] h = tt
    each_length (e ∷ es) h = (h.0.1, each_length es h.1)

    pub are_dentries : AreDentries tree directory (map_list dentry_of (dents_in names directory))
    are_dentries =
        record {
          names = in_order;
          bound = All-from_recursion (IsBound tree directory) (map_list dentry_of (dents_in names directory)) (each_bound (entries (names_at names directory)) bound_each);
        }

    pub are_fitting : All (λ (dent : Dent). HasNameLength dent.name) (dents_in names directory)
    are_fitting = All-from_recursion (λ (dent : Dent). HasNameLength dent.name) (dents_in names directory) (each_length (entries (names_at names directory)) bound_each)
