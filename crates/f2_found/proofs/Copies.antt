-- The names of a directory are copied one after another.
use Rattle.std.proofs.Common.{◌≡◌, ℕ, Bool, true, false, ◌&&◌, T, cond, List, [], ◌∷◌, ◌++◌, map as map_list, refl, sym, ap, ◌∙◌, subst}
use Rattle.std.specs.Prelude.{Some, None}
use Rattle.std.specs.Ordering.{eq_by_cmp, is_lt, is_eq, ordering_reverse}
use Rattle.std.specs.declared.cmp.Ordering.{Ordering}
use Rattle.std.specs.declared.cmp.Ordering.TheVariants.{Less, Equal, Greater}
use Rattle.std.specs.Cmp.{IsTotalOrder}
use Rattle.std.specs.Cmp.Lexicographic.{nat_list_cmp_total}
use Rattle.std.specs.FinMap as map
use Rattle.std.specs.FinMap.{find, is_sorted}
use Rattle.std.specs.FinMap.Entries.{below_all}
use Rattle.f2_dentry_block.specs.declared.dents.Dent.{Dent}
use Rattle.f2_dir.specs.Entries.{Entries, dents_of}
use Rattle.f2_found.proofs.Maps.{names_cmp, same_name}
use Rattle.f2_model.specs.declared.rows.Kind.{Kind}

-- dents as the entries of a directory
abbrev pub entries_in : List Dent → List (List ℕ × (ℕ × Kind))
entries_in dents = map_list (λ dent. (dent.name, (dent.ino, dent.kind))) dents

-- names that are those of some dents
abbrev pub IsCopyOf : List Dent → Entries → Type 0
IsCopyOf dents names = names ≡ map.from_entries (entries_in dents)

first : (a b : Bool) → T (a && b) → T a
first true b h = tt
first false b h = absurd h

second : (a b : Bool) → T (a && b) → T b
second true b h = h
second false b h = absurd h

less : (o : Ordering) → T (is_lt o) → o ≡ Less
less Less h = refl
less Equal h = absurd h
less Greater h = absurd h

-- a key that stands behind others in order is none of them
module _ {K X : Type 0} {R : K → K → Ordering} (o : IsTotalOrder R) where
  below_at : (x : K) (front : List (K × X)) (e : K × X) (rest : List (K × X)) → T (below_all R x (front ++ e ∷ rest)) → R x e.0 ≡ Less
  below_at x [] e rest h = less _ (first _ _ h)
  below_at x (y ∷ ys) e rest h = below_at x ys e rest (second _ _ h)

  not_in_front : (front : List (K × X)) (e : K × X) (rest : List (K × X)) → T (is_sorted R (front ++ e ∷ rest)) → find R e.0 front ≡ None
  not_in_front [] e rest h = refl
  not_in_front (y ∷ ys) e rest h =
      let above : eq_by_cmp R e.0 y.0 ≡ false = ap is_eq (o.antisymm e.0 y.0 ∙ ap ordering_reverse (below_at y.0 ys e rest (first _ _ h))) in
      ap (λ (b : Bool). cond b (Some y.1) (find R e.0 ys)) above ∙ not_in_front ys e rest (second _ _ h)

entries_append : (front rest : List Dent) → entries_in (front ++ rest) ≡ entries_in front ++ entries_in rest
entries_append [] rest = refl
entries_append (dent ∷ front) rest = ap (λ es. (dent.name, (dent.ino, dent.kind)) ∷ es) (entries_append front rest)

entries_of_dents : (es : List (List ℕ × (ℕ × Kind))) → entries_in (map_list (λ e. record { name = e.0; ino = e.1.0; kind = e.1.1 }) es) ≡ es
entries_of_dents [] = refl
entries_of_dents (e ∷ es) = ap (λ rest. e ∷ rest) (entries_of_dents es)

pub copy_none : (names : Entries) → names ≡ map.empty → IsCopyOf [] names
copy_none names empty = empty

module _ (directory : Entries) where
  pub copy_more : (front rest : List Dent) (dent : Dent) (old new : Entries) → front ++ dent ∷ rest ≡ dents_of directory → IsCopyOf front old → new ≡ map.insert old dent.name (dent.ino, dent.kind) → IsCopyOf (front ++ dent ∷ []) new
  copy_more front rest dent old new whole copy put =
      let entry : List ℕ × (ℕ × Kind) = (dent.name, (dent.ino, dent.kind)) in
      let all : entries_in front ++ entry ∷ entries_in rest ≡ map.entries directory = sym (entries_append front (dent ∷ rest)) ∙ ap (λ (ds : List Dent). entries_in ds) whole ∙ entries_of_dents (map.entries directory) in
      let fresh = not_in_front nat_list_cmp_total (entries_in front) entry (entries_in rest) (subst (λ (es : List (List ℕ × (ℕ × Kind))). T (is_sorted names_cmp es)) (sym all) (map.entries_sorted directory)) in
      put ∙ ap (λ (m : Entries). map.insert m dent.name (dent.ino, dent.kind)) copy
      ∙ sym (map.from_entries_push nat_list_cmp_total same_name (entries_in front) dent.name (dent.ino, dent.kind) fresh)
      ∙ ap (λ (es : List (List ℕ × (ℕ × Kind))). map.from_entries es) (sym (entries_append front (dent ∷ [])))

  pub copy_all : (front : List Dent) (names : Entries) → front ≡ dents_of directory → IsCopyOf front names → names ≡ directory
  copy_all front names all copy =
      let entries : entries_in front ≡ map.entries directory = ap (λ (ds : List Dent). entries_in ds) all ∙ entries_of_dents (map.entries directory) in
      copy ∙ ap (λ (es : List (List ℕ × (ℕ × Kind))). map.from_entries es) entries
      ∙ map.same_map nat_list_cmp_total same_name (map.from_entries (map.entries directory)) directory (λ q. map.get-from_entries nat_list_cmp_total (map.entries directory) q ∙ sym (map.get-entries directory q))
