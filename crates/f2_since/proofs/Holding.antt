-- What is held with one file more is what the machine holds for it.
use Rattle.std.proofs.Common.{◌≡◌, ◌≢◌, inl, inr, ℕ, Bool, true, false, ◌||◌, List, [], ◌∷◌, ◌++◌, map as map_list, length, refl, sym, ap, subst, ◌∙◌, Some, None, Option, true≢false, suc, if◌then◌else◌}
use Rattle.std.specs.List.{filter_map, cons_option}
use Rattle.std.specs.FinMap as map
use Rattle.std.specs.Ordering.{nat_cmp}
use Rattle.std.proofs.lemmas.List.{append_assoc}
use Rattle.f2_files.specs.Known.{Known, IsKnownOf}
use Rattle.f2_files.specs.Shape.{IsShape, AreAlike}
use Rattle.f2_files.specs.declared.shapes.Shape.{Shape}
use Rattle.f2_files.proofs.Truncating.{keys_same}
use Rattle.f2_format.specs.Offsets.{node_count}
use Rattle.f2_held.proofs.Coming.{rows_come_in}
use Rattle.f2_held.proofs.Counting.{count_is_the_most}
use Rattle.f2_held.proofs.RowLists.{one_of-left, one_of-right, value_is_one}
use Rattle.f2_held.specs.Recovered.{IsOneOf, IsTakenOf, AreOfOneKind, most_of, rows_of, size_of_file, with_row}
use Rattle.f2_held.specs.Taken.{Taken, raised, bound, total_of}
use Rattle.f2_model.specs.Fallback.{Both, held, frozen_inos, recoverable}
use Rattle.f2_model.specs.State.{State}
use Rattle.f2_model.specs.Tree.{Rows, ROOT, is_directory}
use Rattle.f2_model.specs.declared.rows.Kind.{Kind}
use Rattle.f2_model.specs.declared.rows.Kind.TheVariants.{Regular}
use Rattle.f2_model.specs.declared.rows.Row.{Row}
use Rattle.f2_since.specs.Counted.{Counted, IsSince, IsRunning, held_rows}

-- one ino more, which a tree has
one_more : (tree : Rows) (inos : List ℕ) (ino : ℕ) (row : Row) → map.get tree ino ≡ Some row → filter_map (map.get tree) (inos ++ ino ∷ []) ≡ filter_map (map.get tree) inos ++ row ∷ []
one_more tree [] ino row there = ap (λ o. cons_option o []) there
one_more tree (first ∷ inos) ino row there = by_first (map.get tree first) (one_more tree inos ino row there)
  where
    by_first : (o : Option Row) → filter_map (map.get tree) (inos ++ ino ∷ []) ≡ filter_map (map.get tree) inos ++ row ∷ [] → cons_option o (filter_map (map.get tree) (inos ++ ino ∷ [])) ≡ cons_option o (filter_map (map.get tree) inos) ++ row ∷ []
    by_first None rest = rest
    by_first (Some one) rest = ap (λ l. one ∷ l) rest

-- a row is of a list, or the one behind it
last_or : (P : Row → Type 0) (row : Row) (rows : List Row) → ((one : Row) → IsOneOf one rows → P one) → P row → (one : Row) → IsOneOf one (rows ++ row ∷ []) → P one
last_or P row [] each last one (inl e) = subst P (sym e) last
last_or P row [] each last one (inr h) = absurd h
last_or P row (first ∷ rows) each last one (inl e) = each one (inl e)
last_or P row (first ∷ rows) each last one (inr h) = last_or P row rows (λ o i. each o (inr i)) last one h

module _ (since : Counted) (state : State) (row : Row) (is : IsSince since state) (runs : IsRunning state) (there : map.get state.live row.ino ≡ Some row) (regular : row.kind ≡ Regular) where
  pub file_root : row.ino ≢ ROOT
  file_root e =
      let root = runs.live.root in
      let same : Some root.0 ≡ Some row = sym root.1 ∙ ap (map.get state.live) (sym e) ∙ there in
      let one : root.0 ≡ row = cc in
      true≢false (ap is_directory (sym root.2.kind ∙ ap (λ (r : Row). r.kind) one ∙ regular))

  all_rows : recoverable state row.ino ≡ held_rows state ++ row ∷ []
  all_rows =
      ap (λ (rows : List Row). rows_of state.base state.marks ++ rows) (one_more state.live (frozen_inos state) row.ino row there)
      ∙ sym (append_assoc (rows_of state.base state.marks) (filter_map (map.get state.live) (frozen_inos state)) (row ∷ []))

  within : (one : Row) → IsOneOf one (held_rows state ++ row ∷ []) → IsOneOf one (held_rows state ++ map.values state.live)
  within = last_or (λ one. IsOneOf one (held_rows state ++ map.values state.live)) row (held_rows state) (λ one h. one_of-left one (held_rows state) (map.values state.live) h) (one_of-right row (held_rows state) (map.values state.live) (value_is_one state.live row.ino row there))

  pub of_one_kind : AreOfOneKind (held_rows state ++ row ∷ [])
  of_one_kind one other h i e = runs.kinds one other (within one h) (within other i) e

  abbrev pub with_this : Taken
  with_this = record { files = raised since.held.files row.ino (size_of_file row); directories = bound since.held.directories row.parent row.name }

  with_file : with_row since.held row ≡ with_this
  with_file = ap (λ (files : map.FinMap nat_cmp Both). record { files = files; directories = bound since.held.directories row.parent row.name }) (ap (λ (kind : Kind). if is_directory kind then since.held.files else raised since.held.files row.ino (size_of_file row)) regular)

  pub taken_with : map.contains_key since.held.directories row.parent ≡ true → IsTakenOf state.base (held_rows state ++ row ∷ []) with_this
  taken_with open_there =
      subst (λ (taken : Taken). IsTakenOf state.base (held_rows state ++ row ∷ []) taken) with_file
      (rows_come_in state.base (held_rows state) since.held row is.held of_one_kind file_root open_there)

  pub held_with : map.contains_key since.held.directories row.parent ≡ true → total_of with_this ≡ held state row.ino
  held_with open_there =
      ap total_of (sym with_file)
      ∙ count_is_the_most state.base (held_rows state ++ row ∷ []) (with_row since.held row) runs.keyed (rows_come_in state.base (held_rows state) since.held row is.held of_one_kind file_root open_there)
      ∙ ap (most_of state.base) (sym all_rows)

-- a file's shape takes what its row takes
same_len : (shape : Shape) (row : Row) → map.keys shape.pages ≡ map.keys row.pages → map.len shape.pages ≡ map.len row.pages
same_len shape row same = map.len-entries shape.pages ∙ sym (keys_long (map.entries shape.pages)) ∙ ap length same ∙ keys_long (map.entries row.pages) ∙ sym (map.len-entries row.pages)
  where
    keys_long : {X : Type 0} (es : List (ℕ × X)) → length (map_list (λ (e : ℕ × X). e.0) es) ≡ length es
    keys_long [] = refl
    keys_long (e ∷ es) = ap (λ n. suc n) (keys_long es)

pub size_same : (shape : Shape) (row : Row) → IsShape shape row → row.kind ≡ Regular → (size : Both) → size.nodes ≡ node_count (map.keys shape.pages) → size.pages ≡ map.len shape.pages → size ≡ size_of_file row
size_same shape row is regular size nodes pages =
    let keys = keys_same shape.pages row.pages (is.pages regular) in
    let all_nodes : size.nodes ≡ (size_of_file row).nodes = nodes ∙ ap node_count keys in
    let all_pages : size.pages ≡ (size_of_file row).pages = pages ∙ same_len shape row keys in
    λ i. record { nodes = all_nodes i; pages = all_pages i }

-- the shape that is known of a row
pub shape_of : (files : Known) (state : State) (ino : ℕ) (shape : Shape) → IsKnownOf files state → map.get files.shapes ino ≡ Some shape → (row : Row) → map.get state.live ino ≡ Some row → IsShape shape row
shape_of files state ino shape known there row live = subst (λ o. AreAlike (Some shape) o) live (subst (λ o. AreAlike o (map.get state.live ino)) there (known.shapes.each ino))

pub row_of : (files : Known) (state : State) (ino : ℕ) (shape : Shape) → IsKnownOf files state → map.get files.shapes ino ≡ Some shape → (row : Row) × (map.get state.live ino ≡ Some row)
row_of files state ino shape known there = by_row (map.get state.live ino) refl (subst (λ o. AreAlike o (map.get state.live ino)) there (known.shapes.each ino))
  where
    by_row : (o : Option Row) → map.get state.live ino ≡ o → AreAlike (Some shape) o → (row : Row) × (map.get state.live ino ≡ Some row)
    by_row None e alike = absurd alike
    by_row (Some row) e alike = (row, e)

-- what a file's shape takes with its name, beside what is held, is what the machine holds with the file
pub holds : (since : Counted) (files : Known) (state : State) (shape : Shape) (size total : Both)
    → IsKnownOf files state → IsSince since state → IsRunning state
    → map.get files.shapes shape.ino ≡ Some shape → shape.kind ≡ Regular
    → map.contains_key since.held.directories shape.parent ≡ true
    → size.nodes ≡ node_count (map.keys shape.pages) → size.pages ≡ map.len shape.pages
    → total ≡ total_of (record { files = raised since.held.files shape.ino size; directories = bound since.held.directories shape.parent shape.name })
    → total ≡ held state shape.ino
holds since files state shape size total known is runs at kind open_there nodes pages total_is =
    let found = row_of files state shape.ino shape known at in
    let row : Row = found.0 in
    let alike = shape_of files state shape.ino shape known at row found.1 in
    let there = ap (map.get state.live) (sym alike.ino) ∙ found.1 in
    let regular = sym alike.kind ∙ kind in
    let same = size_same shape row alike regular size nodes pages in
    total_is
    ∙ (λ i. total_of (record { files = raised since.held.files (alike.ino i) (same i); directories = bound since.held.directories (alike.parent i) (alike.name i) }))
    ∙ held_with since state row is runs there regular (ap (map.contains_key since.held.directories) (sym alike.parent) ∙ open_there)
    ∙ ap (held state) (sym alike.ino)

pub or_first : (a b : Bool) → a ≡ true → a ≡ (a || b)
or_first true b h = refl
or_first false b h = absurd (true≢false (sym h))

pub or_second : (a b : Bool) → a ≡ false → b ≡ (a || b)
or_second true b h = absurd (true≢false h)
or_second false b h = refl
