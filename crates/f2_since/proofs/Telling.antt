-- What was counted tells whether the base has a directory, and whether another row has a name.
use Rattle.std.proofs.Common.{◌≡◌, ◌≢◌, inl, inr, ℕ, Bool, true, false, not, ◌&&◌, ◌||◌, ◌==◌, List, [], ◌∷◌, map as map_list, refl, sym, ap, subst, ◌∙◌, Some, None, Option, true≢false, if◌then◌else◌}
use Rattle.std.specs.Prelude.{is_some}
use Rattle.std.specs.Bool.{then_some}
use Rattle.std.specs.List.{list_any, filter_map}
use Rattle.std.specs.FinMap as map
use Rattle.std.proofs.lemmas.Bool.{eqb-false, ne_eqb}
use Rattle.f2_held.proofs.Counting.{tells}
use Rattle.f2_held.proofs.Lists.{has, or_left, or_right}
use Rattle.f2_held.proofs.RowLists.{one_of-left, one_of-right, value_is_one, one_is_value, passes, passed}
use Rattle.f2_held.specs.Recovered.{IsOneOf, rows_of}
use Rattle.f2_laws.proofs.Names.{stands_true}
use Rattle.f2_laws.proofs.Walks.{stands}
use Rattle.f2_model.specs.Fallback.{directory_inos, frozen_inos, is_name_taken}
use Rattle.f2_model.specs.State.{State, Mark}
use Rattle.f2_model.specs.Tree.{ROOT, is_directory, names_of, stands_at}
use Rattle.f2_model.specs.declared.rows.Kind.{Kind}
use Rattle.f2_model.specs.declared.rows.Kind.TheVariants.{Directory}
use Rattle.f2_model.specs.declared.rows.Row.{Row}
use Rattle.f2_since.specs.Counted.{Counted, IsSince, IsRunning, IsStill, held_rows, holder}

pub same_truth : (a b : Bool) → (a ≡ true → b ≡ true) → (b ≡ true → a ≡ true) → a ≡ b
same_truth true b there back = sym (there refl)
same_truth false true there back = back refl
same_truth false false there back = refl

is_some_then : {X : Type 0} (b : Bool) (x : X) → is_some (then_some b x) ≡ b
is_some_then true x = refl
is_some_then false x = refl

pub both_hold : (a b : Bool) → (a && b) ≡ true → (a ≡ true) × (b ≡ true)
both_hold true b h = (refl, h)
both_hold false b h = absurd (true≢false (sym h))

pub some_there : {X : Type 0} (o : Option X) → is_some o ≡ true → (x : X) × (o ≡ Some x)
some_there None h = absurd (true≢false (sym h))
some_there (Some x) h = (x, refl)

pub one_passes : (test : Row → Bool) (rows : List Row) → list_any test rows ≡ true → (row : Row) × IsOneOf row rows × (test row ≡ true)
one_passes test [] h = absurd (true≢false (sym h))
one_passes test (row ∷ rows) h = by_test (one_passes test rows) (test row) refl h
  where
    by_test : (list_any test rows ≡ true → (one : Row) × IsOneOf one rows × (test one ≡ true)) → (b : Bool) → test row ≡ b → (b || list_any test rows) ≡ true → (one : Row) × IsOneOf one (row ∷ rows) × (test one ≡ true)
    by_test rest true is h = (row, inl refl, is)
    by_test rest false is h = let more = rest h in (more.0, inr more.1, more.2)

pub passes_one : (test : Row → Bool) (row : Row) (rows : List Row) → IsOneOf row rows → test row ≡ true → list_any test rows ≡ true
passes_one test row [] one is = absurd one
passes_one test row (first ∷ rows) (inl e) is = or_left (test first) (list_any test rows) (ap test (sym e) ∙ is)
passes_one test row (first ∷ rows) (inr one) is = or_right (test first) (list_any test rows) (passes_one test row rows one is)

kind_of : (kind : Kind) → is_directory kind ≡ true → kind ≡ Directory
kind_of Directory h = refl
kind_of _ h = absurd (true≢false (sym h))

module _ (since : Counted) (state : State) (row : Row) (is : IsSince since state) (runs : IsRunning state) (there : map.get state.live row.ino ≡ Some row) where
  -- the directory of a row is held where the base has it
  base_directories : list_any (λ other. other == row.parent) (directory_inos state.base) ≡ has row.parent (directory_inos state.base)
  base_directories = sym (λ i. list_any (λ other. tells row.parent other i) (directory_inos state.base))

  held_there : has row.parent (directory_inos state.base) ≡ true → map.contains_key state.base row.parent ≡ true
  held_there h =
      let found = passed (λ one. is_directory one.kind) (λ one. one.ino) row.parent (map.values state.base) h in
      let at = one_is_value state.base found.0 found.1 in
      let same = found.3 ∙ runs.keyed at.0 found.0 at.1 in
      ap is_some (ap (map.get state.base) same ∙ at.1)

  there_held : map.contains_key state.base row.parent ≡ true → has row.parent (directory_inos state.base) ≡ true
  there_held h =
      let old = some_there (map.get state.base row.parent) h in
      let up = runs.live.parents row.ino row there in
      let among = one_of-left old.0 (held_rows state) (map.values state.live) (one_of-left old.0 (rows_of state.base state.marks) (filter_map (map.get state.live) (frozen_inos state)) (one_of-left old.0 (map.values state.base) (map_list (λ (mark : Mark). mark.row) state.marks) (value_is_one state.base row.parent old.0 old.1))) in
      let beside = one_of-right up.0 (held_rows state) (map.values state.live) (value_is_one state.live row.parent up.0 up.1) in
      let at = runs.keyed row.parent old.0 old.1 in
      let kind = runs.kinds old.0 up.0 among beside (at ∙ sym (runs.live.keyed row.parent up.0 up.1)) ∙ up.2 in
      subst (λ (n : ℕ). has n (directory_inos state.base) ≡ true) at (passes (λ one. is_directory one.kind) old.0 (map.values state.base) (value_is_one state.base row.parent old.0 old.1) (ap is_directory kind) (λ one. one.ino))

  pub parent_held : map.contains_key since.held.directories row.parent ≡ map.contains_key state.base row.parent
  parent_held =
      ap is_some (is.held.directories row.parent)
      ∙ is_some_then (list_any (λ other. other == row.parent) (directory_inos state.base)) _
      ∙ base_directories
      ∙ same_truth (has row.parent (directory_inos state.base)) (map.contains_key state.base row.parent) held_there there_held

  -- a name is another row's where it has parted from it
  module _ (not_root : row.ino ≢ ROOT) where
    abbrev takes_name : Row → Bool
    takes_name other = not (other.ino == row.ino) && list_any (λ at. stands_at at.0 at.1 other) (names_of row)

    own_name : (other : Row) → list_any (λ (at : ℕ × List ℕ). stands_at at.0 at.1 other) (names_of row) ≡ (stands_at row.parent row.name other || false)
    own_name other = ap (λ b. list_any (λ (at : ℕ × List ℕ). stands_at at.0 at.1 other) (if b then [] else ((row.parent, row.name) ∷ []))) (ne_eqb row.ino ROOT not_root)

    or_none : (b : Bool) → (b || false) ≡ b
    or_none true = refl
    or_none false = refl

    is_not : (b : Bool) → not b ≡ true → b ≡ false
    is_not true h = absurd (true≢false (sym h))
    is_not false h = refl

    taken_parted : is_name_taken state row ≡ true → is_some (holder since.parted row.parent row.name) ≡ true
    taken_parted h =
        let found = one_passes takes_name (rows_of state.base state.marks) h in
        let other = found.0 in
        let tests = both_hold (not (other.ino == row.ino)) _ found.2 in
        let at = stands row.parent row.name other (sym (own_name other ∙ or_none (stands_at row.parent row.name other)) ∙ tests.1) in
        let apart = eqb-false other.ino row.ino (is_not (other.ino == row.ino) tests.0) in
        let gone : IsStill state.live other → ⊥ = λ still. apart (runs.live.apart other.ino row.ino still.0 row still.1 there at.not_root not_root (still.2 ∙ at.parent) (still.3 ∙ at.name_is)) in
        ap is_some (sym (λ i. holder since.parted (at.parent i) (at.name_is i)) ∙ is.parted other found.1 at.not_root gone)

    parted_taken : is_some (holder since.parted row.parent row.name) ≡ true → is_name_taken state row ≡ true
    parted_taken h =
        let had = some_there (holder since.parted row.parent row.name) h in
        let found = is.only row.parent row.name had.0 had.1 in
        let other = found.0 in
        let root : other.ino ≢ ROOT = λ e. found.3 (sym found.2 ∙ e) in
        let apart : other.ino ≢ row.ino = λ e. found.6 (row, ap (map.get state.live) e ∙ there, sym found.4, sym found.5) in
        passes_one takes_name other (rows_of state.base state.marks) found.1 (
        ap (λ b. not b && list_any (λ (at : ℕ × List ℕ). stands_at at.0 at.1 other) (names_of row)) (ne_eqb other.ino row.ino apart)
        ∙ own_name other
        ∙ ap (λ b. b || false) (stands_true row.parent row.name other root found.4 found.5))

    pub name_parted : is_some (holder since.parted row.parent row.name) ≡ is_name_taken state row
    name_parted = same_truth (is_some (holder since.parted row.parent row.name)) (is_name_taken state row) parted_taken taken_parted
