-- The last name of a path, and whether it is free in its directory.
use Rattle.std.proofs.Common.{◌≡◌, ◌≢◌, ℕ, suc, ◌+◌, ◌-◌, ◌<◌, ◌≤◌, Bool, true, false, ◌&&◌, ◌||◌, List, [], ◌∷◌, ◌++◌, length, take, refl, sym, ap, ◌∙◌, arith, true≢false, length-append}
use Rattle.std.specs.Prelude.{Option, Some, None, Ok, Err, is_ok, if◌then◌else◌, ◌==◌, nat_le}
use Rattle.std.specs.List.{list_any, list_all}
use Rattle.std.specs.FinMap as map
use Rattle.std.specs.Cmp.Lexicographic.{other_text}
use Rattle.std.proofs.lemmas.Bool.{eq-eqb, ne_eqb, leb-true}
use Rattle.std.proofs.lemmas.List.{take_more}
use Rattle.std.proofs.Math.Seq.{take-length}
use Rattle.std.proofs.lemmas.List.Folds.{list_all-append}
use Rattle.f2_model.specs.Names.{same_name, is_good_name, is_good_path}
use Rattle.f2_model.specs.Tree.{Rows, ROOT, IsGoodTree, is_directory, stands_at, child, walked, walk, or_no_entry, parent_path, last_name}
use Rattle.f2_model.specs.declared.rows.Row.{Row}
use Rattle.f2_model.specs.declared.rows.Kind.TheVariants.{Directory}
use Rattle.f2_model.specs.declared.replies.Reply.TheVariants.{NotDir}
use Rattle.f2_laws.proofs.Values.{none_found}
use Rattle.f2_laws.proofs.Passed.{both_true}

pub same_name-refl : (name : List ℕ) → same_name name name ≡ true
same_name-refl name = by_test (same_name name name) refl
  where
    by_test : (b : Bool) → same_name name name ≡ b → b ≡ true
    by_test true e = refl
    by_test false e = absurd (other_text name name (sym e) refl)

pub stands_true : (directory : ℕ) (name : List ℕ) (row : Row) → row.ino ≢ ROOT → row.parent ≡ directory → row.name ≡ name → stands_at directory name row ≡ true
stands_true directory name row not_root parent name_is =
    ap (λ b. list_any (λ (at : ℕ × List ℕ). at.0 == directory && same_name at.1 name) (if b then [] else ((row.parent, row.name) ∷ []))) (ne_eqb row.ino ROOT not_root)
    ∙ ap (λ b. (b && same_name row.name name) || false) (eq-eqb row.parent directory parent)
    ∙ ap (λ b. b || false) (ap (λ n. same_name n name) name_is ∙ same_name-refl name)

-- a walk over one name more goes on from where it came
walked_last : (tree : Rows) (names : List (List ℕ)) (name : List ℕ) (row up : Row) → walked tree names row ≡ Ok up → walked tree (names ++ name ∷ []) row ≡ walked tree (name ∷ []) up
walked_last tree [] name row up h = let same : row ≡ up = cc in ap (λ r. walked tree (name ∷ []) r) same
walked_last tree (first ∷ names) name row up h = by_kind (λ next. walked_last tree names name next up) (is_directory row.kind) h
  where
    by_child : ((next : Row) → walked tree names next ≡ Ok up → walked tree (names ++ name ∷ []) next ≡ walked tree (name ∷ []) up) → (o : Option Row) → or_no_entry o (walked tree names) ≡ Ok up → or_no_entry o (walked tree (names ++ name ∷ [])) ≡ walked tree (name ∷ []) up
    by_child rest None h = absurd (cc)
    by_child rest (Some next) h = rest next h

    by_kind : ((next : Row) → walked tree names next ≡ Ok up → walked tree (names ++ name ∷ []) next ≡ walked tree (name ∷ []) up) → (b : Bool) → (if b then or_no_entry (child tree row.ino first) (walked tree names) else Err NotDir) ≡ Ok up → (if b then or_no_entry (child tree row.ino first) (walked tree (names ++ name ∷ [])) else Err NotDir) ≡ walked tree (name ∷ []) up
    by_kind rest true h = by_child rest (child tree row.ino first) h
    by_kind rest false h = absurd (cc)

walk_last : (tree : Rows) (names : List (List ℕ)) (name : List ℕ) (up : Row) → walk tree names ≡ Ok up → walk tree (names ++ name ∷ []) ≡ walked tree (name ∷ []) up
walk_last tree names name up h = by_root (map.get tree ROOT) h
  where
    by_root : (o : Option Row) → or_no_entry o (walked tree names) ≡ Ok up → or_no_entry o (walked tree (names ++ name ∷ [])) ≡ walked tree (name ∷ []) up
    by_root None h = absurd (cc)
    by_root (Some root) h = walked_last tree names name root up h

-- where one name doesn't lead on from a directory, nothing has it there
no_child : (tree : Rows) (name : List ℕ) (up : Row) → up.kind ≡ Directory → is_ok (walked tree (name ∷ []) up) ≡ false → child tree up.ino name ≡ None
no_child tree name up kind h = by_child (child tree up.ino name) (sym (ap (λ k. is_ok (if is_directory k then or_no_entry (child tree up.ino name) (walked tree []) else Err NotDir)) kind) ∙ h)
  where
    by_child : (o : Option Row) → is_ok (or_no_entry o (walked tree [])) ≡ false → o ≡ None
    by_child None h = refl
    by_child (Some row) h = absurd (true≢false h)

-- a path that isn't the root's is that of its directory and its last name
pub path_parts : (path : List (List ℕ)) → 1 ≤ length path → parent_path path ++ last_name path ∷ [] ≡ path
path_parts path some =
    let last : length path - 1 < length path = omega arith in
    let all : length path - 1 + 1 ≡ length path = omega arith in
    sym (take_more path (length path - 1) [] last) ∙ ap (λ n. take n path) all ∙ take-length path

pub parent_length : (path : List (List ℕ)) → 1 ≤ length path → suc (length (parent_path path)) ≡ length path
parent_length path some =
    let whole : length (parent_path path ++ last_name path ∷ []) ≡ length path = ap (λ (l : List (List ℕ)). length l) (path_parts path some) in
    omega (arith, length-append (parent_path path) (last_name path ∷ []))

-- a name that isn't found has a directory to stand in
pub not_the_root : (most : ℕ) (tree : Rows) → IsGoodTree most tree → (path : List (List ℕ)) → is_ok (walk tree path) ≡ false → 1 ≤ length path
not_the_root most tree good [] h = absurd (true≢false (sym (ap (λ o. is_ok (or_no_entry o (walked tree []))) good.root.1) ∙ h))
not_the_root most tree good (name ∷ names) h = omega arith

pub good_last : (path : List (List ℕ)) → 1 ≤ length path → is_good_path path ≡ true → is_good_name (last_name path) ≡ true
good_last path some h =
    let all : list_all is_good_name path ≡ true = (both_true (nat_le (length path) 16) _ h).1 in
    let parts : (list_all is_good_name (parent_path path) && (is_good_name (last_name path) && true)) ≡ true = sym (list_all-append is_good_name (parent_path path) (last_name path ∷ [])) ∙ ap (λ p. list_all is_good_name p) (path_parts path some) ∙ all in
    (both_true (is_good_name (last_name path)) true (both_true (list_all is_good_name (parent_path path)) _ parts).1).0

pub path_length : (path : List (List ℕ)) → is_good_path path ≡ true → length path ≤ 16
path_length path h = leb-true (length path) 16 (both_true (nat_le (length path) 16) _ h).0

-- where a path doesn't lead on from its directory, no row has its last name there
pub name_free : (most : ℕ) (tree : Rows) → IsGoodTree most tree → (path : List (List ℕ)) (up : Row) → walk tree (parent_path path) ≡ Ok up → up.kind ≡ Directory → is_ok (walk tree path) ≡ false → (ino : ℕ) (row : Row) → map.get tree ino ≡ Some row → ino ≢ ROOT → row.parent ≡ up.ino → row.name ≡ last_name path → ⊥
name_free most tree good path up leads kind none ino row there not_root parent name =
    let some = not_the_root most tree good path none in
    let last : is_ok (walked tree (last_name path ∷ []) up) ≡ false = ap (λ end. is_ok end) (sym (walk_last tree (parent_path path) (last_name path) up leads)) ∙ ap (λ p. is_ok (walk tree p)) (path_parts path some) ∙ none in
    let missing = none_found tree (stands_at up.ino (last_name path)) ino row (no_child tree (last_name path) up kind last) there in
    let other : row.ino ≢ ROOT = λ same. not_root (sym (good.keyed ino row there) ∙ same) in
    true≢false (sym (stands_true up.ino (last_name path) row other parent name) ∙ missing)
