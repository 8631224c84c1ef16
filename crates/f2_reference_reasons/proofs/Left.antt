-- What is left of a list in a walk over it: its first item before the others.
use Rattle.std.proofs.Common.{◌≡◌, ◌==◌, ℕ, ◌+◌, ◌<◌, Bor, Bool, true, false, cond, not, ◌||◌, ◌++◌, List, [], ◌∷◌, map, length, drop, get_or, add-one, drop-cons, refl, sym, ap, ◌∙◌}
use Rattle.std.specs.List.{fold, filter, list_any}
use Rattle.f2_model.specs.declared.rows.Row.{Row}
use Rattle.f2_model.specs.Fallback.{Both, sum_of}
use Rattle.f2_model.specs.Tree.{is_directory}
use Rattle.f2_reference_calls.specs.Given.{rows_at}
use Rattle.f2_reference_state.specs.Parts.{mark_of}
use Rattle.f2_reference_state.specs.declared.marks.Mark.{Mark}

parted : {A : Type 0} (xs : List A) (i : ℕ) (x : A) → i < length xs → x ≡ get_or xs i x → drop i xs ≡ x ∷ drop (i + 1) xs
parted xs i x below is = (rw (add-one, drop-cons xs i x) refl) ∙ ap (λ one. one ∷ drop (i + 1) xs) (sym is)

-- a walk that gathers something of each item
pub next_item : {A B : Type 0} (f : B → A → B) (b : B) (xs : List A) (i : ℕ) (x : A) → i < length xs → x ≡ get_or xs i x → fold f b (drop i xs) ≡ fold f (f b x) (drop (i + 1) xs)
next_item f b xs i x below is = ap (fold f b) (parted xs i x below is)

pub next_row : {B : Type 0} (f : B → Row → B) (b : B) (rows : List (Bor Row)) (i : ℕ) (row : Bor Row) → i < length rows → row ≡ get_or rows i row
    → fold f b (rows_at (drop i rows)) ≡ fold f (f b row.now) (rows_at (drop (i + 1) rows))
next_row f b rows i row below is = ap (λ left. fold f b (rows_at left)) (parted rows i row below is)

-- the inos of the directories among rows
abbrev pub directories_at : List Row → List ℕ
directories_at rows = map (λ row. row.ino) (filter (λ row. is_directory row.kind) rows)

first_directory : {B : Type 0} (f : B → ℕ → B) (b : B) (row : Row) (rest : List Row) → fold f b (directories_at (row ∷ rest)) ≡ fold f (cond (is_directory row.kind) (f b row.ino) b) (directories_at rest)
first_directory f b row rest =
    elim (is_directory row.kind) as (λ t. fold f b (map (λ (x : Row). x.ino) (cond t (row ∷ filter (λ x. is_directory x.kind) rest) (filter (λ x. is_directory x.kind) rest))) ≡ fold f (cond t (f b row.ino) b) (directories_at rest))
    [ true ↦ refl | false ↦ refl ]

pub next_directory : {B : Type 0} (f : B → ℕ → B) (b : B) (rows : List (Bor Row)) (i : ℕ) (row : Bor Row) → i < length rows → row ≡ get_or rows i row
    → fold f b (directories_at (rows_at (drop i rows))) ≡ fold f (cond (is_directory row.now.kind) (f b row.now.ino) b) (directories_at (rows_at (drop (i + 1) rows)))
next_directory f b rows i row below is = ap (λ left. fold f b (directories_at (rows_at left))) (parted rows i row below is) ∙ first_directory f b row.now (rows_at (drop (i + 1) rows))

-- a test of rows and a part of them, through references
pub filtered : (p : Row → Bool) (rows : List (Bor Row)) → rows_at (filter (λ row. p row.now) rows) ≡ filter p (rows_at rows)
filtered p [] = refl
filtered p (row ∷ rows) =
    elim (p row.now) as (λ t. rows_at (cond t (row ∷ filter (λ x. p x.now) rows) (filter (λ x. p x.now) rows)) ≡ cond t (row.now ∷ filter p (rows_at rows)) (filter p (rows_at rows)))
    [ true ↦ ap (λ rest. row.now ∷ rest) (filtered p rows) | false ↦ filtered p rows ]

pub inos_at : (rows : List (Bor Row)) → map (λ row. row.now.ino) rows ≡ map (λ row. row.ino) (rows_at rows)
inos_at [] = refl
inos_at (row ∷ rows) = ap (λ rest. row.now.ino ∷ rest) (inos_at rows)

-- a test of the rows of marks
pub any_marks : (p : Row → Bool) (marks : List Mark) → list_any (λ mark. p mark.row) marks ≡ list_any p (map (λ mark. mark.row) (map mark_of marks))
any_marks p [] = refl
any_marks p (mark ∷ marks) = ap (λ rest. p mark.row || rest) (any_marks p marks)

-- a test that no first row passes
pub any_behind : (p : Row → Bool) (xs ys : List Row) → list_any p xs ≡ false → list_any p (xs ++ ys) ≡ list_any p ys
any_behind p [] ys none = refl
any_behind p (x ∷ xs) ys none = passed (p x) (list_any p xs) (list_any p (xs ++ ys)) none (any_behind p xs ys)
  where
    passed : (a b c : Bool) → (a || b) ≡ false → (b ≡ false → c ≡ list_any p ys) → (a || c) ≡ list_any p ys
    passed true b c none rest = cc
    passed false b c none rest = rest none
