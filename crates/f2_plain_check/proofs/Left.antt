-- Rows that are left of a list, one after another.
use Rattle.std.proofs.Common.{◌≡◌, ◌↔◌, ℕ, ◌+◌, ◌<◌, ◌≤◌, Bor, List, ◌∷◌, length, drop, get_or, add-one, drop-cons, refl, sym, ap, subst, ◌∙◌}
use Rattle.std.specs.Prelude.{All}
use Rattle.std.proofs.lemmas.List.Elements.{All-nil, All-cons, All-head, All-tail}
use Rattle.std.proofs.lemmas.List.{at_drop_all}
use Rattle.f2_model.specs.declared.rows.Row.{Row}
use Rattle.f2_reference_calls.specs.Given.{rows_at}

-- the rows that are left, the first of them before the others
pub next_row : (rows : List (Bor Row)) (i : ℕ) (row : Bor Row) → i < length rows → row ≡ get_or rows i row → rows_at (drop i rows) ≡ row.now ∷ rows_at (drop (i + 1) rows)
next_row rows i row inside is =
    let behind = drop (i + 1) rows in
    let parted : drop i rows ≡ row ∷ behind = (rw (add-one, drop-cons rows i row) refl) ∙ ap (λ one. one ∷ behind) (sym is) in
    ap rows_at parted

-- the rows that are left decide whether all of them are so
abbrev pub Decide : (Row → Type 0) → List (Bor Row) → ℕ → Type 0
Decide P rows i = All P (rows_at (drop i rows)) ↔ All P (rows_at rows)

module _ (P : Row → Type 0) (rows : List (Bor Row)) (i : ℕ) (now : Decide P rows i) where
  module _ (row : Bor Row) (inside : i < length rows) (is : row ≡ get_or rows i row) where
    parted : rows_at (drop i rows) ≡ row.now ∷ rows_at (drop (i + 1) rows)
    parted = next_row rows i row inside is

    -- a row that is so, and one that isn't
    pub so_far : P row.now → Decide P rows (i + 1)
    so_far here = (
      λ rest. now.0 (subst (All P) (sym parted) (All-cons P row.now (rows_at (drop (i + 1) rows)) here rest)),
      λ all. All-tail P row.now (rows_at (drop (i + 1) rows)) (subst (All P) parted (now.1 all)),
    )

    pub is_so : All P (rows_at rows) → P row.now
    is_so all = All-head P row.now (rows_at (drop (i + 1) rows)) (subst (All P) parted (now.1 all))

  -- no row is left
  pub all_so : length rows ≤ i → All P (rows_at rows)
  all_so past = now.0 (subst (All P) (sym (at_drop_all rows_at rows i past)) (All-nil P))
