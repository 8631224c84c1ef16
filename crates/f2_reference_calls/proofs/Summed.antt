-- Sums over rows, row by row.
use Rattle.std.proofs.Common.{◌≡◌, ℕ, ◌+◌, ◌<◌, Bor, List, ◌∷◌, length, drop, get_or, add-one, drop-cons, refl, sym, ap, ◌∙◌}
use Rattle.std.specs.List.{fold}
use Rattle.f2_model.specs.declared.rows.Row.{Row}
use Rattle.f2_reference_calls.specs.Given.{rows_at}

-- a sum that goes on over rows
abbrev pub more_of : (Row → ℕ) → ℕ → List Row → ℕ
more_of count sum rows = fold (λ total row. total + count row) sum rows

-- the rows that are left, the first of them before the others
pub next_count : (count : Row → ℕ) (sum : ℕ) (rows : List (Bor Row)) (i : ℕ) (row : Bor Row) → i < length rows → row ≡ get_or rows i row →
    more_of count sum (rows_at (drop i rows)) ≡ more_of count (sum + count row.now) (rows_at (drop (i + 1) rows))
next_count count sum rows i row below is =
    let behind = drop (i + 1) rows in
    let parted : drop i rows ≡ row ∷ behind = (rw (add-one, drop-cons rows i row) refl) ∙ ap (λ one. one ∷ behind) (sym is) in
    ap (λ left. more_of count sum (rows_at left)) parted
