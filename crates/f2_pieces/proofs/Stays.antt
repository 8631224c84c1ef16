-- Pages that are there stay while pieces are put.
use Rattle.std.proofs.Common.{◌≡◌, ℕ, ◌+◌, ◌<◌, Bool, true, false, cond, List, [], ◌∷◌, length, drop, get_or, add-one, drop-cons, refl, sym, ap, ◌∙◌}
use Rattle.std.specs.Prelude.{Some, is_some}
use Rattle.std.specs.List.{fold}
use Rattle.std.specs.Cmp.{nat_cmp_total}
use Rattle.std.specs.FinMap as map
use Rattle.std.specs.FinMap.{get-insert}
use Rattle.f2_model.specs.Content.{PageMap, pages_of_piece, put_in_page, put_piece, put_pieces}
use Rattle.f2_model.specs.declared.requests.Piece.{Piece}
use Rattle.f2_pieces.specs.Held.{HasPagesOf}
use Rattle.f2_pieces.proofs.Same.{is_same, same_itself}

-- a page that was put is there, and so is each that was there before
pub has_put : (pages : PageMap) (page : ℕ) (content : List ℕ) → map.contains_key (map.insert pages page content) page ≡ true
has_put pages page content = ap is_some (get-insert nat_cmp_total pages page content page) ∙ ap (λ b. is_some (cond b (Some content) (map.get pages page))) (same_itself page)

pub has_kept : (pages : PageMap) (page : ℕ) (content : List ℕ) (other : ℕ) → map.contains_key pages other ≡ true → map.contains_key (map.insert pages page content) other ≡ true
has_kept pages page content other there = ap is_some (get-insert nat_cmp_total pages page content other) ∙ by_same (is_same other page)
  where
    by_same : (b : Bool) → is_some (cond b (Some content) (map.get pages other)) ≡ true
    by_same true = refl
    by_same false = there

pub page_stays : (piece : Piece) (pages : PageMap) (page : ℕ) → HasPagesOf (put_in_page piece pages page) pages
page_stays piece pages page other there = has_kept pages page _ other there

numbers_stay : (piece : Piece) (pages : PageMap) (numbers : List ℕ) → HasPagesOf (fold (put_in_page piece) pages numbers) pages
numbers_stay piece pages [] other there = there
numbers_stay piece pages (page ∷ numbers) other there = numbers_stay piece (put_in_page piece pages page) numbers other (page_stays piece pages page other there)

pub piece_stays : (piece : Piece) (pages : PageMap) → HasPagesOf (put_piece pages piece) pages
piece_stays piece pages = numbers_stay piece pages (pages_of_piece piece)

pieces_stay : (pages : PageMap) (pieces : List Piece) → HasPagesOf (put_pieces pages pieces) pages
pieces_stay pages [] other there = there
pieces_stay pages (piece ∷ pieces) other there = pieces_stay (put_piece pages piece) pieces other (piece_stays piece pages other there)

-- where all pages of the outcome are there, so is the next page, and so are those of the next piece
pub next_page_there : (piece : Piece) (pages goal : PageMap) (page : ℕ) (numbers : List ℕ) → fold (put_in_page piece) pages (page ∷ numbers) ≡ goal → HasPagesOf pages goal → map.contains_key pages page ≡ true
next_page_there piece pages goal page numbers comes has =
    has page (ap (λ m. map.contains_key m page) (sym comes) ∙ numbers_stay piece (put_in_page piece pages page) numbers page (has_put pages page _))

pub next_piece_there : (pages goal : PageMap) (piece : Piece) (pieces : List Piece) → put_pieces pages (piece ∷ pieces) ≡ goal → HasPagesOf pages goal → HasPagesOf pages (put_piece pages piece)
next_piece_there pages goal piece pieces comes has page there =
    has page (ap (λ m. map.contains_key m page) (sym comes) ∙ pieces_stay (put_piece pages piece) pieces page there)

-- the pieces that are left, the first of them before the others
pub next_piece : (pages : PageMap) (pieces : List Piece) (i : ℕ) (other : Piece) → i < length pieces → put_pieces pages (drop i pieces) ≡ put_pieces (put_piece pages (get_or pieces i other)) (drop (i + 1) pieces)
next_piece pages pieces i other below =
    let parted : drop i pieces ≡ get_or pieces i other ∷ drop (i + 1) pieces = rw (add-one, drop-cons pieces i other) in
    ap (put_pieces pages) parted
