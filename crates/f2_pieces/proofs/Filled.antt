-- Pieces put over a file that has zeros at its fresh pages already.
use Rattle.std.proofs.Common.{◌≡◌, ℕ, ◌+◌, ◌-◌, ◌*◌, min, max, Bool, true, false, cond, List, [], ◌∷◌, refl, sym, ap, subst, ◌∙◌, true≢false}
use Rattle.std.specs.Prelude.{Option, Some, None, is_some}
use Rattle.std.specs.Option.{unwrap_or}
use Rattle.std.specs.List.{fold}
use Rattle.std.specs.Cmp.{nat_cmp_total}
use Rattle.std.specs.FinMap as map
use Rattle.std.specs.FinMap.{contains_key-keys, get-insert, same_map, nat_cmp-IsAntisymmetric}
use Rattle.f2_model.specs.Content.{PAGE, PageMap, zero_page, end_of, filled, page_of, pages_of_piece, put_in_page, put_piece, put_pieces}
use Rattle.f2_model.specs.declared.requests.Piece.{Piece}
use Rattle.f2_pieces.specs.Fresh.{fresh_pages}
use Rattle.f2_pieces.specs.Held.{HasPagesOf}
use Rattle.f2_pieces.specs.Zeros.{with_zeros, without}
use Rattle.f2_pieces.proofs.Same.{is_same}
use Rattle.f2_pieces.proofs.Parts.{outside, keys-outside, get-outside}
use Rattle.f2_pieces.proofs.Zeroed.{is_among, get-with_zeros, without_absent}

-- some pages are others with a page at each of some numbers too, which reads the same
IsPadded : List ℕ → PageMap → PageMap → Type 0
IsPadded numbers pages padded = (page : ℕ) → map.get padded page ≡ cond (is_among numbers page) (Some (page_of pages page)) (map.get pages page)

module _ (numbers : List ℕ) where
  reads : (pages padded : PageMap) → IsPadded numbers pages padded → (page : ℕ) → page_of padded page ≡ page_of pages page
  unfolding IsPadded
  reads pages padded is page = ap (λ found. unwrap_or found zero_page) (is page) ∙ by_among (is_among numbers page)
    where
      by_among : (b : Bool) → unwrap_or (cond b (Some (page_of pages page)) (map.get pages page)) zero_page ≡ page_of pages page
      by_among true = refl
      by_among false = refl

  insert_padded : (pages padded : PageMap) (page : ℕ) (content : List ℕ) → IsPadded numbers pages padded → IsPadded numbers (map.insert pages page content) (map.insert padded page content)
  unfolding IsPadded
  insert_padded pages padded page content is q =
      get-insert nat_cmp_total padded page content q
      ∙ ap (cond (is_same q page) (Some content)) (is q)
      ∙ by_tests (is_same q page) (is_among numbers q) (map.get pages q)
      ∙ sym (ap (λ found. cond (is_among numbers q) (Some (unwrap_or found zero_page)) found) (get-insert nat_cmp_total pages page content q))
    where
      by_tests : (same among : Bool) (found : Option (List ℕ)) → cond same (Some content) (cond among (Some (unwrap_or found zero_page)) found) ≡ cond among (Some (unwrap_or (cond same (Some content) found) zero_page)) (cond same (Some content) found)
      by_tests true true found = refl
      by_tests true false found = refl
      by_tests false among found = refl

  page_padded : (piece : Piece) (pages padded : PageMap) (page : ℕ) → IsPadded numbers pages padded → IsPadded numbers (put_in_page piece pages page) (put_in_page piece padded page)
  page_padded piece pages padded page is =
      let from = max piece.off (page * PAGE) - page * PAGE in
      let to = min (end_of piece) (page * PAGE + PAGE) - page * PAGE in
      subst (λ content. IsPadded numbers (put_in_page piece pages page) (map.insert padded page (filled content from to piece.byte))) (sym (reads pages padded is page))
      (insert_padded pages padded page (filled (page_of pages page) from to piece.byte) is)

  piece_padded : (piece : Piece) (pages padded : PageMap) (reached : List ℕ) → IsPadded numbers pages padded → IsPadded numbers (fold (put_in_page piece) pages reached) (fold (put_in_page piece) padded reached)
  piece_padded piece pages padded [] is = is
  piece_padded piece pages padded (page ∷ reached) is = piece_padded piece (put_in_page piece pages page) (put_in_page piece padded page) reached (page_padded piece pages padded page is)

  pieces_padded : (pages padded : PageMap) (pieces : List Piece) → IsPadded numbers pages padded → IsPadded numbers (put_pieces pages pieces) (put_pieces padded pieces)
  pieces_padded pages padded [] is = is
  pieces_padded pages padded (piece ∷ pieces) is = pieces_padded (put_piece pages piece) (put_piece padded piece) pieces (piece_padded piece pages padded (pages_of_piece piece) is)

module _ (pages : PageMap) (pieces : List Piece) where
  -- the fresh pages are those of the outcome that the file doesn't have
  among-fresh : (page : ℕ) → is_among (fresh_pages pages pieces) page ≡ is_some (cond (map.contains_key pages page) None (map.get (put_pieces pages pieces) page))
  among-fresh page =
      ap (λ numbers. is_among numbers page) (sym (keys-outside pages (put_pieces pages pieces)))
      ∙ sym (contains_key-keys (outside pages (put_pieces pages pieces)) page)
      ∙ ap is_some (get-outside pages (put_pieces pages pieces) page)

  fresh_absent : (page : ℕ) → is_among (fresh_pages pages pieces) page ≡ true → map.get pages page ≡ None
  fresh_absent page among = by_found (map.get pages page) (sym (among-fresh page) ∙ among)
    where
      by_found : (found : Option (List ℕ)) → is_some (cond (is_some found) None (map.get (put_pieces pages pieces) page)) ≡ true → found ≡ None
      by_found None there = refl
      by_found (Some content) there = absurd (true≢false (sym there))

  -- to take the fresh pages out changes nothing
  pub without_fresh : without pages (fresh_pages pages pieces) ≡ pages
  without_fresh = without_absent pages (fresh_pages pages pieces) fresh_absent

  -- with the fresh pages, all pages of the outcome are there
  pub zeros_have : HasPagesOf (with_zeros pages (fresh_pages pages pieces)) (put_pieces pages pieces)
  zeros_have page there =
      ap is_some (get-with_zeros pages (fresh_pages pages pieces) page)
      ∙ ap (λ b. is_some (cond b (Some zero_page) (map.get pages page))) (among-fresh page)
      ∙ by_found (map.get pages page) (map.get (put_pieces pages pieces) page) there
    where
      by_found : (found put : Option (List ℕ)) → is_some put ≡ true → is_some (cond (is_some (cond (is_some found) None put)) (Some zero_page) found) ≡ true
      by_found (Some content) put there = refl
      by_found None put there = ap (λ b. is_some (cond b (Some zero_page) None)) there

  zeros_padded : IsPadded (fresh_pages pages pieces) pages (with_zeros pages (fresh_pages pages pieces))
  unfolding IsPadded
  zeros_padded page = get-with_zeros pages (fresh_pages pages pieces) page ∙ by_among (is_among (fresh_pages pages pieces) page) refl
    where
      by_among : (b : Bool) → is_among (fresh_pages pages pieces) page ≡ b → cond b (Some zero_page) (map.get pages page) ≡ cond b (Some (page_of pages page)) (map.get pages page)
      by_among true among = ap (λ found. Some (unwrap_or found zero_page)) (sym (fresh_absent page among))
      by_among false apart = refl

  -- pieces put over zeros at the fresh pages come to the same
  pub over_zeros : put_pieces (with_zeros pages (fresh_pages pages pieces)) pieces ≡ put_pieces pages pieces
  unfolding IsPadded
  over_zeros = same_map nat_cmp_total nat_cmp-IsAntisymmetric _ _ (λ page.
      pieces_padded (fresh_pages pages pieces) pages (with_zeros pages (fresh_pages pages pieces)) pieces zeros_padded page
      ∙ ap (λ b. cond b (Some (page_of (put_pieces pages pieces) page)) (map.get (put_pieces pages pieces) page)) (among-fresh page)
      ∙ by_found (map.contains_key pages page) (map.get (put_pieces pages pieces) page))
    where
      by_found : (held : Bool) (put : Option (List ℕ)) → cond (is_some (cond held None put)) (Some (unwrap_or put zero_page)) put ≡ put
      by_found true put = refl
      by_found false None = refl
      by_found false (Some content) = refl
