-- The pages that pieces bring, put one after another.
use Rattle.std.proofs.Common.{◌≡◌, ℕ, ◌+◌, Bool, true, false, cond, List, [], ◌∷◌, length, map as map_list, refl, sym, ap, ◌∙◌, arith}
use Rattle.std.specs.Prelude.{suc, None, is_some, if◌then◌else◌}
use Rattle.std.specs.List.{fold}
use Rattle.std.specs.Ordering.{nat_cmp}
use Rattle.std.specs.Cmp.{nat_cmp_total}
use Rattle.std.specs.BTreeSet.{insert_key}
use Rattle.std.specs.FinMap as map
use Rattle.std.specs.FinMap.{entries, len-entries, len-empty, len-insert}
use Rattle.f2_model.specs.Content.{PageMap, pages_of_piece, put_in_page, put_piece, put_pieces}
use Rattle.f2_model.specs.declared.requests.Piece.{Piece}
use Rattle.f2_pieces.specs.Fresh.{fresh_pages}
use Rattle.f2_pieces.specs.Absent.{with_absent, with_absent_of}
use Rattle.f2_pieces.specs.Held.{HasPagesOf}
use Rattle.f2_pieces.proofs.Stays.{has_kept}
use Rattle.f2_pieces.proofs.Parts.{outside, keys-outside, keys-insert, get-outside, outside_itself, outside_held, outside_new, none_outside}

-- what is known of pages that grow from those of a file: each page of the file stays, and the others are counted
record IsGrown (pages grown : PageMap) : Type 0 where
  stays : HasPagesOf grown pages
  counts : map.len grown ≡ map.len pages + map.len (outside pages grown)

module _ (pages : PageMap) where
  -- one page more
  one_absent : (grown : PageMap) (page : ℕ) (content : List ℕ) → (if map.contains_key pages page then map.keys (outside pages grown) else insert_key nat_cmp (map.keys (outside pages grown)) page) ≡ map.keys (outside pages (map.insert grown page content))
  one_absent grown page content = by_held (map.contains_key pages page) refl
    where
      by_held : (b : Bool) → map.contains_key pages page ≡ b → (if b then map.keys (outside pages grown) else insert_key nat_cmp (map.keys (outside pages grown)) page) ≡ map.keys (outside pages (map.insert grown page content))
      by_held true held = ap map.keys (sym (outside_held pages grown page content held))
      by_held false absent = sym (keys-insert (outside pages grown) page content) ∙ ap map.keys (sym (outside_new pages grown page content absent))

  grown_itself : IsGrown pages pages
  grown_itself =
      let none : map.len (outside pages pages) ≡ 0 = ap map.len (outside_itself pages) ∙ len-empty nat_cmp (List ℕ) in
      record { stays = λ page there. there; counts = omega (arith, none) }

  one_grown : (grown : PageMap) (page : ℕ) (content : List ℕ) → IsGrown pages grown → IsGrown pages (map.insert grown page content)
  one_grown grown page content is = record {
    stays = λ other there. has_kept grown page content other (is.stays other there);
    counts = len-insert nat_cmp_total grown page content ∙ by_held (map.contains_key pages page) refl;
  }
    where
      by_there : (b : Bool) (now more : ℕ) → now ≡ map.len pages + more → cond b now (now + 1) ≡ map.len pages + cond b more (more + 1)
      by_there true now more e = e
      by_there false now more e = omega arith

      by_held : (b : Bool) → map.contains_key pages page ≡ b → cond (map.contains_key grown page) (map.len grown) (map.len grown + 1) ≡ map.len pages + map.len (outside pages (map.insert grown page content))
      by_held true held =
          ap (λ b. cond b (map.len grown) (map.len grown + 1)) (is.stays page held)
          ∙ is.counts
          ∙ ap (λ m. map.len pages + map.len m) (sym (outside_held pages grown page content held))
      by_held false absent =
          let more = map.len (outside pages grown) in
          let there : map.contains_key (outside pages grown) page ≡ map.contains_key grown page = ap is_some (get-outside pages grown page) ∙ ap (λ b. is_some (cond b None (map.get grown page))) absent in
          by_there (map.contains_key grown page) (map.len grown) more is.counts
          ∙ ap (λ b. map.len pages + cond b more (more + 1)) (sym there)
          ∙ ap (λ n. map.len pages + n) (sym (len-insert nat_cmp_total (outside pages grown) page content))
          ∙ ap (λ m. map.len pages + map.len m) (sym (outside_new pages grown page content absent))

  -- the pages that one piece reaches
  piece_absent : (piece : Piece) (grown : PageMap) (numbers : List ℕ) → with_absent pages (map.keys (outside pages grown)) numbers ≡ map.keys (outside pages (fold (put_in_page piece) grown numbers))
  piece_absent piece grown [] = refl
  piece_absent piece grown (page ∷ numbers) =
      ap (λ left. with_absent pages left numbers) (one_absent grown page _)
      ∙ piece_absent piece (put_in_page piece grown page) numbers

  piece_grown : (piece : Piece) (grown : PageMap) (numbers : List ℕ) → IsGrown pages grown → IsGrown pages (fold (put_in_page piece) grown numbers)
  piece_grown piece grown [] is = is
  piece_grown piece grown (page ∷ numbers) is = piece_grown piece (put_in_page piece grown page) numbers (one_grown grown page _ is)

  -- the pages that pieces reach
  pieces_absent : (grown : PageMap) (pieces : List Piece) → with_absent_of pages (map.keys (outside pages grown)) pieces ≡ map.keys (outside pages (put_pieces grown pieces))
  pieces_absent grown [] = refl
  pieces_absent grown (piece ∷ pieces) =
      ap (λ left. with_absent_of pages left pieces) (piece_absent piece grown (pages_of_piece piece))
      ∙ pieces_absent (put_piece grown piece) pieces

  pieces_grown : (grown : PageMap) (pieces : List Piece) → IsGrown pages grown → IsGrown pages (put_pieces grown pieces)
  pieces_grown grown [] is = is
  pieces_grown grown (piece ∷ pieces) is = pieces_grown (put_piece grown piece) pieces (piece_grown piece grown (pages_of_piece piece) is)

  -- the fresh pages, as they are found
  pub absent_fresh : (pieces : List Piece) → with_absent_of pages [] pieces ≡ fresh_pages pages pieces
  absent_fresh pieces =
      ap (λ left. with_absent_of pages left pieces) (none_outside pages)
      ∙ pieces_absent pages pieces
      ∙ keys-outside pages (put_pieces pages pieces)

  -- a file keeps its pages, and grows by the fresh ones
  pub put_stays : (pieces : List Piece) → HasPagesOf (put_pieces pages pieces) pages
  put_stays pieces = (pieces_grown pages pieces grown_itself).stays

  pub put_counts : (pieces : List Piece) → map.len (put_pieces pages pieces) ≡ map.len pages + length (fresh_pages pages pieces)
  put_counts pieces =
      let grown = outside pages (put_pieces pages pieces) in
      let counted : map.len grown ≡ length (fresh_pages pages pieces) = len-entries grown ∙ sym (length_numbers (entries grown)) ∙ ap length (keys-outside pages (put_pieces pages pieces)) in
      (pieces_grown pages pieces grown_itself).counts ∙ ap (λ n. map.len pages + n) counted
    where
      length_numbers : (es : List (ℕ × List ℕ)) → length (map_list (λ e. e.0) es) ≡ length es
      length_numbers [] = refl
      length_numbers (e ∷ es) = ap (λ n. suc n) (length_numbers es)
