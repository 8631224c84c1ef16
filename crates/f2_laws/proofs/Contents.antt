-- Pages stay good when pieces are put into a file, and when it is cut.
use Rattle.std.proofs.Common.{◌≡◌, ◌≢◌, ◌⊎◌, inl, inr, ℕ, zero, suc, ◌+◌, ◌-◌, ◌*◌, ◌/◌, ◌%◌, ◌<◌, ◌≤◌, Bool, true, false, cond, List, [], ◌∷◌, ◌++◌, length, take, drop, get_or, refl, sym, ap, subst, ◌∙◌, arith, append_assoc, length-append, length-take, length-drop, min, max, replicate, nat_lt}
use Rattle.std.specs.Prelude.{Option, Some, None, if◌then◌else◌, ◌==◌, slice_index, is_some}
use Rattle.std.specs.Option.{unwrap_or}
use Rattle.std.specs.List.{fold, list_any, range_with_len, AllByRecursion}
use Rattle.std.proofs.lemmas.List.{length-replicate, get_or-append_right, get_or-drop}
use Rattle.std.specs.FinMap as map
use Rattle.f2_model.specs.Content.{PAGE, PageMap, zero_page, page_of, filled, end_of, put_in_page, put_piece, put_pieces, raised_size, begins_before, cut_pages}
use Rattle.f2_model.specs.declared.requests.Piece.{Piece}
use Rattle.f2_laws.proofs.Maps.{get_put, get_put-other}
use Rattle.f2_laws.proofs.Walks.{some_same, some_none}
use Rattle.f2_laws.proofs.Places.{same_or_other}
use Rattle.f2_laws.proofs.Passed.{either_false}
use Rattle.std.proofs.lemmas.Bool.{eqb-true, eqb-false, ltb-true, ltb-false}

-- a page is whole, begins before a size, and has zeros past it
pub record IsGoodPage (size page : ℕ) (bytes : List ℕ) : Type 0 where
  pub whole : length bytes ≡ PAGE
  pub before : page * PAGE < size
  pub zeros : (at : ℕ) → size ≤ page * PAGE + at → slice_index bytes at ≡ 0

abbrev pub AreGoodPages : ℕ → PageMap → Type 0
AreGoodPages size pages = (page : ℕ) (bytes : List ℕ) → map.get pages page ≡ Some bytes → IsGoodPage size page bytes

length-front : (page : List ℕ) (from to byte : ℕ) → from ≤ to → to ≤ length page → length (take from page ++ replicate (to - from) byte) ≡ to
length-front page from to byte le most = omega (arith, length-append (take from page) (replicate (to - from) byte), length-take from page, length-replicate (to - from) byte)

pub length-filled : (page : List ℕ) (from to byte : ℕ) → from ≤ to → to ≤ length page → length (filled page from to byte) ≡ length page
length-filled page from to byte le most =
    omega (arith, length-append (take from page ++ replicate (to - from) byte) (drop to page), length-front page from to byte le most, length-drop to page)

-- past what was filled a page is as it was
pub filled_past : (page : List ℕ) (from to byte at : ℕ) → from ≤ to → to ≤ length page → to ≤ at → slice_index (filled page from to byte) at ≡ slice_index page at
filled_past page from to byte at le most past =
    let one : get_or (filled page from to byte) at 0 ≡ get_or (drop to page) (at - to) 0 = get_or-append_right (take from page ++ replicate (to - from) byte) (drop to page) to at 0 (length-front page from to byte le most) past in
    let two : get_or (drop to page) (at - to) 0 ≡ get_or page (to + (at - to)) 0 = get_or-drop to page (at - to) 0 in
    let where_is : to + (at - to) ≡ at = omega arith in
    one ∙ two ∙ ap (λ i. get_or page i 0) where_is

-- what was filled to the end with zeros is zero from there on
pub filled_zeros : (page : List ℕ) (from at : ℕ) → from ≤ length page → from ≤ at → slice_index (filled page from (length page) 0) at ≡ 0
filled_zeros page from at most past =
    let size = length page in
    let front : length (take from page) ≡ from = omega (arith, length-take from page) in
    let one : get_or ((take from page ++ replicate (size - from) 0) ++ drop size page) at 0 ≡ get_or (take from page ++ (replicate (size - from) 0 ++ drop size page)) at 0 = ap (λ l. get_or l at 0) (append_assoc (take from page) (replicate (size - from) 0) (drop size page)) in
    let two : get_or (take from page ++ (replicate (size - from) 0 ++ drop size page)) at 0 ≡ get_or (replicate (size - from) 0 ++ drop size page) (at - from) 0 = get_or-append_right (take from page) _ from at 0 front past in
    one ∙ two ∙ rest_zero (size - from) (at - from) (drop size page) (nothing_left size page refl)
  where
    nothing_left : (n : ℕ) (l : List ℕ) → n ≡ length l → length (drop n l) ≡ 0
    nothing_left n l e = omega (arith, length-drop n l)

    past_end : (l : List ℕ) (i : ℕ) → length l ≡ 0 → get_or l i 0 ≡ 0
    past_end [] i e = refl
    past_end (x ∷ xs) i e = absurd (omega arith)

    rest_zero : (n i : ℕ) (l : List ℕ) → length l ≡ 0 → get_or (replicate n 0 ++ l) i 0 ≡ 0
    rest_zero zero i l e = past_end l i e
    rest_zero (suc n) zero l e = refl
    rest_zero (suc n) (suc i) l e = rest_zero n i l e

pub past_end : (l : List ℕ) (at : ℕ) → length l ≤ at → slice_index l at ≡ 0
past_end [] at h = refl
past_end (x ∷ xs) zero h = absurd (omega arith)
past_end (x ∷ xs) (suc at) h = past_end xs at (omega arith)

zeros_at : (n at : ℕ) → slice_index (replicate n 0) at ≡ 0
zeros_at zero at = refl
zeros_at (suc n) zero = refl
zeros_at (suc n) (suc at) = zeros_at n at

length-zero_page : length zero_page ≡ PAGE
unfolding zero_page
length-zero_page = length-replicate {A = ℕ} PAGE 0

zero_page_at : (at : ℕ) → slice_index zero_page at ≡ 0
unfolding zero_page
zero_page_at at = zeros_at PAGE at

-- what a page reads as is whole, and zero past the size
page_read : (size : ℕ) (pages : PageMap) → AreGoodPages size pages → (page : ℕ) → (length (page_of pages page) ≡ PAGE) × ((at : ℕ) → size ≤ page * PAGE + at → slice_index (page_of pages page) at ≡ 0)
page_read size pages good page = by_get (map.get pages page) refl
  where
    by_get : (o : Option (List ℕ)) → map.get pages page ≡ o → (length (unwrap_or o zero_page) ≡ PAGE) × ((at : ℕ) → size ≤ page * PAGE + at → slice_index (unwrap_or o zero_page) at ≡ 0)
    by_get None e = (length-zero_page, λ at _. zero_page_at at)
    by_get (Some bytes) e = let g = good page bytes e in (g.whole, g.zeros)

-- a part of a page put keeps pages good, where it lies within the size
good_put_in : (size : ℕ) (piece : Piece) (pages : PageMap) (page : ℕ) → AreGoodPages size pages → end_of piece ≤ size → page * PAGE < end_of piece → piece.off < page * PAGE + PAGE → AreGoodPages size (put_in_page piece pages page)
good_put_in size piece pages page good within begins ends q bytes h = by_page (same_or_other q page)
  where
    by_page : (q ≡ page) ⊎ (q ≢ page) → IsGoodPage size q bytes
    by_page (inr other) = good q bytes (sym (get_put-other pages page _ q other) ∙ h)
    by_page (inl same) = subst (λ p. IsGoodPage size p bytes) (sym same) (new_page same)
      where
        new_page : q ≡ page → IsGoodPage size page bytes
        new_page same =
            let start = max piece.off (page * PAGE) - page * PAGE in
            let stop = min (piece.off + piece.len) (page * PAGE + PAGE) - page * PAGE in
            let read = page_read size pages good page in
            let old = page_of pages page in
            let old_length : length old ≡ PAGE = read.0 in
            let le : start ≤ stop = omega arith in
            let most : stop ≤ length old = omega arith in
            let is : bytes ≡ filled old start stop piece.byte = some_same (sym h ∙ ap (λ p. map.get (put_in_page piece pages page) p) same ∙ get_put pages page (filled old start stop piece.byte)) in
            let len : length bytes ≡ PAGE = ap (λ (l : List ℕ). length l) is ∙ length-filled old start stop piece.byte le most ∙ old_length in
            record {
              whole = len;
              before = omega arith;
              zeros = λ at past. ap (λ (l : List ℕ). slice_index l at) is ∙ filled_past old start stop piece.byte at le most (omega arith) ∙ read.1 at past;
            }

good_fold : (size : ℕ) (piece : Piece) → end_of piece ≤ size → (n a : ℕ) (pages : PageMap) → AreGoodPages size pages → ((page : ℕ) → a ≤ page → page < a + n → (page * PAGE < end_of piece) × (piece.off < page * PAGE + PAGE)) → AreGoodPages size (fold (put_in_page piece) pages (range_with_len a n))
good_fold size piece within zero a pages good each = good
good_fold size piece within (suc n) a pages good each =
    let here = each a (omega arith) (omega arith) in
    good_fold size piece within n (a + 1) (put_in_page piece pages a) (good_put_in size piece pages a good within here.0 here.1) (λ page from to. each page (omega arith) (omega arith))

-- a page between the first and the last that a piece reaches
reached : (off len page : ℕ) → len ≢ 0 → off / PAGE ≤ page → page < off / PAGE + ((off + len - 1) / PAGE - off / PAGE + 1) → (page * PAGE < off + len) × (off < page * PAGE + PAGE)
reached off len page some from to = (omega arith, omega arith)

good_piece : (size : ℕ) (pages : PageMap) (piece : Piece) → AreGoodPages size pages → end_of piece ≤ size → AreGoodPages size (put_piece pages piece)
good_piece size pages piece good within = by_len (piece.len == 0) refl
  where
    by_len : (b : Bool) → (piece.len == 0) ≡ b → AreGoodPages size (fold (put_in_page piece) pages (if b then [] else range_with_len (piece.off / PAGE) ((end_of piece - 1) / PAGE - piece.off / PAGE + 1)))
    by_len true e = good
    by_len false e =
        let some : piece.len ≢ 0 = eqb-false piece.len 0 e in
        good_fold size piece within _ (piece.off / PAGE) pages good (λ page from to. reached piece.off piece.len page some from to)

pub good_pieces : (size : ℕ) (pieces : List Piece) (pages : PageMap) → AreGoodPages size pages → AllByRecursion (λ (piece : Piece). end_of piece ≤ size) pieces → AreGoodPages size (put_pieces pages pieces)
good_pieces size [] pages good within = good
good_pieces size (piece ∷ pieces) pages good within = good_pieces size pieces (put_piece pages piece) (good_piece size pages piece good within.0) within.1

pub raised-le : (pieces : List Piece) (size : ℕ) → size ≤ raised_size size pieces
raised-le [] size = omega arith
raised-le (piece ∷ pieces) size = omega (arith, raised-le pieces (max size (end_of piece)))

pub raised_ends : (pieces : List Piece) (size most : ℕ) → raised_size size pieces ≤ most → AllByRecursion (λ (piece : Piece). end_of piece ≤ most) pieces
raised_ends [] size most h = tt
raised_ends (piece ∷ pieces) size most h = (omega (arith, raised-le pieces (max size (end_of piece))), raised_ends pieces (max size (end_of piece)) most h)

pub raised_within : (pieces : List Piece) (size most : ℕ) → size ≤ most → list_any (λ (piece : Piece). nat_lt most (end_of piece)) pieces ≡ false → raised_size size pieces ≤ most
raised_within [] size most h none = h
raised_within (piece ∷ pieces) size most h none =
    let parts = either_false (nat_lt most (end_of piece)) _ none in
    let end : end_of piece ≤ most = ltb-false most (end_of piece) parts.0 in
    raised_within pieces (max size (end_of piece)) most (omega arith) parts.1

-- a greater size keeps pages good
pub good_raised : (size greater : ℕ) (pages : PageMap) → size ≤ greater → AreGoodPages size pages → AreGoodPages greater pages
good_raised size greater pages le good page bytes h =
    let g = good page bytes h in
    let before : page * PAGE < size = g.before in
    record { whole = g.whole; before = omega arith; zeros = λ at past. g.zeros at (omega arith) }

-- where a page begins before a size, and it isn't the one that the size cuts, the size is at its end or past it
ends_before : (size page at : ℕ) → page * PAGE < size → (size % PAGE ≡ 0) ⊎ (page ≢ size / PAGE) → size ≤ page * PAGE + at → PAGE ≤ at
ends_before size page at begins (inl e) past = omega arith
ends_before size page at begins (inr e) past = omega arith

module _ (old size : ℕ) (pages : PageMap) (good : AreGoodPages old pages) where
  -- a page that is kept begins before the size, and was there
  kept_was : (page : ℕ) (bytes : List ℕ) → map.get (map.retain_keys pages (begins_before size)) page ≡ Some bytes → (page * PAGE < size) × (length bytes ≡ PAGE)
  kept_was page bytes h = by_test (begins_before size page) refl (sym (map.get-retain_keys pages (begins_before size) page (λ x t. ap (begins_before size) (sym (map.nat_cmp-IsAntisymmetric page x t)))) ∙ h)
    where
      by_test : (b : Bool) → begins_before size page ≡ b → cond b (map.get pages page) None ≡ Some bytes → (page * PAGE < size) × (length bytes ≡ PAGE)
      by_test true e h = (ltb-true (page * PAGE) size e, (good page bytes h).whole)
      by_test false e h = absurd (some_none (sym h))

  whole_page : (page : ℕ) (bytes : List ℕ) → (size % PAGE ≡ 0) ⊎ (page ≢ size / PAGE) → map.get (map.retain_keys pages (begins_before size)) page ≡ Some bytes → IsGoodPage size page bytes
  whole_page page bytes apart h =
      let was = kept_was page bytes h in
      let len : length bytes ≡ PAGE = was.1 in
      record { whole = len; before = was.0; zeros = λ at past. past_end bytes at (omega (arith, ends_before size page at was.0 apart past)) }

  -- the page that the size cuts
  cut_page : (page : ℕ) (bytes read : List ℕ) → page ≡ size / PAGE → size % PAGE ≢ 0 → length read ≡ PAGE → bytes ≡ filled read (size % PAGE) PAGE 0 → IsGoodPage size page bytes
  cut_page page bytes read here some whole is =
      let inside : size % PAGE ≤ length read = omega arith in
      let to_end : bytes ≡ filled read (size % PAGE) (length read) 0 = is ∙ ap (λ n. filled read (size % PAGE) n 0) (sym whole) in
      record {
        whole = ap (λ (l : List ℕ). length l) is ∙ length-filled read (size % PAGE) PAGE 0 (omega arith) (omega arith) ∙ whole;
        before = omega arith;
        zeros = λ at past. ap (λ (l : List ℕ). slice_index l at) to_end ∙ filled_zeros read (size % PAGE) at inside (omega arith);
      }

  good_cut_within : size % PAGE ≢ 0 → (o : Option (List ℕ)) → map.get (map.retain_keys pages (begins_before size)) (size / PAGE) ≡ o →
      AreGoodPages size (if is_some o then map.insert (map.retain_keys pages (begins_before size)) (size / PAGE) (filled (unwrap_or o zero_page) (size % PAGE) PAGE 0) else map.retain_keys pages (begins_before size))
  good_cut_within some None e page bytes h = whole_page page bytes (inr (λ same. some_none (sym (sym e ∙ ap (λ p. map.get (map.retain_keys pages (begins_before size)) p) (sym same) ∙ h)))) h
  good_cut_within some (Some read) e page bytes h = by_page (same_or_other page (size / PAGE))
    where
      by_page : (page ≡ size / PAGE) ⊎ (page ≢ size / PAGE) → IsGoodPage size page bytes
      by_page (inl same) =
          cut_page page bytes read same some (kept_was (size / PAGE) read e).1
          (some_same (sym h ∙ ap (λ p. map.get (map.insert (map.retain_keys pages (begins_before size)) (size / PAGE) (filled read (size % PAGE) PAGE 0)) p) same ∙ get_put _ (size / PAGE) (filled read (size % PAGE) PAGE 0)))
      by_page (inr other) = whole_page page bytes (inr other) (sym (get_put-other (map.retain_keys pages (begins_before size)) (size / PAGE) (filled read (size % PAGE) PAGE 0) page other) ∙ h)

  pub good_cut : AreGoodPages size (cut_pages pages size)
  good_cut = by_test (size % PAGE == 0) refl
    where
      by_test : (b : Bool) → (size % PAGE == 0) ≡ b → AreGoodPages size (if b then map.retain_keys pages (begins_before size) else
          (if map.contains_key (map.retain_keys pages (begins_before size)) (size / PAGE) then map.insert (map.retain_keys pages (begins_before size)) (size / PAGE) (filled (page_of (map.retain_keys pages (begins_before size)) (size / PAGE)) (size % PAGE) PAGE 0) else map.retain_keys pages (begins_before size)))
      by_test true e = λ page bytes h. whole_page page bytes (inl (eqb-true (size % PAGE) 0 e)) h
      by_test false e = good_cut_within (eqb-false (size % PAGE) 0 e) (map.get (map.retain_keys pages (begins_before size)) (size / PAGE)) refl
