-- Maps of pages with some put in or taken out.
use Rattle.std.proofs.Common.{◌≡◌, ◌≢◌, ◌⊎◌, inl, inr, ℕ, Bool, true, false, cond, not, ◌&&◌, ◌||◌, List, [], ◌∷◌, ◌++◌, refl, sym, ap, ◌∙◌}
use Rattle.std.specs.Prelude.{Option, Some, None, is_some, if◌then◌else◌}
use Rattle.std.specs.List.{filter, fold, flat_map, list_any}
use Rattle.std.specs.Ordering.{nat_cmp, eq_by_cmp}
use Rattle.std.specs.Cmp.{nat_cmp_total, unsigned_tied}
use Rattle.std.specs.FinMap as map
use Rattle.std.specs.FinMap.{FinMap, nat_cmp-IsAntisymmetric, get-remove}
use Rattle.std.proofs.lemmas.Bool.{ne_eqb, eq-eqb, eqb-true}
use Rattle.f2_laws.proofs.Maps.{get_put, get_put-other}
use Rattle.f2_laws.proofs.Places.{same_or_other}
use Rattle.f2_model.specs.Content.{PageMap, pages_of_piece, put_in_page, put_piece, put_pieces}
use Rattle.f2_model.specs.declared.requests.Piece.{Piece}
use Rattle.f2_files.specs.Shape.{with_page, with_all_pages, without_all_pages}

abbrev pub Addressed : Type 0
Addressed = FinMap nat_cmp ℕ

has : List ℕ → ℕ → Bool
has [] q = false
has (x ∷ xs) q = eq_by_cmp nat_cmp q x || has xs q

get-without : (xs : List ℕ) (m : Addressed) (q : ℕ) → map.get (without_all_pages m xs) q ≡ cond (has xs q) None (map.get m q)
unfolding has
get-without [] m q = refl
get-without (x ∷ xs) m q = get-without xs (map.remove m x) q ∙ ap (cond (has xs q) None) (get-remove nat_cmp_total m x q) ∙ either (eq_by_cmp nat_cmp q x) (has xs q) (map.get m q)
  where
    either : (a b : Bool) (o : Option ℕ) → cond b None (cond a None o) ≡ cond (a || b) None o
    either true true o = refl
    either true false o = refl
    either false b o = refl

has-more : (xs : List ℕ) (n q : ℕ) → has (xs ++ n ∷ []) q ≡ (has xs q || eq_by_cmp nat_cmp q n)
unfolding has
has-more [] n q = or_false (eq_by_cmp nat_cmp q n)
  where
    or_false : (a : Bool) → (a || false) ≡ a
    or_false true = refl
    or_false false = refl
has-more (x ∷ xs) n q = ap (λ b. eq_by_cmp nat_cmp q x || b) (has-more xs n q) ∙ either (eq_by_cmp nat_cmp q x) (has xs q) (eq_by_cmp nat_cmp q n)
  where
    either : (a b c : Bool) → (a || (b || c)) ≡ ((a || b) || c)
    either true b c = refl
    either false b c = refl

-- a page that wasn't there, put and taken out again
pub undone_more : (m : Addressed) (added : List ℕ) (n : ℕ) → map.get m n ≡ None → without_all_pages (map.insert m n 0) (added ++ n ∷ []) ≡ without_all_pages m added
undone_more m added n free = map.same_map nat_cmp_total nat_cmp-IsAntisymmetric _ _ (λ q.
    get-without (added ++ n ∷ []) (map.insert m n 0) q ∙ ap (λ b. cond b None (map.get (map.insert m n 0) q)) (has-more added n q)
    ∙ by_page q (same_or_other q n) ∙ sym (get-without added m q))
  where
    none : (a : Bool) → ◌≡◌ {A = Option ℕ} None (cond a None None)
    none true = refl
    none false = refl

    or_true : (a : Bool) → (a || true) ≡ true
    or_true true = refl
    or_true false = refl

    or_false : (a : Bool) → (a || false) ≡ a
    or_false true = refl
    or_false false = refl

    by_page : (q : ℕ) → (q ≡ n) ⊎ (q ≢ n) → cond (has added q || eq_by_cmp nat_cmp q n) None (map.get (map.insert m n 0) q) ≡ cond (has added q) None (map.get m q)
    by_page q (inl same) =
        ap (λ b. cond (has added q || b) None (map.get (map.insert m n 0) q)) (unsigned_tied q n ∙ eq-eqb q n same)
        ∙ ap (λ b. cond b None (map.get (map.insert m n 0) q)) (or_true (has added q))
        ∙ none (has added q) ∙ ap (cond (has added q) None) (sym free ∙ ap (map.get m) (sym same))
    by_page q (inr apart) =
        ap (λ b. cond (has added q || b) None (map.get (map.insert m n 0) q)) (unsigned_tied q n ∙ ne_eqb q n apart)
        ∙ ap (λ b. cond b None (map.get (map.insert m n 0) q)) (or_false (has added q))
        ∙ ap (cond (has added q) None) (get_put-other m n 0 q apart)

pub with_more : (m : Addressed) (xs : List ℕ) (n : ℕ) → with_all_pages m (xs ++ n ∷ []) ≡ with_page (with_all_pages m xs) n
with_more m [] n = refl
with_more m (x ∷ xs) n = with_more (with_page m x) xs n

with-append : (m : Addressed) (xs ys : List ℕ) → with_all_pages m (xs ++ ys) ≡ with_all_pages (with_all_pages m xs) ys
with-append m [] ys = refl
with-append m (x ∷ xs) ys = with-append (with_page m x) xs ys

-- maps with pages at the same numbers
abbrev pub HaveSame : Addressed → PageMap → Type 0
HaveSame addresses pages = (q : ℕ) → map.contains_key addresses q ≡ map.contains_key pages q

page_alike : (s : Addressed) (r : PageMap) → HaveSame s r → (n : ℕ) (bytes : List ℕ) → HaveSame (with_page s n) (map.insert r n bytes)
page_alike s r same n bytes q = by_page (same_or_other q n) (map.contains_key s n) refl
  where
    by_page : (q ≡ n) ⊎ (q ≢ n) → (b : Bool) → map.contains_key s n ≡ b → map.contains_key (if b then s else map.insert s n 0) q ≡ map.contains_key (map.insert r n bytes) q
    by_page (inl at) true there = ap (map.contains_key s) at ∙ there ∙ sym (ap (λ i. map.contains_key (map.insert r n bytes) i) at ∙ ap (λ o. is_some o) (get_put r n bytes))
    by_page (inl at) false there = ap (λ i. map.contains_key (map.insert s n 0) i) at ∙ ap (λ o. is_some o) (get_put s n 0) ∙ sym (ap (λ i. map.contains_key (map.insert r n bytes) i) at ∙ ap (λ o. is_some o) (get_put r n bytes))
    by_page (inr apart) true there = same q ∙ sym (ap (λ o. is_some o) (get_put-other r n bytes q apart))
    by_page (inr apart) false there = ap (λ o. is_some o) (get_put-other s n 0 q apart) ∙ same q ∙ sym (ap (λ o. is_some o) (get_put-other r n bytes q apart))

piece_alike : (piece : Piece) (xs : List ℕ) (s : Addressed) (r : PageMap) → HaveSame s r → HaveSame (with_all_pages s xs) (fold (put_in_page piece) r xs)
piece_alike piece [] s r same = same
piece_alike piece (x ∷ xs) s r same = piece_alike piece xs (with_page s x) (put_in_page piece r x) (page_alike s r same x _)

-- the pages that pieces reach come to both
pub pieces_alike : (pieces : List Piece) (s : Addressed) (r : PageMap) → HaveSame s r → HaveSame (with_all_pages s (flat_map pages_of_piece pieces)) (put_pieces r pieces)
pieces_alike [] s r same q = same q
pieces_alike (piece ∷ pieces) s r same q =
    ap (λ (m : Addressed). map.contains_key m q) (with-append s (pages_of_piece piece) (flat_map pages_of_piece pieces))
    ∙ pieces_alike pieces (with_all_pages s (pages_of_piece piece)) (put_piece r piece) (piece_alike piece (pages_of_piece piece) s r same) q

has-filter : (test : ℕ → Bool) (xs : List ℕ) (q : ℕ) → has (filter test xs) q ≡ (has xs q && test q)
unfolding has
has-filter test [] q = refl
has-filter test (x ∷ xs) q = by_test (has-filter test xs q) (test x) refl (eq_by_cmp nat_cmp q x) refl
  where
    none : (a : Bool) → (a && false) ≡ false
    none true = refl
    none false = refl

    same : eq_by_cmp nat_cmp q x ≡ true → test q ≡ test x
    same tie = ap test (eqb-true q x (sym (unsigned_tied q x) ∙ tie))

    by_test : has (filter test xs) q ≡ (has xs q && test q) → (b : Bool) → test x ≡ b → (tie : Bool) → eq_by_cmp nat_cmp q x ≡ tie → has (cond b (x ∷ filter test xs) (filter test xs)) q ≡ ((tie || has xs q) && test q)
    by_test rest true is true tie = ap (λ b. b || has (filter test xs) q) tie ∙ sym (same tie ∙ is)
    by_test rest true is false tie = ap (λ b. b || has (filter test xs) q) tie ∙ rest
    by_test rest false is true tie = rest ∙ ap (λ b. has xs q && b) (same tie ∙ is) ∙ none (has xs q) ∙ sym (same tie ∙ is)
    by_test rest false is false tie = rest

has-any : (xs : List ℕ) (q : ℕ) → has xs q ≡ list_any (eq_by_cmp nat_cmp q) xs
unfolding has
has-any [] q = refl
has-any (x ∷ xs) q = ap (λ b. eq_by_cmp nat_cmp q x || b) (has-any xs q)

-- without the pages that don't pass a test those are left that do
pub without_past : (pages : Addressed) (test : ℕ → Bool) → without_all_pages pages (filter (λ page. not (test page)) (map.keys pages)) ≡ map.retain_keys pages test
without_past pages test = map.same_map nat_cmp_total nat_cmp-IsAntisymmetric _ _ (λ q.
    get-without (filter (λ page. not (test page)) (map.keys pages)) pages q
    ∙ ap (λ b. cond b None (map.get pages q)) (has-filter (λ page. not (test page)) (map.keys pages) q ∙ ap (λ b. b && not (test q)) (has-any (map.keys pages) q ∙ sym (map.contains_key-keys pages q)))
    ∙ left (map.get pages q) (test q)
    ∙ sym (map.get-retain_keys pages test q (λ x tie. ap test (sym (nat_cmp-IsAntisymmetric q x tie)))))
  where
    left : (o : Option ℕ) (b : Bool) → cond (is_some o && not b) None o ≡ cond b o None
    left None true = refl
    left None false = refl
    left (Some at) true = refl
    left (Some at) false = refl
