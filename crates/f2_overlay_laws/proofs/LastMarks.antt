-- Marks that are rolled over a tree leave the row of each file's last one.
use Rattle.std.proofs.Common.{◌≡◌, ◌≢◌, ◌⊎◌, inl, inr, ℕ, zero, suc, ◌+◌, ◌==◌, ◌&&◌, Bool, true, false, cond, List, [], ◌∷◌, length, filter, refl, sym, ap, ◌∙◌, arith, add-one, eq-eqb}
use Rattle.std.specs.Prelude.{Option, Some}
use Rattle.std.specs.List.{AllZip, range_with_len}
use Rattle.std.specs.Cmp.{nat_cmp_total, unsigned_tied}
use Rattle.std.specs.FinMap as map
use Rattle.std.proofs.lemmas.Bool.{and_left, and_right, and_from, cases_eq, ne_eqb}
use Rattle.f2_format.specs.Footer.{footer_ino}
use Rattle.f2_model.specs.Tree.{Rows}
use Rattle.f2_model.specs.State.{Mark, rolled}
use Rattle.f2_model.specs.declared.rows.Row.{Row}
use Rattle.f2_image.specs.Chains.{Logged, block_in, is_marked}
use Rattle.f2_overlay.specs.Lasts.{last_mark_before}

-- lists that go together are as long
pub same_length : {X Y : Type 0} (R : X → Y → Type 0) (xs : List X) (ys : List Y) → AllZip R xs ys → length ys ≡ length xs
same_length R [] [] all = refl
same_length R [] (y ∷ ys) all = absurd all
same_length R (x ∷ xs) [] all = absurd all
same_length R (x ∷ xs) (y ∷ ys) all = ap suc (same_length R xs ys all.1)

-- a row that was put under an ino
module _ (tree : Rows) (ino : ℕ) (row : Row) where
  put : (q : ℕ) (b : Bool) → (q == ino) ≡ b → map.get (map.insert tree ino row) q ≡ cond b (Some row) (map.get tree q)
  put q b e = map.get-insert nat_cmp_total tree ino row q ∙ ap (λ (t : Bool). cond t (Some row) (map.get tree q)) (unsigned_tied q ino ∙ e)

  put_here : (q : ℕ) → q ≡ ino → map.get (map.insert tree ino row) q ≡ Some row
  put_here q same = put q true (eq-eqb q ino same)

  put_elsewhere : (q : ℕ) → q ≢ ino → map.get (map.insert tree ino row) q ≡ map.get tree q
  put_elsewhere q other = put q false (ne_eqb q ino other)

module _ (log : List Logged) (R : ℕ → Mark → Type 0) (inos : (place : ℕ) (mark : Mark) → R place mark → mark.ino ≡ footer_ino (block_in log place)) (ino : ℕ) where
  -- the marked places among so many from one on
  abbrev places : ℕ → ℕ → List ℕ
  places start count = filter (λ place. is_marked (block_in log place)) (range_with_len start count)

  abbrev last : ℕ → Option ℕ
  last place = last_mark_before log place ino

  -- the last of some marks of a file left its row
  pub record IsLast (found : Option ℕ) (row : Option Row) : Type 0 where
    pub place : ℕ
    pub mark : Mark
    pub found_is : found ≡ Some place
    pub is : R place mark
    pub row_is : row ≡ Some mark.row

  -- no mark is of the file, or the last one left its row
  abbrev pub IsLeft : Option ℕ → Option Row → Option ℕ → Option Row → Type 0
  IsLeft before old after new = ((after ≡ before) × (new ≡ old)) ⊎ IsLast after new

  step : (start : ℕ) (b : Bool) → (is_marked (block_in log start) && (footer_ino (block_in log start) == ino)) ≡ b → last (start + 1) ≡ cond b (Some start) (last start)
  step start b e = ap last (add-one start) ∙ ap (λ (t : Bool). cond t (Some start) (last start)) e

  -- one mark more
  one_more : (start : ℕ) (tree : Rows) (mark : Mark) → R start mark → is_marked (block_in log start) ≡ true → IsLeft (last start) (map.get tree ino) (last (start + 1)) (map.get (map.insert tree mark.ino mark.row) ino)
  one_more start tree mark is marked = by (cases_eq (footer_ino (block_in log start)) ino)
    where
      by : (footer_ino (block_in log start) ≡ ino) ⊎ (footer_ino (block_in log start) ≢ ino) → IsLeft (last start) (map.get tree ino) (last (start + 1)) (map.get (map.insert tree mark.ino mark.row) ino)
      by (inl same) =
          let own : ino ≡ mark.ino = sym same ∙ sym (inos start mark is) in
          inr (record {
            place = start;
            mark = mark;
            found_is = step start true (and_from (is_marked (block_in log start)) _ marked (eq-eqb _ _ same));
            is = is;
            row_is = put_here tree mark.ino mark.row ino own;
          })
      by (inr other) = inl (
        step start false (and_right (is_marked (block_in log start)) _ (ne_eqb _ _ other)),
        put_elsewhere tree mark.ino mark.row ino (λ same. other (sym (inos start mark is) ∙ sym same)),
      )

  follows : (before mid after : Option ℕ) (old between new : Option Row) → IsLeft before old mid between → IsLeft mid between after new → IsLeft before old after new
  follows before mid after old between new first (inr found) = inr found
  follows before mid after old between new (inl none) (inl same) = inl (same.0 ∙ none.0, same.1 ∙ none.1)
  follows before mid after old between new (inr found) (inl same) = inr (record {
    place = found.place;
    mark = found.mark;
    found_is = same.0 ∙ found.found_is;
    is = found.is;
    row_is = same.1 ∙ found.row_is;
  })

  pub rolls_on : (count start end : ℕ) (tree : Rows) (marks : List Mark) → start + count ≡ end → AllZip R (places start count) marks → IsLeft (last start) (map.get tree ino) (last end) (map.get (rolled tree marks) ino)
  rolls_on zero start end tree [] whole all = let same : end ≡ start = omega (arith, whole) in inl (ap last same, refl)
  rolls_on zero start end tree (mark ∷ marks) whole all = absurd all
  rolls_on (suc count) start end tree marks whole all = by_test (is_marked (block_in log start)) refl marks all (λ tree marks all. rolls_on count (start + 1) end tree marks (omega (arith, whole)) all)
    where
      by_test : (b : Bool) → is_marked (block_in log start) ≡ b → (marks : List Mark) → AllZip R (cond b (start ∷ places (start + 1) count) (places (start + 1) count)) marks
          → ((tree : Rows) (marks : List Mark) → AllZip R (places (start + 1) count) marks → IsLeft (last (start + 1)) (map.get tree ino) (last end) (map.get (rolled tree marks) ino))
          → IsLeft (last start) (map.get tree ino) (last end) (map.get (rolled tree marks) ino)
      by_test false e marks all later =
          follows (last start) (last (start + 1)) (last end) (map.get tree ino) (map.get tree ino) (map.get (rolled tree marks) ino)
          (inl (step start false (and_left (is_marked (block_in log start)) _ e), refl)) (later tree marks all)
      by_test true e [] all later = absurd all
      by_test true e (mark ∷ marks) all later =
          follows (last start) (last (start + 1)) (last end) (map.get tree ino) (map.get (map.insert tree mark.ino mark.row) ino) (map.get (rolled tree (mark ∷ marks)) ino)
          (one_more start tree mark all.0 e) (later (map.insert tree mark.ino mark.row) marks all.1)
