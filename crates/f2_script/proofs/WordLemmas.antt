-- Words that are borrowed, and what words can be.
use Rattle.std.proofs.Common.{◌≡◌, ℕ, zero, suc, ◌+◌, ◌-◌, ◌^◌, ◌<◌, ◌≤◌, Bool, false, eqb, List, [], ◌∷◌, length, get_or, take, drop, refl, sym, ◌∙◌, ap, arith}
use Rattle.std.specs.Borrow.{Bor}
use Rattle.std.specs.List.{flat_map, AllByRecursion}
use Rattle.std.specs.Cmp.Lexicographic.{pointwise}
use Rattle.std.proofs.lemmas.Bool.{false≢true}
use Rattle.std.proofs.lemmas.Grind.{common_steps}
use Rattle.std.proofs.lemmas.Slice.Eq.{bytes_eq-Decides}
use Rattle.std.proofs.lemmas.Fmt.{decimal_injective}
use Rattle.f2_model.specs.declared.requests.Piece.{Piece}
use Rattle.f2_script.specs.Words.{Number, IsWord, AreWords, shown}
use Rattle.f2_script.specs.Lines.{piece_words}
use Rattle.f2_script.proofs.Growth.{Begins}

-- the first words, and those after them
pub shown_first : (xs : List (Bor (List ℕ))) (d : Bor (List ℕ)) → 1 ≤ length xs → shown xs ≡ (get_or xs 0 d).now ∷ shown (take (length xs - 1) (drop 1 xs))
shown_first [] d some = absurd (omega arith)
shown_first (a ∷ xs) d some =
    let all : take (length (a ∷ xs) - 1) xs ≡ xs = grind (arith, common_steps) in
    rw all refl

pub shown_three : (xs : List (Bor (List ℕ))) (d : Bor (List ℕ)) → 3 ≤ length xs → shown xs ≡ (get_or xs 0 d).now ∷ (get_or xs 1 d).now ∷ (get_or xs 2 d).now ∷ shown (drop 3 xs)
shown_three [] d some = absurd (omega arith)
shown_three (a ∷ []) d some = absurd (omega arith)
shown_three (a ∷ b ∷ []) d some = absurd (omega arith)
shown_three (a ∷ b ∷ c ∷ xs) d some = refl

-- texts that `==` tells apart aren't the same
pub differs : (xs ys : List ℕ) (r : Bool) → r ≡ pointwise eqb xs ys → r ≡ false → xs ≡ ys → ⊥
differs xs ys r e f same = false≢true (sym f ∙ e ∙ (bytes_eq-Decides xs ys).1 same)

-- one member more was tested
pub tested_more : {X : Type 0} (P : X → Type 0) (xs : List X) (i : ℕ) (d : X) → i < length xs → AllByRecursion P (take i xs) → P (get_or xs i d) → AllByRecursion P (take (i + 1) xs)
tested_more P [] i d inside h p = absurd (omega arith)
tested_more P (x ∷ xs) zero d inside h p = (p, tt)
tested_more P (x ∷ xs) (suc i) d inside h p =
    let e : suc i + 1 ≡ suc (i + 1) = omega arith in
    rw e (h.0, tested_more P xs i d (omega arith) h.1 p)

-- a word is one number at most
pub one_number : (least most a b : ℕ) (text : List ℕ) → most < 2 ^ 64 → IsWord (Number least most a) text → IsWord (Number least most b) text → a ≡ b
one_number least most a b text small h k =
    let p = h.1 in
    let q = k.1 in
    decimal_injective a b (omega arith) (omega arith) (sym h.2 ∙ k.2)

abbrev piece : ℕ → ℕ → ℕ → Piece
piece off len byte = record { off = off; len = len; byte = byte }

pub one_piece : (p q : Piece) (a b c : List ℕ) → AreWords (piece_words p) (a ∷ b ∷ c ∷ []) → AreWords (piece_words q) (a ∷ b ∷ c ∷ []) → p ≡ q
one_piece p q a b c h k =
    let e : p.off ≡ q.off = one_number 0 18446744073709551615 p.off q.off a (omega arith) h.0 k.0 in
    let f : p.len ≡ q.len = one_number 1 65536 p.len q.len b (omega arith) h.1.0 k.1.0 in
    let g : p.byte ≡ q.byte = one_number 0 255 p.byte q.byte c (omega arith) h.1.1.0 k.1.1.0 in
    ap (λ n. piece n p.len p.byte) e ∙ ap (λ n. piece q.off n p.byte) f ∙ ap (λ n. piece q.off q.len n) g

-- three words of a piece, and the words of the pieces after it
pieces_join : (p : Piece) (more : List Piece) (a b c : List ℕ) (rest : List (List ℕ)) → AreWords (piece_words p) (a ∷ b ∷ c ∷ []) → AreWords (flat_map piece_words more) rest → AreWords (flat_map piece_words (p ∷ more)) (a ∷ b ∷ c ∷ rest)
pieces_join p more a b c rest h k = (h.0, (h.1.0, (h.1.1.0, k)))

pieces_only : (p : Piece) (a b c : List ℕ) (rest : List (List ℕ)) → AreWords (piece_words p) (a ∷ b ∷ c ∷ []) → (whole : List Piece) → AreWords (flat_map piece_words whole) (a ∷ b ∷ c ∷ rest) → (more : List Piece) × (whole ≡ p ∷ more) × AreWords (flat_map piece_words more) rest
pieces_only p a b c rest h [] k = absurd k
pieces_only p a b c rest h (q ∷ more) k =
    (more, ap (λ x. x ∷ more) (one_piece q p a b c (k.0, (k.1.0, (k.1.1.0, tt))) h), k.1.1.1)

pub pieces_begin : (p : Piece) (left next : List (Bor (List ℕ))) (d : Bor (List ℕ)) → 3 ≤ length left → next ≡ drop 3 left
    → AreWords (piece_words p) ((get_or left 0 d).now ∷ (get_or left 1 d).now ∷ (get_or left 2 d).now ∷ [])
    → Begins (λ pieces. AreWords (flat_map piece_words pieces) (shown left)) (λ pieces. AreWords (flat_map piece_words pieces) (shown next)) p
pieces_begin p left next d some e h = record {
  reads = λ more k. rw (shown_three left d some) (pieces_join p more _ _ _ _ h (rw e at k));
  only = λ whole k. rw e (pieces_only p _ _ _ _ h whole (rw (shown_three left d some) at k));
}

none_first : (a b c : List ℕ) (rest : List (List ℕ)) → ((p : Piece) → ¬ (AreWords (piece_words p) (a ∷ b ∷ c ∷ []))) → (more : List Piece) → ¬ (AreWords (flat_map piece_words more) (a ∷ b ∷ c ∷ rest))
none_first a b c rest none [] k = k
none_first a b c rest none (p ∷ more) k = none p (k.0, (k.1.0, (k.1.1.0, tt)))

pub pieces_none : (left : List (Bor (List ℕ))) (d : Bor (List ℕ)) → 3 ≤ length left
    → ((p : Piece) → ¬ (AreWords (piece_words p) ((get_or left 0 d).now ∷ (get_or left 1 d).now ∷ (get_or left 2 d).now ∷ [])))
    → (more : List Piece) → ¬ (AreWords (flat_map piece_words more) (shown left))
pieces_none left d some none more k = none_first _ _ _ _ none more (rw (shown_three left d some) at k)

pub pieces_end : (left : List (Bor (List ℕ))) → length left ≡ 0 → AreWords (flat_map piece_words []) (shown left)
pieces_end [] z = tt
pieces_end (a ∷ left) z = absurd (omega arith)

pub pieces_short : (left : List (Bor (List ℕ))) → 0 < length left → length left < 3 → (more : List Piece) → ¬ (AreWords (flat_map piece_words more) (shown left))
pieces_short [] some few more k = absurd (omega arith)
pieces_short (a ∷ left) some few [] k = k
pieces_short (a ∷ []) some few (p ∷ more) k = k.1
pieces_short (a ∷ b ∷ []) some few (p ∷ more) k = k.1.1
pieces_short (a ∷ b ∷ c ∷ left) some few (p ∷ more) k = absurd (omega arith)

-- texts are the words of one list of pieces at most
pub one_pieces : (p q : List Piece) (texts : List (List ℕ)) → AreWords (flat_map piece_words p) texts → AreWords (flat_map piece_words q) texts → p ≡ q
one_pieces [] [] texts h k = refl
one_pieces [] (b ∷ q) [] h k = absurd k
one_pieces [] (b ∷ q) (t ∷ texts) h k = absurd h
one_pieces (a ∷ p) q [] h k = absurd h
one_pieces (a ∷ p) q (s ∷ []) h k = absurd h.1
one_pieces (a ∷ p) q (s ∷ t ∷ []) h k = absurd h.1.1
one_pieces (a ∷ p) [] (s ∷ t ∷ u ∷ texts) h k = absurd k
one_pieces (a ∷ p) (b ∷ q) (s ∷ t ∷ u ∷ texts) h k =
    let x : a ≡ b = one_piece a b s t u (h.0, (h.1.0, (h.1.1.0, tt))) (k.0, (k.1.0, (k.1.1.0, tt))) in
    let y : p ≡ q = one_pieces p q texts h.1.1.1 k.1.1.1 in
    rw (x, y) refl
