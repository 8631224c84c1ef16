-- Texts that are cut at a byte.
use Rattle.std.proofs.Common.{◌≡◌, ◌≢◌, ℕ, ◌+◌, ◌-◌, ◌<◌, ◌≤◌, Bool, true, false, eqb, List, [], ◌∷◌, ◌++◌, length, take, drop, get_or, refl, sym, ◌∙◌, ap, arith, Some, None, position, drop-cons, suc, not, add-one}
use Rattle.std.specs.List.{prefix_len}
use Rattle.std.proofs.lemmas.Grind.{common_steps}
use Rattle.std.proofs.lemmas.List.{take-append-drop, get_or-take, get_or_default, length-take}
use Rattle.std.proofs.lemmas.List.Quantifiers.{position-Some}
use Rattle.std.proofs.lemmas.List.Elements.{recursion_from_All}
use Rattle.f2_script.specs.Cuts.{Lacks, IsCutAt}

pub lacks_append : (byte : ℕ) (xs ys : List ℕ) → Lacks byte xs → Lacks byte ys → Lacks byte (xs ++ ys)
lacks_append byte [] ys h k = k
lacks_append byte (x ∷ xs) ys h k = (h.0, lacks_append byte xs ys h.1 k)

-- fronts that lack the byte are cut in one way
pub one_cut : (byte : ℕ) (a b x y : List ℕ) → Lacks byte a → Lacks byte b → a ++ byte ∷ x ≡ b ++ byte ∷ y → (a ≡ b) × (x ≡ y)
one_cut byte [] [] x y h k e = (refl, cc)
one_cut byte [] (c ∷ b) x y h k e = let s : byte ≡ c = cc in absurd (k.0 (sym s))
one_cut byte (c ∷ a) [] x y h k e = let s : c ≡ byte = cc in absurd (h.0 s)
one_cut byte (c ∷ a) (d ∷ b) x y h k e =
    let s : c ≡ d = cc in
    let t : a ++ byte ∷ x ≡ b ++ byte ∷ y = cc in
    let r = one_cut byte a b x y h.1 k.1 t in
    let u : a ≡ b = r.0 in
    (cc, r.1)

-- a text that has the byte doesn't lack it
pub no_lack : (byte : ℕ) (a x : List ℕ) → Lacks byte (a ++ byte ∷ x) → ⊥
no_lack byte [] x h = h.0 refl
no_lack byte (c ∷ a) x h = no_lack byte a x h.1

drop_at : (byte : ℕ) (text : List ℕ) (i : ℕ) → i < length text → get_or text i 0 ≡ byte → drop i text ≡ byte ∷ drop (i + 1) text
drop_at byte text i inside here = rw add-one (drop-cons text i 0 inside ∙ ap (λ b. b ∷ drop (suc i) text) here)

ne_from_false : (x byte : ℕ) → eqb x byte ≡ false → x ≢ byte
ne_from_false x byte e = grind (arith, common_steps)

first_lacks : (byte : ℕ) (text : List ℕ) (i : ℕ) → ((k : ℕ) → k < i → eqb (get_or text k 0) byte ≡ false) → (k d : ℕ) → k < length (take i text) → get_or (take i text) k d ≢ byte
first_lacks byte text i h k d l =
    let low : k < i = omega (arith, length-take i text) in
    let inside : k < length text = omega (arith, length-take i text) in
    let same : get_or (take i text) k d ≡ get_or text k 0 = get_or-take i text k d low ∙ get_or_default text k d 0 inside in
    rw same (ne_from_false _ byte (h k low))

lacks_step : (byte x : ℕ) (xs : List ℕ) (t : Bool) → eqb x byte ≡ t → length (x ∷ xs) ≤ prefix_len (λ b. not (eqb b byte)) (x ∷ xs) → (length xs ≤ prefix_len (λ b. not (eqb b byte)) xs → Lacks byte xs) → Lacks byte (x ∷ xs)
lacks_step byte x xs true e h f =
    let none : suc (length xs) ≤ 0 = rw e at h in
    absurd (omega arith)
lacks_step byte x xs false e h f =
    let more : suc (length xs) ≤ 1 + prefix_len (λ b. not (eqb b byte)) xs = rw e at h in
    (ne_from_false x byte e, f (omega arith))

lacks_all : (byte : ℕ) (text : List ℕ) → length text ≤ prefix_len (λ b. not (eqb b byte)) text → Lacks byte text
lacks_all byte [] h = tt
lacks_all byte (x ∷ xs) h = lacks_step byte x xs (eqb x byte) refl h (lacks_all byte xs)

-- a text where no such byte has a place lacks it
pub cut_none : (byte : ℕ) (text : List ℕ) → position (λ b. eqb b byte) text ≡ None → Lacks byte text
cut_none byte text e =
    let all : length text ≤ prefix_len (λ b. not (eqb b byte)) text = grind (arith, common_steps, e) in
    lacks_all byte text all

-- the byte's first place cuts the text
pub cut_found : (byte : ℕ) (text : List ℕ) (i : ℕ) → position (λ b. eqb b byte) text ≡ Some i → IsCutAt byte text (take i text) (take (length text - (i + 1)) (drop (i + 1) text))
cut_found byte text i e =
    let h = position-Some (λ b. eqb b byte) text i 0 e in
    let inside : i < length text = h.0 in
    let here : get_or text i 0 ≡ byte = grind (arith, common_steps, h.1) in
    let rest : take (length text - (i + 1)) (drop (i + 1) text) ≡ drop (i + 1) text = grind (arith, common_steps) in
    record {
      whole = rw rest (sym (take-append-drop i text) ∙ ap (λ end. take i text ++ end) (drop_at byte text i inside here));
      first = recursion_from_All (λ b. b ≢ byte) (take i text) (λ k d l. first_lacks byte text i (h.2) k d l);
    }
