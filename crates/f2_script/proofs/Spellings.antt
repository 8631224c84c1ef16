-- What was read is read again from its own text.
use Rattle.std.proofs.Common.{◌≡◌, ◌≢◌, ℕ, ◌/◌, ◌%◌, ◌<◌, ◌≤◌, Bool, true, false, eqb, List, [], ◌∷◌, ◌++◌, length, map, refl, sym, ◌∙◌, ap, subst, arith, inl, inr}
use Rattle.std.proofs.lemmas.Grind.{common_steps}
use Rattle.std.specs.List.{AllByRecursion, onto_first, slice_split, join_with_byte}
use Rattle.std.proofs.lemmas.List.Splits.{join_with_byte-slice_split, length-slice_split}
use Rattle.std.proofs.lemmas.List.{append-nil}
use Rattle.f2_script.specs.declared.script.Line.{Line}
use Rattle.f2_script.specs.Cuts.{Lacks}
use Rattle.f2_script.specs.Text.{is_plain, upper_digit, escape, byte_text, name_text, path_text}
use Rattle.f2_script.specs.Paths.{BeginsWith, IsNameText, AreNames, IsPathText}
use Rattle.f2_script.specs.Words.{Word, Said, Number, Named, IsWord, AreWords, split_words, word_text, spaced, words_text}
use Rattle.f2_script.specs.Lines.{line_words, spelling}
use Rattle.f2_script.specs.Grammar.{IsSaid, SaysNothing, IsLine}
use Rattle.f2_script.proofs.CutLemmas.{lacks_append}
use Rattle.f2_script.proofs.PathLemmas.{path_goes, split_at, split_whole}
use Rattle.f2_script.proofs.LineKinds.{some_words}

-- a byte as it is shown has no byte that names hide
not_plain : (byte b : ℕ) → is_plain byte ≡ false → is_plain b ≡ true → b ≢ byte
not_plain byte b hidden shows e =
    let f : false ≡ true = sym hidden ∙ ap is_plain (sym e) ∙ shows in
    cc

digit_high : (d : ℕ) → 48 ≤ upper_digit d
digit_high d = grind (arith, common_steps)

byte_lacks : (byte b : ℕ) (t : Bool) → is_plain b ≡ t → is_plain byte ≡ false → byte ≢ 37 → byte < 48 → Lacks byte (byte_text b)
byte_lacks byte b true e hidden ne low = rw e (not_plain byte b hidden e, tt)
byte_lacks byte b false e hidden ne low =
    let h = digit_high (b / 16) in
    let k = digit_high (b % 16) in
    let first : 37 ≢ byte = λ same. ne (sym same) in
    let second : upper_digit (b / 16) ≢ byte = λ same. omega arith in
    let third : upper_digit (b % 16) ≢ byte = λ same. omega arith in
    rw e (first, (second, (third, tt)))

name_lacks : (byte : ℕ) (name : List ℕ) → is_plain byte ≡ false → byte ≢ 37 → byte < 48 → Lacks byte (name_text name)
name_lacks byte [] hidden ne low = tt
name_lacks byte (b ∷ name) hidden ne low =
    lacks_append byte (byte_text b) (name_text name) (byte_lacks byte b (is_plain b) refl hidden ne low) (name_lacks byte name hidden ne low)

joined_lacks : (byte : ℕ) (path : List (List ℕ)) → is_plain byte ≡ false → byte ≢ 37 → byte < 47 → Lacks byte (join_with_byte 47 (map name_text path))
joined_lacks byte [] hidden ne low = tt
joined_lacks byte (name ∷ []) hidden ne low = name_lacks byte name hidden ne (omega arith)
joined_lacks byte (name ∷ next ∷ path) hidden ne low =
    let other : 47 ≢ byte = λ same. omega arith in
    lacks_append byte (name_text name) _ (name_lacks byte name hidden ne (omega arith)) (other, joined_lacks byte (next ∷ path) hidden ne low)

path_lacks : (byte : ℕ) (path : List (List ℕ)) → is_plain byte ≡ false → byte ≢ 37 → byte < 47 → Lacks byte (path_text path)
path_lacks byte path hidden ne low =
    let other : 47 ≢ byte = λ same. omega arith in
    (other, joined_lacks byte path hidden ne low)

-- a byte of a name is read again from what is shown for it
byte_small : (text : List ℕ) (b : ℕ) (rest : List ℕ) → BeginsWith text b rest → is_plain b ≡ false → b < 256
byte_small text b rest (inl h) e = let f : false ≡ true = sym e ∙ h.0 in absurd (cc)
byte_small text b rest (inr h) e = h.0

byte_back : (b : ℕ) (t : Bool) (text rest more : List ℕ) → is_plain b ≡ t → BeginsWith text b rest → BeginsWith (byte_text b ++ more) b more
byte_back b true text rest more e h = rw e (inl (refl, refl))
byte_back b false text rest more e h = rw e (inr (byte_small text b rest h e, refl))

name_back : (text name : List ℕ) → IsNameText text name → IsNameText (name_text name) name
name_back text [] h = refl
name_back text (b ∷ name) h =
    (name_text name, byte_back b (is_plain b) text h.0 (name_text name) refl h.1, name_back h.0 name h.2)

names_back : (texts names : List (List ℕ)) → AreNames texts names → AreNames (map name_text names) names
names_back [] [] h = tt
names_back [] (name ∷ names) h = absurd h
names_back (text ∷ texts) [] h = absurd h
names_back (text ∷ texts) (name ∷ names) h = (name_back text name h.0, names_back texts names h.1)

-- the names that were joined are the parts between the slashes
split_joined : (name : List ℕ) (path : List (List ℕ)) → slice_split (λ b. eqb b 47) (join_with_byte 47 (map name_text (name ∷ path))) ≡ map name_text (name ∷ path)
split_joined name [] = split_whole 47 (name_text name) (name_lacks 47 name refl (λ same. omega arith) (omega arith))
split_joined name (next ∷ path) =
    split_at 47 (name_text name) (join_with_byte 47 (map name_text (next ∷ path))) (name_lacks 47 name refl (λ same. omega arith) (omega arith))
    ∙ ap (λ parts. name_text name ∷ parts) (split_joined next path)

not_empty : (xs : List ℕ) (y : ℕ) (ys : List ℕ) → xs ++ y ∷ ys ≡ [] → ⊥
not_empty [] y ys e = cc
not_empty (x ∷ xs) y ys e = cc

byte_some : (b : ℕ) (t : Bool) (more : List ℕ) → is_plain b ≡ t → byte_text b ++ more ≡ [] → ⊥
byte_some b true more e f = let g : b ∷ more ≡ [] = rw e at f in cc
byte_some b false more e f = let g : escape b ++ more ≡ [] = rw e at f in cc

name_empty : (text name : List ℕ) → IsNameText text name → name_text name ≡ [] → text ≡ []
name_empty text [] h e = h
name_empty text (b ∷ name) h e = absurd (byte_some b (is_plain b) (name_text name) refl e)

-- names that are shown as nothing were written as nothing
joined_empty : (texts names : List (List ℕ)) → AreNames texts names → join_with_byte 47 (map name_text names) ≡ [] → join_with_byte 47 texts ≡ []
joined_empty [] [] h e = refl
joined_empty [] (name ∷ names) h e = absurd h
joined_empty (text ∷ texts) [] h e = absurd h
joined_empty (text ∷ []) (name ∷ []) h e = name_empty text name h.0 e
joined_empty (text ∷ other ∷ texts) (name ∷ []) h e = absurd h.1
joined_empty (text ∷ texts) (name ∷ next ∷ names) h e = absurd (not_empty (name_text name) 47 _ e)

joined_some : (text : List ℕ) (b : ℕ) (names : List (List ℕ)) → AreNames (slice_split (λ x. eqb x 47) (b ∷ text)) names → (joined : List ℕ) → joined ≡ join_with_byte 47 (map name_text names) → 0 < length joined
joined_some text b names h [] e =
    let f : join_with_byte 47 (slice_split (λ x. eqb x 47) (b ∷ text)) ≡ [] = joined_empty _ names h (sym e) in
    let g : b ∷ text ≡ [] = sym (join_with_byte-slice_split 47 (b ∷ text)) ∙ f in
    absurd (cc)
joined_some text b names h (c ∷ joined) e = omega arith

none_named : (texts : List (List ℕ)) → 0 < length texts → AreNames texts [] → ⊥
none_named [] some h = omega arith
none_named (text ∷ texts) some h = h

no_parts : (text : List ℕ) → AreNames (slice_split (λ x. eqb x 47) text) [] → ⊥
no_parts text h = none_named (slice_split (λ x. eqb x 47) text) (omega (arith, length-slice_split (λ x. eqb x 47) text)) h

-- a path is read again from what is shown for it
pub path_back : (text : List ℕ) (path : List (List ℕ)) → IsPathText text path → IsPathText (path_text path) path
path_back [] path h = absurd h
path_back (b ∷ []) path h = subst (λ p. IsPathText (path_text p) p) (sym h.1) (refl, refl)
path_back (b ∷ c ∷ text) [] h = absurd (no_parts (c ∷ text) h.1)
path_back (b ∷ c ∷ text) (name ∷ path) h =
    path_goes _ (name ∷ path) (joined_some text c (name ∷ path) h.1 _ refl)
    (subst (λ parts. AreNames parts (name ∷ path)) (sym (split_joined name path)) (names_back _ (name ∷ path) h.1))

-- a text without the bytes that end words and lines
abbrev Clean : List ℕ → Type 0
Clean text = Lacks 32 text × Lacks 10 text

word_clean : (word : Word) (text : List ℕ) → IsWord word text → Clean text → Clean (word_text word)
word_clean (Said word) text h clean = subst Clean h clean
word_clean (Number least most n) text h clean = subst Clean h.2 clean
word_clean (Named path) text h clean =
    (path_lacks 32 path refl (λ same. omega arith) (omega arith), path_lacks 10 path refl (λ same. omega arith) (omega arith))

word_back : (word : Word) (text : List ℕ) → IsWord word text → IsWord word (word_text word)
word_back (Said word) text h = refl
word_back (Number least most n) text h = (h.0, h.1, refl)
word_back (Named path) text h = path_back text path h

words_back : (words : List Word) (texts : List (List ℕ)) → AreWords words texts → AreWords words (map word_text words)
words_back [] [] h = tt
words_back [] (text ∷ texts) h = absurd h
words_back (word ∷ words) [] h = absurd h
words_back (word ∷ words) (text ∷ texts) h = (word_back word text h.0, words_back words texts h.1)

words_clean : (words : List Word) (texts : List (List ℕ)) → AreWords words texts → AllByRecursion Clean texts → AllByRecursion Clean (map word_text words)
words_clean [] [] h clean = tt
words_clean [] (text ∷ texts) h clean = absurd h
words_clean (word ∷ words) [] h clean = absurd h
words_clean (word ∷ words) (text ∷ texts) h clean = (word_clean word text h.0 clean.0, words_clean words texts h.1 clean.1)

-- words are the parts between the spaces of their text
split_text : (word : Word) (words : List Word) → AllByRecursion Clean (map word_text (word ∷ words)) → split_words (words_text (word ∷ words)) ≡ map word_text (word ∷ words)
split_text word [] clean = ap split_words (append-nil (word_text word)) ∙ split_whole 32 (word_text word) clean.0.0
split_text word (next ∷ words) clean =
    split_at 32 (word_text word) (words_text (next ∷ words)) clean.0.0 ∙ ap (λ parts. word_text word ∷ parts) (split_text next words clean.1)

space_apart : (n : ℕ) → n ≡ 32 → n ≢ 10
space_apart n e same = omega arith

spaced_clean : (words : List Word) → AllByRecursion Clean (map word_text words) → Lacks 10 (spaced words)
spaced_clean [] clean = tt
spaced_clean (word ∷ words) clean =
    (space_apart 32 refl, lacks_append 10 (word_text word) (spaced words) clean.0.1 (spaced_clean words clean.1))

text_clean : (words : List Word) → AllByRecursion Clean (map word_text words) → Lacks 10 (words_text words)
text_clean [] clean = tt
text_clean (word ∷ words) clean = lacks_append 10 (word_text word) (spaced words) clean.0.1 (spaced_clean words clean.1)

-- the parts of a text lack its byte, and what the text lacks
part_onto : (b : ℕ) (parts : List (List ℕ)) → b ≢ 32 → b ≢ 10 → AllByRecursion Clean parts → AllByRecursion Clean (onto_first b parts)
part_onto b [] ne other h = (((ne, tt), (other, tt)), tt)
part_onto b (part ∷ parts) ne other h = (((ne, h.0.0), (other, h.0.1)), h.1)

part_next : (b : ℕ) (text : List ℕ) (t : Bool) → eqb b 32 ≡ t → b ≢ 10 → AllByRecursion Clean (split_words text) → AllByRecursion Clean (split_words (b ∷ text))
part_next b text true e other h = rw e ((tt, tt), h)
part_next b text false e other h =
    let ne : b ≢ 32 = grind (arith, e) in
    rw e (part_onto b (split_words text) ne other h)

parts_clean : (text : List ℕ) → Lacks 10 text → AllByRecursion Clean (split_words text)
parts_clean [] h = ((tt, tt), tt)
parts_clean (b ∷ text) h = part_next b text (eqb b 32) refl h.0 (parts_clean text h.1)

said_back : (words : List Word) (word : List ℕ) (texts : List (List ℕ)) → AreWords words (word ∷ texts) → AllByRecursion Clean (word ∷ texts) → AreWords words (split_words (words_text words)) × Lacks 10 (words_text words)
said_back [] word texts h clean = absurd h
said_back (first ∷ words) word texts h clean =
    let own = words_clean (first ∷ words) (word ∷ texts) h clean in
    (subst (AreWords (first ∷ words)) (sym (split_text first words own)) (words_back (first ∷ words) (word ∷ texts) h), text_clean (first ∷ words) own)

-- a line is read again from its own text, which is one line
pub line_back : (text : List ℕ) (one : Line) → Lacks 10 text → IsLine text one → IsLine (spelling one) one × Lacks 10 (spelling one)
line_back text one lacks (inl h) = (inl (subst (λ l. SaysNothing (spelling l)) (sym h.1) tt, h.1), subst (λ l. Lacks 10 (spelling l)) (sym h.1) tt)
line_back text one lacks (inr h) =
    let s = some_words text in
    let k : IsSaid (s.0 ∷ s.1) one = subst (λ t. IsSaid t one) s.2 h in
    let back = said_back (line_words one) s.0 s.1 k.1 (subst (AllByRecursion Clean) s.2 (parts_clean text lacks)) in
    (inr (k.0, back.0), back.1)
