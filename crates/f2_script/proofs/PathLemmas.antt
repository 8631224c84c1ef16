-- Paths and their texts.
use Rattle.std.proofs.Common.{◌≡◌, ◌≢◌, ℕ, ◌/◌, ◌%◌, ◌<◌, true, false, eqb, List, [], ◌∷◌, ◌++◌, length, refl, sym, ◌∙◌, ap, subst, arith, inl, inr, Result, Ok, Err, Option, Some, None, IfOk}
use Rattle.std.proofs.lemmas.Bool.{false≢true}
use Rattle.std.proofs.lemmas.Grind.{common_steps}
use Rattle.std.specs.List.{AllByRecursion, slice_split}
use Rattle.std.proofs.lemmas.List.Splits.{slice_split_none, slice_split_at}
use Rattle.std.proofs.lemmas.List.Elements.{All-from_recursion}
use Rattle.std.proofs.lemmas.List.{append-nil}
use Rattle.f2_script.specs.Replies.{names_text}
use Rattle.f2_script.specs.Cuts.{Finds, Lacks, IsCutAt}
use Rattle.f2_script.specs.Text.{is_plain, upper_digit, escape, name_text, path_text}
use Rattle.f2_script.specs.Paths.{BeginsWith, IsNameText, AreNames, IsPathText}
use Rattle.f2_script.proofs.Growth.{Begins}

-- the digits differ
one_digit : (d e : ℕ) → d < 16 → e < 16 → upper_digit d ≡ upper_digit e → d ≡ e
one_digit d e low high same = grind (arith, common_steps)

one_byte : (a b : ℕ) → a < 256 → b < 256 → upper_digit (a / 16) ≡ upper_digit (b / 16) → upper_digit (a % 16) ≡ upper_digit (b % 16) → a ≡ b
one_byte a b low high first second =
    let x : a / 16 ≡ b / 16 = one_digit (a / 16) (b / 16) (omega arith) (omega arith) first in
    let y : a % 16 ≡ b % 16 = one_digit (a % 16) (b % 16) (omega arith) (omega arith) second in
    omega arith

-- a `%` is no plain byte
plain_no_percent : (b : ℕ) → is_plain b ≡ true → b ≡ 37 → ⊥
plain_no_percent b h e = let f : false ≡ true = subst (λ c. is_plain c ≡ true) e h in false≢true f

-- a text begins with one byte at most
pub one_begin : (text : List ℕ) (a b : ℕ) (x y : List ℕ) → BeginsWith text a x → BeginsWith text b y → (a ≡ b) × (x ≡ y)
one_begin text a b x y (inl (h, e)) (inl (k, f)) =
    let s : a ∷ x ≡ b ∷ y = sym e ∙ f in
    (cc, cc)
one_begin text a b x y (inl (h, e)) (inr (k, f)) =
    let s : a ∷ x ≡ escape b ++ y = sym e ∙ f in
    let t : a ≡ 37 = cc in
    absurd (plain_no_percent a h t)
one_begin text a b x y (inr (h, e)) (inl (k, f)) =
    let s : escape a ++ x ≡ b ∷ y = sym e ∙ f in
    let t : b ≡ 37 = cc in
    absurd (plain_no_percent b k t)
one_begin text a b x y (inr (h, e)) (inr (k, f)) =
    let s : escape a ++ x ≡ escape b ++ y = sym e ∙ f in
    let t : upper_digit (a / 16) ≡ upper_digit (b / 16) = cc in
    let u : upper_digit (a % 16) ≡ upper_digit (b % 16) = cc in
    (one_byte a b h k t u, cc)

-- a text with a first byte isn't empty
begins_some : (text : List ℕ) (b : ℕ) (rest : List ℕ) → BeginsWith text b rest → text ≡ [] → ⊥
begins_some text b rest (inl (h, e)) f = let s : b ∷ rest ≡ [] = sym e ∙ f in cc
begins_some text b rest (inr (h, e)) f = let s : escape b ++ rest ≡ [] = sym e ∙ f in cc

-- a text is one name at most
pub one_name : (text a b : List ℕ) → IsNameText text a → IsNameText text b → a ≡ b
one_name text [] [] h k = refl
one_name text [] (c ∷ b) h k = absurd (begins_some text c k.0 k.1 h)
one_name text (c ∷ a) [] h k = absurd (begins_some text c h.0 h.1 k)
one_name text (c ∷ a) (d ∷ b) h k =
    let s = one_begin text c d h.0 k.0 h.1 k.1 in
    let x : c ≡ d = s.0 in
    let y : a ≡ b = one_name h.0 a b h.2 (subst (λ t. IsNameText t b) (sym s.1) k.2) in
    rw (x, y) refl

name_only : (text : List ℕ) (b : ℕ) (rest : List ℕ) → BeginsWith text b rest → (whole : List ℕ) → IsNameText text whole → (more : List ℕ) × (whole ≡ b ∷ more) × IsNameText rest more
name_only text b rest begins [] h = absurd (begins_some text b rest begins h)
name_only text b rest begins (c ∷ more) h =
    let s = one_begin text c b h.0 rest h.1 begins in
    (more, ap (λ x. x ∷ more) s.0, subst (λ t. IsNameText t more) s.1 h.2)

-- the text goes on after its first byte
pub name_begins : (text : List ℕ) (b : ℕ) (rest : List ℕ) → BeginsWith text b rest → Begins (IsNameText text) (IsNameText rest) b
name_begins text b rest begins = record {
  reads = λ more h. (rest, begins, h);
  only = name_only text b rest begins;
}

pub name_none : (text : List ℕ) → 0 < length text → ((b : ℕ) (rest : List ℕ) → ¬ (BeginsWith text b rest)) → (name : List ℕ) → ¬ (IsNameText text name)
name_none text some none [] h = let z : length text ≡ 0 = ap length h in omega arith
name_none text some none (b ∷ name) h = none b h.0 h.1

pub name_end : (text : List ℕ) → length text ≡ 0 → IsNameText text []
name_end [] z = refl
name_end (b ∷ text) z = absurd (omega arith)

false_from_ne : (x byte : ℕ) → x ≢ byte → eqb x byte ≡ false
false_from_ne x byte ne = grind arith

false_in : (byte : ℕ) (text : List ℕ) → Lacks byte text → AllByRecursion (λ b. eqb b byte ≡ false) text
false_in byte [] h = tt
false_in byte (b ∷ text) h = (false_from_ne b byte h.0, false_in byte text h.1)

-- the parts of a text that is cut at a byte, and of one that lacks it
pub split_at : (byte : ℕ) (before after : List ℕ) → Lacks byte before → slice_split (λ b. eqb b byte) (before ++ byte ∷ after) ≡ before ∷ slice_split (λ b. eqb b byte) after
split_at byte before after h =
    slice_split_at (λ b. eqb b byte) before byte after (All-from_recursion (λ b. eqb b byte ≡ false) before (false_in byte before h)) (grind arith)

pub split_cut : (byte : ℕ) (text before after : List ℕ) → IsCutAt byte text before after → slice_split (λ b. eqb b byte) text ≡ before ∷ slice_split (λ b. eqb b byte) after
split_cut byte text before after cut = rw cut.whole (split_at byte before after cut.first)

pub split_whole : (byte : ℕ) (text : List ℕ) → Lacks byte text → slice_split (λ b. eqb b byte) text ≡ text ∷ []
split_whole byte text h = slice_split_none (λ b. eqb b byte) text (All-from_recursion (λ b. eqb b byte ≡ false) text (false_in byte text h))

names_only : (text : List ℕ) (texts : List (List ℕ)) (name : List ℕ) → IsNameText text name → (whole : List (List ℕ)) → AreNames (text ∷ texts) whole → (more : List (List ℕ)) × (whole ≡ name ∷ more) × AreNames texts more
names_only text texts name named [] h = absurd h
names_only text texts name named (other ∷ more) h = (more, ap (λ n. n ∷ more) (one_name text other name h.0 named), h.1)

-- names go on after their first
pub names_begin : (texts rest : List (List ℕ)) (text name : List ℕ) → texts ≡ text ∷ rest → IsNameText text name → Begins (AreNames texts) (AreNames rest) name
names_begin texts rest text name e named = record {
  reads = λ more h. rw e (named, h);
  only = λ whole h. names_only text rest name named whole (rw e at h);
}

names_first : (text : List ℕ) (texts : List (List ℕ)) → ((name : List ℕ) → ¬ (IsNameText text name)) → (names : List (List ℕ)) → ¬ (AreNames (text ∷ texts) names)
names_first text texts none [] h = h
names_first text texts none (name ∷ names) h = none name h.0

pub names_none : (texts rest : List (List ℕ)) (text : List ℕ) → texts ≡ text ∷ rest → ((name : List ℕ) → ¬ (IsNameText text name)) → (names : List (List ℕ)) → ¬ (AreNames texts names)
names_none texts rest text e none names h = names_first text rest none names (rw e at h)

-- texts are one list of names at most
one_names : (texts a b : List (List ℕ)) → AreNames texts a → AreNames texts b → a ≡ b
one_names [] [] [] h k = refl
one_names [] [] (n ∷ b) h k = absurd k
one_names [] (m ∷ a) b h k = absurd h
one_names (t ∷ texts) [] b h k = absurd h
one_names (t ∷ texts) (m ∷ a) [] h k = absurd k
one_names (t ∷ texts) (m ∷ a) (n ∷ b) h k =
    let x : m ≡ n = one_name t m n h.0 k.0 in
    let y : a ≡ b = one_names texts a b h.1 k.1 in
    rw (x, y) refl

-- a text is one path at most
pub one_path : (text : List ℕ) (p q : List (List ℕ)) → IsPathText text p → IsPathText text q → p ≡ q
one_path [] p q h k = absurd h
one_path (b ∷ []) p q h k = h.1 ∙ sym k.1
one_path (b ∷ c ∷ names) p q h k = one_names _ p q h.1 k.1

pub path_goes : (names : List ℕ) (path : List (List ℕ)) → 0 < length names → AreNames (slice_split (λ b. eqb b 47) names) path → IsPathText (47 ∷ names) path
path_goes [] path some h = absurd (omega arith)
path_goes (c ∷ names) path some h = (refl, h)

path_stops : (names : List ℕ) (path : List (List ℕ)) → 0 < length names → IsPathText (47 ∷ names) path → AreNames (slice_split (λ b. eqb b 47) names) path
path_stops [] path some h = absurd (omega arith)
path_stops (c ∷ names) path some h = h.1

-- a reader of names that aren't empty reads a path
pub path_read : {E : Type 0} (r : Result (Option (List (List ℕ))) E) (text names : List ℕ) → text ≡ 47 ∷ names → 0 < length names
    → IfOk r (Finds (AreNames (slice_split (λ b. eqb b 47) names))) → IfOk r (Finds (IsPathText text))
path_read (Err e) text names is some h = tt
path_read (Ok None) text names is some h = λ path k. h path (path_stops names path some (rw is at k))
path_read (Ok (Some path)) text names is some h = rw is (path_goes names path some h)

-- a text that doesn't begin with `/` is no path
pub path_none : (text : List ℕ) → ((rest : List ℕ) → text ≢ 47 ∷ rest) → (path : List (List ℕ)) → ¬ (IsPathText text path)
path_none [] none path h = h
path_none (b ∷ []) none path h = none [] (ap (λ c. c ∷ []) h.0)
path_none (b ∷ c ∷ names) none path h = none (c ∷ names) (ap (λ x. x ∷ c ∷ names) h.0)

-- a path has a slash before each name
pub path_by_names : (path : List (List ℕ)) → 0 < length path → names_text 47 path ≡ path_text path
path_by_names [] some = absurd (omega arith)
path_by_names (name ∷ []) some = ap (λ t. 47 ∷ t) (append-nil (name_text name))
path_by_names (name ∷ next ∷ path) some = ap (λ t. 47 ∷ (name_text name ++ t)) (path_by_names (next ∷ path) (omega arith))
