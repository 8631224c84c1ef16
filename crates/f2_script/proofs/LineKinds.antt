-- What the words of a line can be.
use Rattle.std.proofs.Common.{◌≡◌, ◌≢◌, ℕ, ◌^◌, ◌<◌, Bool, true, false, eqb, List, [], ◌∷◌, length, refl, sym, ◌∙◌, ap, subst, arith, codes, None, Some, Option, Result, Ok, Err, IfOk, inl, inr, if◌then◌else◌}
use Rattle.std.specs.Prelude.{◌↔◌}
use Rattle.std.proofs.lemmas.Bool.{false≢true}
use Rattle.std.specs.List.{onto_first}
use Rattle.f2_model.specs.declared.histories.CallKind.{CallKind}
use Rattle.f2_model.specs.declared.histories.CallKind.TheVariants as call_kind
use Rattle.f2_model.specs.declared.requests.Request.{Request}
use Rattle.f2_model.specs.declared.requests.Request.TheVariants as request
use Rattle.std.specs.Str.{bytes_eq}
use Rattle.std.proofs.lemmas.List.Splits.{length-slice_split}
use Rattle.f2_script.specs.declared.script.Line.{Line}
use Rattle.f2_script.specs.declared.script.Line.TheVariants as line
use Rattle.f2_script.specs.declared.verbs.Verb.{Verb}
use Rattle.f2_script.specs.declared.verbs.Verb.TheVariants as verb
use Rattle.f2_script.specs.Cuts.{Finds}
use Rattle.f2_script.specs.Words.{Said, Number, AreWords, split_words}
use Rattle.f2_script.specs.Lines.{Number32, Number64, Seat, kind_word, request_words}
use Rattle.f2_script.specs.Verbs.{verb_word}
use Rattle.f2_script.specs.Grammar.{IsInLimits, IsLong, IsSaid, SaysNothing, IsLine}
use Rattle.f2_script.proofs.WordLemmas.{one_number}
use Rattle.f2_script.proofs.RequestLemmas.{one_request}
use Rattle.f2_script.proofs.VerbLemmas.{verb_parts, no_verb, no_such_verb}

-- what a test denies
pub not_when : {P : Type 0} (r : Bool) → (r ≡ true) ↔ P → r ≡ false → ¬ P
not_when r iff failed p = false≢true (sym failed ∙ iff.1 p)

-- words that aren't one number are no line of one number
pub go_none : (texts : List (List ℕ)) → ((n : ℕ) → ¬ (AreWords (Seat n ∷ []) texts)) → (one : Line) → ¬ (IsSaid (codes "go" ∷ texts) one)
go_none texts none one h =
    let p = verb_parts verb.Go texts one h in
    let k : IsSaid (codes "go" ∷ texts) (line.Go p.0) = subst (IsSaid (codes "go" ∷ texts)) p.1 h in
    none p.0 k.1.1

pub slot_none : (texts : List (List ℕ)) → ((n : ℕ) → ¬ (AreWords (Seat n ∷ []) texts)) → (one : Line) → ¬ (IsSaid (codes "slot" ∷ texts) one)
slot_none texts none one h =
    let p = verb_parts verb.Slot texts one h in
    let k : IsSaid (codes "slot" ∷ texts) (line.Slot p.0) = subst (IsSaid (codes "slot" ∷ texts)) p.1 h in
    none p.0 k.1.1

pub end_none : (texts : List (List ℕ)) → ((n : ℕ) → ¬ (AreWords (Seat n ∷ []) texts)) → (one : Line) → ¬ (IsSaid (codes "end" ∷ texts) one)
end_none texts none one h =
    let p = verb_parts verb.End texts one h in
    let k : IsSaid (codes "end" ∷ texts) (line.End p.0) = subst (IsSaid (codes "end" ∷ texts)) p.1 h in
    none p.0 k.1.1

pub crash_none : (texts : List (List ℕ)) → ((n : ℕ) → ¬ (AreWords (Number64 n ∷ []) texts)) → (one : Line) → ¬ (IsSaid (codes "crash" ∷ texts) one)
crash_none texts none one h =
    let p = verb_parts verb.Crash texts one h in
    let k : IsSaid (codes "crash" ∷ texts) (line.Crash p.0) = subst (IsSaid (codes "crash" ∷ texts)) p.1 h in
    none p.0 k.1.1

pub stop_none : (texts : List (List ℕ)) → ((n : ℕ) → ¬ (AreWords (Number32 n ∷ []) texts)) → (one : Line) → ¬ (IsSaid (codes "stop" ∷ texts) one)
stop_none texts none one h =
    let p = verb_parts verb.Stop texts one h in
    let k : IsSaid (codes "stop" ∷ texts) (line.Stop p.0) = subst (IsSaid (codes "stop" ∷ texts)) p.1 h in
    none p.0 k.1.1

line_none : (text word : List ℕ) (texts : List (List ℕ)) (one : Line) → split_words text ≡ word ∷ texts → ¬ (SaysNothing text) → IsLine text one → (IsSaid (word ∷ texts) one → ⊥) → ⊥
line_none text word texts one split some (inl h) none = some h.0
line_none text word texts one split some (inr h) none = none (rw split at h)

-- a word that is no verb begins no line
pub line_no_verb : (text word : List ℕ) (texts : List (List ℕ)) → split_words text ≡ word ∷ texts → ¬ (SaysNothing text) → ((v : Verb) → word ≢ verb_word v) → (one : Line) → ¬ (IsLine text one)
line_no_verb text word texts split some none one h = line_none text word texts one split some h (no_verb word texts none one)

-- a reader of words reads the line that has them
pub line_read : {E : Type 0} (r : Result (Option Line) E) (text word : List ℕ) (texts : List (List ℕ)) (v : Verb)
    → split_words text ≡ word ∷ texts → word ≡ verb_word v → ¬ (SaysNothing text) → IfOk r (Finds (IsSaid (verb_word v ∷ texts))) → IfOk r (Finds (IsLine text))
line_read (Err e) text word texts v split known some h = tt
line_read (Ok (Some one)) text word texts v split known some h = inr (rw (split, known) h)
line_read (Ok None) text word texts v split known some h = λ one k. line_none text word texts one split some k (λ said. h one (rw known at said))

-- words of one number, and of two, are the words of those numbers alone
one_same : (least most a b : ℕ) (texts : List (List ℕ)) → most < 2 ^ 64 → AreWords (Number least most a ∷ []) texts → AreWords (Number least most b ∷ []) texts → a ≡ b
one_same least most a b [] small h k = absurd h
one_same least most a b (text ∷ texts) small h k = one_number least most a b text small h.0 k.0

two_same : (low high least most a b c d : ℕ) (texts : List (List ℕ)) → high < 2 ^ 64 → most < 2 ^ 64
    → AreWords (Number low high a ∷ Number least most c ∷ []) texts → AreWords (Number low high b ∷ Number least most d ∷ []) texts → (a ≡ b) × (c ≡ d)
two_same low high least most a b c d [] small less h k = absurd h
two_same low high least most a b c d (text ∷ texts) small less h k = (one_number low high a b text small h.0 k.0, one_same least most c d texts less h.1 k.1)

-- words of a seat and a call
call_same : (a b : ℕ) (p q : Request) (texts : List (List ℕ)) → IsInLimits p → IsInLimits q → AreWords (Seat a ∷ request_words p) texts → AreWords (Seat b ∷ request_words q) texts → (a ≡ b) × (p ≡ q)
call_same a b p q [] small less h k = absurd h
call_same a b p q (text ∷ texts) small less h k = (one_number 1 8 a b text (omega arith) h.0 k.0, one_request texts p q (small, h.1) (less, k.1))

long_small : (call : Request) → IsLong call → IsInLimits call
long_small (request.Create path) h = absurd h
long_small (request.Mkdir path) h = absurd h
long_small (request.Write path pieces) h = absurd h
long_small (request.Truncate path size) h = absurd h
long_small (request.Unlink path) h = absurd h
long_small (request.Rmdir path) h = absurd h
long_small (request.Rename from to) h = absurd h
long_small (request.Read path off len) h = absurd h
long_small (request.List path) h = absurd h
long_small (request.Fsync path) h = tt
long_small request.Sync h = tt

abbrev kind_at : List ℕ → Option CallKind
kind_at word =
    if bytes_eq word (codes "read") then Some call_kind.Read else
    if bytes_eq word (codes "write") then Some call_kind.Write else
    if bytes_eq word (codes "flush") then Some call_kind.Flush else
    None

kind_known : (kind : CallKind) → kind_at (kind_word kind) ≡ Some kind
kind_known call_kind.Read = refl
kind_known call_kind.Write = refl
kind_known call_kind.Flush = refl

-- words of a kind and a number
fail_same : (k l : CallKind) (a b : ℕ) (texts : List (List ℕ)) → AreWords (Said (kind_word k) ∷ Number 1 4294967295 a ∷ []) texts → AreWords (Said (kind_word l) ∷ Number 1 4294967295 b ∷ []) texts → (k ≡ l) × (a ≡ b)
fail_same k l a b [] h i = absurd h
fail_same k l a b (text ∷ texts) h i =
    let e : Some k ≡ Some l = sym (kind_known k) ∙ ap kind_at (sym h.0 ∙ i.0) ∙ kind_known l in
    (cc, one_same 1 4294967295 a b texts (omega arith) h.1 i.1)

-- words are one line at most
one_said : (word : List ℕ) (texts : List (List ℕ)) (a b : Line) → IsSaid (word ∷ texts) a → IsSaid (word ∷ texts) b → a ≡ b
one_said word texts line.Skipped b h k = absurd h.1
one_said word texts (line.Mkfs x y) b h k =
    let p = verb_parts verb.Mkfs texts b (subst (λ w. IsSaid (w ∷ texts) b) h.1.0 k) in
    let l : IsSaid (word ∷ texts) (line.Mkfs p.0 p.1) = subst (IsSaid (word ∷ texts)) p.2 k in
    let s = two_same 0 4294967295 0 4294967295 x p.0 y p.1 texts (omega arith) (omega arith) h.1.1 l.1.1 in
    ap (λ n. line.Mkfs n y) s.0 ∙ ap (λ n. line.Mkfs p.0 n) s.1 ∙ sym p.2
one_said word texts (line.Gen x y) b h k =
    let p = verb_parts verb.Gen texts b (subst (λ w. IsSaid (w ∷ texts) b) h.1.0 k) in
    let l : IsSaid (word ∷ texts) (line.Gen p.0 p.1) = subst (IsSaid (word ∷ texts)) p.2 k in
    let s = two_same 0 18446744073709551615 0 50000 x p.0 y p.1 texts (omega arith) (omega arith) h.1.1 l.1.1 in
    ap (λ n. line.Gen n y) s.0 ∙ ap (λ n. line.Gen p.0 n) s.1 ∙ sym p.2
one_said word texts (line.Go x) b h k =
    let p = verb_parts verb.Go texts b (subst (λ w. IsSaid (w ∷ texts) b) h.1.0 k) in
    let l : IsSaid (word ∷ texts) (line.Go p.0) = subst (IsSaid (word ∷ texts)) p.1 k in
    ap line.Go (one_same 1 8 x p.0 texts (omega arith) h.1.1 l.1.1) ∙ sym p.1
one_said word texts (line.Slot x) b h k =
    let p = verb_parts verb.Slot texts b (subst (λ w. IsSaid (w ∷ texts) b) h.1.0 k) in
    let l : IsSaid (word ∷ texts) (line.Slot p.0) = subst (IsSaid (word ∷ texts)) p.1 k in
    ap line.Slot (one_same 1 8 x p.0 texts (omega arith) h.1.1 l.1.1) ∙ sym p.1
one_said word texts (line.End x) b h k =
    let p = verb_parts verb.End texts b (subst (λ w. IsSaid (w ∷ texts) b) h.1.0 k) in
    let l : IsSaid (word ∷ texts) (line.End p.0) = subst (IsSaid (word ∷ texts)) p.1 k in
    ap line.End (one_same 1 8 x p.0 texts (omega arith) h.1.1 l.1.1) ∙ sym p.1
one_said word texts (line.Crash x) b h k =
    let p = verb_parts verb.Crash texts b (subst (λ w. IsSaid (w ∷ texts) b) h.1.0 k) in
    let l : IsSaid (word ∷ texts) (line.Crash p.0) = subst (IsSaid (word ∷ texts)) p.1 k in
    ap line.Crash (one_same 0 18446744073709551615 x p.0 texts (omega arith) h.1.1 l.1.1) ∙ sym p.1
one_said word texts (line.Stop x) b h k =
    let p = verb_parts verb.Stop texts b (subst (λ w. IsSaid (w ∷ texts) b) h.1.0 k) in
    let l : IsSaid (word ∷ texts) (line.Stop p.0) = subst (IsSaid (word ∷ texts)) p.1 k in
    ap line.Stop (one_same 0 4294967295 x p.0 texts (omega arith) h.1.1 l.1.1) ∙ sym p.1
one_said word texts (line.Call x y) b h k =
    let p = verb_parts verb.Call texts b (subst (λ w. IsSaid (w ∷ texts) b) h.1.0 k) in
    let l : IsSaid (word ∷ texts) (line.Call p.0 p.1) = subst (IsSaid (word ∷ texts)) p.2 k in
    let s = call_same x p.0 y p.1 texts h.0 l.0 h.1.1 l.1.1 in
    ap (λ n. line.Call n y) s.0 ∙ ap (λ q. line.Call p.0 q) s.1 ∙ sym p.2
one_said word texts (line.Begin x y) b h k =
    let p = verb_parts verb.Begin texts b (subst (λ w. IsSaid (w ∷ texts) b) h.1.0 k) in
    let l : IsSaid (word ∷ texts) (line.Begin p.0 p.1) = subst (IsSaid (word ∷ texts)) p.2 k in
    let s = call_same x p.0 y p.1 texts (long_small y h.0) (long_small p.1 l.0) h.1.1 l.1.1 in
    ap (λ n. line.Begin n y) s.0 ∙ ap (λ q. line.Begin p.0 q) s.1 ∙ sym p.2
one_said word texts (line.Fail x y) b h k =
    let p = verb_parts verb.Fail texts b (subst (λ w. IsSaid (w ∷ texts) b) h.1.0 k) in
    let l : IsSaid (word ∷ texts) (line.Fail p.0 p.1) = subst (IsSaid (word ∷ texts)) p.2 k in
    let s = fail_same x p.0 y p.1 texts h.1.1 l.1.1 in
    ap (λ q. line.Fail q y) s.0 ∙ ap (λ n. line.Fail p.0 n) s.1 ∙ sym p.2
one_said word texts line.Tick b h k = sym (verb_parts verb.Tick texts b (subst (λ w. IsSaid (w ∷ texts) b) h.1.0 k))
one_said word texts line.Mount b h k = sym (verb_parts verb.Mount texts b (subst (λ w. IsSaid (w ∷ texts) b) h.1.0 k))
one_said word texts line.Unmount b h k = sym (verb_parts verb.Unmount texts b (subst (λ w. IsSaid (w ∷ texts) b) h.1.0 k))
one_said word texts line.Tree b h k = sym (verb_parts verb.Tree texts b (subst (λ w. IsSaid (w ∷ texts) b) h.1.0 k))

-- a line that says nothing has no verb
first_nothing : (texts : List (List ℕ)) (one : Line) → ¬ (IsSaid (onto_first 35 texts) one)
first_nothing [] one h = no_verb (35 ∷ []) [] (no_such_verb (35 ∷ []) refl) one h
first_nothing (text ∷ texts) one h = no_verb (35 ∷ text) texts (no_such_verb (35 ∷ text) refl) one h

nothing_said : (text : List ℕ) (one : Line) → SaysNothing text → ¬ (IsSaid (split_words text) one)
nothing_said [] one nothing h = no_verb [] [] (no_such_verb [] refl) one h
nothing_said (b ∷ text) one nothing h =
    let k : IsSaid (split_words (35 ∷ text)) one = subst (λ c. IsSaid (split_words (c ∷ text)) one) nothing h in
    first_nothing (split_words text) one k

some_parts : (texts : List (List ℕ)) → 0 < length texts → (word : List ℕ) × (rest : List (List ℕ)) × (texts ≡ word ∷ rest)
some_parts [] some = absurd (omega arith)
some_parts (word ∷ texts) some = (word, texts, refl)

pub some_words : (text : List ℕ) → (word : List ℕ) × (texts : List (List ℕ)) × (split_words text ≡ word ∷ texts)
some_words text = some_parts (split_words text) (omega (arith, length-slice_split (λ b. eqb b 32) text))

-- a text is one line at most
pub one_line : (text : List ℕ) (a b : Line) → IsLine text a → IsLine text b → a ≡ b
one_line text a b (inl h) (inl k) = h.1 ∙ sym k.1
one_line text a b (inl h) (inr k) = absurd (nothing_said text b h.0 k)
one_line text a b (inr h) (inl k) = absurd (nothing_said text a k.0 h)
one_line text a b (inr h) (inr k) =
    let s = some_words text in
    one_said s.0 s.1 a b (subst (λ t. IsSaid t a) s.2 h) (subst (λ t. IsSaid t b) s.2 k)
