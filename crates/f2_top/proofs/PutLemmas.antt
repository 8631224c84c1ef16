-- Texts that went out one after another.
use Rattle.std.proofs.Common.{◌≡◌, ℕ, List, [], ◌++◌, refl, sym, ap, ◌∙◌, append_assoc, append-nil, is_err, true, false, take, drop, take-append-drop, subst, Result, Ok, Err}
use Rattle.std.specs.Prelude.{Option}
use Rattle.std.specs.Io.KnownBytes.{Appends}
use Rattle.std.proofs.KnownBytes.{Appends-nil, Appends-trans}
use Rattle.f2_top.specs.Streams.{PutsSome, Puts}

-- a text that was cut is cut also where more stands behind it
pub PutsSome-more : (old new : Option (List ℕ)) (text more : List ℕ) → PutsSome old new text → PutsSome old new (text ++ more)
PutsSome-more old new text more some = record {
  gone = some.gone;
  cut = record { rest = some.cut.rest ++ more; whole = ap (λ t. t ++ more) some.cut.whole ∙ append_assoc some.gone some.cut.rest more };
  written = some.written;
}

-- a text that was cut after another went out
pub PutsSome-after : (old mid new : Option (List ℕ)) (first text : List ℕ) → Appends old mid first → PutsSome mid new text → PutsSome old new (first ++ text)
PutsSome-after old mid new first text before some = record {
  gone = first ++ some.gone;
  cut = record { rest = some.cut.rest; whole = ap (λ t. first ++ t) some.cut.whole ∙ sym (append_assoc first some.gone some.cut.rest) };
  written = Appends-trans old mid new first some.gone before some.written;
}

-- a text that goes out, or is cut, after another went out
pub Puts-after : {T E : Type 0} (old mid new : Option (List ℕ)) (first text : List ℕ) (result : Result T E) → Appends old mid first → Puts mid new result text → Puts old new result (first ++ text)
Puts-after old mid new first text (Ok v) before after = Appends-trans old mid new first text before after
Puts-after old mid new first text (Err e) before after = PutsSome-after old mid new first text before after

-- what of a text has gone out so far, and what is left
pub record PutSoFar (old now : Option (List ℕ)) (text left : List ℕ) : Type 0 where
  pub gone : List ℕ
  pub whole : text ≡ gone ++ left
  pub written : Appends old now gone

pub PutSoFar-start : (old : Option (List ℕ)) (text : List ℕ) → PutSoFar old old text text
PutSoFar-start old text = record { gone = []; whole = refl; written = Appends-nil old }

more-gone : (text gone left : List ℕ) (n : ℕ) → text ≡ gone ++ left → text ≡ (gone ++ take n left) ++ drop n left
more-gone text gone left n whole = whole ∙ ap (λ t. gone ++ t) (sym (take-append-drop n left)) ∙ sym (append_assoc gone (take n left) (drop n left))

pub PutSoFar-step : (old mid new : Option (List ℕ)) (text left : List ℕ) (n : ℕ) → PutSoFar old mid text left → Appends mid new (take n left) → PutSoFar old new text (drop n left)
PutSoFar-step old mid new text left n so_far more = record {
  gone = so_far.gone ++ take n left;
  whole = more-gone text so_far.gone left n so_far.whole;
  written = Appends-trans old mid new so_far.gone (take n left) so_far.written more;
}

pub PutSoFar-next : (old mid new : Option (List ℕ)) (text left next : List ℕ) (n : ℕ) → next ≡ drop n left → PutSoFar old mid text left → Appends mid new (take n left) → PutSoFar old new text next
PutSoFar-next old mid new text left next n e so_far more = subst (PutSoFar old new text) (sym e) (PutSoFar-step old mid new text left n so_far more)

pub PutSoFar-cut : (old mid new : Option (List ℕ)) (text left : List ℕ) (n : ℕ) → PutSoFar old mid text left → Appends mid new (take n left) → PutsSome old new text
PutSoFar-cut old mid new text left n so_far more = record {
  gone = so_far.gone ++ take n left;
  cut = record { rest = drop n left; whole = more-gone text so_far.gone left n so_far.whole };
  written = Appends-trans old mid new so_far.gone (take n left) so_far.written more;
}

pub PutSoFar-end : (old now : Option (List ℕ)) (text left : List ℕ) → left ≡ [] → PutSoFar old now text left → Appends old now text
PutSoFar-end old now text left none so_far =
    subst (λ t. Appends old now t) (sym (so_far.whole ∙ ap (λ t. so_far.gone ++ t) none ∙ append-nil so_far.gone)) so_far.written

-- a put that failed, and one that didn't
pub Puts-err : {T E : Type 0} (old new : Option (List ℕ)) (r : Result T E) (text : List ℕ) → is_err r ≡ true → Puts old new r text → PutsSome old new text
Puts-err old new (Ok v) text e puts = absurd (cc)
Puts-err old new (Err v) text e puts = puts

pub Puts-ok : {T E : Type 0} (old new : Option (List ℕ)) (r : Result T E) (text : List ℕ) → is_err r ≡ false → Puts old new r text → Appends old new text
Puts-ok old new (Ok v) text e puts = puts
Puts-ok old new (Err v) text e puts = absurd (cc)
