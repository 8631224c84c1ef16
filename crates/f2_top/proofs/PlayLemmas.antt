-- Lines that are played one after another, and what they print.
use Rattle.std.proofs.Common.{◌≡◌, ℕ, List, [], ◌∷◌, ◌++◌, refl, sym, ap, ◌∙◌, subst, append_assoc, append-nil, length, take, Result, Ok, Err, IfOk, is_err, false, arith}
use Rattle.std.specs.Prelude.{Option, None, OnOk}
use Rattle.std.specs.List.{AllByRecursion}
use Rattle.std.specs.Io.KnownBytes.{Appends}
use Rattle.std.proofs.KnownBytes.{Appends-nil, Appends-trans}
use Rattle.std.proofs.Math.Seq.{take-append_seam}
use Rattle.f2_disk.specs.Contents.{Contents}
use Rattle.f2_model.specs.declared.bounds.Limits.{Limits}
use Rattle.f2_model.specs.State.{State}
use Rattle.f2_flat.specs.Flat.{limits_of}
use Rattle.f2_core.specs.Seen.{Seen}
use Rattle.f2_script.specs.declared.script.Line.{Line}
use Rattle.f2_play.specs.Parts.{IsCalm}
use Rattle.f2_play.specs.Lines.{PlaysLines}
use Rattle.f2_play.proofs.Playing.{all-snoc, PlaysLines-snoc, text_of-snoc}
use Rattle.f2_top.specs.Left.{IsSafeWhereTold}
use Rattle.f2_top.specs.Runs.{IsAt, PlaysAs, PlaysOn, PlaysTo, PlaysFrom, SomePrint, SomeCut}
use Rattle.f2_top.specs.Streams.{IsCutAfter, PutsSome}

-- no line yet
pub PlaysTo-none : (limits : Limits) (from : State) → PlaysTo limits from [] [] from
PlaysTo-none limits from = record { parts = []; no_fault = tt; played = refl; printed = refl }

-- one line more, and what it prints
pub PlaysTo-snoc : (limits : Limits) (from mid to : State) (lines : List Line) (line : Line) (text more : List ℕ)
    → PlaysTo limits from lines text mid → PlaysAs limits mid line more to → PlaysTo limits from (lines ++ line ∷ []) (text ++ more) to
PlaysTo-snoc limits from mid to lines line text more first last = record {
  parts = first.parts ++ last.part ∷ [];
  no_fault = all-snoc IsCalm first.parts last.part first.no_fault last.no_fault;
  played = subst (λ s. PlaysLines limits from (lines ++ line ∷ []) (first.parts ++ last.part ∷ []) s) last.after
      (PlaysLines-snoc limits from mid lines first.parts line last.part first.played last.line_played);
  printed = text_of-snoc first.parts last.part text more first.printed last.printed;
}

-- how far a run of lines has come: the lines that were played and those that are left
pub record Progress (limits : Limits) (from : State) (all left : List Line) (text : List ℕ) (now : State) : Type 0 where
  pub done : List Line
  pub whole : all ≡ done ++ left
  pub played : PlaysTo limits from done text now

pub Progress-start : (limits : Limits) (from : State) (all : List Line) → Progress limits from all all [] from
Progress-start limits from all = record { done = []; whole = refl; played = PlaysTo-none limits from }

pub Progress-step : (limits here : Limits) (from mid to : State) (all before left : List Line) (line : Line) (text more : List ℕ)
    → before ≡ line ∷ left → here ≡ limits → Progress limits from all before text mid → PlaysAs here mid line more to → Progress limits from all left (text ++ more) to
Progress-step limits here from mid to all before left line text more next same progress last = record {
  done = progress.done ++ line ∷ [];
  whole = progress.whole ∙ ap (λ ls. progress.done ++ ls) next ∙ sym (append_assoc progress.done (line ∷ []) left);
  played = PlaysTo-snoc limits from mid to progress.done line text more progress.played (subst (λ l. PlaysAs l mid line more to) same last);
}

-- what was played so far are some first lines
pub Progress-some : (limits : Limits) (from now : State) (all left : List Line) (text : List ℕ) → Progress limits from all left text now → SomePrint (PlaysFrom None limits from) all text
Progress-some limits from now all left text progress = record {
  count = length progress.done;
  holds = subst (λ ls. PlaysFrom None limits from ls text) (sym (ap (take (length progress.done)) progress.whole ∙ take-append_seam progress.done left))
      record { to = now; played = progress.played; safe = tt };
}

-- no line is left
pub Progress-end : (told : Option Contents) (limits : Limits) (from now : State) (all left : List Line) (text : List ℕ)
    → left ≡ [] → IsSafeWhereTold told now → Progress limits from all left text now → PlaysFrom told limits from all text
Progress-end told limits from now all left text none safe progress =
    subst (λ ls. PlaysFrom told limits from ls text) (sym (progress.whole ∙ ap (λ ls. progress.done ++ ls) none ∙ append-nil progress.done))
    record { to = now; played = progress.played; safe = safe }

-- the sink failed within what the last line printed
pub Progress-cut : (limits : Limits) (from now : State) (all left : List Line) (text more gone : List ℕ)
    → Progress limits from all left (text ++ more) now → IsCutAfter gone more → SomeCut (PlaysFrom None limits from) all (text ++ gone)
Progress-cut limits from now all left text more gone progress cut = record {
  text = text ++ more;
  first = Progress-some limits from now all left (text ++ more) progress;
  cut = record { rest = cut.rest; whole = ap (λ t. text ++ t) cut.whole ∙ sym (append_assoc text gone cut.rest) };
}

-- what holds of a value that a call gave, from what else does
pub IfOk-map : {T E : Type 0} (P Q : T → Type 0) (r : Result T E) → ((x : T) → P x → Q x) → IfOk r P → IfOk r Q
IfOk-map P Q (Ok x) f h = f x h
IfOk-map P Q (Err e) f h = tt

-- what holds where a call didn't fail, since it didn't
pub OnOk-of : {T E : Type 0} (P : Type 0) (r : Result T E) → is_err r ≡ false → OnOk r P → P
OnOk-of P (Ok x) e h = h
OnOk-of P (Err x) e h = absurd (cc)

-- how far a run of lines on a core has come: what it printed, and the state that the core is in
pub record Reaches {D : Type 0} (limits : Limits) (from : State) (all left : List Line) (then now : Option (List ℕ)) (told : Option Contents) (core : Seen D) : Type 0 where
  pub text : List ℕ
  pub state : State
  pub written : Appends then now text
  pub progress : Progress limits from all left text state
  pub at : IsAt told core state

-- the same from each state that the first core was in
abbrev pub Runs : {D : Type 0} → Option Contents → Seen D → List Line → List Line → Option (List ℕ) → Option (List ℕ) → Option Contents → Seen D → Type 0
Runs first core all left then now told new = (from : State) → IsAt first core from → Reaches (limits_of core.geometry) from all left then now told new

pub Runs-start : {D : Type 0} (told : Option Contents) (core : Seen D) (all : List Line) (now : Option (List ℕ)) → Runs told core all all now now told core
Runs-start told core all now from at = record {
  text = [];
  state = from;
  written = Appends-nil now;
  progress = Progress-start (limits_of core.geometry) from all;
  at = at;
}

-- one line more was played, and its text went out
pub Runs-step : {D : Type 0} (first told more_told : Option Contents) (core old new : Seen D) (all before left : List Line) (line : Line) (more : List ℕ) (then now later : Option (List ℕ))
    → before ≡ line ∷ left → old.geometry ≡ core.geometry → PlaysOn told more_told old new line more → Appends now later more
    → Runs first core all before then now told old → Runs first core all left then later more_told new
Runs-step first told more_told core old new all before left line more then now later next same plays written runs from at =
    let so_far = runs from at in
    let played = plays so_far.state so_far.at in
    record {
      text = so_far.text ++ more;
      state = played.0;
      written = Appends-trans then now later so_far.text more so_far.written written;
      progress = Progress-step (limits_of core.geometry) (limits_of old.geometry) from so_far.state played.0 all before left line so_far.text more next (ap limits_of same) so_far.progress played.1;
      at = played.2;
    }

-- what went out of lines: memory was refused, the sink failed, or none is left
pub Runs-some : {D : Type 0} (first told : Option Contents) (core new : Seen D) (all left : List Line) (then now : Option (List ℕ))
    → Runs first core all left then now told new → (from : State) → IsAt first core from
    → (out : List ℕ) × Appends then now out × SomePrint (PlaysFrom None (limits_of core.geometry) from) all out
Runs-some first told core new all left then now runs from at =
    let so_far = runs from at in
    (so_far.text, so_far.written, Progress-some (limits_of core.geometry) from so_far.state all left so_far.text so_far.progress)

pub Runs-end : {D : Type 0} (first told : Option Contents) (core new : Seen D) (all left : List Line) (then now : Option (List ℕ))
    → left ≡ [] → Runs first core all left then now told new → (from : State) → IsAt first core from
    → (out : List ℕ) × Appends then now out × PlaysFrom told (limits_of core.geometry) from all out
Runs-end first told core new all left then now none runs from at =
    let so_far = runs from at in
    (so_far.text, so_far.written, Progress-end told (limits_of core.geometry) from so_far.state all left so_far.text none so_far.at.safe so_far.progress)

pub Runs-fails : {D : Type 0} (first told more_told : Option Contents) (core old new : Seen D) (all before left : List Line) (line : Line) (more : List ℕ) (then now later : Option (List ℕ))
    → before ≡ line ∷ left → old.geometry ≡ core.geometry → PlaysOn told more_told old new line more → PutsSome now later more
    → Runs first core all before then now told old → (from : State) → IsAt first core from
    → (out : List ℕ) × Appends then later out × SomeCut (PlaysFrom None (limits_of core.geometry) from) all out
Runs-fails first told more_told core old new all before left line more then now later next same plays some runs from at =
    let so_far = runs from at in
    let played = plays so_far.state so_far.at in
    let limits = limits_of core.geometry in (
      so_far.text ++ some.gone,
      Appends-trans then now later so_far.text some.gone so_far.written some.written,
      Progress-cut limits from played.0 all left so_far.text more some.gone
          (Progress-step limits (limits_of old.geometry) from so_far.state played.0 all before left line so_far.text more next (ap limits_of same) so_far.progress played.1)
          some.cut,
    )

pub All-tail : {X : Type 0} (P : X → Type 0) (xs ys : List X) (x : X) → xs ≡ x ∷ ys → AllByRecursion P xs → AllByRecursion P ys
All-tail P xs ys x e all = let h : AllByRecursion P (x ∷ ys) = subst (AllByRecursion P) e all in h.1

pub none-left : {X : Type 0} (xs : List X) → length xs ≡ 0 → xs ≡ []
none-left [] e = refl
none-left (x ∷ xs) e = absurd (omega (arith, e))
