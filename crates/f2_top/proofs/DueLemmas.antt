-- Each status comes where the bytes are due it.
use Rattle.std.proofs.Common.{◌≡◌, ℕ, ◌+◌, List, [], ◌∷◌, ◌++◌, length, refl, sym, ap, ◌∙◌, subst, arith, inl, inr, Result, Ok, Err, take, length-append}
use Rattle.std.specs.Prelude.{Option, Some}
use Rattle.std.specs.Io.KnownBytes.{Consumes}
use Rattle.f2_format.specs.Geometry.{ImageGeometry}
use Rattle.f2_layout.specs.Refusal.{geometry_of}
use Rattle.f2_layout.specs.declared.geometry.Limit.{Limit}
use Rattle.f2_layout.specs.declared.geometry.BadGeometry.{BadGeometry}
use Rattle.f2_recover.specs.declared.faults.BadImage.{BadImage}
use Rattle.f2_script.specs.declared.script.Line.{Line}
use Rattle.f2_script.specs.declared.script.Line.TheVariants as verb
use Rattle.f2_script.specs.declared.script.Line.TheVariants.{Mkfs}
use Rattle.f2_script.specs.declared.script.Grammar.TheVariants as grammar
use Rattle.f2_script.specs.Grammar.{IsTooLong, Spells, IsFirstFault, lines_of}
use Rattle.f2_script.proofs.ScriptLaws.{one_reading, no_fault, one_fault}
use Rattle.f2_play.specs.declared.status.Status.{Status}
use Rattle.f2_play.specs.declared.status.Status.TheVariants as status
use Rattle.f2_play.specs.Scripts.{BreaksLimit}
use Rattle.f2_play.specs.Due as due_of
use Rattle.f2_play.specs.Due.{IsFree}
use Rattle.f2_top.specs.Reads.{TakesScript, IsTaken}
use Rattle.f2_top.specs.Replay.{Finishes, said_whole, broken_off}
use Rattle.f2_top.specs.Runs.{IsPlayed, IsDueLines}

-- two readings of the same bytes, a reading and a fault, and two faults
same_lines : (bytes : List ℕ) (a b : List Line) → Spells grammar.Replay bytes a → Spells grammar.Replay bytes b → a ≡ b
same_lines bytes a b = one_reading grammar.Replay _ (lines_of bytes) a b

not_both : (bytes : List ℕ) (lines : List Line) (n : ℕ) → Spells grammar.Replay bytes lines → ¬ (IsFirstFault grammar.Replay bytes n)
not_both bytes lines n spelled first = no_fault grammar.Replay _ (lines_of bytes) lines first.0 spelled first.2

same_fault : (bytes : List ℕ) (m n : ℕ) → IsFirstFault grammar.Replay bytes m → IsFirstFault grammar.Replay bytes n → m ≡ n
same_fault bytes m n a b = a.1 ∙ ap (λ k. k + 1) (one_fault grammar.Replay _ (lines_of bytes) a.0 b.0 a.2 b.2) ∙ sym b.1

-- the status of what is said of sizes
abbrev status_of : Result ImageGeometry BadGeometry → Status
status_of (Ok geom) = status.Done
status_of (Err bad) = status.Geometry bad.limit bad.value

-- lines break one limit first
one_break : (lines : List Line) (l k : Limit) (v w : ℕ) → BreaksLimit lines l v → BreaksLimit lines k w → status.Geometry l v ≡ status.Geometry k w
one_break [] l k v w one other = absurd one
one_break (verb.Skipped ∷ lines) l k v w one other = one_break lines l k v w one other
one_break (verb.Mkfs blocks nat ∷ lines) l k v w one other = ap status_of (sym one ∙ other)
one_break (verb.Tree ∷ lines) l k v w one other = absurd one
one_break (verb.Call seat request ∷ lines) l k v w one other = absurd one
one_break (verb.Begin seat request ∷ lines) l k v w one other = absurd one
one_break (verb.Go seat ∷ lines) l k v w one other = absurd one
one_break (verb.Slot seat ∷ lines) l k v w one other = absurd one
one_break (verb.End seat ∷ lines) l k v w one other = absurd one
one_break (verb.Tick ∷ lines) l k v w one other = absurd one
one_break (verb.Crash pick ∷ lines) l k v w one other = absurd one
one_break (verb.Fail kind n ∷ lines) l k v w one other = absurd one
one_break (verb.Stop n ∷ lines) l k v w one other = absurd one
one_break (verb.Mount ∷ lines) l k v w one other = absurd one
one_break (verb.Unmount ∷ lines) l k v w one other = absurd one
one_break (verb.Gen start count ∷ lines) l k v w one other = absurd one

same_break : (bytes : List ℕ) (a b : List Line) (l k : Limit) (v w : ℕ) → Spells grammar.Replay bytes a → Spells grammar.Replay bytes b
    → BreaksLimit a l v → BreaksLimit b k w → status.Geometry l v ≡ status.Geometry k w
same_break bytes a b l k v w spelled again one other =
    one_break b l k v w (subst (λ ls. BreaksLimit ls l v) (same_lines bytes a b spelled again) one) other

-- each status comes where the bytes of a `replay` script are due it
abbrev pub IsDue : List ℕ → Status → Type 0
IsDue bytes s = due_of.IsDue grammar.Replay bytes s

-- a free status is due to nothing
due-free : (bytes : List ℕ) (s : Status) → IsFree s → IsDue bytes s
due-free bytes s free = record {
  done = λ _. inr free;
  too_long = λ _. inr free;
  faulty = λ line _. inr free;
  broken = λ limit value _. inr free;
  only_done = λ is. absurd (subst IsFree is free);
  only_too_long = λ is. absurd (subst IsFree is free);
  only_faulty = λ line is. absurd (subst IsFree is free);
  only_broken = λ limit value is. absurd (subst IsFree is free);
  never = λ is. absurd (subst IsFree is free);
  never_disk = λ is. absurd (subst IsFree is free);
  never_image = λ bad is. absurd (subst IsFree is free);
}

-- the other statuses are due to bytes of which their reason holds
due-done : (bytes : List ℕ) (lines : List Line) → ¬ (IsTooLong bytes) → Spells grammar.Replay bytes lines → ((limit : Limit) (value : ℕ) → ¬ (BreaksLimit lines limit value)) → IsDue bytes status.Done
due-done bytes lines fits spelled within = record {
  done = λ _. inl refl;
  too_long = λ long. absurd (fits long);
  faulty = λ line f. absurd (not_both bytes lines line spelled f.first);
  broken = λ limit value b. absurd (within limit value (subst (λ l. BreaksLimit l limit value) (same_lines bytes b.lines lines b.spelled spelled) b.broken));
  only_done = λ _. record { fits = fits; lines = lines; spelled = spelled; within = within };
  only_too_long = λ is. absurd (cc);
  only_faulty = λ line is. absurd (cc);
  only_broken = λ limit value is. absurd (cc);
  never = λ is. absurd (cc);
  never_disk = λ is. absurd (cc);
  never_image = λ bad is. absurd (cc);
}

due-long : (bytes : List ℕ) → IsTooLong bytes → IsDue bytes status.TooLong
due-long bytes long = record {
  done = λ s. absurd (s.fits long);
  too_long = λ _. inl refl;
  faulty = λ line f. absurd (f.fits long);
  broken = λ limit value b. absurd (b.fits long);
  only_done = λ is. absurd (cc);
  only_too_long = λ _. long;
  only_faulty = λ line is. absurd (cc);
  only_broken = λ limit value is. absurd (cc);
  never = λ is. absurd (cc);
  never_disk = λ is. absurd (cc);
  never_image = λ bad is. absurd (cc);
}

due-line : (bytes : List ℕ) (n : ℕ) → ¬ (IsTooLong bytes) → IsFirstFault grammar.Replay bytes n → IsDue bytes (status.Script n)
due-line bytes n fits first = record {
  done = λ s. absurd (not_both bytes s.lines n s.spelled first);
  too_long = λ long. absurd (fits long);
  faulty = λ line f. inl (ap status.Script (same_fault bytes n line first f.first));
  broken = λ limit value b. absurd (not_both bytes b.lines n b.spelled first);
  only_done = λ is. absurd (cc);
  only_too_long = λ is. absurd (cc);
  only_faulty = λ line is. record { fits = fits; first = subst (IsFirstFault grammar.Replay bytes) (line_of n line is) first };
  only_broken = λ limit value is. absurd (cc);
  never = λ is. absurd (cc);
  never_disk = λ is. absurd (cc);
  never_image = λ bad is. absurd (cc);
}
  where
    line_of : (m n : ℕ) → status.Script m ≡ status.Script n → m ≡ n
    line_of m n e = cc

due-limit : (bytes : List ℕ) (lines : List Line) (l : Limit) (v : ℕ) → ¬ (IsTooLong bytes) → Spells grammar.Replay bytes lines → BreaksLimit lines l v → IsDue bytes (status.Geometry l v)
due-limit bytes lines l v fits spelled breaks = record {
  done = λ s. absurd (s.within l v (subst (λ x. BreaksLimit x l v) (same_lines bytes lines s.lines spelled s.spelled) breaks));
  too_long = λ long. absurd (fits long);
  faulty = λ line f. absurd (not_both bytes lines line spelled f.first);
  broken = λ limit value b. inl (same_break bytes lines b.lines l limit v value spelled b.spelled breaks b.broken);
  only_done = λ is. absurd (cc);
  only_too_long = λ is. absurd (cc);
  only_faulty = λ line is. absurd (cc);
  only_broken = λ limit value is. let one : l ≡ limit = limit_of l limit v value is in let two : v ≡ value = value_of l limit v value is in
      record { fits = fits; lines = lines; spelled = spelled; broken = subst (λ x. BreaksLimit lines x value) one (subst (λ x. BreaksLimit lines l x) two breaks) };
  never = λ is. absurd (cc);
  never_disk = λ is. absurd (cc);
  never_image = λ bad is. absurd (cc);
}
  where
    limit_of : (l k : Limit) (v w : ℕ) → status.Geometry l v ≡ status.Geometry k w → l ≡ k
    limit_of l k v w e = cc

    value_of : (l k : Limit) (v w : ℕ) → status.Geometry l v ≡ status.Geometry k w → v ≡ w
    value_of l k v w e = cc

-- bytes that are lines are due what the lines are
due-lines : (bytes : List ℕ) (lines : List Line) (s : Status) → ¬ (IsTooLong bytes) → Spells grammar.Replay bytes lines → IsDueLines lines s → IsDue bytes s
due-lines bytes lines status.Done fits spelled due = due-done bytes lines fits spelled due
due-lines bytes lines (status.Geometry limit value) fits spelled due = due-limit bytes lines limit value fits spelled due
due-lines bytes lines status.Memory fits spelled due = due-free bytes status.Memory tt
due-lines bytes lines status.SinkFault fits spelled due = due-free bytes status.SinkFault tt
due-lines bytes lines status.Usage fits spelled due = absurd due
due-lines bytes lines status.TooLong fits spelled due = absurd due
due-lines bytes lines (status.Script line) fits spelled due = absurd due
due-lines bytes lines status.SourceFault fits spelled due = absurd due
due-lines bytes lines status.DiskFault fits spelled due = absurd due
due-lines bytes lines (status.BadImage bad) fits spelled due = absurd due

-- a source that tells what it has gave these bytes alone
cancel : (xs ys zs : List ℕ) → xs ++ zs ≡ ys ++ zs → xs ≡ ys
cancel xs ys zs e =
    let len : length xs ≡ length ys = omega (arith, ap length e, length-append xs zs, length-append ys zs) in
    sym (first xs zs) ∙ ap (take (length xs)) e ∙ ap (λ n. take n (ys ++ zs)) len ∙ first ys zs
  where
    first : (xs zs : List ℕ) → take (length xs) (xs ++ zs) ≡ xs
    first [] zs = refl
    first (x ∷ xs) zs = ap (λ l. x ∷ l) (first xs zs)

same_bytes : (old new : Option (List ℕ)) (bytes others : List ℕ) → IsTaken old new bytes → Consumes old new others → others ≡ bytes
same_bytes old new bytes others taken consumed =
    let told : Consumes (Some (bytes ++ taken.rest)) (Some taken.rest) others = subst (λ o. Consumes o (Some taken.rest) others) taken.before (subst (λ o. Consumes old o others) taken.after consumed) in
    sym (cancel bytes others taken.rest told)

-- what bytes that were taken are due, by what a script that was read is
abbrev pub DueTaken : Option (List ℕ) → Option (List ℕ) → Status → Type 0
DueTaken old new s = (bytes : List ℕ) → IsTaken old new bytes → IsDue bytes s

pub DueTaken-lines : (old new : Option (List ℕ)) (script : List ℕ) (lines : List Line) (s : Status)
    → TakesScript old new script → ¬ (IsTooLong script) → Spells grammar.Replay script lines → IsDueLines lines s → DueTaken old new s
DueTaken-lines old new script lines s taken fits spelled due bytes is =
    subst (λ b. IsDue b s) (same_bytes old new bytes script is taken.taken) (due-lines script lines s fits spelled due)

pub DueTaken-long : (old new : Option (List ℕ)) (script : List ℕ) → TakesScript old new script → IsTooLong script → DueTaken old new status.TooLong
DueTaken-long old new script taken long bytes is = subst (λ b. IsDue b status.TooLong) (same_bytes old new bytes script is taken.taken) (due-long script long)

pub DueTaken-line : (old new : Option (List ℕ)) (script : List ℕ) (n m : ℕ) → TakesScript old new script → ¬ (IsTooLong script) → IsFirstFault grammar.Replay script n → n ≡ m
    → DueTaken old new (status.Script m)
DueTaken-line old new script n m taken fits first same bytes is =
    subst (λ k. IsDue bytes (status.Script k)) same
    (subst (λ b. IsDue b (status.Script n)) (same_bytes old new bytes script is taken.taken) (due-line script n fits first))

pub DueTaken-free : (old new : Option (List ℕ)) (s : Status) → IsFree s → DueTaken old new s
DueTaken-free old new s free bytes is = due-free bytes s free

-- a sink that fails in the last line is a fault
pub DueTaken-finished : (old new then now : Option (List ℕ)) (s ending : Status) → DueTaken old new s → Finishes then now s ending → DueTaken old new ending
DueTaken-finished old new then now s ending due (said_whole same line) bytes is = subst (IsDue bytes) (sym same) (due bytes is)
DueTaken-finished old new then now s ending due (broken_off failed loud some) bytes is = subst (IsDue bytes) (sym failed) (due-free bytes status.SinkFault tt)

-- lines whose sizes break no limit
unbroken : (lines rest : List Line) (asked got : ImageGeometry) → lines ≡ Mkfs asked.blocks asked.nat ∷ rest → Ok got ≡ geometry_of asked → (limit : Limit) (value : ℕ) → ¬ (BreaksLimit lines limit value)
unbroken lines rest asked got is sizes limit value breaks =
    let broken : geometry_of asked ≡ Err record { limit = limit; value = value } = subst (λ ls. BreaksLimit ls limit value) is breaks in
    let both : ◌≡◌ {A = Result ImageGeometry BadGeometry} (Ok got) (Err record { limit = limit; value = value }) = sizes ∙ broken in
    absurd (cc)

-- the status of lines whose sizes break no limit, and of lines without any
played-due : (lines : List Line) (s : Status) → ((limit : Limit) (value : ℕ) → ¬ (BreaksLimit lines limit value)) → IsPlayed s → IsDueLines lines s
played-due lines status.Done within played = within
played-due lines status.Memory within played = tt
played-due lines status.SinkFault within played = tt
played-due lines status.Usage within played = absurd played
played-due lines status.TooLong within played = absurd played
played-due lines (status.Script line) within played = absurd played
played-due lines status.SourceFault within played = absurd played
played-due lines status.DiskFault within played = absurd played
played-due lines (status.BadImage bad) within played = absurd played
played-due lines (status.Geometry limit value) within played = absurd played

pub IsDueLines-played : (lines rest : List Line) (asked got : ImageGeometry) (s : Status) → lines ≡ Mkfs asked.blocks asked.nat ∷ rest → Ok got ≡ geometry_of asked → IsPlayed s → IsDueLines lines s
IsDueLines-played lines rest asked got s is sizes played = played-due lines s (unbroken lines rest asked got is sizes) played

pub IsDueLines-none : (lines : List Line) → lines ≡ [] → IsDueLines lines status.Done
IsDueLines-none lines none limit value breaks = let no : BreaksLimit [] limit value = subst (λ ls. BreaksLimit ls limit value) none breaks in absurd no

-- no lines are due a fault of the disk
pub IsDueLines-no_disk : (lines : List Line) (s : Status) → IsDueLines lines s → ¬ (s ≡ status.DiskFault)
IsDueLines-no_disk lines s due is = absurd (subst (IsDueLines lines) is due)

-- nor a condition of an image
pub IsDueLines-no_image : (lines : List Line) (s : Status) (bad : BadImage) → IsDueLines lines s → ¬ (s ≡ status.BadImage bad)
IsDueLines-no_image lines s bad due is = absurd (subst (IsDueLines lines) is due)
