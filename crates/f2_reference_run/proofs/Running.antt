-- Lines one after another.
use Rattle.std.proofs.Common.{◌≡◌, ◌∙◌, ℕ, Bool, true, false, List, [], ◌∷◌, ◌++◌, refl, sym, ap, subst, append_assoc, append-nil, length, Result, Ok, is_err, is_ok, arith, inl, inr}
use Rattle.std.specs.Prelude.{if◌then◌else◌, ◌||◌, ◌≢◌, codes, Option, Some, None, Err, is_some}
use Rattle.std.specs.List.{AllByRecursion}
use Rattle.f2_format.specs.Geometry.{ImageGeometry, node_third, data_third}
use Rattle.f2_layout.specs.Refusal.{geometry_of}
use Rattle.f2_layout.specs.declared.geometry.Limit.{Limit}
use Rattle.f2_model.specs.declared.bounds.Limits.{Limits}
use Rattle.f2_model.specs.Step.{IsSeat}
use Rattle.f2_model.specs.Run.{Happening}
use Rattle.f2_model.specs.declared.requests.Request.{Request}
use Rattle.f2_spans.specs.Spans.{MOST_SIZE}
use Rattle.f2_reference_state.specs.Seen.{Seen}
use Rattle.f2_script.specs.declared.script.Line.{Line}
use Rattle.f2_script.specs.declared.script.Line.TheVariants as verb
use Rattle.f2_script.specs.declared.script.Grammar.TheVariants.{Plain}
use Rattle.f2_script.specs.Grammar.{AreLines, IsLine, runs}
use Rattle.f2_script.specs.Lines.{Seat, request_words}
use Rattle.f2_script.specs.Steps.{made_spelling}
use Rattle.f2_script.specs.Words.{Word, Said, AreWords, split_words}
use Rattle.f2_play.specs.declared.status.Status.{Status}
use Rattle.f2_play.specs.declared.status.Status.TheVariants as ending
use Rattle.f2_play.specs.Parts.{Part, IsCalm, text_of}
use Rattle.f2_play.specs.Lines.{PlaysLine, PlaysLines, granted, ended}
use Rattle.f2_play.specs.Faults.{nothing_planned}
use Rattle.f2_play.specs.Scripts.{PlaysImage, PlaysScript, BreaksLimit, PlaysAll, PlaysFirst}
use Rattle.f2_play.proofs.Playing.{SaysNothing, all-snoc, PlaysLines-snoc, text_of-snoc, image-counted, geometry_of-ok, script-skips, limit-skips}
use Rattle.f2_reference_run.specs.Stages.{Stage, first_stage, finds, settled_by}
use Rattle.f2_reference_run.specs.Chosen.{IsChosen, AreChosen, IsImageChosen, IsScriptChosen, PlaysOn}
use Rattle.f2_reference_run.specs.Runs.{IsPlayed, IsSaying, IsMade, PlaysNext, Stands, AreStanding, StopsAt, EndsAs}
use Rattle.f2_reference_run.proofs.Making.{mkfs_part, mkfs_played}
use Rattle.f2_reference_run.proofs.Playing.{all_limits}

-- the lines after `mkfs` that say something
pub saying : (line : Line) → IsPlayed line → line ≢ verb.Skipped → line ≢ verb.Tree → IsSaying line
saying verb.Skipped played silent shown = absurd (silent refl)
saying verb.Tree played silent shown = absurd (shown refl)
saying (verb.Mkfs blocks nat) played silent shown = absurd played
saying (verb.Fail kind n) played silent shown = absurd played
saying (verb.Stop n) played silent shown = absurd played
saying (verb.Call seat request) played silent shown = played
saying (verb.Begin seat request) played silent shown = played
saying (verb.Go seat) played silent shown = tt
saying (verb.Slot seat) played silent shown = tt
saying (verb.End seat) played silent shown = tt
saying verb.Tick played silent shown = tt
saying (verb.Crash pick) played silent shown = tt
saying verb.Mount played silent shown = tt
saying verb.Unmount played silent shown = tt
saying (verb.Gen start count) played silent shown = tt

-- the seat of a call is one that calls are made from
seated : (verb_word : List ℕ) (seat : ℕ) (words : List Word) (texts : List (List ℕ)) → AreWords (Said verb_word ∷ Seat seat ∷ words) texts → IsSeat seat
seated verb_word seat words [] h = absurd h
seated verb_word seat words (text ∷ []) h = absurd h.1
seated verb_word seat words (text ∷ next ∷ texts) h = record { first = h.1.0.0; last = (let most = h.1.0.1 in omega (arith, most)) }

call_seated : (text : List ℕ) (seat : ℕ) (request : Request) → IsLine text (verb.Call seat request) → IsSeat seat
call_seated text seat request (inl (nothing, is)) = absurd (cc)
call_seated text seat request (inr (limits, words)) = seated (codes "call") seat (request_words request) (split_words text) words

begin_seated : (text : List ℕ) (seat : ℕ) (request : Request) → IsLine text (verb.Begin seat request) → IsSeat seat
begin_seated text seat request (inl (nothing, is)) = absurd (cc)
begin_seated text seat request (inr (limits, words)) = seated (codes "begin") seat (request_words request) (split_words text) words

-- a line that may stand after `mkfs` is played
pub standing_played : (line : Line) → Stands true line → IsPlayed line
standing_played verb.Skipped stands = tt
standing_played verb.Tree stands = tt
standing_played (verb.Mkfs blocks nat) stands = let no : true ≡ false = stands.1.1.1 in cc
standing_played (verb.Fail kind n) stands = let no : false ≡ true = stands.1.1.0 in cc
standing_played (verb.Stop n) stands = let no : false ≡ true = stands.1.1.0 in cc
standing_played (verb.Call seat request) stands = call_seated stands.0 seat request stands.1.0
standing_played (verb.Begin seat request) stands = begin_seated stands.0 seat request stands.1.0
standing_played (verb.Go seat) stands = tt
standing_played (verb.Slot seat) stands = tt
standing_played (verb.End seat) stands = tt
standing_played verb.Tick stands = tt
standing_played (verb.Crash pick) stands = tt
standing_played verb.Mount stands = tt
standing_played verb.Unmount stands = tt
standing_played (verb.Gen start count) stands = tt

-- a line that may stand before any that runs, and isn't `mkfs`, prints nothing
pub standing_unmade : (line : Line) → Stands false line → ((blocks nat : ℕ) → line ≢ verb.Mkfs blocks nat) → PlaysNext None line [] None
standing_unmade verb.Skipped stands other = (refl, refl)
standing_unmade verb.Tree stands other = let no : false ≡ true = stands.1.1.1 in cc
standing_unmade (verb.Mkfs blocks nat) stands other = absurd (other blocks nat refl)
standing_unmade (verb.Fail kind n) stands other = let no : false ≡ true = stands.1.1.0 in cc
standing_unmade (verb.Stop n) stands other = let no : false ≡ true = stands.1.1.0 in cc
standing_unmade (verb.Call seat request) stands other = let no : false ≡ true = stands.1.1.1 in cc
standing_unmade (verb.Begin seat request) stands other = let no : false ≡ true = stands.1.1.1 in cc
standing_unmade (verb.Go seat) stands other = let no : false ≡ true = stands.1.1.1 in cc
standing_unmade (verb.Slot seat) stands other = let no : false ≡ true = stands.1.1.1 in cc
standing_unmade (verb.End seat) stands other = let no : false ≡ true = stands.1.1.1 in cc
standing_unmade verb.Tick stands other = let no : false ≡ true = stands.1.1.1 in cc
standing_unmade (verb.Crash pick) stands other = let no : false ≡ true = stands.1.1.1 in cc
standing_unmade verb.Mount stands other = let no : false ≡ true = stands.1.1.1 in cc
standing_unmade verb.Unmount stands other = let no : false ≡ true = stands.1.1.1 in cc
standing_unmade (verb.Gen start count) stands other = let no : false ≡ true = stands.1.1.1 in cc

-- there is a machine after a line where there was one before it, or the line makes one
pub next_made : (from : Option Stage) (line : Line) (printed : List ℕ) (to : Option Stage) → PlaysNext from line printed to → is_some to ≡ (is_some from || runs line)
next_made None verb.Skipped printed to next = ap is_some next.1
next_made None (verb.Mkfs blocks nat) printed to next = ap is_some next.made
next_made None verb.Tree printed to next = absurd next
next_made None (verb.Fail kind n) printed to next = absurd next
next_made None (verb.Stop n) printed to next = absurd next
next_made None (verb.Call seat request) printed to next = absurd next
next_made None (verb.Begin seat request) printed to next = absurd next
next_made None (verb.Go seat) printed to next = absurd next
next_made None (verb.Slot seat) printed to next = absurd next
next_made None (verb.End seat) printed to next = absurd next
next_made None verb.Tick printed to next = absurd next
next_made None (verb.Crash pick) printed to next = absurd next
next_made None verb.Mount printed to next = absurd next
next_made None verb.Unmount printed to next = absurd next
next_made None (verb.Gen start count) printed to next = absurd next
next_made (Some stage) line printed to next = ap is_some next.1

-- the machine that a line leaves sees what its events left
settled_seen : (line : Line) (from : Stage) (events : List Happening) (to : Stage) → (settled_by line from events to).seen ≡ to.seen
settled_seen verb.Skipped from events to = refl
settled_seen verb.Tree from events to = refl
settled_seen (verb.Mkfs blocks nat) from events to = refl
settled_seen (verb.Fail kind n) from events to = refl
settled_seen (verb.Stop n) from events to = refl
settled_seen (verb.Call seat request) from events to = refl
settled_seen (verb.Begin seat request) from events to = refl
settled_seen (verb.Go seat) from events to = refl
settled_seen (verb.Slot seat) from events to = refl
settled_seen (verb.End seat) from events to = refl
settled_seen verb.Tick from events to = refl
settled_seen (verb.Crash pick) from events to = refl
settled_seen verb.Mount from events to = by_find (finds events)
  where
    by_find : (b : Bool) → (if b then record to { is_settled = false } else to).seen ≡ to.seen
    by_find true = refl
    by_find false = refl
settled_seen verb.Unmount from events to = refl
settled_seen (verb.Gen start count) from events to = refl

AreChosen-snoc : (from mid to : Stage) (lines : List Line) (parts : List Part) (line : Line) (part : Part)
    → AreChosen from lines parts mid → IsChosen mid line part to → AreChosen from (lines ++ line ∷ []) (parts ++ part ∷ []) to
AreChosen-snoc from mid to [] [] line part first last = (to, subst (λ (s : Stage). IsChosen s line part to) first last, refl)
AreChosen-snoc from mid to [] (p ∷ parts) line part first last = absurd first
AreChosen-snoc from mid to (l ∷ lines) [] line part first last = absurd first
AreChosen-snoc from mid to (l ∷ lines) (p ∷ parts) line part first last = (first.0, first.1, AreChosen-snoc first.0 mid to lines parts line part first.2 last)

-- what an image grants the plain machine
abbrev plain_limits : ImageGeometry → Limits
plain_limits geom = granted MOST_SIZE geom

-- a machine was made, and lines were played on it
pub record IsUnderWay (done : List Line) (text : List ℕ) (now : Stage) : Type 0 where
  pub skipped : List Line
  pub silent : AllByRecursion SaysNothing skipped
  pub geom : ImageGeometry
  pub sizes : geometry_of geom ≡ Ok geom
  pub lines : List Line
  pub whole : done ≡ skipped ++ verb.Mkfs geom.blocks geom.nat ∷ lines
  pub parts : List Part
  pub calm_parts : AllByRecursion IsCalm parts
  pub played : PlaysLines (plain_limits geom) (first_stage geom).seen.state lines parts now.seen.state
  pub chosen : AreChosen (first_stage geom) lines parts now
  pub limits : now.seen.limits ≡ plain_limits geom
  pub printed : text ≡ text_of (mkfs_part (plain_limits geom) geom ∷ parts)

-- lines were played so far, before there was a machine or with it
abbrev pub Reaches : List Line → List ℕ → Option Stage → Type 0
Reaches done text None = AllByRecursion SaysNothing done × (text ≡ [])
Reaches done text (Some now) = IsUnderWay done text now

under_way_made : (done : List Line) (text printed : List ℕ) (blocks nat : ℕ) (to : Option Stage) → AllByRecursion SaysNothing done → text ≡ [] → IsMade blocks nat printed to
    → Reaches (done ++ verb.Mkfs blocks nat ∷ []) (text ++ printed) to
under_way_made done text printed blocks nat to silent nothing made =
    let asked : made.geom ≡ record { blocks = blocks; nat = nat } = geometry_of-ok record { blocks = blocks; nat = nat } made.geom made.sizes in
    subst (λ o. Reaches (done ++ verb.Mkfs blocks nat ∷ []) (text ++ printed) o) (sym made.made) record {
      skipped = done;
      silent = silent;
      geom = made.geom;
      sizes = subst (λ e. geometry_of e ≡ Ok made.geom) (sym asked) made.sizes;
      lines = [];
      whole = ap (λ (e : ImageGeometry). done ++ verb.Mkfs e.blocks e.nat ∷ []) (sym asked);
      parts = [];
      calm_parts = tt;
      played = refl;
      chosen = refl;
      limits = refl;
      printed = ap (λ t. t ++ printed) nothing ∙ made.said ∙ sym (append-nil (ended (made_spelling (node_third made.geom) (data_third made.geom))));
    }

under_way_step : (done : List Line) (text printed : List ℕ) (now to : Stage) (line : Line) → IsUnderWay done text now → PlaysOn now line printed to
    → IsUnderWay (done ++ line ∷ []) (text ++ printed) to
under_way_step done text printed now to line so_far plays =
    let seen : to.seen ≡ plays.chosen.mid.seen = ap (λ (s : Stage). s.seen) plays.chosen.stage ∙ settled_seen line now plays.part.events plays.chosen.mid in
    record {
      skipped = so_far.skipped;
      silent = so_far.silent;
      geom = so_far.geom;
      sizes = so_far.sizes;
      lines = so_far.lines ++ line ∷ [];
      whole = ap (λ ls. ls ++ line ∷ []) so_far.whole ∙ append_assoc so_far.skipped (verb.Mkfs so_far.geom.blocks so_far.geom.nat ∷ so_far.lines) (line ∷ []);
      parts = so_far.parts ++ plays.part ∷ [];
      calm_parts = all-snoc IsCalm so_far.parts plays.part so_far.calm_parts plays.chosen.no_fault;
      played = subst (λ s. PlaysLines (plain_limits so_far.geom) (first_stage so_far.geom).seen.state (so_far.lines ++ line ∷ []) (so_far.parts ++ plays.part ∷ []) s)
          (plays.chosen.state ∙ ap (λ (s : Seen). s.state) (sym seen))
          (PlaysLines-snoc (plain_limits so_far.geom) (first_stage so_far.geom).seen.state now.seen.state so_far.lines so_far.parts line plays.part so_far.played
          (subst (λ l. PlaysLine l now.seen.state line plays.part) so_far.limits plays.played));
      chosen = AreChosen-snoc (first_stage so_far.geom) now to so_far.lines so_far.parts line plays.part so_far.chosen plays.chosen;
      limits = ap (λ (s : Seen). s.limits) seen ∙ all_limits plays.part.events now plays.chosen.mid plays.chosen.made ∙ so_far.limits;
      printed = text_of-snoc (mkfs_part (plain_limits so_far.geom) so_far.geom ∷ so_far.parts) plays.part text printed so_far.printed plays.printed;
    }

reaches_step : (done : List Line) (text printed : List ℕ) (now : Option Stage) (line : Line) (to : Option Stage) → Reaches done text now → PlaysNext now line printed to
    → Reaches (done ++ line ∷ []) (text ++ printed) to
reaches_step done text printed None verb.Skipped to so_far next =
    subst (λ o. Reaches (done ++ verb.Skipped ∷ []) (text ++ printed) o) (sym next.1)
    (all-snoc SaysNothing done verb.Skipped so_far.0 refl, ap (λ t. t ++ printed) so_far.1 ∙ next.0)
reaches_step done text printed None (verb.Mkfs blocks nat) to so_far next = under_way_made done text printed blocks nat to so_far.0 so_far.1 next
reaches_step done text printed None verb.Tree to so_far next = absurd next
reaches_step done text printed None (verb.Fail kind n) to so_far next = absurd next
reaches_step done text printed None (verb.Stop n) to so_far next = absurd next
reaches_step done text printed None (verb.Call seat request) to so_far next = absurd next
reaches_step done text printed None (verb.Begin seat request) to so_far next = absurd next
reaches_step done text printed None (verb.Go seat) to so_far next = absurd next
reaches_step done text printed None (verb.Slot seat) to so_far next = absurd next
reaches_step done text printed None (verb.End seat) to so_far next = absurd next
reaches_step done text printed None verb.Tick to so_far next = absurd next
reaches_step done text printed None (verb.Crash pick) to so_far next = absurd next
reaches_step done text printed None verb.Mount to so_far next = absurd next
reaches_step done text printed None verb.Unmount to so_far next = absurd next
reaches_step done text printed None (verb.Gen start count) to so_far next = absurd next
reaches_step done text printed (Some now) line to so_far next =
    subst (λ o. Reaches (done ++ line ∷ []) (text ++ printed) o) (sym next.1) (under_way_step done text printed now next.0 line so_far next.2)

-- lines that say nothing are a script, which comes to no part
chosen_skips : (skipped lines : List Line) (parts : List Part) → AllByRecursion SaysNothing skipped → IsScriptChosen lines parts → IsScriptChosen (skipped ++ lines) parts
chosen_skips [] lines parts silent chosen = chosen
chosen_skips (one ∷ skipped) lines parts silent chosen =
    subst (λ l. IsScriptChosen (l ∷ skipped ++ lines) parts) (sym silent.0) (chosen_skips skipped lines parts silent.1 chosen)

all_silent : (done : List Line) → AllByRecursion SaysNothing done → PlaysAll MOST_SIZE IsScriptChosen done []
all_silent done silent = record {
  parts = [];
  played = subst (λ ls. PlaysScript MOST_SIZE ls []) (append-nil done) (script-skips MOST_SIZE done [] [] silent refl);
  more = subst (λ ls. IsScriptChosen ls []) (append-nil done) (chosen_skips done [] [] silent tt);
  printed = refl;
}

all_under_way : (done : List Line) (text : List ℕ) (now : Stage) → IsUnderWay done text now → PlaysAll MOST_SIZE IsScriptChosen done text
all_under_way done text now so_far =
    let geom = so_far.geom in
    let mkfs : Line = verb.Mkfs geom.blocks geom.nat in
    let first : Part = mkfs_part (plain_limits geom) geom in
    let parts : List Part = first ∷ so_far.parts in
    let image : PlaysImage MOST_SIZE geom so_far.lines parts = record {
      sizes = so_far.sizes;
      first = first;
      rest = so_far.parts;
      whole = refl;
      after = now.seen.state;
      made = mkfs_played (plain_limits geom) geom;
      played = so_far.played;
      count = 0;
      counted = image-counted (plain_limits geom) now.seen.state mkfs so_far.lines (nothing_planned 0) first so_far.parts refl so_far.played so_far.calm_parts;
    } in
    let chosen : IsImageChosen geom so_far.lines parts = record {
      first = first;
      rest = so_far.parts;
      whole = refl;
      no_fault = refl;
      state = refl;
      last = now;
      chosen = so_far.chosen;
    } in
    subst (λ ls. PlaysAll MOST_SIZE IsScriptChosen ls text) (sym so_far.whole) record {
      parts = parts;
      played = script-skips MOST_SIZE so_far.skipped (mkfs ∷ so_far.lines) parts so_far.silent image;
      more = chosen_skips so_far.skipped (mkfs ∷ so_far.lines) parts so_far.silent chosen;
      printed = so_far.printed;
    }

reaches_all : (done : List Line) (text : List ℕ) (now : Option Stage) → Reaches done text now → PlaysAll MOST_SIZE IsScriptChosen done text
reaches_all done text None so_far = subst (λ t. PlaysAll MOST_SIZE IsScriptChosen done t) (sym so_far.1) (all_silent done so_far.0)
reaches_all done text (Some now) so_far = all_under_way done text now so_far

-- how far a run of lines has come
pub record Progress (all left : List Line) (now : Option Stage) (text : List ℕ) : Type 0 where
  pub done : List Line
  pub whole : all ≡ done ++ left
  pub reaches : Reaches done text now
  pub standing : AreStanding (is_some now) left

pub progress_start : (all : List Line) → AreStanding false all → Progress all all None []
progress_start all standing = record { done = []; whole = refl; reaches = (tt, refl); standing = standing }

pub next_stands : (all before left : List Line) (line : Line) (now : Option Stage) (text : List ℕ) → before ≡ line ∷ left → Progress all before now text → Stands (is_some now) line
next_stands all before left line now text is progress = let both : AreStanding (is_some now) (line ∷ left) = subst (AreStanding (is_some now)) is progress.standing in both.0

pub progress_step : (all before left : List Line) (line : Line) (now to : Option Stage) (text printed : List ℕ)
    → before ≡ line ∷ left → Progress all before now text → PlaysNext now line printed to → Progress all left to (text ++ printed)
progress_step all before left line now to text printed is progress next =
    let both : AreStanding (is_some now) (line ∷ left) = subst (AreStanding (is_some now)) is progress.standing in
    record {
      done = progress.done ++ line ∷ [];
      whole = progress.whole ∙ ap (λ ls. progress.done ++ ls) is ∙ sym (append_assoc progress.done (line ∷ []) left);
      reaches = reaches_step progress.done text printed now line to progress.reaches next;
      standing = subst (λ b. AreStanding b left) (sym (next_made now line printed to next)) both.1;
    }

-- memory was refused: some first lines were printed
pub progress_some : (all left : List Line) (now : Option Stage) (text : List ℕ) → Progress all left now text → PlaysFirst MOST_SIZE IsScriptChosen all text
progress_some all left now text progress = record { first = progress.done; rest = left; whole = progress.whole; played = reaches_all progress.done text now progress.reaches }

-- no line is left
pub progress_end : (all left : List Line) (now : Option Stage) (text : List ℕ) → left ≡ [] → Progress all left now text → EndsAs all ending.Done text
progress_end all left now text over progress =
    subst (λ ls. EndsAs ls ending.Done text) (sym (progress.whole ∙ ap (λ ls. progress.done ++ ls) over ∙ append-nil progress.done))
    (reaches_all progress.done text now progress.reaches)

-- the line at which sizes are refused is `mkfs`, and stands before every machine
pub record IsRefused (limit : Limit) (value : ℕ) (now : Option Stage) (line : Line) : Type 0 where
  pub blocks : ℕ
  pub nat : ℕ
  pub unmade : now ≡ None
  pub is : line ≡ verb.Mkfs blocks nat
  pub refused : geometry_of record { blocks = blocks; nat = nat } ≡ Err record { limit = limit; value = value }

pub stops_refused : (limit : Limit) (value : ℕ) (now : Option Stage) (line : Line) → StopsAt (ending.Geometry limit value) now line → IsRefused limit value now line
stops_refused limit value (Some stage) line stops = absurd stops
stops_refused limit value None (verb.Mkfs blocks nat) stops = record { blocks = blocks; nat = nat; unmade = refl; is = refl; refused = stops }
stops_refused limit value None verb.Skipped stops = absurd stops
stops_refused limit value None verb.Tree stops = absurd stops
stops_refused limit value None (verb.Fail kind n) stops = absurd stops
stops_refused limit value None (verb.Stop n) stops = absurd stops
stops_refused limit value None (verb.Call seat request) stops = absurd stops
stops_refused limit value None (verb.Begin seat request) stops = absurd stops
stops_refused limit value None (verb.Go seat) stops = absurd stops
stops_refused limit value None (verb.Slot seat) stops = absurd stops
stops_refused limit value None (verb.End seat) stops = absurd stops
stops_refused limit value None verb.Tick stops = absurd stops
stops_refused limit value None (verb.Crash pick) stops = absurd stops
stops_refused limit value None verb.Mount stops = absurd stops
stops_refused limit value None verb.Unmount stops = absurd stops
stops_refused limit value None (verb.Gen start count) stops = absurd stops

-- the run ends at a line
pub progress_stops : (end : Status) (all before left : List Line) (line : Line) (now : Option Stage) (text : List ℕ)
    → before ≡ line ∷ left → Progress all before now text → StopsAt end now line → EndsAs all end text
progress_stops ending.Memory all before left line now text is progress stops = progress_some all before now text progress
progress_stops (ending.Geometry limit value) all before left line now text is progress stops =
    let refused : IsRefused limit value now line = stops_refused limit value now line stops in
    let unmade : Reaches progress.done text None = subst (Reaches progress.done text) refused.unmade progress.reaches in
    let whole : all ≡ progress.done ++ verb.Mkfs refused.blocks refused.nat ∷ left = progress.whole ∙ ap (λ ls. progress.done ++ ls) (is ∙ ap (λ l. l ∷ left) refused.is) in (
      subst (λ ls. BreaksLimit ls limit value) (sym whole) (limit-skips progress.done (verb.Mkfs refused.blocks refused.nat ∷ left) limit value unmade.0 refused.refused),
      unmade.1,
    )
progress_stops ending.Done all before left line now text is progress stops = absurd stops
progress_stops ending.Usage all before left line now text is progress stops = absurd stops
progress_stops ending.TooLong all before left line now text is progress stops = absurd stops
progress_stops (ending.Script n) all before left line now text is progress stops = absurd stops
progress_stops ending.SourceFault all before left line now text is progress stops = absurd stops
progress_stops ending.SinkFault all before left line now text is progress stops = absurd stops
progress_stops ending.DiskFault all before left line now text is progress stops = absurd stops
progress_stops (ending.BadImage bad) all before left line now text is progress stops = absurd stops

-- lines that bytes spell may stand where they stand
pub lines_stand : (begun : Bool) (texts : List (List ℕ)) (lines : List Line) → AreLines Plain begun texts lines → AreStanding begun lines
lines_stand begun [] [] are = tt
lines_stand begun [] (line ∷ lines) are = absurd are
lines_stand begun (text ∷ texts) [] are = absurd are
lines_stand begun (text ∷ texts) (line ∷ lines) are = ((text, are.0), lines_stand (begun || runs line) texts lines are.1)

-- a text after an append that succeeded
pub on_success : {T E : Type 0} (r : Result T E) (now more same : List ℕ) → is_err r ≡ false → now ≡ (if is_ok r then more else same) → now ≡ more
on_success (Ok x) now more same fine said = said
on_success (Err x) now more same fine said = cc

pub on_failure : {T E : Type 0} (r : Result T E) (now more same : List ℕ) → is_err r ≡ true → now ≡ (if is_ok r then more else same) → now ≡ same
on_failure (Ok x) now more same failed said = cc
on_failure (Err x) now more same failed said = said

pub none_left : {X : Type 0} (xs : List X) → length xs ≡ 0 → xs ≡ []
none_left [] e = refl
none_left (x ∷ xs) e = absurd (omega (arith, e))
