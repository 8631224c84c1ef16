-- What a mount of a fresh image comes to, and scripts that begin with `mkfs`.
use Rattle.std.proofs.Common.{◌≡◌, ℕ, zero, suc, List, [], ◌∷◌, ◌++◌, refl, sym, ap, ◌∙◌, subst, append_assoc, append-nil, length, take, Ok, Err, inl, inr, arith}
use Rattle.std.specs.Prelude.{Option, None, IsSome}
use Rattle.std.specs.Io.KnownBytes.{Appends}
use Rattle.std.proofs.KnownBytes.{Appends-nil, Appends-trans}
use Rattle.std.proofs.lemmas.List.{length-take}
use Rattle.f2_format.specs.Geometry.{ImageGeometry, node_third, data_third}
use Rattle.f2_disk.specs.Contents.{Contents}
use Rattle.f2_layout.specs.Refusal.{geometry_of}
use Rattle.f2_layout.specs.declared.geometry.BadGeometry.{BadGeometry}
use Rattle.f2_model.specs.declared.bounds.Limits.{Limits}
use Rattle.f2_model.specs.Run.{Happening, Happened}
use Rattle.f2_model.specs.State.{State, Mark, initial}
use Rattle.f2_model.specs.declared.events.Event.{Event}
use Rattle.f2_model.specs.declared.events.Event.TheVariants as events
use Rattle.f2_model.specs.Step.{Faults, calm, Turn, Step, StepMount}
use Rattle.f2_model.specs.declared.events.Answer.TheVariants.{Found, NotMounted}
use Rattle.f2_model.specs.declared.events.MountRefusal.TheVariants.{ReadFailed, WriteFailed, BadImage, NoMemory}
use Rattle.f2_flat.specs.Flat.{limits_of}
use Rattle.f2_core.specs.Seen.{Seen, IsIn}
use Rattle.f2_core.specs.Events.{IsMade, IsMount}
use Rattle.f2_script.specs.declared.script.Line.{Line}
use Rattle.f2_script.specs.declared.script.Line.TheVariants.{Mkfs}
use Rattle.f2_script.specs.Steps.{made_spelling}
use Rattle.f2_play.specs.declared.status.Status.{Status}
use Rattle.f2_play.specs.declared.status.Status.TheVariants as status
use Rattle.f2_play.specs.Parts.{Part, state_after}
use Rattle.f2_play.specs.Lines.{PlaysLines, ended, new_image}
use Rattle.f2_play.specs.Faults.{nothing_planned}
use Rattle.f2_play.specs.Scripts.{BreaksLimit}
use Rattle.f2_play.proofs.Playing.{geometry_of-ok, image-counted}
use Rattle.f2_top.specs.Left.{IsSafeWhereTold}
use Rattle.f2_top.specs.Runs.{Comes, IsAt, PlaysFrom, PlaysFlat, IsMounted, SomeCut, Ends, EndsScript}
use Rattle.f2_top.proofs.EventLemmas.{mount_of}
use Rattle.f2_top.specs.Streams.{PutsSome}
use Rattle.f2_top.proofs.PlayLemmas.{PlaysTo-none}

abbrev no_marks : List Mark
no_marks = []

length-take-none : (k : ℕ) → length (take k no_marks) ≡ 0
length-take-none k = omega (arith, length-take k no_marks)

-- a mount of a fresh image finds no marked row
pub mount-finds-none : (faults : Faults) (turn : Turn) (rows : ℕ) → StepMount faults (initial new_image) turn → turn.answer ≡ Found rows → rows ≡ 0
mount-finds-none faults turn rows (inl (k, low, high, e)) told =
    let a : Found (length (take k no_marks)) ≡ Found rows = sym (ap (λ (t : Turn). t.answer) e) ∙ told in
    let n : length (take k no_marks) ≡ rows = cc in
    sym n ∙ length-take-none k
mount-finds-none faults turn rows (inr (inl h)) told = absurd h
mount-finds-none faults turn rows (inr (inr (inl (risen, e)))) told =
    let a : NotMounted ReadFailed ≡ Found rows = sym (ap (λ (t : Turn). t.answer) e) ∙ told in cc
mount-finds-none faults turn rows (inr (inr (inr (inl (risen, e))))) told =
    let a : NotMounted WriteFailed ≡ Found rows = sym (ap (λ (t : Turn). t.answer) e) ∙ told in cc
mount-finds-none faults turn rows (inr (inr (inr (inr (inl e))))) told =
    let a : NotMounted BadImage ≡ Found rows = sym (ap (λ (t : Turn). t.answer) e) ∙ told in cc
mount-finds-none faults turn rows (inr (inr (inr (inr (inr e))))) told =
    let a : NotMounted NoMemory ≡ Found rows = sym (ap (λ (t : Turn). t.answer) e) ∙ told in cc

-- the events of a mount that found a tree on a fresh image, found no marked row
found-none : (limits : Limits) (rows : ℕ) (events : List Happening) (to : State)
    → Happened limits calm (initial new_image) events to → IsMount rows events → IsMount 0 events
found-none limits rows events to happened mount =
    let first : Happened limits calm (initial new_image) (mount.first ∷ mount.rest) to = subst (λ es. Happened limits calm (initial new_image) es to) mount.whole happened in
    let step : StepMount mount.first.faults (initial new_image) mount.first.turn =
    subst (λ (e : Event). Step limits mount.first.faults (initial new_image) e mount.first.turn) mount.begun first.2 in
    record {
      first = mount.first;
      rest = mount.rest;
      whole = mount.whole;
      begun = mount.begun;
      found = mount.found ∙ ap Found (mount-finds-none mount.first.faults mount.first.turn rows step mount.found);
      quiet = mount.quiet;
      goes_on = mount.goes_on;
    }

-- a core that was mounted on an image that was made with these sizes
pub IsMounted-of : {D : Type 0} (geom : ImageGeometry) (made now : Option Contents) (core new : Seen D) (rows : ℕ)
    → IsSome made → IsMade geom made core → Comes made now core new events.Mount (Found rows) → new.geometry ≡ core.geometry → IsMounted geom now new
IsMounted-of geom made now core new rows tells is comes sized =
    let state : IsIn core.geometry made core.volume core.history (initial new_image) = subst (λ (e : ImageGeometry). IsIn e made core.volume core.history (initial new_image)) (sym is.sizes) is.state in
    let come = comes.from_each (initial new_image) tells state in
    let happened : Happened (limits_of geom) calm (initial new_image) come.events come.to = subst (λ (e : ImageGeometry). Happened (limits_of e) calm (initial new_image) come.events come.to) is.sizes come.leads.happened in
    record {
      mounted = come.events;
      start = come.to;
      found = mount_of (limits_of geom) calm 0 come.events (initial new_image) come.to happened (found-none (limits_of geom) rows come.events come.to happened come.leads.stands);
      happened = happened;
      sizes = sized ∙ is.sizes;
      at = record { tells = comes.tells tells; in_state = come.goes.state; safe = come.goes.safe };
    }

-- what a `mkfs` line prints
abbrev pub mkfs_text : ImageGeometry → List ℕ
mkfs_text geom = ended (made_spelling (node_third geom) (data_third geom))

-- the last of some parts
parts-end : (limits : Limits) (from to : State) (lines : List Line) (parts : List Part) → PlaysLines limits from lines parts to → to ≡ state_after from parts
parts-end limits from to [] [] played = sym played
parts-end limits from to [] (part ∷ parts) played = absurd played
parts-end limits from to (line ∷ lines) [] played = absurd played
parts-end limits from to (line ∷ lines) (part ∷ parts) played = parts-end limits part.after to lines parts played.1

-- lines that are played on an image
pub PlaysFlat-mkfs : {D : Type 0} (geom : ImageGeometry) (first told : Option Contents) (core : Seen D) (lines : List Line) (text : List ℕ)
    → geometry_of geom ≡ Ok geom → (mounted : IsMounted geom first core) → PlaysFrom told (limits_of geom) mounted.start lines text
    → PlaysFlat told (Mkfs geom.blocks geom.nat ∷ lines) (mkfs_text geom ++ text)
PlaysFlat-mkfs geom first told core lines text sizes mounted plays =
    let part : Part = record { text = mkfs_text geom; events = mounted.mounted; faults = calm; after = mounted.start } in
    let mkfs : Line = Mkfs geom.blocks geom.nat in
    record {
      parts = part ∷ plays.played.parts;
      played = record {
        sizes = sizes;
        first = part;
        rest = plays.played.parts;
        whole = refl;
        after = plays.to;
        made = record { happened = mounted.happened; mounted = mounted.found; said = refl };
        played = plays.played.played;
        count = 0;
        counted = image-counted (limits_of geom) plays.to mkfs lines (nothing_planned 0) part plays.played.parts refl plays.played.played plays.played.no_fault;
      };
      more = subst (IsSafeWhereTold told) (parts-end (limits_of geom) mounted.start plays.to lines plays.played.parts plays.played.played) plays.safe;
      printed = ap (λ t. mkfs_text geom ++ t) plays.played.printed;
    }

-- the text of the `mkfs` line before what the lines after it print
pub Ends-mkfs : {D : Type 0} (geom : ImageGeometry) (first told : Option Contents) (core : Seen D) (lines : List Line) (s : Status) (out : List ℕ)
    → geometry_of geom ≡ Ok geom → (mounted : IsMounted geom first core) → Ends (λ t. PlaysFrom t (limits_of geom) mounted.start) told lines s out
    → Ends PlaysFlat told (Mkfs geom.blocks geom.nat ∷ lines) s (mkfs_text geom ++ out)
Ends-mkfs geom first told core lines status.Done out sizes mounted ends = PlaysFlat-mkfs geom first told core lines out sizes mounted ends
Ends-mkfs geom first told core lines status.Memory out sizes mounted ends =
    record { count = suc ends.count; holds = PlaysFlat-mkfs geom first None core (take ends.count lines) out sizes mounted ends.holds }
Ends-mkfs geom first told core lines status.SinkFault out sizes mounted ends = record {
  text = mkfs_text geom ++ ends.text;
  first = record { count = suc ends.first.count; holds = PlaysFlat-mkfs geom first None core (take ends.first.count lines) ends.text sizes mounted ends.first.holds };
  cut = record { rest = ends.cut.rest; whole = ap (λ t. mkfs_text geom ++ t) ends.cut.whole ∙ sym (append_assoc (mkfs_text geom) out ends.cut.rest) };
}
Ends-mkfs geom first told core lines status.Usage out sizes mounted ends = absurd ends
Ends-mkfs geom first told core lines status.TooLong out sizes mounted ends = absurd ends
Ends-mkfs geom first told core lines (status.Script line) out sizes mounted ends = absurd ends
Ends-mkfs geom first told core lines status.SourceFault out sizes mounted ends = absurd ends
Ends-mkfs geom first told core lines status.DiskFault out sizes mounted ends = absurd ends
Ends-mkfs geom first told core lines (status.BadImage bad) out sizes mounted ends = absurd ends
Ends-mkfs geom first told core lines (status.Geometry limit value) out sizes mounted ends = absurd ends

-- a script whose sizes break no limit
pub EndsScript-of : (told : Option Contents) (lines : List Line) (s : Status) (out : List ℕ) → Ends PlaysFlat told lines s out → EndsScript told lines s out
EndsScript-of told lines status.Done out ends = ends
EndsScript-of told lines status.Memory out ends = ends
EndsScript-of told lines status.SinkFault out ends = ends
EndsScript-of told lines status.Usage out ends = ends
EndsScript-of told lines status.TooLong out ends = ends
EndsScript-of told lines (status.Script line) out ends = ends
EndsScript-of told lines status.SourceFault out ends = ends
EndsScript-of told lines status.DiskFault out ends = ends
EndsScript-of told lines (status.BadImage bad) out ends = ends
EndsScript-of told lines (status.Geometry limit value) out ends = absurd ends

-- the first line of lines that are taken one after another
pub lines-first : (lines items all rest : List Line) (first one : Line) → items ≡ lines → all ≡ items → all ≡ first ∷ rest → first ≡ one → lines ≡ one ∷ rest
lines-first lines items all rest first one e f g h = sym (f ∙ e) ∙ g ∙ ap (λ l. l ∷ rest) h

-- a script whose sizes break no limit
pub EndsScript-mkfs : (told : Option Contents) (old new : Option (List ℕ)) (lines rest : List Line) (asked got : ImageGeometry) (s : Status)
    → lines ≡ Mkfs asked.blocks asked.nat ∷ rest → Ok got ≡ geometry_of asked
    → (out : List ℕ) × Appends old new out × Ends PlaysFlat told (Mkfs got.blocks got.nat ∷ rest) s out → (out : List ℕ) × Appends old new out × EndsScript told lines s out
EndsScript-mkfs told old new lines rest asked got s is sizes (out, written, ends) =
    let same : got ≡ asked = geometry_of-ok asked got (sym sizes) in
    let all : Mkfs got.blocks got.nat ∷ rest ≡ lines = ap (λ (e : ImageGeometry). Mkfs e.blocks e.nat ∷ rest) same ∙ sym is in
    (out, written, EndsScript-of told lines s out (subst (λ ls. Ends PlaysFlat told ls s out) all ends))

-- a script whose sizes break one
pub BreaksLimit-of : (lines rest : List Line) (asked : ImageGeometry) (bad : BadGeometry) → lines ≡ Mkfs asked.blocks asked.nat ∷ rest → Err bad ≡ geometry_of asked → BreaksLimit lines bad.limit bad.value
BreaksLimit-of lines rest asked bad is broken = subst (λ ls. BreaksLimit ls bad.limit bad.value) (sym is) (sym broken)

pub EndsScript-broken : (now : Option (List ℕ)) (lines rest : List Line) (asked : ImageGeometry) (bad : BadGeometry)
    → lines ≡ Mkfs asked.blocks asked.nat ∷ rest → Err bad ≡ geometry_of asked
    → (out : List ℕ) × Appends now now out × (BreaksLimit lines bad.limit bad.value × (out ≡ []))
EndsScript-broken now lines rest asked bad is broken =
    ([], Appends-nil now, (BreaksLimit-of lines rest asked bad is broken, refl))

-- the sink failed within the text of the `mkfs` line
pub mkfs-fails : {D : Type 0} (geom : ImageGeometry) (first : Option Contents) (core : Seen D) (lines : List Line) (old new : Option (List ℕ)) (text : List ℕ)
    → geometry_of geom ≡ Ok geom → IsMounted geom first core → text ≡ mkfs_text geom → PutsSome old new text
    → (out : List ℕ) × Appends old new out × SomeCut (PlaysFlat None) (Mkfs geom.blocks geom.nat ∷ lines) out
mkfs-fails geom first core lines old new text sizes mounted e some = (
  some.gone,
  some.written,
  record {
    text = mkfs_text geom ++ [];
    first = record {
      count = suc zero;
      holds = PlaysFlat-mkfs geom first None core [] [] sizes mounted record { to = mounted.start; played = PlaysTo-none (limits_of geom) mounted.start; safe = tt };
    };
    cut = record { rest = some.cut.rest; whole = append-nil (mkfs_text geom) ∙ sym e ∙ some.cut.whole };
  },
)

-- the `mkfs` line was printed, and before the lines after it were run
pub mkfs-goes : {D : Type 0} (geom : ImageGeometry) (first told : Option Contents) (core : Seen D) (lines : List Line) (s : Status) (old mid new : Option (List ℕ)) (text : List ℕ)
    → geometry_of geom ≡ Ok geom → IsMounted geom first core → text ≡ mkfs_text geom → Appends old mid text
    → ((from : State) → IsAt first core from → (out : List ℕ) × Appends mid new out × Ends (λ t. PlaysFrom t (limits_of core.geometry) from) told lines s out)
    → (out : List ℕ) × Appends old new out × Ends PlaysFlat told (Mkfs geom.blocks geom.nat ∷ lines) s out
mkfs-goes geom first told core lines s old mid new text sizes mounted e written runs =
    let ended = runs mounted.start mounted.at in
    let ends : Ends (λ t. PlaysFrom t (limits_of geom) mounted.start) told lines s ended.0 =
    subst (λ (x : ImageGeometry). Ends (λ t. PlaysFrom t (limits_of x) mounted.start) told lines s ended.0) mounted.sizes ended.2 in (
      mkfs_text geom ++ ended.0,
      Appends-trans old mid new (mkfs_text geom) ended.0 (subst (λ t. Appends old mid t) e written) ended.1,
      Ends-mkfs geom first told core lines s ended.0 sizes mounted ends,
    )
