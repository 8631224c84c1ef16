-- A sync and a mount: their checkpoints.
use Rattle.std.proofs.Common.{◌≡◌, ◌≢◌, inr, ℕ, ◌+◌, ◌<◌, ◌==◌, ◌&&◌, false, List, [], ◌∷◌, ◌++◌, length, refl, sym, ap, ◌∙◌, subst, arith, length-append}
use Rattle.std.specs.Prelude.{Option, Some, None, IfSome, IsSome}
use Rattle.std.specs.Ordering.{nat_cmp}
use Rattle.std.specs.FinMap as map
use Rattle.std.proofs.lemmas.Bool.{ne_eqb}
use Rattle.f2_format.specs.Geometry.{ImageGeometry}
use Rattle.f2_disk.specs.Contents.{Contents, WhereTold}
use Rattle.f2_model.specs.Tree.{Rows}
use Rattle.f2_model.specs.State.{State, Flight, InCheck, number_of}
use Rattle.f2_model.specs.declared.modes.Mode.{Mode}
use Rattle.f2_model.specs.declared.modes.Format.{Format}
use Rattle.f2_model.specs.declared.events.Answer.TheVariants as answers
use Rattle.f2_model.specs.Step.{IsSeat, calm, MOST_ENTRIES, MOUNT_SEAT, is_up, is_shut, is_unmount, replied}
use Rattle.f2_model.specs.declared.events.Event.TheVariants.{Begin, Go, Mount}
use Rattle.f2_model.specs.declared.events.Answer.TheVariants.{Stepped}
use Rattle.f2_model.specs.Run.{Happening, Happened}
use Rattle.f2_model.specs.History.{History}
use Rattle.f2_model.specs.declared.requests.Request.TheVariants.{Sync}
use Rattle.f2_model.specs.declared.replies.Plan.TheVariants as plan
use Rattle.f2_model.specs.declared.replies.Reply.{Reply}
use Rattle.f2_model.specs.declared.replies.Reply.TheVariants as reply
use Rattle.f2_model.specs.declared.replies.Step.TheVariants as step
use Rattle.f2_model.specs.declared.histories.Entry.{Entry}
use Rattle.f2_model.specs.declared.histories.Entry.TheVariants as entry
use Rattle.f2_laws.proofs.Maps.{get_put}
use Rattle.f2_laid.specs.Laid.{IsStorable, IsLaid}
use Rattle.f2_laid.specs.declared.stored.Stored.{Stored}
use Rattle.f2_flat.specs.Flat.{IsFlat, limits_of}
use Rattle.f2_core.specs.Seen.{IsHeld, IsIn}
use Rattle.f2_core.specs.Events.{GoesOn, ComesTo}
use Rattle.f2_plain_save.specs.Saves.{IsSaved}
use Rattle.f2_core.specs.declared.volumes.Volume.{Volume}
use Rattle.f2_core.proofs.Held.{held-storable}
use Rattle.f2_core.proofs.Runs.{calmly, quiet-calm, happens-first, happens-last}
use Rattle.f2_core.proofs.Steps.{begun_turn, tail_turn, done_turn, found_turn, step-begun, step-tail, step-done, step-found, come_and_gone}
use Rattle.f2_core.proofs.Comes.{seen, comes}

-- a disk that held one image holds one with the tree that was saved
pub saved_held : (geom : ImageGeometry) (was told : Option Contents) (old stored next : Stored) (base tree live : Rows) → IsSome was → old ≡ stored → IsFlat geom base → next.geometry ≡ old.geometry → live ≡ tree
    → IfSome was (λ lists. IsHeld geom lists base stored) → WhereTold was told (IsSaved old tree next) → IfSome told (λ lists. IsHeld geom lists live next)
saved_held geom None told old stored next base tree live tells known flat sizes same held saved = absurd (cc)
saved_held geom (Some lists) None old stored next base tree live tells known flat sizes same held saved = tt
saved_held geom (Some lists) (Some now) old stored next base tree live tells known flat sizes same held saved =
    let can = held-storable geom lists base stored held flat in
    let left = saved held.image base (record { one = held.one; storable = subst (λ (s : Stored). IsStorable s.geometry base) (sym known) can; laid = subst (IsLaid held.image base) (sym known) held.laid }) in
    record {
      image = left.0;
      one = left.1;
      laid = subst (λ t. IsLaid left.0 t next) (sym same) left.2;
      sizes = sizes ∙ ap (λ (s : Stored). s.geometry) known ∙ held.sizes;
    }

-- the events of a checkpoint after its beginning
abbrev pub tail_of : State → ℕ → Happening
tail_of state seat = calmly (Go seat) (tail_turn state seat)

abbrev pub done_of : State → ℕ → Happening
done_of state seat = calmly (Go seat) (done_turn state seat)

tail_untold : (told : Reply) → Stepped step.Tail ≢ Stepped (step.Replied told)
tail_untold told same = cc

goes_on : (state : State) (seat : ℕ) → GoesOn seat reply.Synced (tail_of state seat ∷ done_of (tail_turn state seat).after seat ∷ [])
goes_on state seat = record {
  before = tail_of state seat ∷ [];
  last = done_of (tail_turn state seat).after seat;
  whole = refl;
  own = (refl, (refl, tt));
  quiet = (quiet-calm, (quiet-calm, tt));
  untold = (tail_untold, tt);
  reply = refl;
}

four_more : (before after : List Entry) (a b c d : Entry) → after ≡ before ++ a ∷ b ∷ c ∷ d ∷ [] → length after ≡ length before + 4
four_more before after a b c d e = ap length e ∙ length-append before (a ∷ b ∷ c ∷ d ∷ [])

module _ {D : Type 0} (disk after_disk : D) (geom : ImageGeometry) (was told : Option Contents) (before after : History) (from : State) (next : Stored) where
  -- a sync of an open volume
  module _ (volume : Volume) (is : IsIn geom was (Some volume) before from) (flat : IsFlat geom volume.files) (seat : ℕ) (early : length before.entries < MOST_ENTRIES) (at : IsSeat seat) where
    abbrev first : Happening
    first = calmly (Begin seat Sync) (begun_turn from seat)

    abbrev begun : State
    begun = first.turn.after

    abbrev tailed : State
    tailed = (tail_turn begun seat).after

    early_state : from.entries < MOST_ENTRIES
    early_state = let count = is.entries in omega (arith, count, early)

    check : map.get begun.flights seat ≡ Some (InCheck plan.Sync)
    check = get_put from.flights seat (InCheck plan.Sync)

    open_still : is_shut from.mode ≡ false
    open_still = ap is_shut is.mode

    other : seat ≢ MOUNT_SEAT
    other same = (let above = at.first in absurd (omega (arith, above, same)))

    no_unmount : is_unmount tailed seat ≡ false
    no_unmount = ap (λ (m : Mode). is_up m && (seat == MOUNT_SEAT)) is.mode ∙ ne_eqb seat MOUNT_SEAT other

    happened : Happened (limits_of geom) calm from (first ∷ tail_of begun seat ∷ done_of tailed seat ∷ []) (done_of tailed seat).turn.after
    happened =
        happens-first (limits_of geom) from (done_of tailed seat).turn.after (Begin seat Sync) (begun_turn from seat) (tail_of begun seat ∷ done_of tailed seat ∷ []) (step-begun (limits_of geom) from is.mode early_state is.flights seat at)
        (happens-first (limits_of geom) begun (done_of tailed seat).turn.after (Go seat) (tail_turn begun seat) (done_of tailed seat ∷ []) (step-tail (limits_of geom) begun seat check open_still is.pending)
        (happens-last (limits_of geom) tailed (Go seat) (done_turn tailed seat) (step-done (limits_of geom) tailed seat begun.live check open_still refl no_unmount)))

    pub syncs : IsSome was → next.geometry ≡ volume.stored.geometry → next.version ≡ volume.stored.version + 1 → WhereTold was told (IsSaved volume.stored volume.files next)
        → after.entries ≡ before.entries ++ entry.Begin seat Sync ∷ entry.CpBegin seat plan.Sync ∷ entry.CpTail seat ∷ entry.CpDone seat ∷ [] → after.choices ≡ before.choices ++ 2 ∷ []
        → ComesTo (seen disk geom (Some volume) before) (seen after_disk geom (Some (record { files = volume.files; stored = next })) after) told from (Begin seat Sync) (replied reply.Synced)
    syncs tells sizes version saved entries choices =
        let more = four_more before.entries after.entries _ _ _ _ entries in
        let count = is.entries in
        let old = is.version in
        let known = ap (λ (s : Stored). s.version) is.known.told in
        comes disk after_disk geom (Some volume) (Some (record { files = volume.files; stored = next })) before after was told from is (Begin seat Sync) (replied reply.Synced)
        (first ∷ tail_of begun seat ∷ done_of tailed seat ∷ []) (done_of tailed seat).turn.after happened
        (inr (record { first = first; rest = tail_of begun seat ∷ done_of tailed seat ∷ []; whole = refl; plan = plan.Sync; begun = refl; going = refl; quiet = quiet-calm; goes_on = goes_on begun seat }))
        (omega arith) entries (choices ∙ ap (λ (f : Format). before.choices ++ number_of f ∷ []) (sym is.format)) (record {
          mode = refl;
          flights = ap (λ (f : map.FinMap nat_cmp Flight). map.remove (map.insert f seat (InCheck plan.Sync)) seat) is.flights ∙ come_and_gone seat (InCheck plan.Sync);
          marks = refl;
          acknowledged = refl;
          pending = refl;
          format = is.format;
          logged = refl;
          count = omega (arith, count, more);
          flat = subst (IsFlat geom) (sym is.known.live) flat;
          older = λ ino row there. (flat.dense ino row (ap (λ tree. map.get tree ino) (sym is.known.live) ∙ there)).1;
          stored = next;
          newest = version ∙ ap (λ (s : Stored). s.version + 1) is.known.told ∙ ap (λ n. n + 1) is.newest;
          version = omega (arith, old, known, version, more);
          known = record { live = is.known.live; told = refl };
          held = saved_held geom was told volume.stored is.stored next from.base volume.files from.live tells is.known.told is.flat sizes is.known.live is.held saved;
        })

  -- a mount of a closed one, which found a tree
  module _ (is : IsIn geom was None before from) (volume : Volume) where
    abbrev found_one : Happening
    found_one = calmly Mount (found_turn from)

    abbrev found_state : State
    found_state = found_one.turn.after

    abbrev mounted : State
    mounted = (tail_turn found_state MOUNT_SEAT).after

    found_check : map.get found_state.flights MOUNT_SEAT ≡ Some (InCheck plan.Sync)
    found_check = get_put map.empty MOUNT_SEAT (InCheck plan.Sync)

    mount_happened : Happened (limits_of geom) calm from (found_one ∷ tail_of found_state MOUNT_SEAT ∷ done_of mounted MOUNT_SEAT ∷ []) (done_of mounted MOUNT_SEAT).turn.after
    mount_happened =
        happens-first (limits_of geom) from (done_of mounted MOUNT_SEAT).turn.after Mount (found_turn from) (tail_of found_state MOUNT_SEAT ∷ done_of mounted MOUNT_SEAT ∷ []) (step-found (limits_of geom) from is.mode is.marks is.acknowledged)
        (happens-first (limits_of geom) found_state (done_of mounted MOUNT_SEAT).turn.after (Go MOUNT_SEAT) (tail_turn found_state MOUNT_SEAT) (done_of mounted MOUNT_SEAT ∷ []) (step-tail (limits_of geom) found_state MOUNT_SEAT found_check refl refl)
        (happens-last (limits_of geom) mounted (Go MOUNT_SEAT) (done_turn mounted MOUNT_SEAT) (step-done (limits_of geom) mounted MOUNT_SEAT found_state.live found_check refl refl refl)))

    pub mounts : IsSome was → volume.files ≡ from.base → volume.stored ≡ is.stored → next.geometry ≡ volume.stored.geometry → next.version ≡ volume.stored.version + 1 → WhereTold was told (IsSaved volume.stored volume.files next)
        → after.entries ≡ before.entries ++ entry.Mounted 0 ∷ entry.CpBegin MOUNT_SEAT plan.Sync ∷ entry.CpTail MOUNT_SEAT ∷ entry.CpDone MOUNT_SEAT ∷ [] → after.choices ≡ before.choices ++ 0 ∷ 2 ∷ []
        → ComesTo (seen disk geom None before) (seen after_disk geom (Some (record { files = volume.files; stored = next })) after) told from Mount (answers.Found 0)
    mounts tells same known sizes version saved entries choices =
        let more = four_more before.entries after.entries _ _ _ _ entries in
        let count = is.entries in
        let old = is.version in
        let versions = ap (λ (s : Stored). s.version) known in
        comes disk after_disk geom None (Some (record { files = volume.files; stored = next })) before after was told from is Mount (answers.Found 0)
        (found_one ∷ tail_of found_state MOUNT_SEAT ∷ done_of mounted MOUNT_SEAT ∷ []) (done_of mounted MOUNT_SEAT).turn.after mount_happened
        (record { first = found_one; rest = tail_of found_state MOUNT_SEAT ∷ done_of mounted MOUNT_SEAT ∷ []; whole = refl; begun = refl; found = refl; quiet = quiet-calm; goes_on = goes_on found_state MOUNT_SEAT })
        (omega arith) entries (choices ∙ ap (λ (f : Format). before.choices ++ 0 ∷ number_of f ∷ []) (sym is.format)) (record {
          mode = refl;
          flights = come_and_gone MOUNT_SEAT (InCheck plan.Sync);
          marks = refl;
          acknowledged = refl;
          pending = refl;
          format = is.format;
          logged = refl;
          count = omega (arith, count, more);
          flat = is.flat;
          older = λ ino row there. (let dense = (is.flat.dense ino row there).1 in let len = ap map.len same in omega (arith, dense, len));
          stored = next;
          newest = version ∙ ap (λ n. n + 1) (versions ∙ is.newest);
          version = omega (arith, old, versions, version, more);
          known = record { live = sym same; told = refl };
          held = saved_held geom was told volume.stored is.stored next from.base volume.files from.base tells known is.flat sizes (sym same) is.held saved;
        })
