-- A core that loses power, and one that was just made.
use Rattle.std.proofs.Common.{◌≡◌, ℕ, ◌+◌, List, [], ◌∷◌, ◌++◌, length, refl, sym, ap, ◌∙◌, subst, arith, length-append}
use Rattle.std.specs.Prelude.{Option, Some, None, IfSome, option_map}
use Rattle.f2_format.specs.Geometry.{ImageGeometry}
use Rattle.f2_disk.specs.Contents.{Contents, IsImage, alone, WhereTold}
use Rattle.f2_disk.specs.Pick.{crash_image, crashed as crashed_to}
use Rattle.f2_model.specs.Tree.{Rows}
use Rattle.f2_model.specs.State.{State}
use Rattle.f2_model.specs.Step.{crashed}
use Rattle.f2_model.specs.declared.events.Event.TheVariants.{Crash}
use Rattle.f2_model.specs.Run.{Happening}
use Rattle.f2_model.specs.History.{History}
use Rattle.f2_model.specs.declared.histories.Entry.{Entry}
use Rattle.f2_model.specs.declared.histories.Entry.TheVariants as entry
use Rattle.f2_laid.specs.declared.stored.Stored.{Stored}
use Rattle.f2_flat.specs.Flat.{limits_of}
use Rattle.f2_core.specs.Seen.{IsHeld, IsIn}
use Rattle.f2_core.specs.Events.{HasCrashed}
use Rattle.f2_core.specs.declared.volumes.Volume.{Volume}
use Rattle.f2_core.proofs.Held.{left-alone}
use Rattle.f2_core.proofs.Runs.{calmly, quiet-calm, happens-last}
use Rattle.f2_core.proofs.Comes.{seen, goes}

-- a disk with one image has it after a crash
crash_keeps : (geom : ImageGeometry) (pick : ℕ) (was told : Option Contents) (base : Rows) (stored : Stored) → told ≡ option_map (crashed_to pick) was
    → WhereTold was told (λ before now. (now ≡ alone (crash_image pick before)) × IsImage before (crash_image pick before))
    → IfSome was (λ lists. IsHeld geom lists base stored) → IfSome told (λ lists. IsHeld geom lists base stored)
crash_keeps geom pick None told base stored is where_told held = subst (λ o. IfSome o (λ lists. IsHeld geom lists base stored)) (sym is) tt
crash_keeps geom pick (Some lists) None base stored is where_told held = tt
crash_keeps geom pick (Some lists) (Some now) base stored is where_told held =
    let left = left-alone held.image (crash_image pick lists) (subst (λ l. IsImage l (crash_image pick lists)) held.one where_told.1) in
    subst (λ l. IsHeld geom l base stored) (held.one ∙ ap alone (sym left) ∙ sym where_told.0) held

abbrev pub crash_of : State → Happening
crash_of state = calmly Crash (crashed state)

one_more : (before after : List Entry) (added : Entry) → after ≡ before ++ added ∷ [] → length after ≡ length before + 1
one_more before after added e = ap length e ∙ length-append before (added ∷ [])

pub crashes : {D : Type 0} (disk after_disk : D) (geom : ImageGeometry) (volume : Option Volume) (before room after : History) (was told : Option Contents) (pick spare : ℕ) → room ≡ record before { spare = spare }
    → after.entries ≡ room.entries ++ entry.Crash ∷ [] → after.choices ≡ room.choices ++ []
    → told ≡ option_map (crashed_to pick) was → WhereTold was told (λ before now. (now ≡ alone (crash_image pick before)) × IsImage before (crash_image pick before))
    → (from : State) → IsIn geom was volume before from → HasCrashed (seen disk geom volume before) (seen after_disk geom None after) told from
crashes disk after_disk geom volume before room after was told pick spare taken entries choices is where_told from at =
    let all : after.entries ≡ before.entries ++ entry.Crash ∷ [] = entries ∙ ap (λ (h : History). h.entries ++ entry.Crash ∷ []) taken in
    let none : after.choices ≡ before.choices ++ [] = choices ∙ ap (λ (h : History). h.choices ++ []) taken in
    let more = one_more before.entries after.entries entry.Crash all in
    let count = at.entries in
    let version = at.version in
    record {
      one = crash_of from;
      event = refl;
      quiet = quiet-calm;
      happened = happens-last (limits_of geom) from Crash (crashed from) refl;
      few = omega arith;
      closed = refl;
      goes = goes disk after_disk geom volume None before after was told from at (crash_of from ∷ []) (crashed from).after (happens-last (limits_of geom) from Crash (crashed from) refl) all none (record {
        mode = refl;
        flights = refl;
        marks = at.marks;
        acknowledged = at.acknowledged;
        pending = at.pending;
        format = at.format;
        logged = at.logged;
        count = omega (arith, count, more);
        flat = at.flat;
        older = λ ino row there. tt;
        stored = at.stored;
        newest = at.newest;
        version = omega (arith, version, more);
        known = tt;
        held = crash_keeps geom pick was told from.base at.stored is where_told at.held;
      });
    }
