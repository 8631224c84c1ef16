-- What a call that changes files comes to.
use Rattle.std.proofs.Common.{◌≡◌, ◌≢◌, inl, inr, ℕ, ◌+◌, ◌*◌, ◌<◌, ◌≤◌, List, [], ◌∷◌, ◌++◌, length, Result, Ok, Err, refl, sym, ap, ◌∙◌, subst, arith, length-append, append-nil}
use Rattle.std.specs.Prelude.{Option, Some, None, IfSome, option_to_list}
use Rattle.std.specs.Ordering.{nat_cmp}
use Rattle.std.specs.FinMap as map
use Rattle.std.specs.FinSet as set
use Rattle.f2_format.specs.Geometry.{ImageGeometry, IsGeometry, node_third, nid_limit}
use Rattle.f2_disk.specs.Contents.{Contents}
use Rattle.f2_model.specs.Tree.{Rows, ROOT, walk}
use Rattle.f2_model.specs.Call.{answer, effect, refusal, space_refusal}
use Rattle.f2_model.specs.State.{State, IsFreeIno, dirtied, marked_dirty, removed, touched, from_both_rows}
use Rattle.f2_model.specs.Step.{Step, IsSeat, calm, TakesEffect, MOST_ENTRIES, adds_row, called, told_at_once, replied, outcome_of}
use Rattle.f2_model.specs.declared.events.Event.TheVariants.{Begin}
use Rattle.f2_model.specs.Run.{Happening}
use Rattle.f2_model.specs.History.{History}
use Rattle.f2_model.specs.declared.rows.Row.{Row}
use Rattle.f2_model.specs.declared.requests.Request.{Request}
use Rattle.f2_model.specs.declared.requests.Request.TheVariants.{Create, Write}
use Rattle.f2_model.specs.declared.replies.Reply.{Reply}
use Rattle.f2_model.specs.declared.replies.Reply.TheVariants as reply
use Rattle.f2_model.specs.declared.histories.Entry.{Entry}
use Rattle.f2_model.specs.declared.histories.Entry.TheVariants as entry
use Rattle.f2_flat.specs.Flat.{IsFlat, limits_of}
use Rattle.f2_flat.specs.Calls.{IsRefused}
use Rattle.f2_core.specs.Seen.{IsHeld, IsIn}
use Rattle.f2_core.specs.Changes.{IsChange, IsChanged, TookEffect, in_place, by_new_row}
use Rattle.f2_core.specs.Events.{ComesTo}
use Rattle.f2_core.specs.declared.volumes.Volume.{Volume}
use Rattle.f2_core.proofs.Grown.{next_free}
use Rattle.f2_core.proofs.Refusals.{change-refused, space-refused}
use Rattle.f2_core.proofs.Runs.{calmly, quiet-calm, happens-last}
use Rattle.f2_core.proofs.Steps.{on_false, on_true, refused_turn, step-refused, step-kept_out, step-takes}
use Rattle.f2_core.proofs.Comes.{seen, comes, short}

one_more : (before after : List Entry) (more : Entry) → after ≡ before ++ more ∷ [] → length after ≡ length before + 1
one_more before after more e = ap length e ∙ length-append before (more ∷ [])

-- what stays in a state when a call changes files: all but the tree that calls see, and what is dirty
record IsElse (state after : State) : Type 0 where
  base : after.base ≡ state.base
  marks : after.marks ≡ state.marks
  acknowledged : after.acknowledged ≡ state.acknowledged
  pending : after.pending ≡ state.pending
  format : after.format ≡ state.format
  version : after.version ≡ state.version
  mode : after.mode ≡ state.mode
  flights : after.flights ≡ state.flights
  logged : after.logged ≡ state.logged
  entries : after.entries ≡ state.entries

itself : (state : State) → IsElse state state
itself state = record { base = refl; marks = refl; acknowledged = refl; pending = refl; format = refl; version = refl; mode = refl; flights = refl; logged = refl; entries = refl }

dirties : (state : State) (request : Request) (before after : Result Row Reply) → IsElse state (from_both_rows state before after (λ old new. dirtied state old new (touched old request) (removed old request)))
dirties state request (Ok before) (Ok after) = record { base = refl; marks = refl; acknowledged = refl; pending = refl; format = refl; version = refl; mode = refl; flights = refl; logged = refl; entries = refl }
dirties state request (Ok before) (Err refused) = itself state
dirties state request (Err refused) after = itself state

stays_else : (state : State) (request : Request) (after : Rows) → IsChange request → IsElse state (marked_dirty state request after)
stays_else state (Create path) after is = itself state
stays_else state (Write path pieces) after is = dirties state (Write path pieces) (walk state.live path) (walk after path)
stays_else state _ after is = absurd is

-- no refusal of a call that changes files tells a fault of the disk
pub refused-calm : (geom : ImageGeometry) (tree : Rows) (request : Request) → IsChange request → (told : Reply) → IsRefused geom tree request told → told ≢ reply.WriteFault
refused-calm geom tree request is told (inl stands) = change-refused (limits_of geom) tree request is told stands
refused-calm geom tree request is told (inr (passed, full)) = space-refused (limits_of geom) (effect tree request (limits_of geom).nids) told full

module _ (geom : ImageGeometry) (geometry : IsGeometry geom) (told : Option Contents) (volume : Volume) (before : History) (from : State) (is : IsIn geom told (Some volume) before from) (flat : IsFlat geom volume.files) where
  some_row : 1 ≤ map.len volume.files
  some_row = let root = (flat.dense ROOT flat.good.root.0 flat.good.root.1).1 in omega (arith, root)

  below : (len third nids ino : ℕ) → ino ≡ len + ROOT → len + 1 ≤ third → 3 * third + 4 ≤ nids → ino < nids
  below len third nids ino at fits large = omega (arith, at, fits, large)

  -- the number after the last one is free
  free_ino : (ino : ℕ) → ino ≡ map.len volume.files + ROOT → map.len volume.files + 1 ≤ node_third geom → IsFreeIno (limits_of geom) from ino
  free_ino ino at fits = record {
    above = (let some = some_row in let here : ino ≡ map.len volume.files + 3 = at in omega (arith, some, here));
    below = below (map.len volume.files) (node_third geom) (nid_limit geom) ino at fits geometry.nids;
    no_row = ap (λ tree. map.get tree ino) is.known.live ∙ ap (λ i. map.get volume.files i) at ∙ next_free geom volume.files flat;
    no_base_row = by_row (map.get from.base ino) refl;
    not_logged = ap (λ s. set.contains s ino) is.logged ∙ set.contains-empty nat_cmp ino;
  }
    where
      by_row : (o : Option Row) → map.get from.base ino ≡ o → o ≡ None
      by_row None there = refl
      by_row (Some row) there = let old = is.older ino row there in absurd (omega (arith, old, at))

  module _ {D : Type 0} (disk : D) (after : History) (seat : ℕ) (at : IsSeat seat) (request : Request) (change : IsChange request) (early : length before.entries < MOST_ENTRIES) where
    early_state : from.entries < MOST_ENTRIES
    early_state = let count = is.entries in omega (arith, count, early)

    refusal_is : (first : Option Reply) → refusal (limits_of geom) volume.files request ≡ first → refusal (limits_of geom) from.live request ≡ first
    refusal_is first so = ap (λ tree. refusal (limits_of geom) tree request) is.known.live ∙ so

    space_is : (want : Option Reply) → space_refusal (limits_of geom) (effect volume.files request (limits_of geom).nids) ≡ want → space_refusal (limits_of geom) (effect from.live request (limits_of geom).nids) ≡ want
    space_is want so = ap (λ tree. space_refusal (limits_of geom) (effect tree request (limits_of geom).nids)) is.known.live ∙ so

    -- it took effect
    module _ (new : Rows) (said : Reply) (ino : ℕ) (took : TookEffect geom volume.files new request said ino) (more : map.len volume.files ≤ map.len new) (choices : List ℕ) where
      abbrev one : Happening
      one = calmly (Begin seat request) (told_at_once from seat request (answer from.live request) choices (called from request ino))

      said_is : answer from.live request ≡ said
      said_is = ap (λ tree. answer tree request) is.known.live ∙ sym took.reply

      takes : TakesEffect (limits_of geom) from seat request one.turn → after.entries ≡ before.entries ++ entry.Did seat request (outcome_of said) ∷ [] → after.choices ≡ before.choices ++ choices
          → ComesTo (seen disk geom (Some volume) before) (seen disk geom (Some (record { files = new; stored = volume.stored })) after) told from (Begin seat request) (replied said)
      takes effect_taken entries chosen =
          let step = step-takes (limits_of geom) from is.mode early_state is.flights seat at request one.turn change (refusal_is None took.none) (space_is None took.space) effect_taken in
          let rest = stays_else from request (effect from.live request ino) change in
          let longer = one_more before.entries after.entries (entry.Did seat request (outcome_of said)) entries in
          let count = is.entries in
          let counted = rest.entries in
          let version = is.version in
          comes disk disk geom (Some volume) (Some (record { files = new; stored = volume.stored })) before after told told from is (Begin seat request) (replied said) (one ∷ []) one.turn.after (happens-last (limits_of geom) from (Begin seat request) one.turn step)
          (inl (short (Begin seat request) (replied said) one refl (ap replied said_is) quiet-calm)) (omega arith)
          (entries ∙ ap (λ r. before.entries ++ entry.Did seat request (outcome_of r) ∷ []) (sym said_is)) (chosen ∙ ap (λ cs. before.choices ++ cs) (sym (append-nil choices))) (record {
            mode = rest.mode ∙ is.mode;
            flights = rest.flights ∙ is.flights;
            marks = rest.marks ∙ is.marks;
            acknowledged = rest.acknowledged ∙ is.acknowledged;
            pending = rest.pending ∙ is.pending;
            format = rest.format ∙ is.format;
            logged = rest.logged ∙ is.logged;
            count = omega (arith, count, counted, longer);
            flat = subst (IsFlat geom) (sym rest.base) is.flat;
            older = λ old row there. (let was = is.older old row (ap (λ tree. map.get tree old) (sym rest.base) ∙ there) in omega (arith, was, more));
            stored = is.stored;
            newest = is.newest ∙ sym rest.version;
            version = omega (arith, version, longer);
            known = record { live = ap (λ tree. effect tree request ino) is.known.live ∙ sym took.tree; told = is.known.told };
            held = subst (λ tree. IfSome told (λ lists. IsHeld geom lists tree is.stored)) (sym rest.base) is.held;
          })

    -- it was refused
    module _ (new : Rows) (said : Reply) (out : IsRefused geom volume.files request said) (same : new ≡ volume.files) where
      step_out : IsRefused geom volume.files request said → Step (limits_of geom) calm from (Begin seat request) (refused_turn from seat request said)
      step_out (inl stands) = step-refused (limits_of geom) from is.mode early_state is.flights seat at request said (refusal_is (Some said) stands)
      step_out (inr (passed, full)) = step-kept_out (limits_of geom) from is.mode early_state is.flights seat at request said change (refusal_is None passed) (space_is (Some said) full)

      abbrev other : Happening
      other = calmly (Begin seat request) (refused_turn from seat request said)

      pub refuses : after.entries ≡ before.entries ++ entry.Did seat request (outcome_of said) ∷ [] → after.choices ≡ before.choices ++ []
          → ComesTo (seen disk geom (Some volume) before) (seen disk geom (Some (record { files = new; stored = volume.stored })) after) told from (Begin seat request) (replied said)
      refuses entries choices =
          let longer = one_more before.entries after.entries (entry.Did seat request (outcome_of said)) entries in
          let count = is.entries in
          let version = is.version in
          comes disk disk geom (Some volume) (Some (record { files = new; stored = volume.stored })) before after told told from is (Begin seat request) (replied said) (other ∷ []) other.turn.after (happens-last (limits_of geom) from (Begin seat request) other.turn (step_out out))
          (inl (short (Begin seat request) (replied said) other refl refl quiet-calm)) (omega arith) entries choices (record {
            mode = is.mode;
            flights = is.flights;
            marks = is.marks;
            acknowledged = is.acknowledged;
            pending = is.pending;
            format = is.format;
            logged = is.logged;
            count = omega (arith, count, longer);
            flat = is.flat;
            older = λ old row there. (let was = is.older old row there in let len = ap map.len same in omega (arith, was, len));
            stored = is.stored;
            newest = is.newest;
            version = omega (arith, version, longer);
            known = record { live = is.known.live ∙ sym same; told = is.known.told };
            held = is.held;
          })

    pub changes : (new : Rows) (choice : Option ℕ) → IsChanged geom volume.files new request choice
        → after.entries ≡ before.entries ++ entry.Did seat request (outcome_of reply.Done) ∷ [] → after.choices ≡ before.choices ++ option_to_list choice
        → ComesTo (seen disk geom (Some volume) before) (seen disk geom (Some (record { files = new; stored = volume.stored })) after) told from (Begin seat request) (replied reply.Done)
    changes new choice (in_place adds took len none) entries choices =
        takes new reply.Done 0 took (omega (arith, len)) [] (on_false (adds_row request) _ _ adds refl) entries (choices ∙ ap (λ o. before.choices ++ option_to_list o) none)
    changes new choice (by_new_row ino adds took len next fits chosen) entries choices =
        takes new reply.Done ino took (omega (arith, len)) (ino ∷ []) (on_true (adds_row request) _ _ adds (ino, free_ino ino next fits, refl)) entries (choices ∙ ap (λ o. before.choices ++ option_to_list o) chosen)
