-- A call that changes one row, and what is dirty of it alone: what is to be seen at that row.
use Rattle.std.proofs.Common.{◌≡◌, ◌≢◌, ◌⊎◌, inl, inr, ℕ, true, false, IsSome, is_some, sym, ap, ◌∙◌, subst}
use Rattle.std.specs.Prelude.{Some}
use Rattle.std.specs.FinMap as map
use Rattle.std.specs.FinSet as set
use Rattle.f2_disk.specs.Contents.{Contents}
use Rattle.f2_format.specs.Offsets.{direct_of}
use Rattle.f2_model.specs.State.{State, IsFreeIno}
use Rattle.f2_model.specs.declared.bounds.Limits.{Limits}
use Rattle.f2_model.specs.declared.rows.Row.{Row}
use Rattle.f2_model.specs.declared.rows.Kind.TheVariants.{Regular}
use Rattle.f2_image.specs.Reached.{IsDirect}
use Rattle.f2_laws.specs.Flights.{IsFrozen}
use Rattle.f2_laws.proofs.Places.{same_or_other}
use Rattle.f2_room_laws.proofs.CalledPairs.{LeavesFile}
use Rattle.f2_stored.specs.Places.{Places}
use Rattle.f2_stored.specs.Trees.{Unwritten}
use Rattle.f2_stored.specs.Layout.{Layout}
use Rattle.f2_stored.specs.Whole.{IsFilePage, IsKeptWhole}
use Rattle.f2_call_laws.proofs.Dirtied.{LeavesRest, WasThere, DirtiesRight}

-- all other rows stay, with what is dirty of them
pub record LeavesOthers (state after : State) (place : ℕ) : Type 0 where
  pub rows : (ino : ℕ) → ino ≢ place → map.get after.live ino ≡ map.get state.live ino
  pub dirty : (ino : ℕ) → ino ≢ place → LeavesFile state after ino
  pub shrunk : (ino : ℕ) → ino ≢ place → set.contains after.shrunk ino ≡ set.contains state.shrunk ino

-- what is right of that one
pub record RightAt (limits : Limits) (state after : State) (place : ℕ) : Type 0 where
  pub rows : (row : Row) → map.get after.live place ≡ Some row → IsSome (map.get state.live place) ⊎ IsFreeIno limits state place
  pub told : (page offset : ℕ) (row : Row) → map.get after.live place ≡ Some row → row.kind ≡ Regular → set.contains after.shrunk place ≡ false → direct_of page ≡ Some offset
      → set.contains after.dirty_nodes (place, offset) ≡ false → WasThere state place page offset row ⊎ IsFreeIno limits state place
  pub direct : (offset : ℕ) → set.contains after.dirty_nodes (place, offset) ≡ true → IsDirect offset
  pub covered : (page offset : ℕ) → set.contains after.dirty_pages (place, page) ≡ true → direct_of page ≡ Some offset → set.contains after.dirty_nodes (place, offset) ≡ true
  pub dirty : (page : ℕ) → set.contains after.dirty_pages (place, page) ≡ true → IsFilePage after.live place page

module _ (limits : Limits) (lists : Contents) (layout : Layout) (state after : State) (places : Places) (unwritten : Unwritten) (whole : IsKeptWhole lists layout state places unwritten) (rest : LeavesRest state after) where
  -- where nothing is changed
  pub unchanged_right : ((ino : ℕ) → map.get after.live ino ≡ map.get state.live ino) → ((ino : ℕ) → LeavesFile state after ino) → ((ino : ℕ) → set.contains after.shrunk ino ≡ set.contains state.shrunk ino) → DirtiesRight limits state after
  unchanged_right rows dirty shrunk = record {
    rest = rest;
    frozen_rows = λ ino frozen. rows ino;
    frozen = λ ino frozen. dirty ino;
    shrunk = λ ino frozen. shrunk ino;
    rows = λ ino row there. inl (ap is_some (sym (rows ino) ∙ there));
    told = λ ino page offset row there regular kept direct clean. inl (record {
      before = row;
      there = sym (rows ino) ∙ there;
      regular = regular;
      whole = sym (shrunk ino) ∙ kept;
      clean = sym ((dirty ino).nodes offset) ∙ clean;
      stays = λ has. has;
    });
    direct = λ ino offset is. whole.kept.tied.direct ino offset (sym ((dirty ino).nodes offset) ∙ is);
    covered = λ ino page offset is direct. (dirty ino).nodes offset ∙ whole.kept.tied.covered ino page offset (sym ((dirty ino).pages page) ∙ is) direct;
    dirty = λ ino page is. (let own = whole.dirty ino page (sym ((dirty ino).pages page) ∙ is) in record { row = own.row; there = rows ino ∙ own.there; regular = own.regular; has = own.has });
  }

  module _ (place : ℕ) (thawed : IsFrozen state.flights place → ⊥) (others : LeavesOthers state after place) (here : RightAt limits state after place) where
    apart : (ino : ℕ) → IsFrozen state.flights ino → ino ≢ place
    apart ino frozen same = thawed (subst (IsFrozen state.flights) same frozen)

    rows : (ino : ℕ) → (ino ≡ place) ⊎ (ino ≢ place) → (row : Row) → map.get after.live ino ≡ Some row → IsSome (map.get state.live ino) ⊎ IsFreeIno limits state ino
    rows ino (inl same) row there = subst (λ i. IsSome (map.get state.live i) ⊎ IsFreeIno limits state i) (sym same) (here.rows row (ap (map.get after.live) (sym same) ∙ there))
    rows ino (inr other) row there = inl (ap is_some (sym (others.rows ino other) ∙ there))

    told : (ino : ℕ) → (ino ≡ place) ⊎ (ino ≢ place) → (page offset : ℕ) (row : Row) → map.get after.live ino ≡ Some row → row.kind ≡ Regular → set.contains after.shrunk ino ≡ false → direct_of page ≡ Some offset
        → set.contains after.dirty_nodes (ino, offset) ≡ false → WasThere state ino page offset row ⊎ IsFreeIno limits state ino
    told ino (inl same) page offset row there regular kept direct clean =
        subst (λ i. WasThere state i page offset row ⊎ IsFreeIno limits state i) (sym same)
        (here.told page offset row (ap (map.get after.live) (sym same) ∙ there) regular (ap (set.contains after.shrunk) (sym same) ∙ kept) direct (ap (λ i. set.contains after.dirty_nodes (i, offset)) (sym same) ∙ clean))
    told ino (inr other) page offset row there regular kept direct clean = inl (record {
      before = row;
      there = sym (others.rows ino other) ∙ there;
      regular = regular;
      whole = sym (others.shrunk ino other) ∙ kept;
      clean = sym ((others.dirty ino other).nodes offset) ∙ clean;
      stays = λ has. has;
    })

    direct : (ino : ℕ) → (ino ≡ place) ⊎ (ino ≢ place) → (offset : ℕ) → set.contains after.dirty_nodes (ino, offset) ≡ true → IsDirect offset
    direct ino (inl same) offset is = here.direct offset (ap (λ i. set.contains after.dirty_nodes (i, offset)) (sym same) ∙ is)
    direct ino (inr other) offset is = whole.kept.tied.direct ino offset (sym ((others.dirty ino other).nodes offset) ∙ is)

    covered : (ino : ℕ) → (ino ≡ place) ⊎ (ino ≢ place) → (page offset : ℕ) → set.contains after.dirty_pages (ino, page) ≡ true → direct_of page ≡ Some offset → set.contains after.dirty_nodes (ino, offset) ≡ true
    covered ino (inl same) page offset is in_node =
        ap (λ i. set.contains after.dirty_nodes (i, offset)) same ∙ here.covered page offset (ap (λ i. set.contains after.dirty_pages (i, page)) (sym same) ∙ is) in_node
    covered ino (inr other) page offset is in_node =
        (others.dirty ino other).nodes offset ∙ whole.kept.tied.covered ino page offset (sym ((others.dirty ino other).pages page) ∙ is) in_node

    dirty : (ino : ℕ) → (ino ≡ place) ⊎ (ino ≢ place) → (page : ℕ) → set.contains after.dirty_pages (ino, page) ≡ true → IsFilePage after.live ino page
    dirty ino (inl same) page is = subst (λ i. IsFilePage after.live i page) (sym same) (here.dirty page (ap (λ i. set.contains after.dirty_pages (i, page)) (sym same) ∙ is))
    dirty ino (inr other) page is =
        let own = whole.dirty ino page (sym ((others.dirty ino other).pages page) ∙ is) in
        record { row = own.row; there = others.rows ino other ∙ own.there; regular = own.regular; has = own.has }

    pub one_row_right : DirtiesRight limits state after
    one_row_right = record {
      rest = rest;
      frozen_rows = λ ino frozen. others.rows ino (apart ino frozen);
      frozen = λ ino frozen. others.dirty ino (apart ino frozen);
      shrunk = λ ino frozen. others.shrunk ino (apart ino frozen);
      rows = λ ino. rows ino (same_or_other ino place);
      told = λ ino. told ino (same_or_other ino place);
      direct = λ ino. direct ino (same_or_other ino place);
      covered = λ ino. covered ino (same_or_other ino place);
      dirty = λ ino. dirty ino (same_or_other ino place);
    }
