-- States that come from a proper one, and are proper.
use Rattle.std.proofs.Common.{◌≡◌, ◌⊎◌, inl, inr, ℕ, zero, suc, ◌+◌, ◌≤◌, Bool, true, false, List, [], ◌∷◌, ◌++◌, take, length, sym, subst, arith}
use Rattle.std.specs.Prelude.{Some, None, if◌then◌else◌}
use Rattle.std.specs.FinMap as map
use Rattle.std.specs.FinSet as set
use Rattle.std.proofs.lemmas.List.{take_all, take-append-le, length-append}
use Rattle.f2_model.specs.Tree.{Rows}
use Rattle.f2_model.specs.State.{State, Mark, Meaning, DrawnNode, Progress, in_nodes, Flight, InFsync, InCheck, Pairs, Inos, rolled}
use Rattle.f2_model.specs.declared.modes.Mode.TheVariants.{Shut, Up}
use Rattle.f2_model.specs.declared.modes.Format.{Format}
use Rattle.f2_model.specs.Fallback.{fallback}
use Rattle.f2_model.specs.Step.{is_up, is_shut, found, with_base, node_drawn, next_slot, MOUNT_SEAT}
use Rattle.f2_model.specs.declared.bounds.Limits.{Limits}
use Rattle.f2_model.specs.declared.replies.Plan.{Plan}
use Rattle.f2_model.specs.declared.replies.Plan.TheVariants as plan
use Rattle.f2_model.specs.declared.rows.Row.{Row}
use Rattle.f2_laws.proofs.Walks.{some_same, some_none}
use Rattle.f2_room_laws.specs.ProperTrees.{IsProperTree}
use Rattle.f2_laws.specs.Flights.{IsFrozen}
use Rattle.f2_room_laws.specs.ProperStates.{IsRolling, InMode, IsProperState, InitialIsProper}
use Rattle.f2_room_laws.proofs.Effects.{Keeps}
use Rattle.f2_room_laws.proofs.Rolling.{rolling_fewer, rolling_logged, rolling_live, rolling_marked, rolling_based, whole_more}
use Rattle.f2_room_laws.proofs.Fsyncs.{rolling_begun}
use Rattle.f2_laws.proofs.Flying.{Idle, frozen_left, frozen_check, frozen_part, alone_left, alone_fsync, alone_check, alone_part, idle_after_check, nobody_yet}
use Rattle.f2_room_laws.proofs.Modes.{in_mode, where_up, put_up, up_in_fsync}

abbrev pub Rolls : Limits → State → Type 0
Rolls limits s = IsRolling limits s.live s.base s.marks s.flights s.logged

module _ (limits : Limits) (s : State) (h : IsProperState limits s) where
  -- what is dirty, and the counts, have no part in it
  pub proper_aside : (pages nodes : Pairs) (moved shrunk : Inos) (node_writes data_writes entries : ℕ) → IsProperState limits (record s { dirty_pages = pages; dirty_nodes = nodes; moved = moved; shrunk = shrunk; node_writes = node_writes; data_writes = data_writes; entries = entries })
  proper_aside pages nodes moved shrunk node_writes data_writes entries = record { live = h.live; pending = h.pending; remains = h.remains; alone = h.alone; mode = h.mode }

  pub proper_told : (entries : ℕ) → IsProperState limits (record s { entries = entries })
  proper_told entries = proper_aside s.dirty_pages s.dirty_nodes s.moved s.shrunk s.node_writes s.data_writes entries

  -- the volume is closed
  pub proper_closed : (seat entries : ℕ) → IsProperState limits (record s { mode = Shut; flights = map.remove s.flights seat; entries = entries })
  proper_closed seat entries = record { live = h.live; pending = h.pending; remains = h.remains; alone = alone_left s.flights seat h.alone; mode = tt }

  pub proper_crashed : (entries : ℕ) → IsProperState limits (record s { mode = Shut; flights = map.empty; entries = entries })
  proper_crashed entries = record { live = h.live; pending = h.pending; remains = h.remains; alone = λ seat other plan flight check found. absurd (nobody_yet seat (InCheck plan) check); mode = tt }

  -- a seat leaves
  pub proper_left : (seat entries : ℕ) → IsProperState limits (record s { flights = map.remove s.flights seat; entries = entries })
  proper_left seat entries = record {
    live = h.live;
    pending = h.pending;
    remains = h.remains;
    alone = alone_left s.flights seat h.alone;
    mode = in_mode s.mode (Idle s.flights) (Idle (map.remove s.flights seat)) (Rolls limits s) (IsRolling limits s.live s.base s.marks (map.remove s.flights seat) s.logged)
        (λ idle ino frozen. idle ino (frozen_left s.flights seat ino frozen))
        (λ rolling. rolling_fewer limits s.live s.base s.marks s.flights s.logged rolling (map.remove s.flights seat) (frozen_left s.flights seat))
        h.mode;
  }

  -- and more marks are acknowledged
  pub proper_acknowledged : (seat acknowledged entries : ℕ) → s.acknowledged ≤ acknowledged → IsProperState limits (record s { flights = map.remove s.flights seat; acknowledged = acknowledged; entries = entries })
  proper_acknowledged seat acknowledged entries more =
      let left = proper_left seat entries in
      record { live = left.live; pending = left.pending; remains = λ k from to. h.remains k (omega arith) to; alone = left.alone; mode = left.mode }

  -- a checkpoint of a format begins where nobody is in flight
  pub proper_checking : (seat : ℕ) (plan : Plan) (format : Format) (entries : ℕ) → ((at : ℕ) (one : Flight) → map.get s.flights at ≡ Some one → ⊥) → IsProperState limits (record s { flights = map.insert s.flights seat (InCheck plan); next_format = format; entries = entries })
  proper_checking seat plan format entries nobody = record {
    live = h.live;
    pending = h.pending;
    remains = h.remains;
    alone = alone_check s.flights seat plan nobody;
    mode = in_mode s.mode (Idle s.flights) (Idle (map.insert s.flights seat (InCheck plan))) (Rolls limits s) (IsRolling limits s.live s.base s.marks (map.insert s.flights seat (InCheck plan)) s.logged)
        (λ idle ino frozen. idle ino (frozen_check s.flights seat plan ino frozen))
        (λ rolling. rolling_fewer limits s.live s.base s.marks s.flights s.logged rolling (map.insert s.flights seat (InCheck plan)) (frozen_check s.flights seat plan))
        h.mode;
  }

  -- a checkpoint writes its tail
  pub proper_pending : (entries : ℕ) → IsProperState limits (record s { pending = Some s.live; entries = entries })
  proper_pending entries = record { live = h.live; pending = λ tree is. subst (IsProperTree limits) (some_same is) h.live; remains = h.remains; alone = h.alone; mode = h.mode }

  -- a node is written to the log
  pub proper_logged : (ino : ℕ) (nodes : Pairs) (node_writes entries : ℕ) → IsProperState limits (record s { dirty_nodes = nodes; node_writes = node_writes; logged = set.insert s.logged ino; entries = entries })
  proper_logged ino nodes node_writes entries = record {
    live = h.live;
    pending = h.pending;
    remains = h.remains;
    alone = h.alone;
    mode = in_mode s.mode (Idle s.flights) (Idle s.flights) (Rolls limits s) (IsRolling limits s.live s.base s.marks s.flights (set.insert s.logged ino)) (λ idle. idle) (λ rolling. rolling_logged limits s.live s.base s.marks s.flights s.logged rolling ino) h.mode;
  }

  -- a call of one event took effect
  pub proper_changed : (after : Rows) (adds : Bool) (ino : ℕ) (pages nodes : Pairs) (moved shrunk : Inos) (entries : ℕ) → IsProperTree limits after → Keeps s.live after s.flights adds ino → (adds ≡ true → map.get s.base ino ≡ None) → (adds ≡ true → set.contains s.logged ino ≡ false) →
      IsProperState limits (record s { live = after; dirty_pages = pages; dirty_nodes = nodes; moved = moved; shrunk = shrunk; entries = entries })
  proper_changed after adds ino pages nodes moved shrunk entries proper keeps no_base out = record {
    live = proper;
    pending = h.pending;
    remains = h.remains;
    alone = h.alone;
    mode = in_mode s.mode (Idle s.flights) (Idle s.flights) (Rolls limits s) (IsRolling limits after s.base s.marks s.flights s.logged) (λ idle. idle) (λ rolling. rolling_live limits s.live s.base s.marks s.flights s.logged rolling after adds ino keeps no_base out) h.mode;
  }

  -- an fsync of a row begins, and rolls forward
  pub proper_begun : (seat : ℕ) (progress : Progress) (row : Row) (entries : ℕ) → is_up s.mode ≡ true → map.get s.live row.ino ≡ Some row → fallback limits s row ≡ None → ((at : ℕ) (plan : Plan) → map.get s.flights at ≡ Some (InCheck plan) → ⊥) → IsProperState limits (record s { flights = map.insert s.flights seat (InFsync row.ino progress); entries = entries })
  proper_begun seat progress row entries up there none no_check = record {
    live = h.live;
    pending = h.pending;
    remains = h.remains;
    alone = alone_fsync s.flights seat row.ino progress no_check;
    mode = put_up s.mode (Idle (map.insert s.flights seat (InFsync row.ino progress))) (IsRolling limits s.live s.base s.marks (map.insert s.flights seat (InFsync row.ino progress)) s.logged) up
        (rolling_begun limits s h.live (where_up s.mode (Idle s.flights) (Rolls limits s) up h.mode) row there none seat progress);
  }

  -- an fsync in flight goes on
  module _ (seat ino : ℕ) (progress : Progress) (there : map.get s.flights seat ≡ Some (InFsync ino progress)) where
    pub proper_part : (next : Progress) (entries : ℕ) → IsProperState limits (record s { flights = map.insert s.flights seat (InFsync ino next); entries = entries })
    proper_part next entries = record {
      live = h.live;
      pending = h.pending;
      remains = h.remains;
      alone = alone_part s.flights seat ino progress next there h.alone;
      mode = in_mode s.mode (Idle s.flights) (Idle (map.insert s.flights seat (InFsync ino next))) (Rolls limits s) (IsRolling limits s.live s.base s.marks (map.insert s.flights seat (InFsync ino next)) s.logged)
          (λ idle at frozen. idle at (frozen_part s.flights seat ino progress next there at frozen))
          (λ rolling. rolling_fewer limits s.live s.base s.marks s.flights s.logged rolling (map.insert s.flights seat (InFsync ino next)) (frozen_part s.flights seat ino progress next there))
          h.mode;
    }

    -- and takes a position of the log for a node
    pub proper_drawn : (offset entries : ℕ) → IsProperState limits (record (node_drawn s seat ino offset).after { entries = entries })
    proper_drawn offset entries =
        let logged = proper_logged ino (set.remove s.dirty_nodes (ino, offset)) (s.node_writes + 1) entries in
        let next = in_nodes (Some (next_slot s (DrawnNode offset))) in
        record {
          live = logged.live;
          pending = logged.pending;
          remains = logged.remains;
          alone = alone_part s.flights seat ino progress next there h.alone;
          mode = in_mode s.mode (Idle s.flights) (Idle (map.insert s.flights seat (InFsync ino next))) (IsRolling limits s.live s.base s.marks s.flights (set.insert s.logged ino)) (IsRolling limits s.live s.base s.marks (map.insert s.flights seat (InFsync ino next)) (set.insert s.logged ino))
              (λ idle at frozen. idle at (frozen_part s.flights seat ino progress next there at frozen))
              (λ rolling. rolling_fewer limits s.live s.base s.marks s.flights (set.insert s.logged ino) rolling (map.insert s.flights seat (InFsync ino next)) (frozen_part s.flights seat ino progress next there))
              logged.mode;
        }

    -- and marks its file
    module _ (row : Row) (row_there : map.get s.live ino ≡ Some row) (open_now : is_shut s.mode ≡ false) (next : Progress) where
      frozen : IsFrozen s.flights ino
      frozen = (seat, (progress, there))

      up : is_up s.mode ≡ true
      up = up_in_fsync s.mode (Idle s.flights) (Rolls limits s) open_now (λ idle. idle ino frozen) h.mode

      rolling : Rolls limits s
      rolling = where_up s.mode (Idle s.flights) (Rolls limits s) up h.mode

      abbrev mark : Mark
      mark = record { ino = ino; row = row }

      remains_more : (k : ℕ) → s.acknowledged ≤ k → k ≤ length (s.marks ++ mark ∷ []) → IsProperTree limits (rolled s.base (take k (s.marks ++ mark ∷ [])))
      remains_more k from to = by_length (before_or_last k (length s.marks) (omega (arith, to, length-append s.marks (mark ∷ []))))
        where
          before_or_last : (k n : ℕ) → k ≤ n + 1 → (k ≤ n) ⊎ (n + 1 ≤ k)
          before_or_last k n most = search (arith)

          by_length : (k ≤ length s.marks) ⊎ (length s.marks + 1 ≤ k) → IsProperTree limits (rolled s.base (take k (s.marks ++ mark ∷ [])))
          by_length (inl before) = subst (λ (ms : List Mark). IsProperTree limits (rolled s.base ms)) (sym (take-append-le k s.marks (mark ∷ []) before)) (h.remains k from before)
          by_length (inr last) =
              let all : take k (s.marks ++ mark ∷ []) ≡ s.marks ++ mark ∷ [] = take_all k (s.marks ++ mark ∷ []) (omega (arith, last, length-append s.marks (mark ∷ []))) in
              subst (λ (ms : List Mark). IsProperTree limits (rolled s.base ms)) (sym all) (whole_more limits s.live s.base s.marks s.flights s.logged rolling h.live ino row frozen row_there)

      pub proper_marked : (node_writes entries : ℕ) → IsProperState limits (record s { marks = s.marks ++ mark ∷ []; flights = map.insert s.flights seat (InFsync ino next); node_writes = node_writes; logged = set.insert s.logged ino; entries = entries })
      proper_marked node_writes entries = record {
        live = h.live;
        pending = h.pending;
        remains = remains_more;
        alone = alone_part s.flights seat ino progress next there h.alone;
        mode = put_up s.mode (Idle (map.insert s.flights seat (InFsync ino next))) (IsRolling limits s.live s.base (s.marks ++ mark ∷ []) (map.insert s.flights seat (InFsync ino next)) (set.insert s.logged ino)) up
            (rolling_fewer limits s.live s.base (s.marks ++ mark ∷ []) s.flights (set.insert s.logged ino) (rolling_marked limits s.live s.base s.marks s.flights s.logged rolling h.live ino row frozen row_there) (map.insert s.flights seat (InFsync ino next)) (frozen_part s.flights seat ino progress next there));
      }

  -- a checkpoint is done
  pub proper_completed : (seat : ℕ) (plan : Plan) (closes : Bool) (entries : ℕ) → map.get s.flights seat ≡ Some (InCheck plan) → IsProperState limits (record (with_base s s.live s.next_format (s.version + 1) (if closes then Shut else Up)) { flights = map.remove s.flights seat; entries = entries })
  proper_completed seat plan closes entries there = record {
    live = h.live;
    pending = λ tree is. absurd (some_none (sym is));
    remains = λ k from to. none_left k to;
    alone = alone_left s.flights seat h.alone;
    mode = by_closing closes;
  }
    where
      none_left : (k : ℕ) → k ≤ 0 → IsProperTree limits (rolled s.live (take k []))
      none_left zero to = h.live
      none_left (suc k) to = absurd (omega arith)

      by_closing : (b : Bool) → InMode (if b then Shut else Up) (Idle (map.remove s.flights seat)) (IsRolling limits s.live s.live [] (map.remove s.flights seat) set.empty)
      by_closing true = tt
      by_closing false = rolling_based limits s.live (map.remove s.flights seat) set.empty h.live (idle_after_check s.flights seat plan h.alone there)

-- a state in which all marks are acknowledged, nobody rolls forward, and the tree that calls see is what a mount finds
pub proper_found : (limits : Limits) (s : State) (meaning : Meaning) (choice : ℕ) → IsProperTree limits (rolled meaning.base meaning.marks) → IsProperState limits (found s meaning choice).after
proper_found limits s meaning choice proper = record {
  live = proper;
  pending = λ tree is. absurd (some_none (sym is));
  remains = λ k from to. subst (λ (ms : List Mark). IsProperTree limits (rolled meaning.base ms)) (sym (take_all k meaning.marks from)) proper;
  alone = alone_check map.empty MOUNT_SEAT plan.Sync nobody_yet;
  mode = λ ino frozen. no_fsync ino (frozen_check map.empty MOUNT_SEAT plan.Sync ino frozen);
}
  where
    no_fsync : (ino : ℕ) → IsFrozen map.empty ino → ⊥
    no_fsync ino frozen = nobody_yet frozen.0 (InFsync ino frozen.1.0) frozen.1.1

pub initial_proper : InitialIsProper
initial_proper limits meaning proper = record {
  live = proper;
  pending = λ tree is. absurd (some_none (sym is));
  remains = λ k from to. subst (λ (ms : List Mark). IsProperTree limits (rolled meaning.base ms)) (sym (take_all k meaning.marks from)) proper;
  alone = λ seat other plan flight check there. absurd (nobody_yet seat (InCheck plan) check);
  mode = tt;
}
