-- A dirty direct node of a file for which an fsync drew the next position.
use Rattle.std.proofs.Common.{◌≡◌, ◌≢◌, ℕ, ◌+◌, true, false, not, ◌&&◌, List, refl, sym, ap, ◌∙◌, true≢false}
use Rattle.std.specs.Prelude.{Some, None}
use Rattle.std.specs.FinMap as map
use Rattle.std.specs.FinSet as set
use Rattle.std.specs.FinSet.{contains-remove}
use Rattle.f2_format.specs.Footer.{footer_next}
use Rattle.f2_disk.specs.Contents.{Contents}
use Rattle.f2_model.specs.State.{State, InNodes, DrawnNode, Progress, InFsync, in_nodes}
use Rattle.f2_model.specs.Goes.{next_slot, node_drawn}
use Rattle.f2_image.specs.Chains.{is_marked}
use Rattle.f2_image.specs.Reached.{IsDirect}
use Rattle.f2_stored.specs.Places.{Places}
use Rattle.f2_stored.specs.Trees.{Unwritten}
use Rattle.f2_stored.specs.Layout.{Layout}
use Rattle.f2_stored.specs.Changes.{LeaveTheSame, with_drawn}
use Rattle.f2_stored.specs.Kept.{IsBlockFor, AreFlushed, FsyncStands, AreTied, IsKept}
use Rattle.f2_change_laws.specs.Drawing.{MayBeDrawn}
use Rattle.f2_change_laws.proofs.Draws.{nodes_may_be_drawn}
use Rattle.f2_live_laws.proofs.Told.{drawn_nodes_are_told}
use Rattle.f2_place_laws.proofs.Pairs.{pair, pair_cmp_total, tied}
use Rattle.f2_event_laws.specs.Nodes.{IsNextElsewhere, DrawnNodesKeep}
use Rattle.f2_event_laws.proofs.InMemory.{packs_stay, log_stays}
use Rattle.f2_event_laws.proofs.Standing.{part_of}
use Rattle.f2_event_laws.proofs.Drawn.{block_stays}
use Rattle.f2_event_laws.proofs.Sets.{was_in, still_out, still_in_without}
use Rattle.f2_event_laws.proofs.DrawnSlots.{one_longer, drawn_fates, drawn_one_slot, drawn_one_file, drawn_open_apart, drawn_slot, drawn_flushed, drawn_fsyncs}

module _ (lists : Contents) (layout : Layout) (state : State) (places : Places) (unwritten : Unwritten) (seat ino offset : ℕ) (progress : Progress) (block : List ℕ)
    (kept : IsKept lists layout state places unwritten) (there : map.get state.flights seat ≡ Some (InFsync ino progress)) (part : progress.part ≡ InNodes) (none : progress.slot ≡ None)
    (direct : IsDirect offset) (may : MayBeDrawn layout block) (next : IsNextElsewhere places (footer_next block)) (unmarked : is_marked block ≡ false) (is : IsBlockFor state places ino offset block) where
  abbrev after : State
  after = (node_drawn state seat ino offset).after

  abbrev now : Progress
  now = in_nodes (Some (next_slot state (DrawnNode offset)))

  abbrev layout_now : Layout
  layout_now = with_drawn layout block layout.owners

  flushed : AreFlushed lists state places ino
  flushed = part_of lists layout state places ino progress InNodes part (kept.fsyncs seat ino progress there)

  -- the node isn't dirty any more
  clean_now : set.contains after.dirty_nodes (ino, offset) ≡ false
  clean_now = contains-remove pair_cmp_total state.dirty_nodes (ino, offset) (ino, offset) ∙ ap (λ b. not b && set.contains state.dirty_nodes (ino, offset)) (tied (ino, offset))

  still_clean : (file low : ℕ) → set.contains state.dirty_nodes (file, low) ≡ false → set.contains after.dirty_nodes (file, low) ≡ false
  still_clean file low clean = still_out state.dirty_nodes (ino, offset) (file, low) clean

  was_dirty : (file low : ℕ) → set.contains after.dirty_nodes (file, low) ≡ true → set.contains state.dirty_nodes (file, low) ≡ true
  was_dirty file low dirty = was_in state.dirty_nodes (ino, offset) (file, low) dirty

  -- no page of the file is dirty
  other_node : (file page low : ℕ) → set.contains state.dirty_pages (file, page) ≡ true → pair file low ≢ pair ino offset
  other_node file page low dirty same = true≢false (sym dirty ∙ ap (λ (q : ℕ × ℕ). set.contains state.dirty_pages (q.0, page)) same ∙ flushed.clean page)

  tied_now : AreTied layout_now after places unwritten
  tied_now = record {
    pages = kept.tied.pages;
    nodes = λ file low dirty. kept.tied.nodes file low (was_dirty file low dirty);
    direct = λ file low dirty. kept.tied.direct file low (was_dirty file low dirty);
    covered = λ file page low dirty in_node. still_in_without state.dirty_nodes (ino, offset) (file, low) (other_node file page low dirty) (kept.tied.covered file page low dirty in_node);
    count = ap (λ n. n + 1) kept.tied.count ∙ sym (one_longer layout block layout.owners);
    fates = drawn_fates lists layout state after places unwritten seat ino progress now (DrawnNode offset) block layout.owners kept there none may.there refl refl;
    one_slot = drawn_one_slot lists layout state after places unwritten seat ino progress now (DrawnNode offset) block layout.owners kept there none may.there refl refl;
    one_file = drawn_one_file lists layout state after places unwritten seat ino progress now (DrawnNode offset) block layout.owners kept there none may.there refl refl;
    open_apart = drawn_open_apart lists layout state after places unwritten seat ino progress now (DrawnNode offset) block layout.owners kept there none may.there refl refl;
    next_apart = next;
  }

  own_stands : FsyncStands lists layout_now after places ino now
  own_stands = record {
    file = (kept.fsyncs seat ino progress there).file;
    slot = drawn_slot lists layout state after places unwritten seat ino progress now (DrawnNode offset) block layout.owners kept there none may.there refl refl (direct, clean_now, block_stays state after places ino offset refl block is);
    part = drawn_flushed lists layout state after places unwritten seat ino progress now (DrawnNode offset) block layout.owners kept there none may.there refl refl refl refl still_clean ino flushed;
  }

  pub drawn_node_stands : IsKept lists layout_now after places unwritten
  drawn_node_stands =
      let disk = nodes_may_be_drawn lists layout state block kept.packs kept.log may unmarked in
      let told = drawn_nodes_are_told layout state places ino offset is.node block layout.owners kept.told direct is.own in
      record {
        packs = packs_stay lists layout_now state after in_memory disk.0;
        log = log_stays lists layout_now state after in_memory disk.1;
        none_pending = kept.none_pending;
        proper = kept.proper;
        live = kept.live;
        told = record { told = told.told };
        tied = tied_now;
        fsyncs = drawn_fsyncs lists layout state after places unwritten seat ino progress now (DrawnNode offset) block layout.owners kept there none may.there refl refl refl refl still_clean own_stands;
      }
    where
      in_memory : LeaveTheSame state after
      in_memory = record { base = refl; marks = refl; acknowledged = refl; pending = refl; format = refl; version = refl; next_format = refl }

pub drawn_nodes : DrawnNodesKeep
drawn_nodes lists layout state places unwritten seat ino offset progress block kept there part none dirty direct may next unmarked is =
    drawn_node_stands lists layout state places unwritten seat ino offset progress block kept there part none direct may next unmarked is
