-- The marked inode of a file for which an fsync drew the next position.
use Rattle.std.proofs.Common.{◌≡◌, ℕ, ◌+◌, ◌*◌, ◌≤◌, false, cond, List, [], ◌∷◌, ◌++◌, length, refl, sym, ap, ◌∙◌, subst, arith}
use Rattle.std.specs.Prelude.{Some, None}
use Rattle.std.specs.FinMap as map
use Rattle.std.specs.FinSet as set
use Rattle.std.proofs.lemmas.List.{length_push, take_all}
use Rattle.std.proofs.lemmas.Slice.Zip.{AllZip-long}
use Rattle.f2_format.specs.Geometry.{data_third}
use Rattle.f2_format.specs.Footer.{footer_next}
use Rattle.f2_format.specs.Inode.{SIZE_LIMIT}
use Rattle.f2_disk.specs.Contents.{Contents}
use Rattle.f2_model.specs.State.{State, Mark, InNodes, DrawnMark, Progress, InFsync, marked_at}
use Rattle.f2_model.specs.Goes.{next_slot, mark_drawn}
use Rattle.f2_model.specs.declared.rows.Row.{Row}
use Rattle.f2_model.specs.declared.rows.Kind.TheVariants.{Regular}
use Rattle.f2_image.specs.Chains.{Logged, marked_places}
use Rattle.f2_image_laws.specs.Rolled.{image_limits}
use Rattle.f2_room_laws.specs.Fitting.{AreFitting}
use Rattle.f2_stored.specs.Places.{Places}
use Rattle.f2_stored.specs.Trees.{Unwritten}
use Rattle.f2_stored.specs.Layout.{Owners, Layout, chained}
use Rattle.f2_stored.specs.Numbers.{MayCount}
use Rattle.f2_stored.specs.Marks.{HoldsMark, marks_within}
use Rattle.f2_stored.specs.Changes.{LeaveTheSame, with_drawn}
use Rattle.f2_stored.specs.Stored.{KeepsPacks, KeepsLog}
use Rattle.f2_stored.specs.Kept.{IsBlockFor, AreFlushed, HasMarkAt, FsyncStands, AreTied, IsKept}
use Rattle.f2_change_laws.specs.Drawing.{MayBeDrawn}
use Rattle.f2_change_laws.proofs.Counts.{marked_more}
use Rattle.f2_change_laws.proofs.Draws.{marks_may_be_drawn}
use Rattle.f2_live_laws.specs.Marking.{MayBeMarked, IsMarkOf}
use Rattle.f2_live_laws.proofs.Told.{marks_tell_no_nodes}
use Rattle.f2_live_laws.proofs.Marked.{live_files_give_marks}
use Rattle.f2_event_laws.specs.Nodes.{IsNextElsewhere}
use Rattle.f2_event_laws.specs.Marks.{OwnsPages, DrawnMarksKeep}
use Rattle.f2_event_laws.proofs.InMemory.{packs_stay, log_stays}
use Rattle.f2_event_laws.proofs.Standing.{part_of}
use Rattle.f2_event_laws.proofs.Drawn.{block_stays}
use Rattle.f2_event_laws.proofs.LogPlaces.{chain_long}
use Rattle.f2_event_laws.proofs.DrawnSlots.{one_longer, chain_more, drawn_fates, drawn_one_slot, drawn_one_file, drawn_open_apart, drawn_slot, drawn_flushed, drawn_fsyncs}

the_row : (a b : Row) → Some a ≡ Some b → a ≡ b
the_row a b is = cc

module _ (lists : Contents) (layout : Layout) (state : State) (places : Places) (unwritten : Unwritten) (seat ino : ℕ) (progress : Progress) (row : Row) (block : List ℕ) (owners : Owners)
    (kept : IsKept lists layout state places unwritten) (there : map.get state.flights seat ≡ Some (InFsync ino progress)) (part : progress.part ≡ InNodes) (none : progress.slot ≡ None)
    (clean : (offset : ℕ) → set.contains state.dirty_nodes (ino, offset) ≡ false) (whole : set.contains state.shrunk ino ≡ false) (of_tree : map.get state.live ino ≡ Some row) (size : row.size ≤ SIZE_LIMIT)
    (may : MayBeDrawn layout block) (counting : MayCount layout ino) (next : IsNextElsewhere places (footer_next block)) (is_mark : IsMarkOf state places ino row block) (is : IsBlockFor state places ino 0 block)
    (owns : OwnsPages places ino layout.owners owners) (few : map.len owners ≤ 2 * data_third layout.base.ckpt.geom)
    (fitting : AreFitting (image_limits layout.base.ckpt.geom) (record state { marks = state.marks ++ record { ino = ino; row = row } ∷ [] })) where
  abbrev after : State
  after = (mark_drawn state seat ino row).after

  abbrev now : Progress
  now = marked_at (length state.marks) state.node_writes (Some (next_slot state DrawnMark))

  abbrev layout_now : Layout
  layout_now = with_drawn layout block owners

  abbrev mark : Mark
  mark = record { ino = ino; row = row }

  abbrev between : State
  between = record state { marks = state.marks ++ record { ino = ino; row = row } ∷ [] }

  stood : FsyncStands lists layout state places ino progress
  stood = kept.fsyncs seat ino progress there

  flushed : AreFlushed lists state places ino
  flushed = part_of lists layout state places ino progress InNodes part stood

  regular : row.kind ≡ Regular
  regular =
      let same : Some stood.file.0 ≡ Some row = sym stood.file.1 ∙ of_tree in
      ap (λ (r : Row). r.kind) (sym (the_row stood.file.0 row same)) ∙ stood.file.2

  may_be_marked : MayBeMarked lists state places unwritten ino row
  may_be_marked = record {
    there = of_tree;
    own = kept.proper.good.keyed ino row of_tree;
    regular = regular;
    size = size;
    whole = whole;
    clean = λ page offset direct. clean offset;
    written = λ page at found. kept.tied.pages ino page row of_tree regular ∙ flushed.clean page;
    flushed = flushed.flushed;
  }

  holds : HoldsMark lists layout_now state.base (length layout.log) mark
  holds = live_files_give_marks lists layout state places unwritten ino row block owners kept.packs kept.log kept.live kept.told may_be_marked is_mark owns.own

  disk : KeepsPacks lists layout_now between × KeepsLog lists layout_now between
  disk = marks_may_be_drawn lists layout state block owners mark kept.packs kept.log may is_mark.marked (subst (MayCount layout) (sym is_mark.footer_ino) counting) owns.kept few holds fitting

  still_clean : (file low : ℕ) → set.contains state.dirty_nodes (file, low) ≡ false → set.contains after.dirty_nodes (file, low) ≡ false
  still_clean file low is = is

  tied_now : AreTied layout_now after places unwritten
  tied_now = record {
    pages = kept.tied.pages;
    nodes = kept.tied.nodes;
    direct = kept.tied.direct;
    covered = kept.tied.covered;
    count = ap (λ n. n + 1) kept.tied.count ∙ sym (one_longer layout block owners);
    fates = drawn_fates lists layout state after places unwritten seat ino progress now DrawnMark block owners kept there none may.there refl refl;
    one_slot = drawn_one_slot lists layout state after places unwritten seat ino progress now DrawnMark block owners kept there none may.there refl refl;
    one_file = drawn_one_file lists layout state after places unwritten seat ino progress now DrawnMark block owners kept there none may.there refl refl;
    open_apart = drawn_open_apart lists layout state after places unwritten seat ino progress now DrawnMark block owners kept there none may.there refl refl;
    next_apart = next;
  }

  -- the mark is the last one of the log
  all_marks : marks_within layout_now (state.node_writes + 1) ≡ length state.marks + 1
  all_marks =
      let long : length (chained layout_now) ≤ state.node_writes + 1 = let count = kept.tied.count in omega (arith, count, chain_long layout_now, one_longer layout block owners) in
      let marks = AllZip-long (HoldsMark lists layout state.base) (marked_places (chained layout)) state.marks kept.log.marks in
      ap (λ (chain : List Logged). length (marked_places chain)) (take_all (state.node_writes + 1) (chained layout_now) long)
      ∙ ap (λ (chain : List Logged). length (marked_places chain)) (chain_more layout block owners)
      ∙ ap length (marked_more (chained layout) (record { at = layout.next; block = block }))
      ∙ ap (λ b. length (marked_places (chained layout) ++ cond b (length (chained layout) ∷ []) [])) is_mark.marked
      ∙ length_push (marked_places (chained layout)) (length (chained layout))
      ∙ ap (λ n. n + 1) (sym marks)

  has_mark : HasMarkAt layout_now now
  has_mark = record {
    small = (let count = kept.tied.count in omega (arith, count, one_longer layout block owners));
    counted = omega (arith, all_marks);
    own = refl;
  }

  own_stands : FsyncStands lists layout_now after places ino now
  own_stands = record {
    file = stood.file;
    slot = drawn_slot lists layout state after places unwritten seat ino progress now DrawnMark block owners kept there none may.there refl refl (block_stays state after places ino 0 refl block is);
    part = (drawn_flushed lists layout state after places unwritten seat ino progress now DrawnMark block owners kept there none may.there refl refl refl refl still_clean ino flushed, has_mark);
  }

  pub drawn_mark_stands : IsKept lists layout_now after places unwritten
  drawn_mark_stands =
      let told = marks_tell_no_nodes layout state places block owners kept.told is_mark.marked in
      record {
        packs = packs_stay lists layout_now between after in_memory disk.0;
        log = log_stays lists layout_now between after in_memory disk.1;
        none_pending = kept.none_pending;
        proper = kept.proper;
        live = kept.live;
        told = record { told = told.told };
        tied = tied_now;
        fsyncs = drawn_fsyncs lists layout state after places unwritten seat ino progress now DrawnMark block owners kept there none may.there refl refl refl refl still_clean own_stands;
      }
    where
      in_memory : LeaveTheSame between after
      in_memory = record { base = refl; marks = refl; acknowledged = refl; pending = refl; format = refl; version = refl; next_format = refl }

pub drawn_marks : DrawnMarksKeep
drawn_marks lists layout state places unwritten seat ino progress row block owners kept there part none clean whole of_tree size may counting next is_mark is owns few fitting =
    drawn_mark_stands lists layout state places unwritten seat ino progress row block owners kept there part none clean whole of_tree size may counting next is_mark is owns few fitting
