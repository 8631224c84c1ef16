-- All that a running volume keeps, once the mark of a file was drawn.
use Rattle.std.proofs.Common.{◌≡◌, ◌≢◌, ◌⊎◌, inl, inr, ℕ, ◌==◌, IsTrue, List, length, refl, sym, ap, ◌∙◌}
use Rattle.std.specs.Prelude.{Some}
use Rattle.std.specs.FinMap as map
use Rattle.std.proofs.lemmas.Bool.{and_parts}
use Rattle.f2_format.specs.Footer.{footer_offset, has_fsync_mark}
use Rattle.f2_disk.specs.Contents.{Contents}
use Rattle.f2_model.specs.Tree.{ROOT}
use Rattle.f2_model.specs.State.{State, DrawnMark, marked_at}
use Rattle.f2_model.specs.Goes.{next_slot, mark_drawn}
use Rattle.f2_model.specs.declared.rows.Row.{Row}
use Rattle.f2_model.specs.declared.rows.Kind.TheVariants.{Regular, Directory}
use Rattle.f2_image.specs.Chains.{is_marked}
use Rattle.f2_stored.specs.Places.{Places}
use Rattle.f2_stored.specs.Trees.{Unwritten}
use Rattle.f2_stored.specs.Layout.{Layout}
use Rattle.f2_stored.specs.Whole.{IsKeptWhole}
use Rattle.f2_event_laws.specs.WholeMarks.{IsOwnPage, DrawnMarksKeepWhole}
use Rattle.f2_event_laws.proofs.Ahead.{next_elsewhere, may_be_drawn}
use Rattle.f2_event_laws.proofs.DrawnMarks.{drawn_marks}
use Rattle.f2_event_laws.proofs.Flights.{unshrunk_still}
use Rattle.f2_event_laws.proofs.WholeDrawn.{drawn_nids, drawn_logged, drawn_counts}

regular_or_directory : ¬ (Regular ≡ Directory)
regular_or_directory is = cc

the_row : (a b : Row) → Some a ≡ Some b → a ≡ b
the_row a b is = cc

-- a file isn't the root
not_root : (lists : Contents) (layout : Layout) (state : State) (places : Places) (unwritten : Unwritten) → IsKeptWhole lists layout state places unwritten → (ino : ℕ) (file : Row) → map.get state.live ino ≡ Some file → file.kind ≡ Regular → ¬ (ino ≡ ROOT)
not_root lists layout state places unwritten whole ino file there regular same =
    let root = whole.kept.proper.good.root in
    let is : file ≡ root.0 = the_row file root.0 (sym there ∙ ap (map.get state.live) same ∙ root.1) in
    regular_or_directory (sym regular ∙ ap (λ (r : Row). r.kind) is ∙ root.2.kind)

marked_has : (block : List ℕ) → IsTrue (is_marked block) → IsTrue (has_fsync_mark block)
marked_has block marked = (and_parts (footer_offset block == 0) (has_fsync_mark block) marked).1

pub drawn_marks_whole : DrawnMarksKeepWhole
drawn_marks_whole lists layout state places unwritten seat ino progress row block owners whole there part none clean of_tree may is_mark is joins few fitting =
    let file = (whole.kept.fsyncs seat ino progress there).file in
    let drawn =
    may_be_drawn lists layout state places unwritten block whole may ino 0 is (λ root. not_root lists layout state places unwritten whole ino file.0 file.1 file.2 root.0)
    (inl (refl, marked_has block is_mark.marked)) in
    record {
      kept = drawn_marks lists layout state places unwritten seat ino progress row block owners whole.kept there part none clean (whole.unshrunk seat ino progress there) of_tree (whole.kept.proper.good.pages ino row of_tree).size drawn (whole.counts ino row of_tree)
          (next_elsewhere lists layout state places unwritten block whole may) is_mark is joins.owns few fitting;
      dirty = whole.dirty;
      nodes = whole.nodes;
      pages = whole.pages;
      nids = drawn_nids lists layout state places unwritten block owners whole may drawn ino 0 is;
      owners = λ file page at owner found some owned. owners_now file page at owner found some (joins.only at owner owned);
      unshrunk = unshrunk_still state (mark_drawn state seat ino row).after seat ino progress (marked_at (length state.marks) state.node_writes (Some (next_slot state DrawnMark))) there refl whole.unshrunk;
      logged = drawn_logged lists layout state places unwritten block owners whole may drawn ino 0 is;
      counts = λ other its found. drawn_counts lists layout state places unwritten block owners whole may drawn ino 0 is other (whole.counts other its found);
    }
  where
    -- no two pages of the live tree stand at one address
    owners_now : (file page at : ℕ) (owner : ℕ × ℕ) → map.get places.pages (file, page) ≡ Some at → at ≢ 0 → (map.get layout.owners at ≡ Some owner) ⊎ IsOwnPage places ino at owner → owner ≡ (file, page)
    owners_now file page at owner found some (inl old) = whole.owners file page at owner found some old
    owners_now file page at owner found some (inr new) = new.is ∙ whole.kept.live.laid.pages_apart (ino, new.page) (file, page) at new.there found some
