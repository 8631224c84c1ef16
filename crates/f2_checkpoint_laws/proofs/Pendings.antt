-- The tail of a checkpoint all of which was written and flushed.
use Rattle.std.proofs.Common.{◌≡◌, ◌≢◌, ℕ, ◌≤◌, IsTrue, List, [], All, sym, subst, arith}
use Rattle.std.specs.Prelude.{Some}
use Rattle.std.proofs.lemmas.List.Elements.{All-head}
use Rattle.f2_format.specs.Geometry.{ImageGeometry, NAT_START, is_in_node, is_in_data}
use Rattle.f2_format.specs.Footer.{footer_version}
use Rattle.f2_disk.specs.Contents.{Contents, IsBlock, flushed}
use Rattle.f2_model.specs.State.{State}
use Rattle.f2_image.specs.Images.{Image, block_at}
use Rattle.f2_image.specs.Packs.{Checkpoint, tail_address, recovery_version}
use Rattle.f2_image.specs.Chains.{chain}
use Rattle.f2_image.specs.Meanings.{MeansAt}
use Rattle.f2_image_laws.specs.Chained.{HoldsNone}
use Rattle.f2_image_laws.specs.Rolled.{image_limits}
use Rattle.f2_room_laws.specs.ProperTrees.{IsProperTree}
use Rattle.f2_stored.specs.Places.{Places}
use Rattle.f2_stored.specs.Trees.{Unwritten, IsLiveAt, IsTreeAt}
use Rattle.f2_stored.specs.Layout.{Layout}
use Rattle.f2_stored.specs.Bases.{HoldsPending}
use Rattle.f2_stored.specs.Stored.{KeepsPacks, IsStored, running, mounting}
use Rattle.f2_stored.specs.Changes.{Wrote}
use Rattle.f2_place_laws.specs.Living.{IsWrittenOut, HasWhatReadsGive}
use Rattle.f2_place_laws.proofs.LiveReads.{stands_written}
use Rattle.f2_place_laws.proofs.Stood.{IsStood}
use Rattle.f2_place_laws.proofs.Base.{is_base}
use Rattle.f2_place_laws.proofs.NoLog.{no_marks}
use Rattle.f2_place_laws.proofs.Sound.{sound}
use Rattle.f2_change_laws.proofs.Addresses.{node_range, data_range, tail_low, tells_no_tail}
use Rattle.f2_change_laws.proofs.Flushes.{flushes_keep}
use Rattle.f2_change_laws.proofs.Tails.{tails_may_be_written}
use Rattle.f2_change_laws.proofs.Zones.{start_in_zone, depends_high}
use Rattle.f2_checkpoint_laws.specs.Pending.{with_tail, IsReadyForTail, WrittenTreesArePending, TailsMakePending}
use Rattle.f2_checkpoint_laws.specs.Writing.{IsCheckpointing}
use Rattle.f2_checkpoint_laws.proofs.NoLogs.{none_later, no_chain}
use Rattle.f2_checkpoint_laws.proofs.Tailed.{off_tail, at_tail, as_long, flushed_within, flushed_one}

-- what a disk keeps in either case
pub packs_of : (lists : Contents) (layout : Layout) (state : State) → IsStored lists layout state → KeepsPacks lists layout state
packs_of lists layout state (running packs log) = packs
packs_of lists layout state (mounting packs image) = packs

module _ (lists : Contents) (layout : Layout) (state : State) (places : Places) (unwritten : Unwritten) (ckpt : Checkpoint) (tail : List ℕ) where
  abbrev pub the_image : Image
  the_image = with_tail lists (tail_address ckpt.side) tail

  module _ (is : IsCheckpointing lists layout state places unwritten) (out : IsWrittenOut places unwritten) (ready : IsReadyForTail lists layout state places ckpt tail) where
    high : (k : ℕ) → NAT_START ≤ k → k ≢ tail_address ckpt.side
    high k above e = omega (arith, above, e, tail_low ckpt.side)

    pub node_off : (k : ℕ) → IsTrue (is_in_node layout.base.ckpt.geom k) → k ≢ tail_address ckpt.side
    node_off k inside = let range = node_range layout.base.ckpt.geom k inside in high k (omega (arith, range.0))

    pub data_off : (k : ℕ) → IsTrue (is_in_data layout.base.ckpt.geom k) → k ≢ tail_address ckpt.side
    data_off k inside = let range = data_range layout.base.ckpt.geom k inside in high k (omega (arith, range))

    -- nothing of the live tree stands where the tail does
    gives : HasWhatReadsGive lists the_image places
    gives = record {
      nodes = λ ino offset node there. off_tail lists (tail_address ckpt.side) tail node.at (node_off node.at (is.live.nodes ino offset node there (out.nodes ino offset node there)).in_zone);
      pages = λ ino page at there. off_tail lists (tail_address ckpt.side) tail at (data_off at (is.live.pages ino page at there (out.pages ino page at there)).in_zone);
    }

    pub stands : IsTreeAt the_image ckpt state.live places
    stands =
        let live = subst (λ (e : ImageGeometry). IsLiveAt lists e state.live places unwritten) (sym ready.geom) is.live in
        stands_written lists state.live places unwritten the_image ckpt live out gives ready.table

    -- the start of its node log carries another version
    start_inside : IsTrue (is_in_node ckpt.geom ckpt.head.log_start)
    start_inside = start_in_zone the_image ckpt ready.checkpoint

    start_none : HoldsNone (flushed lists) (recovery_version ckpt) ckpt.head.log_start
    start_none =
        none_later (flushed lists) layout.base.ckpt ckpt (packs_of (flushed lists) layout state (flushes_keep lists layout state is.stored)).no_later ready.geom ready.version ready.early
        ckpt.head.log_start start_inside

    start_off : ckpt.head.log_start ≢ tail_address ckpt.side
    start_off = node_off ckpt.head.log_start (subst (λ (e : ImageGeometry). IsTrue (is_in_node e ckpt.head.log_start)) ready.geom start_inside)

    no_log : chain the_image ckpt ≡ []
    no_log =
        no_chain the_image ckpt
        (All-head (λ content. footer_version content ≢ recovery_version ckpt) (block_at the_image ckpt.head.log_start) []
        (subst (All (λ content. footer_version content ≢ recovery_version ckpt)) (flushed_one lists (tail_address ckpt.side) tail ckpt.head.log_start start_off) start_none))

    means : MeansAt the_image ckpt state.live []
    means =
        let proper = subst (λ (e : ImageGeometry). IsProperTree (image_limits e) state.live) (sym ready.geom) is.proper in
        let stood : IsStood the_image ckpt state.live places = record { none = no_log; proper = proper; stands = stands } in
        record {
          checkpoint = ready.checkpoint;
          sound = sound the_image ckpt state.live places stood;
          is_base = is_base the_image ckpt state.live places stood;
          are_marks = no_marks the_image ckpt no_log state.live;
        }

    pub is_pending : HoldsPending (flushed lists) layout.base (record { image = the_image; ckpt = ckpt }) state.live
    is_pending = record {
      holds = record {
        size = as_long lists (tail_address ckpt.side) tail;
        means = means;
        tells = λ at told. flushed_one lists (tail_address ckpt.side) tail at (tells_no_tail ckpt ckpt.side at told);
        read = λ at depends. flushed_one lists (tail_address ckpt.side) tail at (high at (depends_high the_image ckpt means.sound at depends));
      };
      no_log = no_log;
      starts = start_none;
      geom = ready.geom;
      side = ready.side;
      version = ready.version;
    }

    pub has_tail : block_at the_image (tail_address ckpt.side) ≡ tail
    has_tail = at_tail lists (tail_address ckpt.side) tail ready.within

    pub may_remain : (new : Contents) → Wrote (flushed lists) (tail_address ckpt.side) tail new
        → IsStored new (record layout { pending = Some (record { image = the_image; ckpt = ckpt }) }) (record state { pending = Some state.live })
    may_remain new wrote =
        tails_may_be_written (flushed lists) new layout state (record { image = the_image; ckpt = ckpt }) state.live (flushes_keep lists layout state is.stored) is.none_pending is_pending ready.format
        (flushed_within lists (tail_address ckpt.side) ready.within) (subst IsBlock (sym has_tail) ready.block)
        (subst (λ (content : List ℕ). Wrote (flushed lists) (tail_address ckpt.side) content new) (sym has_tail) wrote)

pub written_trees_are_pending : WrittenTreesArePending
written_trees_are_pending lists layout state places unwritten ckpt tail is out ready = is_pending lists layout state places unwritten ckpt tail is out ready

pub tails_make_pending : TailsMakePending
tails_make_pending lists new layout state places unwritten ckpt tail is out ready wrote = may_remain lists layout state places unwritten ckpt tail is out ready new wrote
