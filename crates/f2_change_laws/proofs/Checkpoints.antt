-- The last flush of a checkpoint makes the pending tree the base.
use Rattle.std.proofs.Common.{◌≡◌, ◌≢◌, inl, ℕ, zero, suc, ◌+◌, ◌%◌, ◌^◌, ◌<◌, ◌≤◌, IsTrue, List, [], ◌∷◌, take, All, Option, Some, None, refl, sym, ap, ◌∙◌, subst, arith}
use Rattle.std.specs.Prelude.{slice_index_or}
use Rattle.std.specs.List.{AllZip, Contains}
use Rattle.std.proofs.lemmas.List.Elements.{All-nil, All-weaker}
use Rattle.f2_format.specs.Geometry.{ImageGeometry, is_in_node}
use Rattle.f2_format.specs.Footer.{footer_version}
use Rattle.f2_format.specs.Pack.{head_of}
use Rattle.f2_disk.specs.Contents.{Contents, last_of, flushed}
use Rattle.f2_model.specs.Tree.{Rows}
use Rattle.f2_model.specs.State.{State, Mark, rolled}
use Rattle.f2_image.specs.Images.{block_at}
use Rattle.f2_image.specs.Packs.{Side, A, B, head_address, tail_address, other_side, format_of, recovery_version}
use Rattle.f2_image_laws.specs.Chained.{contents_at, HoldsNone}
use Rattle.f2_room_laws.specs.ProperTrees.{IsProperTree}
use Rattle.f2_stored.specs.Layout.{Reference, Nids, Owners, Layout}
use Rattle.f2_stored.specs.Bases.{HasOne, HoldsImage, tail_of, HasPacks, IsBehind, IsPendingTail, HasNoLater, HoldsPending, HoldsSome, HasFormat}
use Rattle.f2_stored.specs.Bases as bases
use Rattle.f2_stored.specs.Logs.{IsLogAddress}
use Rattle.f2_stored.specs.Numbers.{HasNids, HasOwners}
use Rattle.f2_image_laws.specs.Rolled.{image_limits}
use Rattle.f2_room_laws.specs.Fitting.{FitsBase}
use Rattle.f2_stored.specs.Marks.{HoldsMark}
use Rattle.f2_stored.specs.Stored.{KeepsPacks, KeepsLog, IsStored, running, mounting}
use Rattle.f2_change_laws.specs.Checkpointing.{based_on, IsDone, FlushedTailsCount}
use Rattle.f2_change_laws.proofs.Addresses.{other_twice, log_version_low}
use Rattle.f2_change_laws.proofs.Fewer.{fewer_all}
use Rattle.f2_change_laws.proofs.Crashed.{flushed_at, only_one}
use Rattle.f2_change_laws.proofs.Flushes.{flushed_fewer, flushed_size, flushed_whole}
use Rattle.f2_change_laws.proofs.KeptImages.{pending_kept}

-- what a disk keeps in either case
all_packs : (lists : Contents) (layout : Layout) (state : State) → IsStored lists layout state → KeepsPacks lists layout state
all_packs lists layout state (running packs log) = packs
all_packs lists layout state (mounting packs image) = packs

base_head : (lists : Contents) (layout : Layout) (state : State) → IsStored lists layout state → HasOne lists layout.base.image (head_address layout.base.ckpt.side)
base_head lists layout state (running packs log) = log.base.tells (head_address layout.base.ckpt.side) bases.head
base_head lists layout state (mounting packs image) = image.base.tells (head_address layout.base.ckpt.side) bases.head

-- the head of the base is of its version, and so is its tail
base_version : (lists : Contents) (layout : Layout) (state : State) → IsStored lists layout state → (head_of (block_at layout.base.image (head_address layout.base.ckpt.side))).version ≡ layout.base.ckpt.head.version
base_version lists layout state (running packs log) = ap (λ fields. fields.version) (sym log.base.means.checkpoint.head)
base_version lists layout state (mounting packs image) = ap (λ fields. fields.version) (sym image.base.means.checkpoint.head)

base_tail : (lists : Contents) (layout : Layout) (state : State) → IsStored lists layout state → tail_of layout.base ≡ block_at layout.base.image (head_address layout.base.ckpt.side)
base_tail lists layout state (running packs log) = log.base.means.checkpoint.newest.valid.same
base_tail lists layout state (mounting packs image) = image.base.means.checkpoint.newest.valid.same

pending_is : (lists : Contents) (held one : Reference) (pending : Option Reference) (tree : Option Rows) (rows : Rows) → pending ≡ Some one → tree ≡ Some rows → HoldsSome lists held pending tree → HoldsPending lists held one rows
pending_is lists held one pending tree rows there is holds =
    subst (λ (t : Option Rows). HoldsSome lists held (Some one) t) is (subst (λ (p : Option Reference). HoldsSome lists held p tree) there holds)

none_pending : (lists : Contents) (held : Reference) (tree : Option Rows) → tree ≡ None → HoldsSome lists held None tree
none_pending lists held tree none = subst (λ (t : Option Rows). HoldsSome lists held None t) (sym none) tt

earlier : (side : Side) (version newest : ℕ) → version < newest → IsBehind side version newest
earlier A version newest less = omega (arith, less)
earlier B version newest less = less

module _ (lists : Contents) (layout : Layout) (state after : State) (pending : Reference) (tree : Rows) (nids : Nids) (owners : Owners)
    (stored : IsStored lists layout state) (there : layout.pending ≡ Some pending) (is : state.pending ≡ Some tree)
    (last : last_of (contents_at lists (tail_address pending.ckpt.side)) ≡ tail_of pending) (done : IsDone state after tree) (early : pending.ckpt.head.version < 2 ^ 32) where
  packs : KeepsPacks lists layout state
  packs = all_packs lists layout state stored

  holds : HoldsPending lists layout.base pending tree
  holds = pending_is lists layout.base pending layout.pending state.pending tree there is packs.pending

  kept : HoldsPending (flushed lists) layout.base pending tree
  kept = pending_kept lists (flushed lists) (flushed_size lists packs.whole) layout.base pending tree (λ k tells. flushed_fewer lists packs.whole k) (λ k depends. flushed_fewer lists packs.whole k)
      (flushed_fewer lists packs.whole pending.ckpt.head.log_start) holds

  back : other_side pending.ckpt.side ≡ layout.base.ckpt.side
  back = ap other_side holds.side ∙ other_twice layout.base.ckpt.side

  -- the base's pack is the other one now
  own_head : contents_at (flushed lists) (head_address (other_side pending.ckpt.side)) ≡ block_at layout.base.image (head_address layout.base.ckpt.side) ∷ []
  own_head = ap (λ side. contents_at (flushed lists) (head_address side)) back ∙ (flushed_fewer lists packs.whole (head_address layout.base.ckpt.side)).one _ (base_head lists layout state stored)

  own_tail : contents_at (flushed lists) (tail_address (other_side pending.ckpt.side)) ≡ tail_of layout.base ∷ []
  own_tail = ap (λ side. contents_at (flushed lists) (tail_address side)) back ∙ (flushed_fewer lists packs.whole (tail_address layout.base.ckpt.side)).one _ packs.packs.own

  tail_version : (head_of (tail_of layout.base)).version ≡ layout.base.ckpt.head.version
  tail_version = ap (λ (b : List ℕ). (head_of b).version) (base_tail lists layout state stored) ∙ base_version lists layout state stored

  counted : HasPacks (flushed lists) pending None
  counted = record {
    own = flushed_at lists (tail_address pending.ckpt.side) ∙ ap (λ (tail : List ℕ). tail ∷ []) last;
    not_later = λ k d small. inl (older k d small);
    behind = λ head tail head_there tail_there pack. inl (behind head head_there);
  }
    where
      older : All (λ tail. (head_of tail).version ≤ pending.ckpt.head.version) (contents_at (flushed lists) (tail_address (other_side pending.ckpt.side)))
      older = subst (All (λ tail. (head_of tail).version ≤ pending.ckpt.head.version)) (sym own_tail) (λ k d small. one k d small)
        where
          one : All (λ tail. (head_of tail).version ≤ pending.ckpt.head.version) (tail_of layout.base ∷ [])
          one k d small = let only : k ≡ 0 = omega (arith, small) in
              subst (λ i. (head_of (slice_index_or (tail_of layout.base ∷ []) i d)).version ≤ pending.ckpt.head.version) (sym only) (omega (arith, tail_version, holds.version))

      behind : (head : List ℕ) → Contains (contents_at (flushed lists) (head_address (other_side pending.ckpt.side))) head → IsBehind pending.ckpt.side (head_of head).version pending.ckpt.head.version
      behind head head_there =
          let same : head ≡ block_at layout.base.image (head_address layout.base.ckpt.side) = only_one _ head (subst (λ (l : List (List ℕ)). Contains l head) own_head head_there) in
          earlier pending.ckpt.side (head_of head).version pending.ckpt.head.version
          (omega (arith, ap (λ (b : List ℕ). (head_of b).version) same, base_version lists layout state stored, holds.version))

  no_later : (at : ℕ) → IsTrue (is_in_node pending.ckpt.geom at) → All (λ content. footer_version content % 2 ^ 32 ≤ layout.base.ckpt.head.version) (contents_at (flushed lists) at)
  no_later at inside =
      fewer_all lists (flushed lists) at (λ content. footer_version content % 2 ^ 32 ≤ layout.base.ckpt.head.version) (flushed_fewer lists packs.whole at)
      (packs.no_later at (subst (λ (e : ImageGeometry). IsTrue (is_in_node e at)) holds.geom inside))

  done_packs : KeepsPacks (flushed lists) (based_on pending nids owners) after
  done_packs = record {
    whole = flushed_whole lists packs.whole;
    packs = counted;
    no_later = λ at inside. All-weaker (λ content. footer_version content % 2 ^ 32 ≤ layout.base.ckpt.head.version) (λ content. footer_version content % 2 ^ 32 ≤ pending.ckpt.head.version)
        (λ content low. omega (arith, low, holds.version)) (contents_at (flushed lists) at) (no_later at inside);
    pending = none_pending (flushed lists) pending after.pending done.pending;
    format = format ∙ sym done.format;
    next_format = tt;
    version = holds.version ∙ ap (λ v. v + 1) packs.version ∙ sym done.version;
    early = early;
  }
    where
      format : format_of pending.ckpt ≡ state.next_format
      format = subst (λ (p : Option Reference). HasFormat p state.next_format) there packs.next_format

  -- no block carries the new version yet
  fresh : (at : ℕ) → IsTrue (is_in_node pending.ckpt.geom at) → HoldsNone (flushed lists) (recovery_version pending.ckpt) at
  fresh at inside =
      All-weaker (λ content. footer_version content % 2 ^ 32 ≤ layout.base.ckpt.head.version) (λ content. footer_version content ≢ recovery_version pending.ckpt)
      (λ content low same. omega (arith, low, ap (λ v. v % 2 ^ 32) same, log_version_low pending.ckpt.head early, holds.version)) (contents_at (flushed lists) at) (no_later at inside)

  done_log : IsLogAddress (based_on pending nids owners) pending.ckpt.head.log_start → HasNids (based_on pending nids owners) → HasOwners (based_on pending nids owners) → IsProperTree (image_limits pending.ckpt.geom) tree
      → KeepsLog (flushed lists) (based_on pending nids owners) after
  done_log start numbers owned proper = record {
    base = subst (λ (rows : Rows). HoldsImage (flushed lists) pending rows []) (sym done.base) kept.holds;
    no_log = kept.no_log;
    log = record {
      linked = record { follow = refl; held = tt; free = λ some. kept.starts };
      own = tt;
      held = tt;
      fresh = λ at inside no_place. fresh at inside;
      within = omega arith;
      settled = tt;
      addresses = tt;
      differ = (tt, tt);
      next = λ some. start;
      short = omega arith;
    };
    nids = numbers;
    owners = owned;
    marks = subst (λ (marks : List Mark). AllZip (HoldsMark (flushed lists) (based_on pending nids owners) after.base) [] marks) (sym done.marks) tt;
    acknowledged = omega (arith, done.acknowledged);
    fitting = record {
      base = subst (All (FitsBase (image_limits pending.ckpt.geom) after.base)) (sym done.marks) (All-nil (FitsBase (image_limits pending.ckpt.geom) after.base));
      names = λ one other found. absurd (no_member one (subst (λ (marks : List Mark). Contains marks one) done.marks found));
      trees = λ place least most. subst (IsProperTree (image_limits pending.ckpt.geom)) (sym (same_tree place)) proper;
    };
  }
    where
      no_member : (one : Mark) → ¬ (Contains [] one)
      no_member one (k, small, same) = omega (arith, small)

      take_none : (place : ℕ) → take {A = Mark} place [] ≡ []
      take_none zero = refl
      take_none (suc place) = refl

      same_tree : (place : ℕ) → rolled after.base (take place after.marks) ≡ tree
      same_tree place = ap (λ (marks : List Mark). rolled after.base (take place marks)) done.marks ∙ ap (rolled after.base) (take_none place) ∙ done.base

pub flushed_tails_count : FlushedTailsCount
flushed_tails_count lists layout state after pending tree nids owners stored there is last done early start numbers owned proper = (
  done_packs lists layout state after pending tree nids owners stored there is last done early,
  done_log lists layout state after pending tree nids owners stored there is last done early start numbers owned proper,
)
