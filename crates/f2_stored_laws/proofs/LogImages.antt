-- An image of a disk with a node log: its log is a first part of the positions, and its base reads like the kept one.
use Rattle.std.proofs.Common.{◌≡◌, ℕ, ◌+◌, ◌<◌, ◌≤◌, IsTrue, List, length, take, Contains, slice_index_or, refl, sym, ap, ◌∙◌, subst, arith}
use Rattle.std.specs.List.{AllZip}
use Rattle.std.proofs.lemmas.List.{get_or-take, length-take-le, length-map}
use Rattle.f2_format.specs.Geometry.{node_third}
use Rattle.f2_format.specs.Footer.{footer_ino}
use Rattle.f2_disk.specs.Contents.{Contents, IsImage}
use Rattle.f2_model.specs.State.{State, Mark}
use Rattle.f2_image.specs.Images.{Image}
use Rattle.f2_image.specs.Chains.{chain, no_block, block_in, is_marked, marked_places, marked_address}
use Rattle.f2_image.specs.Reached.{IsMarkedAt, IsTaken}
use Rattle.f2_image.specs.Reached as reached
use Rattle.f2_image_laws.specs.Alike.{ReadAlike}
use Rattle.f2_image_laws.proofs.Chain.{chain_is_first_part}
use Rattle.f2_image_laws.proofs.ReadingBases.{read_alike}
use Rattle.f2_stored.specs.Layout.{Layout, chained, log_version}
use Rattle.f2_stored.specs.Numbers.{CountsAt}
use Rattle.f2_stored.specs.Marks.{HoldsMark, address_at, marks_within}
use Rattle.f2_stored.specs.Stored.{KeepsLog}
use Rattle.f2_stored_laws.proofs.Images.{one_content}
use Rattle.f2_stored_laws.proofs.Lists.{zip_front, zip_member}
use Rattle.f2_stored_laws.proofs.LogParts.{address_of_part, first_marked, fewer_marked, place_marked}

-- an image of a disk with a node log
pub record HasPart (lists : Contents) (layout : Layout) (state : State) (image : Image) : Type 0 where
  pub keeps : KeepsLog lists layout state
  pub is : IsImage lists image
  pub count : ℕ
  pub within : count ≤ length (chained layout)
  pub settled : layout.settled ≤ count
  pub chain : chain image layout.base.ckpt ≡ take count (chained layout)
  pub alike : ReadAlike layout.base.image image layout.base.ckpt

pub log_length : (layout : Layout) → length (chained layout) ≡ length layout.log
log_length layout = length-map layout.log (λ position. position.logged)

pub has_part : (lists : Contents) (layout : Layout) (state : State) (image : Image) → KeepsLog lists layout state → IsImage lists image → HasPart lists layout state image
unfolding chain
has_part lists layout state image keeps is =
    let log = keeps.log in
    let long = log_length layout in
    let short = log.short in
    let few = log.within in
    let part = chain_is_first_part lists image is (log_version layout) layout.base.ckpt.head.log_start layout.next (node_third layout.base.ckpt.geom + 1) (chained layout) log.linked (omega (arith, long, short)) in
    record {
      keeps = keeps;
      is = is;
      count = part.count;
      within = part.within;
      settled = part.alone layout.settled (omega (arith, few, long)) log.settled;
      chain = part.is;
      alike = read_alike layout.base.image image layout.base.ckpt keeps.base.means.sound (λ at needs. one_content lists image is layout.base.image at (keeps.base.read at needs));
    }

module _ (lists : Contents) (layout : Layout) (state : State) (image : Image) (part : HasPart lists layout state image) where
  pub chain_length : length (chain image layout.base.ckpt) ≡ part.count
  chain_length = ap length part.chain ∙ length-take-le part.count (chained layout) part.within

  -- a place of the chain is one of the log, with the same block
  pub in_part : (place : ℕ) → place < length (chain image layout.base.ckpt) → place < part.count
  in_part place small = subst (λ n. place < n) chain_length small

  pub in_log : (place : ℕ) → place < part.count → place < length (chained layout)
  in_log place small = let within = part.within in omega (arith, small, within)

  pub logged_same : (place : ℕ) → place < part.count → slice_index_or (chain image layout.base.ckpt) place no_block ≡ slice_index_or (chained layout) place no_block
  logged_same place small = ap (λ log. slice_index_or log place no_block) part.chain ∙ get_or-take part.count (chained layout) place no_block small

  pub block_same : (place : ℕ) → place < part.count → block_in (chain image layout.base.ckpt) place ≡ block_in (chained layout) place
  block_same place small = ap (λ one. one.block) (logged_same place small)

  -- a block that recovery takes is of the log
  pub taken_in : (place : ℕ) (block : List ℕ) → IsTaken image layout.base.ckpt place block → (place < part.count) × (block ≡ block_in (chained layout) place)
  taken_in place block (reached.marked is) = (in_part place is.within, is.stands ∙ block_same place (in_part place is.within))
  taken_in place block (reached.direct is direct) = let below = in_part is.mark is.marked.within in let later = is.later in let small : place < part.count = omega (arith, below, later) in (small, is.stands ∙ block_same place small)

  -- a block that recovery takes counts in the log
  pub counts_in : (place : ℕ) (block : List ℕ) → IsTaken image layout.base.ckpt place block → CountsAt (chained layout) place
  counts_in place block (reached.marked is) =
      let small = in_part place is.within in
      record {
        mark = place;
        later = omega arith;
        small = in_log place small;
        marked = subst (λ b. IsTrue (is_marked b)) (is.stands ∙ block_same place small) is.marked;
        same = refl;
      }
  counts_in place block (reached.direct is direct) =
      let small = in_part is.mark is.marked.within in
      let later = is.later in
      record {
        mark = is.mark;
        later = is.later;
        small = in_log is.mark small;
        marked = subst (λ b. IsTrue (is_marked b)) (is.marked.stands ∙ block_same is.mark small) is.marked.marked;
        same = ap footer_ino (sym (is.marked.stands ∙ block_same is.mark small)) ∙ is.same ∙ ap footer_ino (is.stands ∙ block_same place (omega (arith, later, small)));
      }

  -- the address of a page of a marked block
  pub address_same : (place page : ℕ) → place < part.count → marked_address image layout.base.ckpt (chain image layout.base.ckpt) place page ≡ address_at layout place page
  address_same place page small =
      ap (λ log. marked_address image layout.base.ckpt log place page) part.chain ∙ address_of_part (chained layout) part.count image layout.base.ckpt place page small
      ∙ part.alike.marked_addresses (chained layout) place page

  -- the marks of the image are the first ones
  abbrev pub kept : ℕ
  kept = marks_within layout part.count

  pub kept_marks : AllZip (HoldsMark lists layout state.base) (marked_places (take part.count (chained layout))) (take kept state.marks) × (kept ≤ length state.marks)
  kept_marks =
      let first = first_marked (chained layout) part.count part.within in
      zip_front (HoldsMark lists layout state.base) (marked_places (take part.count (chained layout))) first.0 state.marks (subst (λ places. AllZip (HoldsMark lists layout state.base) places state.marks) first.1 part.keeps.marks)

  pub acknowledged_kept : state.acknowledged ≤ kept
  acknowledged_kept =
      let least = part.keeps.acknowledged in
      let more = fewer_marked (chained layout) layout.settled part.count part.settled part.within in
      omega (arith, least, more)

  -- the mark of a marked block of the image
  pub record MarkAt (place : ℕ) (block : List ℕ) : Type 0 where
    pub small : place < part.count
    pub stands : block ≡ block_in (chained layout) place
    pub mark : Mark
    pub among : Contains state.marks mark
    pub holds : HoldsMark lists layout state.base place mark

  pub mark_at : (place : ℕ) (block : List ℕ) → IsMarkedAt image layout.base.ckpt place block → MarkAt place block
  mark_at place block is =
      let small = in_part place is.within in
      let stands = is.stands ∙ block_same place small in
      let found = zip_member (HoldsMark lists layout state.base) (marked_places (chained layout)) state.marks place part.keeps.marks (place_marked (chained layout) place (in_log place small) (subst (λ b. IsTrue (is_marked b)) stands is.marked)) in
      record { small = small; stands = stands; mark = found.0; among = found.1; holds = found.2 }
