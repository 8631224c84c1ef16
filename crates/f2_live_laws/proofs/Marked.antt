-- The mark of a file of the live tree, in the block that is drawn next.
use Rattle.std.proofs.Common.{◌≡◌, ◌≢◌, ℕ, ◌+◌, ◌<◌, ◌≤◌, false, cond, IsTrue, List, [], ◌∷◌, ◌++◌, length, slice_index_or, inl, inr, refl, sym, ap, ◌∙◌, subst, arith}
use Rattle.std.specs.Prelude.{Option, Some}
use Rattle.std.specs.FinMap as map
use Rattle.std.specs.FinSet as set
use Rattle.std.proofs.lemmas.List.{length_push}
use Rattle.std.proofs.lemmas.Bool.{cases_lt, lt-ltb, le-ltb}
use Rattle.std.proofs.lemmas.Bool.Decides.{nat_tests}
use Rattle.f2_format.specs.Offsets.{inode_pages, page_limit, nth_direct, direct_of, direct_number, direct_slot}
use Rattle.f2_format.specs.Geometry.{is_in_data}
use Rattle.f2_format.specs.Footer.{footer_ino, footer_offset, has_dentry_mark}
use Rattle.f2_format.specs.Inode.{inode_of, NAME_BYTES}
use Rattle.f2_model.specs.State.{State}
use Rattle.f2_model.specs.declared.rows.Row.{Row}
use Rattle.f2_model.specs.declared.rows.Kind.TheVariants.{Regular}
use Rattle.f2_image.specs.Bases.{inode_kind}
use Rattle.f2_image.specs.Nodes.{node, word_of, address_in}
use Rattle.f2_image.specs.Chains.{block_in, last_before, or_below, base_direct, logged_direct, IsNamed}
use Rattle.f2_stored.specs.Layout.{Open, Owners, Layout, chained}
use Rattle.f2_stored.specs.Places.{Places, page_at}
use Rattle.f2_stored.specs.Ties.{LogTellsLive}
use Rattle.f2_stored.specs.Marks.{HasPage, address_at}
use Rattle.f2_stored.specs.Changes.{with_drawn}
use Rattle.f2_place_laws.proofs.Homes.{page_told}
use Rattle.f2_live_laws.specs.Marking.{IsMarkOf, LiveFilesGiveMarks}
use Rattle.f2_live_laws.proofs.FilePages.{page_within, page_held, place_in_zone}
use Rattle.f2_live_laws.proofs.LongerLogs.{no_inode, mark_is_inode, other_offset, newest, chain_more, as_long, drawn_block}
use Rattle.f2_live_laws.proofs.Told.{told_still}

-- a number that isn't past another is at most that one
at_most : (most n : ℕ) → ¬ (most < n) → n ≤ most
at_most most n not_past = elim (cases_lt most n) [ inl past ↦ absurd (not_past past) | inr less ↦ less ]

-- a page that the inode has no address for has a direct node
has_direct : (page : ℕ) → inode_pages ≤ page → page < page_limit → direct_of page ≡ Some (nth_direct (direct_number page))
unfolding direct_of
has_direct page past within = grind (arith, nat_tests)

-- the address of a page in a file's inode and direct node
in_inode : (inode : List ℕ) (direct : Option (List ℕ)) (page : ℕ) → page < inode_pages → address_in inode direct page ≡ slice_index_or (inode_of inode).addresses page 0
in_inode inode direct page low = ap (λ b. cond b (slice_index_or (inode_of inode).addresses page 0) (word_of direct (direct_slot page))) (lt-ltb page inode_pages low)

in_direct : (inode : List ℕ) (direct : Option (List ℕ)) (page : ℕ) → inode_pages ≤ page → address_in inode direct page ≡ word_of direct (direct_slot page)
in_direct inode direct page high = ap (λ b. cond b (slice_index_or (inode_of inode).addresses page 0) (word_of direct (direct_slot page))) (le-ltb page inode_pages high)

module _ (layout : Layout) (block : List ℕ) (owners : Owners) where
  abbrev drawn : Layout
  drawn = with_drawn layout block owners

  -- the block at the new position
  pub drawn_there : block_in (chained (with_drawn layout block owners)) (length layout.log) ≡ block
  drawn_there =
      ap (λ log. block_in log (length layout.log)) (chain_more layout block owners)
      ∙ ap (λ place. block_in (chained layout ++ drawn_block layout block owners ∷ []) place) (sym (as_long layout block owners))
      ∙ newest (chained layout) (drawn_block layout block owners)

  -- the direct node of a page by an ino and the offset of the node
  abbrev direct_by : ℕ → ℕ → Option ℕ → Option (List ℕ)
  direct_by page ino offset = or_below (logged_direct (chained drawn) (length layout.log) ino offset) (base_direct layout.base.image layout.base.ckpt (node layout.base.image layout.base.ckpt ino) page)

  address_by_block : (page : ℕ) → address_at drawn (length layout.log) page ≡ address_in block (direct_by page (footer_ino block) (direct_of page)) page
  address_by_block page = ap (λ (b : List ℕ). address_in b (direct_by page (footer_ino b) (direct_of page)) page) drawn_there

  all_positions : length layout.log + 1 ≡ length (chained drawn)
  all_positions = omega (arith, length_push layout.log (record { logged = drawn_block layout block owners; fate = Open }), as_long drawn block owners)

  module _ (state : State) (places : Places) (ino : ℕ) (row : Row) (tells : LogTellsLive layout state places) (is : IsMarkOf state places ino row block)
      (there : map.get state.live ino ≡ Some row) (own : row.ino ≡ ino) (regular : row.kind ≡ Regular) (whole : set.contains state.shrunk ino ≡ false)
      (clean : (page offset : ℕ) → direct_of page ≡ Some offset → set.contains state.dirty_nodes (ino, offset) ≡ false) where
    -- a page's direct node, as the mark has it, tells its place
    by_direct : (page offset : ℕ) → direct_of page ≡ Some offset → word_of (direct_by page (footer_ino block) (direct_of page)) (direct_slot page) ≡ page_at places ino page
    by_direct page offset direct =
        let other : footer_offset block ≢ offset = λ same. no_inode page offset direct (sym same ∙ mark_is_inode block is.marked) in
        ap (λ of. word_of (direct_by page of (direct_of page)) (direct_slot page)) is.footer_ino
        ∙ ap (λ at. word_of (direct_by page ino at) (direct_slot page)) direct
        ∙ ap (λ count. word_of (or_below (last_before (chained drawn) count ino offset) (base_direct layout.base.image layout.base.ckpt (node layout.base.image layout.base.ckpt ino) page)) (direct_slot page)) all_positions
        ∙ told_still layout block owners ino offset page (other_offset block ino offset other)
        ∙ tells.told ino page offset row there regular whole direct (clean page offset direct)

    -- each page of the mark has its place
    pub mark_address : (page : ℕ) → page < page_limit → address_at (with_drawn layout block owners) (length layout.log) page ≡ page_at places ino page
    mark_address page within = address_by_block page ∙ by_page
      where
        by_page : address_in block (direct_by page (footer_ino block) (direct_of page)) page ≡ page_at places ino page
        by_page = elim (cases_lt page inode_pages) [
          | inl low ↦ in_inode block (direct_by page (footer_ino block) (direct_of page)) page low ∙ is.inode.addresses page low ∙ ap (λ of. page_at places of page) own
          | inr high ↦ in_direct block (direct_by page (footer_ino block) (direct_of page)) page high ∙ by_direct page (nth_direct (direct_number page)) (has_direct page high within)
        ]

pub live_files_give_marks : LiveFilesGiveMarks
live_files_give_marks lists layout state places unwritten ino row block owners packs log live tells may is owned = record {
  ino = sym (ap footer_ino at_place ∙ is.footer_ino);
  row_ino = may.own;
  regular = may.regular;
  kind = ap inode_kind at_place ∙ is.inode.kind;
  size = sym (ap (λ (b : List ℕ). (inode_of b).size) at_place ∙ is.inode.size may.regular);
  most_size = may.size;
  name_length = subst (λ (b : List ℕ). (inode_of b).name_length ≤ NAME_BYTES) (sym at_place) (at_most NAME_BYTES (inode_of block).name_length (λ long. is.inode.own (inr (inl long))));
  named = subst (λ (b : List ℕ). IsNamed state.base b row (map.get state.base ino)) (sym at_place) is.named;
  dentry = ap has_dentry_mark at_place ∙ is.dentry;
  within = page_within lists layout.base.ckpt.geom state places unwritten ino row live may;
  pages = λ page within. subst (λ at. HasPage lists at (map.get row.pages page)) (sym (address page within)) (page_held lists layout.base.ckpt.geom state places unwritten ino row live may page);
  owned = λ page within some.
      subst (λ at. map.get owners at ≡ Some (ino, page)) (sym (address page within)) (owned page (page_at places ino page) (page_told places ino page (page_at places ino page) refl (λ zero. some (address page within ∙ zero))));
  in_zone = λ page within some.
      subst (λ at. IsTrue (is_in_data layout.base.ckpt.geom at)) (sym (address page within))
      (place_in_zone lists layout.base.ckpt.geom state places unwritten ino row live may page (λ zero. some (address page within ∙ zero)));
}
  where
    at_place : block_in (chained (with_drawn layout block owners)) (length layout.log) ≡ block
    at_place = drawn_there layout block owners

    address : (page : ℕ) → page < page_limit → address_at (with_drawn layout block owners) (length layout.log) page ≡ page_at places ino page
    address = mark_address layout block owners state places ino row tells is may.there may.own may.regular may.whole may.clean
