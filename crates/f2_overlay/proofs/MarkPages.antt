-- The addresses of the pages of a mark: those that its inode tells, those of direct nodes that were logged since the mark before, and else those of
-- the mark before or of the base.
use Rattle.std.proofs.Common.{◌≡◌, ◌≢◌, ℕ, ◌+◌, ◌<◌, ◌≤◌, nat_lt, Bool, true, false, cond, List, refl, sym, ap, ◌∙◌, add-one, arith}
use Rattle.std.specs.Prelude.{Option, Some, None, slice_index_or}
use Rattle.std.proofs.lemmas.Bool.Decides.{nat_tests}
use Rattle.f2_format.specs.Footer.{footer_ino}
use Rattle.f2_format.specs.Inode.{inode_of}
use Rattle.f2_format.specs.Offsets.{inode_pages, direct_of, direct_number, direct_slot, nth_direct}
use Rattle.f2_image.specs.Images.{Image}
use Rattle.f2_image.specs.Packs.{Checkpoint}
use Rattle.f2_image.specs.Nodes.{node, direct_node, address_in, word_of, page_address}
use Rattle.f2_image.specs.Chains.{Logged, block_in, is_marked, last_before, or_below, base_direct, logged_direct, marked_direct, marked_address}
use Rattle.f2_shape.proofs.Parts.{number_of-direct}
use Rattle.f2_overlay.specs.Lasts.{last_mark_before}
use Rattle.f2_overlay.specs.Pending.{newest_before}
use Rattle.f2_overlay.specs.Putting.{word_at}
use Rattle.f2_overlay.proofs.Newer.{newest_some, newest_none, newest_marked, last_mark_is, last_stays}

-- a direct node isn't the inode
some_number : (k : ℕ) → nth_direct k ≢ 0
some_number k zero = grind (arith, nat_tests)

pub direct_some : (page offset : ℕ) → direct_of page ≡ Some offset → offset ≢ 0
direct_some page offset direct none = let has = number_of-direct page offset direct in some_number (direct_number page) (has.2 ∙ none)

module _ (inode : List ℕ) (direct : Option (List ℕ)) (page : ℕ) where
  choice : (b : Bool) → nat_lt page inode_pages ≡ b → address_in inode direct page ≡ cond b (slice_index_or (inode_of inode).addresses page 0) (word_of direct (direct_slot page))
  choice b e = ap (λ x. cond x (slice_index_or (inode_of inode).addresses page 0) (word_of direct (direct_slot page))) e

  pub low_in : page < inode_pages → address_in inode direct page ≡ slice_index_or (inode_of inode).addresses page 0
  low_in small = choice true (grind (arith, nat_tests))

  pub high_in : inode_pages ≤ page → address_in inode direct page ≡ word_of direct (direct_slot page)
  high_in above = choice false (grind (arith, nat_tests))

module _ (image : Image) (ckpt : Checkpoint) (log : List Logged) where
  -- the direct node of a page of a file, up to a place
  abbrev direct_for : ℕ → ℕ → ℕ → Option (List ℕ)
  direct_for place ino page = or_below (logged_direct log place ino (direct_of page)) (base_direct image ckpt (node image ckpt ino) page)

  direct_is : (place ino page offset : ℕ) (last : Option (List ℕ)) → direct_of page ≡ Some offset → last_before log (place + 1) ino offset ≡ last → direct_for place ino page ≡ or_below last (base_direct image ckpt (node image ckpt ino) page)
  direct_is place ino page offset last direct is =
      ap (λ o. or_below (logged_direct log place ino o) (base_direct image ckpt (node image ckpt ino) page)) direct ∙ ap (λ o. or_below o (base_direct image ckpt (node image ckpt ino) page)) is

  module _ (place ino : ℕ) (marked : is_marked (block_in log place) ≡ true) (own : footer_ino (block_in log place) ≡ ino) where
    -- in the inode
    pub in_inode : (page : ℕ) → page < inode_pages → marked_address image ckpt log place page ≡ slice_index_or (inode_of (block_in log place)).addresses page 0
    in_inode page small = low_in (block_in log place) (marked_direct image ckpt log place page) page small

    -- in a direct node
    in_direct : (page offset : ℕ) (last : Option (List ℕ)) → inode_pages ≤ page → direct_of page ≡ Some offset → last_before log (place + 1) ino offset ≡ last
        → marked_address image ckpt log place page ≡ word_of (or_below last (base_direct image ckpt (node image ckpt ino) page)) (direct_slot page)
    in_direct page offset last above direct is =
        high_in (block_in log place) (marked_direct image ckpt log place page) page above
        ∙ ap (λ n. word_of (direct_for place n page) (direct_slot page)) own ∙ ap (λ o. word_of o (direct_slot page)) (direct_is place ino page offset last direct is)

    before : (page offset : ℕ) → direct_of page ≡ Some offset → last_before log (place + 1) ino offset ≡ last_before log place ino offset
    before page offset direct = last_stays log place ino marked own ino offset (direct_some page offset direct)

    -- one that was logged since the mark before
    pub in_newest : (page offset newest : ℕ) → inode_pages ≤ page → direct_of page ≡ Some offset → newest_before log place ino offset ≡ Some newest → marked_address image ckpt log place page ≡ word_at log newest page
    in_newest page offset newest above direct is = in_direct page offset (Some (block_in log newest)) above direct (before page offset direct ∙ (newest_some log place ino offset newest is).1)

    -- one of the mark before
    pub in_marked : (page offset mark : ℕ) → inode_pages ≤ page → direct_of page ≡ Some offset → newest_before log place ino offset ≡ None → last_mark_before log place ino ≡ Some mark
        → marked_address image ckpt log place page ≡ marked_address image ckpt log mark page
    in_marked page offset mark above direct none last =
        let is = last_mark_is log place ino mark last in
        in_direct page offset (last_before log (mark + 1) ino offset) above direct (before page offset direct ∙ newest_marked log place ino offset mark none last ∙ ap (λ n. last_before log n ino offset) (sym (add-one mark)))
        ∙ sym (high_in (block_in log mark) (marked_direct image ckpt log mark page) page above ∙ ap (λ n. word_of (direct_for mark n page) (direct_slot page)) is.2
        ∙ ap (λ o. word_of o (direct_slot page)) (direct_is mark ino page offset (last_before log (mark + 1) ino offset) direct refl))

    -- one of the base
    in_base : (page offset : ℕ) → inode_pages ≤ page → direct_of page ≡ Some offset → newest_before log place ino offset ≡ None → last_mark_before log place ino ≡ None
        → marked_address image ckpt log place page ≡ word_of (base_direct image ckpt (node image ckpt ino) page) (direct_slot page)
    in_base page offset above direct none unmarked = in_direct page offset None above direct (before page offset direct ∙ newest_none log place ino offset none unmarked)

    pub in_row : (page offset : ℕ) (inode : List ℕ) → inode_pages ≤ page → direct_of page ≡ Some offset → newest_before log place ino offset ≡ None → last_mark_before log place ino ≡ None → node image ckpt ino ≡ Some inode
        → marked_address image ckpt log place page ≡ page_address image ckpt inode page
    in_row page offset inode above direct none unmarked there =
        in_base page offset above direct none unmarked ∙ ap (λ o. word_of (base_direct image ckpt o page) (direct_slot page)) there ∙ sym (high_in inode (direct_node image ckpt inode page) page above)

    pub in_none : (page offset : ℕ) → inode_pages ≤ page → direct_of page ≡ Some offset → newest_before log place ino offset ≡ None → last_mark_before log place ino ≡ None → node image ckpt ino ≡ None → marked_address image ckpt log place page ≡ 0
    in_none page offset above direct none unmarked there = in_base page offset above direct none unmarked ∙ ap (λ o. word_of (base_direct image ckpt o page) (direct_slot page)) there
