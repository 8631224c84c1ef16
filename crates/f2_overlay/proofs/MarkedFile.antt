-- The pages of a file once all that its mark tells was put are those of the mark.
use Rattle.std.proofs.Common.{◌≡◌, ◌≢◌, ◌⊎◌, inl, inr, ℕ, ◌<◌, ◌≤◌, true, List, length, refl, sym, ap, subst, ◌∙◌, zero-add, arith}
use Rattle.std.specs.Prelude.{Option, Some, None, slice_index}
use Rattle.std.specs.Option.{unwrap_or}
use Rattle.std.specs.Ordering.{nat_cmp}
use Rattle.std.specs.FinMap as map
use Rattle.std.specs.FinMap.{get-empty}
use Rattle.std.proofs.lemmas.Bool.{cases_lt}
use Rattle.std.proofs.lemmas.Bool.Decides.{nat_tests}
use Rattle.f2_format.proofs.BytesLemmas.{length-numbers_at}
use Rattle.f2_format.specs.Footer.{footer_ino}
use Rattle.f2_format.specs.Inode.{inode_of, INODE_ADDRESSES}
use Rattle.f2_format.specs.Offsets.{inode_pages, page_limit, direct_of, direct_number, nth_direct}
use Rattle.f2_shape.proofs.Parts.{direct_of-number, number_of-direct}
use Rattle.f2_image.specs.Images.{Image}
use Rattle.f2_image.specs.Packs.{Checkpoint}
use Rattle.f2_image.specs.Chains.{chain, block_in, is_marked, marked_address}
use Rattle.f2_image.specs.Reached.{IsMarkedAt, IsPage}
use Rattle.f2_recover.specs.declared.walk.Walk.{Walk}
use Rattle.f2_overlay.specs.Pending.{Places, newest_before}
use Rattle.f2_overlay.specs.Owning.{Owned, Pages, AreOwn, ArePagesFrom}
use Rattle.f2_overlay.specs.Putting.{address_of, word_at, ArePut, AreNodesPut, AreNodePages}
use Rattle.f2_overlay.specs.Rolling.{AreMarked}
use Rattle.f2_overlay.proofs.MarkPages.{direct_some, in_inode, in_newest}
use Rattle.f2_overlay.proofs.StartPages.{IsStart}

direct_none : (page : ℕ) → page < inode_pages → direct_of page ≡ None
unfolding direct_of
direct_none page small = grind (arith, nat_tests)

module _ (image : Image) (ckpt : Checkpoint) (place ino : ℕ) (is : IsMarkedAt image ckpt place (block_in (chain image ckpt) place)) (own : footer_ino (block_in (chain image ckpt) place) ≡ ino) where
  marked : is_marked (block_in (chain image ckpt) place) ≡ true
  marked = is.marked

  -- an address of the mark that isn't 0 is that of a page
  page_of_mark : (page at : ℕ) → page < page_limit → marked_address image ckpt (chain image ckpt) place page ≡ at → at ≢ 0 → IsPage image ckpt ino page at
  page_of_mark page at within address some = inr (record { place = place; inode = block_in (chain image ckpt) place; marked = is; own = own; within = within; address = address; there = some })

  -- what the inode tells
  module _ (addresses : List ℕ) (same : addresses ≡ (inode_of (block_in (chain image ckpt) place)).addresses) where
    pub size : length addresses ≡ 923
    size = ap (λ (xs : List ℕ). length xs) same ∙ length-numbers_at 4 (block_in (chain image ckpt) place) INODE_ADDRESSES 923

    told : (page : ℕ) → page < inode_pages → marked_address image ckpt (chain image ckpt) place page ≡ slice_index addresses page
    told page small = in_inode image ckpt (chain image ckpt) place ino marked own page small ∙ ap (λ (xs : List ℕ). slice_index xs page) (sym same)

    pub inode_pages_are : ArePagesFrom image ckpt ino 0 addresses
    inode_pages_are slot small some =
        let low : slot < 923 = omega (arith, small, size) in
        subst (λ n. IsPage image ckpt ino n (slice_index addresses slot)) (sym (zero-add slot)) (page_of_mark slot (slice_index addresses slot) (omega (arith, low)) (told slot low) some)

    module _ (newest : Places) (newest_is : (offset : ℕ) → offset ≢ 0 → map.get newest offset ≡ newest_before (chain image ckpt) place ino offset) where
      word : (page offset q : ℕ) → direct_of page ≡ Some offset → map.get newest offset ≡ Some q → marked_address image ckpt (chain image ckpt) place page ≡ word_at (chain image ckpt) q page
      word page offset q direct there =
          let has = number_of-direct page offset direct in
          in_newest image ckpt (chain image ckpt) place ino marked own page offset q has.0 direct (sym (newest_is offset (direct_some page offset direct)) ∙ there)

      pub node_pages_are : AreNodePages image ckpt ino (chain image ckpt) newest
      node_pages_are page offset q direct there some = let has = number_of-direct page offset direct in page_of_mark page (word_at (chain image ckpt) q page) has.1 (word page offset q direct there) some

      module _ (walk : Walk) (owned more : Owned) (begun mid all : Pages) (start : IsStart image ckpt walk place ino owned begun) (put : ArePut 0 addresses begun mid) (nodes : AreNodesPut (chain image ckpt) newest map.empty mid all) (are_own : AreOwn ino all more) where
        low : (page : ℕ) → page < inode_pages → address_of all page ≡ marked_address image ckpt (chain image ckpt) place page
        low page small =
            ap (λ o. unwrap_or o 0) (nodes.low page (direct_none page small)) ∙ ap (λ n. address_of mid n) (sym (zero-add page)) ∙ put.put page (omega (arith, small, size)) ∙ sym (told page small)

        by_newest : (page offset : ℕ) → inode_pages ≤ page → page < page_limit → direct_of page ≡ Some offset → (o : Option ℕ) → map.get newest offset ≡ o → address_of all page ≡ marked_address image ckpt (chain image ckpt) place page
        by_newest page offset above within direct (Some q) there = nodes.told page offset q direct there (get-empty nat_cmp offset) ∙ sym (word page offset q direct there)
        by_newest page offset above within direct None none =
            ap (λ o. unwrap_or o 0) (nodes.others page offset direct none) ∙ ap (λ o. unwrap_or o 0) (put.after page (omega (arith, above, size)))
            ∙ start.high page offset above within direct (sym (newest_is offset (direct_some page offset direct)) ∙ none)

        by_part : (page : ℕ) → page < page_limit → (page < inode_pages) ⊎ (inode_pages ≤ page) → address_of all page ≡ marked_address image ckpt (chain image ckpt) place page
        by_part page within (inl small) = low page small
        by_part page within (inr above) = by_newest page (nth_direct (direct_number page)) above within (direct_of-number page above within) (map.get newest (nth_direct (direct_number page))) refl

        pub marked_pages : AreMarked image ckpt place all
        marked_pages = record { addresses = λ page within. by_part page within (cases_lt page inode_pages); some = are_own.some; within = are_own.within }
