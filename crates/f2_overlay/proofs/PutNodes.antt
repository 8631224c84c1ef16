-- Pages with the addresses of direct nodes put.
use Rattle.std.proofs.Common.{◌≡◌, ◌≢◌, ◌⊎◌, inl, inr, ℕ, ◌+◌, ◌-◌, ◌<◌, ◌≤◌, List, length, refl, sym, ap, subst, ◌∙◌, arith}
use Rattle.std.specs.Prelude.{Some, None, slice_index, slice_index_or}
use Rattle.std.specs.Option.{unwrap_or}
use Rattle.std.specs.Ordering.{nat_cmp}
use Rattle.std.specs.FinMap as map
use Rattle.std.specs.FinMap.{get-empty}
use Rattle.std.proofs.lemmas.List.{get_or_default}
use Rattle.std.proofs.lemmas.Bool.{cases_eq, cases_lt}
use Rattle.f2_format.specs.Inode.{node_word}
use Rattle.f2_format.specs.Offsets.{direct_of, direct_slot, page_limit}
use Rattle.f2_shape.proofs.Parts.{number_of-direct}
use Rattle.f2_image.specs.Images.{Image}
use Rattle.f2_image.specs.Packs.{Checkpoint}
use Rattle.f2_image.specs.Chains.{Logged, block_in, no_block}
use Rattle.f2_image.specs.Reached.{IsPage}
use Rattle.f2_shape.specs.Routes.{IsFirstPage}
use Rattle.f2_shape.proofs.Laws.{direct_of-first_page, direct_slot-first_page, first_page-direct_slot}
use Rattle.f2_overlay.specs.Owning.{Pages, ArePagesFrom}
use Rattle.f2_overlay.specs.Pending.{Places}
use Rattle.f2_overlay.specs.Putting.{address_of, word_at, ArePut, AreNodesPut, AreNodePages}
use Rattle.f2_overlay.proofs.Maps.{not_none, one_some, get_taken-other, taken_cases}

pub nodes_none : (log : List Logged) (places : Places) (old : Pages) → AreNodesPut log places places old old
nodes_none log places old = record {
  told = λ page offset place direct there none. absurd (not_none place (sym none ∙ there));
  later = λ page offset place direct there. refl;
  others = λ page offset direct none. refl;
  low = λ page none. refl;
  fewer = λ offset place there. there;
}

-- a node is taken out of those that are left
module _ (log : List Logged) (places left less : Places) (old mid : Pages) (offset place : ℕ) (there : map.get left offset ≡ Some place) (gone : less ≡ map.remove left offset) (before : AreNodesPut log places left old mid) where
  abbrev AreNext : Pages → Type 0
  AreNext new = AreNodesPut log places less old new

  still : (other q : ℕ) → map.get less other ≡ Some q → (other ≢ offset) × (map.get left other ≡ Some q)
  still other q is = taken_cases left offset other q (ap (λ (m : Places). map.get m other) (sym gone) ∙ is)

  was_none : (other : ℕ) → other ≢ offset → map.get less other ≡ None → map.get left other ≡ None
  was_none other different none = sym (get_taken-other left offset other different) ∙ ap (λ (m : Places). map.get m other) (sym gone) ∙ none

  not_here : (other : ℕ) → map.get places other ≡ None → other ≢ offset
  not_here other none same = not_none place (sym none ∙ ap (map.get places) same ∙ before.fewer offset place there)

  -- where all pages but those of the node stay, and those have its words
  next : (new : Pages) → ((page : ℕ) → direct_of page ≢ Some offset → map.get new page ≡ map.get mid page) → ((page : ℕ) → direct_of page ≡ Some offset → address_of new page ≡ word_at log place page) → AreNext new
  next new stay told = record {
    told = λ page other q direct is none. by_told page other q direct is none (cases_eq other offset);
    later = λ page other q direct is. let was = still other q is in stay page (apart page other direct was.0) ∙ before.later page other q direct was.1;
    others = λ page other direct none. stay page (apart page other direct (not_here other none)) ∙ before.others page other direct none;
    low = λ page none. stay page (λ is. not_none offset (sym none ∙ is)) ∙ before.low page none;
    fewer = λ other q is. before.fewer other q (still other q is).1;
  }
    where
      apart : (page other : ℕ) → direct_of page ≡ Some other → other ≢ offset → direct_of page ≢ Some offset
      apart page other direct different is = different (one_some other offset (sym direct ∙ is))

      by_told : (page other q : ℕ) → direct_of page ≡ Some other → map.get places other ≡ Some q → map.get less other ≡ None → (other ≡ offset) ⊎ (other ≢ offset) → address_of new page ≡ word_at log q page
      by_told page other q direct is none (inl same) =
          let place_is : place ≡ q = one_some place q (sym (before.fewer offset place there) ∙ ap (map.get places) (sym same) ∙ is) in
          told page (direct ∙ ap Some same) ∙ ap (λ n. word_at log n page) place_is
      by_told page other q direct is none (inr different) =
          ap (λ o. unwrap_or o 0) (stay page (apart page other direct different)) ∙ before.told page other q direct is (was_none other different none)

  -- no page has the node
  pub node_passed : ((page : ℕ) → direct_of page ≢ Some offset) → AreNext mid
  node_passed none = next mid (λ page different. refl) (λ page direct. absurd (none page direct))

  module _ (first : ℕ) (words : List ℕ) (is : IsFirstPage offset first) (size : length words ≡ 1018) (are : (slot : ℕ) → slot < 1018 → slice_index words slot ≡ node_word (block_in log place) slot) where
    pub node_put : (new : Pages) → ArePut first words mid new → AreNext new
    node_put new put = next new stay told
      where
        stay : (page : ℕ) → direct_of page ≢ Some offset → map.get new page ≡ map.get mid page
        stay page different = by (cases_lt page first) (cases_lt page (first + 1018))
          where
            by : (page < first) ⊎ (first ≤ page) → (page < first + 1018) ⊎ (first + 1018 ≤ page) → map.get new page ≡ map.get mid page
            by (inl low) h = put.before page low
            by (inr high) (inr past) = put.after page (omega (arith, past, size))
            by (inr high) (inl small) =
                let slot : page ≡ first + (page - first) = omega (arith, high) in
                absurd (different (ap direct_of slot ∙ direct_of-first_page offset first (page - first) is (omega (arith, high, small))))

        told : (page : ℕ) → direct_of page ≡ Some offset → address_of new page ≡ word_at log place page
        told page direct =
            let slot : page ≡ first + direct_slot page = first_page-direct_slot offset first page is direct in
            let small : direct_slot page < 1018 = omega arith in
            ap (λ n. address_of new n) slot ∙ put.put (direct_slot page) (omega (arith, small, size)) ∙ are (direct_slot page) small

    pub node_pages : (image : Image) (ckpt : Checkpoint) (ino : ℕ) → AreNodePages image ckpt ino log places → ArePagesFrom image ckpt ino first words
    node_pages image ckpt ino pages slot small some =
        let short : slot < 1018 = omega (arith, small, size) in
        let word : word_at log place (first + slot) ≡ slice_index words slot = ap (node_word (block_in log place)) (direct_slot-first_page offset first slot is short) ∙ sym (are slot short) in
        subst (IsPage image ckpt ino (first + slot)) word
        (pages (first + slot) offset place (direct_of-first_page offset first slot is short) (before.fewer offset place there) (λ zero. some (sym word ∙ zero)))

-- a node's pages are below the limit
pub within_limit : (offset first : ℕ) → IsFirstPage offset first → first + 1018 ≤ page_limit
within_limit offset first is = let last = number_of-direct (first + 1017) offset (direct_of-first_page offset first 1017 is (omega arith)) in omega (arith, last.1)

-- no node is left
pub nodes_all : (log : List Logged) (places left : Places) (old new : Pages) → ((offset : ℕ) → map.get left offset ≡ None) → AreNodesPut log places left old new → AreNodesPut log places map.empty old new
nodes_all log places left old new none all = record {
  told = λ page offset place direct there _. all.told page offset place direct there (none offset);
  later = λ page offset place direct there. absurd (not_none place (sym (get-empty nat_cmp offset) ∙ there));
  others = all.others;
  low = all.low;
  fewer = λ offset place there. absurd (not_none place (sym (get-empty nat_cmp offset) ∙ there));
}

-- what a log has at a place, and its block there
pub logged_at : (log : List Logged) (place : ℕ) (logged : Logged) → place < length log → logged ≡ slice_index_or log place logged → logged ≡ slice_index_or log place no_block
logged_at log place logged small is = is ∙ get_or_default log place logged no_block small

pub block_at_place : (log : List Logged) (place : ℕ) (logged : Logged) → place < length log → logged ≡ slice_index_or log place logged → logged.block ≡ block_in log place
block_at_place log place logged small is = ap (λ (x : Logged). x.block) (logged_at log place logged small is)
