-- The dents of a directory, block by block: each stands at its page and its slot.
use Rattle.std.proofs.Common.{◌≡◌, ◌⊎◌, inl, inr, ℕ, ◌+◌, ◌<◌, ◌≢◌, ◌≤◌, true, IsTrue, List, [], ◌++◌, length, get_or, map, take, refl, sym, ap, ◌∙◌, subst, arith}
use Rattle.std.specs.Prelude.{All, Contains, None, slice_index_or}
use Rattle.std.specs.List.{AllPairs, filter, flat_map}
use Rattle.std.proofs.lemmas.Bool.{cases_eq, cases_lt}
use Rattle.std.proofs.lemmas.List.{length-map, get_or-map, get_or_default, map-append, flat_map_more, take_more, take_all}
use Rattle.std.proofs.lemmas.List.Elements.{All-push, All-filter, All-contains, Contains-get_or, filter_passes}
use Rattle.std.proofs.lemmas.List.Kept.{AllPairs-filter}
use Rattle.f2_format.specs.Packing.{SLOTS_A_BLOCK}
use Rattle.f2_format.specs.Dentry.{Dentry, dentry_at, begins_name, all_slots, dentries_of, dentry_fault}
use Rattle.f2_dentry_block.specs.Dents.{dentry_of}
use Rattle.f2_dentry_block.specs.declared.dents.Dent.{Dent}
use Rattle.f2_image.specs.Images.{Image, block_at}
use Rattle.f2_image.specs.Packs.{Checkpoint}
use Rattle.f2_image.specs.Bases.{IsDirectoryBlock, HasDentryAt, HasDentry}
use Rattle.f2_recover.specs.Seeing.{no_page}
use Rattle.f2_recover.specs.Dents.{no_dent, AreBlocksOf, AreDents}
use Rattle.f2_recover.specs.declared.nodes.PageAt.{PageAt}
use Rattle.f2_recover.proofs.ListPieces.{Contains-map, Contains-from_map, map-map, Contains-flat_map, Contains-from_flat_map, map-flat_map, AllPairs-map, AllPairs-flat_map, rising_range, within_range, Contains-range, Contains-filter}
use Rattle.f2_recover.proofs.Slots.{has_dentry}

-- the dents of a list are the dentries of these blocks, none of which has a wrong one
pub record AreDentriesOf (image : Image) (blocks : List PageAt) (dents : List Dent) : Type 0 where
  pub same : map dentry_of dents ≡ flat_map (λ x. dentries_of (block_at image x.at)) blocks
  pub whole : All (λ x. dentry_fault (block_at image x.at) ≡ None) blocks

-- those of a block more
pub dentries_more : (image : Image) (blocks : List PageAt) (place : ℕ) (dents found now : List Dent) → place < length blocks → AreDentriesOf image (take place blocks) dents
    → map dentry_of found ≡ dentries_of (block_at image (slice_index_or blocks place no_page).at) → dentry_fault (block_at image (slice_index_or blocks place no_page).at) ≡ None → now ≡ dents ++ found
    → AreDentriesOf image (take (place + 1) blocks) now
dentries_more image blocks place dents found now small before content none grown =
    subst (λ (list : List PageAt). AreDentriesOf image list now) (sym (take_more blocks place no_page small))
    (record {
      same = ap (map dentry_of) grown ∙ map-append dentry_of dents found ∙ ap (λ ds. ds ++ map dentry_of found) before.same ∙ ap (λ ds. flat_map of_block (take place blocks) ++ ds) content
          ∙ flat_map_more of_block [] (take place blocks) (slice_index_or blocks place no_page);
      whole = All-push (λ (x : PageAt). dentry_fault (block_at image x.at) ≡ None) (take place blocks) (slice_index_or blocks place no_page) before.whole none;
    })
  where
    of_block : PageAt → List Dentry
    of_block x = dentries_of (block_at image x.at)

-- the blocks up to the last are all
pub dentries_all : (image : Image) (blocks : List PageAt) (place : ℕ) (dents : List Dent) → length blocks ≤ place → AreDentriesOf image (take place blocks) dents → AreDentriesOf image blocks dents
dentries_all image blocks place dents last are = subst (λ (list : List PageAt). AreDentriesOf image list dents) (take_all place blocks last) are

-- a block that is listed is one of its directory
pub listed_block : (image : Image) (ckpt : Checkpoint) (directory : ℕ) (blocks : List PageAt) (place : ℕ) → AreBlocksOf image ckpt directory blocks → place < length blocks
    → IsDirectoryBlock image ckpt directory (slice_index_or blocks place no_page).page (slice_index_or blocks place no_page).at
listed_block image ckpt directory blocks place are small = are.only (slice_index_or blocks place no_page) (Contains-get_or blocks place no_page small)

-- all that are read of a block are dentries of its directory
pub found_are : (image : Image) (ckpt : Checkpoint) (directory page at : ℕ) (found : List Dent) → IsDirectoryBlock image ckpt directory page at → map dentry_of found ≡ dentries_of (block_at image at)
    → All (λ dent. HasDentry image ckpt directory (dentry_of dent)) found
found_are image ckpt directory page at found is content place d small =
    let in_block : place < length (dentries_of (block_at image at)) = subst (λ ds. place < length ds) content (subst (λ n. place < n) (sym (length-map found dentry_of)) small) in
    subst (HasDentry image ckpt directory) (ap (λ (ds : List Dentry). get_or ds place (dentry_of d)) (sym content) ∙ get_or-map dentry_of found place d (dentry_of d) small)
    (has_dentry image ckpt directory page at is place (dentry_of d) in_block)

abbrev begun : List ℕ → List ℕ
begun block = filter (begins_name block) all_slots

slots_rise : AllPairs ◌<◌ all_slots
unfolding all_slots
slots_rise = rising_range 0 214

slots_within : All (λ slot. slot < SLOTS_A_BLOCK) all_slots
unfolding all_slots
slots_within = within_range 214

has_slot : (slot : ℕ) → slot < SLOTS_A_BLOCK → Contains all_slots slot
unfolding all_slots
has_slot slot small = Contains-range 214 slot small

-- a slot of a block that is listed
abbrev Placed : Type 0
Placed = PageAt × ℕ

abbrev nowhere : Placed
nowhere = (no_page, 0)

abbrev slots_of : Image → PageAt → List Placed
slots_of image x = map (λ slot. (x, slot)) (begun (block_at image x.at))

abbrev place_of : Placed → ℕ × ℕ
place_of p = (p.0.page, p.1)

abbrev dentry_there : Image → Placed → Dentry
dentry_there image p = dentry_at (block_at image p.0.at) p.1

abbrev IsEarlier : Placed → Placed → Type 0
IsEarlier p q = (p.0.page < q.0.page) ⊎ ((p.0.page ≡ q.0.page) × (p.1 < q.1))

not_same : (p q : Placed) → IsEarlier p q → place_of p ≡ place_of q → ⊥
not_same p q (inl lower) same = omega (arith, lower, ap (λ (x : ℕ × ℕ). x.0) same)
not_same p q (inr later) same = omega (arith, later.1, ap (λ (x : ℕ × ℕ). x.1) same)

module _ (image : Image) (blocks : List PageAt) where
  abbrev placed : List Placed
  placed = flat_map (slots_of image) blocks

  abbrev places : List (ℕ × ℕ)
  places = map place_of placed

  -- what stands in a slot that is placed
  record IsPlaced (p : Placed) : Type 0 where
    listed : Contains blocks p.0
    within : p.1 < SLOTS_A_BLOCK
    begins : IsTrue (begins_name (block_at image p.0.at) p.1)

  is_placed : (p : Placed) → Contains placed p → IsPlaced p
  is_placed p has =
      let of_block = Contains-from_flat_map (slots_of image) blocks p has in
      let x : PageAt = of_block.0 in
      let in_block = Contains-from_map (λ slot. (x, slot)) (begun (block_at image x.at)) p of_block.1.1 in
      let slot : ℕ = in_block.0 in
      subst IsPlaced in_block.1.1 (record {
        listed = of_block.1.0;
        within = All-contains (λ s. s < SLOTS_A_BLOCK) (begun (block_at image x.at)) slot (All-filter (begins_name (block_at image x.at)) (λ s. s < SLOTS_A_BLOCK) all_slots slots_within) in_block.1.0;
        begins = All-contains (λ s. begins_name (block_at image x.at) s ≡ true) (begun (block_at image x.at)) slot (filter_passes (begins_name (block_at image x.at)) all_slots) in_block.1.0;
      })

  has_place : (x : PageAt) (slot : ℕ) → Contains blocks x → slot < SLOTS_A_BLOCK → IsTrue (begins_name (block_at image x.at) slot) → Contains placed (x, slot)
  has_place x slot listed within begins =
      Contains-flat_map (slots_of image) blocks x (x, slot) listed
      (Contains-map (λ s. (x, s)) (begun (block_at image x.at)) slot (Contains-filter (begins_name (block_at image x.at)) all_slots slot (has_slot slot within) begins))

  in_order : AllPairs (λ (x y : PageAt). x.page < y.page) blocks → AllPairs IsEarlier placed
  in_order rising = AllPairs-flat_map (λ (x y : PageAt). x.page < y.page) IsEarlier (slots_of image) within across blocks rising
    where
      within : (x : PageAt) → AllPairs IsEarlier (slots_of image x)
      within x = AllPairs-map IsEarlier (λ slot. (x, slot)) (begun (block_at image x.at)) (λ i j d lt small. inr (refl, AllPairs-filter ◌<◌ (begins_name (block_at image x.at)) all_slots slots_rise i j d lt small))

      across : (x z : PageAt) (p q : Placed) → x.page < z.page → Contains (slots_of image x) p → Contains (slots_of image z) q → IsEarlier p q
      across x z p q lower in_x in_z =
          let first = Contains-from_map (λ slot. (x, slot)) (begun (block_at image x.at)) p in_x in
          let second = Contains-from_map (λ slot. (z, slot)) (begun (block_at image z.at)) q in_z in
          let page : x.page ≡ p.0.page = ap (λ (r : Placed). r.0.page) first.1.1 in
          let more : z.page ≡ q.0.page = ap (λ (r : Placed). r.0.page) second.1.1 in
          inl (omega (arith, page, more, lower))

  module _ (dents : List Dent) (read : AreDentriesOf image blocks dents) where
    dents_are : map dentry_of dents ≡ map (dentry_there image) placed
    dents_are =
        let each : flat_map (λ x. map (dentry_there image) (slots_of image x)) blocks ≡ flat_map (λ x. dentries_of (block_at image x.at)) blocks
        = λ i. flat_map (λ x. map-map (λ slot. (x, slot)) (dentry_there image) (begun (block_at image x.at)) i) blocks in
        read.same ∙ sym (map-flat_map (slots_of image) (dentry_there image) blocks ∙ each)

    count : length placed ≡ length dents
    count = sym (length-map placed (dentry_there image)) ∙ ap length (sym dents_are) ∙ length-map dents dentry_of

    module _ (ckpt : Checkpoint) (directory : ℕ) (are : AreBlocksOf image ckpt directory blocks) where
      there : (k : ℕ) → k < length dents → HasDentryAt image ckpt directory (slice_index_or places k (0, 0)).0 (slice_index_or places k (0, 0)).1 (dentry_of (slice_index_or dents k no_dent))
      there k small =
          let in_placed : k < length placed = subst (λ n. k < n) (sym count) small in
          let p : Placed = get_or placed k nowhere in
          let is : IsPlaced p = is_placed p (Contains-get_or placed k nowhere in_placed) in
          let has : HasDentryAt image ckpt directory p.0.page p.1 (dentry_there image p) = record { at = p.0.at; block = are.only p.0 is.listed; within = is.within; begins = is.begins; is = refl } in
          let e : Dentry = dentry_of no_dent in
          let dentry : dentry_there image p ≡ dentry_of (slice_index_or dents k no_dent)
          = sym (get_or-map (dentry_there image) placed k nowhere e in_placed) ∙ ap (λ (ds : List Dentry). get_or ds k e) (sym dents_are) ∙ get_or-map dentry_of dents k no_dent e small in
          subst (λ (q : ℕ × ℕ). HasDentryAt image ckpt directory q.0 q.1 (dentry_of (slice_index_or dents k no_dent))) (sym (get_or-map place_of placed k nowhere (0, 0) in_placed))
          (subst (HasDentryAt image ckpt directory p.0.page p.1) dentry has)

      all : (page slot : ℕ) (dentry : Dentry) → HasDentryAt image ckpt directory page slot dentry → (k : ℕ) × ((k < length dents) × (slice_index_or places k (0, 0) ≡ (page, slot)))
      all page slot dentry has =
          let x : PageAt = record { page = page; at = has.at } in
          let found : Contains placed (x, slot) = has_place x slot (are.all page has.at has.block) has.within has.begins in
          (found.0, (subst (λ n. found.0 < n) count found.1, get_or-map place_of placed found.0 (x, slot) (0, 0) found.1 ∙ ap place_of found.2))

      rising : AllPairs (λ (x y : PageAt). x.page < y.page) blocks
      rising i j d lt small =
          let first : i < length blocks = omega (arith, lt, small) in
          let one = get_or_default blocks i d no_page first in
          let other = get_or_default blocks j d no_page small in
          omega (arith, are.rising i j lt small, ap (λ (x : PageAt). x.page) one, ap (λ (x : PageAt). x.page) other)

      differ : (j k : ℕ) → j < k → k < length dents → slice_index_or places j (0, 0) ≡ slice_index_or places k (0, 0) → ⊥
      differ j k lt small same =
          let second : k < length placed = subst (λ n. k < n) (sym count) small in
          let first : j < length placed = omega (arith, lt, second) in
          not_same (get_or placed j nowhere) (get_or placed k nowhere) (in_order rising j k nowhere lt second)
          (sym (get_or-map place_of placed j nowhere (0, 0) first) ∙ same ∙ get_or-map place_of placed k nowhere (0, 0) second)

      apart : (j k : ℕ) → j < length dents → k < length dents → slice_index_or places j (0, 0) ≡ slice_index_or places k (0, 0) → j ≡ k
      apart j k first second same = by (cases_eq j k) (cases_lt j k)
        where
          by : (j ≡ k) ⊎ (j ≢ k) → (j < k) ⊎ (k ≤ j) → j ≡ k
          by (inl e) _ = e
          by (inr other) (inl lower) = absurd (differ j k lower second same)
          by (inr other) (inr high) = absurd (differ k j (omega (arith, high, other)) first (sym same))

      -- what is read of all blocks of a directory are its dents
      pub dents_of_blocks : AreDents image ckpt directory dents
      dents_of_blocks = (
        places,
        record {
          same = length-map placed place_of ∙ count;
          there = there;
          all = all;
          apart = apart;
          whole = λ page at is. All-contains (λ (x : PageAt). dentry_fault (block_at image x.at) ≡ None) blocks (record { page = page; at = at }) read.whole (are.all page at is);
        },
      )
