-- What a first part of a node log has: the same blocks, and the first marked places.
use Rattle.std.proofs.Common.{◌≡◌, ℕ, zero, suc, ◌+◌, ◌-◌, ◌<◌, ◌≤◌, Bool, cond, List, ◌++◌, length, take, filter, Contains, refl, sym, ap, ◌∙◌, arith}
use Rattle.std.specs.Prelude.{Option, Some, None, IsTrue}
use Rattle.std.specs.List.{AllByRecursion, range_with_len}
use Rattle.std.proofs.lemmas.List.{get_or-take, length-take-le, length-append, take-take}
use Rattle.f2_format.specs.Offsets.{direct_of}
use Rattle.f2_format.specs.Footer.{footer_ino}
use Rattle.f2_image.specs.Images.{Image}
use Rattle.f2_image.specs.Packs.{Checkpoint}
use Rattle.f2_image.specs.Nodes.{node, address_in}
use Rattle.f2_image.specs.Chains.{Logged, no_block, block_in, is_marked, marked_places, is_node_of, last_before, or_below, base_direct, logged_direct, marked_address}
use Rattle.f2_stored_laws.proofs.Lists.{filter_split, filter_same, filter_passes, filter_has}

module _ (log : List Logged) (count : ℕ) where
  pub block_of_part : (place : ℕ) → place < count → block_in (take count log) place ≡ block_in log place
  block_of_part place small = ap (λ one. one.block) (get_or-take count log place no_block small)

  last_of_part : (ino offset place : ℕ) → place ≤ count → last_before (take count log) place ino offset ≡ last_before log place ino offset
  last_of_part ino offset zero few = refl
  last_of_part ino offset (suc place) few =
      ap (λ block. cond (is_node_of block ino offset) (Some block) (last_before (take count log) place ino offset)) (block_of_part place (omega (arith, few)))
      ∙ ap (λ last. cond (is_node_of (block_in log place) ino offset) (Some (block_in log place)) last) (last_of_part ino offset place (omega (arith, few)))

  direct_of_part : (place ino : ℕ) (offset : Option ℕ) → place < count → logged_direct (take count log) place ino offset ≡ logged_direct log place ino offset
  direct_of_part place ino None small = refl
  direct_of_part place ino (Some offset) small = last_of_part ino offset (place + 1) (omega (arith, small))

  pub address_of_part : (image : Image) (ckpt : Checkpoint) (place page : ℕ) → place < count → marked_address image ckpt (take count log) place page ≡ marked_address image ckpt log place page
  address_of_part image ckpt place page small =
      let block = block_in log place in
      let base = base_direct image ckpt (node image ckpt (footer_ino block)) page in
      ap (λ b. address_in b (or_below (logged_direct (take count log) place (footer_ino b) (direct_of page)) (base_direct image ckpt (node image ckpt (footer_ino b)) page)) page) (block_of_part place small)
      ∙ ap (λ direct. address_in block (or_below direct base) page) (direct_of_part place (footer_ino block) (direct_of page) small)

  -- the marked places of a first part are the first ones
  pub first_marked : count ≤ length log → (rest : List ℕ) × (marked_places log ≡ marked_places (take count log) ++ rest)
  first_marked within =
      let p : ℕ → Bool = λ place. is_marked (block_in log place) in
      let part : ℕ → Bool = λ place. is_marked (block_in (take count log) place) in
      let long : length (take count log) ≡ count = length-take-le count log within in
      let same : filter part (range_with_len 0 count) ≡ filter p (range_with_len 0 count) = filter_same part p 0 count count (omega arith) (λ place small. ap is_marked (block_of_part place small)) in
      let more = length log - count in
      let rest = filter p (range_with_len (0 + count) more) in
      (rest, filter_split p count more (length log) (omega (arith, within)) ∙ ap (λ first. first ++ rest) (sym same ∙ ap (λ n. filter part (range_with_len 0 n)) (sym long)))

-- fewer places have fewer marks
pub fewer_marked : (log : List Logged) (few count : ℕ) → few ≤ count → count ≤ length log → length (marked_places (take few log)) ≤ length (marked_places (take count log))
fewer_marked log few count less within =
    let long : length (take count log) ≡ count = length-take-le count log within in
    let parts = first_marked (take count log) few (omega (arith, long, less)) in
    let taken : take few (take count log) ≡ take few log = take-take few count log less in
    let all = ap length parts.1 ∙ length-append (marked_places (take few (take count log))) parts.0 in
    let fewer = ap (λ part. length (marked_places part)) taken in
    omega (arith, all, fewer)

-- the marked places of a log are in it, and their blocks are marked
pub places_marked : (log : List Logged) → AllByRecursion (λ place. (place < length log) × IsTrue (is_marked (block_in log place))) (marked_places log)
places_marked log = filter_passes (λ place. is_marked (block_in log place)) (length log) 0 (length log) (omega arith)

pub place_marked : (log : List Logged) (place : ℕ) → place < length log → IsTrue (is_marked (block_in log place)) → Contains (marked_places log) place
place_marked log place small marked = filter_has (λ place. is_marked (block_in log place)) place 0 (length log) (omega arith) (omega (arith, small)) marked
