-- A tree that is laid out takes no more nodes and data blocks than are counted.
use Rattle.std.proofs.Common.{◌≡◌, ◌≢◌, ℕ, zero, suc, ◌≤◌, true, false, List, [], ◌∷◌, length, map as map_list, refl, sym, ap, ◌∙◌, subst, arith, true≢false}
use Rattle.std.specs.Prelude.{Option, Some, None}
use Rattle.std.specs.List.{flat_map, sum_by}
use Rattle.std.specs.Ordering.{nat_cmp}
use Rattle.std.specs.Cmp.{nat_cmp_total}
use Rattle.std.specs.FinMap as map
use Rattle.std.specs.FinMap.{len-entries}
use Rattle.std.specs.FinSet as set
use Rattle.std.proofs.lemmas.List.{length-map}
use Rattle.std.proofs.lemmas.List.Concat.{length-flat_map}
use Rattle.std.proofs.lemmas.List.FromFn.{length-range_with_len}
use Rattle.std.proofs.lemmas.List.Sums.{sum_by-cons}
use Rattle.f2_format.specs.Offsets.{nodes_over, node_count, nodes_of_page}
use Rattle.f2_format.specs.Geometry.{node_third, data_third}
use Rattle.f2_model.specs.Tree.{Rows}
use Rattle.f2_model.specs.Count.{dentry_blocks, page_numbers, nodes_of_row, data_of_kind, data_of_row, nodes_of_tree, data_of_tree}
use Rattle.f2_model.specs.declared.rows.Row.{Row}
use Rattle.f2_model.specs.declared.rows.Kind.{Kind}
use Rattle.f2_model.specs.declared.rows.Kind.TheVariants.{Regular, Directory}
use Rattle.f2_image.specs.Images.{Image, block_at}
use Rattle.f2_image.specs.Packs.{Checkpoint}
use Rattle.f2_image.specs.Reached.{HasMore}
use Rattle.f2_image.specs.Faults.{IsSomeNode, IsBaseBlock}
use Rattle.f2_laid.specs.Laid.{page_at, page_in}
use Rattle.f2_laid.specs.declared.places.Place.{Place}
use Rattle.f2_laid.specs.declared.stored.Stored.{Stored}
use Rattle.f2_laid_laws.proofs.Members.{IsIn, in_map, in_flat_map, in_range, all_of, within_list}
use Rattle.f2_laid_laws.proofs.Differ.{no_more}
use Rattle.f2_laid_laws.proofs.Values.{key_in, value_in}
use Rattle.f2_laid_laws.proofs.Homes.{IsHome, page_short, block_is_there}
use Rattle.f2_laid_laws.proofs.Listings.{dentries_held, pages_held, blocks_counted}
use Rattle.f2_laid_laws.proofs.Base.{IsStored, geometry}
use Rattle.f2_laid_laws.proofs.Nodes.{own_node, own_page}

-- a file has a node at least
root_in : (pages : List ℕ) → set.contains (nodes_over pages) 0 ≡ true
unfolding nodes_over
root_in pages = set.contains-from_list nat_cmp_total (0 ∷ flat_map nodes_of_page pages) 0

some_node : (pages : List ℕ) → 1 ≤ node_count pages
some_node pages = by_count (set.len (nodes_over pages)) refl
  where
    by_count : (n : ℕ) → set.len (nodes_over pages) ≡ n → 1 ≤ n
    by_count zero none =
        let nothing : set.contains (nodes_over pages) 0 ≡ false = ap (λ (s : set.FinSet nat_cmp). set.contains s 0) (set.empty_of_len (nodes_over pages) none) ∙ set.contains-empty nat_cmp 0 in
        absurd (true≢false (sym (root_in pages) ∙ nothing))
    by_count (suc n) some = omega arith

-- a sum of numbers that are at least 1
some_each : {X : Type 0} (f : X → ℕ) → ((x : X) → 1 ≤ f x) → (xs : List X) → length xs ≤ sum_by f xs
some_each f some [] = omega arith
some_each f some (x ∷ xs) =
    let one = some x in
    let rest = some_each f some xs in
    let sum = sum_by-cons f x xs in
    omega (arith, one, rest, sum)

pub nodes_counted : (tree : Rows) → length (map.values tree) ≤ nodes_of_tree tree
nodes_counted tree = some_each (nodes_of_row (map.values tree)) (λ row. some_node (page_numbers row.kind (map.values tree) row)) (map.values tree)

-- the addresses of a row's pages, as many as are counted
addresses_at : Option Place → List ℕ → List ℕ
addresses_at None pages = map_list (λ page. 0) pages
addresses_at (Some place) pages = map_list (page_at place) pages

length-addresses : (o : Option Place) (pages : List ℕ) → length (addresses_at o pages) ≡ length pages
unfolding addresses_at
length-addresses None pages = length-map pages (λ page. 0)
length-addresses (Some place) pages = length-map pages (page_at place)

in_addresses : (o : Option Place) (place : Place) (page : ℕ) (pages : List ℕ) → o ≡ Some place → IsIn page pages → IsIn (page_at place page) (addresses_at o pages)
unfolding addresses_at
in_addresses o place page pages is there = subst (λ p. IsIn (page_at place page) (addresses_at p pages)) (sym is) (in_map (page_at place) page pages there)

length-page_numbers : (kind : Kind) (rows : List Row) (row : Row) → length (page_numbers kind rows row) ≡ data_of_kind kind rows row
length-page_numbers Regular rows row = length-map (map.entries row.pages) (λ e. e.0) ∙ sym (len-entries row.pages)
length-page_numbers Directory rows row = length-range_with_len 0 (dentry_blocks rows row.ino)

module _ (tree : Rows) (stored : Stored) where
  addresses_of : Row → List ℕ
  addresses_of row = addresses_at (map.get stored.places row.ino) (page_numbers row.kind (map.values tree) row)

  length-addresses_of : (row : Row) → length (addresses_of row) ≡ data_of_row (map.values tree) row
  unfolding addresses_of
  length-addresses_of row = length-addresses (map.get stored.places row.ino) (page_numbers row.kind (map.values tree) row) ∙ length-page_numbers row.kind (map.values tree) row

  all_addresses : List ℕ
  all_addresses = flat_map addresses_of (map.values tree)

  length-all_addresses : length all_addresses ≡ data_of_tree tree
  unfolding all_addresses
  length-all_addresses =
      let each : (λ row. length (addresses_of row)) ≡ data_of_row (map.values tree) = λ i row. length-addresses_of row i in
      length-flat_map addresses_of (map.values tree) ∙ ap (λ count. sum_by count (map.values tree)) each

-- a row's inode by its ino and offset
abbrev inode_at : Row → ℕ × ℕ
inode_at row = (row.ino, 0)

module _ (image : Image) (ckpt : Checkpoint) (tree : Rows) (stored : Stored) (is : IsStored image ckpt tree stored) where
  -- the inode of each row
  inodes : List (ℕ × ℕ)
  inodes = map_list inode_at (map.values tree)

  in_inodes : (at : ℕ × ℕ) → IsSomeNode image ckpt at → IsIn at inodes
  unfolding inodes
  in_inodes at (nid, is_node) =
      let own = own_node image ckpt tree stored is at.0 at.1 nid is_node in
      let same : ◌≡◌ {A = ℕ × ℕ} (own.row.ino, 0) at = λ i. (own.at.own i, sym own.first i) in
      subst (λ a. IsIn a inodes) same (in_map inode_at own.row (map.values tree) (value_in tree at.0 own.row own.there))

  pub few_nodes : (limit : ℕ) → limit ≡ node_third ckpt.geom → HasMore (ℕ × ℕ) (IsSomeNode image ckpt) limit → ⊥
  unfolding inodes
  few_nodes limit third more =
      let few = no_more more.some inodes more.differ (all_of (IsSomeNode image ckpt) (λ at. IsIn at inodes) in_inodes more.some more.all) in
      let long = length-map (map.values tree) inode_at in
      let counted = nodes_counted tree in
      let room = is.can.nodes in
      let past = more.more in
      omega (arith, few, long, counted, room, past, third)

  -- the page of a row has a number among those that are counted
  number_counted : (row : Row) (kind : Kind) → row.kind ≡ kind → (ino page address : ℕ) (at : IsHome image ckpt tree stored ino row) → page_at at.place page ≡ address → address ≢ 0 → IsIn page (page_numbers kind (map.values tree) row)
  number_counted row Regular kind ino page address at stands some =
      let there : page_at at.place page ≢ 0 = λ none. some (sym stands ∙ none) in
      let short = page_short image ckpt tree stored ino row at page there in
      key_in row.pages page (block_at image (page_at at.place page)) (sym (pages_held tree row (page_in image at.place) at.content kind page short) ∙ block_is_there image (page_at at.place page) there)
  number_counted row Directory kind ino page address at stands some =
      let there : page_at at.place page ≢ 0 = λ none. some (sym stands ∙ none) in
      let short = page_short image ckpt tree stored ino row at page there in
      let held = dentries_held tree row (page_in image at.place) at.content kind in
      let within = within_list _ page (block_at image (page_at at.place page)) (sym (held.held page short) ∙ block_is_there image (page_at at.place page) there) in
      let counted = blocks_counted ckpt.geom (geometry image ckpt tree stored is) tree is.can row.ino held.dentries held.are in
      in_range 0 (dentry_blocks (map.values tree) row.ino) page (omega arith) (omega (arith, within, counted))

  in_all : (at : ℕ) → IsBaseBlock image ckpt at → IsIn at (all_addresses tree stored)
  unfolding all_addresses addresses_of
  in_all at (ino, page, page_is) =
      let own = own_page image ckpt tree stored is ino page at page_is in
      let row = own.row in
      let number = number_counted row row.kind refl ino page at own.at own.stands page_is.there in
      let place : map.get stored.places row.ino ≡ Some own.at.place = ap (map.get stored.places) own.at.own ∙ own.at.there in
      let here = in_addresses (map.get stored.places row.ino) own.at.place page (page_numbers row.kind (map.values tree) row) place number in
      subst (λ a. IsIn a (flat_map (addresses_of tree stored) (map.values tree))) own.stands (in_flat_map (addresses_of tree stored) row (page_at own.at.place page) (map.values tree) (value_in tree ino row own.there) here)

  pub few_blocks : (limit : ℕ) → data_third ckpt.geom ≤ limit → HasMore ℕ (IsBaseBlock image ckpt) limit → ⊥
  few_blocks limit third more =
      let few = no_more more.some (all_addresses tree stored) more.differ (all_of (IsBaseBlock image ckpt) (λ at. IsIn at (all_addresses tree stored)) in_all more.some more.all) in
      let long = length-all_addresses tree stored in
      let room = is.can.blocks in
      let past = more.more in
      omega (arith, few, long, room, past, third)
