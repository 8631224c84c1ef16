-- A tree of files in the root alone: what it takes.
use Rattle.std.proofs.Common.{◌≡◌, ◌≢◌, ◌⊎◌, inl, inr, ℕ, ◌+◌, ◌*◌, ◌/◌, ◌<◌, ◌≤◌, true, cond, List, [], ◌∷◌, ◌++◌, length, refl, sym, ap, ◌∙◌, subst, arith}
use Rattle.std.specs.Prelude.{Some, None, All, nat_lt}
use Rattle.std.specs.List.{AllByRecursion, flat_map, range_with_len, sum_by}
use Rattle.std.specs.Ordering.{nat_cmp}
use Rattle.std.specs.Cmp.{nat_cmp_total}
use Rattle.std.specs.FinMap as map
use Rattle.std.specs.FinMap.{nat_cmp-IsAntisymmetric}
use Rattle.std.specs.FinSet as set
use Rattle.std.proofs.lemmas.Bool.{lt-ltb}
use Rattle.std.proofs.lemmas.List.{length-map}
use Rattle.std.proofs.lemmas.List.Elements.{All-from_recursion}
use Rattle.f2_format.specs.Offsets.{inode_pages, direct_of, nodes_of_page, nodes_over, node_count}
use Rattle.f2_format.specs.Packing.{slots_of_name}
use Rattle.f2_model.specs.Content.{PAGE}
use Rattle.f2_model.specs.Rising.{rising}
use Rattle.f2_model.specs.Tree.{Rows, ROOT, names_under, names_in}
use Rattle.f2_model.specs.Count.{dentry_blocks, page_numbers, nodes_of_row, data_of_kind, data_of_row, nodes_of_tree, data_of_tree}
use Rattle.f2_model.specs.declared.rows.Row.{Row}
use Rattle.f2_model.specs.declared.rows.Kind.{Kind}
use Rattle.f2_model.specs.declared.rows.Kind.TheVariants.{Regular, Directory}
use Rattle.f2_laws.proofs.NewRows.{inserted_sum}
use Rattle.f2_laws.proofs.Maps.{get_put, get_put-other, get_taken, get_taken-other}
use Rattle.f2_laws.proofs.Places.{same_or_other}
use Rattle.f2_laws.proofs.Walks.{some_same, some_none}
use Rattle.f2_laid_laws.proofs.Members.{IsIn, all_of, from_range}
use Rattle.f2_plain_check.specs.Blocks.{HasNameLength}
use Rattle.f2_plain_check.proofs.Sixes.{six_names_a_block}
use Rattle.f2_flat.specs.Flat.{FILE_SIZE}
use Rattle.f2_flat.specs.Kept.{HasRootFiles, slots_of_row, slots_of_tree, pages_of_row, pages_of_tree}
use Rattle.f2_flat.proofs.Names.{under_few, under_slots, under_by, from_rising, rising_few, rising_slots, name_length}
use Rattle.f2_flat.proofs.Slots.{name_slots, slots_fill_blocks}
use Rattle.f2_flat.proofs.Sums.{sum_same, sum_agrees, sum_most}
use Rattle.f2_flat.proofs.Values.{each_in, value_at, entry_at}

flat_none : {X Y : Type 0} (f : X → List Y) (xs : List X) → AllByRecursion (λ x. f x ≡ []) xs → flat_map f xs ≡ []
flat_none f [] all = refl
flat_none f (x ∷ xs) all = ap (λ ys. ys ++ flat_map f xs) all.0 ∙ flat_none f xs all.1

-- Nodes.

one_node : set.len (set.from_list {R = nat_cmp} (0 ∷ [])) ≡ 1
one_node =
    set.len-insert nat_cmp_total set.empty 0
    ∙ ap (λ b. cond b (set.len (set.empty {R = nat_cmp})) (set.len (set.empty {R = nat_cmp}) + 1)) (set.contains-empty nat_cmp 0)
    ∙ ap (λ n. n + 1) (set.len-empty nat_cmp)

-- pages of an inode need no node below it
short_page : (page : ℕ) → page < inode_pages → nodes_of_page page ≡ []
unfolding direct_of
short_page page short = let first : nat_lt page inode_pages ≡ true = lt-ltb page inode_pages short in rw first refl

short_nodes : (pages : List ℕ) → AllByRecursion (λ page. page < inode_pages) pages → node_count pages ≡ 1
unfolding nodes_over
short_nodes pages short =
    let none = flat_none nodes_of_page pages (all_of (λ page. page < inode_pages) (λ page. nodes_of_page page ≡ []) short_page pages short) in
    ap (λ offsets. set.len (set.from_list {R = nat_cmp} (0 ∷ offsets))) none ∙ one_node

within_inode : (page size : ℕ) → page * PAGE < size → size ≤ FILE_SIZE → page < inode_pages
within_inode page size before small = omega (arith, before, small)

-- Dentry blocks.

few_blocks : (blocks names rows : ℕ) → blocks ≤ (names + 5) / 6 → names ≤ rows → blocks ≤ (rows + 5) / 6
few_blocks blocks names rows few less = omega (arith, few, less)

few_filled : (blocks names rows : ℕ) → blocks ≤ (names + 182) / 183 → names ≤ rows → blocks ≤ (rows + 182) / 183
few_filled blocks names rows few less = omega (arith, few, less)

pub length-values : (tree : Rows) → length (map.values tree) ≡ map.len tree
length-values tree = length-map (map.entries tree) (λ e. e.1) ∙ sym (map.len-entries tree)

-- Maps with one row put or taken.

module _ (tree : Rows) (ino : ℕ) where
  pub taken_put : (row : Row) → map.insert (map.remove tree ino) ino row ≡ map.insert tree ino row
  taken_put row = map.same_map nat_cmp_total nat_cmp-IsAntisymmetric _ _ (λ q. by_ino q (same_or_other q ino))
    where
      by_ino : (q : ℕ) → (q ≡ ino) ⊎ (q ≢ ino) → map.get (map.insert (map.remove tree ino) ino row) q ≡ map.get (map.insert tree ino row) q
      by_ino q (inl at) = ap (λ i. map.get (map.insert (map.remove tree ino) ino row) i) at ∙ get_put (map.remove tree ino) ino row ∙ sym (get_put tree ino row) ∙ ap (λ i. map.get (map.insert tree ino row) i) (sym at)
      by_ino q (inr other) = get_put-other (map.remove tree ino) ino row q other ∙ get_taken-other tree ino q other ∙ sym (get_put-other tree ino row q other)

  pub put_same : (row : Row) → map.get tree ino ≡ Some row → map.insert tree ino row ≡ tree
  put_same row there = map.same_map nat_cmp_total nat_cmp-IsAntisymmetric _ _ (λ q. by_ino q (same_or_other q ino))
    where
      by_ino : (q : ℕ) → (q ≡ ino) ⊎ (q ≢ ino) → map.get (map.insert tree ino row) q ≡ map.get tree q
      by_ino q (inl at) = ap (λ i. map.get (map.insert tree ino row) i) at ∙ get_put tree ino row ∙ sym there ∙ ap (λ i. map.get tree i) (sym at)
      by_ino q (inr other) = get_put-other tree ino row q other

  pub put_twice : (first second : Row) → map.insert (map.insert tree ino first) ino second ≡ map.insert tree ino second
  put_twice first second = map.same_map nat_cmp_total nat_cmp-IsAntisymmetric _ _ (λ q. by_ino q (same_or_other q ino))
    where
      by_ino : (q : ℕ) → (q ≡ ino) ⊎ (q ≢ ino) → map.get (map.insert (map.insert tree ino first) ino second) q ≡ map.get (map.insert tree ino second) q
      by_ino q (inl at) = ap (λ i. map.get (map.insert (map.insert tree ino first) ino second) i) at ∙ get_put (map.insert tree ino first) ino second ∙ sym (get_put tree ino second) ∙ ap (λ i. map.get (map.insert tree ino second) i) (sym at)
      by_ino q (inr other) = get_put-other (map.insert tree ino first) ino second q other ∙ get_put-other tree ino first q other ∙ sym (get_put-other tree ino second q other)

  pub put_taken : (row : Row) → map.get tree ino ≡ None → map.remove (map.insert tree ino row) ino ≡ tree
  put_taken row free = map.same_map nat_cmp_total nat_cmp-IsAntisymmetric _ _ (λ q. by_ino q (same_or_other q ino))
    where
      by_ino : (q : ℕ) → (q ≡ ino) ⊎ (q ≢ ino) → map.get (map.remove (map.insert tree ino row) ino) q ≡ map.get tree q
      by_ino q (inl at) = ap (λ i. map.get (map.remove (map.insert tree ino row) ino) i) at ∙ get_taken (map.insert tree ino row) ino ∙ sym free ∙ ap (λ i. map.get tree i) (sym at)
      by_ino q (inr other) = get_taken-other (map.insert tree ino row) ino q other ∙ get_put-other tree ino row q other

  -- a sum over the rows of a tree, with one of them apart
  pub sum_apart : (row : Row) (f : Row → ℕ) → map.get tree ino ≡ Some row → sum_by f (map.values tree) ≡ f row + sum_by f (map.values (map.remove tree ino))
  sum_apart row f there = ap (λ (t : Rows). sum_by f (map.values t)) (sym (taken_put row ∙ put_same row there)) ∙ inserted_sum (map.remove tree ino) ino row (get_taken tree ino) f

  pub sum_changed : (row : Row) (f : Row → ℕ) → sum_by f (map.values (map.insert tree ino row)) ≡ f row + sum_by f (map.values (map.remove tree ino))
  sum_changed row f = ap (λ (t : Rows). sum_by f (map.values t)) (sym (taken_put row)) ∙ inserted_sum (map.remove tree ino) ino row (get_taken tree ino) f

module _ (tree : Rows) (is : HasRootFiles tree) where
  abbrev rows : List Row
  rows = map.values tree

  abbrev root : Row
  root = is.good.root.0

  -- a row is the root, which has no name and no pages, or a file
  pub root_is : (row : Row) → map.get tree ROOT ≡ Some row → row ≡ root
  root_is row there = some_same (sym there ∙ is.good.root.1)

  root_pages : root.pages ≡ map.empty
  root_pages = ((is.good.pages ROOT root is.good.root.1).directory is.good.root.2.kind).1

  length_of : (name : List ℕ) (directory : ℕ) → IsIn name (names_under rows directory) → HasNameLength name
  length_of name directory there =
      let by = under_by rows directory name there in
      let at = value_at tree by.0 by.1 in
      let own : by.0.ino ≡ at.0 = is.good.keyed at.0 by.0 at.1 in
      let good = is.good.names at.0 by.0 at.1 (λ root. by.2 (own ∙ root)) in
      subst HasNameLength (sym by.3) (name_length by.0.name good)

  lengths : (directory : ℕ) → All HasNameLength (rising (names_in rows directory))
  lengths directory =
      let names = rising (names_in rows directory) in
      All-from_recursion HasNameLength names (each_in HasNameLength names (λ name there. length_of name directory (from_rising (names_under rows directory) name there)))

  pub blocks_few : (directory : ℕ) → dentry_blocks rows directory ≤ (map.len tree + 5) / 6
  blocks_few directory =
      let names = rising (names_in rows directory) in
      let fewer = rising_few (names_under rows directory) in
      let all = under_few rows directory in
      let len = length-values tree in
      few_blocks (dentry_blocks rows directory) (length names) (map.len tree) (six_names_a_block names (lengths directory)) (omega (arith, fewer, all, len))

  pub blocks_filled : (directory : ℕ) → dentry_blocks rows directory ≤ (slots_of_tree tree + 182) / 183
  blocks_filled directory =
      let names = rising (names_in rows directory) in
      let fewer = rising_slots (names_under rows directory) in
      let all = under_slots rows directory in
      few_filled (dentry_blocks rows directory) (sum_by slots_of_name names) (slots_of_tree tree) (slots_fill_blocks names (lengths directory)) (omega (arith, fewer, all))

  pub blocks_short : (directory : ℕ) → dentry_blocks rows directory < inode_pages
  blocks_short directory = short (dentry_blocks rows directory) (map.len tree) (blocks_few directory) is.few
    where
      short : (blocks n : ℕ) → blocks ≤ (n + 5) / 6 → n ≤ 5500 → blocks < inode_pages
      short blocks n few most = omega (arith, few, most)

  -- each page of a file is one of its inode
  pub page_short : (ino page : ℕ) (row : Row) (bytes : List ℕ) → map.get tree ino ≡ Some row → map.get row.pages page ≡ Some bytes → page < inode_pages
  page_short ino page row bytes there page_there =
      let good = is.good.pages ino row there in
      within_inode page row.size (good.before page bytes page_there) good.size

  row_nodes : (ino : ℕ) (row : Row) → map.get tree ino ≡ Some row → (kind : Kind) → node_count (page_numbers kind rows row) ≡ 1
  row_nodes ino row there Regular =
      short_nodes (map.keys row.pages) (each_in (λ page. page < inode_pages) (map.keys row.pages) (λ page is_key. let at = entry_at row.pages page is_key in page_short ino page row at.0 there at.1))
  row_nodes ino row there Directory =
      short_nodes (range_with_len 0 (dentry_blocks rows row.ino)) (each_in (λ page. page < inode_pages) (range_with_len 0 (dentry_blocks rows row.ino)) (λ page there.
      below page (dentry_blocks rows row.ino) (from_range 0 (dentry_blocks rows row.ino) page there).1 (blocks_short row.ino)))
    where
      below : (page blocks : ℕ) → page < 0 + blocks → blocks < inode_pages → page < inode_pages
      below page blocks a b = omega (arith, a, b)

  -- it has as many nodes as rows
  pub nodes_of : nodes_of_tree tree ≡ map.len tree
  nodes_of =
      let each = each_in (λ row. nodes_of_row rows row ≡ 1) rows (λ row there. let at = value_at tree row there in row_nodes at.0 row at.1 row.kind) in
      let sum = sum_same (nodes_of_row rows) 1 rows each in
      omega (arith, sum, length-values tree)

  -- all rows but the root's
  abbrev others : Rows
  others = map.remove tree ROOT

  other_data : (row : Row) → IsIn row (map.values others) → data_of_row rows row ≡ pages_of_row row
  other_data row there = let at = value_at others row there in by_ino at.0 at.1 (same_or_other at.0 ROOT)
    where
      by_ino : (ino : ℕ) → map.get others ino ≡ Some row → (ino ≡ ROOT) ⊎ (ino ≢ ROOT) → data_of_row rows row ≡ pages_of_row row
      by_ino ino at (inl same) = absurd (some_none (sym at ∙ ap (λ i. map.get others i) same ∙ get_taken tree ROOT))
      by_ino ino at (inr other) =
          let file = is.files ino row (sym (get_taken-other tree ROOT ino other) ∙ at) other in
          ap (λ kind. data_of_kind kind rows row) file.0

  -- its data blocks are the dentry blocks of the root, and the pages of the files
  pub data_of : data_of_tree tree ≡ dentry_blocks rows ROOT + pages_of_tree tree
  data_of =
      let all = sum_apart tree ROOT root (data_of_row rows) is.good.root.1 in
      let pages = sum_apart tree ROOT root pages_of_row is.good.root.1 in
      let rest = sum_agrees (data_of_row rows) pages_of_row (map.values others) (each_in (λ row. data_of_row rows row ≡ pages_of_row row) (map.values others) other_data) in
      let own : data_of_row rows root ≡ dentry_blocks rows ROOT = ap (λ kind. data_of_kind kind rows root) is.good.root.2.kind ∙ ap (λ ino. dentry_blocks rows ino) is.good.root.2.ino in
      let none : pages_of_row root ≡ 0 = ap map.len root_pages ∙ map.len-empty nat_cmp (List ℕ) in
      omega (arith, all, pages, rest, own, none)

  row_slots : (row : Row) → IsIn row rows → slots_of_row row ≤ 32
  row_slots row there = let at = value_at tree row there in by_ino at.0 at.1 (same_or_other at.0 ROOT)
    where
      empty : (row : Row) → row.name ≡ [] → slots_of_row row ≤ 32
      empty row none = let slots : slots_of_row row ≡ 0 = ap slots_of_name none in omega (arith, slots)

      by_ino : (ino : ℕ) → map.get tree ino ≡ Some row → (ino ≡ ROOT) ⊎ (ino ≢ ROOT) → slots_of_row row ≤ 32
      by_ino ino at (inl same) = empty row (ap (λ (r : Row). r.name) (root_is row (ap (λ i. map.get tree i) (sym same) ∙ at)) ∙ is.good.root.2.name)
      by_ino ino at (inr other) = (name_slots row.name (name_length row.name (is.good.names ino row at other))).few

  -- the slots of all names are few
  pub slots_few : slots_of_tree tree ≤ 32 * map.len tree
  slots_few =
      let sum = sum_most slots_of_row 32 rows (each_in (λ row. slots_of_row row ≤ 32) rows row_slots) in
      omega (arith, sum, length-values tree)
