-- The places at which a mount takes over a tree that needs nothing new.
use Rattle.std.proofs.Common.{◌≡◌, ◌≢◌, ◌⊎◌, inl, inr, ℕ, zero, suc, ◌+◌, ◌-◌, ◌*◌, ◌<◌, ◌≤◌, ◌==◌, nat_lt, Bool, true, false, cond, List, [], ◌∷◌, ◌++◌, length, map as map_list, Contains, IsSome, is_some, is_none, refl, sym, ap, ◌∙◌, subst, arith, true≢false}
use Rattle.std.specs.Prelude.{Option, Some, None}
use Rattle.std.specs.List.{flat_map}
use Rattle.std.specs.FinMap as map
use Rattle.std.specs.FinSet as set
use Rattle.std.proofs.lemmas.Option.{none-some}
use Rattle.std.proofs.lemmas.Bool.Decides.{nat_tests}
use Rattle.std.proofs.lemmas.List.{length-append, length-map}
use Rattle.f2_format.specs.Offsets.{page_limit, direct_of, nodes_of_page}
use Rattle.f2_format.specs.Dentry.{Dentry}
use Rattle.f2_format.specs.Footer.{footer_nid, footer_ino, footer_offset}
use Rattle.f2_format.specs.Geometry.{ImageGeometry, node_third, nid_limit}
use Rattle.f2_model.specs.Tree.{Rows}
use Rattle.f2_model.specs.State.{Mark, rolled, pair_cmp}
use Rattle.f2_model.specs.declared.rows.Row.{Row}
use Rattle.f2_image.specs.Images.{Image, IsSized, by_first, by_second}
use Rattle.f2_image.specs.Packs.{Checkpoint}
use Rattle.f2_image.specs.Nodes.{block_there, node, node_address, place_of_nid}
use Rattle.f2_image.specs.Chains.{Logged, chain, block_in, last_before, marked_address, IsMark}
use Rattle.f2_image.specs.Reached.{offset_below, nids_of_node, IsDirect, IsNode, IsTaken}
use Rattle.f2_image.specs.Reached as reached
use Rattle.f2_image.specs.Faults as faults
use Rattle.f2_image.specs.Faults.{ChainLong, VersionEnd}
use Rattle.f2_image.specs.Meanings.{MeansAt}
use Rattle.f2_image_laws.specs.Chained.{address_of}
use Rattle.f2_image_laws.proofs.BaseRows.{is_directory}
use Rattle.f2_image_laws.proofs.MarkRows as mark_rows
use Rattle.f2_image_laws.proofs.Numbers.{test_differs}
use Rattle.f2_image_laws.proofs.Sound.{no_bad_nat}
use Rattle.f2_stored.specs.Places.{NodeAt, Places}
use Rattle.f2_stored.specs.Trees.{IsTreeAt}
use Rattle.f2_place_laws.proofs.FlatLists.{in_flat, from_flat, from_map, numbers_below, in_numbers}
use Rattle.f2_place_laws.proofs.Decided.{at_most, not_other}
use Rattle.f2_place_laws.proofs.FoundEntries.{differing_keys}
use Rattle.f2_place_laws.proofs.Keys.{key_in, value_in, length-values}
use Rattle.f2_place_laws.proofs.Lists.{IsIn, in_map, each_in}
use Rattle.f2_place_laws.proofs.NamedNodes.{node_reached, in_base}
use Rattle.f2_place_laws.proofs.Options.{the_one}
use Rattle.f2_place_laws.proofs.ReadPages.{places}
use Rattle.f2_place_laws.proofs.ReadTree.{base_stands}
use Rattle.f2_place_laws.proofs.RowKeys.{key_there, there_key}
use Rattle.f2_place_laws.proofs.SoundNodes.{in_table, known as known_node}
use Rattle.f2_mount_laws.specs.Taken.{IsLastMark, IsUnmarked, IsNewNid, StaysOrComes, IsTakenNode, IsNeeded, inode, on_way, some_address}
use Rattle.f2_mount_laws.specs.Taken as taken
use Rattle.f2_mount_laws.specs.Existing.{Relaid, MayBeRelaid, HasRoomFor, IsTreePage, IsTreeNode}
use Rattle.f2_mount_laws.specs.Existing as existing
use Rattle.f2_mount_laws.proofs.Chosen.{chosen, chosen_is, is_chosen, all_chosen, key_got}
use Rattle.f2_mount_laws.proofs.WayKinds.{WayKind, names_some, is_direct, way_kind, way_some}
use Rattle.f2_mount_laws.proofs.Fresh.{free, free_differ, free_is, free_long, numbered, number_is, number_some, numbers_apart}
use Rattle.f2_mount_laws.proofs.LastPlaces.{LastBlock, found, none, last_block}
use Rattle.f2_mount_laws.proofs.Needs.{names_none, direct_from_page}
use Rattle.f2_mount_laws.proofs.Old.{base_page}
use Rattle.f2_mount_laws.proofs.OldWays.{way_in_base}
use Rattle.f2_mount_laws.proofs.Origins.{Origin, of_base, of_mark, origin}
use Rattle.f2_mount_laws.proofs.TakenNodes.{mark_nid}
use Rattle.f2_mount_laws.proofs.TakenPages.{address_some}
use Rattle.f2_mount_laws.proofs.Words.{direct_based, word_nowhere}

-- in one of two lists
pub in_front : {X : Type 0} (x : X) (xs ys : List X) → IsIn x xs → IsIn x (xs ++ ys)
in_front x [] ys h = absurd h
in_front x (z ∷ xs) ys (inl e) = inl e
in_front x (z ∷ xs) ys (inr h) = inr (in_front x xs ys h)

pub in_back : {X : Type 0} (x : X) (xs ys : List X) → IsIn x ys → IsIn x (xs ++ ys)
in_back x [] ys h = h
in_back x (z ∷ xs) ys h = inr (in_back x xs ys h)

pub from_both : {X : Type 0} (x : X) (xs ys : List X) → IsIn x (xs ++ ys) → IsIn x xs ⊎ IsIn x ys
from_both x [] ys h = inr h
from_both x (z ∷ xs) ys (inl e) = inl (inl e)
from_both x (z ∷ xs) ys (inr h) = elim (from_both x xs ys h) as (λ _. IsIn x (z ∷ xs) ⊎ IsIn x ys) [ inl there ↦ inl (inr there) | inr there ↦ inr there ]

-- a list has what stands in it
pub contains_of : {X : Type 0} (x : X) (xs : List X) → IsIn x xs → Contains xs x
contains_of x [] h = absurd h
contains_of x (y ∷ xs) (inl e) = (0, omega arith, sym e)
contains_of x (y ∷ xs) (inr h) = let later = contains_of x xs h in (suc later.0, omega (arith, later.1), later.2)

pub in_of : {X : Type 0} (x : X) (xs : List X) → Contains xs x → IsIn x xs
in_of x [] (k, small, is) = absurd (omega (arith, small))
in_of x (y ∷ xs) (zero, small, is) = inl (sym is)
in_of x (y ∷ xs) (suc k, small, is) = inr (in_of x xs (k, omega (arith, small), is))

-- the nid of a block of a log
in_chain : (log : List Logged) (place : ℕ) → place < length log → IsIn (footer_nid (block_in log place)) (map_list (λ (one : Logged). footer_nid one.block) log)
in_chain [] place small = absurd (omega (arith, small))
in_chain (one ∷ rest) zero small = inl refl
in_chain (one ∷ rest) (suc place) small = inr (in_chain rest place (omega (arith, small)))

-- an image has three nids for each node that it grants
nids_room : (image : Image) (geom : ImageGeometry) → IsSized image geom → 3 * node_third geom + 4 ≤ nid_limit geom
nids_room image geom (by_first right is) = subst (λ (e : ImageGeometry). 3 * node_third e + 4 ≤ nid_limit e) (sym is) right.geometry.nids
nids_room image geom (by_second wrong right is) = subst (λ (e : ImageGeometry). 3 * node_third e + 4 ≤ nid_limit e) (sym is) right.geometry.nids

-- each node that names others has a first slot
first_slot : (offset : ℕ) → 0 < nids_of_node offset
first_slot offset = grind (arith, nat_tests)

-- a number below another by a test
below_test : (n m : ℕ) → n < m → nat_lt n m ≡ true
below_test n m small = grind (arith, nat_tests, small)

not_below : (n m : ℕ) → nat_lt n m ≡ true → n < m
not_below n m e = grind (arith, nat_tests, e)

module _ (image : Image) (ckpt : Checkpoint) (base : Rows) (marks : List Mark) (means : MeansAt image ckpt base marks) (relaid : Relaid) (may : MayBeRelaid base (rolled base marks) relaid) (room : HasRoomFor image ckpt (rolled base marks) relaid) where
  abbrev pub old : Places
  old = places image ckpt means.sound base means.is_base

  pub old_stands : IsTreeAt image ckpt base old
  old_stands = base_stands image ckpt means.sound base means.is_base

  abbrev pub tree : Rows
  tree = rolled base marks

  origin_of : (ino : ℕ) → Origin image ckpt base ino tree
  origin_of ino = origin image ckpt base ino marks means.are_marks tree refl

  abbrev pub laid_test : ℕ → Bool
  laid_test ino = set.contains relaid.directories ino

  -- a row is laid out anew, the base's, or a marked file's
  pub data From (ino : ℕ) : Type 0 where
    is_laid : laid_test ino ≡ true → From ino
    is_base : laid_test ino ≡ false → IsUnmarked image ckpt ino → map.get tree ino ≡ map.get base ino → From ino
    is_mark : laid_test ino ≡ false → (place : ℕ) (mark : Mark) → IsLastMark image ckpt ino place → IsMark image ckpt base (chain image ckpt) place mark → mark.ino ≡ ino → map.get tree ino ≡ Some mark.row → From ino

  from_by : (ino : ℕ) → (b : Bool) → laid_test ino ≡ b → Origin image ckpt base ino tree → From ino
  from_by ino true e o = is_laid e
  from_by ino false e (of_base unmarked same) = is_base e unmarked same
  from_by ino false e (of_mark place mark last at own there) = is_mark e place mark last at own there

  pub from : (ino : ℕ) → From ino
  from ino = from_by ino (laid_test ino) refl (origin_of ino)

  -- the tree has the rows of the base
  row_by : (ino : ℕ) (o : Origin image ckpt base ino tree) → IsSome (map.get base ino) → IsSome (map.get tree ino)
  row_by ino (of_base unmarked same) row = ap is_some same ∙ row
  row_by ino (of_mark place mark last at own there) row = ap is_some there

  pub tree_row : (ino : ℕ) → IsSome (map.get base ino) → IsSome (map.get tree ino)
  tree_row ino row = row_by ino (origin_of ino) row

  pub laid_row : (ino : ℕ) → laid_test ino ≡ true → IsSome (map.get tree ino)
  laid_row ino isnew = tree_row ino (ap is_some (may.kinds ino isnew).1)

  -- no marked file is laid out anew
  out_by : (ino place : ℕ) → IsLastMark image ckpt ino place → Origin image ckpt base ino tree → laid_test ino ≡ true → ⊥
  out_by ino place last (of_base unmarked same) isnew = unmarked place (block_in (chain image ckpt) place) last.marked last.own
  out_by ino place last (of_mark other mark one at own there) isnew =
      let row = may.kinds ino isnew in
      mark_rows.no_directory image ckpt means.sound base means.is_base other mark at one.marked (is_directory image ckpt means.sound base means.is_base mark.ino row.0 (ap (map.get base) own ∙ row.1) row.2)

  pub not_laid : (ino place : ℕ) → IsLastMark image ckpt ino place → laid_test ino ≡ true → ⊥
  not_laid ino place last isnew = out_by ino place last (origin_of ino) isnew

  -- the pages
  abbrev pub marked_page : ℕ → ℕ → Option ℕ
  marked_page place page = cond (nat_lt page page_limit) (some_address (marked_address image ckpt (chain image ckpt) place page)) None

  abbrev pub page_by : (ino : ℕ) → From ino → ℕ → Option ℕ
  page_by ino (is_laid isnew) page = map.get relaid.pages (ino, page)
  page_by ino (is_base out unmarked same) page = map.get old.pages (ino, page)
  page_by ino (is_mark out place mark last at own there) page = marked_page place page

  abbrev pub page_of : ℕ × ℕ → Option ℕ
  page_of k = page_by k.0 (from k.0) k.1

  page_keys : List (ℕ × ℕ)
  page_keys = map.keys relaid.pages ++ (map.keys old.pages ++ flat_map (λ ino. map_list (λ page. (ino, page)) (numbers_below page_limit)) (map.keys tree))

  pub its_pages : map.FinMap pair_cmp ℕ
  its_pages = chosen page_of page_keys

  -- a file has one last mark
  same_place : (ino a b : ℕ) → IsLastMark image ckpt ino a → IsLastMark image ckpt ino b → a ≡ b
  same_place ino a b one other =
      let first = other.last a (block_in (chain image ckpt) a) one.marked one.own in
      let second = one.last b (block_in (chain image ckpt) b) other.marked other.own in
      omega (arith, first, second)

  page_laid : (ino page : ℕ) (o : From ino) → laid_test ino ≡ true → page_by ino o page ≡ map.get relaid.pages (ino, page)
  page_laid ino page (is_laid isnew) anew = refl
  page_laid ino page (is_base out unmarked same) anew = absurd (true≢false (sym anew ∙ out))
  page_laid ino page (is_mark out place mark last at own there) anew = absurd (true≢false (sym anew ∙ out))

  page_unmarked : (ino page : ℕ) (o : From ino) → IsUnmarked image ckpt ino → laid_test ino ≡ false → page_by ino o page ≡ map.get old.pages (ino, page)
  page_unmarked ino page (is_laid isnew) none_is off = absurd (true≢false (sym isnew ∙ off))
  page_unmarked ino page (is_base out unmarked same) none_is off = refl
  page_unmarked ino page (is_mark out place mark last at own there) none_is off = absurd (none_is place (block_in (chain image ckpt) place) last.marked last.own)

  page_marked : (ino page place : ℕ) (o : From ino) → IsLastMark image ckpt ino place → page_by ino o page ≡ marked_page place page
  page_marked ino page place (is_laid isnew) last = absurd (not_laid ino place last isnew)
  page_marked ino page place (is_base out unmarked same) last = absurd (unmarked place (block_in (chain image ckpt) place) last.marked last.own)
  page_marked ino page place (is_mark out other mark one at own there) last = ap (λ p. marked_page p page) (same_place ino other place one last)

  -- a page of a mark is within the limit
  pub within_limit : (place page at : ℕ) → marked_page place page ≡ Some at → (page < page_limit) × (marked_address image ckpt (chain image ckpt) place page ≡ at) × (at ≢ 0)
  within_limit place page at = by_test (nat_lt page page_limit) refl
    where
      by_test : (b : Bool) → nat_lt page page_limit ≡ b → cond b (some_address (marked_address image ckpt (chain image ckpt) place page)) None ≡ Some at
          → (page < page_limit) × (marked_address image ckpt (chain image ckpt) place page ≡ at) × (at ≢ 0)
      by_test true e is = let address = address_some at (marked_address image ckpt (chain image ckpt) place page) is in (not_below page page_limit e, address.0, address.1)
      by_test false e is = absurd (none-some at is)

  covers_by : (ino page at : ℕ) (o : From ino) → page_by ino o page ≡ Some at → IsIn (ino, page) page_keys
  unfolding page_keys
  covers_by ino page at (is_laid isnew) is = in_front (ino, page) (map.keys relaid.pages) _ (key_in relaid.pages (ino, page) at is)
  covers_by ino page at (is_base out unmarked same) is = in_back (ino, page) (map.keys relaid.pages) _ (in_front (ino, page) (map.keys old.pages) _ (key_in old.pages (ino, page) at is))
  covers_by ino page at (is_mark out place mark last is_marked own there) is =
      in_back (ino, page) (map.keys relaid.pages) _ (
      in_back (ino, page) (map.keys old.pages) _ (
      in_flat (λ i. map_list (λ p. (i, p)) (numbers_below page_limit)) ino (ino, page) (map.keys tree) (there_key tree ino (ap is_some there))
      (in_map (λ p. (ino, p)) page (numbers_below page_limit) (in_numbers page_limit page (within_limit place page at is).0))))

  pub pages_are : (k : ℕ × ℕ) → map.get its_pages k ≡ page_of k
  unfolding its_pages
  pages_are k = all_chosen page_of page_keys (λ j at is. covers_by j.0 j.1 at (from j.0) is) k

  pub laid_pages : (ino page : ℕ) → laid_test ino ≡ true → map.get its_pages (ino, page) ≡ map.get relaid.pages (ino, page)
  laid_pages ino page anew = pages_are (ino, page) ∙ page_laid ino page (from ino) anew

  pub kept_pages : (ino page : ℕ) → IsUnmarked image ckpt ino → laid_test ino ≡ false → map.get its_pages (ino, page) ≡ map.get old.pages (ino, page)
  kept_pages ino page unmarked off = pages_are (ino, page) ∙ page_unmarked ino page (from ino) unmarked off

  pub marked_pages : (ino place page : ℕ) → IsLastMark image ckpt ino place → page < page_limit → map.get its_pages (ino, page) ≡ some_address (marked_address image ckpt (chain image ckpt) place page)
  marked_pages ino place page last within =
      pages_are (ino, page) ∙ page_marked ino page place (from ino) last
      ∙ ap (λ b. cond b (some_address (marked_address image ckpt (chain image ckpt) place page)) None) (below_test page page_limit within)

  -- the nodes
  abbrev pub logged_node : (ino offset place : ℕ) → LastBlock (chain image ckpt) place ino offset → Option NodeAt
  logged_node ino offset place (found at is) = Some (record { nid = footer_nid (block_in (chain image ckpt) at); at = address_of (chain image ckpt) at })
  logged_node ino offset place (none is) = map.get old.nodes (ino, offset)

  abbrev pub below_node : (ino offset place : ℕ) → Bool → Option NodeAt
  below_node ino offset place is_upper = cond is_upper (map.get old.nodes (ino, offset)) (logged_node ino offset place (last_block (chain image ckpt) place ino offset))

  abbrev pub marked_node : (ino offset place : ℕ) → Option NodeAt
  marked_node ino offset place = cond (offset == 0) (Some (record { nid = ino; at = address_of (chain image ckpt) place })) (below_node ino offset place (is_some (offset_below offset 0)))

  abbrev pub node_by : (ino : ℕ) → From ino → ℕ → Option NodeAt
  node_by ino (is_laid isnew) offset = map.get old.nodes (ino, offset)
  node_by ino (is_base out unmarked same) offset = map.get old.nodes (ino, offset)
  node_by ino (is_mark out place mark last at own there) offset = marked_node ino offset place

  abbrev pub first_for : ℕ × ℕ → Option NodeAt
  first_for k = node_by k.0 (from k.0) k.1

  node_keys : List (ℕ × ℕ)
  node_keys = map_list (λ ino. (ino, 0)) (map.keys tree) ++ flat_map (λ (k : ℕ × ℕ). map_list (λ offset. (k.0, offset)) (nodes_of_page k.1)) (map.keys its_pages)

  -- those that neither base nor log has get new nids
  abbrev missing_for : ℕ × ℕ → Option ℕ
  missing_for k = cond (is_none (first_for k)) (Some 0) None

  missing : map.FinMap pair_cmp ℕ
  missing = chosen missing_for node_keys

  used : List ℕ
  used = map_list (λ (n : NodeAt). n.nid) (map.values old.nodes) ++ map_list (λ (one : Logged). footer_nid one.block) (chain image ckpt)

  fresh : List ℕ
  fresh = free used 4 (nid_limit ckpt.geom - 4)

  pub new_nids : map.FinMap pair_cmp ℕ
  new_nids = numbered (map.keys missing) fresh

  abbrev pub or_new : Option NodeAt → Option ℕ → Option NodeAt
  or_new (Some n) new = Some n
  or_new None None = None
  or_new None (Some nid) = Some (record { nid = nid; at = 0 })

  abbrev pub node_for : ℕ × ℕ → Option NodeAt
  node_for k = or_new (first_for k) (map.get new_nids k)

  pub its_nodes : map.FinMap pair_cmp NodeAt
  its_nodes = chosen node_for node_keys

  -- the dentries
  abbrev dentries_for : ℕ × ℕ → Option (List Dentry)
  dentries_for k = cond (laid_test k.0) (map.get relaid.dentries k) (map.get old.dentries k)

  dentry_keys : List (ℕ × ℕ)
  dentry_keys = map.keys relaid.dentries ++ map.keys old.dentries

  pub its_dentries : map.FinMap pair_cmp (List Dentry)
  its_dentries = chosen dentries_for dentry_keys

  dentry_listed : (k : ℕ × ℕ) (x : List Dentry) (b : Bool) → cond b (map.get relaid.dentries k) (map.get old.dentries k) ≡ Some x → IsIn k dentry_keys
  unfolding dentry_keys
  dentry_listed k x true is = in_front k (map.keys relaid.dentries) (map.keys old.dentries) (key_in relaid.dentries k x is)
  dentry_listed k x false is = in_back k (map.keys relaid.dentries) (map.keys old.dentries) (key_in old.dentries k x is)

  pub dentries_are : (k : ℕ × ℕ) → map.get its_dentries k ≡ dentries_for k
  unfolding its_dentries
  dentries_are k = all_chosen dentries_for dentry_keys (λ j x is. dentry_listed j x (laid_test j.0) is) k

  abbrev pub its : Places
  its = record { nodes = its_nodes; pages = its_pages; dentries = its_dentries }

  needed_by : (k : ℕ × ℕ) → (IsIn k (map_list (λ ino. (ino, 0)) (map.keys tree)) ⊎ IsIn k (flat_map (λ (j : ℕ × ℕ). map_list (λ offset. (j.0, offset)) (nodes_of_page j.1)) (map.keys its_pages))) → IsNeeded tree its k.0 k.1
  needed_by k (inl listed) =
      let at = from_map (λ ino. (ino, 0)) k (map.keys tree) listed in
      let row : IsSome (map.get tree at.0) = key_there tree at.0 at.1 in
      inode (ap (λ (j : ℕ × ℕ). j.1) at.2) (ap (λ (j : ℕ × ℕ). is_some (map.get tree j.0)) at.2 ∙ row)
  needed_by k (inr listed) =
      let page = from_flat (λ (j : ℕ × ℕ). map_list (λ offset. (j.0, offset)) (nodes_of_page j.1)) k (map.keys its_pages) listed in
      let offset = from_map (λ o. (page.0.0, o)) k (nodes_of_page page.0.1) page.2 in
      let same_ino : k.0 ≡ page.0.0 = ap (λ (j : ℕ × ℕ). j.0) offset.2 in
      let same_offset : k.1 ≡ offset.0 = ap (λ (j : ℕ × ℕ). j.1) offset.2 in
      on_way page.0.1 (ap (λ i. is_some (map.get its_pages (i, page.0.1))) same_ino ∙ key_got its_pages page.0 page.1) (subst (Contains (nodes_of_page page.0.1)) (sym same_offset) (contains_of offset.0 (nodes_of_page page.0.1) offset.1))

  key_needed : (k : ℕ × ℕ) → IsIn k node_keys → IsNeeded tree its k.0 k.1
  unfolding node_keys
  key_needed k listed = needed_by k (from_both k (map_list (λ ino. (ino, 0)) (map.keys tree)) (flat_map (λ (j : ℕ × ℕ). map_list (λ offset. (j.0, offset)) (nodes_of_page j.1)) (map.keys its_pages)) listed)

  needed_key : (ino offset : ℕ) → IsNeeded tree its ino offset → IsIn (ino, offset) node_keys
  unfolding node_keys
  needed_key ino offset (inode first row) =
      let listed = in_map (λ i. (i, 0)) ino (map.keys tree) (there_key tree ino row) in
      in_front (ino, offset) (map_list (λ i. (i, 0)) (map.keys tree)) _ (subst (λ o. IsIn {X = ℕ × ℕ} (ino, o) (map_list (λ i. (i, 0)) (map.keys tree))) (sym first) listed)
  needed_key ino offset (on_way page there way) =
      let at = the_one (map.get its_pages (ino, page)) there in
      in_back (ino, offset) (map_list (λ i. (i, 0)) (map.keys tree)) _ (
      in_flat (λ (j : ℕ × ℕ). map_list (λ o. (j.0, o)) (nodes_of_page j.1)) (ino, page) (ino, offset) (map.keys its_pages) (key_in its_pages (ino, page) at.0 at.1)
      (in_map (λ o. (ino, o)) offset (nodes_of_page page) (in_of offset (nodes_of_page page) way)))

  -- an offset that names others is no direct node's
  pub no_direct : (offset : ℕ) → IsSome (offset_below offset 0) → ¬ (IsDirect offset)
  no_direct offset some direct =
      let low = the_one (offset_below offset 0) some in
      names_none offset 0 low.0 direct (first_slot offset) low.1

  direct_names_none : (page offset : ℕ) → direct_of page ≡ Some offset → is_some (offset_below offset 0) ≡ false
  direct_names_none page offset direct = by_test (is_some (offset_below offset 0)) refl
    where
      by_test : (b : Bool) → is_some (offset_below offset 0) ≡ b → b ≡ false
      by_test false e = refl
      by_test true e = absurd (no_direct offset e (direct_from_page page offset direct))

  -- a node that neither has is one that may be new
  pub record IsMissing (ino offset : ℕ) : Type 0 where
    pub absent : map.get old.nodes (ino, offset) ≡ None
    pub may_come : (n : NodeAt) → StaysOrComes image ckpt old ino offset n → IsTakenNode image ckpt old relaid.directories ino offset n

  abbrev marked_inode : ℕ → ℕ → NodeAt
  marked_inode ino place = record { nid = ino; at = address_of (chain image ckpt) place }

  off_inode : (ino offset place : ℕ) → offset ≢ 0 → marked_node ino offset place ≡ below_node ino offset place (is_some (offset_below offset 0))
  off_inode ino offset place other = ap (λ b. cond b (Some (marked_inode ino place)) (below_node ino offset place (is_some (offset_below offset 0)))) (test_differs offset 0 other)

  -- a file that the base hasn't has no node in it
  no_node : (ino place : ℕ) → IsLastMark image ckpt ino place → map.get base ino ≡ None → node image ckpt ino ≡ None
  no_node ino place last absent = ap (block_there image) (not_other (node_address image ckpt ino) 0 some_address_none)
    where
      taken_block : IsTaken image ckpt place (block_in (chain image ckpt) place)
      taken_block = reached.marked last.marked

      no_other : (file offset : ℕ) → IsNode image ckpt file offset ino → (footer_ino (block_in (chain image ckpt) place) ≢ file) ⊎ (footer_offset (block_in (chain image ckpt) place) ≢ offset) → ⊥
      no_other file offset is differ = no_bad_nat image ckpt means.sound ino (faults.taken place (block_in (chain image ckpt) place) file offset taken_block (mark_nid image ckpt means.sound ino place last) (faults.in_base is) differ)

      not_there : (file offset : ℕ) → IsNode image ckpt file offset ino → ⊥
      not_there file offset is =
          let own : ino ≡ file = sym last.own ∙ not_other (footer_ino (block_in (chain image ckpt) place)) file (λ differ. no_other file offset is (inl differ)) in
          true≢false (sym (in_base image ckpt base means.is_base file (node_reached image ckpt file offset ino is)) ∙ ap (λ i. is_some (map.get base i)) (sym own) ∙ ap is_some absent)

      some_address_none : ¬ (node_address image ckpt ino ≢ 0)
      some_address_none some =
          let given = in_table ino (nid_limit ckpt.geom) (place_of_nid image ckpt ino).1 some in
          known_node image ckpt means.sound ino (record { within = given.1; some = λ none_at. some (given.2 ∙ none_at) }) (λ is. not_there _ _ is)

  direct_there : (ino offset place page at : ℕ) → IsLastMark image ckpt ino place → marked_address image ckpt (chain image ckpt) place page ≡ at → at ≢ 0 → direct_of page ≡ Some offset
      → last_before (chain image ckpt) (place + 1) ino offset ≡ None → (o : Option Row) → map.get base ino ≡ o → IsSome (map.get old.nodes (ino, offset))
  direct_there ino offset place page at last address some direct is (Some row) e =
      direct_based image ckpt (chain image ckpt) place ino page offset last.own direct base means.is_base old old_stands row e is (λ zero_at. some (sym address ∙ zero_at))
  direct_there ino offset place page at last address some direct is None e =
      absurd (some (sym address ∙ word_nowhere image ckpt (chain image ckpt) place ino page offset last.own direct (no_node ino place last e) is))

  marked_none : (ino offset place page at : ℕ) → IsLastMark image ckpt ino place → marked_address image ckpt (chain image ckpt) place page ≡ at → at ≢ 0
      → offset ≢ 0 → WayKind page offset → marked_node ino offset place ≡ None → IsMissing ino offset
  marked_none ino offset place page at last address some other (names_some upper) absent = record {
    absent = sym (off_inode ino offset place other ∙ ap (below_node ino offset place) upper) ∙ absent;
    may_come = λ n own. taken.marked place last (taken.indirect other (no_direct offset upper) own);
  }
  marked_none ino offset place page at last address some other (is_direct direct) absent =
      absurd (by_last (last_block (chain image ckpt) place ino offset) (sym (off_inode ino offset place other ∙ ap (below_node ino offset place) (direct_names_none page offset direct)) ∙ absent))
    where
      by_last : (b : LastBlock (chain image ckpt) place ino offset) → logged_node ino offset place b ≡ None → ⊥
      by_last (found a is) e = none-some _ (sym e)
      by_last (none is) e = true≢false (sym (direct_there ino offset place page at last address some direct is (map.get base ino) refl) ∙ ap is_some e)

  inode_none : (ino : ℕ) (o : From ino) → IsSome (map.get tree ino) → node_by ino o 0 ≡ None → ⊥
  inode_none ino (is_laid isnew) row absent = let its_row = may.kinds ino isnew in true≢false (sym (old_stands.laid.inodes ino its_row.0 its_row.1) ∙ ap is_some absent)
  inode_none ino (is_base out unmarked same) row absent =
      let its_row = the_one (map.get base ino) (sym (ap is_some same) ∙ row) in
      true≢false (sym (old_stands.laid.inodes ino its_row.0 its_row.1) ∙ ap is_some absent)
  inode_none ino (is_mark out place mark last at own there) row absent = none-some (marked_inode ino place) (sym absent)

  way_none : (ino page at offset : ℕ) (o : From ino) → page_by ino o page ≡ Some at → Contains (nodes_of_page page) offset → node_by ino o offset ≡ None → IsMissing ino offset
  way_none ino page at offset (is_laid isnew) is way absent = record { absent = absent; may_come = λ n own. taken.laid isnew own }
  way_none ino page at offset (is_base out unmarked same) is way absent =
      absurd (true≢false (sym (way_in_base image ckpt base old old_stands ino page offset (ap is_some is) way) ∙ ap is_some absent))
  way_none ino page at offset (is_mark out place mark last is_marked own there) is way absent =
      let within = within_limit place page at is in
      marked_none ino offset place page at last within.1 within.2 (way_some page offset way) (way_kind page offset way) absent

  pub missing_is : (ino offset : ℕ) → IsNeeded tree its ino offset → first_for (ino, offset) ≡ None → IsMissing ino offset
  missing_is ino offset (inode first row) absent = absurd (inode_none ino (from ino) row (ap (λ o. first_for (ino, o)) (sym first) ∙ absent))
  missing_is ino offset (on_way page there way) absent =
      let at = the_one (map.get its_pages (ino, page)) there in
      way_none ino page at.0 offset (from ino) (sym (pages_are (ino, page)) ∙ at.1) way absent

  -- each page is one of the tree, and each node that is needed
  page_by_tree : (ino page at : ℕ) (o : From ino) → page_by ino o page ≡ Some at → IsTreePage image ckpt relaid ino page at
  page_by_tree ino page at (is_laid isnew) is = existing.laid is
  page_by_tree ino page at (is_base out unmarked same) is = existing.kept out unmarked (base_page image ckpt base means.is_base old old_stands ino page at is)
  page_by_tree ino page at (is_mark out place mark last is_marked own there) is = let within = within_limit place page at is in existing.marked place last within.0 within.1 within.2

  pub tree_page : (ino page at : ℕ) → map.get its_pages (ino, page) ≡ Some at → IsTreePage image ckpt relaid ino page at
  tree_page ino page at there = page_by_tree ino page at (from ino) (sym (pages_are (ino, page)) ∙ there)

  pub tree_node : (at : ℕ × ℕ) → IsNeeded tree its at.0 at.1 → IsTreeNode image ckpt tree relaid at
  tree_node at (inode first row) = existing.inode first row
  tree_node at (on_way page there way) =
      let address = the_one (map.get its_pages (at.0, page)) there in
      existing.on_way page address.0 (tree_page at.0 page address.0 address.1) way

  -- there are enough new nids
  missing_needed : (at : ℕ × ℕ) → IsIn at (map.keys missing) → IsTreeNode image ckpt tree relaid at
  unfolding missing
  missing_needed at listed =
      let there = the_one (map.get missing at) (key_got missing at listed) in
      tree_node at (key_needed at (chosen_is missing_for node_keys at there.0 there.1).0)

  few_missing : length (map.keys missing) ≤ node_third ckpt.geom
  few_missing = at_most (length (map.keys missing)) (node_third ckpt.geom) (λ more.
      room.nodes (record { some = map.keys missing; differ = differing_keys missing; all = each_in (IsTreeNode image ckpt tree relaid) (map.keys missing) missing_needed; more = more }))

  chain_short : length (chain image ckpt) ≤ node_third ckpt.geom
  chain_short = at_most (length (chain image ckpt)) (node_third ckpt.geom) (λ more. means.sound ChainLong _ not_end (more, refl))
    where
      not_end : ChainLong ≢ VersionEnd
      not_end e = cc

  used_long : length used ≤ node_third ckpt.geom + node_third ckpt.geom
  unfolding used
  used_long =
      let both = length-append (map_list (λ (n : NodeAt). n.nid) (map.values old.nodes)) (map_list (λ (one : Logged). footer_nid one.block) (chain image ckpt)) in
      let first = length-map (map.values old.nodes) (λ (n : NodeAt). n.nid) in
      let second = length-map (chain image ckpt) (λ (one : Logged). footer_nid one.block) in
      let values = length-values old.nodes in
      let few = old_stands.laid.few_nodes in
      let short = chain_short in
      omega (arith, both, first, second, values, few, short)

  enough : length (map.keys missing) ≤ length fresh
  unfolding fresh
  enough =
      let three = nids_room image ckpt.geom means.checkpoint.sized in
      let long = free_long used 4 (nid_limit ckpt.geom - 4) in
      let in_use = used_long in
      let few = few_missing in
      omega (arith, three, long, in_use, few)

  -- each node that is needed is there
  or_some : (o : Option NodeAt) (m : Option ℕ) → (o ≡ None → IsSome m) → IsSome (or_new o m)
  or_some (Some n) m has = refl
  or_some None None has = absurd (true≢false (sym (has refl)))
  or_some None (Some nid) has = refl

  missing_listed : (ino offset : ℕ) → IsNeeded tree its ino offset → first_for (ino, offset) ≡ None → IsIn (ino, offset) (map.keys missing)
  unfolding missing
  missing_listed ino offset need absent =
      key_in missing (ino, offset) 0 (is_chosen missing_for node_keys (ino, offset) 0 (needed_key ino offset need) (ap (λ o. cond (is_none o) (Some 0) None) absent))

  node_some : (ino offset : ℕ) → IsNeeded tree its ino offset → IsSome (node_for (ino, offset))
  unfolding new_nids
  node_some ino offset need =
      or_some (first_for (ino, offset)) (map.get new_nids (ino, offset)) (λ absent. number_some (map.keys missing) fresh enough (ino, offset) (missing_listed ino offset need absent))

  pub all_needed : (ino offset : ℕ) → IsNeeded tree its ino offset → IsSome (map.get its_nodes (ino, offset))
  unfolding its_nodes
  all_needed ino offset need =
      let n = the_one (node_for (ino, offset)) (node_some ino offset need) in
      ap is_some (is_chosen node_for node_keys (ino, offset) n.0 (needed_key ino offset need) n.1)

  pub needed : (ino offset : ℕ) → IsSome (map.get its_nodes (ino, offset)) → IsNeeded tree its ino offset
  unfolding its_nodes
  needed ino offset there =
      let n = the_one (map.get its_nodes (ino, offset)) there in
      key_needed (ino, offset) (chosen_is node_for node_keys (ino, offset) n.0 n.1).0

  pub node_chosen : (ino offset : ℕ) (n : NodeAt) → map.get its_nodes (ino, offset) ≡ Some n → node_for (ino, offset) ≡ Some n
  unfolding its_nodes
  node_chosen ino offset n there = (chosen_is node_for node_keys (ino, offset) n there).1

  -- a new nid is none of base and log
  pub nid_is_new : (ino offset nid : ℕ) → map.get new_nids (ino, offset) ≡ Some nid → IsNewNid image ckpt old nid
  unfolding new_nids fresh used
  nid_is_new ino offset nid there =
      let own = free_is used 4 (nid_limit ckpt.geom - 4) nid (number_is (map.keys missing) fresh (ino, offset) nid there).1 in
      let nids = map_list (λ (n : NodeAt). n.nid) (map.values old.nodes) in
      let logged = map_list (λ (one : Logged). footer_nid one.block) (chain image ckpt) in
      let below = own.1 in
      let three = nids_room image ckpt.geom means.checkpoint.sized in
      record {
        least = own.0;
        most = omega (arith, below, three);
        no_base = λ file other n at same. own.2 (in_front nid nids logged (subst (λ k. IsIn k nids) same (in_map (λ (m : NodeAt). m.nid) n (map.values old.nodes) (value_in old.nodes (file, other) n at))));
        no_log = λ place small same. own.2 (in_back nid nids logged (subst (λ k. IsIn k logged) same (in_chain (chain image ckpt) place small)));
      }

  pub new_apart : (k j : ℕ × ℕ) (n m : ℕ) → map.get new_nids k ≡ Some n → map.get new_nids j ≡ Some m → n ≡ m → k ≡ j
  unfolding new_nids fresh
  new_apart k j n m there too same = numbers_apart (map.keys missing) fresh (free_differ used 4 (nid_limit ckpt.geom - 4)) k j n m there too same
