-- A tree that needs nothing new is taken over.
use Rattle.std.proofs.Common.{slice_get, [], ◌≡◌, ◌≢◌, ◌⊎◌, inl, inr, ℕ, ◌<◌, ◌≤◌, ◌==◌, ◌&&◌, ◌||◌, Bool, true, false, cond, List, IsSome, is_some, is_none, refl, sym, ap, ◌∙◌, subst, arith, true≢false, eq-eqb}
use Rattle.std.specs.Prelude.{Option, Some, None}
use Rattle.std.specs.List.{list_any}
use Rattle.std.specs.Ordering.{nat_cmp}
use Rattle.std.specs.FinMap as map
use Rattle.std.specs.FinSet as set
use Rattle.std.proofs.lemmas.Bool.{and_parts, and_from}
use Rattle.std.proofs.lemmas.Option.{none-some, same_Some}
use Rattle.f2_format.specs.Offsets.{page_limit}
use Rattle.f2_format.specs.Geometry.{node_third, data_third}
use Rattle.f2_format.specs.Footer.{footer_nid}
use Rattle.f2_format.specs.Dentry.{Dentry}
use Rattle.std.specs.Option.{unwrap_or}
use Rattle.f2_model.specs.State.{rolled}
use Rattle.f2_model.specs.Tree.{Rows}
use Rattle.f2_model.specs.State.{Mark, Inos, Pairs}
use Rattle.f2_image.specs.Images.{Image}
use Rattle.f2_image.specs.Packs.{Checkpoint}
use Rattle.f2_image.specs.Chains.{chain, block_in}
use Rattle.f2_image.specs.Reached.{offset_below, IsDirect}
use Rattle.f2_image.specs.Meanings.{MeansAt}
use Rattle.f2_image_laws.specs.Chained.{address_of}
use Rattle.f2_image_laws.proofs.Numbers.{same_of, differ_of}
use Rattle.f2_stored.specs.Places.{NodeAt, Places, dentries_at, IsDentryAt, HasNames}
use Rattle.f2_stored.specs.Trees.{Unwritten}
use Rattle.f2_place_laws.proofs.Decided.{at_most}
use Rattle.f2_place_laws.proofs.FoundEntries.{differing_keys}
use Rattle.f2_place_laws.proofs.Keys.{key_in, length-keys}
use Rattle.f2_place_laws.proofs.Lists.{IsIn, each_in}
use Rattle.f2_place_laws.proofs.Options.{the_one}
use Rattle.f2_mount_laws.specs.Taken.{IsLastMark, IsNewNid, IsMarkedNode, IsTakenNode, IsNeeded, IsThinned, IsToWrite, IsTakenOver, HasBlock}
use Rattle.f2_mount_laws.specs.Taken as taken
use Rattle.f2_mount_laws.specs.Existing.{Relaid, places_of, MayBeRelaid, HasRoomFor, IsTreePage, IsSomeTreePage, IsTreeNode, TreesAreTakenOver}
use Rattle.f2_mount_laws.proofs.Chosen.{key_got, some_test, from_test, passing, passes, passed}
use Rattle.f2_mount_laws.proofs.LastPlaces.{LastBlock, found, none, last_block}
use Rattle.f2_mount_laws.proofs.Needs.{direct_from_page}
use Rattle.f2_mount_laws.proofs.TakenNodes.{mark_nid}
use Rattle.f2_mount_laws.proofs.Takes.{old, old_stands, tree, From, from, page_by, pages_are, kept_pages, marked_pages, within_limit, logged_node, below_node, node_by, its, no_direct, all_needed, needed, node_chosen, first_for, or_new, new_nids, IsMissing, missing_is, tree_page, tree_node, nid_is_new, new_apart as nids_differ, is_laid, is_base, is_mark, not_laid, laid_row, tree_row, laid_pages, dentries_are}
use Rattle.f2_mount_laws.proofs.WayKinds.{WayKind, names_some, is_direct, way_kind, inode_names}

no_ino : (ino : ℕ) → set.contains {R = nat_cmp} set.empty ino ≡ false
no_ino ino = set.contains-empty nat_cmp ino

module _ (image : Image) (ckpt : Checkpoint) (base : Rows) (marks : List Mark) (means : MeansAt image ckpt base marks) (relaid : Relaid) (may : MayBeRelaid base (rolled base marks) relaid) (room : HasRoomFor image ckpt (rolled base marks) relaid) where
  abbrev no_anew : Inos
  no_anew = relaid.directories

  abbrev Old : Places
  Old = old image ckpt base marks means relaid may room

  abbrev Its : Places
  Its = its image ckpt base marks means relaid may room

  abbrev Tree : Rows
  Tree = tree image ckpt base marks means relaid may room

  abbrev its_from : (ino : ℕ) → From image ckpt base marks means relaid may room ino
  its_from ino = from image ckpt base marks means relaid may room ino

  -- a nid is of the base or of the log, or a new one
  data NidIs (ino offset : ℕ) (n : NodeAt) : Type 0 where
    known : ¬ (IsNewNid image ckpt Old n.nid) → NidIs ino offset n
    fresh : map.get (new_nids image ckpt base marks means relaid may room) (ino, offset) ≡ Some n.nid → NidIs ino offset n

  -- each node is taken over as it should
  abbrev Marked : (ino offset place : ℕ) → NodeAt → Type 0
  Marked ino offset place n = IsMarkedNode image ckpt Old place ino offset n × ¬ (IsNewNid image ckpt Old n.nid)

  abbrev Taken : ℕ → ℕ → NodeAt → Type 0
  Taken ino offset n = IsTakenNode image ckpt Old no_anew ino offset n × NidIs ino offset n

  known_in_base : (ino offset : ℕ) (n : NodeAt) → map.get Old.nodes (ino, offset) ≡ Some n → ¬ (IsNewNid image ckpt Old n.nid)
  known_in_base ino offset n there own = own.no_base ino offset n there refl

  direct_by : (ino offset place : ℕ) (n : NodeAt) → IsLastMark image ckpt ino place → IsDirect offset → (b : LastBlock (chain image ckpt) place ino offset)
      → logged_node image ckpt base marks means relaid may room ino offset place b ≡ Some n → Marked ino offset place n
  direct_by ino offset place n last direct (found at is) e =
      let same : record { nid = footer_nid (block_in (chain image ckpt) at); at = address_of (chain image ckpt) at } ≡ n = same_Some (record { nid = footer_nid (block_in (chain image ckpt) at); at = address_of (chain image ckpt) at }) n e in
      let before = is.before in
      let limit = last.marked.within in
      let nid : n.nid ≡ footer_nid (block_in (chain image ckpt) at) = ap (λ (m : NodeAt). m.nid) (sym same) in
      (taken.logged at direct is nid (ap (λ (m : NodeAt). m.at) (sym same)), λ own. own.no_log at (omega (arith, before, limit)) (sym nid))
  direct_by ino offset place n last direct (none is) e = (taken.based direct is e, known_in_base ino offset n e)

  below_by : (ino offset place page : ℕ) (n : NodeAt) → IsLastMark image ckpt ino place → offset ≢ 0 → WayKind page offset → (b : Bool) → is_some (offset_below offset 0) ≡ b
      → below_node image ckpt base marks means relaid may room ino offset place b ≡ Some n → Marked ino offset place n
  below_by ino offset place page n last other (is_direct direct) true e there = absurd (no_direct image ckpt base marks means relaid may room offset e (direct_from_page page offset direct))
  below_by ino offset place page n last other (is_direct direct) false e there = direct_by ino offset place n last (direct_from_page page offset direct) (last_block (chain image ckpt) place ino offset) there
  below_by ino offset place page n last other (names_some upper) true e there =
      (taken.indirect other (no_direct image ckpt base marks means relaid may room offset upper) (taken.stays there), known_in_base ino offset n there)
  below_by ino offset place page n last other (names_some upper) false e there = absurd (true≢false (sym upper ∙ e))

  abbrev marked_inode : ℕ → ℕ → NodeAt
  marked_inode ino place = record { nid = ino; at = address_of (chain image ckpt) place }

  marked_by : (ino offset place : ℕ) (n : NodeAt) → IsLastMark image ckpt ino place → IsNeeded Tree Its ino offset → (b : Bool) → (offset == 0) ≡ b
      → cond b (Some (marked_inode ino place)) (below_node image ckpt base marks means relaid may room ino offset place (is_some (offset_below offset 0))) ≡ Some n → Marked ino offset place n
  marked_by ino offset place n last need true e there =
      let same = same_Some (marked_inode ino place) n there in
      let nid : n.nid ≡ ino = ap (λ (m : NodeAt). m.nid) (sym same) in (
        taken.inode (same_of offset 0 e) nid (ap (λ (m : NodeAt). m.at) (sym same)),
        λ own. own.no_log place last.marked.within (mark_nid image ckpt means.sound ino place last ∙ sym nid),
      )
  marked_by ino offset place n last (taken.inode first row) false e there = absurd (differ_of offset 0 e first)
  marked_by ino offset place n last (taken.on_way page has way) false e there =
      below_by ino offset place page n last (differ_of offset 0 e) (way_kind page offset way) (is_some (offset_below offset 0)) refl there

  taken_by : (ino offset : ℕ) (n : NodeAt) → IsNeeded Tree Its ino offset → (o : From image ckpt base marks means relaid may room ino) → node_by image ckpt base marks means relaid may room ino o offset ≡ Some n → Taken ino offset n
  taken_by ino offset n need (is_laid anew) there = (taken.laid anew (taken.stays there), known (known_in_base ino offset n there))
  taken_by ino offset n need (is_base out unmarked same) there = (taken.kept unmarked out there, known (known_in_base ino offset n there))
  taken_by ino offset n need (is_mark out place mark last at own its_row) there =
      let is = marked_by ino offset place n last need (offset == 0) refl there in
      (taken.marked place last is.0, known is.1)

  -- a new one
  new_by : (ino offset nid : ℕ) (n : NodeAt) → IsMissing image ckpt base marks means relaid may room ino offset → map.get (new_nids image ckpt base marks means relaid may room) (ino, offset) ≡ Some nid → record { nid = nid; at = 0 } ≡ n → Taken ino offset n
  new_by ino offset nid n lacks there same =
      let nids : nid ≡ n.nid = ap (λ (m : NodeAt). m.nid) same in
      let nowhere : n.at ≡ 0 = ap (λ (m : NodeAt). m.at) (sym same) in
      let own : IsNewNid image ckpt Old n.nid = subst (IsNewNid image ckpt Old) nids (nid_is_new image ckpt base marks means relaid may room ino offset nid there) in
      (lacks.may_come n (taken.comes lacks.absent nowhere own), fresh (there ∙ ap Some nids))

  node_taken : (ino offset : ℕ) (n : NodeAt) → map.get Its.nodes (ino, offset) ≡ Some n → Taken ino offset n
  node_taken ino offset n there =
      by_first (first_for image ckpt base marks means relaid may room (ino, offset)) refl (map.get (new_nids image ckpt base marks means relaid may room) (ino, offset)) refl (node_chosen image ckpt base marks means relaid may room ino offset n there)
    where
      need : IsNeeded Tree Its ino offset
      need = needed image ckpt base marks means relaid may room ino offset (ap is_some there)

      by_first : (o : Option NodeAt) → first_for image ckpt base marks means relaid may room (ino, offset) ≡ o → (m : Option ℕ) → map.get (new_nids image ckpt base marks means relaid may room) (ino, offset) ≡ m
          → or_new image ckpt base marks means relaid may room o m ≡ Some n → Taken ino offset n
      by_first (Some k) e m f is = taken_by ino offset n need (its_from ino) (e ∙ is)
      by_first None e None f is = absurd (none-some n is)
      by_first None e (Some nid) f is = new_by ino offset nid n (missing_is image ckpt base marks means relaid may room ino offset need e) f (same_Some (record { nid = nid; at = 0 }) n is)

  apart_by : (one other : ℕ × ℕ) (a b : NodeAt) → IsNewNid image ckpt Old a.nid → a.nid ≡ b.nid → NidIs one.0 one.1 a → NidIs other.0 other.1 b → one ≡ other
  apart_by one other a b own same (known never) q = absurd (never own)
  apart_by one other a b own same p (known never) = absurd (never (subst (IsNewNid image ckpt Old) same own))
  apart_by one other a b own same (fresh p) (fresh q) = nids_differ image ckpt base marks means relaid may room one other a.nid b.nid p q same

  -- each page is one of the tree
  page_of_tree : (ino page at : ℕ) → map.get Its.pages (ino, page) ≡ Some at → IsTreePage image ckpt relaid ino page at
  page_of_tree ino page at there = tree_page image ckpt base marks means relaid may room ino page at there

  -- a third of each zone holds them
  tree_nodes : (at : ℕ × ℕ) → IsIn at (map.keys Its.nodes) → IsTreeNode image ckpt (rolled base marks) relaid at
  tree_nodes at listed = tree_node image ckpt base marks means relaid may room at (needed image ckpt base marks means relaid may room at.0 at.1 (key_got Its.nodes at listed))

  few_nodes : map.len Its.nodes ≤ node_third ckpt.geom
  few_nodes = at_most (map.len Its.nodes) (node_third ckpt.geom) (λ more.
      let long = length-keys Its.nodes in
      room.nodes (record { some = map.keys Its.nodes; differ = differing_keys Its.nodes; all = each_in (IsTreeNode image ckpt (rolled base marks) relaid) (map.keys Its.nodes) tree_nodes; more = omega (arith, long, more) }))

  tree_pages : (at : ℕ × ℕ) → IsIn at (map.keys Its.pages) → IsSomeTreePage image ckpt relaid at
  tree_pages at listed = let there = the_one (map.get Its.pages at) (key_got Its.pages at listed) in (there.0, page_of_tree at.0 at.1 there.0 there.1)

  few_pages : map.len Its.pages ≤ data_third ckpt.geom
  few_pages = at_most (map.len Its.pages) (data_third ckpt.geom) (λ more.
      let long = length-keys Its.pages in
      room.pages (record { some = map.keys Its.pages; differ = differing_keys Its.pages; all = each_in (IsSomeTreePage image ckpt relaid) (map.keys Its.pages) tree_pages; more = omega (arith, long, more) }))

  -- what is to be written
  abbrev marked_test : (ino : ℕ) → From image ckpt base marks means relaid may room ino → Bool
  marked_test ino (is_laid anew) = false
  marked_test ino (is_base out unmarked same) = false
  marked_test ino (is_mark out place mark last at own there) = true

  abbrev lost : ℕ → ℕ × ℕ → Bool
  lost ino key = (key.0 == ino) && is_none (map.get Its.nodes key)

  abbrev thinned_test : ℕ → Bool
  thinned_test ino = list_any (lost ino) (map.keys Old.nodes)

  abbrev to_write : ℕ × ℕ → Bool
  to_write k = set.contains relaid.directories k.0 || (is_some (offset_below k.1 0) && (marked_test k.0 (its_from k.0) || thinned_test k.0))

  written : Pairs
  written = passing to_write (map.keys Its.nodes)

  abbrev page_left : ℕ × ℕ → Bool
  page_left k = set.contains relaid.directories k.0

  pages_written : Pairs
  pages_written = passing page_left (map.keys Its.pages)

  abbrev its_unwritten : Unwritten
  its_unwritten = record { nodes = written; pages = pages_written }

  abbrev ToWrite : ℕ → ℕ → Type 0
  ToWrite ino offset = IsToWrite image ckpt Old no_anew Its ino offset

  either_left : (a b : Bool) → a ≡ true → (a || b) ≡ true
  either_left true b e = refl
  either_left false b e = absurd (true≢false (sym e))

  either_right : (a b : Bool) → b ≡ true → (a || b) ≡ true
  either_right true b e = refl
  either_right false b e = e

  either_of : (a b : Bool) → (a || b) ≡ true → (a ≡ true) ⊎ (b ≡ true)
  either_of true b e = inl refl
  either_of false b e = inr e

  -- a node that is needed and no direct one names others
  upper_names : (ino offset : ℕ) → IsNeeded Tree Its ino offset → ¬ (IsDirect offset) → is_some (offset_below offset 0) ≡ true
  upper_names ino offset (taken.inode first row) apart = subst (λ o. is_some (offset_below o 0) ≡ true) (sym first) inode_names
  upper_names ino offset (taken.on_way page there way) apart = by_kind (way_kind page offset way)
    where
      by_kind : WayKind page offset → is_some (offset_below offset 0) ≡ true
      by_kind (names_some some) = some
      by_kind (is_direct direct) = absurd (apart (direct_from_page page offset direct))

  mark_tested : (ino place : ℕ) (o : From image ckpt base marks means relaid may room ino) → IsLastMark image ckpt ino place → marked_test ino o ≡ true
  mark_tested ino place (is_laid anew) last = absurd (not_laid image ckpt base marks means relaid may room ino place last anew)
  mark_tested ino place (is_base out unmarked same) last = absurd (unmarked place (block_in (chain image ckpt) place) last.marked last.own)
  mark_tested ino place (is_mark out other mark one at own there) last = refl

  thinned_tested : (ino : ℕ) → IsThinned Old Its ino → thinned_test ino ≡ true
  thinned_tested ino thin =
      let at = the_one (map.get Old.nodes (ino, thin.offset)) thin.there in
      some_test (lost ino) (ino, thin.offset) (map.keys Old.nodes) (key_in Old.nodes (ino, thin.offset) at.0 at.1) (and_from (ino == ino) (is_none (map.get Its.nodes (ino, thin.offset))) (eq-eqb ino ino refl) (ap is_none thin.gone))

  abbrev other_test : ℕ → ℕ → Bool
  other_test ino offset = is_some (offset_below offset 0) && (marked_test ino (its_from ino) || thinned_test ino)

  left_by : (ino offset : ℕ) → IsNeeded Tree Its ino offset → ToWrite ino offset → to_write (ino, offset) ≡ true
  left_by ino offset need (taken.laid anew) = either_left (set.contains relaid.directories ino) (other_test ino offset) anew
  left_by ino offset need (taken.marked place last apart) =
      either_right (set.contains relaid.directories ino) (other_test ino offset)
      (and_from (is_some (offset_below offset 0)) (marked_test ino (its_from ino) || thinned_test ino) (upper_names ino offset need apart) (either_left (marked_test ino (its_from ino)) (thinned_test ino) (mark_tested ino place (its_from ino) last)))
  left_by ino offset need (taken.thinned thin apart) =
      either_right (set.contains relaid.directories ino) (other_test ino offset)
      (and_from (is_some (offset_below offset 0)) (marked_test ino (its_from ino) || thinned_test ino) (upper_names ino offset need apart) (either_right (marked_test ino (its_from ino)) (thinned_test ino) (thinned_tested ino thin)))

  left_nodes : (ino offset : ℕ) (n : NodeAt) → map.get Its.nodes (ino, offset) ≡ Some n → ToWrite ino offset → set.contains written (ino, offset) ≡ true
  unfolding written
  left_nodes ino offset n there own =
      passes to_write (map.keys Its.nodes) (ino, offset) (key_in Its.nodes (ino, offset) n there) (left_by ino offset (needed image ckpt base marks means relaid may room ino offset (ap is_some there)) own)

  gone_of : (o : Option NodeAt) → is_none o ≡ true → o ≡ None
  gone_of None e = refl
  gone_of (Some n) e = absurd (true≢false (sym e))

  thinned_of : (ino : ℕ) → thinned_test ino ≡ true → IsThinned Old Its ino
  thinned_of ino e =
      let key = from_test (lost ino) (map.keys Old.nodes) e in
      let parts = and_parts (key.0.0 == ino) (is_none (map.get Its.nodes key.0)) key.1.1 in
      let same : key.0.0 ≡ ino = same_of key.0.0 ino parts.0 in
      record {
        offset = key.0.1;
        there = ap (λ i. is_some (map.get Old.nodes (i, key.0.1))) (sym same) ∙ key_got Old.nodes key.0 key.1.0;
        gone = ap (λ i. map.get Its.nodes (i, key.0.1)) (sym same) ∙ gone_of (map.get Its.nodes key.0) parts.1;
      }

  mark_of : (ino offset : ℕ) (o : From image ckpt base marks means relaid may room ino) → is_some (offset_below offset 0) ≡ true → marked_test ino o ≡ true → ToWrite ino offset
  mark_of ino offset (is_laid anew) some e = taken.laid anew
  mark_of ino offset (is_base out unmarked same) some e = absurd (true≢false (sym e))
  mark_of ino offset (is_mark out place mark last at own there) some e = taken.marked place last (no_direct image ckpt base marks means relaid may room offset some)

  other_by : (ino offset : ℕ) → other_test ino offset ≡ true → ToWrite ino offset
  other_by ino offset e = by_case (either_of (marked_test ino (its_from ino)) (thinned_test ino) parts.1)
    where
      parts : (is_some (offset_below offset 0) ≡ true) × ((marked_test ino (its_from ino) || thinned_test ino) ≡ true)
      parts = and_parts (is_some (offset_below offset 0)) (marked_test ino (its_from ino) || thinned_test ino) e

      by_case : (marked_test ino (its_from ino) ≡ true) ⊎ (thinned_test ino ≡ true) → ToWrite ino offset
      by_case (inl is) = mark_of ino offset (its_from ino) parts.0 is
      by_case (inr is) = taken.thinned (thinned_of ino is) (no_direct image ckpt base marks means relaid may room offset parts.0)

  only_case : (ino offset : ℕ) → (set.contains relaid.directories ino ≡ true) ⊎ (other_test ino offset ≡ true) → ToWrite ino offset
  only_case ino offset (inl anew) = taken.laid anew
  only_case ino offset (inr other) = other_by ino offset other

  only_by : (ino offset : ℕ) → to_write (ino, offset) ≡ true → ToWrite ino offset
  only_by ino offset e = only_case ino offset (either_of (set.contains relaid.directories ino) (other_test ino offset) e)

  only_nodes : (ino offset : ℕ) → set.contains written (ino, offset) ≡ true → IsSome (map.get Its.nodes (ino, offset)) × ToWrite ino offset
  unfolding written
  only_nodes ino offset has =
      let is = passed to_write (map.keys Its.nodes) (ino, offset) has in
      (key_got Its.nodes (ino, offset) is.0, only_by ino offset is.1)

  left_pages : (ino page at : ℕ) → map.get Its.pages (ino, page) ≡ Some at → set.contains relaid.directories ino ≡ true → set.contains pages_written (ino, page) ≡ true
  unfolding pages_written
  left_pages ino page at there anew = passes page_left (map.keys Its.pages) (ino, page) (key_in Its.pages (ino, page) at there) anew

  only_pages : (ino page : ℕ) → set.contains pages_written (ino, page) ≡ true → IsSome (map.get Its.pages (ino, page)) × (set.contains relaid.directories ino ≡ true)
  unfolding pages_written
  only_pages ino page has = let is = passed page_left (map.keys Its.pages) (ino, page) has in (key_got Its.pages (ino, page) is.0, is.1)

  -- a page's row
  rows_by : (ino page at : ℕ) (o : From image ckpt base marks means relaid may room ino) → page_by image ckpt base marks means relaid may room ino o page ≡ Some at → IsSome (map.get Tree ino) × (page < page_limit)
  rows_by ino page at (is_laid anew) is = (laid_row image ckpt base marks means relaid may room ino anew, (may.pages ino page at is).1)
  rows_by ino page at (is_base out unmarked same) is =
      let placed = (old_stands image ckpt base marks means relaid may room).laid.pages ino page at is in
      (tree_row image ckpt base marks means relaid may room ino placed.row, placed.within)
  rows_by ino page at (is_mark out place mark last is_marked own there) is = (ap is_some there, (within_limit image ckpt base marks means relaid may room place page at is).0)

  -- a directory that is laid out anew has the names that it is given
  module _ (ino : ℕ) (anew : set.contains relaid.directories ino ≡ true) where
    pages_same : (page : ℕ) → map.get Its.pages (ino, page) ≡ map.get relaid.pages (ino, page)
    pages_same page = laid_pages image ckpt base marks means relaid may room ino page anew

    dentries_same : (page : ℕ) → dentries_at Its ino page ≡ dentries_at (places_of relaid) ino page
    dentries_same page =
        ap (λ o. unwrap_or o []) (dentries_are image ckpt base marks means relaid may room (ino, page) ∙ ap (λ b. cond b (map.get relaid.dentries (ino, page)) (map.get Old.dentries (ino, page))) anew)

    given_at : (page place : ℕ) (dentry : Dentry) → IsDentryAt Its ino page place dentry → IsDentryAt (places_of relaid) ino page place dentry
    given_at page place dentry at = record { page_there = sym (ap is_some (pages_same page)) ∙ at.page_there; is = sym (ap (λ ds. slice_get ds place) (dentries_same page)) ∙ at.is }

    at_given : (page place : ℕ) (dentry : Dentry) → IsDentryAt (places_of relaid) ino page place dentry → IsDentryAt Its ino page place dentry
    at_given page place dentry at = record { page_there = ap is_some (pages_same page) ∙ at.page_there; is = ap (λ ds. slice_get ds place) (dentries_same page) ∙ at.is }

    laid_names : HasNames Tree Its ino
    laid_names = let names = may.names ino anew in record {
      bound = λ page place dentry at. names.bound page place dentry (given_at page place dentry at);
      all = λ i row there other parent.
          let one = names.all i row there other parent in
          (one.0, one.1, (one.2.0, at_given one.0 one.1 one.2.0 one.2.1, one.2.2));
      once = λ page place other more a b p q same. names.once page place other more a b (given_at page place a p) (given_at other more b q) same;
    }

    laid_blocks : (page : ℕ) → IsSome (map.get Its.pages (ino, page)) → HasBlock Its ino page
    laid_blocks page there =
        let own = may.blocks ino page anew (sym (ap is_some (pages_same page)) ∙ there) in
        record { block = own.block; whole = own.whole; right = own.right; names = own.names ∙ sym (dentries_same page) }

  is_taken_over : IsTakenOver image ckpt base marks Tree Its its_unwritten
  is_taken_over = record {
    rolls = refl;
    old = Old;
    stands = old_stands image ckpt base marks means relaid may room;
    anew = no_anew;
    directories = may.kinds;
    named = may.named;
    nodes = λ ino offset n there. (node_taken ino offset n there).0;
    needed = needed image ckpt base marks means relaid may room;
    all_needed = all_needed image ckpt base marks means relaid may room;
    new_apart = λ one other a b there too own same. apart_by one other a b own same (node_taken one.0 one.1 a there).1 (node_taken other.0 other.1 b too).1;
    rows = λ ino page at there. rows_by ino page at (its_from ino) (sym (pages_are image ckpt base marks means relaid may room (ino, page)) ∙ there);
    kept_pages = kept_pages image ckpt base marks means relaid may room;
    marked_pages = marked_pages image ckpt base marks means relaid may room;
    laid_pages = λ ino page at anew there some. absurd (some (may.pages ino page at (sym (laid_pages image ckpt base marks means relaid may room ino page anew) ∙ there)).2);
    kept_names = λ ino page unmarked out. dentries_are image ckpt base marks means relaid may room (ino, page) ∙ ap (λ b. cond b (map.get relaid.dentries (ino, page)) (map.get Old.dentries (ino, page))) out;
    laid_names = laid_names;
    laid_blocks = λ ino page anew there. laid_blocks ino anew page there;
    few_nodes = few_nodes;
    few_pages = few_pages;
    left_nodes = left_nodes;
    only_nodes = only_nodes;
    left_pages = left_pages;
    only_pages = only_pages;
  }

pub taken_over : TreesAreTakenOver
taken_over image ckpt base marks relaid means may room =
    (its image ckpt base marks means relaid may room, (its_unwritten image ckpt base marks means relaid may room, is_taken_over image ckpt base marks means relaid may room))
