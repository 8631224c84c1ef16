-- A live tree after a node was written to a new place.
use Rattle.std.proofs.Common.{◌≡◌, ◌≢◌, ◌⊎◌, inl, inr, ℕ, ◌<◌, ◌≤◌, List, length, IsSome, is_some, refl, sym, ap, ◌∙◌, subst, arith}
use Rattle.std.specs.Prelude.{Some}
use Rattle.std.specs.FinMap as map
use Rattle.f2_format.specs.Geometry.{ImageGeometry, nid_limit, node_third}
use Rattle.f2_disk.specs.Contents.{Contents, IsWritten, last_of}
use Rattle.f2_model.specs.Tree.{Rows, ROOT}
use Rattle.f2_image_laws.specs.Chained.{contents_at}
use Rattle.f2_stored.specs.Places.{NodeAt, Places, nid_of, nid_at, IsNamedAbove, IsNodePlaced, HasNames, HasPlaces}
use Rattle.f2_stored.specs.Trees.{IsNodeHere, IsPageHere, Unwritten, IsLiveAt}
use Rattle.f2_place_laws.specs.Living.{with_node, node_written}
use Rattle.f2_stored.specs.Kept.{IsElsewhere}
use Rattle.f2_place_laws.proofs.Alike.{node_here_alike, page_here_alike}
use Rattle.f2_place_laws.proofs.Pairs.{pair, same_or_other, put_here, put_other, still_there, as_many, not_left}
use Rattle.f2_place_laws.proofs.WrittenBlocks.{written_here, written_other}
use Rattle.f2_image.proofs.OneBase.{same_some}

module _ (geom : ImageGeometry) (tree : Rows) (places : Places) (ino offset : ℕ) (old node : NodeAt) (was : map.get places.nodes (ino, offset) ≡ Some old) (keeps : node.nid ≡ old.nid) where
  abbrev new_places : Places
  new_places = with_node places ino offset node

  abbrev the_node : ℕ × ℕ
  the_node = (ino, offset)

  -- a node of the new places is the new one or an old one, and a node with this nid was there
  data IsOf (at : ℕ × ℕ) (n : NodeAt) : Type 0 where
    own : at ≡ the_node → n ≡ node → IsOf at n
    elder : at ≢ the_node → map.get places.nodes at ≡ Some n → IsOf at n

  found : (at : ℕ × ℕ) (n : NodeAt) → map.get new_places.nodes at ≡ Some n → IsOf at n
  found at n there = by_case (same_or_other at (ino, offset))
    where
      by_case : (at ≡ the_node) ⊎ (at ≢ the_node) → IsOf at n
      by_case (inl same) = own same (same_some n node (sym there ∙ ap (map.get new_places.nodes) same ∙ put_here places.nodes (ino, offset) node))
      by_case (inr other) = elder other (sym (put_other places.nodes (ino, offset) node at other) ∙ there)

  elder_of : (at : ℕ × ℕ) (n : NodeAt) → IsOf at n → (m : NodeAt) × (map.get places.nodes at ≡ Some m) × (m.nid ≡ n.nid)
  elder_of at n (own same is) = (old, ap (map.get places.nodes) same ∙ was, sym keeps ∙ ap (λ (m : NodeAt). m.nid) (sym is))
  elder_of at n (elder other there) = (n, there, refl)

  same_nid : (file low : ℕ) → nid_at new_places file low ≡ nid_at places file low
  same_nid file low = by_case (same_or_other (file, low) (ino, offset))
    where
      by_case : (pair file low ≡ the_node) ⊎ (pair file low ≢ the_node) → nid_at new_places file low ≡ nid_at places file low
      by_case (inl same) = ap (λ at. nid_of (map.get new_places.nodes at)) same ∙ ap nid_of (put_here places.nodes (ino, offset) node) ∙ keeps ∙ sym (ap (λ at. nid_of (map.get places.nodes at)) same ∙ ap nid_of was)
      by_case (inr other) = ap nid_of (put_other places.nodes (ino, offset) node (file, low) other)

  still : (at : ℕ × ℕ) → IsSome (map.get places.nodes at) → IsSome (map.get new_places.nodes at)
  still at there = still_there places.nodes (ino, offset) node at there

  module _ (laid : HasPlaces geom tree places) where
    named_above : (file low : ℕ) → IsNamedAbove places file low → IsNamedAbove new_places file low
    named_above file low above = record { upper = above.upper; slot = above.slot; small = above.small; names = above.names; there = still (file, above.upper) above.there }

    node_placed : (file low : ℕ) (n : NodeAt) → map.get new_places.nodes (file, low) ≡ Some n → IsNodePlaced geom tree new_places file low n
    node_placed file low n there =
        let m = elder_of (file, low) n (found (file, low) n there) in
        let placed = laid.nodes file low m.0 m.1 in
        record {
          row = placed.row;
          least = subst (λ nid. (4 ≤ nid) ⊎ ((file ≡ ROOT) × (low ≡ 0))) m.2 placed.least;
          most = subst (λ nid. nid < nid_limit geom) m.2 placed.most;
          inode = λ first. sym m.2 ∙ placed.inode first;
          above = λ not_first. named_above file low (placed.above not_first);
        }

    apart_by_nid : (one other : ℕ × ℕ) (a b : NodeAt) → map.get new_places.nodes one ≡ Some a → map.get new_places.nodes other ≡ Some b → a.nid ≡ b.nid → one ≡ other
    apart_by_nid one other a b there_a there_b same =
        let m = elder_of one a (found one a there_a) in
        let n = elder_of other b (found other b there_b) in
        laid.nids_apart one other m.0 n.0 m.1 n.1 (m.2 ∙ same ∙ sym n.2)

    module _ (free : IsElsewhere places node.at) where
      apart_by_place : (one other : ℕ × ℕ) (a b : NodeAt) → IsOf one a → IsOf other b → a.at ≢ 0 → a.at ≡ b.at → one ≡ other
      apart_by_place one other a b (own one_is a_is) (own other_is b_is) some same = one_is ∙ sym other_is
      apart_by_place one other a b (own one_is a_is) (elder apart there) some same = absurd (free.nodes other.0 other.1 b there (sym same ∙ ap (λ (m : NodeAt). m.at) a_is))
      apart_by_place one other a b (elder apart there) (own other_is b_is) some same = absurd (free.nodes one.0 one.1 a there (same ∙ ap (λ (m : NodeAt). m.at) b_is))
      apart_by_place one other a b (elder apart there) (elder apart_too there_too) some same = laid.nodes_apart one other a b there there_too some same

      few : map.len new_places.nodes ≤ node_third geom
      few = let many = as_many places.nodes (ino, offset) node (ap is_some was) in let room = laid.few_nodes in omega (arith, many, room)

      names_there : (directory : ℕ) → HasNames tree places directory → HasNames tree new_places directory
      names_there directory names = record {
        bound = λ page place dentry at. names.bound page place dentry (record { page_there = at.page_there; is = at.is });
        all = λ file row there other under.
            let found = names.all file row there other under in
            (found.0, found.1, (found.2.0, record { page_there = found.2.1.page_there; is = found.2.1.is }, found.2.2));
        once = λ page place more next a b at_a at_b same. names.once page place more next a b (record { page_there = at_a.page_there; is = at_a.is }) (record { page_there = at_b.page_there; is = at_b.is }) same;
      }

      laid_anew : HasPlaces geom tree new_places
      laid_anew = record {
        nodes = node_placed;
        nids_apart = apart_by_nid;
        nodes_apart = λ one other a b there_a there_b some same. apart_by_place one other a b (found one a there_a) (found other b there_b) some same;
        pages = λ file page at there. let placed = laid.pages file page at there in record { row = placed.row; within = placed.within; direct = λ low direct. still (file, low) (placed.direct low direct) };
        pages_apart = laid.pages_apart;
        inodes = λ file row there. still (file, 0) (laid.inodes file row there);
        names = λ file row there kind. names_there file (laid.names file row there kind);
        few_nodes = few;
        few_pages = laid.few_pages;
      }

  -- the node stands at its new place, and the others where they stood
  module _ (lists new : Contents) (unwritten : Unwritten) (content : List ℕ) (live : IsLiveAt lists geom tree places unwritten) (free : IsElsewhere places node.at) (here : IsNodeHere geom tree places ino offset node content)
      (within : node.at < length lists) (written : IsWritten node.at content lists new) where
    alike : (file low : ℕ) (n : NodeAt) (block : List ℕ) → IsNodeHere geom tree places file low n block → IsNodeHere geom tree new_places file low n block
    alike file low n block there = node_here_alike places new_places geom tree file low n block (same_nid file) (λ page direct. refl) (λ first row is page small. refl) there

    node_stands : (file low : ℕ) (n : NodeAt) → IsOf (file, low) n → (pair file low ≢ the_node → IsNodeHere geom tree places file low n (last_of (contents_at lists n.at))) → IsNodeHere geom tree new_places file low n (last_of (contents_at new n.at))
    node_stands file low n (own same is) elder_here =
        let it : IsNodeHere geom tree new_places ino offset node (last_of (contents_at new node.at)) =
        alike ino offset node (last_of (contents_at new node.at)) (subst (IsNodeHere geom tree places ino offset node) (sym (written_here lists new node.at content within written)) here)
        in
        subst (λ (at : ℕ × ℕ). IsNodeHere geom tree new_places at.0 at.1 n (last_of (contents_at new n.at))) (sym same)
        (subst (λ (m : NodeAt). IsNodeHere geom tree new_places ino offset m (last_of (contents_at new m.at))) (sym is) it)
    node_stands file low n (elder other there) elder_here =
        let reads = ap last_of (written_other lists new node.at content written n.at (free.nodes file low n there)) in
        alike file low n (last_of (contents_at new n.at)) (subst (IsNodeHere geom tree places file low n) (sym reads) (elder_here other))

    elder_stands : (file low : ℕ) (n : NodeAt) → IsOf (file, low) n → pair file low ≢ the_node → map.get places.nodes (file, low) ≡ Some n
    elder_stands file low n (own same is) other = absurd (other same)
    elder_stands file low n (elder other there) also = there

    pub live_with_node : IsLiveAt new geom tree new_places (node_written unwritten ino offset)
    live_with_node = record {
      laid = laid_anew live.laid free;
      nodes = λ file low n there out.
          let is = found (file, low) n there in
          node_stands file low n is (λ other. live.nodes file low n (elder_stands file low n is other) (not_left unwritten.nodes (ino, offset) (file, low) other out));
      pages = λ file page at there out.
          let reads = ap last_of (written_other lists new node.at content written at (free.pages file page at there)) in
          page_here_alike places new_places geom tree file page at (last_of (contents_at new at)) (λ row. refl) (subst (IsPageHere geom tree places file page at) (sym reads) (live.pages file page at there out));
      rows = live.rows;
    }
