-- The places of a tree of which one node has another address: what doesn't read that address reads what it read.
use Rattle.std.proofs.Common.{◌≡◌, ◌≢◌, ◌⊎◌, inl, inr, ℕ, List, sym, ap, ◌∙◌, subst}
use Rattle.std.specs.Prelude.{Some}
use Rattle.std.specs.FinMap as map
use Rattle.f2_model.specs.State.{State}
use Rattle.f2_model.specs.declared.rows.Row.{Row}
use Rattle.f2_place_laws.specs.Living.{with_node}
use Rattle.f2_place_laws.proofs.Pairs.{pair, same_or_other, put_here, put_other}
use Rattle.f2_stored.specs.Layout.{Layout}
use Rattle.f2_stored.specs.Places.{NodeAt, Places, nid_of, nid_at, IsNodeBlock, IsInodeOf}
use Rattle.f2_stored.specs.Kept.{IsElsewhere, IsBlockFor}
use Rattle.f2_stored.specs.Whole.{IsOwnNid}

pub same_node : (a b : NodeAt) → Some a ≡ Some b → a ≡ b
same_node a b e = cc

module _ (places : Places) (ino offset at : ℕ) where
  abbrev pub moved_node : NodeAt
  moved_node = record { nid = nid_at places ino offset; at = at }

  abbrev pub moved : Places
  moved = with_node places ino offset moved_node

  -- nids stay
  same_nid : (file low : ℕ) → nid_at moved file low ≡ nid_at places file low
  same_nid file low = by_case (same_or_other (file, low) (ino, offset))
    where
      by_case : (pair file low ≡ pair ino offset) ⊎ (pair file low ≢ pair ino offset) → nid_at moved file low ≡ nid_at places file low
      by_case (inl same) = ap (λ q. nid_of (map.get moved.nodes q)) same ∙ ap nid_of (put_here places.nodes (ino, offset) moved_node) ∙ sym (ap (λ q. nid_of (map.get places.nodes q)) same)
      by_case (inr other) = ap nid_of (put_other places.nodes (ino, offset) moved_node (file, low) other)

  pub node_block : (file low : ℕ) (n : NodeAt) (block : List ℕ) → IsNodeBlock places file low n block → IsNodeBlock moved file low n block
  node_block file low n block is = record {
    footer_nid = is.footer_nid;
    footer_ino = is.footer_ino;
    footer_offset = is.footer_offset;
    lower = λ at under small below. is.lower at under small below ∙ sym (same_nid file under);
    pages = is.pages;
  }

  inode_of_row : (row : Row) (block : List ℕ) → IsInodeOf places row block → IsInodeOf moved row block
  inode_of_row row block is = record { kind = is.kind; own = is.own; size = is.size; addresses = is.addresses }

  -- a block for another node is still one
  pub block_for : (state after : State) → after.live ≡ state.live → (file low : ℕ) (block : List ℕ) → pair file low ≢ pair ino offset → IsBlockFor state places file low block → IsBlockFor after moved file low block
  block_for state after live file low block apart is = record {
    node = is.node;
    there = put_other places.nodes (ino, offset) moved_node (file, low) apart ∙ is.there;
    own = node_block file low is.node block is.own;
    inode = λ first row found. inode_of_row row block (is.inode first row (sym (ap (λ tree. map.get tree file) live) ∙ found));
  }

  -- what is elsewhere than the tree, and isn't the new address, is elsewhere still
  pub elsewhere : (k : ℕ) → at ≢ k → IsElsewhere places k → IsElsewhere moved k
  elsewhere k apart away = record { nodes = λ file low n found. by_case file low n found (same_or_other (file, low) (ino, offset)); pages = away.pages }
    where
      by_case : (file low : ℕ) (n : NodeAt) → map.get moved.nodes (file, low) ≡ Some n → (pair file low ≡ pair ino offset) ⊎ (pair file low ≢ pair ino offset) → n.at ≢ k
      by_case file low n found (inl same) =
          let is : Some n ≡ Some moved_node = sym found ∙ ap (map.get moved.nodes) same ∙ put_here places.nodes (ino, offset) moved_node in
          λ e. apart (sym (ap (λ (m : NodeAt). m.at) (same_node n moved_node is)) ∙ e)
      by_case file low n found (inr elder) = away.nodes file low n (sym (put_other places.nodes (ino, offset) moved_node (file, low) elder) ∙ found)

  -- and each node has the nid of its own that it had
  pub moved_nids : (layout : Layout) → ((file low : ℕ) (n : NodeAt) → map.get places.nodes (file, low) ≡ Some n → IsOwnNid layout file low n.nid) → (old : NodeAt) → map.get places.nodes (ino, offset) ≡ Some old
      → (file low : ℕ) (n : NodeAt) → map.get moved.nodes (file, low) ≡ Some n → IsOwnNid layout file low n.nid
  moved_nids layout nids old was file low n there = by_case (same_or_other (file, low) (ino, offset))
    where
      by_case : (pair file low ≡ pair ino offset) ⊎ (pair file low ≢ pair ino offset) → IsOwnNid layout file low n.nid
      by_case (inl same) =
          let is : n ≡ moved_node = same_node n moved_node (sym there ∙ ap (map.get moved.nodes) same ∙ put_here places.nodes (ino, offset) moved_node) in
          let nid : n.nid ≡ old.nid = ap (λ (m : NodeAt). m.nid) is ∙ ap nid_of was in
          subst (λ k. IsOwnNid layout file low k) (sym nid) (nids file low old (ap (map.get places.nodes) same ∙ was))
      by_case (inr other) = nids file low n (sym (put_other places.nodes (ino, offset) moved_node (file, low) other) ∙ there)
