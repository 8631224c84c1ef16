-- The places of the tree after a call.
use Rattle.std.proofs.Common.{◌≡◌, ◌≢◌, ◌⊎◌, inl, inr, ℕ, sym, ◌∙◌}
use Rattle.std.specs.Prelude.{Some, None}
use Rattle.std.specs.FinMap as map
use Rattle.f2_model.specs.State.{State}
use Rattle.f2_model.specs.declared.rows.Row.{Row}
use Rattle.f2_model.specs.declared.rows.Kind.TheVariants.{Directory}
use Rattle.f2_stored.specs.Places.{NodeAt, Places, HasNames, IsNodePlaced, HasPlaces}
use Rattle.f2_stored.specs.Trees.{Unwritten}
use Rattle.f2_stored.specs.Layout.{Layout}
use Rattle.f2_call_laws.specs.Calls.{IsNewNode, KeepsNames, ArePlacesAfter}
use Rattle.f2_call_laws.proofs.Names.{names_stay}

module _ (layout : Layout) (state after : State) (places now : Places) (unwritten left : Unwritten) (laid : HasPlaces layout.base.ckpt.geom state.live places)
    (follows : ArePlacesAfter layout state after places now unwritten left) where
  node_placed : (ino offset : ℕ) (node : NodeAt) → map.get now.nodes (ino, offset) ≡ Some node → IsNodePlaced layout.base.ckpt.geom after.live now ino offset node
  node_placed ino offset node there = by_case (follows.nodes ino offset node there)
    where
      by_case : (map.get places.nodes (ino, offset) ≡ Some node) ⊎ IsNewNode layout places now ino offset node → IsNodePlaced layout.base.ckpt.geom after.live now ino offset node
      by_case (inl was) =
          let old = laid.nodes ino offset node was in
          record { row = follows.of_rows ino offset node there; least = old.least; most = old.most; inode = old.inode; above = follows.above ino offset node there }
      by_case (inr new) = record { row = follows.of_rows ino offset node there; least = inl new.least; most = new.most; inode = new.inode; above = follows.above ino offset node there }

  nids_apart : (one other : ℕ × ℕ) (a b : NodeAt) → map.get now.nodes one ≡ Some a → map.get now.nodes other ≡ Some b → a.nid ≡ b.nid → one ≡ other
  nids_apart one other a b p q same = by_case (follows.nodes one.0 one.1 a p) (follows.nodes other.0 other.1 b q)
    where
      by_case : (map.get places.nodes one ≡ Some a) ⊎ IsNewNode layout places now one.0 one.1 a → (map.get places.nodes other ≡ Some b) ⊎ IsNewNode layout places now other.0 other.1 b → one ≡ other
      by_case (inl was) (inl had) = laid.nids_apart one other a b was had same
      by_case (inl was) (inr new) = new.apart one a p same
      by_case (inr new) more = sym (new.apart other b q (sym same))

  nodes_apart : (one other : ℕ × ℕ) (a b : NodeAt) → map.get now.nodes one ≡ Some a → map.get now.nodes other ≡ Some b → a.at ≢ 0 → a.at ≡ b.at → one ≡ other
  nodes_apart one other a b p q some same = by_case (follows.nodes one.0 one.1 a p) (follows.nodes other.0 other.1 b q)
    where
      by_case : (map.get places.nodes one ≡ Some a) ⊎ IsNewNode layout places now one.0 one.1 a → (map.get places.nodes other ≡ Some b) ⊎ IsNewNode layout places now other.0 other.1 b → one ≡ other
      by_case (inl was) (inl had) = laid.nodes_apart one other a b was had some same
      by_case (inl was) (inr new) = absurd (some (same ∙ new.nowhere))
      by_case (inr new) more = absurd (some new.nowhere)

  pages_apart : (one other : ℕ × ℕ) (at : ℕ) → map.get now.pages one ≡ Some at → map.get now.pages other ≡ Some at → at ≢ 0 → one ≡ other
  pages_apart one other at p q some = by_case (follows.pages one.0 one.1 at p) (follows.pages other.0 other.1 at q)
    where
      by_case : (map.get places.pages one ≡ Some at) ⊎ ((map.get places.pages one ≡ None) × (at ≡ 0)) → (map.get places.pages other ≡ Some at) ⊎ ((map.get places.pages other ≡ None) × (at ≡ 0)) → one ≡ other
      by_case (inl was) (inl had) = laid.pages_apart one other at was had some
      by_case (inl was) (inr new) = absurd (some new.1)
      by_case (inr new) more = absurd (some new.1)

  names : (ino : ℕ) (row : Row) → map.get after.live ino ≡ Some row → row.kind ≡ Directory → HasNames after.live now ino
  names ino row there kind = by_case (follows.names ino row there kind)
    where
      by_case : HasNames after.live now ino ⊎ KeepsNames state.live after.live places now ino → HasNames after.live now ino
      by_case (inl has) = has
      by_case (inr keeps) = names_stay state.live after.live places now ino keeps (laid.names ino keeps.before.0 keeps.before.1 keeps.before.2)

  pub laid_after : HasPlaces layout.base.ckpt.geom after.live now
  laid_after = record {
    nodes = node_placed;
    nids_apart = nids_apart;
    nodes_apart = nodes_apart;
    pages = follows.told;
    pages_apart = pages_apart;
    inodes = follows.inodes;
    names = names;
    few_nodes = follows.few_nodes;
    few_pages = follows.few_pages;
  }
