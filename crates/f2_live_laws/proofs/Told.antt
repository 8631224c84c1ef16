-- What the node log tells of direct nodes once a node or a mark was drawn.
use Rattle.std.proofs.Common.{◌≡◌, ◌≢◌, ◌⊎◌, inl, inr, ℕ, ◌==◌, Bool, true, false, List, Option, Some, refl, sym, ap, ◌∙◌}
use Rattle.std.proofs.lemmas.Bool.{and_parts, eqb-true}
use Rattle.std.specs.FinSet as set
use Rattle.f2_format.specs.Offsets.{direct_of, direct_slot}
use Rattle.f2_format.specs.Footer.{footer_ino, footer_offset}
use Rattle.f2_model.specs.Goes.{node_logged}
use Rattle.f2_image.specs.Nodes.{node, word_of}
use Rattle.f2_image.specs.Chains.{is_node_of, or_below, base_direct}
use Rattle.f2_stored.specs.Layout.{Owners, Layout}
use Rattle.f2_stored.specs.Places.{NodeAt, Places, page_at, IsNodeBlock}
use Rattle.f2_stored.specs.Ties.{told_address}
use Rattle.f2_stored.specs.Changes.{with_drawn}
use Rattle.f2_place_laws.proofs.Pairs.{pair, same_or_other, not_left}
use Rattle.f2_live_laws.specs.Telling.{DrawnNodesAreTold, MarksTellNoNodes}
use Rattle.f2_live_laws.proofs.LongerLogs.{no_inode, mark_is_inode, is_the_node, other_offset, last_of_other, last_of_node}

module _ (layout : Layout) (block : List ℕ) (owners : Owners) (ino offset page : ℕ) where
  -- the address of a page by the last block of its direct node
  abbrev address_by : Option (List ℕ) → ℕ
  address_by last = word_of (or_below last (base_direct layout.base.image layout.base.ckpt (node layout.base.image layout.base.ckpt ino) page)) (direct_slot page)

  -- a block that isn't the direct node changes nothing of it
  pub told_still : is_node_of block ino offset ≡ false → told_address (with_drawn layout block owners) ino offset page ≡ told_address layout ino offset page
  told_still other = ap address_by (last_of_other layout block owners ino offset other)

  -- one that is it tells the address
  pub told_by_block : is_node_of block ino offset ≡ true → told_address (with_drawn layout block owners) ino offset page ≡ word_of (Some block) (direct_slot page)
  told_by_block it = ap address_by (last_of_node layout block owners ino offset it)

pub marks_tell_no_nodes : MarksTellNoNodes
marks_tell_no_nodes layout state places block owners tells marked = record {
  told = λ ino page offset row there regular whole direct clean.
      let other : footer_offset block ≢ offset = λ same. no_inode page offset direct (sym same ∙ mark_is_inode block marked) in
      told_still layout block owners ino offset page (other_offset block ino offset other) ∙ tells.told ino page offset row there regular whole direct clean;
}

-- two nodes that aren't one: the block of the one isn't the other
other_node : (places : Places) (ino offset : ℕ) (at : NodeAt) (block : List ℕ) → IsNodeBlock places ino offset at block → (file low : ℕ) → pair file low ≢ pair ino offset → is_node_of block file low ≡ false
other_node places ino offset at block own file low apart = by_test (is_node_of block file low) refl
  where
    by_test : (b : Bool) → is_node_of block file low ≡ b → b ≡ false
    by_test true is =
        let parts = and_parts (footer_ino block == file) (footer_offset block == low) is in
        let of : file ≡ ino = sym (eqb-true (footer_ino block) file parts.0) ∙ own.footer_ino in
        let at : low ≡ offset = sym (eqb-true (footer_offset block) low parts.1) ∙ own.footer_offset in
        absurd (apart (λ i. (of i, at i)))
    by_test false is = refl

pub drawn_nodes_are_told : DrawnNodesAreTold
drawn_nodes_are_told layout state places ino offset at block owners tells is_direct own = record {
  told = λ file page low row there regular whole direct clean. by_node file page low direct (tells.told file page low row there regular whole direct) clean (same_or_other (file, low) (ino, offset));
}
  where
    by_node : (file page low : ℕ) → direct_of page ≡ Some low → (set.contains state.dirty_nodes (file, low) ≡ false → told_address layout file low page ≡ page_at places file page)
        → set.contains (node_logged state ino offset).dirty_nodes (file, low) ≡ false → (pair file low ≡ pair ino offset) ⊎ (pair file low ≢ pair ino offset) → told_address (with_drawn layout block owners) file low page ≡ page_at places file page
    by_node file page low direct was clean (inl same) =
        let of : file ≡ ino = ap (λ (p : ℕ × ℕ). p.0) same in
        let at_low : low ≡ offset = ap (λ (p : ℕ × ℕ). p.1) same in
        told_by_block layout block owners file low page (is_the_node block file low (own.footer_ino ∙ sym of) (own.footer_offset ∙ sym at_low))
        ∙ own.pages page (direct ∙ ap Some at_low) ∙ ap (λ n. page_at places n page) (sym of)
    by_node file page low direct was clean (inr other) =
        told_still layout block owners file low page (other_node places ino offset at block own file low other) ∙ was (not_left state.dirty_nodes (ino, offset) (file, low) other clean)
