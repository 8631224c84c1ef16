-- A block that comes next in the log, by what a running volume keeps: any node of the live tree may be drawn.
use Rattle.std.proofs.Common.{◌≡◌, ◌≢◌, ◌⊎◌, inl, inr, ℕ, ◌<◌, ◌≤◌, IsTrue, List, [], ◌∷◌, ◌++◌, sym, ap, ◌∙◌, subst, arith}
use Rattle.std.specs.Prelude.{Some}
use Rattle.std.specs.List.{Contains}
use Rattle.std.specs.FinMap as map
use Rattle.std.proofs.lemmas.Bool.{cases_eq}
use Rattle.std.proofs.lemmas.List.Elements.{Contains-push_cases}
use Rattle.f2_format.specs.Geometry.{nid_limit}
use Rattle.f2_format.specs.Footer.{footer_nid, footer_ino, footer_offset, footer_next, has_fsync_mark}
use Rattle.f2_disk.specs.Contents.{Contents}
use Rattle.f2_model.specs.Tree.{ROOT}
use Rattle.f2_model.specs.State.{State}
use Rattle.f2_image.specs.Reached.{IsDirect}
use Rattle.f2_image_laws.specs.Depending.{node}
use Rattle.f2_stored.specs.Places.{Places, IsNodePlaced}
use Rattle.f2_stored.specs.Trees.{Unwritten}
use Rattle.f2_stored.specs.Layout.{Layout}
use Rattle.f2_stored.specs.Logs.{IsLogAddress, log_addresses}
use Rattle.f2_stored.specs.Numbers.{IsNumbered}
use Rattle.f2_stored.specs.Changes.{depends, with_drawn}
use Rattle.f2_stored.specs.Kept.{IsBlockFor}
use Rattle.f2_stored.specs.Whole.{IsOwnNid, IsKeptWhole}
use Rattle.f2_change_laws.specs.Drawing.{MayBeDrawn}
use Rattle.f2_change_laws.proofs.Each.{each_at}
use Rattle.f2_place_laws.proofs.Pairs.{pair, put_here}
use Rattle.f2_event_laws.specs.Nodes.{IsNextElsewhere}
use Rattle.f2_event_laws.specs.WholeNodes.{MayComeNext}
use Rattle.f2_event_laws.proofs.Reach.{node_some}

module _ (lists : Contents) (layout : Layout) (state : State) (places : Places) (unwritten : Unwritten) (block : List ℕ) (whole : IsKeptWhole lists layout state places unwritten) (may : MayComeNext layout state places block) where
  pub next_elsewhere : IsNextElsewhere places (footer_next block)
  next_elsewhere some = (may.ahead some).elsewhere

  -- a free address of the node zone is one that the log may have
  is_address : footer_next block ≢ 0 → IsLogAddress layout (footer_next block)
  is_address some = let ahead = may.ahead some in (ahead.in_zone, λ ino offset nid is same. ahead.free.base (depends (node ino offset nid is (sym same))))

  -- no position has the address of no block
  position_some : (at : ℕ) → Contains (log_addresses layout) at → at ≢ 0
  position_some at there none =
      let inside : IsLogAddress layout at = each_at (IsLogAddress layout) (log_addresses layout) whole.kept.log.log.addresses at there in
      omega (arith, none, node_some lists layout state whole.kept.log at inside.0)

  further : ¬ (Contains (log_addresses layout ++ layout.next ∷ []) (footer_next block))
  further there = by_case (Contains-push_cases (log_addresses layout) layout.next (footer_next block) there) (cases_eq (footer_next block) 0)
    where
      by_case : Contains (log_addresses layout) (footer_next block) ⊎ (layout.next ≡ footer_next block) → (footer_next block ≡ 0) ⊎ (footer_next block ≢ 0) → ⊥
      by_case (inl old) (inl none) = position_some (footer_next block) old none
      by_case (inl old) (inr some) = (may.ahead some).free.no_position old
      by_case (inr is) (inl none) = may.there (is ∙ none)
      by_case (inr is) (inr some) = (may.ahead some).free.not_next (sym is)

  module _ (ino offset : ℕ) (is : IsBlockFor state places ino offset block) where
    pub same_key : pair (footer_ino block) (footer_offset block) ≡ pair ino offset
    same_key i = (is.own.footer_ino i, is.own.footer_offset i)

    own_nid : IsOwnNid layout ino offset is.node.nid
    own_nid = whole.nids ino offset is.node is.there

    -- base and log know the node by the block's nid alone, and no other node by it
    pub known : (nid : ℕ) → map.get layout.nids (footer_ino block, footer_offset block) ≡ Some nid → nid ≡ footer_nid block
    known nid there = own_nid.known nid (ap (map.get layout.nids) (sym same_key) ∙ there) ∙ sym is.own.footer_nid

    pub own : (other : ℕ × ℕ) → map.get layout.nids other ≡ Some (footer_nid block) → other ≡ (footer_ino block, footer_offset block)
    own other there = own_nid.own other (there ∙ ap Some is.own.footer_nid) ∙ sym same_key

    placed : IsNodePlaced layout.base.ckpt.geom state.live places ino offset is.node
    placed = whole.kept.live.laid.nodes ino offset is.node is.there

    module _ (below : (ino ≡ ROOT) × (offset ≡ 0) → ⊥) (shape : ((offset ≡ 0) × IsTrue (has_fsync_mark block)) ⊎ IsDirect offset) where
      least : (4 ≤ is.node.nid) ⊎ ((ino ≡ ROOT) × (offset ≡ 0)) → 4 ≤ footer_nid block
      least (inl enough) = subst (λ nid. 4 ≤ nid) (sym is.own.footer_nid) enough
      least (inr root) = absurd (below root)

      shape_of : ((offset ≡ 0) × IsTrue (has_fsync_mark block)) ⊎ IsDirect offset → ((footer_offset block ≡ 0) × IsTrue (has_fsync_mark block)) ⊎ IsDirect (footer_offset block)
      shape_of (inl inode) = inl (is.own.footer_offset ∙ inode.0, inode.1)
      shape_of (inr direct) = inr (subst IsDirect (sym is.own.footer_offset) direct)

      numbered : IsNumbered (with_drawn layout block layout.owners) (record { at = layout.next; block = block })
      numbered = record {
        nid = put_here layout.nids (footer_ino block, footer_offset block) (footer_nid block);
        least = least placed.least;
        most = subst (λ nid. nid < nid_limit layout.base.ckpt.geom) (sym is.own.footer_nid) placed.most;
        inode = λ first. is.own.footer_nid ∙ placed.inode (sym is.own.footer_offset ∙ first) ∙ sym is.own.footer_ino;
        shape = shape_of shape;
      }

      pub may_be_drawn : MayBeDrawn layout block
      may_be_drawn = record {
        room = (let room = may.room in let count = whole.kept.tied.count in omega (arith, room, count));
        there = may.there;
        version = may.version;
        next = is_address;
        further = further;
        numbered = numbered;
        known = known;
        own = own;
      }
