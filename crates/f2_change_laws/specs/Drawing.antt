-- Positions of the node log that are drawn.
use Rattle.std.specs.Prelude.{◌≡◌, ◌≢◌, ℕ, ◌*◌, ◌<◌, ◌≤◌, true, false, List, [], ◌∷◌, ◌++◌, length, Contains, Some}
use Rattle.std.specs.FinMap as map
use Rattle.f2_format.specs.Geometry.{node_third, data_third}
use Rattle.f2_format.specs.Footer.{footer_nid, footer_ino, footer_offset, footer_version, footer_next}
use Rattle.f2_disk.specs.Contents.{Contents}
use Rattle.f2_model.specs.State.{State, Mark}
use Rattle.f2_image.specs.Chains.{is_marked}
use Rattle.f2_stored.specs.Layout.{Owners, Layout, log_version}
use Rattle.f2_stored.specs.Logs.{IsLogAddress, log_addresses}
use Rattle.f2_stored.specs.Numbers.{IsNumbered, MayCount}
use Rattle.f2_stored.specs.Marks.{HoldsMark}
use Rattle.f2_image_laws.specs.Rolled.{image_limits}
use Rattle.f2_room_laws.specs.Fitting.{AreFitting}
use Rattle.f2_stored.specs.Changes.{with_drawn}
use Rattle.f2_stored.specs.Stored.{KeepsPacks, KeepsLog}

-- a block may be given the next position: there is one, the block carries the log's version and names a further address or none, and its
-- nid is its own
pub record MayBeDrawn (layout : Layout) (block : List ℕ) : Type 0 where
  pub room : length layout.log < node_third layout.base.ckpt.geom
  pub there : layout.next ≢ 0
  pub version : footer_version block ≡ log_version layout
  pub next : footer_next block ≢ 0 → IsLogAddress layout (footer_next block)
  pub further : ¬ (Contains (log_addresses layout ++ layout.next ∷ []) (footer_next block))
  pub numbered : IsNumbered (with_drawn layout block layout.owners) (record { at = layout.next; block = block })
  pub known : (nid : ℕ) → map.get layout.nids (footer_ino block, footer_offset block) ≡ Some nid → nid ≡ footer_nid block
  pub own : (other : ℕ × ℕ) → map.get layout.nids other ≡ Some (footer_nid block) → other ≡ (footer_ino block, footer_offset block)

-- a block with no mark: the state stays
abbrev pub NodesMayBeDrawn : Type 0
NodesMayBeDrawn =
    (lists : Contents) (layout : Layout) (state : State) (block : List ℕ) →
    KeepsPacks lists layout state →
    KeepsLog lists layout state →
    MayBeDrawn layout block →
    is_marked block ≡ false →
    KeepsPacks lists (with_drawn layout block layout.owners) state × KeepsLog lists (with_drawn layout block layout.owners) state

-- a marked inode: its row joins the marks, and its pages get their owner; from then on all that the log has of its file counts
abbrev pub MarksMayBeDrawn : Type 0
MarksMayBeDrawn =
    (lists : Contents) (layout : Layout) (state : State) (block : List ℕ) (owners : Owners) (mark : Mark) →
    KeepsPacks lists layout state →
    KeepsLog lists layout state →
    MayBeDrawn layout block →
    is_marked block ≡ true →
    MayCount layout (footer_ino block) →
    ((at : ℕ) (owner : ℕ × ℕ) → map.get layout.owners at ≡ Some owner → map.get owners at ≡ Some owner) →
    map.len owners ≤ 2 * data_third layout.base.ckpt.geom →
    HoldsMark lists (with_drawn layout block owners) state.base (length layout.log) mark →
    AreFitting (image_limits layout.base.ckpt.geom) (record state { marks = state.marks ++ mark ∷ [] }) →
    KeepsPacks lists (with_drawn layout block owners) (record state { marks = state.marks ++ mark ∷ [] })
    × KeepsLog lists (with_drawn layout block owners) (record state { marks = state.marks ++ mark ∷ [] })
