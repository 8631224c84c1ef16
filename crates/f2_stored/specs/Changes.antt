-- What changes on a disk and in a layout, one write, one flush or one draw at a time.
use Rattle.std.specs.Prelude.{◌≡◌, ◌≢◌, ◌⊎◌, ℕ, ◌<◌, IsTrue, List, [], ◌∷◌, ◌++◌, map as map_list, Contains, slice_index_or, slice_set, Option, Some, None}
use Rattle.std.specs.FinMap as map
use Rattle.f2_format.specs.Geometry.{is_in_node}
use Rattle.f2_format.specs.Footer.{footer_ino, footer_offset, footer_nid, footer_next, footer_version}
use Rattle.f2_format.specs.Pack.{head_of}
use Rattle.f2_disk.specs.Contents.{Contents, IsBlock, IsWritten, IsWriteFailed}
use Rattle.f2_model.specs.State.{State}
use Rattle.f2_image.specs.Packs.{head_address, tail_address, other_side}
use Rattle.f2_image.specs.Chains.{chain, no_block}
use Rattle.f2_image_laws.specs.Chained.{Follow}
use Rattle.f2_image_laws.specs.Depending.{DependsOn}
use Rattle.f2_stored.specs.Layout.{Fate, Open, Failed, Position, Owners, Reference, Layout}
use Rattle.f2_stored.specs.Bases.{TellsCheckpoint}
use Rattle.f2_stored.specs.Logs.{log_addresses}

-- a write was made, or it failed
abbrev pub Wrote : Contents → ℕ → List ℕ → Contents → Type 0
Wrote lists at content new = IsWritten at content lists new ⊎ IsWriteFailed at content lists new

-- an address at which a block is read for what an image stands for: of its checkpoint, its base and marks, or its node log and where that ends
pub data IsReadOf (held : Reference) (at : ℕ) : Type 0 where
  tells : TellsCheckpoint held.ckpt at → IsReadOf held at
  depends : DependsOn held.image held.ckpt at → IsReadOf held at
  logged : Contains (map_list (λ one. one.at) (chain held.image held.ckpt)) at → IsReadOf held at
  ends : (next : ℕ) → Follow held.ckpt.head.log_start (chain held.image held.ckpt) next → at ≡ next → IsReadOf held at

abbrev pub IsReadOfSome : Option Reference → ℕ → Type 0
IsReadOfSome None at = ⊥
IsReadOfSome (Some held) at = IsReadOf held at

-- an address whose block a crash may leave as anything: nothing is read there of base or pending tree, it is no tail, no position of the
-- log and not the next one, and no page of base or marks
pub record IsFree (layout : Layout) (at : ℕ) : Type 0 where
  pub base : ¬ (IsReadOf layout.base at)
  pub pending : ¬ (IsReadOfSome layout.pending at)
  pub own_tail : at ≢ tail_address layout.base.ckpt.side
  pub other_tail : at ≢ tail_address (other_side layout.base.ckpt.side)
  pub no_position : ¬ (Contains (log_addresses layout) at)
  pub not_next : at ≢ layout.next
  pub no_owner : map.get layout.owners at ≡ None

-- what a checkpoint or a call may write at such an address: in the node zone a block of no version, and for the head of the other pack
-- one of a later version
pub record MayBeWritten (layout : Layout) (at : ℕ) (content : List ℕ) : Type 0 where
  pub block : IsBlock content
  pub node : IsTrue (is_in_node layout.base.ckpt.geom at) → footer_version content ≡ 0
  pub head : at ≡ head_address (other_side layout.base.ckpt.side) → layout.base.ckpt.head.version < (head_of content).version

-- two states of which a crash leaves the same
pub record LeaveTheSame (one other : State) : Type 0 where
  pub base : other.base ≡ one.base
  pub marks : other.marks ≡ one.marks
  pub acknowledged : other.acknowledged ≡ one.acknowledged
  pub pending : other.pending ≡ one.pending
  pub format : other.format ≡ one.format
  pub version : other.version ≡ one.version
  pub next_format : other.next_format ≡ one.next_format

-- a position with no block
abbrev pub no_position : Position
no_position = record { logged = no_block; fate = Failed }

-- a layout after the write of a position's block was made or failed
abbrev pub with_fate : Layout → ℕ → Fate → Layout
with_fate layout place fate = record layout { log = slice_set layout.log place (record (slice_index_or layout.log place no_position) { fate = fate }) }

-- a layout after the next position was drawn for a block, with the address of the one after it, and with the pages of a mark
abbrev pub with_drawn : Layout → List ℕ → Owners → Layout
with_drawn layout block owners = record layout {
  log = layout.log ++ record { logged = record { at = layout.next; block = block }; fate = Open } ∷ [];
  next = footer_next block;
  nids = map.insert layout.nids (footer_ino block, footer_offset block) (footer_nid block);
  owners = owners;
}
