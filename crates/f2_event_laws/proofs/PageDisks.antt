-- What a disk keeps of packs and log when a page is written to a free address of the data zone.
use Rattle.std.proofs.Common.{ℕ, ◌<◌, IsTrue, List, length, arith}
use Rattle.f2_format.specs.Geometry.{ImageGeometry, is_in_node, is_in_data}
use Rattle.f2_disk.specs.Contents.{Contents, IsBlock, IsWritten}
use Rattle.f2_model.specs.State.{State}
use Rattle.f2_image.specs.Packs.{other_side}
use Rattle.f2_stored.specs.Layout.{Layout}
use Rattle.f2_stored.specs.Changes.{IsFree, MayBeWritten}
use Rattle.f2_stored.specs.Stored.{KeepsPacks, KeepsLog}
use Rattle.f2_change_laws.proofs.Addresses.{node_range, data_range, head_low}
use Rattle.f2_change_laws.proofs.OneMore.{IsOneMore, written_more}
use Rattle.f2_change_laws.proofs.FreeWrites.{free_packs, free_log}

-- no address is in both zones
pub zones_apart : (geom : ImageGeometry) (at : ℕ) → IsTrue (is_in_node geom at) → ¬ (IsTrue (is_in_data geom at))
zones_apart geom at node inside = let first = node_range geom at node in let second = data_range geom at inside in omega (arith, first.1, second)

-- a page may be written to a free address of the data zone
pub may_be_page : (layout : Layout) (at : ℕ) (content : List ℕ) → IsTrue (is_in_data layout.base.ckpt.geom at) → IsBlock content → MayBeWritten layout at content
may_be_page layout at content inside block = record {
  block = block;
  node = λ node. absurd (zones_apart layout.base.ckpt.geom at node inside);
  head = λ is. let low = head_low (other_side layout.base.ckpt.side) in let range = data_range layout.base.ckpt.geom at inside in absurd (omega (arith, low, range, is));
}

module _ (lists new : Contents) (layout : Layout) (state : State) (at : ℕ) (content : List ℕ) (packs : KeepsPacks lists layout state) (keeps : KeepsLog lists layout state) (free : IsFree layout at)
    (within : at < length lists) (inside : IsTrue (is_in_data layout.base.ckpt.geom at)) (block : IsBlock content) (written : IsWritten at content lists new) where
  may : MayBeWritten layout at content
  may = may_be_page layout at content inside block

  more : IsOneMore lists new at content
  more = written_more lists new at content within written

  pub page_packs : KeepsPacks new layout state
  page_packs = free_packs lists new layout state at content more free may packs

  pub page_log : KeepsLog new layout state
  page_log = free_log lists new layout state at content more free may packs keeps
