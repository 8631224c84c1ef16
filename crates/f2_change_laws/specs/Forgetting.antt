-- Numbers of nodes that are forgotten.
use Rattle.std.specs.Prelude.{◌≡◌, ℕ, ◌<◌, length, Some}
use Rattle.std.specs.FinMap as map
use Rattle.f2_format.specs.Footer.{footer_nid, footer_ino, footer_offset}
use Rattle.f2_disk.specs.Contents.{Contents}
use Rattle.f2_model.specs.State.{State}
use Rattle.f2_image.specs.Chains.{block_in}
use Rattle.f2_image.specs.Reached.{IsNode}
use Rattle.f2_stored.specs.Layout.{Layout, Nids, chained}
use Rattle.f2_stored.specs.Numbers.{CountsAt}
use Rattle.f2_stored.specs.Stored.{KeepsPacks, KeepsLog}

-- fewer numbers are known: those of the nodes of the base and of the blocks of the log that count are among them
pub record AreFewer (layout : Layout) (nids : Nids) : Type 0 where
  pub known : (one : ℕ × ℕ) (nid : ℕ) → map.get nids one ≡ Some nid → map.get layout.nids one ≡ Some nid
  pub base : (ino offset nid : ℕ) → IsNode layout.base.image layout.base.ckpt ino offset nid → map.get nids (ino, offset) ≡ Some nid
  pub log : (place : ℕ) → place < length (chained layout) → CountsAt (chained layout) place
      → map.get nids (footer_ino (block_in (chained layout) place), footer_offset (block_in (chained layout) place)) ≡ Some (footer_nid (block_in (chained layout) place))

-- a number of which neither the base nor a block that counts tells is free for another node
abbrev pub NumbersMayBeForgotten : Type 0
NumbersMayBeForgotten =
    (lists : Contents) (layout : Layout) (state : State) (nids : Nids) →
    KeepsPacks lists layout state →
    KeepsLog lists layout state →
    AreFewer layout nids →
    KeepsPacks lists (record layout { nids = nids }) state × KeepsLog lists (record layout { nids = nids }) state
