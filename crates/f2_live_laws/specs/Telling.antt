-- What keeps the node log telling the live tree.
use Rattle.std.specs.Prelude.{◌≡◌, ℕ, true, List, []}
use Rattle.f2_model.specs.State.{State}
use Rattle.f2_model.specs.Goes.{node_logged}
use Rattle.f2_image.specs.Chains.{is_marked}
use Rattle.f2_image.specs.Reached.{IsDirect}
use Rattle.f2_stored.specs.Layout.{Owners, Layout}
use Rattle.f2_stored.specs.Places.{NodeAt, Places, IsNodeBlock}
use Rattle.f2_stored.specs.Trees.{IsTreeAt}
use Rattle.f2_stored.specs.Ties.{LogTellsLive}
use Rattle.f2_stored.specs.Changes.{with_drawn}

-- a direct node that is drawn for a block which tells its places is told from then on
abbrev pub DrawnNodesAreTold : Type 0
DrawnNodesAreTold =
    (layout : Layout) (state : State) (places : Places) (ino offset : ℕ) (node : NodeAt) (block : List ℕ) (owners : Owners) →
    LogTellsLive layout state places →
    IsDirect offset →
    IsNodeBlock places ino offset node block →
    LogTellsLive (with_drawn layout block owners) (node_logged state ino offset) places

-- a mark changes nothing there
abbrev pub MarksTellNoNodes : Type 0
MarksTellNoNodes =
    (layout : Layout) (state : State) (places : Places) (block : List ℕ) (owners : Owners) →
    LogTellsLive layout state places →
    is_marked block ≡ true →
    LogTellsLive (with_drawn layout block owners) state places

-- after a checkpoint of a tree that stands at its places in the base's image, nothing is left to be told
abbrev pub CheckpointsTellAll : Type 0
CheckpointsTellAll =
    (layout : Layout) (state : State) (places : Places) →
    layout.log ≡ [] →
    IsTreeAt layout.base.image layout.base.ckpt state.live places →
    LogTellsLive layout state places
