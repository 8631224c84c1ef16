use Rattle.f2_call_laws.proofs.Changed.{changed_keeps}
use Rattle.f2_call_laws.proofs.Called.{tree_proper}
use Rattle.f2_call_laws.proofs.EachCall.{call_right}
use Rattle.f2_image_laws.specs.Rolled.{image_limits}
use Rattle.f2_model.specs.Step.{called}
use Rattle.f2_call_laws.proofs.calls.calls_keep.Goals as goal

pub returns : goal.returns
returns c = λ lists layout state places now unwritten left request ino whole takes follows.
    changed_keeps (image_limits layout.base.ckpt.geom) lists layout state (called state request ino) places now unwritten left whole (tree_proper lists layout state places unwritten whole request ino takes) follows
    (call_right lists layout state places unwritten whole request ino takes)
