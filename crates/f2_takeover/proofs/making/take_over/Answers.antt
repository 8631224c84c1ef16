use Rattle.std.specs.Prelude.{Result, Ok, Err, IfOk}
use Rattle.f2_takeover.proofs.AllRows.{all_rows}
use Rattle.f2_takeover.proofs.Rooted.{rooted}
use Rattle.f2_takeover.proofs.making.take_over.Goals as goal

if_ok : {T E : Type 0} (r : Result T E) (P Q : T → Type 0) → ((x : T) → P x → Q x) → IfOk r P → IfOk r Q
if_ok (Ok x) P Q f h = f x h
if_ok (Err e) P Q f h = tt

pub returns : goal.returns
returns c = record {
  rows = if_ok c.make_rows.result _ _ (λ rows made image ckpt read right are. all_rows image ckpt c.args.walk.now read c.args.rolls.now right are c.in_ok-changed.changed.members rows made c.in_ok-changed.ensures) c.make_rows.ensures;
  rooted = if_ok c.make_rows.result _ _ (λ rows made image ckpt read right marks are. rooted image ckpt c.args.walk.now read c.args.rolls.now marks are rows (all_rows image ckpt c.args.walk.now read c.args.rolls.now right are c.in_ok-changed.changed.members rows made c.in_ok-changed.ensures)) c.make_rows.ensures;
}
