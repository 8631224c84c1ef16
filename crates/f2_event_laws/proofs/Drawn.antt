-- What was drawn: a direct node, or the inode.
use Rattle.std.proofs.Common.{◌≡◌, ℕ, ◌+◌, ◌-◌, ◌*◌, ◌/◌, ◌%◌, ◌<◌, nat_lt, Bool, true, false, cond, List, refl, sym, ap, ◌∙◌, arith}
use Rattle.std.specs.FinMap as map
use Rattle.std.specs.FinSet as set
use Rattle.f2_format.specs.Offsets.{node_slots, first_indirect, second_indirect, nth_indirect, nth_direct}
use Rattle.f2_model.specs.State.{State, Drawn, DrawnNode, DrawnMark}
use Rattle.f2_image.specs.Reached.{IsDirect}
use Rattle.f2_stored.specs.Places.{Places}
use Rattle.f2_stored.specs.Trees.{Unwritten}
use Rattle.f2_stored.specs.Layout.{Layout}
use Rattle.f2_stored.specs.Kept.{IsBlockFor, IsDrawnFor, AreTied}
use Rattle.f2_event_laws.specs.Nodes.{offset_of}

-- no direct node is the inode
some_each : (a b c : Bool) (w x y z : ℕ) → 0 < w → 0 < x → 0 < y → 0 < z → 0 < cond a w (cond b x (cond c y z))
some_each true b c w x y z one two three four = one
some_each false true c w x y z one two three four = two
some_each false false true w x y z one two three four = three
some_each false false false w x y z one two three four = four

direct_some : (number : ℕ) → 0 < nth_direct number
direct_some number =
    some_each (nat_lt number 2) (nat_lt number (2 + node_slots)) (nat_lt number (2 + 2 * node_slots)) (1 + number) (first_indirect + 1 + (number - 2)) (second_indirect + 1 + (number - (2 + node_slots)))
    (nth_indirect ((number - (2 + 2 * node_slots)) / node_slots) + 1 + (number - (2 + 2 * node_slots)) % node_slots) (omega arith) (omega arith) (omega arith) (omega arith)

pub no_direct_inode : ¬ (IsDirect 0)
no_direct_inode direct = let some = direct_some direct.number in let none = direct.is in omega (arith, some, none)

-- its block is that of its node
pub block_of_drawn : (state : State) (places : Places) (ino : ℕ) (drawn : Drawn) (block : List ℕ) → IsDrawnFor state places ino drawn block → IsBlockFor state places ino (offset_of drawn) block
block_of_drawn state places ino (DrawnNode offset) block is = is.2
block_of_drawn state places ino DrawnMark block is = is

-- which isn't dirty
pub drawn_is_clean : (layout : Layout) (state : State) (places : Places) (unwritten : Unwritten) → AreTied layout state places unwritten → (ino : ℕ) (drawn : Drawn) (block : List ℕ) → IsDrawnFor state places ino drawn block
    → set.contains state.dirty_nodes (ino, offset_of drawn) ≡ false
drawn_is_clean layout state places unwritten tied ino (DrawnNode offset) block is = is.1
drawn_is_clean layout state places unwritten tied ino DrawnMark block is = by_test (set.contains state.dirty_nodes (ino, 0)) refl
  where
    by_test : (b : Bool) → set.contains state.dirty_nodes (ino, 0) ≡ b → b ≡ false
    by_test true dirty = absurd (no_direct_inode (tied.direct ino 0 dirty))
    by_test false clean = refl

pub block_stays : (state after : State) (places : Places) (ino offset : ℕ) → after.live ≡ state.live → (block : List ℕ) → IsBlockFor state places ino offset block → IsBlockFor after places ino offset block
block_stays state after places ino offset live block is = record {
  node = is.node;
  there = is.there;
  own = is.own;
  inode = λ first row found. is.inode first row (sym (ap (λ tree. map.get tree ino) live) ∙ found);
}

-- and it stays so where the live tree does and no node becomes dirty
pub drawn_stays : (state after : State) (places : Places) (ino : ℕ) → after.live ≡ state.live → ((offset : ℕ) → set.contains state.dirty_nodes (ino, offset) ≡ false → set.contains after.dirty_nodes (ino, offset) ≡ false)
    → (drawn : Drawn) (block : List ℕ) → IsDrawnFor state places ino drawn block → IsDrawnFor after places ino drawn block
drawn_stays state after places ino live clean (DrawnNode offset) block is = (is.0, clean offset is.1, block_stays state after places ino offset live block is.2)
drawn_stays state after places ino live clean DrawnMark block is = block_stays state after places ino 0 live block is
