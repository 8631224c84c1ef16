-- The fields of an inode that was read of a marked block.
use Rattle.std.proofs.Common.{◌≡◌, ℕ, nat_lt, Bool, true, false, cond, List, sym, ap, ◌∙◌}
use Rattle.std.specs.Prelude.{Option, Some, None, Result, Ok, Err, take}
use Rattle.f2_format.specs.Inode.{inode_of, NAME_BYTES, SIZE_LIMIT}
use Rattle.f2_model.specs.declared.rows.Kind.{Kind}
use Rattle.f2_node_block.specs.Inodes.{checked_inode, checked_with, known_kind, inode_with}
use Rattle.f2_node_block.specs.declared.inodes.Inode.{Inode}
use Rattle.f2_recover.specs.declared.rows.BaseRow.{BaseRow}
use Rattle.f2_overlay.specs.Rolling.{IsNamedAs}
use Rattle.f2_overlay.specs.Rolls.{IsRollNamed}
use Rattle.f2_overlay.specs.declared.rolls.Roll.{Roll}

-- both tests passed
passed : {I E : Type 0} (a b : Bool) (x y : E) (i j : I) → ◌≡◌ {A = Result I E} (cond a (Err x) (cond b (Err y) (Ok i))) (Ok j) → i ≡ j
passed true b x y i j h = absurd (cc)
passed false true x y i j h = absurd (cc)
passed {I} {E} false false x y i j h = same i j h
  where
    same : (a b : I) → ◌≡◌ {A = Result I E} (Ok a) (Ok b) → a ≡ b
    same a b h = cc

-- they are those of the block
pub record IsInodeOf (block : List ℕ) (inode : Inode) : Type 0 where
  pub size : inode.size ≡ (inode_of block).size
  pub parent : inode.pino ≡ (inode_of block).parent
  pub named : take inode.name_len inode.name ≡ take (inode_of block).name_length (inode_of block).name
  pub addresses : inode.addr ≡ (inode_of block).addresses

inode_by : (kind : Option Kind) (block : List ℕ) (inode : Inode) → checked_with kind (inode_of block) ≡ Ok inode → IsInodeOf block inode
inode_by None block inode h = absurd (cc)
inode_by (Some kind) block inode h =
    let fields : inode_with kind (inode_of block) ≡ inode = passed (nat_lt NAME_BYTES (inode_of block).name_length) (nat_lt SIZE_LIMIT (inode_of block).size) _ _ (inode_with kind (inode_of block)) inode h in
    record {
      size = ap (λ (i : Inode). i.size) (sym fields);
      parent = ap (λ (i : Inode). i.pino) (sym fields);
      named = ap (λ (i : Inode). take i.name_len i.name) (sym fields);
      addresses = ap (λ (i : Inode). i.addr) (sym fields);
    }

pub inode_read : (block : List ℕ) (inode : Inode) → checked_inode (inode_of block) ≡ Ok inode → IsInodeOf block inode
inode_read block inode h = inode_by (known_kind (inode_of block).mode) block inode h

-- a file's directory and name are those that its mark brings, or the base's
pub named_of : (block : List ℕ) (inode : Inode) (row : Option BaseRow) (roll : Roll) → IsInodeOf block inode → IsNamedAs inode row roll.parent roll.name → IsRollNamed block roll row
named_of block inode (Some row) roll is named = named
named_of block inode None roll is named = (named.0 ∙ is.parent, named.1 ∙ is.named)
