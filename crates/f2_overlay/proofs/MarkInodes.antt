-- An inode of the node log that was read.
use Rattle.std.proofs.Common.{◌≡◌, ℕ, nat_lt, Bool, true, false, cond, List, refl, sym, ap, ◌∙◌}
use Rattle.std.specs.Prelude.{Option, Some, None, Result, Ok, Err, take}
use Rattle.f2_format.specs.Inode.{inode_of, NAME_BYTES, SIZE_LIMIT}
use Rattle.f2_model.specs.declared.rows.Kind.{Kind}
use Rattle.f2_node_block.specs.Inodes.{checked_inode, checked_with, known_kind, inode_with}
use Rattle.f2_node_block.specs.declared.inodes.Inode.{Inode}
use Rattle.f2_node_block.specs.declared.inodes.InodeFault.TheVariants as fault
use Rattle.f2_footer.specs.Footer.{footer_of}
use Rattle.f2_footer.specs.declared.Footer.{Footer}
use Rattle.f2_image.specs.Images.{Image}
use Rattle.f2_image.specs.Packs.{Checkpoint}
use Rattle.f2_image.specs.Bases.{IsReached, inode_kind}
use Rattle.f2_image.specs.Reached.{IsMarkedAt}
use Rattle.f2_image.specs.Faults.{BringsName}

-- its kind, its directory and its name are those of the block
pub record IsNamedAs (block : List ℕ) (inode : Inode) : Type 0 where
  pub kind : inode_kind block ≡ Some inode.kind
  pub parent : (inode_of block).parent ≡ inode.pino
  pub name_length : (inode_of block).name_length ≡ inode.name_len
  pub name : (inode_of block).name ≡ inode.name

passed : {I E : Type 0} (a b : Bool) (x y : E) (i j : I) → ◌≡◌ {A = Result I E} (cond a (Err x) (cond b (Err y) (Ok i))) (Ok j) → i ≡ j
passed true b x y i j h = absurd (cc)
passed false true x y i j h = absurd (cc)
passed {I} {E} false false x y i j h = same i j h
  where
    same : (a b : I) → ◌≡◌ {A = Result I E} (Ok a) (Ok b) → a ≡ b
    same a b h = cc

named_with : (kind : Option Kind) (block : List ℕ) (inode : Inode) → known_kind (inode_of block).mode ≡ kind → checked_with kind (inode_of block) ≡ Ok inode → IsNamedAs block inode
named_with None block inode is h = absurd (cc)
named_with (Some kind) block inode is h =
    let fields : inode_with kind (inode_of block) ≡ inode = passed (nat_lt NAME_BYTES (inode_of block).name_length) (nat_lt SIZE_LIMIT (inode_of block).size) fault.NameLength fault.SizeTooBig (inode_with kind (inode_of block)) inode h in
    record {
      kind = is ∙ ap (λ (i : Inode). Some i.kind) fields;
      parent = ap (λ (i : Inode). i.pino) fields;
      name_length = ap (λ (i : Inode). i.name_len) fields;
      name = ap (λ (i : Inode). i.name) fields;
    }

pub named_as : (block : List ℕ) (inode : Inode) → checked_inode (inode_of block) ≡ Ok inode → IsNamedAs block inode
named_as block inode h = named_with (known_kind (inode_of block).mode) block inode refl h

-- a marked block of a file that the base hasn't brings the name in it
pub brings_name : (image : Image) (ckpt : Checkpoint) (place : ℕ) (block name : List ℕ) (footer : Footer) (inode : Inode) → IsMarkedAt image ckpt place block → footer ≡ footer_of block → IsNamedAs block inode
    → ¬ (IsReached image ckpt footer.ino) → name ≡ take inode.name_len inode.name → BringsName image ckpt place footer.ino inode.pino name
brings_name image ckpt place block name footer inode marked is says fresh named = record {
  block = block;
  marked = marked;
  own = sym (ap (λ (f : Footer). f.ino) is);
  fresh = fresh;
  under = says.parent;
  named = ap (λ (n : ℕ). take n (inode_of block).name) says.name_length ∙ ap (take inode.name_len) says.name ∙ sym named;
}
