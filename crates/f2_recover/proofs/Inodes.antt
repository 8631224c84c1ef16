-- Inodes that are read, and a file of which nothing was read yet.
use Rattle.std.proofs.Common.{◌≡◌, inl, inr, ℕ, ◌<◌, nat_lt, Bool, true, false, cond, List, [], refl, sym, ap, ◌∙◌, arith}
use Rattle.std.specs.Prelude.{Option, Some, None, Result, Ok, Err}
use Rattle.std.specs.Option.{option_map}
use Rattle.std.specs.Ordering.{nat_cmp}
use Rattle.std.specs.FinMap as map
use Rattle.std.proofs.lemmas.Bool.Decides.{nat_tests}
use Rattle.f2_format.specs.Inode.{inode_of, NAME_BYTES, SIZE_LIMIT}
use Rattle.f2_model.specs.declared.rows.Kind.{Kind}
use Rattle.f2_node_block.specs.Inodes.{checked_inode, checked_with, known_kind, inode_with}
use Rattle.f2_node_block.specs.declared.inodes.Inode.{Inode}
use Rattle.f2_image.specs.Images.{Image}
use Rattle.f2_image.specs.Packs.{Checkpoint}
use Rattle.f2_image.specs.Nodes.{node, node_address}
use Rattle.f2_image.specs.Bases.{IsReached, inode_kind}
use Rattle.f2_image.specs.Faults.{IsForeign, HasTable, IsBadInode}
use Rattle.f2_image.specs.Faults as faults
use Rattle.f2_recover.specs.Reading.{IsFile}
use Rattle.f2_recover.specs.Taking.{Taken, AreTaken}
use Rattle.f2_recover.specs.Seeing.{IsSeen}
use Rattle.f2_recover.specs.declared.nodes.FileNodes.{FileNodes}
use Rattle.f2_recover.proofs.Sets.{Numbers}
use Rattle.f2_recover.proofs.PageLists.{list_none}

-- both tests passed
both_passed : {I E : Type 0} (a b : Bool) (x y : E) (i j : I) → ◌≡◌ {A = Result I E} (cond a (Err x) (cond b (Err y) (Ok i))) (Ok j) → (a ≡ false) × (b ≡ false) × (i ≡ j)
both_passed true b x y i j h = absurd (cc)
both_passed false true x y i j h = absurd (cc)
both_passed {I} {E} false false x y i j h = (refl, refl, same i j h)
  where
    same : (a b : I) → ◌≡◌ {A = Result I E} (Ok a) (Ok b) → a ≡ b
    same a b h = cc

below : (a b : ℕ) → nat_lt a b ≡ false → a < b → ⊥
below a b h lt = grind (arith, nat_tests)

-- an inode that was read: its fields are those of the block, and it is ours
pub record IsOurs (block : List ℕ) (read : Inode) : Type 0 where
  pub kind : inode_kind block ≡ Some read.kind
  pub own : ¬ (IsForeign block)
  pub size : read.size ≡ (inode_of block).size
  pub addresses : read.addr ≡ (inode_of block).addresses
  pub nids : read.nid ≡ (inode_of block).nids

ours_of : (kind : Option Kind) (block : List ℕ) (read : Inode) → known_kind (inode_of block).mode ≡ kind → checked_with kind (inode_of block) ≡ Ok read → IsOurs block read
ours_of None block read is h = absurd (cc)
ours_of (Some kind) block read is h =
    let passed = both_passed _ _ _ _ _ _ h in
    let fields : inode_with kind (inode_of block) ≡ read = passed.2 in
    record {
      kind = is ∙ ap (λ (i : Inode). Some i.kind) fields;
      own = not_odd passed.0 passed.1;
      size = ap (λ (i : Inode). i.size) (sym fields);
      addresses = ap (λ (i : Inode). i.addr) (sym fields);
      nids = ap (λ (i : Inode). i.nid) (sym fields);
    }
  where
    not_odd : nat_lt NAME_BYTES (inode_of block).name_length ≡ false → nat_lt SIZE_LIMIT (inode_of block).size ≡ false → IsForeign block → ⊥
    not_odd short small (inl none) = no kind (sym none ∙ is)
      where
        no : (k : Kind) → None ≡ Some k → ⊥
        no k e = cc
    not_odd short small (inr (inl long)) = below NAME_BYTES (inode_of block).name_length short long
    not_odd short small (inr (inr big)) = below SIZE_LIMIT (inode_of block).size small big

pub ours : (block : List ℕ) (read : Inode) → checked_inode (inode_of block) ≡ Ok read → IsOurs block read
ours block read h = ours_of (known_kind (inode_of block).mode) block read refl h

abbrev Map : Type 0
Map = map.FinMap nat_cmp ℕ

module _ (image : Image) (ckpt : Checkpoint) where
  pub file_of : (ino : ℕ) (block : List ℕ) (read : Inode) → IsReached image ckpt ino → node image ckpt ino ≡ Some block → IsOurs block read → IsFile image ckpt ino block
  file_of ino block read reached there is = record { reached = reached; kind = read.kind; is = record { there = there; is_kind = is.kind } }

  pub inode_odd : (ino at : ℕ) (block : List ℕ) → HasTable ckpt → IsReached image ckpt ino → node image ckpt ino ≡ Some block → node_address image ckpt ino ≡ at → IsForeign block → IsBadInode image ckpt at
  inode_odd ino at block has reached there address odd = faults.in_base has ino block reached there address odd

  -- nothing was read of a file
  pub seen_none : (inos : Numbers) (ino : ℕ) (taken : Taken) (file : FileNodes) → AreTaken image ckpt inos ino 0 0 taken → file.nids ≡ map.empty → file.addresses ≡ map.empty → file.pages.pages ≡ map.empty → file.list.items ≡ [] → IsSeen image ckpt inos ino 0 0 taken file
  seen_none inos ino taken file are nids addresses pages list = record {
    are = are;
    part = record {
      nodes = λ o nid there. absurd (none o nid (sym (ap (λ (m : Map). map.get m o) nids) ∙ there));
      all_nodes = λ o nid is within. absurd (omega (arith, within));
      addresses = λ o. ap (λ (m : Map). map.get m o) addresses ∙ map.get-empty nat_cmp o ∙ ap (option_map (node_address image ckpt)) (sym (ap (λ (m : Map). map.get m o) nids ∙ map.get-empty nat_cmp o));
      pages = λ p at there. absurd (none p at (sym (ap (λ (m : Map). map.get m p) pages) ∙ there));
      all_pages = λ p at is within. absurd (omega (arith, within));
      listed = list_none 0 file.pages.pages file.list.items (λ p at there. none p at (sym (ap (λ (m : Map). map.get m p) pages) ∙ there)) list;
    };
  }
    where
      none : (o n : ℕ) → map.get (map.empty {X = ℕ} {R = nat_cmp}) o ≡ Some n → ⊥
      none o n there = no n (sym (map.get-empty nat_cmp o) ∙ there)
        where
          no : (k : ℕ) → None ≡ Some k → ⊥
          no k e = cc
