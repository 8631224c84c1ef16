-- Inodes that are checked, and the conditions of an image that stand for its node log.
use Rattle.std.proofs.Common.{◌≡◌, ℕ, ◌<◌, ◌⊎◌, nat_lt, Bool, true, false, IsTrue, cond, List, length, Option, Some, None, refl, sym, ◌∙◌, arith, subst, inl, inr}
use Rattle.std.specs.Prelude.{Result, Ok, Err}
use Rattle.std.proofs.lemmas.Bool.Decides.{nat_tests}
use Rattle.f2_format.specs.Geometry.{is_in_node, node_third}
use Rattle.f2_format.specs.Inode.{InodeFields, inode_of, NAME_BYTES, SIZE_LIMIT}
use Rattle.f2_model.specs.declared.rows.Kind.{Kind}
use Rattle.f2_node_block.specs.Inodes.{checked_inode, checked_with, known_kind}
use Rattle.f2_node_block.specs.declared.inodes.InodeFault.{InodeFault}
use Rattle.f2_image.specs.Images.{Image}
use Rattle.f2_image.specs.Packs.{Checkpoint}
use Rattle.f2_image.specs.Chains.{chain, block_in, is_marked, no_block}
use Rattle.f2_image.specs.Faults.{IsBadInode, IsChainLong, IsForeign, IsOutOfZone}
use Rattle.f2_image.specs.Faults as faults
use Rattle.f2_scan.specs.declared.faults.ScanFault.TheVariants.{ChainLong, BadInode, OutOfZone}
use Rattle.f2_scan.specs.Logs.{IsFault, IsRightLog}
use Rattle.f2_scan.specs.Laws.{HasNoLogFault}

-- which test failed
one_failed : {I E : Type 0} (a b : Bool) (x y e : E) (i : I) → ◌≡◌ {A = Result I E} (cond a (Err x) (cond b (Err y) (Ok i))) (Err e) → (a ≡ true) ⊎ (b ≡ true)
one_failed true b x y e i h = inl refl
one_failed false true x y e i h = inr refl
one_failed false false x y e i h = absurd (cc)

below : (a b : ℕ) → nat_lt a b ≡ true → a < b
below a b h = grind (arith, nat_tests)

-- the fields of an inode that is none of ours
abbrev AreOdd : Option Kind → InodeFields → Type 0
AreOdd kind fields = (kind ≡ None) ⊎ (NAME_BYTES < fields.name_length) ⊎ (SIZE_LIMIT < fields.size)

odd_fields : (kind : Option Kind) (fields : InodeFields) (why : InodeFault) → checked_with kind fields ≡ Err why → AreOdd kind fields
odd_fields None fields why h = inl refl
odd_fields (Some kind) fields why h = by (one_failed _ _ _ _ _ _ h)
  where
    by : (nat_lt NAME_BYTES fields.name_length ≡ true) ⊎ (nat_lt SIZE_LIMIT fields.size ≡ true) → AreOdd (Some kind) fields
    by (inl long) = inr (inl (below NAME_BYTES fields.name_length long))
    by (inr big) = inr (inr (below SIZE_LIMIT fields.size big))

-- an inode that isn't read is none of ours
pub odd : (block : List ℕ) (why : InodeFault) → checked_inode (inode_of block) ≡ Err why → IsForeign block
odd block why h = odd_fields (known_kind (inode_of block).mode) (inode_of block) why h

-- a log that recovery may take leaves no condition of the node log standing
not_both : (b : Bool) → IsTrue b → b ≡ false → ⊥
not_both b is isnt = two (sym is ∙ isnt)
  where
    two : true ≡ false → ⊥
    two h = cc

module _ (image : Image) (ckpt : Checkpoint) where
  pub none_stands : IsRightLog ckpt.geom (chain image ckpt) → HasNoLogFault image ckpt
  none_stands sound =
      record {
        no_chain_long = λ at long. let more : node_third ckpt.geom < length (chain image ckpt) = long.0 in absurd (omega (arith, more, sound.size));
        no_bad_inode = λ place block marked odd.
            (sound.right place no_block marked.within).inode (subst (λ (b : List ℕ). IsTrue (is_marked b)) marked.stands marked.marked)
            (subst IsForeign marked.stands odd);
        no_out_of_zone = λ place at within is some out.
            not_both (is_in_node ckpt.geom at)
            (subst (λ (k : ℕ). IsTrue (is_in_node ckpt.geom k)) is ((sound.right place no_block within).next (λ z. some (sym is ∙ z)))) out;
      }

  -- each fault is the condition of its name
  pub long_stands : (at : ℕ) → IsFault ckpt.geom (chain image ckpt) (ChainLong at) → IsChainLong image ckpt at
  long_stands at fault = fault

  pub inode_stands : (at : ℕ) (why : InodeFault) → IsFault ckpt.geom (chain image ckpt) (BadInode at why) → IsBadInode image ckpt at
  inode_stands at why fault =
      faults.in_log fault.place (block_in (chain image ckpt) fault.place)
      (record { within = fault.within; stands = refl; marked = fault.wrong.0 })
      (sym fault.wrong.1)
      (odd (block_in (chain image ckpt) fault.place) why fault.wrong.2)

  pub next_stands : (at : ℕ) → IsFault ckpt.geom (chain image ckpt) (OutOfZone at) → IsOutOfZone image ckpt at
  next_stands at fault = faults.next fault.place fault.within (sym fault.wrong.0) fault.wrong.1 fault.wrong.2
