-- No block and no tail of an image of a disk is of a later version than its checkpoint.
use Rattle.std.proofs.Common.{◌≡◌, ◌⊎◌, inl, inr, ℕ, ◌+◌, ◌%◌, ◌^◌, ◌≤◌, IsTrue, List, [], sym, ap, ◌∙◌, subst, arith}
use Rattle.std.specs.Prelude.{Option, Some}
use Rattle.f2_format.specs.Geometry.{is_in_node}
use Rattle.f2_format.specs.Footer.{footer_version}
use Rattle.f2_format.specs.Pack.{head_of}
use Rattle.f2_disk.specs.Contents.{Contents, IsImage}
use Rattle.f2_model.specs.Tree.{Rows}
use Rattle.f2_model.specs.State.{Mark}
use Rattle.f2_image.specs.Images.{Image, block_at}
use Rattle.f2_image.specs.Packs.{other_side, tail_address}
use Rattle.f2_image.specs.Meanings.{MeansAt, IsCleanAt}
use Rattle.f2_stored.specs.Layout.{Reference}
use Rattle.f2_stored.specs.Bases.{HasPacks, HasNoLater, HoldsPending, IsPendingTail, tail_of}
use Rattle.f2_stored_laws.proofs.Images.{of_each, the_content}
use Rattle.f2_stored_laws.proofs.Packs.{both_sides}

-- the version of a pack's tail is its checkpoint's
tail_version : (held : Reference) (base : Rows) (marks : List Mark) → MeansAt held.image held.ckpt base marks → (head_of (tail_of held)).version ≡ held.ckpt.head.version
tail_version held base marks means = ap (λ block. (head_of block).version) means.checkpoint.newest.valid.same ∙ ap (λ head. head.version) (sym means.checkpoint.head)

module _ (lists : Contents) (image : Image) (is : IsImage lists image) (held : Reference) (base : Rows) (marks : List Mark) (means : MeansAt held.image held.ckpt base marks) where
  own_tail : (pending : Option Reference) → HasPacks lists held pending → (head_of (block_at image (tail_address held.ckpt.side))).version ≡ held.ckpt.head.version
  own_tail pending packs = ap (λ block. (head_of block).version) (the_content lists image is (tail_address held.ckpt.side) (tail_of held) packs.own) ∙ tail_version held base marks means

  -- where the base's pack counts
  pub base_clean : (pending : Option Reference) → HasPacks lists held pending → HasNoLater lists held.ckpt → ¬ (IsPendingTail pending (block_at image (tail_address (other_side held.ckpt.side)))) → IsCleanAt image held.ckpt
  base_clean pending packs no_later none = record {
    nodes = λ at zone. of_each lists image is (λ content. footer_version content % 2 ^ 32 ≤ held.ckpt.head.version) at (no_later at zone);
    tails = both_sides (λ side. (head_of (block_at image (tail_address side))).version ≤ held.ckpt.head.version) held.ckpt.side
        (up_to (head_of (block_at image (tail_address held.ckpt.side))).version held.ckpt.head.version (own_tail pending packs))
        (by_case (of_each lists image is (λ tail. ((head_of tail).version ≤ held.ckpt.head.version) ⊎ IsPendingTail pending tail) (tail_address (other_side held.ckpt.side)) packs.not_later));
  }
    where
      up_to : (m n : ℕ) → m ≡ n → m ≤ n
      up_to m n e = omega (arith, e)

      by_case : ((head_of (block_at image (tail_address (other_side held.ckpt.side)))).version ≤ held.ckpt.head.version) ⊎ IsPendingTail pending (block_at image (tail_address (other_side held.ckpt.side)))
          → (head_of (block_at image (tail_address (other_side held.ckpt.side)))).version ≤ held.ckpt.head.version
      by_case (inl few) = few
      by_case (inr tail) = absurd (none tail)

  -- where a pending tree's does
  pub pending_clean : (pending : Reference) (tree : Rows) → HasPacks lists held (Some pending) → HasNoLater lists held.ckpt → HoldsPending lists held pending tree
      → block_at image (tail_address (other_side held.ckpt.side)) ≡ tail_of pending → IsCleanAt image pending.ckpt
  pending_clean pending tree packs no_later keeps tail = record {
    nodes = λ at zone. more (footer_version (block_at image at) % 2 ^ 32) held.ckpt.head.version pending.ckpt.head.version
        (of_each lists image is (λ content. footer_version content % 2 ^ 32 ≤ held.ckpt.head.version) at (no_later at (subst (λ geom. IsTrue (is_in_node geom at)) keeps.geom zone))) keeps.version;
    tails = both_sides (λ side. (head_of (block_at image (tail_address side))).version ≤ pending.ckpt.head.version) held.ckpt.side
        (same_more (head_of (block_at image (tail_address held.ckpt.side))).version held.ckpt.head.version pending.ckpt.head.version (own_tail (Some pending) packs) keeps.version)
        (up_to (head_of (block_at image (tail_address (other_side held.ckpt.side)))).version pending.ckpt.head.version (ap (λ block. (head_of block).version) tail ∙ tail_version pending tree [] keeps.holds.means));
  }
    where
      up_to : (m n : ℕ) → m ≡ n → m ≤ n
      up_to m n e = omega (arith, e)

      more : (m n p : ℕ) → m ≤ n → p ≡ n + 1 → m ≤ p
      more m n p few e = omega (arith, few, e)

      same_more : (m n p : ℕ) → m ≡ n → p ≡ n + 1 → m ≤ p
      same_more m n p e f = omega (arith, e, f)
