-- Which checkpoint an image of a disk has.
use Rattle.std.proofs.Common.{◌≡◌, ◌⊎◌, inl, inr, ℕ, zero, suc, ◌+◌, ◌<◌, ◌≤◌, Bool, true, false, List, [], refl, sym, ap, ◌∙◌, subst, subst₂, arith}
use Rattle.std.specs.Prelude.{Option, Some, None, nat_eq}
use Rattle.std.specs.Cmp.Lexicographic.{pointwise, same_text, other_text}
use Rattle.f2_format.specs.Pack.{head_of, IsPack}
use Rattle.f2_disk.specs.Contents.{Contents, IsImage}
use Rattle.f2_model.specs.Tree.{Rows}
use Rattle.f2_model.specs.State.{Mark}
use Rattle.f2_image.specs.Images.{Image, block_at}
use Rattle.f2_image.specs.Packs.{Side, A, B, other_side, head_address, summary_address, tail_address, IsValid, version_of, GoesBefore, IsCheckpoint}
use Rattle.f2_stored.specs.Layout.{Reference}
use Rattle.f2_stored.specs.Bases.{HoldsImage, HasPacks, HoldsPending, IsPendingTail, IsBehind, tail_of}
use Rattle.f2_stored.specs.Bases as bases
use Rattle.f2_stored_laws.proofs.Images.{member, one_content, the_content, as_long, same_sizes}

-- lists of numbers are the same or differ
same_or_not : (xs ys : List ℕ) → Dec (xs ≡ ys)
same_or_not xs ys = by_test (pointwise nat_eq xs ys) refl
  where
    by_test : (b : Bool) → b ≡ pointwise nat_eq xs ys → Dec (xs ≡ ys)
    by_test true e = yes (same_text xs ys e)
    by_test false e = no (other_text xs ys e)

-- a content is the tail of a pending tree or it isn't
pub is_pending_tail : (pending : Option Reference) (content : List ℕ) → Dec (IsPendingTail pending content)
is_pending_tail None content = no (λ none. none)
is_pending_tail (Some pending) content = same_or_not content (tail_of pending)

-- there are two sides
pub twice_other : (side : Side) → other_side (other_side side) ≡ side
twice_other A = refl
twice_other B = refl

pub both_sides : (P : Side → Type 0) (side : Side) → P side → P (other_side side) → (each : Side) → P each
both_sides P A own other A = own
both_sides P A own other B = other
both_sides P B own other A = other
both_sides P B own other B = own

-- a later version goes before an earlier one
later_first : (image : Image) (side : Side) → version_of image (other_side side) < version_of image side → GoesBefore image side
later_first image A less = omega (arith, less)
later_first image B less = less

behind_first : (image : Image) (side : Side) (newest : ℕ) → version_of image side ≡ newest → IsBehind side (version_of image (other_side side)) newest → GoesBefore image side
behind_first image A newest is behind = subst (λ n. version_of image B ≤ n) (sym is) behind
behind_first image B newest is behind = subst (λ n. version_of image A < n) (sym is) behind

module _ (lists : Contents) (image : Image) (is : IsImage lists image) where
  -- what an image has of the checkpoint of another one that the disk holds
  module _ (held : Reference) (base : Rows) (marks : List Mark) (holds : HoldsImage lists held base marks) where
    pub same_head : block_at image (head_address held.ckpt.side) ≡ block_at held.image (head_address held.ckpt.side)
    same_head = one_content lists image is held.image (head_address held.ckpt.side) (holds.tells (head_address held.ckpt.side) bases.head)

    pub head_version : version_of image held.ckpt.side ≡ held.ckpt.head.version
    head_version = ap (λ block. (head_of block).version) same_head ∙ ap (λ head. head.version) (sym holds.means.checkpoint.head)

    first_two : (at : ℕ) → at ≤ 1 → block_at image at ≡ block_at held.image at
    first_two zero few = one_content lists image is held.image 0 (holds.tells 0 bases.first_superblock)
    first_two (suc zero) few = one_content lists image is held.image 1 (holds.tells 1 bases.second_superblock)
    first_two (suc (suc at)) few = absurd (omega (arith, few))

    pub valid_with : block_at image (tail_address held.ckpt.side) ≡ tail_of held → IsValid held.ckpt.geom image held.ckpt.side
    valid_with tail = subst₂ (IsPack held.ckpt.geom) (sym same_head) (sym tail) holds.means.checkpoint.newest.valid

    pub checkpoint_with : block_at image (tail_address held.ckpt.side) ≡ tail_of held → (IsValid held.ckpt.geom image (other_side held.ckpt.side) → GoesBefore image held.ckpt.side) → IsCheckpoint image held.ckpt
    checkpoint_with tail first = record {
      sized = same_sizes held.image image held.ckpt.geom (as_long lists image is ∙ sym holds.size) first_two holds.means.checkpoint.sized;
      newest = record { valid = valid_with tail; newest = first };
      head = holds.means.checkpoint.head ∙ ap head_of (sym same_head);
      summary = holds.means.checkpoint.summary ∙ sym (one_content lists image is held.image (summary_address held.ckpt.side) (holds.tells (summary_address held.ckpt.side) bases.summary));
    }

    -- the pack that counts on the disk counts in the image, where the other one's tail isn't that of a pending tree
    pub base_counts : (pending : Option Reference) → HasPacks lists held pending → ¬ (IsPendingTail pending (block_at image (tail_address (other_side held.ckpt.side)))) → IsCheckpoint image held.ckpt
    base_counts pending packs none = checkpoint_with (the_content lists image is (tail_address held.ckpt.side) (tail_of held) packs.own) (λ valid.
        by_case (packs.behind _ _ (member lists image is (head_address (other_side held.ckpt.side))) (member lists image is (tail_address (other_side held.ckpt.side))) valid))
      where
        by_case : IsBehind held.ckpt.side (version_of image (other_side held.ckpt.side)) held.ckpt.head.version ⊎ IsPendingTail pending (block_at image (tail_address (other_side held.ckpt.side))) → GoesBefore image held.ckpt.side
        by_case (inl behind) = behind_first image held.ckpt.side held.ckpt.head.version head_version behind
        by_case (inr tail) = absurd (none tail)

  -- with that tail the pending tree's pack counts
  pub pending_counts : (held : Reference) (base : Rows) (marks : List Mark) → HoldsImage lists held base marks → (pending : Reference) (tree : Rows) → HoldsPending lists held pending tree
      → block_at image (tail_address (other_side held.ckpt.side)) ≡ tail_of pending → IsCheckpoint image pending.ckpt
  pending_counts held base marks holds pending tree keeps tail =
      checkpoint_with pending tree [] keeps.holds (subst (λ side. block_at image (tail_address side) ≡ tail_of pending) (sym keeps.side) tail) (λ valid.
      later_first image pending.ckpt.side (less (version_of image (other_side pending.ckpt.side)) (version_of image pending.ckpt.side) held.ckpt.head.version
      (ap (version_of image) (ap other_side keeps.side ∙ twice_other held.ckpt.side) ∙ head_version held base marks holds)
      (head_version pending tree [] keeps.holds ∙ keeps.version)))
    where
      less : (one other held : ℕ) → one ≡ held → other ≡ held + 1 → one < other
      less one other held p q = omega (arith, p, q)
