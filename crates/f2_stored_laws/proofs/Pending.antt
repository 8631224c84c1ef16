-- An image with the tail of a pending tree stands for that tree.
use Rattle.std.proofs.Common.{◌≡◌, ℕ, zero, suc, ◌+◌, List, [], take, refl, sym, ap, ◌∙◌, subst, inr, arith}
use Rattle.std.specs.Prelude.{Option, Some, None}
use Rattle.f2_format.specs.Geometry.{node_third}
use Rattle.f2_disk.specs.Contents.{Contents, IsImage}
use Rattle.f2_model.specs.Tree.{Rows}
use Rattle.f2_model.specs.State.{State, Mark, pending_with}
use Rattle.f2_image.specs.Images.{Image, block_at}
use Rattle.f2_image.specs.Packs.{other_side, tail_address, format_of, recovery_version}
use Rattle.f2_image.specs.Chains.{Logged, chain}
use Rattle.f2_image.specs.Meanings.{IsLeft}
use Rattle.f2_image_laws.proofs.AlikeFaults.{same_meaning}
use Rattle.f2_image_laws.proofs.Chain.{chain_is_first_part}
use Rattle.f2_stored.specs.Layout.{Reference, Layout}
use Rattle.f2_stored.specs.Bases.{HoldsImage, HasPacks, HoldsPending, HoldsSome, HasFormat, IsPendingTail, tail_of}
use Rattle.f2_stored.specs.Stored.{KeepsPacks}
use Rattle.f2_stored_laws.proofs.Images.{one_content}
use Rattle.f2_stored_laws.proofs.Packs.{pending_counts}
use Rattle.f2_stored_laws.proofs.Clean.{pending_clean}

none_taken : (n : ℕ) → take {A = Logged} n [] ≡ []
none_taken zero = refl
none_taken (suc n) = refl

-- an image of the disk has no node log of a pending tree
pub no_chain : (lists : Contents) (image : Image) → IsImage lists image → (held pending : Reference) (tree : Rows) → HoldsPending lists held pending tree → chain image pending.ckpt ≡ []
unfolding chain
no_chain lists image is held pending tree keeps =
    let start = pending.ckpt.head.log_start in
    let part = chain_is_first_part lists image is (recovery_version pending.ckpt) start start (node_third pending.ckpt.geom + 1) [] (record { follow = refl; held = tt; free = λ there. keeps.starts }) (omega arith) in
    part.is ∙ none_taken part.count

module _ (lists : Contents) (layout : Layout) (state : State) (keeps : KeepsPacks lists layout state) (base : Rows) (marks : List Mark) (holds : HoldsImage lists layout.base base marks) (image : Image) (is : IsImage lists image) where
  left_of : (pending : Reference) (tree : Rows) → layout.pending ≡ Some pending → state.pending ≡ Some tree → HoldsPending lists layout.base pending tree → format_of pending.ckpt ≡ state.next_format
      → block_at image (tail_address (other_side layout.base.ckpt.side)) ≡ tail_of pending → IsLeft state image
  left_of pending tree is_pending is_tree of_tree format tail = record {
    ckpt = pending.ckpt;
    meaning = pending_with state tree;
    remains = inr (tree, is_tree, refl);
    means = same_meaning pending.image image pending.ckpt tree [] of_tree.holds.means (pending_counts lists image is layout.base base marks holds pending tree of_tree tail)
        (no_chain lists image is layout.base pending tree of_tree ∙ sym of_tree.no_log)
        (λ at needs. one_content lists image is pending.image at (of_tree.holds.read at needs));
    version = of_tree.version ∙ ap (λ n. n + 1) keeps.version;
    format = format;
    clean = pending_clean lists image is layout.base base marks holds.means pending tree (subst (HasPacks lists layout.base) is_pending keeps.packs) keeps.no_later of_tree tail;
  }

  pub pending_left : IsPendingTail layout.pending (block_at image (tail_address (other_side layout.base.ckpt.side))) → IsLeft state image
  pending_left tail = by_parts layout.pending state.pending refl refl keeps.pending keeps.next_format tail
    where
      by_parts : (pending : Option Reference) (tree : Option Rows) → layout.pending ≡ pending → state.pending ≡ tree → HoldsSome lists layout.base pending tree → HasFormat pending state.next_format
          → IsPendingTail pending (block_at image (tail_address (other_side layout.base.ckpt.side))) → IsLeft state image
      by_parts None tree p q some format tail = absurd tail
      by_parts (Some pending) None p q some format tail = absurd some
      by_parts (Some pending) (Some tree) p q some format tail = left_of pending tree p q some format tail
