-- A disk that keeps the image that a mount found has that image's node log.
use Rattle.std.proofs.Common.{◌≡◌, ◌≢◌, ℕ, zero, suc, ◌+◌, ◌==◌, Bool, true, false, cond, List, [], ◌∷◌, length, All, refl, sym, ap, ◌∙◌, subst, inl, arith}
use Rattle.std.proofs.lemmas.List.Elements.{All-head, All-tail}
use Rattle.std.proofs.lemmas.List.{take_all}
use Rattle.f2_format.specs.Geometry.{node_third}
use Rattle.f2_format.specs.Footer.{footer_version, footer_next}
use Rattle.f2_disk.specs.Contents.{Contents, IsImage}
use Rattle.f2_model.specs.State.{State, base_up_to}
use Rattle.f2_image.specs.Images.{Image, block_at}
use Rattle.f2_image.specs.Packs.{other_side, tail_address, recovery_version}
use Rattle.f2_image.specs.Chains.{Logged, chain, chain_from}
use Rattle.f2_image.specs.Meanings.{MeansAt, IsLeft}
use Rattle.f2_image_laws.specs.Chained.{Follow}
use Rattle.f2_image_laws.proofs.AlikeFaults.{same_meaning}
use Rattle.f2_stored.specs.Layout.{Layout}
use Rattle.f2_stored.specs.Bases.{HasOne, IsPendingTail}
use Rattle.f2_stored.specs.Stored.{KeepsPacks, KeepsImage}
use Rattle.f2_stored_laws.proofs.Images.{one_content}
use Rattle.f2_stored_laws.proofs.Packs.{base_counts}
use Rattle.f2_stored_laws.proofs.Clean.{base_clean}

other_of : (n : ℕ) → (n == 0) ≡ false → n ≢ 0
other_of n e none = grind (arith, e, none)

module _ (lists : Contents) (image : Image) (is : IsImage lists image) (held : Image) (version : ℕ) where
  -- each block of the log has one content, and where it ends
  abbrev IsHeldFrom : ℕ → List Logged → Type 0
  IsHeldFrom at log = All (λ one. HasOne lists held one.at) log × ((next : ℕ) → Follow at log next → next ≢ 0 → HasOne lists held next)

  -- the log of an image from an address on, by its block there
  abbrev log_with : ℕ → ℕ → List ℕ → List Logged
  log_with most at block = cond (footer_version block == version) (record { at = at; block = block } ∷ chain_from image version most (footer_next block)) []

  same_step : (most at : ℕ) → ((next : ℕ) → IsHeldFrom next (chain_from held version most next) → chain_from image version most next ≡ chain_from held version most next)
      → IsHeldFrom at (chain_from held version (suc most) at) → chain_from image version (suc most) at ≡ chain_from held version (suc most) at
  same_step most at later kept = by_parts (at == 0) (footer_version block == version) refl refl kept
    where
      block : List ℕ
      block = block_at held at

      rest : List Logged
      rest = chain_from held version most (footer_next block)

      one : Logged
      one = record { at = at; block = block }

      by_parts : (z v : Bool) → (at == 0) ≡ z → (footer_version block == version) ≡ v → IsHeldFrom at (cond z [] (cond v (one ∷ rest) []))
          → cond z [] (log_with most at (block_at image at)) ≡ cond z [] (cond v (one ∷ rest) [])
      by_parts true v none e kept = refl
      by_parts false true there e kept =
          let same = one_content lists image is held at (All-head (λ one. HasOne lists held one.at) one rest kept.0) in
          ap (log_with most at) same ∙ ap (λ b. cond b (one ∷ chain_from image version most (footer_next block)) []) e
          ∙ ap (λ log. one ∷ log) (later (footer_next block) (All-tail (λ one. HasOne lists held one.at) one rest kept.0, λ next follow. kept.1 next (refl, other_of at there, follow)))
      by_parts false false there e kept =
          let same = one_content lists image is held at (kept.1 at refl (other_of at there)) in
          ap (log_with most at) same ∙ ap (λ b. cond b (one ∷ chain_from image version most (footer_next block)) []) e

  same_from : (most at : ℕ) → IsHeldFrom at (chain_from held version most at) → chain_from image version most at ≡ chain_from held version most at
  same_from zero at kept = refl
  same_from (suc most) at kept = same_step most at (same_from most) kept

module _ (lists : Contents) (layout : Layout) (state : State) (packs : KeepsPacks lists layout state) (keeps : KeepsImage lists layout state) (image : Image) (is : IsImage lists image) where
  same_chain : chain image layout.base.ckpt ≡ chain layout.base.image layout.base.ckpt
  unfolding chain
  same_chain = same_from lists image is layout.base.image (recovery_version layout.base.ckpt) (node_third layout.base.ckpt.geom + 1) layout.base.ckpt.head.log_start (keeps.log, keeps.ends)

  -- such an image stands for the base and all marks
  pub found_left : ¬ (IsPendingTail layout.pending (block_at image (tail_address (other_side layout.base.ckpt.side)))) → IsLeft state image
  found_left none = record {
    ckpt = layout.base.ckpt;
    meaning = base_up_to state (length state.marks);
    remains = inl (length state.marks, keeps.acknowledged, omega arith, refl);
    means = subst (MeansAt image layout.base.ckpt state.base) (sym (take_all (length state.marks) state.marks (omega arith)))
        (same_meaning layout.base.image image layout.base.ckpt state.base state.marks keeps.base.means (base_counts lists image is layout.base state.base state.marks keeps.base layout.pending packs.packs none) same_chain
        (λ at needs. one_content lists image is layout.base.image at (keeps.base.read at needs)));
    version = packs.version;
    format = packs.format;
    clean = base_clean lists image is layout.base state.base state.marks keeps.base.means layout.pending packs.packs packs.no_later none;
  }
