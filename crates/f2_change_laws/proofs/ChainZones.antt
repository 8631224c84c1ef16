-- The blocks of the node log of a sound image stand in the node zone.
use Rattle.std.proofs.Common.{◌≡◌, ◌≢◌, ℕ, zero, suc, ◌+◌, ◌<◌, ◌==◌, Bool, true, false, cond, IsTrue, List, [], ◌∷◌, length, refl, sym, ◌∙◌, subst, arith}
use Rattle.std.specs.Prelude.{slice_index_or}
use Rattle.std.specs.List.{AllByRecursion}
use Rattle.f2_format.specs.Geometry.{node_third, is_in_node}
use Rattle.f2_format.specs.Footer.{footer_version, footer_next}
use Rattle.f2_image.specs.Images.{Image, block_at}
use Rattle.f2_image.specs.Packs.{Checkpoint, IsCheckpoint, recovery_version}
use Rattle.f2_image.specs.Chains.{Logged, chain, chain_from, no_block}
use Rattle.f2_image.specs.Faults.{IsSound, OutOfZone, VersionEnd}
use Rattle.f2_image.specs.Faults as faults
use Rattle.f2_image_laws.specs.Chained.{Follow}
use Rattle.f2_change_laws.proofs.Zones.{start_in_zone}

zero_or_not : (n : ℕ) (b : Bool) → (n == 0) ≡ b → cond b (n ≡ 0) (n ≢ 0)
zero_or_not n true e = grind (arith, e)
zero_or_not n false e = λ zero. grind (arith, e, zero)

-- where blocks that follow each other stand: at the first address, or at one that a block among them names
module _ (P : ℕ → Type 0) where
  each_follows : (start next : ℕ) (log : List Logged) → Follow start log next → (start ≢ 0 → P start)
      → ((place : ℕ) → place < length log → footer_next (slice_index_or log place no_block).block ≢ 0 → P (footer_next (slice_index_or log place no_block).block))
      → AllByRecursion (λ one. P one.at) log
  each_follows start next [] follow first named = tt
  each_follows start next (one ∷ rest) follow first named =
      (subst P (sym follow.0) (first follow.1), each_follows (footer_next one.block) next rest follow.2 (named 0 (omega arith)) (λ place less. named (suc place) (omega (arith, less))))

  last_follows : (start next : ℕ) (log : List Logged) → Follow start log next → (start ≢ 0 → P start)
      → ((place : ℕ) → place < length log → footer_next (slice_index_or log place no_block).block ≢ 0 → P (footer_next (slice_index_or log place no_block).block))
      → next ≢ 0 → P next
  last_follows start next [] follow first named there = subst P follow (first (λ none. there (sym follow ∙ none)))
  last_follows start next (one ∷ rest) follow first named there =
      last_follows (footer_next one.block) next rest follow.2 (named 0 (omega arith)) (λ place less. named (suc place) (omega (arith, less))) there

-- a chain follows from where it starts
one_more : (at : ℕ) (block : List ℕ) (rest : List Logged) (zero goes : Bool) → (at == 0) ≡ zero → ((next : ℕ) × Follow (footer_next block) rest next)
    → (next : ℕ) × Follow at (cond zero [] (cond goes (record { at = at; block = block } ∷ rest) [])) next
one_more at block rest true goes e later = (at, refl)
one_more at block rest false true e later = (later.0, (refl, zero_or_not at false e, later.1))
one_more at block rest false false e later = (at, refl)

chain_from_follows : (image : Image) (version most at : ℕ) → (next : ℕ) × Follow at (chain_from image version most at) next
chain_from_follows image version zero at = (at, refl)
chain_from_follows image version (suc most) at =
    one_more at (block_at image at) (chain_from image version most (footer_next (block_at image at))) (at == 0) (footer_version (block_at image at) == version) refl
    (chain_from_follows image version most (footer_next (block_at image at)))

module _ (image : Image) (ckpt : Checkpoint) (checkpoint : IsCheckpoint image ckpt) (sound : IsSound image ckpt) where
  chain_follows : (next : ℕ) × Follow ckpt.head.log_start (chain image ckpt) next
  unfolding chain
  chain_follows = chain_from_follows image (recovery_version ckpt) (node_third ckpt.geom + 1) ckpt.head.log_start

  named_in_zone : (place : ℕ) → place < length (chain image ckpt) → footer_next (slice_index_or (chain image ckpt) place no_block).block ≢ 0
      → IsTrue (is_in_node ckpt.geom (footer_next (slice_index_or (chain image ckpt) place no_block).block))
  named_in_zone place less there = by_test (is_in_node ckpt.geom named) refl
    where
      named : ℕ
      named = footer_next (slice_index_or (chain image ckpt) place no_block).block

      no_end : OutOfZone ≢ VersionEnd
      no_end e = cc

      by_test : (b : Bool) → is_in_node ckpt.geom named ≡ b → IsTrue b
      by_test true e = refl
      by_test false e = absurd (sound OutOfZone named no_end (faults.next place less refl there e))

  pub chain_in_zone : AllByRecursion (λ one. IsTrue (is_in_node ckpt.geom one.at)) (chain image ckpt)
  chain_in_zone = each_follows (λ at. IsTrue (is_in_node ckpt.geom at)) _ chain_follows.0 (chain image ckpt) chain_follows.1 (λ there. start_in_zone image ckpt checkpoint) named_in_zone

  pub end_in_zone : (next : ℕ) → Follow ckpt.head.log_start (chain image ckpt) next → next ≢ 0 → IsTrue (is_in_node ckpt.geom next)
  end_in_zone next follow = last_follows (λ at. IsTrue (is_in_node ckpt.geom at)) _ next (chain image ckpt) follow (λ there. start_in_zone image ckpt checkpoint) named_in_zone
