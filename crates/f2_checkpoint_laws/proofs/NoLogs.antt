-- No block carries the version of a checkpoint that is only being written, so it has no node log.
use Rattle.std.proofs.Common.{◌≡◌, ◌≢◌, ℕ, zero, suc, ◌+◌, ◌%◌, ◌^◌, ◌<◌, ◌≤◌, ◌==◌, Bool, true, false, cond, IsTrue, List, [], ◌∷◌, refl, ap, ◌∙◌, subst, arith}
use Rattle.std.proofs.lemmas.Bool.{ne_eqb}
use Rattle.std.proofs.lemmas.List.Elements.{All-weaker}
use Rattle.f2_format.specs.Geometry.{ImageGeometry, node_third, is_in_node}
use Rattle.f2_format.specs.Footer.{footer_version, footer_next}
use Rattle.f2_disk.specs.Contents.{Contents}
use Rattle.f2_image.specs.Images.{Image, block_at}
use Rattle.f2_image.specs.Packs.{Checkpoint, recovery_version}
use Rattle.f2_image.specs.Chains.{Logged, chain, chain_from}
use Rattle.f2_image_laws.specs.Chained.{contents_at, HoldsNone}
use Rattle.f2_stored.specs.Bases.{HasNoLater}
use Rattle.f2_change_laws.proofs.Addresses.{log_version_low}

-- where no block is of a later version than one checkpoint's, none is of the log of the next one
pub none_later : (lists : Contents) (held ckpt : Checkpoint) → HasNoLater lists held → ckpt.geom ≡ held.geom → ckpt.head.version ≡ held.head.version + 1 → ckpt.head.version < 2 ^ 32
    → (at : ℕ) → IsTrue (is_in_node ckpt.geom at) → HoldsNone lists (recovery_version ckpt) at
none_later lists held ckpt none geom version early at inside =
    All-weaker (λ content. footer_version content % 2 ^ 32 ≤ held.head.version) (λ content. footer_version content ≢ recovery_version ckpt)
    (λ content low same. omega (arith, low, ap (λ v. v % 2 ^ 32) same, log_version_low ckpt.head early, version)) (contents_at lists at)
    (none at (subst (λ (e : ImageGeometry). IsTrue (is_in_node e at)) geom inside))

-- a log ends before a block of another version
abbrev no_blocks : List Logged
no_blocks = []

either_empty : (b : Bool) → cond b no_blocks no_blocks ≡ no_blocks
either_empty true = refl
either_empty false = refl

ends_there : (image : Image) (version most at : ℕ) → footer_version (block_at image at) ≢ version → chain_from image version most at ≡ []
ends_there image version zero at other = refl
ends_there image version (suc most) at other =
    ap (λ b. cond (at == 0) [] (cond b (record { at = at; block = block_at image at } ∷ chain_from image version most (footer_next (block_at image at))) [])) (ne_eqb (footer_version (block_at image at)) version other)
    ∙ either_empty (at == 0)

pub no_chain : (image : Image) (ckpt : Checkpoint) → footer_version (block_at image ckpt.head.log_start) ≢ recovery_version ckpt → chain image ckpt ≡ []
unfolding chain
no_chain image ckpt other = ends_there image (recovery_version ckpt) (node_third ckpt.geom + 1) ckpt.head.log_start other
