-- An image has one checkpoint.
use Rattle.std.proofs.Common.{◌≡◌, refl, sym, ap, ◌∙◌, subst, arith}
use Rattle.f2_format.specs.Geometry.{ImageGeometry}
use Rattle.f2_format.specs.Pack.{head_of}
use Rattle.f2_image.specs.Images.{Image, block_at, IsSized, by_first, by_second}
use Rattle.f2_image.specs.Packs.{Side, A, B, head_address, summary_address, IsNewest, Checkpoint, IsCheckpoint}

one_geom : (image : Image) (e f : ImageGeometry) → IsSized image e → IsSized image f → e ≡ f
one_geom image e f (by_first right p) (by_first more q) = p ∙ sym q
one_geom image e f (by_second none right p) (by_second more other q) = p ∙ sym q
one_geom image e f (by_first right p) (by_second none other q) = absurd (none right)
one_geom image e f (by_second none right p) (by_first more q) = absurd (none more)

one_side : (geom : ImageGeometry) (image : Image) (s t : Side) → IsNewest geom image s → IsNewest geom image t → s ≡ t
one_side geom image A A p q = refl
one_side geom image B B p q = refl
one_side geom image A B p q =
    let low = p.newest q.valid in
    let high = q.newest p.valid in
    absurd (omega arith)
one_side geom image B A p q =
    let low = q.newest p.valid in
    let high = p.newest q.valid in
    absurd (omega arith)

pub one_checkpoint : (image : Image) (a b : Checkpoint) → IsCheckpoint image a → IsCheckpoint image b → a ≡ b
one_checkpoint image a b p q =
    let geoms = one_geom image a.geom b.geom p.sized q.sized in
    let sides = one_side b.geom image a.side b.side (subst (λ e. IsNewest e image a.side) geoms p.newest) q.newest in
    let heads : a.head ≡ b.head = p.head ∙ ap (λ s. head_of (block_at image (head_address s))) sides ∙ sym q.head in
    let summaries : a.summary ≡ b.summary = p.summary ∙ ap (λ s. block_at image (summary_address s)) sides ∙ sym q.summary in
    λ i. record { geom = geoms i; side = sides i; head = heads i; summary = summaries i }
