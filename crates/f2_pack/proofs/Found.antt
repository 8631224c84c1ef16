-- The pack that three blocks of an image are.
use Rattle.std.proofs.Common.{◌≡◌, ℕ, ◌+◌, List, Option, Some, None, sym, ap, ◌∙◌, subst}
use Rattle.std.specs.Option.{IfSome}
use Rattle.f2_disk.specs.Contents.{Contents, latest}
use Rattle.f2_format.specs.Geometry.{ImageGeometry}
use Rattle.f2_format.specs.Pack.{IsPack, head_of}
use Rattle.f2_pack.specs.declared.packs.Pack.{Pack}
use Rattle.f2_pack.specs.declared.packs.Side.{Side}
use Rattle.f2_pack.specs.Packs.{IsPackOf, block_at, pack_start, value_of}

-- where contents are told, the block at this address is this one
abbrev pub TellsBlock : Option Contents → ℕ → List ℕ → Type 0
TellsBlock told at block = IfSome told (λ lists. block ≡ block_at (latest lists) at)

-- the pack of a head and a summary
abbrev pub pack_with : List ℕ → List ℕ → Pack
pack_with head summary = record { head = value_of (head_of head); summary = summary }

found : (told mid last : Option Contents) (geom : ImageGeometry) (side : Side) (start : ℕ) (head tail summary : List ℕ) → start ≡ pack_start side → mid ≡ told → last ≡ told
    → TellsBlock told start head → TellsBlock mid (start + 2) tail → TellsBlock last (start + 1) summary → head ≡ tail → IsPack geom head head
    → IfSome told (λ lists. IsPackOf geom (latest lists) side (Some (pack_with head summary)))
found None mid last geom side start head tail summary place same_mid same_last reads_head reads_tail reads_summary same valid = tt
found (Some lists) mid last geom side start head tail summary place same_mid same_last reads_head reads_tail reads_summary same valid =
    let image = latest lists in
    let at = pack_start side in
    let head_is : head ≡ block_at image at = reads_head ∙ ap (block_at image) place in
    let tail_is : tail ≡ block_at image (at + 2) =
    subst (λ (t : Option Contents). TellsBlock t (start + 2) tail) same_mid reads_tail ∙ ap (λ (k : ℕ). block_at image (k + 2)) place in
    let summary_is : summary ≡ block_at image (at + 1) =
    subst (λ (t : Option Contents). TellsBlock t (start + 1) summary) same_last reads_summary ∙ ap (λ (k : ℕ). block_at image (k + 1)) place in (
      subst (λ (h : List ℕ). IsPack geom h (block_at image (at + 2))) head_is (subst (λ (t : List ℕ). IsPack geom head t) (same ∙ tail_is) valid),
      ap (λ (h : List ℕ). pack_with h summary) head_is ∙ ap (pack_with (block_at image at)) summary_is,
    )

-- the same for an equal pack
pub found_as : (pack : Pack) (told mid last : Option Contents) (geom : ImageGeometry) (side : Side) (start : ℕ) (head tail summary : List ℕ) → pack ≡ pack_with head summary → start ≡ pack_start side
    → mid ≡ told → last ≡ told → TellsBlock told start head → TellsBlock mid (start + 2) tail → TellsBlock last (start + 1) summary → head ≡ tail → IsPack geom head head
    → IfSome told (λ lists. IsPackOf geom (latest lists) side (Some pack))
found_as pack told mid last geom side start head tail summary is place same_mid same_last reads_head reads_tail reads_summary same valid =
    subst (λ (p : Pack). IfSome told (λ lists. IsPackOf geom (latest lists) side (Some p))) (sym is)
    (found told mid last geom side start head tail summary place same_mid same_last reads_head reads_tail reads_summary same valid)
