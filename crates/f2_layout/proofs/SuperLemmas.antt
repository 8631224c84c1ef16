-- A superblock that was written is read.
use Rattle.std.proofs.Common.{◌≡◌, ℕ, ◌^◌, ◌<◌, ◌≤◌, List, [], ◌∷◌, length, refl, sym, subst, arith}
use Rattle.std.proofs.lemmas.List.{length-replicate}
use Rattle.f2_format.specs.Bytes.{zeros}
use Rattle.f2_format.specs.Geometry.{ImageGeometry, IsGeometry}
use Rattle.f2_format.specs.Superblock.{IsSuper, super_geom, super_block, MAGIC, TAG}
use Rattle.f2_format.proofs.FieldLemmas.{Number, num, part_reads}

-- there are so many zeros
length-zeros : (n : ℕ) → length (zeros n) ≡ n
unfolding zeros
length-zeros n = length-replicate n 0

-- the numbers of a superblock
abbrev numbers : ImageGeometry → List Number
numbers geom = num 1024 4 MAGIC ∷ num 1028 8 TAG ∷ num 1036 4 geom.blocks ∷ num 1040 4 geom.nat ∷ []

pub super_geom-super_block : (geom : ImageGeometry) → geom.blocks < 2 ^ 32 → geom.nat < 2 ^ 32 → super_geom (super_block geom) ≡ geom
super_geom-super_block geom blocks_fit nat_fits =
    let blocks = part_reads 4 1036 4096 (zeros 4096) (numbers geom) (length-zeros 4096) refl blocks_fit in
    let nat = part_reads 4 1040 4096 (zeros 4096) (numbers geom) (length-zeros 4096) refl nat_fits in
    rw (blocks, nat) refl

pub IsSuper-super_block : (geom : ImageGeometry) (device : ℕ) → IsGeometry geom → geom.blocks ≤ device → IsSuper (super_block geom) device
IsSuper-super_block geom device sound within =
    let most_blocks = sound.most_blocks in
    let most_nat = sound.most_nat in
    let same = super_geom-super_block geom (omega arith) (omega arith) in
    record {
      magic = part_reads 4 1024 4096 (zeros 4096) (numbers geom) (length-zeros 4096) refl (omega arith);
      tag = part_reads 8 1028 4096 (zeros 4096) (numbers geom) (length-zeros 4096) refl (omega arith);
      geometry = subst (λ (e : ImageGeometry). IsGeometry e) (sym same) sound;
      within = subst (λ (e : ImageGeometry). e.blocks ≤ device) (sym same) within;
    }
