-- A table with the entries of a block more.
use Rattle.std.proofs.Common.{◌≡◌, ℕ, ◌+◌, ◌*◌, ◌<◌, ◌≤◌, Bool, List, length, ap, subst, ◌∙◌, sym, arith, inl, inr, ◌≢◌, ◌⊎◌}
use Rattle.std.specs.List.{slice_index}
use Rattle.std.proofs.Common.{mul-le-mul_left}
use Rattle.f2_format.specs.Geometry.{ImageGeometry, nat_address}
use Rattle.f2_format.specs.Nat.{nat_entry}
use Rattle.f2_image.specs.Images.{Image, block_at}
use Rattle.f2_laws.proofs.Places.{same_or_other}
use Rattle.f2_plain_read.specs.Points.{IsTableOf, HasEntriesMore}

module _ (geom : ImageGeometry) (second : Bool) (image : Image) where
  pub table_of : (each blocks all : ℕ) (table : List ℕ) → IsTableOf each geom second image blocks table → all ≡ blocks → IsTableOf each geom second image all table
  table_of each blocks all table is same = subst (λ (n : ℕ). IsTableOf each geom second image n table) (sym same) is

  pub entries_more : (each blocks : ℕ) (block old new : List ℕ) → IsTableOf each geom second image blocks old → block ≡ block_at image (nat_address geom blocks second)
      → HasEntriesMore block old new each → IsTableOf each geom second image (blocks + 1) new
  entries_more each blocks block old new table is more =
      record {
        size = grind (arith, more.size, table.size);
        entries = λ at place below h. by_block at place below h (same_or_other at blocks);
      }
    where
      by_block : (at place : ℕ) → at < blocks + 1 → place < each → (at ≡ blocks) ⊎ (at ≢ blocks) → slice_index new (each * at + place) ≡ (nat_entry (block_at image (nat_address geom at second)) place).1
      by_block at place below h (inl same) =
          ap (λ (n : ℕ). slice_index new (each * n + place)) same
          ∙ ap (λ (n : ℕ). slice_index new (n + place)) (sym table.size)
          ∙ more.added place h
          ∙ ap (λ (b : List ℕ). (nat_entry b place).1) (is ∙ ap (λ (n : ℕ). block_at image (nat_address geom n second)) (sym same))
      by_block at place below h (inr other) =
          let lower : at < blocks = omega arith in
          let next : at + 1 ≤ blocks = omega arith in
          let most : each * (at + 1) ≤ each * blocks = mul-le-mul_left each next in
          let within : each * at + place < length old = omega (arith, most, table.size) in
          more.kept (each * at + place) within ∙ table.entries at place lower h
