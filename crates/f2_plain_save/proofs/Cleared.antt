-- Blocks of zeros, written one after another.
use Rattle.std.proofs.Common.{◌≡◌, inl, inr, ℕ, ◌+◌, ◌<◌, [], length, set, ap, ◌∙◌, arith}
use Rattle.std.proofs.lemmas.Bool.{cases_eq}
use Rattle.std.proofs.lemmas.List.{length-map, get_or-set_same, get_or-set_other}
use Rattle.f2_disk.specs.Contents.{Contents, last_of, latest, zeros}
use Rattle.f2_image.specs.Images.{Image, block_at}
use Rattle.f2_plain_save.specs.Writing.{one_block, OnlyAdds, HasPut}
use Rattle.f2_plain_save.specs.Blanks.{IsCleared}

-- one block of zeros more
pub cleared_more : (at : ℕ) (a b c : Contents) → IsCleared at a b → HasPut (one_block at zeros) b c × OnlyAdds (one_block at zeros) b c → IsCleared (at + 1) a c
cleared_more at a b c some more = record { size = more.1.size ∙ some.size; clear = clear }
  where
    clear : (k : ℕ) → k < at + 1 → k < length c → block_at (latest c) k ≡ zeros
    clear k less within =
        elim (cases_eq k at) [
          | inl e ↦
              ap (λ (image : Image). block_at image k) more.0
              ∙ ap (block_at (set (latest b) at zeros)) e
              ∙ get_or-set_same (latest b) at zeros [] (omega (arith, within, e, more.1.size, length-map b last_of))
          | inr apart ↦
              ap (λ (image : Image). block_at image k) more.0 ∙ get_or-set_other (latest b) at k zeros [] apart ∙ some.clear k (omega (arith, less, apart)) (omega (arith, within, more.1.size))
        ]
