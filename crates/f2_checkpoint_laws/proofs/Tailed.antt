-- The image that a disk has by what reads give, but for a tail.
use Rattle.std.proofs.Common.{◌≡◌, ◌≢◌, ℕ, zero, suc, ◌<◌, List, [], ◌∷◌, length, refl, sym, ap, ◌∙◌, arith}
use Rattle.std.proofs.lemmas.List.{length-map, length-set, get_or-set_same, get_or-set_other}
use Rattle.f2_disk.specs.Contents.{Contents, last_of, latest, flushed}
use Rattle.f2_image.specs.Images.{block_at}
use Rattle.f2_image_laws.specs.Chained.{contents_at}
use Rattle.f2_stored.specs.Bases.{HasOne}
use Rattle.f2_change_laws.proofs.Crashed.{flushed_at}
use Rattle.f2_checkpoint_laws.specs.Pending.{with_tail}

latest_at : (lists : Contents) (at : ℕ) → block_at (latest lists) at ≡ last_of (contents_at lists at)
latest_at [] at = refl
latest_at (list ∷ lists) zero = refl
latest_at (list ∷ lists) (suc at) = latest_at lists at

module _ (lists : Contents) (at : ℕ) (tail : List ℕ) where
  pub off_tail : (k : ℕ) → k ≢ at → block_at (with_tail lists at tail) k ≡ last_of (contents_at lists k)
  off_tail k apart = get_or-set_other (latest lists) at k tail [] apart ∙ latest_at lists k

  pub at_tail : at < length lists → block_at (with_tail lists at tail) at ≡ tail
  at_tail within = get_or-set_same (latest lists) at tail [] (omega (arith, within, length-map lists last_of))

  pub as_long : length (with_tail lists at tail) ≡ length (flushed lists)
  as_long = length-set (latest lists) at tail ∙ sym (length-map (latest lists) (λ (content : List ℕ). content ∷ []))

  -- a flushed disk has its blocks, but for the tail
  pub flushed_one : (k : ℕ) → k ≢ at → HasOne (flushed lists) (with_tail lists at tail) k
  flushed_one k apart = flushed_at lists k ∙ ap (λ (content : List ℕ). content ∷ []) (sym (off_tail k apart))

pub flushed_within : (lists : Contents) (at : ℕ) → at < length lists → at < length (flushed lists)
flushed_within lists at within = omega (arith, within, length-map lists last_of, length-map (latest lists) (λ (content : List ℕ). content ∷ []))
