-- Pages that are blocks of an image, none of them past the size of their row, are good.
use Rattle.std.proofs.Common.{◌≡◌, ◌≢◌, ℕ, ◌+◌, ◌*◌, ◌<◌, ◌≤◌, ◌==◌, Bool, true, false, cond, List, length, slice_index, refl, sym, ap, ◌∙◌, arith}
use Rattle.std.specs.Prelude.{Some, None}
use Rattle.std.specs.FinMap as map
use Rattle.std.proofs.lemmas.Option.{none-some, same_Some}
use Rattle.std.proofs.lemmas.List.{get_or_past}
use native.Mathlib.Decide.{ℕ_discrete, dec_lt}
use Rattle.f2_format.specs.Offsets.{page_limit}
use Rattle.f2_format.specs.Inode.{SIZE_LIMIT}
use Rattle.f2_model.specs.Content.{PAGE}
use Rattle.f2_model.specs.Tree.{HasGoodPages}
use Rattle.f2_model.specs.declared.rows.Row.{Row}
use Rattle.f2_model.specs.declared.rows.Kind.TheVariants.{Regular, Directory}
use Rattle.f2_image.specs.Images.{Image, block_at}
use Rattle.f2_image.specs.Nodes.{block_there}
use Rattle.f2_image.specs.Faults.{IsPastSize}
use Rattle.f2_image.specs.Faults as faults
use Rattle.f2_image_laws.proofs.Numbers.{differ_of, not_less}

pub kinds_differ : Regular ≡ Directory → ⊥
kinds_differ e = cc

-- the pages of a file's row are the blocks at these addresses, which are whole and end before its size
pub record ArePagesAt (image : Image) (row : Row) (address : ℕ → ℕ) : Type 0 where
  pub regular : row.kind ≡ Regular
  pub size : row.size ≤ SIZE_LIMIT
  pub within : (page : ℕ) (bytes : List ℕ) → map.get row.pages page ≡ Some bytes → page < page_limit
  pub blocks : (page : ℕ) → page < page_limit → map.get row.pages page ≡ block_there image (address page)
  pub whole : (page : ℕ) → page < page_limit → address page ≢ 0 → length (block_at image (address page)) ≡ 4096
  pub before : (page : ℕ) → page < page_limit → address page ≢ 0 → ¬ (IsPastSize image row.size page (address page))

-- a block that is there
is_there : (image : Image) (at : ℕ) (bytes : List ℕ) → block_there image at ≡ Some bytes → (at ≢ 0) × (block_at image at ≡ bytes)
is_there image at bytes = by_zero (at == 0) refl
  where
    by_zero : (b : Bool) → (at == 0) ≡ b → cond b None (Some (block_at image at)) ≡ Some bytes → (at ≢ 0) × (block_at image at ≡ bytes)
    by_zero true e there = absurd (none-some bytes there)
    by_zero false e there = (differ_of at 0 e, same_Some (block_at image at) bytes there)

module _ (image : Image) (row : Row) (address : ℕ → ℕ) (are : ArePagesAt image row address) where
  at_page : (page : ℕ) (bytes : List ℕ) → map.get row.pages page ≡ Some bytes → (page < page_limit) × (address page ≢ 0) × (block_at image (address page) ≡ bytes)
  at_page page bytes has =
      let small = are.within page bytes has in
      let there = is_there image (address page) bytes (sym (are.blocks page small) ∙ has) in
      (small, there.0, there.1)

  whole : (page : ℕ) (bytes : List ℕ) → map.get row.pages page ≡ Some bytes → length bytes ≡ PAGE
  whole page bytes has = let at = at_page page bytes has in ap length (sym at.2) ∙ are.whole page at.0 at.1

  before : (page : ℕ) (bytes : List ℕ) → map.get row.pages page ≡ Some bytes → page * PAGE < row.size
  before page bytes has = by_order (dec_lt (page * PAGE) row.size)
    where
      by_order : Dec (page * PAGE < row.size) → page * PAGE < row.size
      by_order (yes small) = small
      by_order (no past) = let at = at_page page bytes has in absurd (are.before page at.0 at.1 (faults.whole (not_less (page * PAGE) row.size past)))

  zeros : (page at : ℕ) (bytes : List ℕ) → map.get row.pages page ≡ Some bytes → row.size ≤ page * PAGE + at → slice_index bytes at ≡ 0
  zeros page at bytes has past = by_order (dec_lt at 4096)
    where
      found : (page < page_limit) × (address page ≢ 0) × (block_at image (address page) ≡ bytes)
      found = at_page page bytes has

      by_byte : at < 4096 → Dec (slice_index (block_at image (address page)) at ≡ 0) → slice_index bytes at ≡ 0
      by_byte small (yes zero) = ap (λ block. slice_index block at) (sym found.2) ∙ zero
      by_byte small (no byte) = absurd (are.before page found.0 found.1 (faults.partly at small past byte))

      by_order : Dec (at < 4096) → slice_index bytes at ≡ 0
      by_order (yes small) = by_byte small (ℕ_discrete (slice_index (block_at image (address page)) at) 0)
      by_order (no large) = let long = whole page bytes has in get_or_past bytes at 0 (omega (arith, large, long))

  pub good_pages : HasGoodPages SIZE_LIMIT row
  good_pages = record {
    directory = λ is. absurd (kinds_differ (sym are.regular ∙ is));
    size = are.size;
    whole = whole;
    before = before;
    zeros = zeros;
  }
