-- The pack of a checkpoint.
use Rattle.std.specs.Prelude.{◌≡◌, ℕ, ◌^◌, ◌<◌, true, List, [], ◌∷◌, ◌++◌}
use Rattle.f2_format.specs.Journal.{journal_count}
use Rattle.f2_format.specs.Nat.{is_second_copy}
use Rattle.f2_format.specs.Pack.{IsPack, head_of, is_newer_format}
use Rattle.f2_image.specs.Packs.{Side, head_address, summary_address}
use Rattle.f2_laid.specs.declared.planned.Planned.{Planned}
use Rattle.f2_plain_plan.specs.declared.plans.Next.{Next}

-- a block is head and tail of the pack that comes next
pub record IsHead (next : Next) (block : List ℕ) : Type 0 where
  pub pack : IsPack next.geometry block block
  pub version : (head_of block).version ≡ next.version
  pub low : (head_of block).version < 2 ^ 32
  pub newer : is_newer_format (head_of block) ≡ true
  pub bitmap : (table : ℕ) → table < next.geometry.nat → is_second_copy (head_of block).bitmap table ≡ next.second

-- a summary without a journal and a head were planned
pub record AddsPack (side : Side) (head : List ℕ) (blocks blocks_after : List Planned) : Type 0 where
  pub summary : List ℕ
  pub empty : journal_count summary ≡ 0
  pub added : blocks_after ≡ blocks ++ (record { at = summary_address side; block = summary } ∷ record { at = head_address side; block = head } ∷ [])
