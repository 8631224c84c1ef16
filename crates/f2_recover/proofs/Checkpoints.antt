-- A checkpoint by its bitmap and its summary, and its table as it was read.
use Rattle.std.proofs.Common.{◌≡◌, ℕ, ◌<◌, ◌≤◌, List, length, sym, ap, ◌∙◌, subst}
use Rattle.std.specs.Prelude.{Option}
use Rattle.f2_disk.specs.Contents.{Contents}
use Rattle.f2_format.specs.Geometry.{ImageGeometry, nid_limit}
use Rattle.f2_format.specs.Journal.{MOST_JOURNAL_ENTRIES, JournalList, journal_of, journal_count}
use Rattle.f2_image.specs.Images.{Image}
use Rattle.f2_image.specs.Packs.{Checkpoint}
use Rattle.f2_image.specs.Faults.{HasTable}
use Rattle.f2_recover.specs.Reading.{IsRead}
use Rattle.f2_recover.specs.Tables.{IsCkptWith}
use Rattle.f2_recover.specs.Walking.{IsCkptOf}
use Rattle.f2_recover.proofs.Telling.{read_on}

module _ (geom : ImageGeometry) (bitmap summary : List ℕ) (few : journal_count summary ≤ MOST_JOURNAL_ENTRIES) (ckpt : Checkpoint) (is : IsCkptOf geom bitmap summary ckpt) where
  -- its table can be read
  pub has_table : HasTable ckpt
  has_table = subst (λ (s : List ℕ). journal_count s ≤ MOST_JOURNAL_ENTRIES) (sym is.summary_is) few

  -- its journal is that of the summary
  pub ckpt_with : (entries : JournalList) → entries ≡ journal_of summary → IsCkptWith geom bitmap entries ckpt
  ckpt_with entries read = record { geom_is = is.geom_is; bitmap_is = is.bitmap_is; journal_is = ap journal_of is.summary_is ∙ sym read; has = has_table }

-- a table that was read stays so where it is passed on
pub read_as : (held now : Option Contents) (geom later : ImageGeometry) (table items : List ℕ) (image : Image) (ckpt : Checkpoint) → now ≡ held → later ≡ geom → items ≡ table → IsRead held geom table image ckpt → IsRead now later items image ckpt
read_as held now geom later table items image ckpt same sizes is read = subst (λ (list : List ℕ). IsRead now later list image ckpt) (sym is) (read_on held now geom later table image ckpt same sizes read)

-- a nid that the image can have is in the table
pub in_table : (held : Option Contents) (geom : ImageGeometry) (table : List ℕ) (image : Image) (ckpt : Checkpoint) → IsRead held geom table image ckpt → (nid : ℕ) → nid < nid_limit ckpt.geom → nid < length table
in_table held geom table image ckpt read nid within = subst (λ n. nid < n) (ap nid_limit read.geom_is ∙ sym read.size) within
