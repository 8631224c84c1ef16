-- A table with the addresses of a block more.
use Rattle.std.proofs.Common.{◌≡◌, ◌⊎◌, inl, inr, ℕ, ◌+◌, ◌-◌, ◌*◌, ◌/◌, ◌%◌, ◌<◌, ◌≤◌, List, length, sym, ap, ◌∙◌, subst, arith}
use Rattle.std.specs.Prelude.{slice_index, Option}
use Rattle.std.specs.Option.{unwrap_or}
use Rattle.std.proofs.lemmas.Bool.{cases_lt}
use Rattle.f2_disk.specs.Contents.{Contents}
use Rattle.f2_format.specs.Geometry.{ImageGeometry, nat_address}
use Rattle.f2_format.specs.Journal.{JournalList, journal_find}
use Rattle.f2_format.specs.Nat.{nat_entry, is_second_copy, NodePlace}
use Rattle.f2_image.specs.Images.{Image, block_at}
use Rattle.f2_image.specs.Packs.{Checkpoint}
use Rattle.f2_image.specs.Nodes.{place_of_nid}
use Rattle.f2_recover.specs.Told.{Tells}
use Rattle.f2_recover.specs.Reading.{IsRead}
use Rattle.f2_recover.specs.Tables.{IsCkptWith, HasEntriesMore, IsTable}

module _ (image : Image) (ckpt : Checkpoint) (geom : ImageGeometry) (bitmap : List ℕ) (entries : JournalList) (is : IsCkptWith geom bitmap entries ckpt) where
  -- what the table says of a nid of a block
  place_is : (block place nid : ℕ) → nid / 455 ≡ block → nid % 455 ≡ place
      → place_of_nid image ckpt nid ≡ unwrap_or (journal_find entries nid) (nat_entry (block_at image (nat_address geom block (is_second_copy bitmap block))) place)
  unfolding place_of_nid
  place_is block place nid in_block at_place =
      ap (λ (j : JournalList). unwrap_or (journal_find j nid) (nat_entry (block_at image (nat_address ckpt.geom (nid / 455) (is_second_copy ckpt.head.bitmap (nid / 455)))) (nid % 455))) is.journal_is
      ∙ ap (λ (n : ℕ). unwrap_or (journal_find entries nid) (nat_entry (block_at image (nat_address ckpt.geom n (is_second_copy ckpt.head.bitmap n))) (nid % 455))) in_block
      ∙ ap (λ (n : ℕ). unwrap_or (journal_find entries nid) (nat_entry (block_at image (nat_address ckpt.geom block (is_second_copy ckpt.head.bitmap block))) n)) at_place
      ∙ ap (λ (e : ImageGeometry). unwrap_or (journal_find entries nid) (nat_entry (block_at image (nat_address e block (is_second_copy ckpt.head.bitmap block))) place)) is.geom_is
      ∙ ap (λ (b : List ℕ). unwrap_or (journal_find entries nid) (nat_entry (block_at image (nat_address geom block (is_second_copy b block))) place)) is.bitmap_is

  pub table_more : (blocks : ℕ) (block old new : List ℕ) → IsTable image ckpt blocks old → block ≡ block_at image (nat_address geom blocks (is_second_copy bitmap blocks)) → HasEntriesMore entries block old new 455 → IsTable image ckpt (blocks + 1) new
  table_more blocks block old new table content more = record {
    size = omega (arith, more.size, table.size);
    told = λ nid within. by nid within (cases_lt nid (455 * blocks));
  }
    where
      by : (nid : ℕ) → nid < 455 * (blocks + 1) → (nid < 455 * blocks) ⊎ (455 * blocks ≤ nid) → slice_index new nid ≡ (place_of_nid image ckpt nid).1
      by nid within (inl low) = more.kept nid (omega (arith, low, table.size)) ∙ table.told nid low
      by nid within (inr high) =
          let place : ℕ = nid - 455 * blocks in
          let small : place < 455 = omega (arith, within, high) in
          let back : length old + place ≡ nid = omega (arith, table.size, high) in
          let in_block : nid / 455 ≡ blocks = omega (arith, within, high) in
          let at_place : nid % 455 ≡ place = omega (arith, within, high) in
          ap (slice_index new) (sym back) ∙ more.added place small
          ∙ ap (λ (n : ℕ). (unwrap_or (journal_find entries n) (nat_entry block place)).1) back
          ∙ ap (λ (b : List ℕ). (unwrap_or (journal_find entries nid) (nat_entry b place)).1) content
          ∙ ap (λ (p : NodePlace). p.1) (sym (place_is blocks place nid in_block at_place))

  pub table_read : (held : Option Contents) (blocks : ℕ) (table : List ℕ) → Tells held image → IsTable image ckpt blocks table → blocks ≡ geom.nat → IsRead held geom table image ckpt
  table_read held blocks table tells whole all = record {
    tells = tells;
    geom_is = is.geom_is;
    has = is.has;
    size = whole.size ∙ ap (λ (n : ℕ). 455 * n) all;
    told = λ nid within. whole.told nid (subst (λ (n : ℕ). nid < 455 * n) (sym all) within);
  }

pub table_none : (image : Image) (ckpt : Checkpoint) (table : List ℕ) → length table ≡ 0 → IsTable image ckpt 0 table
table_none image ckpt table empty = record { size = empty; told = λ nid within. absurd (omega (arith, within)) }
