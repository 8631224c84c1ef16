-- What is found of an image that is laid out.
use Rattle.std.proofs.Common.{◌≡◌, ℕ, ◌+◌, ◌*◌, ◌<◌, ◌≤◌, Bool, List, [], length, refl, sym, ap, subst, ◌∙◌, arith, inl, inr}
use Rattle.std.specs.Prelude.{Option, Some, None, ◌⊎◌, map as map_list}
use Rattle.std.specs.List.{slice_index, range_with_len}
use Rattle.std.specs.Option.{unwrap_or}
use Rattle.std.specs.FinMap as map
use Rattle.std.proofs.lemmas.Bool.{cases_lt}
use Rattle.f2_format.specs.Geometry.{ImageGeometry, ENTRIES_A_NAT_BLOCK, nat_address, nid_limit}
use Rattle.f2_format.specs.Journal.{journal_entry, journal_find}
use Rattle.f2_format.specs.Nat.{NodePlace, nat_entry, nat_block_of, nat_place_of}
use Rattle.f2_image.specs.Images.{Image, block_at}
use Rattle.f2_image.specs.Nodes.{nat_copy, place_of_nid}
use Rattle.f2_image.specs.Packs.{Checkpoint, journal}
use Rattle.f2_laid.specs.Laid.{PlaceMap, IsLaidAt}
use Rattle.f2_laid.specs.declared.places.Place.{Place}
use Rattle.f2_laid.specs.declared.stored.Stored.{Stored}
use Rattle.f2_model.specs.Tree.{Rows}
use Rattle.f2_pack.specs.declared.packs.Side.{Side}
use Rattle.f2_plain_read.specs.Building.{IsBuilt, IsTableFor, up_to}
use Rattle.f2_plain_read.specs.Finding.{IsReadOf}
use Rattle.f2_plain_read.specs.Points.{IsPointOf, IsTable}
use Rattle.f2_plain_read.specs.Reads.{IsLaidOut}
use Rattle.f2_plain_read.specs.declared.built.Built.{Built}
use Rattle.f2_plain_read.specs.declared.ckpt.Point.{Point}
use Rattle.f2_plain_read.proofs.Building.{up_to-in, up_to-past}
use Rattle.f2_plain_read.proofs.InImage.{sized_fits}
use Rattle.f2_plain_read.proofs.Keeping.{same}

module _ (image : Image) (tree : Rows) (stored : Stored) (out : IsLaidOut image tree stored) where
  abbrev ckpt : Checkpoint
  ckpt = out.laid.0

  abbrev laid : IsLaidAt image ckpt tree stored
  laid = out.laid.1

  -- the blocks that are told are there
  pub fits : stored.geometry.blocks ≤ length image
  fits = omega (arith, sized_fits image ckpt.geom laid.checkpoint.sized, ap (λ (e : ImageGeometry). e.blocks) laid.geom)

  -- what the table says of a nid stands in the copy that counts
  no_journal : journal ckpt ≡ []
  no_journal = ap (λ (n : ℕ). map_list (journal_entry ckpt.summary) (range_with_len 0 n)) laid.journal

  in_table : (nid : ℕ) → nat_block_of nid < stored.geometry.nat → place_of_nid image ckpt nid ≡ nat_entry (block_at image (nat_address stored.geometry (nat_block_of nid) stored.second)) (nat_place_of nid)
  unfolding place_of_nid
  in_table nid within =
      ap (λ (j : List (ℕ × NodePlace)). unwrap_or (journal_find j nid) (nat_entry (nat_copy image ckpt (nat_block_of nid)) (nat_place_of nid))) no_journal
      ∙ ap (λ (s : Bool). nat_entry (block_at image (nat_address ckpt.geom (nat_block_of nid) s)) (nat_place_of nid)) (laid.copies (nat_block_of nid) within)
      ∙ ap (λ (e : ImageGeometry). nat_entry (block_at image (nat_address e (nat_block_of nid) stored.second)) (nat_place_of nid)) laid.geom

  -- a table that is read has the addresses of the files
  pub table_for : (geom : ImageGeometry) (second : Bool) (table : List ℕ) → geom ≡ stored.geometry → second ≡ stored.second → IsTable geom second image geom.nat table → IsTableFor table stored.places
  table_for geom second table geom_is second_is is ino below_length =
      let nat_is : geom.nat ≡ stored.geometry.nat = ap (λ (e : ImageGeometry). e.nat) geom_is in
      let within : nat_block_of ino < geom.nat = omega (arith, is.size, below_length) in
      let place_low : nat_place_of ino < ENTRIES_A_NAT_BLOCK = omega arith in
      let parted : ino ≡ ENTRIES_A_NAT_BLOCK * nat_block_of ino + nat_place_of ino = omega arith in
      let numbered : ino < nid_limit ckpt.geom = omega (arith, below_length, is.size, nat_is, ap (λ (e : ImageGeometry). e.nat) laid.geom) in
      ap (slice_index table) parted
      ∙ is.entries (nat_block_of ino) (nat_place_of ino) within place_low
      ∙ ap (λ (e : ImageGeometry). (nat_entry (block_at image (nat_address e (nat_block_of ino) second)) (nat_place_of ino)).1) geom_is
      ∙ ap (λ (s : Bool). (nat_entry (block_at image (nat_address stored.geometry (nat_block_of ino) s)) (nat_place_of ino)).1) second_is
      ∙ sym (ap (λ (p : NodePlace). p.1) (in_table ino (omega (arith, within, nat_is))))
      ∙ laid.table ino numbered

module _ (image : Image) (tree : Rows) (stored : Stored) (told : Point) (limit : ℕ) (built : Built) (is : IsReadOf image tree stored told limit built) where
  low : (ino : ℕ) (place : Place) → map.get stored.places ino ≡ Some place → ino < limit
  low ino place there = let has = is.out.laid.1.only ino place there in omega (arith, is.out.storable.numbered ino has.0 has.1, is.all)

  pub places_are : built.places ≡ stored.places
  places_are = same stored.places built.places stored.places (λ q. is.files.places q ∙ by_place q (cases_lt q limit))
    where
      by_found : (q : ℕ) → limit ≤ q → (o : Option Place) → map.get stored.places q ≡ o → None ≡ map.get stored.places q
      by_found q high None e = sym e
      by_found q high (Some place) e = absurd (let under = low q place e in omega (arith, under, high))

      by_place : (q : ℕ) → (q < limit) ⊎ (limit ≤ q) → up_to limit stored.places q ≡ map.get stored.places q
      by_place q (inl small) = up_to-in stored.places stored.places 0 limit q small
      by_place q (inr high) = up_to-past stored.places stored.places 0 limit q high ∙ by_found q high (map.get stored.places q) refl

  pub stored_is : (places : PlaceMap) → places ≡ built.places → record { geometry = told.geometry; side = told.side; version = told.version; second = told.second; places = places } ≡ stored
  stored_is places same_places =
      ap (λ (e : ImageGeometry). made e told.side told.version told.second places) is.ckpt_is.geometry
      ∙ ap (λ (s : Side). made stored.geometry s told.version told.second places) is.ckpt_is.side
      ∙ ap (λ (n : ℕ). made stored.geometry stored.side n told.second places) is.ckpt_is.version
      ∙ ap (λ (b : Bool). made stored.geometry stored.side stored.version b places) is.ckpt_is.second
      ∙ ap (made stored.geometry stored.side stored.version stored.second) (same_places ∙ places_are)
    where
      made : ImageGeometry → Side → ℕ → Bool → PlaceMap → Stored
      made e s n b p = record { geometry = e; side = s; version = n; second = b; places = p }

-- the files of a table that was read
module _ (image : Image) (tree : Rows) (stored : Stored) (out : IsLaidOut image tree stored) (told : Point) (is : IsPointOf stored told) (table slice : List ℕ) (same_items : slice ≡ table)
    (read : IsTable told.geometry told.second image told.geometry.nat table) where
  pub slice_for : IsTableFor slice stored.places
  slice_for = subst (λ (t : List ℕ). IsTableFor t stored.places) (sym same_items) (table_for image tree stored out told.geometry told.second table is.geometry is.second read)

  pub read_of : (limit : ℕ) (built : Built) → limit ≡ length table → IsBuilt tree stored.places (length slice) built → IsReadOf image tree stored told limit built
  read_of limit built limit_is files =
      record {
        out = out;
        ckpt_is = is;
        all = omega (arith, limit_is, read.size, ap (λ (e : ImageGeometry). e.nat) is.geometry);
        files = subst (λ (n : ℕ). IsBuilt tree stored.places n built) (ap length same_items ∙ sym limit_is) files;
      }

-- the sizes that were read are no more than the image has
pub too_short : (image : Image) (tree : Rows) (stored : Stored) (out : IsLaidOut image tree stored) (told : Point) → IsPointOf stored told → length image < told.geometry.blocks → ⊥
too_short image tree stored out told is past = omega (arith, past, fits image tree stored out, ap (λ (e : ImageGeometry). e.blocks) is.geometry)
