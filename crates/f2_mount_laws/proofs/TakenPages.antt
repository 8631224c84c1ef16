-- The pages that are taken over: each is the base's, a marked file's, or a new one.
use Rattle.std.proofs.Common.{◌≡◌, ◌≢◌, ◌⊎◌, inl, inr, ℕ, ◌<◌, ◌==◌, Bool, true, false, cond, IsTrue, List, refl, sym, ap, ◌∙◌}
use Rattle.std.specs.Prelude.{Some, None}
use Rattle.std.specs.Option.{unwrap_or}
use Rattle.std.specs.FinMap as map
use Rattle.std.specs.FinSet as set
use Rattle.std.proofs.lemmas.Option.{none-some, same_Some}
use native.Mathlib.Decide.{ℕ_discrete}
use Rattle.f2_format.specs.Offsets.{page_limit}
use Rattle.f2_format.specs.Geometry.{is_in_data}
use Rattle.f2_model.specs.Tree.{Rows}
use Rattle.f2_model.specs.State.{Mark}
use Rattle.f2_model.specs.declared.rows.Row.{Row}
use Rattle.f2_model.specs.declared.rows.Kind.{Kind}
use Rattle.f2_model.specs.declared.rows.Kind.TheVariants.{Regular, Directory}
use Rattle.f2_image.specs.Images.{Image}
use Rattle.f2_image.specs.Packs.{Checkpoint}
use Rattle.f2_image.specs.Chains.{chain, block_in, marked_address, IsMark}
use Rattle.f2_image.specs.Reached.{IsPage, IsMarkedPage}
use Rattle.f2_image.specs.Faults.{IsSound, Shared, VersionEnd}
use Rattle.f2_image.specs.Faults as faults
use Rattle.f2_image.specs.Meanings.{MeansAt}
use Rattle.f2_image_laws.proofs.Agreeing.{sound_table}
use Rattle.f2_image_laws.proofs.BaseRows.{is_directory}
use Rattle.f2_image_laws.proofs.MarkRows as mark_rows
use Rattle.f2_image_laws.proofs.Numbers.{same_of, differ_of}
use Rattle.f2_image_laws.proofs.Pages.{kinds_differ}
use Rattle.f2_image_laws.proofs.Sound.{none_out}
use Rattle.f2_stored.specs.Places.{Places, page_at}
use Rattle.f2_stored.specs.Trees.{Unwritten}
use Rattle.f2_place_laws.proofs.Decided.{not_other}
use Rattle.f2_mount_laws.specs.Taken.{IsLastMark, IsUnmarked, some_address, IsTakenOver}
use Rattle.f2_mount_laws.proofs.Old.{base_page}
use Rattle.f2_mount_laws.proofs.Origins.{Origin, of_base, of_mark, origin}

-- an address that is one
pub address_some : (at address : ℕ) → some_address address ≡ Some at → (address ≡ at) × (at ≢ 0)
address_some at address = by_test (address == 0) refl
  where
    by_test : (b : Bool) → (address == 0) ≡ b → cond b None (Some address) ≡ Some at → (address ≡ at) × (at ≢ 0)
    by_test true e there = absurd (none-some at there)
    by_test false e there = let same = same_Some address at there in (same, λ none. differ_of address 0 e (same ∙ none))

pub or_zero : (address : ℕ) → unwrap_or (some_address address) 0 ≡ address
or_zero address = by_test (address == 0) refl
  where
    by_test : (b : Bool) → (address == 0) ≡ b → unwrap_or (cond b None (Some address)) 0 ≡ address
    by_test true e = sym (same_of address 0 e)
    by_test false e = refl

-- no two pages have one address
pub one_owner : (image : Image) (ckpt : Checkpoint) → IsSound image ckpt → (one other : ℕ × ℕ) (at : ℕ) → IsPage image ckpt one.0 one.1 at → IsPage image ckpt other.0 other.1 at → one ≡ other
one_owner image ckpt sound one other at p q = λ i. (not_other one.0 other.0 (λ differ. shared (inl differ)) i, not_other one.1 other.1 (λ differ. shared (inr differ)) i)
  where
    not_end : Shared ≢ VersionEnd
    not_end same = cc

    shared : (one.0 ≢ other.0) ⊎ (one.1 ≢ other.1) → ⊥
    shared differ = sound Shared at not_end (sound_table image ckpt sound, faults.pages one.0 one.1 other.0 other.1 p q differ)

module _ (image : Image) (ckpt : Checkpoint) (base : Rows) (marks : List Mark) (tree : Rows) (places : Places) (unwritten : Unwritten)
    (means : MeansAt image ckpt base marks) (is : IsTakenOver image ckpt base marks tree places unwritten) where
  -- where a row comes from
  pub from : (ino : ℕ) → Origin image ckpt base ino tree
  from ino = origin image ckpt base ino marks means.are_marks tree is.rolls

  -- no directory is marked, and so no marked file laid out anew
  pub mark_regular : (ino place : ℕ) (mark : Mark) → IsLastMark image ckpt ino place → IsMark image ckpt base (chain image ckpt) place mark → mark.row.kind ≡ Regular
  mark_regular ino place mark last at = mark_rows.regular image ckpt means.sound base means.is_base place mark at last.marked

  pub base_regular : (ino place : ℕ) (mark : Mark) (row : Row) → IsLastMark image ckpt ino place → IsMark image ckpt base (chain image ckpt) place mark → mark.ino ≡ ino → map.get base ino ≡ Some row → row.kind ≡ Regular
  base_regular ino place mark row last at own there = by_kind row.kind refl
    where
      by_kind : (kind : Kind) → row.kind ≡ kind → row.kind ≡ Regular
      by_kind Regular e = e
      by_kind Directory e =
          absurd (mark_rows.no_directory image ckpt means.sound base means.is_base place mark at last.marked (is_directory image ckpt means.sound base means.is_base mark.ino row (ap (map.get base) own ∙ there) e))

  pub not_anew : (ino place : ℕ) (mark : Mark) → IsLastMark image ckpt ino place → IsMark image ckpt base (chain image ckpt) place mark → mark.ino ≡ ino → set.contains is.anew ino ≡ false
  not_anew ino place mark last at own = by_test (set.contains is.anew ino) refl
    where
      by_test : (b : Bool) → set.contains is.anew ino ≡ b → b ≡ false
      by_test false e = refl
      by_test true e =
          let row = is.directories ino e in
          absurd (kinds_differ (sym (base_regular ino place mark row.0 last at own row.1) ∙ row.2))

  -- a page's address
  pub data PageIs (ino page at : ℕ) : Type 0 where
    read : IsPage image ckpt ino page at → PageIs ino page at
    new : at ≡ 0 → PageIs ino page at

  pub marked_page : (ino place page at : ℕ) → IsLastMark image ckpt ino place → page < page_limit → marked_address image ckpt (chain image ckpt) place page ≡ at → at ≢ 0 → IsMarkedPage image ckpt ino page at
  marked_page ino place page at last within address some = record {
    place = place;
    inode = block_in (chain image ckpt) place;
    marked = last.marked;
    own = last.own;
    within = within;
    address = address;
    there = some;
  }

  pub page_is : (ino page at : ℕ) → map.get places.pages (ino, page) ≡ Some at → PageIs ino page at
  page_is ino page at there = by_anew (set.contains is.anew ino) refl
    where
      in_base : map.get is.old.pages (ino, page) ≡ Some at → PageIs ino page at
      in_base old = read (inl (base_page image ckpt base means.is_base is.old is.stands ino page at old))

      by_address : ((at ≢ 0) → map.get is.old.pages (ino, page) ≡ Some at) → Dec (at ≡ 0) → PageIs ino page at
      by_address old (yes none) = new none
      by_address old (no some) = in_base (old some)

      by_origin : set.contains is.anew ino ≡ false → Origin image ckpt base ino tree → PageIs ino page at
      by_origin out (of_base unmarked same) = in_base (sym (is.kept_pages ino page unmarked out) ∙ there)
      by_origin out (of_mark place mark last own its row) =
          let within = (is.rows ino page at there).1 in
          let address = address_some at (marked_address image ckpt (chain image ckpt) place page) (sym (is.marked_pages ino place page last within) ∙ there) in
          read (inr (marked_page ino place page at last within address.0 address.1))

      by_anew : (b : Bool) → set.contains is.anew ino ≡ b → PageIs ino page at
      by_anew true e = by_address (is.laid_pages ino page at e there) (ℕ_discrete at 0)
      by_anew false e = by_origin e (from ino)

  -- it is in its zone, and no other page has it
  pub page_in_zone : (ino page at : ℕ) → IsPage image ckpt ino page at → IsTrue (is_in_data ckpt.geom at)
  page_in_zone ino page at its = by_test (is_in_data ckpt.geom at) refl
    where
      by_test : (b : Bool) → is_in_data ckpt.geom at ≡ b → b ≡ true
      by_test true e = refl
      by_test false e = absurd (none_out image ckpt means.sound at (faults.page (sound_table image ckpt means.sound) ino page its e))

  apart_by : (one other : ℕ × ℕ) (at : ℕ) → at ≢ 0 → PageIs one.0 one.1 at → PageIs other.0 other.1 at → one ≡ other
  apart_by one other at some (new none) q = absurd (some none)
  apart_by one other at some p (new none) = absurd (some none)
  apart_by one other at some (read p) (read q) = one_owner image ckpt means.sound one other at p q

  pub pages_apart : (one other : ℕ × ℕ) (at : ℕ) → map.get places.pages one ≡ Some at → map.get places.pages other ≡ Some at → at ≢ 0 → one ≡ other
  pages_apart one other at there too some = apart_by one other at some (page_is one.0 one.1 at there) (page_is other.0 other.1 at too)

  -- what a marked file has as a page's address
  pub marked_at : (ino place page : ℕ) → IsLastMark image ckpt ino place → page < page_limit → page_at places ino page ≡ marked_address image ckpt (chain image ckpt) place page
  marked_at ino place page last within = ap (λ o. unwrap_or o 0) (is.marked_pages ino place page last within) ∙ or_zero (marked_address image ckpt (chain image ckpt) place page)

  pub kept_at : (ino page : ℕ) → IsUnmarked image ckpt ino → set.contains is.anew ino ≡ false → page_at places ino page ≡ page_at is.old ino page
  kept_at ino page unmarked out = ap (λ o. unwrap_or o 0) (is.kept_pages ino page unmarked out)
