-- The pages of a file of the live tree that were flushed where they stand.
use Rattle.std.proofs.Common.{◌≡◌, ◌≢◌, ℕ, ◌<◌, List, IsTrue, IsSome, is_some, refl, sym, ap, ◌∙◌, subst, true≢false}
use Rattle.std.specs.Prelude.{Option, Some, None}
use Rattle.std.specs.Option.{unwrap_or}
use Rattle.std.specs.FinMap as map
use Rattle.f2_format.specs.Offsets.{page_limit}
use Rattle.f2_format.specs.Geometry.{ImageGeometry, is_in_data}
use Rattle.f2_disk.specs.Contents.{Contents, last_of}
use Rattle.f2_model.specs.State.{State}
use Rattle.f2_model.specs.declared.rows.Row.{Row}
use Rattle.f2_image_laws.specs.Chained.{contents_at}
use Rattle.f2_stored.specs.Places.{Places, page_at}
use Rattle.f2_stored.specs.Trees.{IsPageHere, Unwritten, IsLiveAt}
use Rattle.f2_stored.specs.Marks.{HasPage, none, there}
use Rattle.f2_place_laws.proofs.Homes.{page_told}
use Rattle.f2_place_laws.proofs.Options.{the_one}
use Rattle.f2_place_laws.proofs.PageKinds.{regular_page}
use Rattle.f2_place_laws.proofs.Stood.{in_data_some}
use Rattle.f2_live_laws.specs.Marking.{MayBeMarked}

module _ (lists : Contents) (geom : ImageGeometry) (state : State) (places : Places) (unwritten : Unwritten) (ino : ℕ) (row : Row) (live : IsLiveAt lists geom state.live places unwritten) (may : MayBeMarked lists state places unwritten ino row) where
  -- a page of the row has a place
  pub has_place : (page : ℕ) → IsSome (map.get row.pages page) → IsSome (map.get places.pages (ino, page))
  has_place page has = subst (λ of. IsSome (map.get places.pages (of, page))) may.own (live.rows ino row may.there may.regular page has)

  -- so a file can have it
  pub page_within : (page : ℕ) (bytes : List ℕ) → map.get row.pages page ≡ Some bytes → page < page_limit
  page_within page bytes has = let at = the_one (map.get places.pages (ino, page)) (has_place page (ap is_some has)) in (live.laid.pages ino page at.0 at.1).within

  -- what has a place stands there
  stands : (page at : ℕ) → map.get places.pages (ino, page) ≡ Some at → IsPageHere geom state.live places ino page at (last_of (contents_at lists at))
  stands page at told = live.pages ino page at told (may.written page at told)

  no_page : (page : ℕ) → map.get places.pages (ino, page) ≡ None → map.get row.pages page ≡ None
  no_page page absent = by_page (map.get row.pages page) refl
    where
      by_page : (o : Option (List ℕ)) → map.get row.pages page ≡ o → map.get row.pages page ≡ None
      by_page None e = e
      by_page (Some bytes) e = absurd (true≢false (sym (has_place page (ap is_some e)) ∙ ap is_some absent))

  -- each page is the one content at its place, and where there is no place there is no page
  pub page_held : (page : ℕ) → HasPage lists (page_at places ino page) (map.get row.pages page)
  page_held page = by_place (map.get places.pages (ino, page)) refl
    where
      by_place : (o : Option ℕ) → map.get places.pages (ino, page) ≡ o → HasPage lists (page_at places ino page) (map.get row.pages page)
      by_place None e =
          subst (λ at. HasPage lists at (map.get row.pages page)) (sym (ap (λ o. unwrap_or o 0) e)) (subst (HasPage lists 0) (sym (no_page page e)) none)
      by_place (Some at) e =
          let here = stands page at e in
          let bytes : map.get row.pages page ≡ Some (last_of (contents_at lists at)) = regular_page places row page (last_of (contents_at lists at)) may.regular (here.own row may.there) in
          subst (λ of. HasPage lists of (map.get row.pages page)) (sym (ap (λ o. unwrap_or o 0) e))
          (subst (HasPage lists at) (sym bytes) (there at (last_of (contents_at lists at)) (in_data_some geom at here.in_zone) (may.flushed page at e)))

  -- and a place is in the data zone
  pub place_in_zone : (page : ℕ) → page_at places ino page ≢ 0 → IsTrue (is_in_data geom (page_at places ino page))
  place_in_zone page some = (stands page (page_at places ino page) (page_told places ino page (page_at places ino page) refl some)).in_zone
