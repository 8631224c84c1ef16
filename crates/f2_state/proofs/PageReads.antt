-- What a page of a file reads as, where a volume stands.
use Rattle.std.proofs.Common.{◌≡◌, ◌≢◌, ℕ, ◌+◌, ◌*◌, ◌≤◌, Bool, true, false, not, ◌&&◌, nat_lt, List, [], ◌∷◌, zero, suc, refl, ap, sym, subst, ◌∙◌, arith, true≢false}
use Rattle.std.specs.Prelude.{Option, Some, None, IsSome, IfSome, MatchOption, IsTrue, is_some}
use Rattle.std.specs.Option.{unwrap_or}
use Rattle.std.specs.FinMap as map
use Rattle.std.specs.FinSet as set
use Rattle.f2_format.specs.Geometry.{ImageGeometry, is_in_data, data_start, data_third}
use Rattle.f2_format.specs.Offsets.{page_limit}
use Rattle.f2_disk.specs.Contents.{Contents, list_at, last_of}
use Rattle.f2_image_laws.specs.Chained.{contents_at}
use Rattle.f2_model.specs.Content.{page_of, zero_page}
use Rattle.f2_model.specs.State.{State}
use Rattle.f2_model.specs.declared.rows.Kind.{Kind}
use Rattle.f2_model.specs.declared.rows.Kind.TheVariants.{Regular}
use Rattle.f2_model.specs.declared.rows.Row.{Row}
use Rattle.f2_files.specs.Shape.{AreAlike, address_in}
use Rattle.f2_files.specs.declared.shapes.Shape.{Shape}
use Rattle.f2_pages.specs.Kept.{Kept, Pages, IsCurrent, IsRead}
use Rattle.f2_stored.specs.Places.{Places, IsPageBlock}
use Rattle.f2_state.specs.Contents.{IsDirtyPage, IsCleanPage}
use Rattle.f2_state.specs.Seen.{Seen}
use Rattle.f2_state.specs.Standing.{StandsAt, StandsOn, StandsIn, StandsSomewhere, is_between}

some_same : {A : Type 0} (a b : A) → Some a ≡ Some b → a ≡ b
some_same a b is = ap (λ o. unwrap_or o a) is

none_some : {A G : Type 0} (o : Option A) (a : A) → o ≡ None → o ≡ Some a → G
none_some o a none some = absurd (cc)

-- an address other than 0 is one that is known
pub known_by : (o found : Option ℕ) (at : ℕ) → found ≡ o → at ≡ unwrap_or found 0 → at ≢ 0 → o ≡ Some at
known_by o None at same is other = absurd (other is)
known_by o (Some a) at same is other = sym same ∙ ap Some (sym is)

pub unknown_by : (o found : Option ℕ) (at : ℕ) → found ≡ o → at ≡ unwrap_or found 0 → at ≡ 0 → unwrap_or o 0 ≡ 0
unknown_by o found at same is none = ap (λ o. unwrap_or o 0) (sym same) ∙ sym is ∙ none

-- where a disk's block is none, reads give no bytes
pub last_at : (lists : Contents) (at : ℕ) → last_of (contents_at lists at) ≡ last_of (list_at lists at)
last_at [] at = refl
last_at (one ∷ rest) zero = refl
last_at (one ∷ rest) (suc at) = last_at rest at

-- no page stands at the address 0
nowhere : (geom : ImageGeometry) → IsTrue (is_in_data geom 0) → ⊥
nowhere geom is = (let low = low_end (data_start geom) (data_start geom + 3 * data_third geom) 0 is in omega (arith, low))
  where
    low_end : (low high at : ℕ) → IsTrue (not (nat_lt at low) && nat_lt at high) → low ≤ at
    low_end low high at is = grind (arith, is)

-- the block of a page of a file is its content
own_block : (places : Places) (row : Row) (page : ℕ) (block : List ℕ) → row.kind ≡ Regular → IsPageBlock places row page block → map.get row.pages page ≡ Some block
own_block places row page block file own = subst (λ (one : Row). IsPageBlock places one page block) (with_kind row Regular file) own
  where
    with_kind : (row : Row) (other : Kind) → row.kind ≡ other → row ≡ record row { kind = other }
    with_kind row other is = λ i. record row { kind = is i }

-- a page with an address is one that the row has
has_of : (page at : ℕ) (o : Option Shape) (r : Option Row) (row : Row) → AreAlike o r → r ≡ Some row → row.kind ≡ Regular → address_in page o ≡ Some at → is_some (map.get row.pages page) ≡ true
has_of page at None r row alike there file known = absurd (cc)
has_of page at (Some shape) None row alike there file known = absurd alike
has_of page at (Some shape) (Some other) row alike there file known =
    let same : other ≡ row = some_same other row there in
    ap (λ (one : Row). is_some (map.get one.pages page)) (sym same)
    ∙ sym (alike.pages (ap (λ (one : Row). one.kind) same ∙ file) page)
    ∙ ap is_some known

module _ {D : Type 0} (lists : Contents) (volume : Seen D) (from : State) (stands : StandsOn lists volume from) (ino page : ℕ) (row : Row) (there : map.get from.live ino ≡ Some row) where
  -- a content that the disk doesn't have yet is the page's
  pub dirty_content : (bytes : List ℕ) → map.get volume.pages.dirty (ino, page) ≡ Some bytes → bytes ≡ page_of row.pages page
  dirty_content bytes kept =
      let dirty : IsDirtyPage from ino page bytes = (stands.contents.dirty ino page bytes).0 kept in
      let same : dirty.row ≡ row = some_same dirty.row row (sym dirty.there ∙ there) in
      sym (ap (λ o. unwrap_or o zero_page) (ap (λ (one : Row). map.get one.pages page) (sym same) ∙ dirty.has))

  has_place : is_between from ≡ true → row.kind ≡ Regular → IsSome (map.get row.pages page) → IsSome (map.get stands.at.places.pages (ino, page))
  has_place quiet file has =
      subst (λ i. IsSome (map.get stands.at.places.pages (i, page))) ((stands.at.kept quiet).kept.proper.good.keyed ino row there) ((stands.at.kept quiet).kept.live.rows ino row there file page has)

  module _ (file : row.kind ≡ Regular) (clean : map.get volume.pages.dirty (ino, page) ≡ None) (quiet : is_between from ≡ true) where
    -- a page that is there and isn't kept as dirty isn't dirty
    not_dirty : (bytes : List ℕ) → map.get row.pages page ≡ Some bytes → (b : Bool) → set.contains from.dirty_pages (ino, page) ≡ b → set.contains from.dirty_pages (ino, page) ≡ false
    not_dirty bytes has false is = is
    not_dirty bytes has true is =
        none_some (map.get volume.pages.dirty (ino, page)) bytes clean ((stands.contents.dirty ino page bytes).1 (record { dirty = is; row = row; there = there; file = file; has = has }))

    is_here : (bytes : List ℕ) → map.get row.pages page ≡ Some bytes → set.contains stands.at.unwritten.pages (ino, page) ≡ false
    is_here bytes has = (stands.at.kept quiet).kept.tied.pages ino page row there file ∙ not_dirty bytes has (set.contains from.dirty_pages (ino, page)) refl

    -- a page with an address has the content of the block there
    pub block_content : (at : ℕ) → address_in page (map.get volume.files.shapes ino) ≡ Some at → last_of (list_at lists at) ≡ page_of row.pages page
    block_content at known = by_page (map.get row.pages page) refl
      where
        by_page : (o : Option (List ℕ)) → map.get row.pages page ≡ o → last_of (list_at lists at) ≡ page_of row.pages page
        by_page None none =
            absurd (true≢false (sym (has_of page at (map.get volume.files.shapes ino) (map.get from.live ino) row (stands.at.known.shapes.each ino) there file known) ∙ ap is_some none))
        by_page (Some bytes) has =
            let here = (stands.at.kept quiet).kept.live.pages ino page at (sym (stands.at.placed ino page) ∙ known) (is_here bytes has) in
            sym (last_at lists at) ∙ sym (ap (λ o. unwrap_or o zero_page) (own_block stands.at.places row page (last_of (contents_at lists at)) file (here.own row there)))

    -- a page without an address reads as zeros
    pub zero_content : unwrap_or (address_in page (map.get volume.files.shapes ino)) 0 ≡ 0 → zero_page ≡ page_of row.pages page
    zero_content unknown = by_page (map.get row.pages page) refl
      where
        by_address : (bytes : List ℕ) → map.get row.pages page ≡ Some bytes → (o : Option ℕ) → map.get stands.at.places.pages (ino, page) ≡ o → IsSome o → unwrap_or o 0 ≡ 0 → zero_page ≡ page_of row.pages page
        by_address bytes has None placed some is = absurd (true≢false (sym some))
        by_address bytes has (Some at) placed some is =
            let here = (stands.at.kept quiet).kept.live.pages ino page at placed (is_here bytes has) in
            absurd (nowhere stands.at.layout.base.ckpt.geom (subst (λ a. IsTrue (is_in_data stands.at.layout.base.ckpt.geom a)) is here.in_zone))

        by_page : (o : Option (List ℕ)) → map.get row.pages page ≡ o → zero_page ≡ page_of row.pages page
        by_page None none = sym (ap (λ o. unwrap_or o zero_page) none)
        by_page (Some bytes) has =
            by_address bytes has (map.get stands.at.places.pages (ino, page)) refl
            (has_place quiet file (subst IsSome (sym has) refl))
            (ap (λ o. unwrap_or o 0) (sym (stands.at.placed ino page)) ∙ unknown)

  -- and so does one past those that a file can have
  pub past_content : row.kind ≡ Regular → is_between from ≡ true → page_limit ≤ page → zero_page ≡ page_of row.pages page
  past_content file quiet past = by_page (map.get row.pages page) refl
    where
      by_place : (o : Option ℕ) → map.get stands.at.places.pages (ino, page) ≡ o → IsSome o → ⊥
      by_place None placed some = true≢false (sym some)
      by_place (Some at) placed some = (let within = ((stands.at.kept quiet).kept.live.laid.pages ino page at placed).within in omega (arith, past, within))

      by_page : (o : Option (List ℕ)) → map.get row.pages page ≡ o → zero_page ≡ page_of row.pages page
      by_page None none = sym (ap (λ o. unwrap_or o zero_page) none)
      by_page (Some bytes) has = absurd (by_place (map.get stands.at.places.pages (ino, page)) refl (has_place quiet file (subst IsSome (sym has) refl)))

-- a volume stands where it stood, with other clean pages that are those of the disk
pub at_with : {D : Type 0} (lists : Contents) (old : Seen D) (disk : D) (pages : Kept) (state : State) → StandsAt lists old state → StandsAt lists (record old { disk = disk; pages = pages }) state
at_with lists old disk pages state at = record {
  layout = at.layout;
  places = at.places;
  unwritten = at.unwritten;
  roomy = at.roomy;
  stored = at.stored;
  kept = at.kept;
  sizes = at.sizes;
  known = at.known;
  placed = at.placed;
  mode = at.mode;
  entries = at.entries;
}

pub stands_with : {D : Type 0} (lists : Contents) (old : Seen D) (disk : D) (clean : Pages) (state : State) → StandsOn lists old state
    → ((ino page : ℕ) (bytes : List ℕ) → map.get clean (ino, page) ≡ Some bytes → IsCleanPage lists old.files ino page bytes)
    → StandsOn lists (record old { disk = disk; pages = record old.pages { clean = clean } }) state
stands_with lists old disk clean state stands current = record {
  at = at_with lists old disk (record old.pages { clean = clean }) state stands.at;
  contents = record { dirty = stands.contents.dirty; clean = current };
}

-- a clean page that a volume keeps is current where it knows the page to be
pub is_current : {D : Type 0} (told : Option Contents) (volume : Seen D) (ino page at : ℕ) → StandsSomewhere told volume
    → address_in page (map.get volume.files.shapes ino) ≡ Some at → IsCurrent volume.pages (ino, page) told at
is_current None volume ino page at somewhere known = tt
is_current (Some lists) volume ino page at somewhere known = by_clean (map.get volume.pages.clean (ino, page)) refl
  where
    by_clean : (o : Option (List ℕ)) → map.get volume.pages.clean (ino, page) ≡ o → IfSome o (λ content. content ≡ last_of (list_at lists at))
    by_clean None none = tt
    by_clean (Some bytes) kept =
        let clean = (somewhere.contents refl).clean ino page bytes kept in
        clean.current ∙ ap (λ a. last_of (list_at somewhere.lists a)) (some_same clean.at at (sym clean.address ∙ known)) ∙ ap (λ held. last_of (list_at held at)) (sym somewhere.holds)

-- what a read of a page gives where it isn't dirty: the page's content
pub content_read : {D : Type 0} (told : Option Contents) (volume : Seen D) (from : State) (ino page at : ℕ) (row : Row) (bytes : List ℕ) → StandsIn told volume from → is_between from ≡ true
    → map.get from.live ino ≡ Some row → row.kind ≡ Regular → map.get volume.pages.dirty (ino, page) ≡ None → address_in page (map.get volume.files.shapes ino) ≡ Some at
    → IfSome told (λ lists. bytes ≡ last_of (list_at lists at)) → bytes ≡ page_of row.pages page
content_read told volume from ino page at row bytes stands quiet there file clean known read =
    subst (λ told. IfSome told (λ lists. bytes ≡ last_of (list_at lists at))) stands.holds read
    ∙ block_content stands.lists volume from stands.stands ino page row there file clean quiet at known

-- and the content of its block, where that is told
pub block_read : (kept : Kept) (ino page at : ℕ) (told : Option Contents) (bytes : List ℕ) → map.get kept.dirty (ino, page) ≡ None → IsRead kept (ino, page) told at bytes
    → IfSome told (λ lists. bytes ≡ last_of (list_at lists at))
block_read kept ino page at told bytes clean read =
    subst (λ o. MatchOption o (IfSome told (λ lists. bytes ≡ last_of (list_at lists at))) (λ dirty. bytes ≡ dirty)) clean read
