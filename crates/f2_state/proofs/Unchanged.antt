-- Calls that only look: a volume stands where it stood.
use Rattle.std.proofs.Common.{◌≡◌, ◌≢◌, ◌⊎◌, inl, inr, ℕ, ◌<◌, ◌≤◌, List, refl, ap, sym, subst, ◌∙◌}
use Rattle.std.specs.Prelude.{Option, Some, None, IfSome, Result, Ok, Err, OnOk, OnErr}
use Rattle.std.specs.FinMap as map
use Rattle.f2_format.specs.Geometry.{ImageGeometry}
use Rattle.f2_disk.specs.Contents.{Contents, list_at, last_of}
use Rattle.f2_disk.specs.Meter.{Meter}
use Rattle.f2_disk.specs.Using.{OnlyReads}
use Rattle.f2_disk.proofs.UsingLaws.{reads_none, reads_then}
use Rattle.f2_model.specs.State.{State}
use Rattle.f2_files.specs.Shape.{address_in}
use Rattle.f2_pages.specs.Kept.{Kept, Pages, IsRead, MayAdd}
use Rattle.f2_state.specs.Contents.{IsCleanPage}
use Rattle.f2_state.specs.Looks.{OnlyLooks}
use Rattle.f2_state.specs.Seen.{Seen}
use Rattle.f2_state.specs.Standing.{StandsAt, StandsOn, StandsIn, StandsSomewhere, StandsStill, IsVolume}
use Rattle.f2_state.proofs.PageReads.{at_with, stands_with, block_read}

-- each clean content is that of its page's block
abbrev pub AreCurrent : {D : Type 0} → Option Contents → Seen D → Pages → Type 0
AreCurrent told old clean = (lists : Contents) (state : State) → told ≡ Some lists → StandsOn lists old state
    → (ino page : ℕ) (bytes : List ℕ) → map.get clean (ino, page) ≡ Some bytes → IsCleanPage lists old.files ino page bytes

pub were_current : {D : Type 0} (told : Option Contents) (old : Seen D) → AreCurrent told old old.pages.clean
were_current told old lists state holds stands = stands.contents.clean

-- those that were kept, and one that was read at its page's address
pub read_current : {D : Type 0} (told : Option Contents) (old : Seen D) (ino page at : ℕ) (content : List ℕ) (new : Pages)
    → address_in page (map.get old.files.shapes ino) ≡ Some at → at ≢ 0 → IfSome told (λ lists. content ≡ last_of (list_at lists at)) → MayAdd (ino, page) content old.pages.clean new
    → AreCurrent told old new
read_current told old ino page at content new known other read adds lists state holds stands one number bytes kept =
    by_case (adds (one, number) bytes kept)
  where
    here : content ≡ last_of (list_at lists at)
    here = subst (λ told. IfSome told (λ lists. content ≡ last_of (list_at lists at))) holds read

    by_case : (map.get old.pages.clean (one, number) ≡ Some bytes) ⊎ ((◌≡◌ {A = ℕ × ℕ} (one, number) (ino, page)) × (bytes ≡ content)) → IsCleanPage lists old.files one number bytes
    by_case (inl was) = stands.contents.clean one number bytes was
    by_case (inr (same, is)) = record {
      at = at;
      address = ap (λ (pair : ℕ × ℕ). address_in pair.1 (map.get old.files.shapes pair.0)) same ∙ known;
      written = other;
      current = is ∙ here;
    }

-- a volume that stands in a state stands somewhere, and the other way round where its disk tells
pub somewhere_in : {D : Type 0} (told : Option Contents) (volume : Seen D) (state : State) → StandsIn told volume state → StandsSomewhere told volume
somewhere_in told volume state stands = record {
  lists = stands.lists;
  state = state;
  at = stands.stands.at;
  holds = subst (λ o. IfSome o (λ held. held ≡ stands.lists)) (sym stands.holds) refl;
  contents = λ tells. stands.stands.contents;
}

pub in_somewhere : {D : Type 0} (lists : Contents) (volume : Seen D) (is : StandsSomewhere (Some lists) volume) → StandsIn (Some lists) volume is.state
in_somewhere lists volume is = record { lists = is.lists; holds = ap Some is.holds; stands = record { at = is.at; contents = is.contents refl } }

somewhere_still : {D : Type 0} (told now : Option Contents) (old new : Seen D) → now ≡ told → StandsSomewhere told old → ((lists : Contents) (state : State) → StandsAt lists old state → StandsAt lists new state)
    → StandsStill told now old new → StandsSomewhere now new
somewhere_still None now old new same is at still =
    subst (λ o. StandsSomewhere o new) (sym same) (record { lists = is.lists; state = is.state; at = at is.lists is.state is.at; holds = tt; contents = λ tells. absurd (cc) })
somewhere_still (Some lists) now old new same is at still = somewhere_in now new is.state (still is.state (in_somewhere lists old is))

module _ {D : Type 0} (contents : D → Option Contents) (meter : D → Meter) where
  pub looks_by : (old new : Seen D) → new ≡ record old { disk = new.disk; pages = record old.pages { clean = new.pages.clean } } → OnlyReads contents meter old.disk new.disk
      → AreCurrent (contents old.disk) old new.pages.clean → OnlyLooks contents meter old new
  looks_by old new rest reads current = record {
    rest = rest;
    reads = reads;
    stands = λ state stands. record {
      lists = stands.lists;
      holds = reads.kept ∙ stands.holds;
      stands = subst (λ volume. StandsOn stands.lists volume state) (sym rest)
          (stands_with stands.lists old new.disk new.pages.clean state stands.stands (current stands.lists state stands.holds stands.stands));
    };
  }

  -- a page was read
  pub looks_read : {T E : Type 0} (old : Seen D) (disk : D) (pages : Kept) (ino page at : ℕ) (content : List ℕ) (result : Result T E) → address_in page (map.get old.files.shapes ino) ≡ Some at → at ≢ 0
      → map.get old.pages.dirty (ino, page) ≡ None → OnOk result (IsRead old.pages (ino, page) (contents old.disk) at content) → OnOk result (MayAdd (ino, page) content old.pages.clean pages.clean)
      → OnErr result (pages ≡ old.pages) → pages ≡ record old.pages { clean = pages.clean } → OnlyReads contents meter old.disk disk → OnlyLooks contents meter old (record old { disk = disk; pages = pages })
  looks_read {T} {E} old disk pages ino page at content result known other clean read adds err store reads =
      looks_by old (record old { disk = disk; pages = pages }) (ap (λ (kept : Kept). record old { disk = disk; pages = kept }) store) reads (current result read adds err)
    where
      current : (result : Result T E) → OnOk result (IsRead old.pages (ino, page) (contents old.disk) at content) → OnOk result (MayAdd (ino, page) content old.pages.clean pages.clean) → OnErr result (pages ≡ old.pages)
          → AreCurrent (contents old.disk) old pages.clean
      current (Ok done) read adds err = read_current (contents old.disk) old ino page at content pages.clean known other (block_read old.pages ino page at (contents old.disk) content clean read) adds
      current (Err fault) read adds err = subst (λ (kept : Kept). AreCurrent (contents old.disk) old kept.clean) (sym err) (were_current (contents old.disk) old)

  pub looks_none : (old : Seen D) → OnlyLooks contents meter old old
  looks_none old = record { rest = refl; reads = reads_none contents meter old.disk; stands = λ state stands. stands }

  pub looks_then : (old mid new : Seen D) → OnlyLooks contents meter old mid → OnlyLooks contents meter mid new → OnlyLooks contents meter old new
  looks_then old mid new first second = record {
    rest = second.rest ∙ ap (λ (volume : Seen D). record volume { disk = new.disk; pages = record volume.pages { clean = new.pages.clean } }) first.rest;
    reads = reads_then contents meter old.disk mid.disk new.disk first.reads second.reads;
    stands = λ state stands. second.stands state (first.stands state stands);
  }

  -- and it is a volume still
  pub volume_still : (old new : Seen D) → IsVolume (meter old.disk).blocks (contents old.disk) old → OnlyLooks contents meter old new → IsVolume (meter new.disk).blocks (contents new.disk) new
  volume_still old new is looks = record {
    held = subst (λ blocks. new.geometry.blocks ≤ blocks) (sym looks.reads.within.same_blocks) (subst (λ (geom : ImageGeometry). geom.blocks ≤ (meter old.disk).blocks) (sym (ap (λ (v : Seen D). v.geometry) looks.rest)) is.held);
    within = λ ino page at known.
        subst (λ (geom : ImageGeometry). at < geom.blocks) (sym (ap (λ (v : Seen D). v.geometry) looks.rest))
        (is.within ino page at (sym (ap (λ (v : Seen D). address_in page (map.get v.files.shapes ino)) looks.rest) ∙ known));
    somewhere = somewhere_still (contents old.disk) (contents new.disk) old new looks.reads.kept is.somewhere
        (λ lists state at. subst (λ volume. StandsAt lists volume state) (sym looks.rest) (at_with lists old new.disk (record old.pages { clean = new.pages.clean }) state at)) looks.stands;
  }
