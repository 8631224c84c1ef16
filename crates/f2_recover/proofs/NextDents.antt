-- The directory that is walked, one dentry further: the file that the dentry names has a row, and its name is bound.
use Rattle.std.proofs.Common.{◌≡◌, ◌≢◌, ◌⊎◌, inl, inr, ℕ, ◌+◌, ◌<◌, ◌≤◌, true, false, List, length, slice_index_or, refl, sym, ap, ◌∙◌, subst, arith}
use Rattle.std.specs.Prelude.{Some, None}
use Rattle.std.specs.Ordering.{nat_cmp}
use Rattle.std.specs.FinMap as map
use Rattle.std.specs.FinMap.{FinMap}
use Rattle.std.specs.FinSet as set
use Rattle.f2_format.specs.Dentry.{Dentry}
use Rattle.f2_format.specs.Offsets.{page_limit}
use Rattle.f2_dir.specs.Entries.{Entries}
use Rattle.f2_dentry_block.specs.Dents.{dentry_of}
use Rattle.f2_dentry_block.specs.declared.dents.Dent.{Dent}
use Rattle.f2_model.specs.Tree.{ROOT}
use Rattle.f2_model.specs.declared.rows.Kind.{Kind}
use Rattle.f2_image.specs.Images.{Image}
use Rattle.f2_image.specs.Packs.{Checkpoint}
use Rattle.f2_image.specs.Bases.{HasDentryAt}
use Rattle.f2_image.proofs.Dentries.{same_dentry}
use Rattle.f2_laws.proofs.Maps.{get_put}
use Rattle.f2_laws.proofs.Places.{same_or_other}
use Rattle.f2_laws.proofs.Walks.{some_none}
use Rattle.f2_recover.specs.Dents.{no_dent, AreDentsAt}
use Rattle.f2_recover.specs.Seeing.{node_limit}
use Rattle.f2_recover.specs.Taking.{Taken, AreTaken}
use Rattle.f2_recover.specs.Walking.{BaseRows, IsPassed, IsRowOf, StandsBy, HasRow, IsBoundBy, AreAllTaken, IsWalkedTo, AreFirstNames}
use Rattle.f2_recover.specs.declared.rows.BaseRow.{BaseRow}
use Rattle.f2_recover.specs.declared.walk.Walk.{Walk}
use Rattle.f2_recover.proofs.Sets.{Numbers, not_both}
use Rattle.f2_recover.proofs.FreshKeys.{put_cases, put_stays, keys_more, named_here, named_cases, named_stays}
use Rattle.f2_recover.proofs.NextFiles.{next_file}
use Rattle.f2_recover.proofs.DentPlaces.{has}

module _ (done : Numbers) (directory : ℕ) (places : List (ℕ × ℕ)) (count : ℕ) where
  -- what was passed before, and the next place
  passed_more : (of page slot : ℕ) → IsPassed done directory places count of page slot → IsPassed done directory places (count + 1) of page slot
  passed_more of page slot (inl walked) = inl walked
  passed_more of page slot (inr first) = inr (first.0, (first.1.0, (omega (arith, first.1.1.0), first.1.1.1)))

  abbrev IsNext : ℕ → ℕ → ℕ → Type 0
  IsNext of page slot = (of ≡ directory) × (slice_index_or places count (0, 0) ≡ (page, slot))

  passed_cases : (of page slot : ℕ) → IsPassed done directory places (count + 1) of page slot → IsPassed done directory places count of page slot ⊎ IsNext of page slot
  passed_cases of page slot (inl walked) = inl (inl walked)
  passed_cases of page slot (inr first) = by_index (same_or_other first.1.0 count)
    where
      by_index : (first.1.0 ≡ count) ⊎ (first.1.0 ≢ count) → IsPassed done directory places count of page slot ⊎ IsNext of page slot
      by_index (inl last) = inr (first.0, ap (λ k. slice_index_or places k (0, 0)) (sym last) ∙ first.1.1.1)
      by_index (inr other) = inl (inr (first.0, (first.1.0, (omega (arith, first.1.1.0, other), first.1.1.1))))

-- the names of so many dents and one more
pub names_more : (dents : List Dent) (count : ℕ) (dent : Dent) (names new : Entries) → slice_index_or dents count no_dent ≡ dent → map.get names dent.name ≡ None → new ≡ map.insert names dent.name (dent.ino, dent.kind)
    → AreFirstNames dents count names → AreFirstNames dents (count + 1) new
names_more dents count dent names new is none now first = record {
  only = λ name ino kind there. known name ino kind (named_cases names dent.name (dent.ino, dent.kind) name (ino, kind) (sym (ap (λ (m : Entries). map.get m name) now) ∙ there));
  all = λ k small. bound k small (same_or_other k count);
}
  where
    known : (name : List ℕ) (ino : ℕ) (kind : Kind) → ((name ≡ dent.name) × (◌≡◌ {A = ℕ × Kind} (ino, kind) (dent.ino, dent.kind))) ⊎ (map.get names name ≡ Some (ino, kind))
        → (k : ℕ) × ((k < count + 1) × (slice_index_or dents k no_dent ≡ record { name = name; ino = ino; kind = kind }))
    known name ino kind (inl new) = (count, (omega arith, is ∙ sym (λ i. record { name = new.0 i; ino = (new.1 i).0; kind = (new.1 i).1 })))
    known name ino kind (inr old) = let by = first.only name ino kind old in (by.0, (omega (arith, by.1.0), by.1.1))

    bound : (k : ℕ) → k < count + 1 → (k ≡ count) ⊎ (k ≢ count) → map.get new (slice_index_or dents k no_dent).name ≡ Some ((slice_index_or dents k no_dent).ino, (slice_index_or dents k no_dent).kind)
    bound k small (inl last) =
        let same : slice_index_or dents k no_dent ≡ dent = ap (λ j. slice_index_or dents j no_dent) last ∙ is in
        subst (λ (d : Dent). map.get new d.name ≡ Some (d.ino, d.kind)) (sym same) (ap (λ (m : Entries). map.get m dent.name) now ∙ named_here names dent.name (dent.ino, dent.kind))
    bound k small (inr other) =
        ap (λ (m : Entries). map.get m (slice_index_or dents k no_dent).name) now
        ∙ named_stays names dent.name (dent.ino, dent.kind) none (slice_index_or dents k no_dent).name _ (first.all k (omega (arith, small, other)))

module _ (image : Image) (ckpt : Checkpoint) where
  -- once the next file was read, any other may be
  pub taken_more : (rows : BaseRows) (ino : ℕ) (row : BaseRow) (before taken : Taken) (all : AreAllTaken image ckpt rows before) → AreTaken image ckpt all.inos ino node_limit page_limit taken → AreAllTaken image ckpt (map.insert rows ino row) taken
  taken_more rows ino row before taken all are = record {
    inos = set.insert all.inos ino;
    are_rows = keys_more rows ino row all.inos all.are_rows;
    next = λ q free. next_file image ckpt all.inos ino q taken are (keys_more rows ino row all.inos all.are_rows q ∙ free);
  }

  module _ (done : Numbers) (directory : ℕ) (places : List (ℕ × ℕ)) (dents : List Dent) (count : ℕ) (dent : Dent)
      (not_done : set.contains done directory ≡ false) (at : AreDentsAt image ckpt directory places dents) (small : count < length dents) (is : slice_index_or dents count no_dent ≡ dent)
      (names : Entries) (first : AreFirstNames dents count names) (old : Walk) (to : IsWalkedTo image ckpt done directory places count old)
      (least : 4 ≤ dent.ino) (free : map.contains_key old.rows dent.ino ≡ false) (none : map.get names dent.name ≡ None)
      (row : BaseRow) (row_is : IsRowOf image ckpt dent.ino row) (stands : StandsBy row directory (dentry_of dent)) where
    abbrev own : ℕ × ℕ
    own = slice_index_or places count (0, 0)

    abbrev rows : BaseRows
    rows = map.insert old.rows dent.ino row

    there : HasDentryAt image ckpt directory own.0 own.1 (dentry_of dent)
    there = has image ckpt done directory places dents count dent not_done at small is

    still : (q : ℕ) (IsSo : BaseRow → Type 0) → HasRow old.rows q IsSo → HasRow rows q IsSo
    still q IsSo known = record { row = known.row; there = put_stays old.rows dent.ino row free q known.row known.there; is = known.is }

    -- the dentry at the next place
    is_own : (of page slot : ℕ) (a : Dentry) → HasDentryAt image ckpt of page slot a → IsNext done directory places count of page slot → a ≡ dentry_of dent
    is_own of page slot a here next =
        let in_directory : HasDentryAt image ckpt directory page slot a = subst (λ d. HasDentryAt image ckpt d page slot a) next.0 here in
        let moved : HasDentryAt image ckpt directory own.0 own.1 a = subst (λ (p : ℕ × ℕ). HasDentryAt image ckpt directory p.0 p.1 a) (sym next.1) in_directory in
        same_dentry image ckpt directory own.0 own.1 a (dentry_of dent) moved there

    -- no dentry that was passed in this directory has its name
    no_other : (of page slot : ℕ) (a : Dentry) → HasDentryAt image ckpt of page slot a → IsPassed done directory places count of page slot → of ≡ directory → a.name ≡ dent.name → ⊥
    no_other of page slot a here (inl walked) same named = not_both (subst (λ d. set.contains done d ≡ true) same walked) not_done
    no_other of page slot a here (inr passed) same named =
        let k : ℕ = passed.1.0 in
        let other : ℕ × ℕ = slice_index_or places k (0, 0) in
        let in_directory : HasDentryAt image ckpt directory page slot a = subst (λ d. HasDentryAt image ckpt d page slot a) same here in
        let moved : HasDentryAt image ckpt directory other.0 other.1 a = subst (λ (p : ℕ × ℕ). HasDentryAt image ckpt directory p.0 p.1 a) (sym passed.1.1.1) in_directory in
        let one : a ≡ dentry_of (slice_index_or dents k no_dent) = same_dentry image ckpt directory other.0 other.1 a (dentry_of (slice_index_or dents k no_dent)) moved (at.there k (omega (arith, passed.1.1.0, small))) in
        some_none (sym (first.all k passed.1.1.0) ∙ ap (map.get names) (sym (ap (λ (d : Dentry). d.name) one) ∙ named) ∙ none)

    rows_are : (q : ℕ) (one : BaseRow) → ((q ≡ dent.ino) × (one ≡ row)) ⊎ (map.get old.rows q ≡ Some one) → IsRowOf image ckpt q one
    rows_are q one (inl new) = subst (λ (r : BaseRow). IsRowOf image ckpt q r) (sym new.1) (subst (λ i. IsRowOf image ckpt i row) (sym new.0) row_is)
    rows_are q one (inr known) = to.rows q one known

    bound : (q : ℕ) (one : BaseRow) → q ≢ ROOT → ((q ≡ dent.ino) × (one ≡ row)) ⊎ (map.get old.rows q ≡ Some one) → IsBoundBy image ckpt done directory places (count + 1) q one
    bound q one not_root (inl new) =
        subst (λ (r : BaseRow). IsBoundBy image ckpt done directory places (count + 1) q r) (sym new.1)
        (record {
          page = own.0;
          slot = own.1;
          dentry = dentry_of dent;
          has = subst (λ d. HasDentryAt image ckpt d own.0 own.1 (dentry_of dent)) (sym stands.parent) there;
          passed = inr (stands.parent, (count, (omega arith, refl)));
          own = sym new.0;
          stands = record { parent = refl; named = stands.named; typed = stands.typed; least = stands.least; good = stands.good };
        })
    bound q one not_root (inr known) =
        let by = to.bound q one known not_root in
        record { page = by.page; slot = by.slot; dentry = by.dentry; has = by.has; passed = passed_more done directory places count one.parent by.page by.slot by.passed; own = by.own; stands = by.stands }

    found : (of page slot : ℕ) (dentry : Dentry) → HasDentryAt image ckpt of page slot dentry → IsPassed done directory places count of page slot ⊎ IsNext done directory places count of page slot
        → HasRow rows dentry.ino (λ one. StandsBy one of dentry)
    found of page slot dentry here (inl passed) = still dentry.ino (λ one. StandsBy one of dentry) (to.found of page slot dentry here passed)
    found of page slot dentry here (inr next) =
        subst (λ d. HasRow rows dentry.ino (λ one. StandsBy one d dentry)) (sym next.0)
        (subst (λ (d : Dentry). HasRow rows d.ino (λ one. StandsBy one directory d)) (sym (is_own of page slot dentry here next))
        (record { row = row; there = get_put old.rows dent.ino row; is = stands }))

    once : (of page slot other more : ℕ) (a b : Dentry) → HasDentryAt image ckpt of page slot a → HasDentryAt image ckpt of other more b
        → IsPassed done directory places count of page slot ⊎ IsNext done directory places count of page slot → IsPassed done directory places count of other more ⊎ IsNext done directory places count of other more
        → a.name ≡ b.name → (page ≡ other) × (slot ≡ more)
    once of page slot other more a b p q (inl one) (inl two) same = to.once of page slot other more a b p q one two same
    once of page slot other more a b p q (inl one) (inr two) same = absurd (no_other of page slot a p one two.0 (same ∙ ap (λ (d : Dentry). d.name) (is_own of other more b q two)))
    once of page slot other more a b p q (inr one) (inl two) same = absurd (no_other of other more b q two one.0 (sym same ∙ ap (λ (d : Dentry). d.name) (is_own of page slot a p one)))
    once of page slot other more a b p q (inr one) (inr two) same = let places_same = sym one.1 ∙ two.1 in (ap (λ (p : ℕ × ℕ). p.0) places_same, ap (λ (p : ℕ × ℕ). p.1) places_same)

    module _ (new : Walk) (rows_now : new.rows ≡ rows) (names_now : new.names ≡ old.names) (are : AreTaken image ckpt to.taken.inos dent.ino node_limit page_limit new.zones) where
      row_now : (q : ℕ) (IsSo : BaseRow → Type 0) → HasRow rows q IsSo → HasRow new.rows q IsSo
      row_now q IsSo known = subst (λ (m : BaseRows). HasRow m q IsSo) (sym rows_now) known

      cases : (q : ℕ) (one : BaseRow) → map.get new.rows q ≡ Some one → ((q ≡ dent.ino) × (one ≡ row)) ⊎ (map.get old.rows q ≡ Some one)
      cases q one known = put_cases old.rows dent.ino row q one (sym (ap (λ (m : BaseRows). map.get m q) rows_now) ∙ known)

      -- the walk goes on
      pub walked_more : IsWalkedTo image ckpt done directory places (count + 1) new
      walked_more = record {
        taken = subst (λ (m : BaseRows). AreAllTaken image ckpt m new.zones) (sym rows_now) (taken_more old.rows dent.ino row old.zones new.zones to.taken are);
        rows = λ q one known. rows_are q one (cases q one known);
        root = row_now ROOT _ (still ROOT _ to.root);
        bound = λ q one known not_root. bound q one not_root (cases q one known);
        found = λ of page slot dentry here passed. row_now dentry.ino _ (found of page slot dentry here (passed_cases done directory places count of page slot passed));
        once = λ of page slot other more a b p q one two same.
            once of page slot other more a b p q (passed_cases done directory places count of page slot one) (passed_cases done directory places count of other more two) same;
        walked = λ of walked.
            let known = to.walked of walked in
            record { row = row_now of _ (still of _ known.row); names = known.names; known = ap (λ (m : FinMap nat_cmp Entries). map.get m of) names_now ∙ known.known; are = known.are; whole = known.whole };
        others = λ of. ap (λ (m : FinMap nat_cmp Entries). map.contains_key m of) names_now ∙ to.others of;
      }
