-- A directory is walked: before its first dentry nothing of it was passed, and behind its last one it is done.
use Rattle.std.proofs.Common.{◌≡◌, ◌≢◌, ◌⊎◌, inl, inr, ℕ, true, false, List, [], length, sym, ap, ◌∙◌, subst, arith}
use Rattle.std.specs.Prelude.{Some, slice_index_or}
use Rattle.std.specs.FinMap as map
use Rattle.std.specs.FinSet as set
use Rattle.f2_format.specs.Dentry.{Dentry}
use Rattle.f2_model.specs.declared.rows.Kind.TheVariants.{Directory}
use Rattle.f2_dir.specs.Entries.{Entries}
use Rattle.f2_dentry_block.specs.Dents.{dentry_of}
use Rattle.f2_dentry_block.specs.declared.dents.Dent.{Dent}
use Rattle.f2_image.specs.Images.{Image}
use Rattle.f2_image.specs.Packs.{Checkpoint}
use Rattle.f2_image.specs.Bases.{HasDentryAt}
use Rattle.f2_image.proofs.Dentries.{same_dentry}
use Rattle.f2_laws.proofs.Maps.{get_put, get_put-other}
use Rattle.f2_recover.specs.Dents.{no_dent, AreDentsAt}
use Rattle.f2_recover.specs.Walking.{HasRow, IsPassed, AreNamesOf, AreFirstNames, IsWalkedDirectory, IsWalkedTo}
use Rattle.f2_recover.specs.declared.walk.Walk.{Walk}
use Rattle.f2_recover.proofs.RowMaps.{keys_more}
use Rattle.f2_recover.proofs.Sets.{Numbers, not_both, here, stays, one_of}

module _ (image : Image) (ckpt : Checkpoint) (done : Numbers) where
  passed_too : (a b : ℕ) (from to : List (ℕ × ℕ)) (of page slot : ℕ) → IsPassed done a from 0 of page slot → IsPassed done b to 0 of page slot
  passed_too a b from to of page slot (inl whole) = inl whole
  passed_too a b from to of page slot (inr first) = absurd (let less = first.1.1.0 in omega (arith, less))

  -- before the first dentry it doesn't matter which directory is walked
  pub walked_none : (a b : ℕ) (from to : List (ℕ × ℕ)) (walk : Walk) → IsWalkedTo image ckpt done a from 0 walk → IsWalkedTo image ckpt done b to 0 walk
  walked_none a b from to walk is = record {
    taken = is.taken;
    rows = is.rows;
    root = is.root;
    bound = λ ino row there some. let by = is.bound ino row there some in
        record { page = by.page; slot = by.slot; dentry = by.dentry; has = by.has; passed = passed_too a b from to row.parent by.page by.slot by.passed; own = by.own; stands = by.stands };
    found = λ of page slot dentry has passed. is.found of page slot dentry has (passed_too b a to from of page slot passed);
    once = λ of page slot other more x y has too passed also same. is.once of page slot other more x y has too (passed_too b a to from of page slot passed) (passed_too b a to from of other more also) same;
    walked = is.walked;
    others = is.others;
  }

  module _ (directory : ℕ) (places : List (ℕ × ℕ)) (dents : List Dent) (are : AreDentsAt image ckpt directory places dents) where
    -- the names of all dents are those of the directory
    pub names_of : (names : Entries) → AreFirstNames dents (length dents) names → AreNamesOf image ckpt directory names
    names_of names first = record {
      only = λ name ino kind there.
          let at = first.only name ino kind there in
          let place = slice_index_or places at.0 (0, 0) in
          (place.0, place.1, subst (λ (d : Dent). HasDentryAt image ckpt directory place.0 place.1 (dentry_of d)) at.1.1 (are.there at.0 at.1.0));
      all = λ dentry has.
          let at = are.all has.0 has.1 dentry has.2 in
          let dent : Dent = slice_index_or dents at.0 no_dent in
          let there : HasDentryAt image ckpt directory has.0 has.1 (dentry_of dent) = subst (λ (p : ℕ × ℕ). HasDentryAt image ckpt directory p.0 p.1 (dentry_of dent)) at.1.1 (are.there at.0 at.1.0) in
          let same : dentry_of dent ≡ dentry = same_dentry image ckpt directory has.0 has.1 (dentry_of dent) dentry there has.2 in
          (dent.kind, (subst (λ (d : Dentry). map.get names d.name ≡ Some (d.ino, dent.kind)) same (first.all at.0 at.1.0), ap (λ (d : Dentry). d.type) (sym same)));
    }

    module _ (fresh : set.contains done directory ≡ false) where
      abbrev more : Numbers
      more = set.insert done directory

      passed_more : (of page slot : ℕ) → IsPassed done directory places (length dents) of page slot → IsPassed more 0 [] 0 of page slot
      passed_more of page slot (inl whole) = inl (stays done directory of whole)
      passed_more of page slot (inr first) = inl (subst (λ n. set.contains more n ≡ true) (sym first.0) (here done directory))

      passed_all : (of page slot : ℕ) (dentry : Dentry) → HasDentryAt image ckpt of page slot dentry → IsPassed more 0 [] 0 of page slot → IsPassed done directory places (length dents) of page slot
      passed_all of page slot dentry has (inr first) = absurd (let less = first.1.1.0 in omega (arith, less))
      passed_all of page slot dentry has (inl whole) = by (one_of done directory of whole)
        where
          by : (of ≡ directory) ⊎ (set.contains done of ≡ true) → IsPassed done directory places (length dents) of page slot
          by (inl same) = inr (same, are.all page slot dentry (subst (λ n. HasDentryAt image ckpt n page slot dentry) same has))
          by (inr old) = inl old

      -- behind its last dentry a directory is done, with its names
      module _ (walk : Walk) (names : Entries) (is : IsWalkedTo image ckpt done directory places (length dents) walk) (first : AreFirstNames dents (length dents) names)
          (row : HasRow walk.rows directory (λ row. row.file.kind ≡ Directory)) where
        abbrev now : Walk
        now = record walk { names = map.insert walk.names directory names }

        walked_each : (of : ℕ) → (of ≡ directory) ⊎ (set.contains done of ≡ true) → IsWalkedDirectory image ckpt now of
        walked_each of (inl same) =
            subst (IsWalkedDirectory image ckpt now) (sym same) (record { row = row; names = names; known = get_put walk.names directory names; are = names_of names first; whole = are.whole })
        walked_each of (inr old) =
            let was = is.walked of old in
            let other : of ≢ directory = λ same. not_both old (ap (set.contains done) same ∙ fresh) in
            record { row = was.row; names = was.names; known = get_put-other walk.names directory names of other ∙ was.known; are = was.are; whole = was.whole }

        pub walked_done : IsWalkedTo image ckpt more 0 [] 0 now
        walked_done = record {
          taken = is.taken;
          rows = is.rows;
          root = is.root;
          bound = λ ino row there some. let by = is.bound ino row there some in
              record { page = by.page; slot = by.slot; dentry = by.dentry; has = by.has; passed = passed_more row.parent by.page by.slot by.passed; own = by.own; stands = by.stands };
          found = λ of page slot dentry has passed. is.found of page slot dentry has (passed_all of page slot dentry has passed);
          once = λ of page slot other more x y has too passed also same. is.once of page slot other more x y has too (passed_all of page slot x has passed) (passed_all of other more y too also) same;
          walked = λ of whole. walked_each of (one_of done directory of whole);
          others = λ of. sym (keys_more walk.names directory names done (λ q. sym (is.others q)) of);
        }
