-- The walk at its begin: the root alone was read, and no directory walked.
use Rattle.std.proofs.Common.{◌≡◌, ◌≢◌, ◌⊎◌, inl, inr, ℕ, zero, suc, ◌<◌, List, [], ◌∷◌, length, refl, sym, ap, ◌∙◌, subst, arith}
use Rattle.std.specs.Prelude.{Some, Contains, slice_index_or}
use Rattle.std.specs.FinMap as map
use Rattle.std.specs.FinSet as set
use Rattle.f2_format.specs.Geometry.{ImageGeometry, nid_limit}
use Rattle.f2_model.specs.Tree.{ROOT}
use Rattle.f2_model.specs.declared.rows.Kind.TheVariants.{Regular, Directory}
use Rattle.f2_dir.specs.Entries.{Entries}
use Rattle.f2_image.specs.Images.{Image}
use Rattle.f2_image.specs.Packs.{Checkpoint}
use Rattle.f2_image.specs.Faults as faults
use Rattle.f2_recover.specs.Files.{IsFileRead}
use Rattle.f2_recover.specs.Walking.{BaseRows, IsFileOf, IsRowOf, IsPassed, IsWalkedTo, IsQueue}
use Rattle.f2_recover.specs.declared.rows.BaseRow.{BaseRow}
use Rattle.f2_recover.specs.declared.walk.Walk.{Walk}
use Rattle.f2_recover.proofs.NextFiles.{next_file}
use Rattle.f2_recover.proofs.RowMaps.{put_cases, keys_more, none_there, no_keys}
use Rattle.f2_recover.proofs.Sets.{Numbers, not_both}
use Rattle.f2_laws.proofs.Maps.{get_put}

abbrev no_rows : BaseRows
no_rows = map.empty

abbrev no_inos : Numbers
no_inos = set.empty

-- nothing was passed
pub none_passed : (of page slot : ℕ) → IsPassed set.empty 0 [] 0 of page slot → ⊥
none_passed of page slot (inl done) = not_both done (set.contains-empty _ of)
none_passed of page slot (inr first) = omega (arith, first.1.1.0)

-- the only row
pub only_row : (k : ℕ) (row : BaseRow) (rows : BaseRows) → rows ≡ map.insert no_rows k row → (q : ℕ) (other : BaseRow) → map.get rows q ≡ Some other → (q ≡ k) × (other ≡ row)
only_row k row rows is q other there = by (put_cases no_rows k row q other (sym (ap (λ (m : BaseRows). map.get m q) is) ∙ there))
  where
    by : ((q ≡ k) × (other ≡ row)) ⊎ ((q ≢ k) × (map.get no_rows q ≡ Some other)) → (q ≡ k) × (other ≡ row)
    by (inl same) = same
    by (inr old) = absurd (none_there q other old.1)

pub row_there : (k : ℕ) (row : BaseRow) (rows : BaseRows) → rows ≡ map.insert no_rows k row → map.get rows k ≡ Some row
row_there k row rows is = ap (λ (m : BaseRows). map.get m k) is ∙ get_put no_rows k row

module _ (image : Image) (ckpt : Checkpoint) (walk : Walk) (row : BaseRow) (read : IsFileRead image ckpt set.empty ROOT walk.zones row.file) (directory : row.file.kind ≡ Directory)
    (parent : row.parent ≡ ROOT) (named : row.name ≡ []) (depth : row.depth ≡ 0) (rows : walk.rows ≡ map.insert no_rows ROOT row) (names : walk.names ≡ map.empty) where
  no_other : Directory ≡ Regular → ⊥
  no_other e = cc

  root_file : IsFileOf image ckpt ROOT row.file
  root_file = record { reached = read.reached; inode = read.inode; is = read.is; own = read.own; size = read.size; part = read.seen.part }

  root_row : IsRowOf image ckpt ROOT row
  root_row = record {
    file = root_file;
    below = subst (λ n. faults.IsBelow image ckpt n ROOT) (sym depth) faults.root;
    ends = λ regular page at is. absurd (no_other (sym directory ∙ regular));
  }

  inos_are : (ino : ℕ) → set.contains (set.insert no_inos ROOT) ino ≡ map.contains_key walk.rows ino
  inos_are ino = keys_more no_rows ROOT row no_inos (λ q. no_keys BaseRow q) ino ∙ ap (λ (m : BaseRows). map.contains_key m ino) (sym rows)

  -- the walk is that of the root alone
  pub walked_first : IsWalkedTo image ckpt set.empty 0 [] 0 walk
  walked_first = record {
    taken = record {
      inos = set.insert no_inos ROOT;
      are_rows = inos_are;
      next = λ ino fresh. next_file image ckpt set.empty ROOT ino walk.zones read.seen.are (inos_are ino ∙ fresh);
    };
    rows = λ ino other there. let is = only_row ROOT row walk.rows rows ino other there in
        subst (λ n. IsRowOf image ckpt n other) (sym is.0) (subst (IsRowOf image ckpt ROOT) (sym is.1) root_row);
    root = record { row = row; there = row_there ROOT row walk.rows rows; is = record { kind = directory; parent = parent; named = named } };
    bound = λ ino other there some. absurd (some (only_row ROOT row walk.rows rows ino other there).0);
    found = λ of page slot dentry has passed. absurd (none_passed of page slot passed);
    once = λ of page slot other more a b has too passed also same. absurd (none_passed of page slot passed);
    walked = λ of done. absurd (not_both done (set.contains-empty _ of));
    others = λ of. ap (λ m. map.contains_key m of) names ∙ sym (no_keys Entries of);
  }

-- the queue is the root alone
pub queue_first : (geom : ImageGeometry) (row : BaseRow) (rows : BaseRows) (order : List ℕ) → rows ≡ map.insert no_rows ROOT row → row.depth ≡ 0 → order ≡ ROOT ∷ [] → ROOT < nid_limit geom → IsQueue geom rows order
queue_first geom row rows order are depth is within = subst (IsQueue geom rows) (sym is) (record {
  there = λ k small. record { row = row; there = ap (map.get rows) (at k small) ∙ row_there ROOT row rows are; is = omega (arith, depth) };
  within = λ k small. let e = at k small in omega (arith, e, within);
  apart = λ j k less small same. let one : length (ROOT ∷ []) ≡ 1 = refl in omega (arith, less, small, one);
  all = λ ino other there. subst (Contains (ROOT ∷ [])) (sym (only_row ROOT row rows are ino other there).0) (0, omega arith, refl);
})
  where
    at : (k : ℕ) → k < length (ROOT ∷ []) → slice_index_or (ROOT ∷ []) k 0 ≡ ROOT
    at zero small = refl
    at (suc k) small = absurd (omega (arith, small))
