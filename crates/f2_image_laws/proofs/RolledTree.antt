-- A sound image's marks rolled over its base, one after another: each leaves a good tree.
use Rattle.std.proofs.Common.{◌≡◌, ◌≢◌, ◌⊎◌, inl, inr, ℕ, zero, suc, ◌+◌, ◌<◌, ◌≤◌, Bool, true, false, cond, IsTrue, List, [], ◌∷◌, length, All, filter, refl, sym, ap, ◌∙◌, subst, arith}
use Rattle.std.specs.Prelude.{Option, Some, None}
use Rattle.std.specs.List.{AllZip, range_with_len}
use Rattle.std.specs.Cmp.{nat_cmp_total, unsigned_tied}
use Rattle.std.specs.FinMap as map
use Rattle.std.proofs.lemmas.Option.{same_Some}
use native.Mathlib.Decide.{ℕ_discrete, dec_lt}
use Rattle.f2_format.specs.Geometry.{node_third, data_third, nid_limit}
use Rattle.f2_format.specs.Inode.{SIZE_LIMIT}
use Rattle.f2_disk.specs.Contents.{IsBlock}
use Rattle.f2_model.specs.Count.{nodes_of_tree, data_of_tree}
use Rattle.f2_model.specs.Names.{is_good_name}
use Rattle.f2_model.specs.Tree.{Rows, ROOT, IsGoodTree}
use Rattle.f2_model.specs.State.{Mark, rolled}
use Rattle.f2_model.specs.declared.rows.Row.{Row}
use Rattle.f2_model.specs.declared.rows.Kind.{Kind}
use Rattle.f2_model.specs.declared.rows.Kind.TheVariants.{Regular, Directory}
use Rattle.f2_image.specs.Images.{Image, IsSized}
use Rattle.f2_image.specs.Packs.{Checkpoint}
use Rattle.f2_image.specs.Bases.{HasDentry, IsReached, IsNameOf, IsBase}
use Rattle.f2_image.specs.Chains.{chain, block_in, is_marked, IsMark, AreMarks}
use Rattle.f2_image.specs.Reached.{IsMarkedAt}
use Rattle.f2_image.specs.Faults.{IsSound, BringsName, HasTree}
use Rattle.f2_image.specs.Faults as faults
use Rattle.f2_image.specs.Meanings.{MeansAt}
use Rattle.f2_room_laws.specs.ProperTrees.{IsProperTree}
use Rattle.f2_room_laws.specs.Marking.{MayComeIn}
use Rattle.f2_room_laws.proofs.Marks.{rows_come_in}
use Rattle.f2_image_laws.specs.Rolled.{image_limits}
use Rattle.f2_image_laws.proofs.Names.{row_has_name}
use Rattle.f2_image_laws.proofs.Sound.{no_conflict, none_full}
use Rattle.f2_image_laws.proofs.BaseRows.{base_number, is_directory}
use Rattle.f2_image_laws.proofs.GoodBase.{good_base}
use Rattle.f2_image_laws.proofs.MarkRows as mark_rows
use Rattle.f2_image_laws.proofs.Numbers.{test_same, test_differs, not_less}

-- what a map has after a row was put into it
put_here : (tree : Rows) (k : ℕ) (v : Row) (q : ℕ) → q ≡ k → map.get (map.insert tree k v) q ≡ Some v
put_here tree k v q e = map.get-insert nat_cmp_total tree k v q ∙ ap (λ b. cond b (Some v) (map.get tree q)) (unsigned_tied q k ∙ test_same q k e)

put_elsewhere : (tree : Rows) (k : ℕ) (v : Row) (q : ℕ) → q ≢ k → map.get (map.insert tree k v) q ≡ map.get tree q
put_elsewhere tree k v q other = map.get-insert nat_cmp_total tree k v q ∙ ap (λ b. cond b (Some v) (map.get tree q)) (unsigned_tied q k ∙ test_differs q k other)

-- a row of a rolled tree has kind, parent and name of the base's row of its ino
pub record IsOfBase (base : Rows) (ino : ℕ) (row : Row) : Type 0 where
  pub old : Row
  pub there : map.get base ino ≡ Some old
  pub kind : row.kind ≡ old.kind
  pub parent : row.parent ≡ old.parent
  pub named : row.name ≡ old.name

-- or it is a file's, and the mark at an earlier place brought its name
pub record IsOfMark (image : Image) (ckpt : Checkpoint) (from ino : ℕ) (row : Row) : Type 0 where
  pub place : ℕ
  pub earlier : place < from
  pub regular : row.kind ≡ Regular
  pub brings : BringsName image ckpt place ino row.parent row.name

-- the marks up to a place were rolled over the base
pub record IsRolledTo (image : Image) (ckpt : Checkpoint) (base : Rows) (from : ℕ) (tree : Rows) : Type 0 where
  pub good : IsGoodTree SIZE_LIMIT tree
  pub numbers : (ino : ℕ) (row : Row) → map.get tree ino ≡ Some row → (ROOT ≤ ino) × (ino < nid_limit ckpt.geom)
  pub rows : (ino : ℕ) (row : Row) → map.get tree ino ≡ Some row → IsOfBase base ino row ⊎ IsOfMark image ckpt from ino row
  pub directories : (ino : ℕ) (up : Row) → map.get base ino ≡ Some up → up.kind ≡ Directory → (now : Row) × (map.get tree ino ≡ Some now) × (now.kind ≡ Directory)

module _ (image : Image) (ckpt : Checkpoint) (sound : IsSound image ckpt) (base : Rows) (is_base : IsBase image ckpt base) (blocks : All IsBlock image) (sized : IsSized image ckpt.geom) where
  good : IsGoodTree SIZE_LIMIT base
  good = good_base image ckpt sound base is_base blocks sized

  -- a name that a mark brings stands in no directory of the base
  pub not_in_base : (place ino parent : ℕ) (name : List ℕ) (at : ℕ) (old : Row) → BringsName image ckpt place ino parent name → map.get base at ≡ Some old → at ≢ ROOT → old.parent ≡ parent → old.name ≡ name → ⊥
  not_in_base place ino parent name at old brings there other under named =
      let has : IsNameOf image ckpt at old.parent old.name = row_has_name image ckpt base is_base at old there other in
      no_conflict image ckpt sound ino (faults.in_base place parent name has.dentry brings (subst (IsReached image ckpt) under has.reached) (subst (λ d. HasDentry image ckpt d has.dentry) under has.has) (has.named ∙ named))

  -- what came from a mark before a place came from one before the next place
  later : (place ino : ℕ) (row : Row) → IsOfBase base ino row ⊎ IsOfMark image ckpt place ino row → IsOfBase base ino row ⊎ IsOfMark image ckpt (place + 1) ino row
  later place ino row (inl from) = inl from
  later place ino row (inr from) = let before = from.earlier in inr (record { place = from.place; earlier = omega (arith, before); regular = from.regular; brings = from.brings })

  module _ (place : ℕ) (tree : Rows) (so_far : IsRolledTo image ckpt base place tree) (mark : Mark) (is : IsMark image ckpt base (chain image ckpt) place mark) (marked : IsMarkedAt image ckpt place (block_in (chain image ckpt) place)) where
    above : 4 ≤ mark.ino
    above = mark_rows.above image ckpt sound base is_base place mark is marked

    not_root : mark.ino ≢ ROOT
    not_root e = let large = above in omega (arith, large, e)

    no_directory : (up : Row) → map.get base mark.ino ≡ Some up → up.kind ≡ Directory → ⊥
    no_directory up there directory = mark_rows.no_directory image ckpt sound base is_base place mark is marked (is_directory image ckpt sound base is_base mark.ino up there directory)

    -- where the mark's ino has a row it is a file's
    is_file : (old : Row) → map.get tree mark.ino ≡ Some old → old.kind ≡ Regular
    is_file old there = by_origin (so_far.rows mark.ino old there)
      where
        by_kind : (from : IsOfBase base mark.ino old) (kind : Kind) → from.old.kind ≡ kind → old.kind ≡ Regular
        by_kind from Regular e = from.kind ∙ e
        by_kind from Directory e = absurd (no_directory from.old from.there e)

        by_origin : IsOfBase base mark.ino old ⊎ IsOfMark image ckpt place mark.ino old → old.kind ≡ Regular
        by_origin (inl from) = by_kind from from.old.kind refl
        by_origin (inr from) = from.regular

    -- its directory is in the base, and so in the tree
    up : (parent : Row) × (map.get tree mark.row.parent ≡ Some parent) × (parent.kind ≡ Directory)
    up = by_row (map.get base mark.ino) refl
      where
        of_base : (parent : Row) × (map.get base mark.row.parent ≡ Some parent) × (parent.kind ≡ Directory) → (parent : Row) × (map.get tree mark.row.parent ≡ Some parent) × (parent.kind ≡ Directory)
        of_base found = so_far.directories mark.row.parent found.0 found.1 found.2

        by_row : (o : Option Row) → map.get base mark.ino ≡ o → (parent : Row) × (map.get tree mark.row.parent ≡ Some parent) × (parent.kind ≡ Directory)
        by_row None e = of_base (mark_rows.brings_under image ckpt sound base is_base place mark is marked e)
        by_row (Some old) e =
            let found = good.parents mark.ino old e in
            let same = (mark_rows.keeps image ckpt sound base is_base place mark is marked old e).0 in
            of_base (found.0, ap (map.get base) same ∙ found.1, found.2)

    name : IsTrue (is_good_name mark.row.name)
    name = by_row (map.get base mark.ino) refl
      where
        by_row : (o : Option Row) → map.get base mark.ino ≡ o → IsTrue (is_good_name mark.row.name)
        by_row None e = mark_rows.brings_good image ckpt sound base is_base place mark is marked e
        by_row (Some old) e = subst (λ n. IsTrue (is_good_name n)) (sym (mark_rows.keeps image ckpt sound base is_base place mark is marked old e).1) (good.names mark.ino old e not_root)

    -- no other row has its name there
    free : (ino : ℕ) (other : Row) → map.get tree ino ≡ Some other → ino ≢ ROOT → other.parent ≡ mark.row.parent → other.name ≡ mark.row.name → ino ≡ mark.ino
    free ino other there apart parents names = by_cases (map.get base mark.ino) refl (so_far.rows ino other there)
      where
        same_or_not : (from : IsOfMark image ckpt place ino other) → map.get base mark.ino ≡ None → Dec (ino ≡ mark.ino) → ino ≡ mark.ino
        same_or_not from e (yes same) = same
        same_or_not from e (no differ) =
            let before : BringsName image ckpt from.place ino mark.row.parent mark.row.name =
            subst (λ n. BringsName image ckpt from.place ino mark.row.parent n) names (subst (λ d. BringsName image ckpt from.place ino d other.name) parents from.brings) in
            absurd (no_conflict image ckpt sound mark.ino (faults.in_log place from.place ino mark.row.parent mark.row.name (mark_rows.brings image ckpt sound base is_base place mark is marked e) before from.earlier differ))

        by_cases : (o : Option Row) → map.get base mark.ino ≡ o → IsOfBase base ino other ⊎ IsOfMark image ckpt place ino other → ino ≡ mark.ino
        by_cases (Some old) e (inl from) =
            let kept = mark_rows.keeps image ckpt sound base is_base place mark is marked old e in
            good.apart ino mark.ino from.old old from.there e apart not_root (sym from.parent ∙ parents ∙ kept.0) (sym from.named ∙ names ∙ kept.1)
        by_cases (Some old) e (inr from) =
            let kept = mark_rows.keeps image ckpt sound base is_base place mark is marked old e in
            absurd (not_in_base from.place ino other.parent other.name mark.ino old from.brings e not_root (sym (parents ∙ kept.0)) (sym (names ∙ kept.1)))
        by_cases None e (inl from) =
            absurd (not_in_base place mark.ino mark.row.parent mark.row.name ino from.old (mark_rows.brings image ckpt sound base is_base place mark is marked e) from.there apart (sym from.parent ∙ parents) (sym from.named ∙ names))
        by_cases None e (inr from) = same_or_not from e (ℕ_discrete ino mark.ino)

    pub may : MayComeIn SIZE_LIMIT tree mark.row
    may = record {
      regular = mark_rows.regular image ckpt sound base is_base place mark is marked;
      not_root = λ e. not_root (sym is.row_ino ∙ e);
      file = λ old there. is_file old (ap (map.get tree) (sym is.row_ino) ∙ there);
      up = up;
      name = name;
      free = λ ino other there apart parents names. free ino other there apart parents names ∙ sym is.row_ino;
      pages = mark_rows.mark_pages image ckpt sound base is_base place mark is marked blocks sized;
    }

    abbrev after : Rows
    after = map.insert tree mark.ino mark.row

    after_good : IsGoodTree SIZE_LIMIT after
    after_good = subst (λ k. IsGoodTree SIZE_LIMIT (map.insert tree k mark.row)) is.row_ino (rows_come_in SIZE_LIMIT tree mark.row so_far.good may)

    -- where the rows of the next tree come from
    of_mark : IsOfBase base mark.ino mark.row ⊎ IsOfMark image ckpt (place + 1) mark.ino mark.row
    of_mark = by_row (map.get base mark.ino) refl
      where
        regular : mark.row.kind ≡ Regular
        regular = mark_rows.regular image ckpt sound base is_base place mark is marked

        by_kind : (old : Row) → map.get base mark.ino ≡ Some old → (kind : Kind) → old.kind ≡ kind → IsOfBase base mark.ino mark.row ⊎ IsOfMark image ckpt (place + 1) mark.ino mark.row
        by_kind old e Directory d = absurd (no_directory old e d)
        by_kind old e Regular r = let kept = mark_rows.keeps image ckpt sound base is_base place mark is marked old e in inl (record { old = old; there = e; kind = regular ∙ sym r; parent = kept.0; named = kept.1 })

        by_row : (o : Option Row) → map.get base mark.ino ≡ o → IsOfBase base mark.ino mark.row ⊎ IsOfMark image ckpt (place + 1) mark.ino mark.row
        by_row None e = inr (record { place = place; earlier = omega arith; regular = regular; brings = mark_rows.brings image ckpt sound base is_base place mark is marked e })
        by_row (Some old) e = by_kind old e old.kind refl

    after_rows : (ino : ℕ) (row : Row) → map.get after ino ≡ Some row → Dec (ino ≡ mark.ino) → IsOfBase base ino row ⊎ IsOfMark image ckpt (place + 1) ino row
    after_rows ino row there (yes e) =
        let same : mark.row ≡ row = same_Some mark.row row (sym (put_here tree mark.ino mark.row ino e) ∙ there) in
        subst (λ r. IsOfBase base ino r ⊎ IsOfMark image ckpt (place + 1) ino r) same (subst (λ k. IsOfBase base k mark.row ⊎ IsOfMark image ckpt (place + 1) k mark.row) (sym e) of_mark)
    after_rows ino row there (no other) = later place ino row (so_far.rows ino row (sym (put_elsewhere tree mark.ino mark.row ino other) ∙ there))

    after_numbers : (ino : ℕ) (row : Row) → map.get after ino ≡ Some row → Dec (ino ≡ mark.ino) → (ROOT ≤ ino) × (ino < nid_limit ckpt.geom)
    after_numbers ino row there (yes e) =
        let large = above in
        (omega (arith, large, e), subst (λ n. n < nid_limit ckpt.geom) (sym e) (mark_rows.below image ckpt sound base is_base place mark is marked))
    after_numbers ino row there (no other) = so_far.numbers ino row (sym (put_elsewhere tree mark.ino mark.row ino other) ∙ there)

    one_more : IsRolledTo image ckpt base (place + 1) after
    one_more = record {
      good = after_good;
      numbers = λ ino row there. after_numbers ino row there (ℕ_discrete ino mark.ino);
      rows = λ ino row there. after_rows ino row there (ℕ_discrete ino mark.ino);
      directories = λ ino up there directory. (
          let now = so_far.directories ino up there directory in
          (now.0, put_elsewhere tree mark.ino mark.row ino (λ e. no_directory up (ap (map.get base) (sym e) ∙ there) directory) ∙ now.1, now.2)
          );
    }

  -- an unmarked block changes nothing
  passed : (place : ℕ) (tree : Rows) → IsRolledTo image ckpt base place tree → IsRolledTo image ckpt base (place + 1) tree
  passed place tree so_far = record {
    good = so_far.good;
    numbers = so_far.numbers;
    rows = λ ino row there. later place ino row (so_far.rows ino row there);
    directories = so_far.directories;
  }

  -- all marks
  abbrev Fits : List ℕ → List Mark → Type 0
  Fits places marks = AllZip (IsMark image ckpt base (chain image ckpt)) places marks

  abbrev passes : ℕ → Bool
  passes place = is_marked (block_in (chain image ckpt) place)

  abbrev Rolls : ℕ → ℕ → Type 0
  Rolls from many = (tree : Rows) (marks : List Mark) → IsRolledTo image ckpt base from tree → Fits (filter passes (range_with_len from many)) marks → IsRolledTo image ckpt base (length (chain image ckpt)) (rolled tree marks)

  by_first : (from many : ℕ) → from < length (chain image ckpt) → Rolls (from + 1) many → (b : Bool) → passes from ≡ b → (tree : Rows) (marks : List Mark) → IsRolledTo image ckpt base from tree
      → Fits (cond b (from ∷ filter passes (range_with_len (from + 1) many)) (filter passes (range_with_len (from + 1) many))) marks → IsRolledTo image ckpt base (length (chain image ckpt)) (rolled tree marks)
  by_first from many small rest false e tree marks so_far fits = rest tree marks (passed from tree so_far) fits
  by_first from many small rest true e tree [] so_far fits = absurd fits
  by_first from many small rest true e tree (mark ∷ marks) so_far fits =
      rest (map.insert tree mark.ino mark.row) marks (one_more from tree so_far mark fits.0 (record { within = small; stands = refl; marked = e })) fits.1

  rolls : (from many : ℕ) → from + many ≡ length (chain image ckpt) → Rolls from many
  rolls from zero all tree [] so_far fits = subst (λ n. IsRolledTo image ckpt base n tree) (omega (arith, all)) so_far
  rolls from zero all tree (mark ∷ marks) so_far fits = absurd fits
  rolls from (suc many) all tree marks so_far fits = by_first from many (omega (arith, all)) (λ tree marks so_far fits. rolls (from + 1) many (omega (arith, all)) tree marks so_far fits) (passes from) refl tree marks so_far fits

  none_yet : IsRolledTo image ckpt base 0 base
  none_yet = record {
    good = good;
    numbers = base_number image ckpt sound base is_base;
    rows = λ ino row there. inl (record {
      old = row;
      there = there;
      kind = refl;
      parent = refl;
      named = refl;
    });
    directories = λ ino up there directory. (up, there, directory);
  }

  pub rolled_to_end : (marks : List Mark) → AreMarks image ckpt base marks → IsRolledTo image ckpt base (length (chain image ckpt)) (rolled base marks)
  rolled_to_end marks are = rolls 0 (length (chain image ckpt)) (omega arith) base marks none_yet are

pub rolled_tree_proper : (image : Image) (ckpt : Checkpoint) (base : Rows) (marks : List Mark) → All IsBlock image → MeansAt image ckpt base marks → IsProperTree (image_limits ckpt.geom) (rolled base marks)
rolled_tree_proper image ckpt base marks blocks means = record {
  good = all.good;
  numbers = all.numbers;
  nodes = nodes (dec_lt (node_third ckpt.geom) (nodes_of_tree (rolled base marks)));
  data_blocks = data_blocks (dec_lt (data_third ckpt.geom) (data_of_tree (rolled base marks)));
}
  where
    all : IsRolledTo image ckpt base (length (chain image ckpt)) (rolled base marks)
    all = rolled_to_end image ckpt means.sound base means.is_base blocks means.checkpoint.sized marks means.are_marks

    has : HasTree image ckpt (rolled base marks)
    has = record {
      base = base;
      marks = marks;
      is_base = means.is_base;
      are_marks = means.are_marks;
      is = refl;
    }

    nodes : Dec (node_third ckpt.geom < nodes_of_tree (rolled base marks)) → nodes_of_tree (rolled base marks) ≤ node_third ckpt.geom
    nodes (yes many) = absurd (none_full image ckpt means.sound (node_third ckpt.geom) (faults.tree_nodes (rolled base marks) has refl many))
    nodes (no few) = not_less (node_third ckpt.geom) (nodes_of_tree (rolled base marks)) few

    data_blocks : Dec (data_third ckpt.geom < data_of_tree (rolled base marks)) → data_of_tree (rolled base marks) ≤ data_third ckpt.geom
    data_blocks (yes many) = absurd (none_full image ckpt means.sound (data_third ckpt.geom) (faults.tree_blocks (rolled base marks) has refl many))
    data_blocks (no few) = not_less (data_third ckpt.geom) (data_of_tree (rolled base marks)) few
