-- A tree of files in the root after pieces were put into one of them.
use Rattle.std.proofs.Common.{◌≡◌, ◌≢◌, ◌⊎◌, inl, inr, ℕ, ◌+◌, ◌<◌, ◌≤◌, true, false, cond, List, [], ◌∷◌, refl, sym, ap, ◌∙◌, subst, arith}
use Rattle.std.specs.Prelude.{Option, Some, None, Result, Ok, IfErr, nat_lt, is_some}
use Rattle.std.specs.Result.{IsErrAnd}
use Rattle.std.specs.List.{list_any, AllByRecursion}
use Rattle.std.specs.Ordering.{nat_cmp}
use Rattle.std.specs.Cmp.{nat_cmp_total}
use Rattle.std.specs.Cmp.Lexicographic.{slice_cmp, nat_list_cmp_total}
use Rattle.std.specs.FinMap as map
use Rattle.std.specs.FinSet as set
use Rattle.std.proofs.lemmas.List.Elements.{All-from_recursion}
use Rattle.f2_format.specs.Geometry.{ImageGeometry, IsGeometry, data_third}
use Rattle.f2_format.specs.Packing.{blocks_of_names}
use Rattle.f2_model.specs.Content.{end_of, put_pieces, raised_size}
use Rattle.f2_model.specs.Count.{dentry_blocks, data_of_tree}
use Rattle.f2_model.specs.Rising.{rising}
use Rattle.f2_model.specs.Tree.{Rows, ROOT, IsGoodTree, names_in, walk}
use Rattle.f2_model.specs.Call.{refusal, space_refusal, effect, on_row}
use Rattle.f2_model.specs.declared.rows.Row.{Row}
use Rattle.f2_model.specs.declared.rows.Kind.TheVariants.{Regular}
use Rattle.f2_model.specs.declared.requests.Piece.{Piece}
use Rattle.f2_model.specs.declared.requests.Request.TheVariants.{Write}
use Rattle.f2_model.specs.declared.replies.Reply.{Reply}
use Rattle.f2_model.specs.declared.replies.Reply.TheVariants.{Memory}
use Rattle.f2_model.specs.declared.replies.Space.TheVariants.{Data}
use Rattle.f2_laws.proofs.Calls.{effect_good}
use Rattle.f2_laws.proofs.Contents.{raised_within, raised_ends}
use Rattle.f2_laws.proofs.Maps.{get_put, get_put-other, get_taken}
use Rattle.f2_laws.proofs.NewRows.{inserted_names}
use Rattle.f2_laws.proofs.Passed.{passed}
use Rattle.f2_laws.proofs.Places.{same_or_other, put_or_other}
use Rattle.f2_laws.proofs.Walks.{some_same, walk_ends}
use Rattle.f2_dir.specs.Entries.{Entries}
use Rattle.f2_pieces.specs.Fresh.{fresh_pages}
use Rattle.f2_spans.specs.Spans.{EndWithin}
use Rattle.f2_spans.specs.Spans.{MOST_SIZE}
use Rattle.f2_flat.specs.Flat.{IsFlat, IsRootFile, FILE_SIZE, limits_of}
use Rattle.f2_flat.specs.Calls.{IsRefused, IsWritten}
use Rattle.f2_flat.specs.Kept.{HasRootFiles, BindsNames, AreCounts, IsKept, slots_of_row, slots_of_tree, pages_of_row, pages_of_tree}
use Rattle.f2_flat.specs.Steps.{FindsFile, TakesPieces, told_beyond, row_with, with_pieces}
use Rattle.f2_flat.specs.declared.counts.Counts.{Counts}
use Rattle.f2_flat.proofs.FlatTrees.{files_of}
use Rattle.f2_flat.proofs.Grown.{space_by_data}
use Rattle.f2_flat.proofs.Told.{none_within, passed_on}
use Rattle.f2_flat.proofs.Trees.{taken_put, put_same, sum_apart, sum_changed, nodes_of, data_of}

-- A row that keeps its place in a tree.

same_names : (a b : set.FinSet (slice_cmp nat_cmp)) → ((name : List ℕ) → set.contains a name ≡ set.contains b name) → a ≡ b
same_names a b h = set.same_set nat_list_cmp_total (set.slice_cmp-IsAntisymmetric set.nat_cmp-IsAntisymmetric) a b h

module _ (tree : Rows) (row : Row) (there : map.get tree row.ino ≡ Some row) (pieces : List Piece) where
  abbrev left : Rows
  left = map.remove tree row.ino

  -- the names in a directory stay
  pub blocks_stay : (directory : ℕ) → dentry_blocks (map.values (with_pieces tree row pieces)) directory ≡ dentry_blocks (map.values tree) directory
  blocks_stay directory =
      let before : map.insert left row.ino row ≡ tree = taken_put tree row.ino row ∙ put_same tree row.ino row there in
      let after : map.insert left row.ino (row_with row pieces) ≡ with_pieces tree row pieces = taken_put tree row.ino (row_with row pieces) in
      let free = get_taken tree row.ino in
      ap (λ (t : Rows). dentry_blocks (map.values t) directory) (sym after)
      ∙ ap (λ names. blocks_of_names (rising names)) (same_names (names_in (map.values (map.insert left row.ino (row_with row pieces))) directory) (names_in (map.values (map.insert left row.ino row)) directory) (λ one.
      inserted_names left row.ino (row_with row pieces) free directory one ∙ sym (inserted_names left row.ino row free directory one)))
      ∙ ap (λ (t : Rows). dentry_blocks (map.values t) directory) before

  pub slots_stay : slots_of_tree (with_pieces tree row pieces) ≡ slots_of_tree tree
  slots_stay = sum_changed tree row.ino (row_with row pieces) slots_of_row ∙ sym (sum_apart tree row.ino row slots_of_row there)

  pub length-written : map.len (with_pieces tree row pieces) ≡ map.len tree
  length-written = map.len-insert nat_cmp_total tree row.ino (row_with row pieces) ∙ ap (λ (o : Option Row). cond (is_some o) (map.len tree) (map.len tree + 1)) there

  -- the pages grow by those that the pieces bring
  pub pages_more : (more : ℕ) → map.len (put_pieces row.pages pieces) ≡ map.len row.pages + more → pages_of_tree (with_pieces tree row pieces) ≡ pages_of_tree tree + more
  pages_more more grows =
      let after = sum_changed tree row.ino (row_with row pieces) pages_of_row in
      let before = sum_apart tree row.ino row pages_of_row there in
      omega (arith, after, before, grows)

  -- the row before and the row after have one name
  pub names_written : (names : Entries) → BindsNames tree names → BindsNames (with_pieces tree row pieces) names
  names_written names binds = record {
    bound = λ other one is apart. bound other one apart (put_or_other tree (row_with row pieces) other one is);
    only = λ name ino kind is. (let at = binds.only name ino kind is in now ino at.0 at.1 at.2 at.3 (same_or_other ino row.ino));
  }
    where
      bound : (other : ℕ) (one : Row) → other ≢ ROOT → ((other ≡ row.ino) × (one ≡ row_with row pieces)) ⊎ ((other ≢ row.ino) × (map.get tree other ≡ Some one)) → map.get names one.name ≡ Some (other, Regular)
      bound other one apart (inl same) =
          ap (λ (r : Row). map.get names r.name) same.1 ∙ binds.bound other row (ap (λ i. map.get tree i) same.0 ∙ there) apart
      bound other one apart (inr was) = binds.bound other one was.1 apart

      now : {name : List ℕ} (ino : ℕ) (one : Row) → map.get tree ino ≡ Some one → ino ≢ ROOT → one.name ≡ name → (ino ≡ row.ino) ⊎ (ino ≢ row.ino) → (other : Row) × (map.get (with_pieces tree row pieces) ino ≡ Some other) × (ino ≢ ROOT) × (other.name ≡ name)
      now ino one is apart named (inl same) =
          let row_is : row ≡ one = some_same (sym there ∙ ap (λ i. map.get tree i) (sym same) ∙ is) in
          (row_with row pieces, ap (λ i. map.get (with_pieces tree row pieces) i) same ∙ get_put tree row.ino (row_with row pieces), apart, ap (λ (r : Row). r.name) row_is ∙ named)
      now ino one is apart named (inr other) = (one, get_put-other tree row.ino (row_with row pieces) ino other ∙ is, apart, named)

  pub counts_written : (counts : Counts) (more : ℕ) → map.len (put_pieces row.pages pieces) ≡ map.len row.pages + more → AreCounts tree counts → AreCounts (with_pieces tree row pieces) (record { slots = counts.slots; pages = counts.pages + more })
  counts_written counts more grows are =
      let stay = slots_stay in
      let pages = pages_more more grows in
      let was_slots = are.slots in
      let was_pages = are.pages in
      record { slots = omega (arith, stay, was_slots); pages = omega (arith, pages, was_pages) }

-- A write that isn't refused.

ends_list : (pieces : List Piece) → list_any (λ piece. nat_lt FILE_SIZE (end_of piece)) pieces ≡ false → AllByRecursion (λ piece. end_of piece ≤ MOST_SIZE) pieces
ends_list pieces none = within pieces (raised_ends pieces 0 FILE_SIZE (raised_within pieces 0 FILE_SIZE (omega arith) none))
  where
    small : (n : ℕ) → n ≤ FILE_SIZE → n ≤ MOST_SIZE
    small n low = omega (arith, low)

    within : (pieces : List Piece) → AllByRecursion (λ piece. end_of piece ≤ FILE_SIZE) pieces → AllByRecursion (λ piece. end_of piece ≤ MOST_SIZE) pieces
    within [] all = tt
    within (piece ∷ pieces) all = (small (end_of piece) all.0, within pieces all.1)

module _ (geom : ImageGeometry) (geometry : IsGeometry geom) (tree : Rows) (flat : IsFlat geom tree) (path : List (List ℕ)) (pieces : List Piece) (none : refusal (limits_of geom) tree (Write path pieces) ≡ None) where
  pub ends_within : EndWithin pieces
  ends_within = All-from_recursion (λ piece. end_of piece ≤ MOST_SIZE) pieces (ends_list pieces (passed (limits_of geom) tree (Write path pieces) none).fits)

  module _ (row : Row) (led : walk tree path ≡ Ok row) where
    pub row_there : map.get tree row.ino ≡ Some row
    row_there = (walk_ends FILE_SIZE tree flat.good path row led).there

    pub written_is : (ino : ℕ) → effect tree (Write path pieces) ino ≡ with_pieces tree row pieces
    written_is ino = ap (λ end. on_row tree end (λ (one : Row). map.insert tree one.ino (record one { size = raised_size one.size pieces; pages = put_pieces one.pages pieces }))) led

    pub good_written : IsGoodTree FILE_SIZE (with_pieces tree row pieces)
    good_written = subst (IsGoodTree FILE_SIZE) (written_is 0) (effect_good (limits_of geom) tree flat.good (Write path pieces) 0 (λ adds. absurd (false_true adds)) (passed (limits_of geom) tree (Write path pieces) none))
      where
        false_true : false ≡ true → ⊥
        false_true e = cc

    files_now : (other : ℕ) (one : Row) → ((other ≡ row.ino) × (one ≡ row_with row pieces)) ⊎ ((other ≢ row.ino) × (map.get tree other ≡ Some one)) → other ≢ ROOT → IsRootFile one
    files_now other one (inl same) apart = subst IsRootFile (sym same.1) (let file = flat.files other row (ap (λ i. map.get tree i) same.0 ∙ row_there) apart in (file.0, file.1))
    files_now other one (inr was) apart = flat.files other one was.1 apart

    pub files_written : HasRootFiles (with_pieces tree row pieces)
    files_written = record {
      good = good_written;
      few = (let few = (files_of geom geometry tree flat).few in let len = length-written tree row row_there pieces in omega (arith, few, len));
      files = λ other one there apart. files_now other one (put_or_other tree (row_with row pieces) other one there) apart;
    }

    module _ (more : ℕ) (grows : map.len (put_pieces row.pages pieces) ≡ map.len row.pages + more) where
      data_written : data_of_tree (with_pieces tree row pieces) ≡ data_of_tree tree + more
      data_written =
          let after = data_of (with_pieces tree row pieces) files_written in
          let before = data_of tree (files_of geom geometry tree flat) in
          let blocks = blocks_stay tree row row_there pieces ROOT in
          let pages = pages_more tree row row_there pieces more grows in
          omega (arith, after, before, blocks, pages)

      pub space_written : space_refusal (limits_of geom) (with_pieces tree row pieces) ≡ told_beyond Data (data_of_tree tree + more) (data_third geom)
      space_written =
          let nodes = nodes_of (with_pieces tree row pieces) files_written in
          let len = length-written tree row row_there pieces in
          let fits = flat.fits in
          space_by_data geom (with_pieces tree row pieces) (omega (arith, nodes, len, fits)) ∙ ap (λ need. told_beyond Data need (data_third geom)) data_written

      -- the refusal of the tree after it
      pub space_told : (ino : ℕ) → space_refusal (limits_of geom) (effect tree (Write path pieces) ino) ≡ told_beyond Data (data_of_tree tree + more) (data_third geom)
      space_told ino = ap (λ after. space_refusal (limits_of geom) after) (written_is ino) ∙ space_written

      pub flat_written : told_beyond Data (data_of_tree tree + more) (data_third geom) ≡ None → IsFlat geom (with_pieces tree row pieces)
      flat_written room = record {
        good = good_written;
        fits = (let len = length-written tree row row_there pieces in let fits = flat.fits in omega (arith, len, fits));
        room = (let within = none_within Data (data_of_tree tree + more) (data_third geom) room in let taken = data_written in omega (arith, within, taken));
        dense = λ ino one there. dense ino one (put_or_other tree (row_with row pieces) ino one there);
        files = files_written.files;
      }
        where
          kept : (ino len : ℕ) → len ≡ map.len tree → (ROOT ≤ ino) × (ino < map.len tree + ROOT) → (ROOT ≤ ino) × (ino < len + ROOT)
          kept ino len same was = let low = was.0 in let high = was.1 in (omega (arith, low), omega (arith, high, same))

          dense : (ino : ℕ) (one : Row) → ((ino ≡ row.ino) × (one ≡ row_with row pieces)) ⊎ ((ino ≢ row.ino) × (map.get tree ino ≡ Some one)) → (ROOT ≤ ino) × (ino < map.len (with_pieces tree row pieces) + ROOT)
          dense ino one (inl same) = kept ino (map.len (with_pieces tree row pieces)) (length-written tree row row_there pieces) (flat.dense ino row (ap (λ i. map.get tree i) same.0 ∙ row_there))
          dense ino one (inr was) = kept ino (map.len (with_pieces tree row pieces)) (length-written tree row row_there pieces) (flat.dense ino one was.1)

-- What a write comes to, step by step.

module _ (geom : ImageGeometry) (geometry : IsGeometry geom) (tree : Rows) (flat : IsFlat geom tree) (path : List (List ℕ)) (pieces : List Piece) (row : Row) (finds : FindsFile geom tree path pieces (Ok row)) where
  pub pieces_within : EndWithin pieces
  pieces_within = ends_within geom geometry tree flat path pieces finds.0

  pub takes : (inside : Rows) (fresh items : List ℕ) → inside ≡ tree → fresh ≡ items → items ≡ fresh_pages row.pages pieces → TakesPieces inside row.ino pieces fresh row
  takes inside fresh items inside_is fresh_is items_is = record {
    there = ap (λ (t : Rows). map.get t row.ino) inside_is ∙ row_there geom geometry tree flat path pieces finds.0 row finds.1;
    own = refl;
    ends = pieces_within;
    brought = fresh_is ∙ items_is;
  }

  module _ (more limit count : ℕ) (grows : map.len (put_pieces row.pages pieces) ≡ map.len row.pages + count) (count_is : more ≡ count) (limit_is : limit ≡ data_third geom) (inside : Rows) (inside_is : inside ≡ tree) (told : Option Reply) (told_is : told ≡ told_beyond Data (data_of_tree inside + more) limit) where
    grown : map.len (put_pieces row.pages pieces) ≡ map.len row.pages + more
    grown = grows ∙ ap (λ n. map.len row.pages + n) (sym count_is)

    due : told ≡ told_beyond Data (data_of_tree tree + more) (data_third geom)
    due = told_is ∙ (λ i. told_beyond Data (data_of_tree (inside_is i) + more) (limit_is i))

    space : space_refusal (limits_of geom) (effect tree (Write path pieces) (limits_of geom).nids) ≡ told
    space = space_told geom geometry tree flat path pieces finds.0 row finds.1 more grown (limits_of geom).nids ∙ sym due

    pub write_out : {X : Type 0} (result : Result X Reply) (came : Reply) → IsErrAnd result (λ e. e ≡ came) → (came ≡ Memory) ⊎ (told ≡ Some came)
        → IfErr result (λ refused. (refused ≡ Memory) ⊎ IsRefused geom tree (Write path pieces) refused)
    write_out result came is why = passed_on result came (λ refused. (refused ≡ Memory) ⊎ IsRefused geom tree (Write path pieces) refused) is (elim why [
      | inl memory ↦ inl memory
      | inr some ↦ inr (inr (finds.0, space ∙ some))
    ])

    pub write_done : (new : Rows) → told ≡ None → new ≡ with_pieces tree row pieces → IsWritten geom tree new path pieces
    write_done new none is = record {
      none = finds.0;
      space = space ∙ none;
      tree = is ∙ sym (written_is geom geometry tree flat path pieces finds.0 row finds.1 (limits_of geom).nids);
    }

    pub write_flat : (new : Rows) → told ≡ None → new ≡ with_pieces tree row pieces → IsFlat geom new
    write_flat new none is = subst (IsFlat geom) (sym is) (flat_written geom geometry tree flat path pieces finds.0 row finds.1 more grown (sym due ∙ none))

    -- so many pages fit a count
    pub write_few : (counts : Counts) → AreCounts inside counts → told ≡ None → counts.pages + more ≤ data_third geom
    write_few counts are none =
        let within = none_within Data (data_of_tree tree + more) (data_third geom) (sym due ∙ none) in
        let taken = data_of tree (files_of geom geometry tree flat) in
        let pages : counts.pages ≡ pages_of_tree tree = are.pages ∙ ap pages_of_tree inside_is in
        omega (arith, within, taken, pages)

    pub write_kept : (new : Rows) (names : Entries) (counts : Counts) → IsKept inside names counts → new ≡ with_pieces tree row pieces → IsKept new names (record { slots = counts.slots; pages = counts.pages + more })
    write_kept new names counts kept is =
        let there = row_there geom geometry tree flat path pieces finds.0 row finds.1 in
        let before : IsKept tree names counts = subst (λ t. IsKept t names counts) inside_is kept in
        subst (λ t. IsKept t names (record { slots = counts.slots; pages = counts.pages + more })) (sym is)
        (record { bound = names_written tree row there pieces names before.bound; counted = counts_written tree row there pieces counts more grown before.counted })
