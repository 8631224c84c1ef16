-- What each kind of call adds and takes.
use Rattle.std.proofs.Common.{◌≡◌, ◌≢◌, ℕ, ◌-◌, ◌≤◌, false, List, [], ◌∷◌, ◌++◌, length, refl, sym, ap, subst, ◌∙◌, arith, true≢false}
use Rattle.std.specs.Prelude.{Some, None, Result, Ok, Err, is_ok, IsOk, if◌then◌else◌, slice_get}
use Rattle.std.specs.FinMap as map
use Rattle.std.specs.FinSet as set
use Rattle.std.proofs.lemmas.Option.{slice_get-get_or}
use Rattle.f2_files.specs.Known.{Known}
use Rattle.f2_files.specs.Shape.{IsShapeOf}
use Rattle.f2_held.specs.Recovered.{size_of_file}
use Rattle.f2_held.specs.Sums.{of_blocks}
use Rattle.f2_laws.proofs.Moves.{goes_on, path_begins}
use Rattle.f2_laws.proofs.Names.{path_parts}
use Rattle.f2_laws.proofs.Passed.{walk_ok, directory_ok, kinds_differ}
use Rattle.f2_laws.proofs.Walks.{walk_ends, some_none, some_same}
use Rattle.f2_model.specs.Call.{on_row, new_row, to_directory, walk_parent, refusal_of, goes_below}
use Rattle.f2_model.specs.Content.{PageMap}
use Rattle.f2_model.specs.Count.{page_numbers, data_of_kind}
use Rattle.f2_format.specs.Offsets.{node_count}
use Rattle.f2_model.specs.Fallback.{Both, sum_of}
use Rattle.f2_model.specs.Tree.{Rows, ROOT, IsGoodTree, is_directory, walk, parent_path, last_name}
use Rattle.f2_model.specs.declared.rows.Row.{Row}
use Rattle.f2_model.specs.declared.rows.Kind.{Kind}
use Rattle.f2_model.specs.declared.rows.Kind.TheVariants.{Regular, Directory}
use Rattle.f2_model.specs.declared.replies.Reply.{Reply}
use Rattle.f2_model.specs.declared.replies.Reply.TheVariants.{NotDir}
use Rattle.f2_call_size.specs.Calls.{ChangesNames, IsInoAt, size_alone, size_of_kind}
use Rattle.f2_call_size.specs.Sizes.{IsDifference, IsSizeOf, added, gone, together, takes}
use Rattle.f2_call_size.specs.declared.sizes.CallSize.{CallSize}
use Rattle.f2_call_size.proofs.Balance.{comes, goes, grows, shrinks, stays, moves}
use Rattle.f2_call_size.proofs.Ends.{row_of}
use Rattle.f2_call_size.proofs.InPlace.{nobody, own_alone, own_new, not_inside, join_before, join_after, names_left, names_same, names_after_is, others_before, inside_same}
use Rattle.f2_call_size.proofs.Joined.{Names, names_at, blocks_at, packed, own, names_here, names_elsewhere, IsJoin, joined}

-- a walk that isn't refused can't lead nowhere
pub leads_somewhere : (end : Result Row Reply) → refusal_of end ≡ None → (IsOk end → ⊥) → ⊥
leads_somewhere end walks nowhere = nowhere (ap (λ (r : Result Row Reply). is_ok r) (walk_ok end walks).1)

pub last_there : (path : List (List ℕ)) → 1 ≤ length path → slice_get path (length path - 1) ≡ Some (last_name path)
last_there path some = slice_get-get_or path (length path - 1) [] (omega arith)

module _ (known : Known) (most : ℕ) (tree : Rows) (good : IsGoodTree most tree) (are : IsShapeOf known.shapes tree) where
  -- a row comes
  module _ (kind : Kind) (path : List (List ℕ)) (ino : ℕ) (fresh : map.get tree ino ≡ None) (up : Row) (there : map.get tree up.ino ≡ Some up) (up_kind : up.kind ≡ Directory) where
    abbrev v : Row
    v = new_row kind ino up.ino (last_name path)

    abbrev made : Rows
    made = map.insert tree ino v

    new_not_root : ino ≢ ROOT
    new_not_root e = some_none (sym good.root.1 ∙ ap (map.get tree) (sym e) ∙ fresh)

    empty_new : names_at made ino ≡ set.empty
    empty_new =
        names_elsewhere tree ino v fresh new_not_root ino (λ e. some_none (sym there ∙ ap (map.get tree) (sym e) ∙ fresh))
        ∙ nobody tree ino (λ k row h other parent. (let above = good.parents k row h in some_none (sym above.1 ∙ ap (map.get tree) parent ∙ fresh)))

    made_size : (names : CallSize) → ChangesNames known up.ino None (Some (last_name path)) names → IsSizeOf tree made (together (added (record { nodes = 1; pages = 0 })) names)
    made_size names change =
        let here : names_at made up.ino ≡ set.insert (names_at tree up.ino) (last_name path) = names_here tree ino v fresh new_not_root in
        let diff : IsDifference (of_blocks (blocks_at tree up.ino)) (of_blocks (packed (names_at made up.ino))) names =
        subst (λ (n : Names). IsDifference (of_blocks (blocks_at tree up.ino)) (of_blocks (packed n)) names) (sym here) (change most tree up good are there up_kind) in
        comes (takes tree) (takes made) (own made v) (record { nodes = 1; pages = 0 }) (of_blocks (blocks_at tree up.ino)) (of_blocks (blocks_at made up.ino)) names
        (joined tree ino v fresh new_not_root good.keyed up there up_kind) diff (own_alone made v (λ _. empty_new) ∙ own_new kind v refl)

  pub new_size : (kind : Kind) (path : List (List ℕ)) (ino : ℕ) → map.get tree ino ≡ None → refusal_of (walk_parent tree path) ≡ None → (directory : ℕ) → IsInoAt tree (parent_path path) (Some directory) → (names : CallSize) → ChangesNames known directory None (Some (last_name path)) names
      → IsSizeOf tree (on_row tree (walk_parent tree path) (λ up. map.insert tree ino (new_row kind ino up.ino (last_name path)))) (together (added (record { nodes = 1; pages = 0 })) names)
  new_size kind path ino fresh walks directory at names change =
      let end = directory_ok (walk tree (parent_path path)) walks in
      let up : Row = end.0 in
      let there = (walk_ends most tree good (parent_path path) up end.1).there in
      let same : directory ≡ up.ino = sym at.2 ∙ ap (λ (r : Row). r.ino) (row_of at.0 up (walk tree (parent_path path)) at.1 end.1) in
      subst (λ o. IsSizeOf tree (on_row tree (to_directory o) (λ up. map.insert tree ino (new_row kind ino up.ino (last_name path)))) (together (added (record { nodes = 1; pages = 0 })) names)) (sym end.1)
      (subst (λ k. IsSizeOf tree (on_row tree (if is_directory k then Ok up else Err NotDir) (λ up. map.insert tree ino (new_row kind ino up.ino (last_name path)))) (together (added (record { nodes = 1; pages = 0 })) names)) (sym end.2)
      (made_size kind path ino fresh up there end.2 names (subst (λ d. ChangesNames known d None (Some (last_name path)) names) same change)))

  module _ (row : Row) (there : map.get tree row.ino ≡ Some row) where
    abbrev rest : Rows
    rest = map.remove tree row.ino

    pub file_off_root : row.kind ≡ Regular → row.ino ≢ ROOT
    file_off_root kind e = kinds_differ (sym kind ∙ ap (λ (r : Row). r.kind) (some_same (sym there ∙ ap (map.get tree) e ∙ good.root.1)) ∙ good.root.2.kind)

    -- a file's pages change
    module _ (kind : row.kind ≡ Regular) (size : ℕ) (pages : PageMap) where
      abbrev now : Row
      now = record row { size = size; pages = pages }

      abbrev changed : Rows
      changed = map.insert tree row.ino now

      own_file : (t : Rows) (one : Row) → one.kind ≡ Regular → own t one ≡ size_of_file one
      own_file t one is = own_alone t one (λ d. absurd (kinds_differ (sym is ∙ d))) ∙ ap (λ (k : Kind). size_of_kind k one) is

      pub grown_size : (more : Both) → size_of_file now ≡ sum_of (size_of_file row) more → IsSizeOf tree changed (added more)
      grown_size more is =
          let off = file_off_root kind in
          let inside = not_inside most tree good row there off in
          let up = good.parents row.ino row there in
          grows (takes rest) (takes tree) (takes changed) (own tree row) (own changed now) (of_blocks (blocks_at rest row.parent)) (of_blocks (blocks_at tree row.parent)) (of_blocks (blocks_at changed row.parent)) more
          (join_before most tree good row there off) (join_after most tree good row there off now refl inside up.0 up.1 up.2)
          (ap of_blocks (names_same most tree good row there off now refl inside up.0 up.1 up.2 refl refl))
          (own_file changed now kind ∙ is ∙ ap (λ s. sum_of s more) (sym (own_file tree row kind)))

      pub shrunk_size : (less : Both) → size_of_file row ≡ sum_of (size_of_file now) less → IsSizeOf tree changed (gone less)
      shrunk_size less is =
          let off = file_off_root kind in
          let inside = not_inside most tree good row there off in
          let up = good.parents row.ino row there in
          shrinks (takes rest) (takes tree) (takes changed) (own tree row) (own changed now) (of_blocks (blocks_at rest row.parent)) (of_blocks (blocks_at tree row.parent)) (of_blocks (blocks_at changed row.parent)) less
          (join_before most tree good row there off) (join_after most tree good row there off now refl inside up.0 up.1 up.2)
          (ap of_blocks (names_same most tree good row there off now refl inside up.0 up.1 up.2 refl refl))
          (own_file tree row kind ∙ is ∙ ap (λ s. sum_of s less) (sym (own_file changed now kind)))

    module _ (off : row.ino ≢ ROOT) where
      left_names : (names : CallSize) → ChangesNames known row.parent (Some row.name) None names → IsDifference (of_blocks (blocks_at tree row.parent)) (of_blocks (blocks_at rest row.parent)) names
      left_names names change =
          let up = good.parents row.ino row there in
          subst (λ (n : Names). IsDifference (of_blocks (blocks_at tree row.parent)) (of_blocks (packed n)) names) (names_left most tree good row there off) (change most tree up.0 good are up.1 up.2)

      -- a row goes
      pub removed_size : (row.kind ≡ Directory → names_at tree row.ino ≡ set.empty) → (size : Both) → size ≡ size_alone row → (names : CallSize) → ChangesNames known row.parent (Some row.name) None names → IsSizeOf tree rest (together (gone size) names)
      removed_size empty size is names change =
          goes (takes rest) (takes tree) (own tree row) size (of_blocks (blocks_at rest row.parent)) (of_blocks (blocks_at tree row.parent)) names
          (join_before most tree good row there off) (left_names names change) (own_alone tree row empty ∙ sym is)

      -- a row moves
      module _ (up : Row) (above : map.get tree up.ino ≡ Some up) (up_kind : up.kind ≡ Directory) (outside : up.ino ≢ row.ino) (name : List ℕ) where
        abbrev put : Row
        put = record row { parent = up.ino; name = name }

        abbrev moved : Rows
        moved = map.insert tree row.ino put

        own_same : own tree row ≡ own moved put
        own_same = by row.kind
          where
            by : (kind : Kind) → ◌≡◌ {A = Both} (record { nodes = node_count (page_numbers kind (map.values tree) row); pages = data_of_kind kind (map.values tree) row }) (record { nodes = node_count (page_numbers kind (map.values moved) put); pages = data_of_kind kind (map.values moved) put })
            by Regular = refl
            by Directory = ap (λ (n : Names). of_blocks (packed n)) (inside_same most tree good row there off put refl outside up above up_kind)

        after_names : names_at moved up.ino ≡ set.insert (names_at rest up.ino) name
        after_names = names_after_is most tree good row there off put refl outside up above up_kind

        pub renamed_size : up.ino ≡ row.parent → (names : CallSize) → ChangesNames known up.ino (Some row.name) (Some name) names → IsSizeOf tree moved names
        renamed_size same names change =
            let left : set.remove (names_at tree up.ino) row.name ≡ names_at rest up.ino = subst (λ d. set.remove (names_at tree d) row.name ≡ names_at rest d) (sym same) (names_left most tree good row there off) in
            let all : set.insert (set.remove (names_at tree up.ino) row.name) name ≡ names_at moved up.ino = ap (λ (s : Names). set.insert s name) left ∙ sym after_names in
            let diff : IsDifference (of_blocks (blocks_at tree up.ino)) (of_blocks (packed (names_at moved up.ino))) names =
            subst (λ (n : Names). IsDifference (of_blocks (blocks_at tree up.ino)) (of_blocks (packed n)) names) all (change most tree up good are above up_kind) in
            stays (takes rest) (takes tree) (takes moved) (own tree row) (own moved put) (of_blocks (blocks_at rest up.ino)) (of_blocks (blocks_at tree up.ino)) (of_blocks (blocks_at moved up.ino)) names
            (subst (λ d. IsJoin (takes rest) (takes tree) (own tree row) (of_blocks (blocks_at rest d)) (of_blocks (blocks_at tree d))) (sym same) (join_before most tree good row there off))
            (join_after most tree good row there off put refl outside up above up_kind) own_same diff

        pub moved_size : up.ino ≢ row.parent → (left come : CallSize) → ChangesNames known row.parent (Some row.name) None left → ChangesNames known up.ino None (Some name) come → IsSizeOf tree moved (together left come)
        moved_size other left come goes_out comes_in =
            let all : set.insert (names_at tree up.ino) name ≡ names_at moved up.ino = ap (λ (s : Names). set.insert s name) (others_before most tree good row there off up.ino other) ∙ sym after_names in
            let before : blocks_at tree up.ino ≡ blocks_at rest up.ino = ap packed (others_before most tree good row there off up.ino other) in
            let diff : IsDifference (of_blocks (blocks_at rest up.ino)) (of_blocks (packed (names_at moved up.ino))) come =
            subst (λ b. IsDifference (of_blocks b) (of_blocks (packed (names_at moved up.ino))) come) before
            (subst (λ (n : Names). IsDifference (of_blocks (blocks_at tree up.ino)) (of_blocks (packed n)) come) all (comes_in most tree up good are above up_kind)) in
            moves (takes rest) (takes tree) (takes moved) (own tree row) (own moved put) (of_blocks (blocks_at rest row.parent)) (of_blocks (blocks_at tree row.parent)) (of_blocks (blocks_at rest up.ino)) (of_blocks (blocks_at moved up.ino)) left come
            (join_before most tree good row there off) (join_after most tree good row there off put refl outside up above up_kind) own_same (left_names left goes_out) diff

  -- a row that moves doesn't come into itself
  pub not_below : (from to : List (List ℕ)) (row up : Row) → walk tree from ≡ Ok row → walk tree (parent_path to) ≡ Ok up → 1 ≤ length to → goes_below to from ≡ false → up.ino ≢ row.ino
  not_below from to row up at to_at some apart inside =
      let begins = path_begins tree row.ino up.ino 0 (parent_path to) from (walk_ends most tree good from row at).leads (walk_ends most tree good (parent_path to) up to_at).leads inside in
      let whole : (from ++ begins.0) ++ last_name to ∷ [] ≡ to = ap (λ (l : List (List ℕ)). l ++ last_name to ∷ []) (sym begins.1) ∙ path_parts to some in
      true≢false (sym (goes_on from begins.0 (last_name to)) ∙ ap (λ l. goes_below l from) whole ∙ apart)
