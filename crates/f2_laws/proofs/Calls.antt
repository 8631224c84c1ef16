-- The effect of each call that isn't refused, but a rename's, keeps a tree good.
use Rattle.std.proofs.Common.{◌≡◌, ◌≢◌, ◌⊎◌, inl, inr, ℕ, suc, ◌≤◌, true, false, not, IsTrue, ◌||◌, List, [], ◌∷◌, ◌++◌, length, refl, sym, ap, subst, ◌∙◌, arith, true≢false}
use Rattle.std.specs.Prelude.{Option, Some, None, Result, Ok, Err, is_ok, if◌then◌else◌, ◌==◌}
use Rattle.std.specs.List.{list_any}
use Rattle.std.specs.FinMap as map
use Rattle.std.proofs.lemmas.Bool.{ltb-false, eqb-false, ne_eqb, eq-eqb}
use Rattle.f2_model.specs.Content.{PageMap, put_pieces, raised_size, cut_pages}
use Rattle.f2_model.specs.Names.{is_good_name, is_good_path}
use Rattle.f2_model.specs.Tree.{Rows, ROOT, MOST_DEPTH, IsGoodTree, IsAtDepth, HasGoodPages, most_depth, is_directory, is_in, walk, parent_path, last_name}
use Rattle.f2_model.specs.Call.{refusal, space_wanted, answer, or_refused, effect, on_row, new_row, to_directory, walk_parent, row_passes, goes_below, puts_too_deep, is_root_path, refusal_of}
use Rattle.f2_model.specs.declared.bounds.Limits.{Limits}
use Rattle.f2_model.specs.Step.{adds_row}
use Rattle.f2_laws.specs.Goodness.{CallsKeepTreesGood}
use Rattle.f2_laws.proofs.Moves.{IsBelow, goes_on, path_begins, kept_or_below, moved_reached}
use Rattle.f2_model.specs.declared.rows.Row.{Row}
use Rattle.f2_model.specs.declared.rows.Kind.{Kind}
use Rattle.f2_model.specs.declared.rows.Kind.TheVariants.{Regular, Directory}
use Rattle.f2_model.specs.declared.requests.Piece.{Piece}
use Rattle.f2_model.specs.declared.requests.Request.{Request}
use Rattle.f2_model.specs.declared.requests.Request.TheVariants.{Create, Mkdir, Write, Truncate, Unlink, Rmdir, Rename, Read, List as ListNames, Fsync, Sync}
use Rattle.f2_model.specs.declared.replies.Reply.{Reply}
use Rattle.f2_model.specs.declared.replies.Reply.TheVariants.{NotDir}
use Rattle.f2_laws.proofs.Maps.{get_put, get_put-other}
use Rattle.f2_laws.proofs.Values.{no_value}
use Rattle.f2_laws.proofs.Walks.{some_same, some_none, Leads, depth-leads, length-turned_onto, turned_onto, walk_ends}
use Rattle.f2_laws.proofs.Places.{same_or_other, put_or_other, good_changed, Fits, good_placed, good_without, depth_kept}
use Rattle.f2_laws.proofs.Passed.{Passed, passed, none_first, walk_ok, directory_ok, regular, kinds_differ, not_false, either_false}
use Rattle.f2_laws.proofs.Names.{name_free, path_parts, not_the_root, parent_length, good_last, path_length}
use Rattle.f2_laws.proofs.Contents.{AreGoodPages, good_pieces, raised-le, raised_ends, raised_within, good_raised, good_cut}

-- the pages of a good row, and a good file's row from its pages
pages_of_row : (most : ℕ) (row : Row) → HasGoodPages most row → AreGoodPages row.size row.pages
pages_of_row most row g page bytes h = record { whole = g.whole page bytes h; before = g.before page bytes h; zeros = λ at past. g.zeros page at bytes h past }

file_row : (most : ℕ) (row : Row) → row.kind ≡ Regular → row.size ≤ most → AreGoodPages row.size row.pages → HasGoodPages most row
file_row most row kind size good = record {
  directory = λ is. absurd (kinds_differ (sym kind ∙ is));
  size = size;
  whole = λ page bytes h. (good page bytes h).whole;
  before = λ page bytes h. (good page bytes h).before;
  zeros = λ page at bytes h past. (good page bytes h).zeros at past;
}

pub depth_of : (most : ℕ) (tree : Rows) (good : IsGoodTree most tree) (path : List (List ℕ)) (end : Row) → walk tree path ≡ Ok end → IsAtDepth tree (length path) end.ino
depth_of most tree good path end h =
    let ends = walk_ends most tree good path end h in
    let long : length (turned_onto [] path) ≡ length path = omega (arith, length-turned_onto [] path) in
    subst (λ n. IsAtDepth tree n end.ino) long (depth-leads tree (turned_onto [] path) end.ino ends.leads)

-- the row at the end of a walk that isn't the root's
not_root_at : (tree : Rows) (names : List (List ℕ)) (ino : ℕ) → Leads tree names ino → 1 ≤ length names → ino ≢ ROOT
not_root_at tree [] ino h some = absurd (omega arith)
not_root_at tree (name ∷ names) ino h some = h.0

module _ (limits : Limits) (tree : Rows) (good : IsGoodTree limits.size tree) where
  -- a new row at a name that is free
  add : (kind : Kind) (path : List (List ℕ)) (ino : ℕ) → map.get tree ino ≡ None → length path ≤ most_depth kind → is_good_path path ≡ true → is_ok (walk tree path) ≡ false → (up : Row) → walk tree (parent_path path) ≡ Ok up → up.kind ≡ Directory → IsGoodTree limits.size (map.insert tree ino (new_row kind ino up.ino (last_name path)))
  add kind path ino new deep path_good free up leads is =
      let put = new_row kind ino up.ino (last_name path) in
      let ends = walk_ends limits.size tree good (parent_path path) up leads in
      let some = not_the_root limits.size tree good path free in
      let other : (i : ℕ) (row : Row) → map.get tree i ≡ Some row → i ≢ ino = λ i row h same. some_none (sym h ∙ ap (λ j. map.get tree j) same ∙ new) in
      let fits : Fits limits.size tree good put = record {
        not_root = λ same. other ROOT good.root.0 good.root.1 (sym same);
        up = (up, ends.there, is);
        up_other = other up.ino up ends.there;
        kind = λ old h. absurd (some_none (sym h ∙ new));
        name = good_name_is (good_last path some path_good);
        free = λ i row h not_root parent name. absurd (name_free limits.size tree good path up leads is free i row h not_root parent name);
        pages = empty_row put refl refl;
      } in
      good_placed limits.size tree good put fits (λ i row h. reached put refl refl refl i row some other (put_or_other tree put i row h))
    where
      good_name_is : is_good_name (last_name path) ≡ true → IsTrue (is_good_name (last_name path))
      good_name_is e = e

      empty_row : (put : Row) → put.size ≡ 0 → put.pages ≡ map.empty → HasGoodPages limits.size put
      empty_row put size pages =
          let none : (page : ℕ) (bytes : List ℕ) → map.get put.pages page ≡ Some bytes → ⊥ = λ page bytes h. some_none (sym h ∙ ap (λ m. map.get m page) pages ∙ map.get-empty _ page) in
          record {
            directory = λ _. (size, pages);
            size = omega arith;
            whole = λ page bytes h. absurd (none page bytes h);
            before = λ page bytes h. absurd (none page bytes h);
            zeros = λ page at bytes h past. absurd (none page bytes h);
          }

      depths : (put : Row) → put.ino ≡ ino → ((i : ℕ) (row : Row) → map.get tree i ≡ Some row → i ≢ ino) → (depth i : ℕ) → IsAtDepth tree depth i → IsAtDepth (map.insert tree put.ino put) depth i
      depths put is other depth i h =
          depth_kept tree (map.insert tree put.ino put) (λ _. Unit {0}) (λ j row _ _ there. (tt, (row, get_put-other tree put.ino put j (λ same. other j row there (same ∙ is)) ∙ there, refl))) depth i tt h

      reached : (put : Row) → put.ino ≡ ino → put.kind ≡ kind → put.parent ≡ up.ino → (i : ℕ) (row : Row) → 1 ≤ length path → ((i : ℕ) (row : Row) → map.get tree i ≡ Some row → i ≢ ino) → ((i ≡ put.ino) × (row ≡ put)) ⊎ ((i ≢ put.ino) × (map.get tree i ≡ Some row)) → (depth : ℕ) × (depth ≤ most_depth row.kind) × IsAtDepth (map.insert tree put.ino put) depth i
      reached put ino_is kind_is parent_is i row some other (inl same) =
          let not_root : i ≢ ROOT = λ root. other ROOT good.root.0 good.root.1 (sym root ∙ same.0 ∙ ino_is) in
          let above : IsAtDepth (map.insert tree put.ino put) (length (parent_path path)) put.parent =
          subst (λ j. IsAtDepth (map.insert tree put.ino put) (length (parent_path path)) j) (sym parent_is) (depths put ino_is other (length (parent_path path)) up.ino (depth_of limits.size tree good (parent_path path) up leads)) in (
            suc (length (parent_path path)),
            subst (λ k. suc (length (parent_path path)) ≤ most_depth k) (sym (ap (λ (r : Row). r.kind) same.1 ∙ kind_is)) (subst (λ n. n ≤ most_depth kind) (sym (parent_length path some)) deep),
            (not_root, (put, ap (λ j. map.get (map.insert tree put.ino put) j) same.0 ∙ get_put tree put.ino put, above)),
          )
      reached put ino_is kind_is parent_is i row some other (inr before) =
          let r = good.reached i row before.1 in
          (r.0, r.1, depths put ino_is other r.0 i r.2)

  -- a file's row changes its size and pages
  resize : (row : Row) (size : ℕ) (pages : PageMap) → map.get tree row.ino ≡ Some row → row.kind ≡ Regular → size ≤ limits.size → AreGoodPages size pages → IsGoodTree limits.size (map.insert tree row.ino (record row { size = size; pages = pages }))
  resize row size pages there kind within good_pages =
      let put : Row = record row { size = size; pages = pages } in
      good_changed limits.size tree good put row there (record { ino = refl; kind = refl; parent = refl; name = refl }) (file_row limits.size put kind within good_pages)

  -- what the tests of a call say of the row at the end of its walk
  passes_regular : (end : Result Row Reply) (row : Row) → end ≡ Ok row → row_passes (λ one. is_directory one.kind) end ≡ false → row.kind ≡ Regular
  passes_regular end row e h = regular row.kind (sym (ap (λ o. row_passes (λ one. is_directory one.kind) o) e) ∙ h)

  create : (path : List (List ℕ)) (ino : ℕ) → map.get tree ino ≡ None → Passed limits tree (Create path) → IsGoodTree limits.size (effect tree (Create path) ino)
  create path ino new h =
      let path_good = not_false (is_good_path path) h.good_name in
      let end = directory_ok (walk tree (parent_path path)) h.walks in
      subst (λ o. IsGoodTree limits.size (on_row tree (to_directory o) (λ up. map.insert tree ino (new_row Regular ino up.ino (last_name path))))) (sym end.1)
      (subst (λ k. IsGoodTree limits.size (on_row tree (if is_directory k then Ok end.0 else Err NotDir) (λ up. map.insert tree ino (new_row Regular ino up.ino (last_name path))))) (sym end.2)
      (add Regular path ino new (path_length path path_good) path_good h.free_name end.0 end.1 end.2))

  mkdir : (path : List (List ℕ)) (ino : ℕ) → map.get tree ino ≡ None → Passed limits tree (Mkdir path) → IsGoodTree limits.size (effect tree (Mkdir path) ino)
  mkdir path ino new h =
      let path_good = not_false (is_good_path path) h.good_name in
      let end = directory_ok (walk tree (parent_path path)) h.walks in
      subst (λ o. IsGoodTree limits.size (on_row tree (to_directory o) (λ up. map.insert tree ino (new_row Directory ino up.ino (last_name path))))) (sym end.1)
      (subst (λ k. IsGoodTree limits.size (on_row tree (if is_directory k then Ok end.0 else Err NotDir) (λ up. map.insert tree ino (new_row Directory ino up.ino (last_name path))))) (sym end.2)
      (add Directory path ino new (ltb-false MOST_DEPTH (length path) h.fits) path_good h.free_name end.0 end.1 end.2))

  write : (path : List (List ℕ)) (pieces : List Piece) (ino : ℕ) → Passed limits tree (Write path pieces) → IsGoodTree limits.size (effect tree (Write path pieces) ino)
  write path pieces ino h =
      let end = walk_ok (walk tree path) h.walks in
      let row = end.0 in
      let there = (walk_ends limits.size tree good path row end.1).there in
      let kind = passes_regular (walk tree path) row end.1 h.file in
      let pages = good.pages row.ino row there in
      let size = raised_size row.size pieces in
      let whole = good_pieces size pieces row.pages (good_raised row.size size row.pages (raised-le pieces row.size) (pages_of_row limits.size row pages)) (raised_ends pieces row.size size (le_same size)) in
      subst (λ o. IsGoodTree limits.size (on_row tree o (λ (one : Row). map.insert tree one.ino (record one { size = raised_size one.size pieces; pages = put_pieces one.pages pieces })))) (sym end.1)
      (resize row size (put_pieces row.pages pieces) there kind (raised_within pieces row.size limits.size pages.size h.fits) whole)
    where
      le_same : (n : ℕ) → n ≤ n
      le_same n = omega arith

  truncate : (path : List (List ℕ)) (size ino : ℕ) → Passed limits tree (Truncate path size) → IsGoodTree limits.size (effect tree (Truncate path size) ino)
  truncate path size ino h =
      let end = walk_ok (walk tree path) h.walks in
      let row = end.0 in
      let there = (walk_ends limits.size tree good path row end.1).there in
      let kind = passes_regular (walk tree path) row end.1 h.file in
      let pages = pages_of_row limits.size row (good.pages row.ino row there) in
      subst (λ o. IsGoodTree limits.size (on_row tree o (λ (one : Row). map.insert tree one.ino (record one { size = size; pages = cut_pages one.pages size })))) (sym end.1)
      (resize row size (cut_pages row.pages size) there kind (ltb-false limits.size size h.fits) (good_cut row.size size row.pages pages))

  unlink : (path : List (List ℕ)) (ino : ℕ) → Passed limits tree (Unlink path) → IsGoodTree limits.size (effect tree (Unlink path) ino)
  unlink path ino h =
      let end = walk_ok (walk tree path) h.walks in
      let row = end.0 in
      let there = (walk_ends limits.size tree good path row end.1).there in
      let kind = passes_regular (walk tree path) row end.1 h.file in
      let holds : (up : Row) → map.get tree row.ino ≡ Some up → up.kind ≡ Directory → ⊥ = λ up is directory. kinds_differ (sym kind ∙ ap (λ (r : Row). r.kind) (some_same (sym there ∙ is)) ∙ directory) in
      subst (λ o. IsGoodTree limits.size (on_row tree o (λ one. map.remove tree one.ino))) (sym end.1)
      (good_without limits.size tree good row.ino
      (λ root. holds good.root.0 (ap (λ i. map.get tree i) root ∙ good.root.1) good.root.2.kind)
      (λ i one is parent. let up = good.parents i one is in holds up.0 (ap (λ j. map.get tree j) (sym parent) ∙ up.1) up.2))

  -- a row in a directory is found there
  in_true : (directory : ℕ) (row : Row) → row.ino ≢ ROOT → row.parent ≡ directory → is_in directory row ≡ true
  in_true directory row not_root parent =
      ap (λ b. list_any (λ (at : ℕ × List ℕ). at.0 == directory) (if b then [] else ((row.parent, row.name) ∷ []))) (ne_eqb row.ino ROOT not_root)
      ∙ ap (λ b. b || false) (eq-eqb row.parent directory parent)

  rmdir : (path : List (List ℕ)) (ino : ℕ) → Passed limits tree (Rmdir path) → IsGoodTree limits.size (effect tree (Rmdir path) ino)
  rmdir path ino h =
      let end = directory_ok (walk tree path) h.walks in
      let row = end.0 in
      let ends = walk_ends limits.size tree good path row end.1 in
      let named = (either_false (not (is_good_path path)) (length path == 0) h.good_name).1 in
      let some : length path ≢ 0 = eqb-false (length path) 0 named in
      let not_root = not_root_at tree (turned_onto [] path) row.ino ends.leads (omega (arith, length-turned_onto [] path)) in
      let none : list_any (is_in row.ino) (map.values tree) ≡ false = sym (ap (λ o. row_passes (λ one. list_any (is_in one.ino) (map.values tree)) o) end.1) ∙ h.empty in
      subst (λ o. IsGoodTree limits.size (on_row tree o (λ one. map.remove tree one.ino))) (sym end.1)
      (good_without limits.size tree good row.ino not_root (λ i one is parent. no_row row.ino not_root none i one is parent))
    where
      no_row : (gone : ℕ) → gone ≢ ROOT → list_any (is_in gone) (map.values tree) ≡ false → (i : ℕ) (one : Row) → map.get tree i ≡ Some one → one.parent ≡ gone → ⊥
      no_row gone not_root none i one is parent = by_root (same_or_other i ROOT)
        where
          by_root : (i ≡ ROOT) ⊎ (i ≢ ROOT) → ⊥
          by_root (inl root) =
              let same : good.root.0 ≡ one = some_same (sym good.root.1 ∙ ap (λ j. map.get tree j) (sym root) ∙ is) in
              not_root (sym parent ∙ sym (ap (λ (r : Row). r.parent) same) ∙ good.root.2.parent)
          by_root (inr other) =
              let missing = no_value tree (is_in gone) i one none is in
              true≢false (sym (in_true gone one (λ root. other (sym (good.keyed i one is) ∙ root)) parent) ∙ missing)

  -- a row moves to a name that is free, in a directory that isn't below it
  move : (from to : List (List ℕ)) (row up : Row) → walk tree from ≡ Ok row → 1 ≤ length from → walk tree (parent_path to) ≡ Ok up → up.kind ≡ Directory → is_good_path to ≡ true → is_ok (walk tree to) ≡ false → goes_below to from ≡ false → puts_too_deep tree (length to) row ≡ false → IsGoodTree limits.size (map.insert tree row.ino (record row { parent = up.ino; name = last_name to }))
  move from to row up leads some up_leads is to_good free apart shallow =
      let put : Row = record row { parent = up.ino; name = last_name to } in
      let ends = walk_ends limits.size tree good from row leads in
      let up_ends = walk_ends limits.size tree good (parent_path to) up up_leads in
      let named = not_the_root limits.size tree good to free in
      let not_root = not_root_at tree (turned_onto [] from) row.ino ends.leads (omega (arith, length-turned_onto [] from)) in
      let outside = λ (steps : ℕ) (below : IsBelow tree row.ino steps up.ino). never_below steps named ends.leads up_ends.leads below in
      let pages = good.pages row.ino row ends.there in
      let fits : Fits limits.size tree good put = record {
        not_root = not_root;
        up = (up, up_ends.there, is);
        up_other = λ same. outside 0 same;
        kind = λ old h. ap (λ (r : Row). r.kind) (some_same (sym h ∙ ends.there));
        name = good_last to named to_good;
        free = λ i one h other parent name. absurd (name_free limits.size tree good to up up_leads is free i one h other parent name);
        pages = record { directory = pages.directory; size = pages.size; whole = pages.whole; before = pages.before; zeros = pages.zeros };
      } in
      let above = depth_above put refl not_root outside (kept_or_below limits.size tree good put (length (parent_path to)) up.ino (depth_of limits.size tree good (parent_path to) up up_leads) not_root) in
      let high : IsAtDepth (map.insert tree put.ino put) (length to) put.ino =
      subst (λ n. IsAtDepth (map.insert tree put.ino put) n put.ino) (parent_length to named) (not_root, (put, get_put tree put.ino put, above)) in
      let each = moved_reached limits.size tree good put (length to) not_root shallow (path_length to to_good) high in
      good_placed limits.size tree good put fits (λ i one h. reached put i one each (ends.there) refl (put_or_other tree put i one h))
    where
      never_below : (steps : ℕ) → 1 ≤ length to → Leads tree (turned_onto [] from) row.ino → Leads tree (turned_onto [] (parent_path to)) up.ino → IsBelow tree row.ino steps up.ino → ⊥
      never_below steps named high low below =
          let begins = path_begins tree row.ino up.ino steps (parent_path to) from high low below in
          let whole : (from ++ begins.0) ++ last_name to ∷ [] ≡ to = ap (λ (l : List (List ℕ)). l ++ last_name to ∷ []) (sym begins.1) ∙ path_parts to named in
          true≢false (sym (goes_on from begins.0 (last_name to)) ∙ ap (λ l. goes_below l from) whole ∙ apart)

      depth_above : (put : Row) → put.ino ≡ row.ino → row.ino ≢ ROOT → ((steps : ℕ) → IsBelow tree row.ino steps up.ino → ⊥) → (IsAtDepth (map.insert tree put.ino put) (length (parent_path to)) up.ino) ⊎ ((steps : ℕ) × (steps ≤ length (parent_path to)) × IsBelow tree put.ino steps up.ino) → IsAtDepth (map.insert tree put.ino put) (length (parent_path to)) up.ino
      depth_above put same not_root outside (inl h) = h
      depth_above put same not_root outside (inr h) = absurd (outside h.0 (subst (λ top. IsBelow tree top h.0 up.ino) same h.2))

      reached : (put : Row) (i : ℕ) (one : Row) → ((i : ℕ) (before : Row) → map.get tree i ≡ Some before → (depth : ℕ) × (depth ≤ most_depth before.kind) × IsAtDepth (map.insert tree put.ino put) depth i) → map.get tree put.ino ≡ Some row → put.kind ≡ row.kind → ((i ≡ put.ino) × (one ≡ put)) ⊎ ((i ≢ put.ino) × (map.get tree i ≡ Some one)) → (depth : ℕ) × (depth ≤ most_depth one.kind) × IsAtDepth (map.insert tree put.ino put) depth i
      reached put i one each there kind (inr other) = each i one other.1
      reached put i one each there kind (inl same) =
          let r = each i row (ap (λ j. map.get tree j) same.0 ∙ there) in
          (r.0, subst (λ k. r.0 ≤ most_depth k) (sym (ap (λ (r : Row). r.kind) same.1 ∙ kind)) r.1, r.2)

  rename : (from to : List (List ℕ)) (ino : ℕ) → Passed limits tree (Rename from to) → IsGoodTree limits.size (effect tree (Rename from to) ino)
  rename from to ino h =
      let names = either_false _ (goes_below to from) h.good_name in
      let roots = either_false _ (is_root_path from) names.0 in
      let goods = either_false (not (is_good_path from)) (not (is_good_path to)) roots.0 in
      let some : length from ≢ 0 = eqb-false (length from) 0 roots.1 in
      let walks = none_first (refusal_of (walk tree from)) _ h.walks in
      let parent = none_first (refusal_of (walk_parent tree to)) _ walks.1 in
      let end = walk_ok (walk tree from) walks.0 in
      let up = directory_ok (walk tree (parent_path to)) parent.0 in
      let shallow : puts_too_deep tree (length to) end.0 ≡ false = sym (ap (λ o. row_passes (puts_too_deep tree (length to)) o) end.1) ∙ h.fits in
      subst (λ o. IsGoodTree limits.size (on_row tree o (λ (row : Row). on_row tree (walk_parent tree to) (λ one. map.insert tree row.ino (record row { parent = one.ino; name = last_name to }))))) (sym end.1)
      (subst (λ o. IsGoodTree limits.size (on_row tree (to_directory o) (λ one. map.insert tree end.0.ino (record end.0 { parent = one.ino; name = last_name to })))) (sym up.1)
      (subst (λ k. IsGoodTree limits.size (on_row tree (if is_directory k then Ok up.0 else Err NotDir) (λ one. map.insert tree end.0.ino (record end.0 { parent = one.ino; name = last_name to })))) (sym up.2)
      (move from to end.0 up.0 end.1 (omega arith) up.1 up.2 (not_false (is_good_path to) goods.1) h.free_name names.1 shallow)))

  -- the effect of a call that isn't refused keeps the tree good
  pub effect_good : (request : Request) (ino : ℕ) → (IsTrue (adds_row request) → map.get tree ino ≡ None) → Passed limits tree request → IsGoodTree limits.size (effect tree request ino)
  effect_good (Create path) ino new h = create path ino (new refl) h
  effect_good (Mkdir path) ino new h = mkdir path ino (new refl) h
  effect_good (Write path pieces) ino new h = write path pieces ino h
  effect_good (Truncate path size) ino new h = truncate path size ino h
  effect_good (Unlink path) ino new h = unlink path ino h
  effect_good (Rmdir path) ino new h = rmdir path ino h
  effect_good (Rename from to) ino new h = rename from to ino h
  effect_good (Read path off len) ino new h = good
  effect_good (ListNames path) ino new h = good
  effect_good (Fsync path) ino new h = good
  effect_good Sync ino new h = good

outcome_good : (limits : Limits) (tree : Rows) (request : Request) (ino : ℕ) → IsGoodTree limits.size tree → (IsTrue (adds_row request) → map.get tree ino ≡ None) → (first want : Option Reply) → refusal limits tree request ≡ first → (told : Reply) → IsGoodTree limits.size (or_refused tree first (or_refused tree want (told, effect tree request ino))).1
outcome_good limits tree request ino good new (Some refused) want e told = good
outcome_good limits tree request ino good new None (Some refused) e told = good
outcome_good limits tree request ino good new None None e told = effect_good limits tree good request ino new (passed limits tree request e)

pub calls_keep_good : CallsKeepTreesGood
calls_keep_good limits tree request ino good new =
    outcome_good limits tree request ino good new (refusal limits tree request) (space_wanted limits (effect tree request ino) request) refl (answer tree request)
