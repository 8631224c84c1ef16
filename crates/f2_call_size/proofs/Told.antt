-- What is told of each call is what it adds and takes.
use Rattle.std.proofs.Common.{◌≡◌, ◌≢◌, ℕ, true, false, ◌||◌, ◌==◌, List, [], ◌∷◌, sym, ap, subst, ◌∙◌, true≢false}
use Rattle.std.specs.Prelude.{Some, None, Ok, Err, if◌then◌else◌}
use Rattle.std.specs.List.{list_any}
use Rattle.std.specs.FinMap as map
use Rattle.std.specs.FinSet as set
use Rattle.std.proofs.lemmas.Bool.{ne_eqb, eq-eqb}
use Rattle.f2_files.proofs.Removing.{path_off_root}
use Rattle.f2_files.specs.Known.{Known}
use Rattle.f2_files.specs.Shape.{IsShape, IsShapeOf}
use Rattle.f2_files.specs.declared.shapes.Shape.{Shape}
use Rattle.f2_laws.proofs.Names.{not_the_root}
use Rattle.f2_laws.proofs.Passed.{Passed, directory_ok, either_false, kinds_differ, none_first, regular}
use Rattle.f2_laws.proofs.Values.{no_value}
use Rattle.f2_laws.proofs.Walks.{walk_ends}
use Rattle.f2_model.specs.Call.{effect, goes_below, is_root_path, on_row, refusal_of, row_passes, to_directory, walk_parent}
use Rattle.f2_model.specs.Content.{cut_pages, put_pieces, raised_size}
use Rattle.f2_model.specs.Fallback.{Both}
use Rattle.f2_model.specs.Tree.{Rows, ROOT, IsGoodTree, is_directory, is_in, last_name, parent_path, walk}
use Rattle.f2_model.specs.declared.bounds.Limits.{Limits}
use Rattle.f2_model.specs.declared.replies.Reply.TheVariants.{NotDir}
use Rattle.f2_model.specs.declared.requests.Piece.{Piece}
use Rattle.f2_model.specs.declared.requests.Request.TheVariants.{Rename, Rmdir, Truncate, Unlink, Write}
use Rattle.f2_model.specs.declared.rows.Kind.TheVariants.{Regular, Directory}
use Rattle.f2_model.specs.declared.rows.Row.{Row}
use Rattle.f2_call_size.specs.Beyond.{IsMore}
use Rattle.f2_call_size.specs.Calls.{ChangesNames, IsInoAt, IsShapeAt, size_alone}
use Rattle.f2_call_size.specs.Sizes.{IsSizeOf, added, gone, together}
use Rattle.f2_call_size.specs.declared.sizes.CallSize.{CallSize}
use Rattle.f2_call_size.proofs.Called.{file_off_root, grown_size, moved_size, not_below, removed_size, renamed_size, shrunk_size}
use Rattle.f2_call_size.proofs.Ends.{row_of}
use Rattle.f2_call_size.proofs.InPlace.{nobody}
use Rattle.f2_call_size.proofs.Joined.{names_at}

module _ (known : Known) (limits : Limits) (most : ℕ) (tree : Rows) (good : IsGoodTree most tree) (are : IsShapeOf known.shapes tree) (ino : ℕ) where
  module _ (path : List (List ℕ)) (shape : Shape) (at : IsShapeAt tree path (Some shape)) where
    abbrev row : Row
    row = at.0

    there : map.get tree row.ino ≡ Some row
    there = (walk_ends most tree good path row at.1).there

    is_file : row_passes (λ (r : Row). is_directory r.kind) (walk tree path) ≡ false → row.kind ≡ Regular
    is_file h = regular row.kind (sym (ap (row_passes (λ (r : Row). is_directory r.kind)) at.1) ∙ h)

    pub written : (pieces : List Piece) → Passed limits tree (Write path pieces) → (more : Both) → ((one : Row) → IsShape shape one → one.kind ≡ Regular → IsMore (record one { pages = put_pieces one.pages pieces }) one more) → IsSizeOf tree (effect tree (Write path pieces) ino) (added more)
    written pieces pass more is =
        let kind = is_file pass.file in
        subst (λ o. IsSizeOf tree (on_row tree o (λ (r : Row). map.insert tree r.ino (record r { size = raised_size r.size pieces; pages = put_pieces r.pages pieces }))) (added more)) (sym at.1)
        (grown_size known most tree good are row there kind (raised_size row.size pieces) (put_pieces row.pages pieces) more (is row at.2 kind))

    pub truncated : (size : ℕ) → Passed limits tree (Truncate path size) → (less : Both) → ((one : Row) → IsShape shape one → one.kind ≡ Regular → IsMore one (record one { pages = cut_pages one.pages size }) less) → IsSizeOf tree (effect tree (Truncate path size) ino) (gone less)
    truncated size pass less is =
        let kind = is_file pass.file in
        subst (λ o. IsSizeOf tree (on_row tree o (λ (r : Row). map.insert tree r.ino (record r { size = size; pages = cut_pages r.pages size }))) (gone less)) (sym at.1)
        (shrunk_size known most tree good are row there kind size (cut_pages row.pages size) less (is row at.2 kind))

    named_row : (names : CallSize) → ChangesNames known shape.parent (Some shape.name) None names → ChangesNames known row.parent (Some row.name) None names
    named_row names change = subst (λ n. ChangesNames known row.parent (Some n) None names) at.2.name (subst (λ p. ChangesNames known p (Some shape.name) None names) at.2.parent change)

    removed : (off : row.ino ≢ ROOT) → (row.kind ≡ Directory → names_at tree row.ino ≡ set.empty) → (own : Both) → ((one : Row) → IsShape shape one → own ≡ size_alone one) → (names : CallSize) → ChangesNames known shape.parent (Some shape.name) None names
        → IsSizeOf tree (on_row tree (walk tree path) (λ (r : Row). map.remove tree r.ino)) (together (gone own) names)
    removed off empty own is names change =
        subst (λ o. IsSizeOf tree (on_row tree o (λ (r : Row). map.remove tree r.ino)) (together (gone own) names)) (sym at.1)
        (removed_size known most tree good are row there off empty own (is row at.2) names (named_row names change))

    pub unlinked : Passed limits tree (Unlink path) → (own : Both) → ((one : Row) → IsShape shape one → own ≡ size_alone one) → (names : CallSize) → ChangesNames known shape.parent (Some shape.name) None names → IsSizeOf tree (effect tree (Unlink path) ino) (together (gone own) names)
    unlinked pass own is names change =
        let kind = is_file pass.file in
        removed (file_off_root known most tree good are row there kind) (λ d. absurd (kinds_differ (sym kind ∙ d))) own is names change

    inside : (other : Row) → other.ino ≢ ROOT → other.parent ≡ row.ino → is_in row.ino other ≡ true
    inside other off parent =
        ap (λ b. list_any (λ (place : ℕ × List ℕ). place.0 == row.ino) (if b then [] else ((other.parent, other.name) ∷ []))) (ne_eqb other.ino ROOT off)
        ∙ ap (λ b. b || false) (eq-eqb other.parent row.ino parent)

    pub emptied : Passed limits tree (Rmdir path) → (own : Both) → ((one : Row) → IsShape shape one → own ≡ size_alone one) → (names : CallSize) → ChangesNames known shape.parent (Some shape.name) None names → IsSizeOf tree (effect tree (Rmdir path) ino) (together (gone own) names)
    emptied pass own is names change =
        let off = path_off_root most tree good path row at.1 (either_false _ (is_root_path path) pass.good_name).1 in
        let none : list_any (is_in row.ino) (map.values tree) ≡ false = sym (ap (row_passes (λ (r : Row). list_any (is_in r.ino) (map.values tree))) at.1) ∙ pass.empty in
        removed off (λ _. nobody tree row.ino (λ k other h out parent. true≢false (sym (inside other out parent) ∙ no_value tree (is_in row.ino) k other none h))) own is names change

  module _ (from to : List (List ℕ)) (pass : Passed limits tree (Rename from to)) (shape : Shape) (at : IsShapeAt tree from (Some shape)) (directory : ℕ) (up_at : IsInoAt tree (parent_path to) (Some directory)) where
    off_root : at.0.ino ≢ ROOT
    off_root = (let names = either_false _ (goes_below to from) pass.good_name in let roots = either_false _ (is_root_path from) names.0 in path_off_root most tree good from at.0 at.1 roots.1)

    row_there : map.get tree at.0.ino ≡ Some at.0
    row_there = (walk_ends most tree good from at.0 at.1).there

    comes_to : (size : CallSize) → ((up : Row) → map.get tree up.ino ≡ Some up → up.kind ≡ Directory → up.ino ≢ at.0.ino → directory ≡ up.ino → IsSizeOf tree (map.insert tree at.0.ino (record at.0 { parent = up.ino; name = last_name to })) size) → IsSizeOf tree (effect tree (Rename from to) ino) size
    comes_to size told =
        let apart = (either_false _ (goes_below to from) pass.good_name).1 in
        let walks = none_first (refusal_of (walk tree from)) _ pass.walks in
        let parent = none_first (refusal_of (walk_parent tree to)) _ walks.1 in
        let up = directory_ok (walk tree (parent_path to)) parent.0 in
        let some = not_the_root most tree good to pass.free_name in
        let same : directory ≡ up.0.ino = sym up_at.2 ∙ ap (λ (r : Row). r.ino) (row_of up_at.0 up.0 (walk tree (parent_path to)) up_at.1 up.1) in
        let outside = not_below known most tree good are from to at.0 up.0 at.1 up.1 some apart in
        subst (λ o. IsSizeOf tree (on_row tree o (λ (row : Row). on_row tree (walk_parent tree to) (λ one. map.insert tree row.ino (record row { parent = one.ino; name = last_name to })))) size) (sym at.1)
        (subst (λ o. IsSizeOf tree (on_row tree (to_directory o) (λ one. map.insert tree at.0.ino (record at.0 { parent = one.ino; name = last_name to }))) size) (sym up.1)
        (subst (λ k. IsSizeOf tree (on_row tree (if is_directory k then Ok up.0 else Err NotDir) (λ one. map.insert tree at.0.ino (record at.0 { parent = one.ino; name = last_name to }))) size) (sym up.2)
        (told up.0 (walk_ends most tree good (parent_path to) up.0 up.1).there up.2 outside same)))

    pub renamed : directory ≡ shape.parent → (size : CallSize) → ChangesNames known directory (Some shape.name) (Some (last_name to)) size → IsSizeOf tree (effect tree (Rename from to) ino) size
    renamed here size change = comes_to size (λ up above kind outside same.
        renamed_size known most tree good are at.0 row_there off_root up above kind outside (last_name to) (sym same ∙ here ∙ at.2.parent) size
        (subst (λ n. ChangesNames known up.ino (Some n) (Some (last_name to)) size) at.2.name (subst (λ d. ChangesNames known d (Some shape.name) (Some (last_name to)) size) same change)))

    pub moved : directory ≢ shape.parent → (left come : CallSize) → ChangesNames known shape.parent (Some shape.name) None left → ChangesNames known directory None (Some (last_name to)) come → IsSizeOf tree (effect tree (Rename from to) ino) (together left come)
    moved apart left come leaves arrives = comes_to (together left come) (λ up above kind outside same.
        moved_size known most tree good are at.0 row_there off_root up above kind outside (last_name to) (λ e. apart (same ∙ e ∙ sym at.2.parent)) left come
        (named_row from shape at left leaves) (subst (λ d. ChangesNames known d None (Some (last_name to)) come) same arrives))
