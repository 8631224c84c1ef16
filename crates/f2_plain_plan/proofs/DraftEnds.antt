-- All files have their places.
use Rattle.std.proofs.Common.{◌≡◌, ◌≢◌, ℕ, ◌<◌, ◌≤◌, List, [], ◌∷◌, map as map_list, length, take, get_or, refl, sym, ap, subst, ◌∙◌, arith, Some, None, Option}
use Rattle.std.specs.List.{AllByRecursion, flat_map, list_any, sum_by}
use Rattle.std.specs.FinMap as map
use Rattle.std.specs.FinSet as set
use Rattle.std.specs.FinSet.{contains-from_list}
use Rattle.std.specs.Cmp.{nat_cmp_total}
use Rattle.std.specs.Ordering.{nat_cmp, eq_by_cmp}
use Rattle.std.proofs.lemmas.Bool.{true≢false, or_left}
use Rattle.std.proofs.lemmas.List.Elements.{All-contains, All-from_recursion}
use Rattle.std.proofs.lemmas.List.Sums.{sum_by-cons}
use Rattle.f2_bitset.proofs.Members.{len-contained}
use Rattle.f2_format.specs.Geometry.{ImageGeometry}
use Rattle.f2_format.specs.Offsets.{nodes_over, node_count, nodes_of_page}
use Rattle.f2_held.proofs.Lists.{tied-same}
use Rattle.f2_image.specs.Reached.{AllDiffer}
use Rattle.f2_laid.specs.Laid.{IsStorable, PlaceMap, page_at}
use Rattle.f2_laid.specs.declared.places.Place.{Place}
use Rattle.f2_model.specs.Count.{nodes_of_row, nodes_of_tree, page_numbers}
use Rattle.f2_model.specs.Tree.{Rows}
use Rattle.f2_model.specs.declared.rows.Row.{Row}
use Rattle.f2_plain_plan.specs.Drafts.{IsDraftOf, WritesPages}
use Rattle.f2_plain_plan.specs.Zones.{HasNodes, HasPages}
use Rattle.f2_plain_plan.specs.declared.drafts.Draft.{Draft}
use Rattle.f2_plain_plan.proofs.Differ.{differ-front}
use Rattle.f2_plain_plan.proofs.DraftSteps.{SoFar}
use Rattle.f2_plain_plan.proofs.Values.{numbers_differ, row_at, value_there}
use Rattle.f2_plain_plan.proofs.ZoneRanges.{range_node, range_data}

-- a file has its inode at least
some_node : (pages : List ℕ) → 1 ≤ node_count pages
unfolding nodes_over
some_node pages = let one = len-contained (nodes_over pages) 0 (contains-from_list nat_cmp_total (0 ∷ flat_map nodes_of_page pages) 0 ∙ or_left (eq_by_cmp nat_cmp 0 0) (list_any (eq_by_cmp nat_cmp 0) (flat_map nodes_of_page pages)) (tied-same 0)) in omega (arith, one)

at_least_one : {X : Type 0} (f : X → ℕ) → ((x : X) → 1 ≤ f x) → (xs : List X) → length xs ≤ sum_by f xs
at_least_one f some [] = omega arith
at_least_one f some (x ∷ xs) = let rest = at_least_one f some xs in let here = some x in let sum = sum_by-cons f x xs in omega (arith, rest, here, sum)

-- a tree has no more rows than nodes
pub rows_few : (tree : Rows) → length (map.values tree) ≤ nodes_of_tree tree
rows_few tree = at_least_one (nodes_of_row (map.values tree)) (λ row. some_node (page_numbers row.kind (map.values tree) row)) (map.values tree)

no_some : {X : Type 0} (x : X) → None ≡ Some x → ⊥
no_some x e = cc

-- a row that comes after those with a place has none
pub row_fresh : (geom : ImageGeometry) (tree : Rows) (before draft : Draft) (rows : List Row) (i : ℕ) (row : Row) → IsStorable geom tree → rows ≡ map.values tree → i < length rows → get_or rows i row ≡ row
    → SoFar tree before (take i rows) draft → map.get draft.places row.ino ≡ None
row_fresh geom tree before draft rows i row storable all low is so_far = go (map.get draft.places row.ino) refl
  where
    apart : AllByRecursion (λ (other : Row). other.ino ≢ row.ino) (take i rows)
    apart = subst (λ (r : Row). AllByRecursion (λ (other : Row). other.ino ≢ r.ino) (take i rows)) is
        (differ-front (λ (other : Row). other.ino) rows i row low (subst (λ (l : List Row). AllDiffer (map_list (λ (other : Row). other.ino) l)) (sym all) (numbers_differ (λ (other : Row). other.ino) tree storable.good.keyed)))

    go : (o : Option Place) → map.get draft.places row.ino ≡ o → map.get draft.places row.ino ≡ None
    go None e = e
    go (Some place) e =
        let one = so_far.only row.ino place e in
        absurd (All-contains (λ (other : Row). other.ino ≢ row.ino) (take i rows) one.0 (All-from_recursion (λ (other : Row). other.ino ≢ row.ino) (take i rows) apart) one.1 one.2)

-- once all rows have places, the tree is drafted
pub all_placed : (geom : ImageGeometry) (tree : Rows) (old : PlaceMap) (before draft : Draft) → IsStorable geom tree → HasNodes geom old before.nodes → HasPages geom old before.pages
    → SoFar tree before (map.values tree) draft → IsDraftOf geom tree old draft.places draft.blocks.items
all_placed geom tree old before draft storable nodes pages so_far =
    record {
      placed = record {
        whole = so_far.whole;
        nodes = λ ino place h. range_node geom before.nodes place.at nodes.zone (so_far.nodes ino place h).zone;
        nodes_apart = so_far.nodes_apart;
        pages = λ ino page place h ne. range_data geom before.pages (page_at place page) pages.zone (so_far.pages ino page place h ne).zone;
        pages_apart = so_far.pages_apart;
      };
      apart = record {
        nodes = λ ino other a b h k e. true≢false (sym (nodes.all ino a h) ∙ ap (set.contains before.nodes.members) e ∙ (so_far.nodes other b k).free);
        pages = λ ino page other more a b h k ne e. true≢false (sym (pages.all ino page a h ne) ∙ ap (set.contains before.pages.members) e ∙ (so_far.pages other more b k (λ z. ne (e ∙ z))).free);
      };
      rows = λ ino row h. All-contains (λ (row : Row). WritesPages draft.blocks.items tree row draft.places) (map.values tree) row so_far.rows (value_there tree ino row h);
      only = λ ino place h. let one = so_far.only ino place h in (one.0, subst (λ k. map.get tree k ≡ Some one.0) one.2 (row_at tree one.0 storable.good.keyed one.1));
      files = let a = so_far.files in let b = rows_few tree in let c = storable.nodes in omega (arith, a, b, c);
      pages = let a = so_far.pages_sum in let b = so_far.blocks_len in let c = storable.blocks in omega (arith, a, b, c);
      few = let b = so_far.blocks_len in let c = storable.blocks in omega (arith, b, c);
      within = so_far.within;
      once = so_far.once;
    }
