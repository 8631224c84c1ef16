-- What a call that changes a file's size and pages leaves.
use Rattle.std.proofs.Common.{◌≡◌, ◌≢◌, ◌⊎◌, inl, inr, ℕ, List, refl, sym, ap, subst, ◌∙◌}
use Rattle.std.specs.Prelude.{Some, Ok}
use Rattle.std.specs.List.{flat_map}
use Rattle.std.specs.FinMap as map
use Rattle.f2_model.specs.Content.{PageMap, pages_of_piece, put_pieces, raised_size}
use Rattle.f2_model.specs.Tree.{Rows, ROOT, IsGoodTree, walk}
use Rattle.f2_model.specs.Call.{on_row}
use Rattle.f2_model.specs.State.{Pairs, directs_of, dirtied, from_both_rows, removed, touched, with_pairs}
use Rattle.f2_model.specs.declared.rows.Row.{Row}
use Rattle.f2_model.specs.declared.rows.Kind.TheVariants.{Directory}
use Rattle.f2_model.specs.declared.requests.Piece.{Piece}
use Rattle.f2_model.specs.declared.requests.Request.TheVariants.{Write}
use Rattle.f2_laws.proofs.Maps.{get_put, get_put-other}
use Rattle.f2_laws.proofs.Places.{same_or_other, put_or_other}
use Rattle.f2_laws.proofs.Walks.{some_same, walk_ends}
use Rattle.f2_files.specs.Known.{Known, IsKnownOf, Follows}
use Rattle.f2_files.specs.Led.{Dirs, Place, led, BindsNames}
use Rattle.f2_files.specs.Shape.{Shapes, IsShape, IsShapeOf, with_all_pages}
use Rattle.f2_files.specs.declared.shapes.Shape.{Shape}
use Rattle.f2_files.proofs.Alike.{shape_there, put_alike}
use Rattle.f2_files.proofs.Creating.{at_place}
use Rattle.f2_files.proofs.Leads.{IsRooted, leads_rooted, walk_there}
use Rattle.f2_files.proofs.PageMaps.{pieces_alike}
use Rattle.f2_files.proofs.Removing.{row_led}
use Rattle.f2_files.proofs.Settling.{binds_changed}

-- a tree with a row changed in its size and pages has its root
rooted_changed : (most : ℕ) (tree : Rows) → IsGoodTree most tree → (one : Row) → map.get tree one.ino ≡ Some one → (size : ℕ) (pages : PageMap) → IsRooted (map.insert tree one.ino (record one { size = size; pages = pages }))
rooted_changed most tree good one there size pages = record {
  keyed = λ ino row h. keyed ino row (put_or_other tree (record one { size = size; pages = pages }) ino row h);
  root = root (same_or_other ROOT one.ino);
}
  where
    keyed : (ino : ℕ) (row : Row) → ((ino ≡ one.ino) × (row ≡ (record one { size = size; pages = pages }))) ⊎ ((ino ≢ one.ino) × (map.get tree ino ≡ Some row)) → row.ino ≡ ino
    keyed ino row (inl same) = ap (λ (r : Row). r.ino) same.1 ∙ sym same.0
    keyed ino row (inr other) = good.keyed ino row other.1

    root : (ROOT ≡ one.ino) ⊎ (ROOT ≢ one.ino) → (row : Row) × (map.get (map.insert tree one.ino (record one { size = size; pages = pages })) ROOT ≡ Some row) × (row.ino ≡ ROOT) × (row.kind ≡ Directory)
    root (inl same) =
        let is : one ≡ good.root.0 = some_same (sym there ∙ ap (λ i. map.get tree i) (sym same) ∙ good.root.1) in
        (record one { size = size; pages = pages }, ap (λ i. map.get (map.insert tree one.ino (record one { size = size; pages = pages })) i) same ∙ get_put tree one.ino (record one { size = size; pages = pages }), sym same, ap (λ (r : Row). r.kind) is ∙ good.root.2.kind)
    root (inr other) = (good.root.0, get_put-other tree one.ino (record one { size = size; pages = pages }) ROOT other ∙ good.root.1, good.root.2.ino, good.root.2.kind)

-- the row at the end of a walk, its shape, and where the same walk leads once the row is changed
pub record Changes (tree : Rows) (path : List (List ℕ)) (place : Place) (row : Shape) (size : Row → ℕ) (pages : Row → PageMap) : Type 0 where
  pub one : Row
  pub leads : walk tree path ≡ Ok one
  pub own : one.ino ≡ place.0
  pub alike : IsShape row one
  pub now : Row
  pub leads_now : walk (map.insert tree one.ino (record one { size = size one; pages = pages one })) path ≡ Ok now
  pub now_is : now ≡ (record one { size = size one; pages = pages one })

module _ (shapes : Shapes) (dirs : Dirs) (binds : BindsNames shapes dirs) (path : List (List ℕ)) (place : Place) (led_to : led dirs path ≡ Ok place) (row : Shape) (there : map.get shapes place.0 ≡ Some row) where
  pub changes : (most : ℕ) (tree : Rows) → IsGoodTree most tree → IsShapeOf shapes tree → (size : Row → ℕ) (pages : Row → PageMap) (now : Shape)
      → now.kind ≡ row.kind → now.parent ≡ row.parent → now.name ≡ row.name
      → ((one : Row) → IsShape row one → IsShape now (record one { size = size one; pages = pages one }))
      → Changes tree path place row size pages
  changes most tree good are size pages now kind parent name alike =
      let end = row_led shapes dirs binds most tree good are path place led_to in
      let one : Row = end.0 in
      let ends = walk_ends most tree good path one end.1 in
      let at = shape_there shapes tree are one.ino one ends.there in
      let is : at.0 ≡ row = some_same (sym at.1 ∙ ap (λ i. map.get shapes i) end.2 ∙ there) in
      let shape : IsShape row one = subst (λ (s : Shape). IsShape s one) is at.2 in
      let put : Row = record one { size = size one; pages = pages one } in
      let there_one : map.get shapes one.ino ≡ Some row = ap (λ i. map.get shapes i) end.2 ∙ there in
      let after_binds = binds_changed shapes dirs binds one.ino row now there_one (record { kind = kind; parent = parent; name = name }) in
      let after_are = put_alike shapes tree are one.ino now put (alike one shape) in
      let rooted = rooted_changed most tree good one ends.there (size one) (pages one) in
      let led_after = leads_rooted (map.insert tree one.ino put) rooted (map.insert shapes one.ino now) after_are dirs after_binds path in
      let end_after = at_place (walk (map.insert tree one.ino put) path) place (sym led_after ∙ led_to) in
      let still = walk_there (map.insert tree one.ino put) rooted path end_after.0 end_after.1 in
      let same : end_after.0 ≡ put = some_same (sym still ∙ ap (λ i. map.get (map.insert tree one.ino put) i) (end_after.2 ∙ sym end.2) ∙ get_put tree one.ino put) in
      record { one = one; leads = end.1; own = end.2; alike = shape; now = end_after.0; leads_now = end_after.1; now_is = same }

written_alike : (row : Shape) (one : Row) (pieces : List Piece) → IsShape row one → IsShape (record row { size = raised_size row.size pieces; pages = with_all_pages row.pages (flat_map pages_of_piece pieces) }) (record one { size = raised_size one.size pieces; pages = put_pieces one.pages pieces })
written_alike row one pieces is = record {
  ino = is.ino;
  kind = is.kind;
  parent = is.parent;
  name = is.name;
  size = ap (λ n. raised_size n pieces) is.size;
  pages = λ kind q. pieces_alike pieces row.pages one.pages (is.pages kind) q;
}

module _ (k : Known) (dirs : Dirs) (binds : BindsNames k.shapes dirs) (path : List (List ℕ)) (place : Place) (led_to : led dirs path ≡ Ok place) (row : Shape) (there : map.get k.shapes place.0 ≡ Some row) where
  pub write_follows : (pieces : List Piece) → Follows k (record k {
    shapes = map.insert k.shapes place.0 (record row { size = raised_size row.size pieces; pages = with_all_pages row.pages (flat_map pages_of_piece pieces) });
    dirty_pages = with_pairs place.0 k.dirty_pages (flat_map pages_of_piece pieces);
    dirty_nodes = with_pairs place.0 k.dirty_nodes (directs_of (flat_map pages_of_piece pieces));
  }) (Write path pieces) 0
  write_follows pieces most state good known =
      let pages : List ℕ = flat_map pages_of_piece pieces in
      let changed : Shape = record row { size = raised_size row.size pieces; pages = with_all_pages row.pages (flat_map pages_of_piece pieces) } in
      let new : Known = record k { shapes = map.insert k.shapes place.0 changed; dirty_pages = with_pairs place.0 k.dirty_pages pages; dirty_nodes = with_pairs place.0 k.dirty_nodes (directs_of pages) } in
      let ends = changes k.shapes dirs binds path place led_to row there most state.live good known.shapes (λ one. raised_size one.size pieces) (λ one. put_pieces one.pages pieces) changed refl refl refl (λ one is. written_alike row one pieces is) in
      let one : Row = ends.one in
      let after : Rows = map.insert state.live one.ino (record one { size = raised_size one.size pieces; pages = put_pieces one.pages pieces }) in
      subst (λ o. IsKnownOf new (record (from_both_rows state o (walk (on_row state.live o (λ r. map.insert state.live r.ino (record r { size = raised_size r.size pieces; pages = put_pieces r.pages pieces }))) path) (λ was now. dirtied state was now (touched was (Write path pieces)) (removed was (Write path pieces)))) { live = on_row state.live o (λ r. map.insert state.live r.ino (record r { size = raised_size r.size pieces; pages = put_pieces r.pages pieces })) })) (sym ends.leads)
      (subst (λ o. IsKnownOf new (record (from_both_rows state (Ok one) o (λ was now. dirtied state was now (touched was (Write path pieces)) (removed was (Write path pieces)))) { live = after })) (sym ends.leads_now)
      (record {
        shapes = subst (λ i. IsShapeOf (map.insert k.shapes i changed) after) ends.own (put_alike k.shapes state.live known.shapes one.ino changed (record one { size = raised_size one.size pieces; pages = put_pieces one.pages pieces }) (written_alike row one pieces ends.alike));
        dirty_pages = ap (λ (s : Pairs). with_pairs place.0 s pages) known.dirty_pages ∙ ap (λ i. with_pairs i state.dirty_pages pages) (sym ends.own);
        dirty_nodes = ap (λ (s : Pairs). with_pairs place.0 s (directs_of pages)) known.dirty_nodes ∙ ap (λ i. with_pairs i state.dirty_nodes (directs_of pages)) (sym ends.own);
        moved = known.moved;
        shrunk = known.shrunk;
        flights = known.flights;
      }))
