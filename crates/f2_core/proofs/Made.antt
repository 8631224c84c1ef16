-- A core that was just made.
use Rattle.std.proofs.Common.{◌≡◌, ◌≢◌, ◌⊎◌, inl, inr, ℕ, ◌+◌, ◌*◌, ◌≤◌, cond, List, [], map as map_list, refl, sym, ap, ◌∙◌, subst, arith, lit≤}
use Rattle.std.specs.Prelude.{Option, Some, None, IfSome, is_some, IsSome}
use Rattle.std.specs.List.{sum_by}
use Rattle.std.specs.Ordering.{nat_cmp}
use Rattle.std.specs.Cmp.{nat_cmp_total}
use Rattle.std.specs.FinMap as map
use Rattle.f2_format.specs.Geometry.{ImageGeometry, IsGeometry, data_third, node_third}
use Rattle.f2_disk.specs.Contents.{Contents, WhereTold}
use Rattle.f2_model.specs.Tree.{ROOT, IsGoodTree, HasGoodPages}
use Rattle.f2_model.specs.Count.{data_of_row, data_of_tree, dentry_blocks}
use Rattle.f2_model.specs.State.{initial}
use Rattle.f2_model.specs.History.{History}
use Rattle.f2_model.specs.declared.rows.Row.{Row}
use Rattle.f2_laws.proofs.Maps.{get_put}
use Rattle.f2_laws.proofs.NewRows.{inserted_sum}
use Rattle.f2_laws.proofs.Places.{put_or_other}
use Rattle.f2_laid.specs.Laid.{root_row, root_alone}
use Rattle.f2_laid.specs.declared.stored.Stored.{Stored}
use Rattle.f2_core.proofs.Empty.{entries-empty}
use Rattle.f2_core.proofs.FlatTrees.{data_third_large}
use Rattle.f2_plain_save.specs.Saves.{IsMade}
use Rattle.f2_flat.specs.Flat.{IsFlat, FILE_SIZE}
use Rattle.f2_flat.specs.Kept.{HasRootFiles}
use Rattle.f2_flat.proofs.Trees.{blocks_few}
use Rattle.f2_core.specs.Seen.{IsHeld, IsIn, new_image}

root_there : map.get root_alone ROOT ≡ Some root_row
root_there = get_put map.empty ROOT root_row

-- the root is the only row
only : (ino : ℕ) (row : Row) → map.get root_alone ino ≡ Some row → (ino ≡ ROOT) × (row ≡ root_row)
only ino row there = by_place (put_or_other map.empty root_row ino row there)
  where
    by_place : ((ino ≡ ROOT) × (row ≡ root_row)) ⊎ ((ino ≢ ROOT) × (map.get (map.empty {R = nat_cmp}) ino ≡ Some row)) → (ino ≡ ROOT) × (row ≡ root_row)
    by_place (inl same) = same
    by_place (inr other) = let none : None ≡ Some row = sym (map.get-empty nat_cmp ino) ∙ other.1 in absurd (cc)

no_page : (page : ℕ) (bytes : List ℕ) → map.get (map.empty {R = nat_cmp}) page ≡ Some bytes → ⊥
no_page page bytes there = let none : None ≡ Some bytes = sym (map.get-empty nat_cmp page) ∙ there in cc

root_pages : HasGoodPages FILE_SIZE root_row
root_pages = record {
  directory = λ _. (refl, refl);
  size = lit≤ tt;
  whole = λ page bytes there. absurd (no_page page bytes there);
  before = λ page bytes there. absurd (no_page page bytes there);
  zeros = λ page at bytes there past. absurd (no_page page bytes there);
}

root_good : IsGoodTree FILE_SIZE root_alone
root_good = record {
  root = (root_row, root_there, record { ino = refl; kind = refl; parent = refl; name = refl });
  keyed = λ ino row there. (let is = only ino row there in ap (λ (r : Row). r.ino) is.1 ∙ sym is.0);
  parents = λ ino row there. (root_row, ap (λ (r : Row). map.get root_alone r.parent) (only ino row there).1 ∙ root_there, refl);
  names = λ ino row there other. absurd (other (only ino row there).0);
  apart = λ i j a b here there other more parents names. absurd (other (only i a here).0);
  reached = λ ino row there. (0, omega arith, (only ino row there).0);
  pages = λ ino row there. subst (HasGoodPages FILE_SIZE) (sym (only ino row there).1) root_pages;
}

length-root : map.len root_alone ≡ 1
length-root =
    map.len-insert nat_cmp_total map.empty ROOT root_row
    ∙ ap (λ o. cond (is_some o) (map.len (map.empty {K = ℕ} {X = Row} {R = nat_cmp})) (map.len (map.empty {K = ℕ} {X = Row} {R = nat_cmp}) + 1)) (map.get-empty nat_cmp ROOT)
    ∙ ap (λ n. n + 1) (map.len-empty nat_cmp Row)

-- it takes at most a data block
root_files : HasRootFiles root_alone
root_files = record {
  good = root_good;
  few = (let one = length-root in omega (arith, one));
  files = λ ino row there other. absurd (other (only ino row there).0);
}

root_data : data_of_tree root_alone ≤ 1
root_data =
    let f = data_of_row (map.values root_alone) in
    let sum : data_of_tree root_alone ≡ dentry_blocks (map.values root_alone) ROOT + sum_by f (map.values (map.empty {K = ℕ} {X = Row} {R = nat_cmp})) =
    inserted_sum map.empty ROOT root_row (map.get-empty nat_cmp ROOT) f in
    let none : sum_by f (map.values (map.empty {K = ℕ} {X = Row} {R = nat_cmp})) ≡ 0 = ap (λ (es : List (ℕ × Row)). sum_by f (map_list (λ e. e.1) es)) entries-empty in
    let few = blocks_few root_alone root_files ROOT in
    let one = length-root in
    omega (arith, sum, none, few, one)

some_room : (third room : ℕ) → 4 ≤ third → 3 * third ≤ room → 1 ≤ room
some_room third room zones large = omega (arith, zones, large)

pub root_flat : (geom : ImageGeometry) → IsGeometry geom → IsFlat geom root_alone
root_flat geom geometry = record {
  good = root_good;
  fits = (let zones = geometry.zones in let one = length-root in omega (arith, zones, one));
  room = (let taken = root_data in let some = some_room (node_third geom) (data_third geom) geometry.zones (data_third_large geom) in omega (arith, taken, some));
  dense = λ ino row there.
      let at : ino ≡ 3 = (only ino row there).0 in
      let one = length-root in
      (omega (arith, at), omega (arith, at, one));
  files = λ ino row there other. absurd (other (only ino row there).0);
}

-- a closed core with an empty history is in the state before the first mount
pub made_state : (geom : ImageGeometry) (told : Option Contents) (history : History) (stored : Stored) → IsGeometry geom → history ≡ record { entries = []; choices = []; spare = 0 } → stored.version ≡ 1
    → IfSome told (λ lists. IsHeld geom lists root_alone stored) → IsIn geom told None history (initial new_image)
made_state geom told history stored geometry none first held =
    subst (λ h. IsIn geom told None h (initial new_image)) (sym none) (record {
      run = record { events = []; happened = (omega arith, refl); entries_left = refl; choices_left = refl };
      mode = refl;
      flights = refl;
      marks = refl;
      acknowledged = refl;
      pending = refl;
      format = refl;
      logged = refl;
      entries = refl;
      flat = root_flat geom geometry;
      older = λ ino row there. tt;
      stored = stored;
      newest = first;
      version = (let is : stored.version ≡ 1 = first in omega (arith, is));
      known = tt;
      held = held;
    })

-- the disk of an image that was just made
pub made_held : (geom : ImageGeometry) (was told : Option Contents) (stored : Stored) → IsSome was → WhereTold was told (IsMade stored) → stored.geometry ≡ geom → IfSome told (λ lists. IsHeld geom lists root_alone stored)
made_held geom None told stored tells made sizes = absurd (cc)
made_held geom (Some before) None stored tells made sizes = tt
made_held geom (Some before) (Some now) stored tells made sizes = record { image = made.0; one = made.1; laid = made.3; sizes = sizes }
