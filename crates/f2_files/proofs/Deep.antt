-- How far directories go down below another one, by the names and by the rows of a tree.
use Rattle.std.proofs.Common.{◌≡◌, ◌≢◌, ℕ, zero, suc, ◌+◌, ◌-◌, ◌≤◌, Bool, true, false, ◌&&◌, List, refl, sym, ap, subst, ◌∙◌, arith, true≢false}
use Rattle.std.specs.Prelude.{Option, Some, None, if◌then◌else◌, ◌==◌}
use Rattle.std.specs.List.{list_any}
use Rattle.std.specs.Ordering.{nat_cmp}
use Rattle.std.specs.Cmp.{nat_cmp_total, both_ways}
use Rattle.std.specs.Cmp.Lexicographic.{slice_cmp, nat_list_cmp_total}
use Rattle.std.specs.FinMap as map
use Rattle.std.specs.FinMap.{nat_cmp-IsAntisymmetric, slice_cmp-IsAntisymmetric}
use Rattle.std.proofs.lemmas.Bool.{eq-eqb, ne_eqb, eqb-true, eqb-false, ltb-true, lt-ltb}
use Rattle.f2_dir.specs.Entries.{Entries}
use Rattle.f2_model.specs.Tree.{Rows, ROOT, MOST_DEPTH, IsGoodTree, IsAtDepth, is_directory}
use Rattle.f2_model.specs.Call.{one_more, steps_up, is_too_deep, puts_too_deep}
use Rattle.f2_model.specs.declared.rows.Row.{Row}
use Rattle.f2_model.specs.declared.rows.Kind.{Kind}
use Rattle.f2_model.specs.declared.rows.Kind.TheVariants.{Regular, Directory}
use Rattle.f2_laws.proofs.Moves.{IsBelow}
use Rattle.f2_laws.proofs.Passed.{both_true}
use Rattle.f2_laws.proofs.Walks.{some_same, some_none}
use Rattle.f2_files.specs.Led.{Dirs, Place, among, bound_in, any_below, reaches, BindsNames}
use Rattle.f2_files.specs.Refused.{goes_deep}
use Rattle.f2_files.specs.Shape.{Shapes, IsShapeOf}
use Rattle.f2_files.proofs.Alike.{shape_there, row_there}
use Rattle.f2_files.proofs.Finding.{value_passes, passes_value}

is_one : (kind : Kind) → is_directory kind ≡ true → kind ≡ Directory
is_one Directory h = refl
is_one Regular h = absurd (true≢false (sym h))

-- names of a directory in which one passes
names_pass : (test : ℕ → Bool) (o : Option Entries) → any_below test o ≡ true → (names : Entries) × (o ≡ Some names) × (list_any (λ (place : Place). is_directory place.1 && test place.0) (map.values names) ≡ true)
names_pass test None h = absurd (true≢false (sym h))
names_pass test (Some names) h = (names, refl, h)

names_have : (name : List ℕ) (place : Place) (o : Option Entries) → among name o ≡ Some place → (names : Entries) × (o ≡ Some names) × (map.get names name ≡ Some place)
names_have name place None h = absurd (some_none (sym h))
names_have name place (Some names) h = (names, refl, h)

-- so many steps lead up from one ino to another
Up : Rows → ℕ → ℕ → ℕ → Type 0
Up tree zero ino top = ino ≡ top
Up tree (suc steps) ino top = (ino ≢ ROOT) × ((row : Row) × (map.get tree ino ≡ Some row) × Up tree steps row.parent top)

up_more : (tree : Rows) (steps ino below : ℕ) (row : Row) → Up tree steps ino below → below ≢ ROOT → map.get tree below ≡ Some row → Up tree (suc steps) ino row.parent
unfolding Up
up_more tree zero ino below row up other there = ((λ root. other (sym up ∙ root)), (row, ap (λ i. map.get tree i) up ∙ there, refl))
up_more tree (suc steps) ino below row up other there = (up.0, (up.1.0, up.1.1, up_more tree steps up.1.0.parent below row up.1.2 other there))

depth_once : (tree : Rows) (one other ino : ℕ) → IsAtDepth tree one ino → IsAtDepth tree other ino → one ≡ other
depth_once tree zero zero ino g h = refl
depth_once tree zero (suc other) ino g h = absurd (h.0 g)
depth_once tree (suc one) zero ino g h = absurd (g.0 h)
depth_once tree (suc one) (suc other) ino g h =
    let same : g.1.0 ≡ h.1.0 = some_same (sym g.1.1 ∙ h.1.1) in
    ap (λ n. suc n) (depth_once tree one other h.1.0.parent (subst (λ (row : Row). IsAtDepth tree one row.parent) same g.1.2) h.1.2)

up_depth : (tree : Rows) (steps ino top depth : ℕ) → Up tree steps ino top → IsAtDepth tree depth top → (deep : ℕ) × (deep ≡ depth + steps) × IsAtDepth tree deep ino
unfolding Up
up_depth tree zero ino top depth up at = (depth, omega arith, subst (IsAtDepth tree depth) (sym up) at)
up_depth tree (suc steps) ino top depth up at =
    let rest = up_depth tree steps up.1.0.parent top depth up.1.2 at in
    (suc rest.0, omega (arith, rest.1), (up.0, (up.1.0, up.1.1, rest.2)))

up_below : (tree : Rows) (steps ino top depth : ℕ) → Up tree steps ino top → IsAtDepth tree depth top → IsBelow tree top steps ino
unfolding Up
up_below tree zero ino top depth up at = up
up_below tree (suc steps) ino top depth up at =
    let deep = up_depth tree (suc steps) ino top depth up at in
    let not_top : ino ≢ top = λ same.
    (let once = depth_once tree deep.0 depth ino deep.2 (subst (IsAtDepth tree depth) (sym same) at) in
    omega (arith, deep.1, once)) in
    (not_top, up.0, (up.1.0, up.1.1, up_below tree steps up.1.0.parent top depth up.1.2 at))

module _ (most : ℕ) (tree : Rows) (good : IsGoodTree most tree) where
  -- steps up to a row are found where there are few enough
  steps_found : (top few steps ino : ℕ) (row : Row) → steps ≤ few → map.get tree ino ≡ Some row → IsBelow tree top steps ino → steps_up tree few top row ≡ Some steps
  steps_found top few zero ino row le there below = at_top few (eq-eqb row.ino top (good.keyed ino row there ∙ below))
    where
      at_top : (few : ℕ) → (row.ino == top) ≡ true → steps_up tree few top row ≡ Some 0
      at_top zero e = ap (λ b. if b then Some 0 else None) e
      at_top (suc few) e = rw e
  steps_found top zero (suc steps) ino row le there below = absurd (omega arith)
  steps_found top (suc few) (suc steps) ino row le there below =
      let same : below.2.0 ≡ row = some_same (sym below.2.1 ∙ there) in
      let up = good.parents ino row there in
      let rest = steps_found top few steps row.parent up.0 (omega arith) up.1 (subst (λ (r : Row). IsBelow tree top steps r.parent) same below.2.2) in
      let not_top : (row.ino == top) ≡ false = ne_eqb row.ino top (λ e. below.0 (sym (good.keyed ino row there) ∙ e)) in
      let next : steps + 1 ≡ suc steps = omega arith in
      rw (not_top, up.1, rest) (ap (λ n. Some n) next)

  -- and only where there are
  below_found : (top few steps : ℕ) (row : Row) → map.get tree row.ino ≡ Some row → steps_up tree few top row ≡ Some steps → IsBelow tree top steps row.ino
  below_found top zero steps row there h = by_top (row.ino == top) refl h
    where
      by_top : (b : Bool) → (row.ino == top) ≡ b → (if b then Some 0 else None) ≡ Some steps → IsBelow tree top steps row.ino
      by_top true is h = let none : 0 ≡ steps = cc in subst (λ n. IsBelow tree top n row.ino) none (eqb-true row.ino top is)
      by_top false is h = absurd (some_none (sym h))
  below_found top (suc few) steps row there h =
      let up = good.parents row.ino row there in
      let own : up.0.ino ≡ row.parent = good.keyed row.parent up.0 up.1 in
      by_top (λ more found. subst (IsBelow tree top more) own (below_found top few more up.0 (ap (λ i. map.get tree i) own ∙ up.1) found)) (row.ino == top) refl h
    where
      above_root : (more : ℕ) → row.ino ≢ top → IsBelow tree top more row.parent → row.ino ≢ ROOT
      above_root more other below root =
          let is_root : row ≡ good.root.0 = some_same (sym there ∙ ap (λ i. map.get tree i) root ∙ good.root.1) in
          let parent : row.parent ≡ ROOT = ap (λ (r : Row). r.parent) is_root ∙ good.root.2.parent in
          by_steps more (subst (IsBelow tree top more) parent below)
        where
          by_steps : (more : ℕ) → IsBelow tree top more ROOT → ⊥
          by_steps zero at = other (root ∙ at)
          by_steps (suc more) at = at.1 refl

      by_one : ((more : ℕ) → IsBelow tree top more row.parent → IsBelow tree top (suc more) row.ino) → (o : Option ℕ) → ((more : ℕ) → o ≡ Some more → IsBelow tree top more row.parent) → one_more o ≡ Some steps → IsBelow tree top steps row.ino
      by_one on None rest h = absurd (some_none (sym h))
      by_one on (Some more) rest h =
          let same : more + 1 ≡ steps = some_same h in
          let next_is : suc more ≡ steps = omega (arith, same) in
          subst (λ n. IsBelow tree top n row.ino) next_is (on more (rest more refl))

      by_top : ((more : ℕ) → steps_up tree few top (good.parents row.ino row there).0 ≡ Some more → IsBelow tree top more row.parent) → (b : Bool) → (row.ino == top) ≡ b → steps_up tree (suc few) top row ≡ Some steps → IsBelow tree top steps row.ino
      by_top rest true is h =
          let none = rw is at h in
          let zero_is : 0 ≡ steps = some_same none in
          subst (λ n. IsBelow tree top n row.ino) zero_is (eqb-true row.ino top is)
      by_top rest false is h =
          let up = good.parents row.ino row there in
          let above : map.get tree row.parent ≡ Some up.0 = up.1 in
          let more = rw (is, above) at h in
          let other : row.ino ≢ top = eqb-false row.ino top is in
          by_one (λ n below. (other, above_root n other below, (row, there, below))) (steps_up tree few top up.0) rest more

  module _ (shapes : Shapes) (are : IsShapeOf shapes tree) (dirs : Dirs) (binds : BindsNames shapes dirs) where
    -- where a directory reaches so many steps down, one stands there
    reached : (steps ino : ℕ) (row : Row) → map.get tree ino ≡ Some row → row.kind ≡ Directory → reaches dirs steps ino ≡ true → (low : ℕ) × (end : Row) × (map.get tree low ≡ Some end) × (end.kind ≡ Directory) × Up tree steps low ino
    unfolding Up
    reached zero ino row there kind h = (ino, row, there, kind, refl)
    reached (suc steps) ino row there kind h =
        let names = names_pass (reaches dirs steps) (map.get dirs ino) h in
        let found = value_passes (slice_cmp nat_cmp) nat_list_cmp_total (slice_cmp-IsAntisymmetric nat_cmp-IsAntisymmetric) names.0 (λ (place : Place). is_directory place.1 && reaches dirs steps place.0) names.2 in
        let name : List ℕ = found.0 in
        let place : Place = found.1 in
        let tests = both_true (is_directory place.1) (reaches dirs steps place.0) found.2 in
        let bound : bound_in dirs ino name ≡ Some place = ap (among name) names.1 ∙ found.3 in
        let at = binds.only ino name place.0 place.1 bound in
        let below = row_there shapes tree are place.0 at.0 at.1 in
        let one : Row = below.0 in
        let one_kind : one.kind ≡ Directory = sym below.2.kind ∙ at.5 ∙ is_one place.1 tests.0 in
        let rest = reached steps place.0 one below.1 one_kind tests.1 in
        let parent : one.parent ≡ ino = sym below.2.parent ∙ at.3 in
        (rest.0, rest.1, rest.2, rest.3, subst (Up tree (suc steps) rest.0) parent (up_more tree steps rest.0 place.0 one rest.4 at.2 below.1))

    child_reaches : (steps ino : ℕ) (row : Row) → map.get tree ino ≡ Some row → ino ≢ ROOT → row.kind ≡ Directory → reaches dirs steps ino ≡ true → reaches dirs (suc steps) row.parent ≡ true
    child_reaches steps ino row there other kind h =
        let at = shape_there shapes tree are ino row there in
        let bound = binds.bound ino at.0 at.1 other in
        let is_bound : bound_in dirs row.parent row.name ≡ Some (ino, Directory) =
        ap (λ d. bound_in dirs d row.name) (sym at.2.parent) ∙ ap (λ n. bound_in dirs at.0.parent n) (sym at.2.name) ∙ bound ∙ ap (λ (k : Kind). Some (ino, k)) (at.2.kind ∙ kind) in
        let names = names_have row.name (ino, Directory) (map.get dirs row.parent) is_bound in
        ap (any_below (reaches dirs steps)) names.1
        ∙ passes_value (slice_cmp nat_cmp) nat_list_cmp_total (slice_cmp-IsAntisymmetric nat_cmp-IsAntisymmetric) names.0 (λ (place : Place). is_directory place.1 && reaches dirs steps place.0) row.name (ino, Directory) names.2 h

    -- a directory so many steps below another makes it reach so far
    below_reaches : (top more steps ino : ℕ) (row : Row) → map.get tree ino ≡ Some row → row.kind ≡ Directory → IsBelow tree top steps ino → reaches dirs more ino ≡ true → (deep : ℕ) × (deep ≡ more + steps) × (reaches dirs deep top ≡ true) × ((one : Row) × (map.get tree top ≡ Some one) × (one.kind ≡ Directory))
    below_reaches top more zero ino row there kind below h = (more, omega arith, subst (λ i. reaches dirs more i ≡ true) below h, (row, ap (λ i. map.get tree i) (sym below) ∙ there, kind))
    below_reaches top more (suc steps) ino row there kind below h =
        let same : below.2.0 ≡ row = some_same (sym below.2.1 ∙ there) in
        let up = good.parents ino row there in
        let rest = below_reaches top (suc more) steps row.parent up.0 up.1 up.2 (subst (λ (r : Row). IsBelow tree top steps r.parent) same below.2.2) (child_reaches more ino row there below.1 kind h) in
        (rest.0, omega (arith, rest.1), rest.2, rest.3)

    less_reaches : (steps ino : ℕ) → reaches dirs (suc steps) ino ≡ true → reaches dirs steps ino ≡ true
    less_reaches zero ino h = refl
    less_reaches (suc steps) ino h =
        let names = names_pass (reaches dirs (suc steps)) (map.get dirs ino) h in
        let found = value_passes (slice_cmp nat_cmp) nat_list_cmp_total (slice_cmp-IsAntisymmetric nat_cmp-IsAntisymmetric) names.0 (λ (place : Place). is_directory place.1 && reaches dirs (suc steps) place.0) names.2 in
        let place : Place = found.1 in
        let tests = both_true (is_directory place.1) (reaches dirs (suc steps) place.0) found.2 in
        let test : (is_directory place.1 && reaches dirs steps place.0) ≡ true = ap (λ b. b && reaches dirs steps place.0) tests.0 ∙ less_reaches steps place.0 tests.1 in
        ap (any_below (reaches dirs steps)) names.1
        ∙ passes_value (slice_cmp nat_cmp) nat_list_cmp_total (slice_cmp-IsAntisymmetric nat_cmp-IsAntisymmetric) names.0 (λ (one : Place). is_directory one.1 && reaches dirs steps one.0) found.0 place found.3 test

    fewer_reaches : (more steps ino : ℕ) → reaches dirs (more + steps) ino ≡ true → reaches dirs steps ino ≡ true
    fewer_reaches zero steps ino h = let none : 0 + steps ≡ steps = omega arith in subst (λ n. reaches dirs n ino ≡ true) none h
    fewer_reaches (suc more) steps ino h =
        let next : suc more + steps ≡ suc (more + steps) = omega arith in
        fewer_reaches more steps ino (less_reaches (more + steps) ino (subst (λ n. reaches dirs n ino ≡ true) next h))

    too_deep : (depth : ℕ) (o : Option ℕ) → is_too_deep depth o ≡ true → (steps : ℕ) × (o ≡ Some steps) × (MOST_DEPTH + 1 ≤ depth + steps)
    too_deep depth None h = absurd (true≢false (sym h))
    too_deep depth (Some steps) h = let less = ltb-true MOST_DEPTH (depth + steps) h in (steps, refl, omega (arith, less))

    -- a row at a place puts a directory too deep exactly where its names do
    pub deep_same : (depth : ℕ) (row : Row) → map.get tree row.ino ≡ Some row → goes_deep dirs depth (row.ino, row.kind) ≡ puts_too_deep tree depth row
    deep_same depth row there = both_ways (goes_deep dirs depth (row.ino, row.kind)) (puts_too_deep tree depth row) down up
      where
        few : (depth steps : ℕ) → steps ≡ 16 - depth → steps ≤ 16
        few depth steps is = omega (arith, is)

        deep : (depth steps : ℕ) → steps ≡ 16 - depth → 15 + 1 ≤ depth + steps
        deep depth steps is = omega (arith, is)

        rest : (depth steps : ℕ) → 16 ≤ depth + steps → (more : ℕ) × (more + (16 - depth) ≡ steps)
        rest depth steps le = (steps - (16 - depth), omega (arith, le))

        down : goes_deep dirs depth (row.ino, row.kind) ≡ true → puts_too_deep tree depth row ≡ true
        down h =
            let tests = both_true (is_directory row.kind) (reaches dirs (MOST_DEPTH + 1 - depth) row.ino) h in
            let end = reached (MOST_DEPTH + 1 - depth) row.ino row there (is_one row.kind tests.0) tests.1 in
            let high = good.reached row.ino row there in
            let below = up_below tree (MOST_DEPTH + 1 - depth) end.0 row.ino high.0 end.4 high.2 in
            let found = steps_found row.ino (MOST_DEPTH + 1) (MOST_DEPTH + 1 - depth) end.0 end.1 (few depth (16 - depth) refl) end.2 below in
            let much : is_too_deep depth (Some (MOST_DEPTH + 1 - depth)) ≡ true = lt-ltb MOST_DEPTH (depth + (MOST_DEPTH + 1 - depth)) (let d = deep depth (16 - depth) refl in omega (arith, d)) in
            passes_value nat_cmp nat_cmp_total nat_cmp-IsAntisymmetric tree (λ (other : Row). is_directory other.kind && is_too_deep depth (steps_up tree (MOST_DEPTH + 1) row.ino other)) end.0 end.1 end.2
            (ap (λ (k : Kind). is_directory k && is_too_deep depth (steps_up tree (MOST_DEPTH + 1) row.ino end.1)) end.3 ∙ ap (is_too_deep depth) found ∙ much)

        up : puts_too_deep tree depth row ≡ true → goes_deep dirs depth (row.ino, row.kind) ≡ true
        up h =
            let found = value_passes nat_cmp nat_cmp_total nat_cmp-IsAntisymmetric tree (λ (other : Row). is_directory other.kind && is_too_deep depth (steps_up tree (MOST_DEPTH + 1) row.ino other)) h in
            let other : Row = found.1 in
            let tests = both_true (is_directory other.kind) (is_too_deep depth (steps_up tree (MOST_DEPTH + 1) row.ino other)) found.2 in
            let steps = too_deep depth (steps_up tree (MOST_DEPTH + 1) row.ino other) tests.1 in
            let keyed : other.ino ≡ found.0 = good.keyed found.0 other found.3 in
            let own : map.get tree other.ino ≡ Some other = ap (λ i. map.get tree i) keyed ∙ found.3 in
            let below = below_found row.ino (MOST_DEPTH + 1) steps.0 other own steps.1 in
            let far = below_reaches row.ino 0 steps.0 other.ino other own (is_one other.kind tests.0) below refl in
            let more = rest depth steps.0 steps.2 in
            let same : more.0 + (MOST_DEPTH + 1 - depth) ≡ far.0 = (let a = more.1 in let b = far.1 in omega (arith, a, b)) in
            let reach = fewer_reaches more.0 (MOST_DEPTH + 1 - depth) row.ino (subst (λ n. reaches dirs n row.ino ≡ true) (sym same) far.2) in
            let kind : row.kind ≡ Directory = ap (λ (r : Row). r.kind) (some_same (sym there ∙ far.3.1)) ∙ far.3.2 in
            ap (λ (k : Kind). is_directory k && reaches dirs (MOST_DEPTH + 1 - depth) row.ino) kind ∙ reach
