-- A file's row comes into a good tree, and one mark more into a proper one.
use Rattle.std.proofs.Common.{◌≡◌, ◌≢◌, ◌⊎◌, inl, inr, ℕ, suc, ◌≤◌, List, [], ◌∷◌, ◌++◌, map as map_list, refl, sym, ap, subst, ◌∙◌, arith}
use Rattle.std.specs.Prelude.{Some}
use Rattle.std.specs.FinMap as map
use Rattle.f2_model.specs.Tree.{Rows, MOST_DEPTH, IsGoodTree, IsAtDepth, most_depth}
use Rattle.f2_model.specs.State.{Mark, rolled}
use Rattle.f2_model.specs.declared.rows.Row.{Row}
use Rattle.f2_model.specs.declared.rows.Kind.TheVariants.{Regular, Directory}
use Rattle.f2_laws.proofs.Maps.{get_put, get_put-other}
use Rattle.f2_laws.proofs.Passed.{kinds_differ}
use Rattle.f2_laws.proofs.Places.{same_or_other, put_or_other, depth_kept, Fits, good_placed}
use Rattle.f2_laws.proofs.RolledRows.{rolled-append}
use Rattle.f2_held.specs.Recovered.{IsOneOf}
use Rattle.f2_held.proofs.Recovering.{recovered_trees_fit}
use Rattle.f2_room_laws.specs.ProperTrees.{IsNumber}
use Rattle.f2_room_laws.specs.Marking.{MayComeIn, RowsComeInWell, MarksComeInWell}

module _ (most : ℕ) (tree : Rows) (row : Row) (good : IsGoodTree most tree) (may : MayComeIn most tree row) where
  abbrev after : Rows
  after = map.insert tree row.ino row

  -- no directory stands at the row's ino
  not_there : (ino : ℕ) (up : Row) → map.get tree ino ≡ Some up → up.kind ≡ Directory → ino ≢ row.ino
  not_there ino up there is same = kinds_differ (sym (may.file up (ap (λ i. map.get tree i) (sym same) ∙ there)) ∙ is)

  kept_depth : (depth ino : ℕ) → ino ≢ row.ino → IsAtDepth tree depth ino → IsAtDepth after depth ino
  kept_depth depth ino other h =
      depth_kept tree after (λ i. i ≢ row.ino) (λ i one counts _ there. (let up = good.parents i one there in (not_there one.parent up.0 up.1 up.2, (one, get_put-other tree row.ino row i counts ∙ there, refl)))) depth ino other h

  reached : (ino : ℕ) (one : Row) → ((ino ≡ row.ino) × (one ≡ row)) ⊎ ((ino ≢ row.ino) × (map.get tree ino ≡ Some one)) → (depth : ℕ) × (depth ≤ most_depth one.kind) × IsAtDepth after depth ino
  reached ino one (inl same) =
      let up = may.up in
      let r = good.reached row.parent up.0 up.1 in
      let high : r.0 ≤ MOST_DEPTH = subst (λ k. r.0 ≤ most_depth k) up.2 r.1 in
      let above = kept_depth r.0 row.parent (not_there row.parent up.0 up.1 up.2) r.2 in (
        suc r.0,
        subst (λ k. suc r.0 ≤ most_depth k) (sym (ap (λ (r : Row). r.kind) same.1 ∙ may.regular)) (deeper r.0 high),
        ((λ root. may.not_root (sym same.0 ∙ root)), (row, ap (λ i. map.get after i) same.0 ∙ get_put tree row.ino row, above)),
      )
    where
      deeper : (n : ℕ) → n ≤ MOST_DEPTH → suc n ≤ most_depth Regular
      deeper n h = omega arith
  reached ino one (inr other) = let r = good.reached ino one other.1 in (r.0, r.1, kept_depth r.0 ino other.0 r.2)

  fits : Fits most tree good row
  fits = record {
    not_root = may.not_root;
    up = may.up;
    up_other = not_there row.parent may.up.0 may.up.1 may.up.2;
    kind = λ old there. may.file old there ∙ sym may.regular;
    name = may.name;
    free = may.free;
    pages = may.pages;
  }

  comes_in : IsGoodTree most after
  comes_in = good_placed most tree good row fits (λ ino one h. reached ino one (put_or_other tree row ino one h))

pub rows_come_in : RowsComeInWell
rows_come_in most tree row good may = comes_in most tree row good may

-- marks of files with a file's more are files'
pub regular_more : (marks : List Mark) (mark : Mark) → ((row : Row) → IsOneOf row (map_list (λ mark. mark.row) marks) → row.kind ≡ Regular) → mark.row.kind ≡ Regular → (row : Row) → IsOneOf row (map_list (λ mark. mark.row) (marks ++ mark ∷ [])) → row.kind ≡ Regular
regular_more [] mark all last row (inl e) = ap (λ (r : Row). r.kind) e ∙ last
regular_more [] mark all last row (inr h) = absurd h
regular_more (m ∷ marks) mark all last row (inl e) = all row (inl e)
regular_more (m ∷ marks) mark all last row (inr h) = regular_more marks mark (λ one h. all one (inr h)) last row h

-- a rolled tree with a mark more has its row at its ino, and the rows that it had at others
pub rolled_more : (base : Rows) (marks : List Mark) (mark : Mark) → rolled base (marks ++ mark ∷ []) ≡ map.insert (rolled base marks) mark.ino mark.row
rolled_more base marks mark = rolled-append base marks (mark ∷ [])

pub marks_come_in : MarksComeInWell
marks_come_in limits base marks mark rows proper regular ino number may room =
    let e = rolled_more base marks mark in
    let good : IsGoodTree limits.size (rolled base (marks ++ mark ∷ [])) =
    subst (IsGoodTree limits.size) (ap (λ i. map.insert (rolled base marks) i mark.row) ino ∙ sym e) (comes_in limits.size (rolled base marks) mark.row proper.good may) in
    let fit = recovered_trees_fit limits.size base (marks ++ mark ∷ []) rows good (regular_more marks mark regular may.regular) room.found in
    record {
      good = good;
      numbers = λ at row there. by_ino at row (ap (λ tree. map.get tree at) (sym e) ∙ there) (same_or_other at mark.ino);
      nodes = omega (arith, fit.nodes, room.nodes);
      data_blocks = omega (arith, fit.data_blocks, room.data_blocks);
    }
  where
    by_ino : (at : ℕ) (row : Row) → map.get (map.insert (rolled base marks) mark.ino mark.row) at ≡ Some row → (at ≡ mark.ino) ⊎ (at ≢ mark.ino) → IsNumber limits at
    by_ino at row there (inl same) = subst (IsNumber limits) (sym same) number
    by_ino at row there (inr other) = proper.numbers at row (sym (get_put-other (rolled base marks) mark.ino mark.row at other) ∙ there)
