-- A tree stays good when a row changes in its place, comes to a new one, or goes.
use Rattle.std.proofs.Common.{◌≡◌, ◌≢◌, ◌⊎◌, inl, inr, ℕ, zero, suc, ◌≤◌, true, false, IsTrue, refl, sym, ap, subst, ◌∙◌}
use Rattle.std.specs.Prelude.{Some}
use Rattle.std.specs.FinMap as map
use Rattle.std.proofs.lemmas.Bool.Decides.{eqb_tells}
use Rattle.std.proofs.Math.Dec.{eqb}
use Rattle.f2_model.specs.Names.{is_good_name}
use Rattle.f2_model.specs.Tree.{Rows, ROOT, IsGoodTree, IsAtDepth, HasGoodPages, most_depth}
use Rattle.f2_model.specs.declared.rows.Row.{Row}
use Rattle.f2_model.specs.declared.rows.Kind.TheVariants.{Directory}
use Rattle.f2_laws.proofs.Maps.{get_put, get_put-other, get_taken, get_taken-other}
use Rattle.f2_laws.proofs.Walks.{some_same, some_none}

-- a number is another one or it isn't
pub same_or_other : (a b : ℕ) → (a ≡ b) ⊎ (a ≢ b)
same_or_other a b = by_test (eqb_tells a b)
  where
    by_test : ((eqb a b ≡ true) × (a ≡ b)) ⊎ ((eqb a b ≡ false) × (a ≢ b)) → (a ≡ b) ⊎ (a ≢ b)
    by_test (inl same) = inl same.1
    by_test (inr other) = inr other.1

-- a depth stays in a tree in which each row that counts keeps its parent, which counts too
pub depth_kept : (tree after : Rows) (Counts : ℕ → Type 0) →
    ((ino : ℕ) (row : Row) → Counts ino → ino ≢ ROOT → map.get tree ino ≡ Some row → Counts row.parent × ((now : Row) × (map.get after ino ≡ Some now) × (now.parent ≡ row.parent))) →
    (depth ino : ℕ) → Counts ino → IsAtDepth tree depth ino → IsAtDepth after depth ino
depth_kept tree after Counts keeps zero ino counts h = h
depth_kept tree after Counts keeps (suc depth) ino counts h =
    let kept = keeps ino h.1.0 counts h.0 h.1.1 in
    (h.0, (kept.1.0, kept.1.1, subst (IsAtDepth after depth) (sym kept.1.2) (depth_kept tree after Counts keeps depth h.1.0.parent kept.0 h.1.2)))

-- what a map with a row put holds: that row, or what it held before at another ino
pub put_or_other : (tree : Rows) (put : Row) (ino : ℕ) (row : Row) → map.get (map.insert tree put.ino put) ino ≡ Some row → ((ino ≡ put.ino) × (row ≡ put)) ⊎ ((ino ≢ put.ino) × (map.get tree ino ≡ Some row))
put_or_other tree put ino row h = by_ino (same_or_other ino put.ino)
  where
    by_ino : (ino ≡ put.ino) ⊎ (ino ≢ put.ino) → ((ino ≡ put.ino) × (row ≡ put)) ⊎ ((ino ≢ put.ino) × (map.get tree ino ≡ Some row))
    by_ino (inl same) = inl (same, some_same (sym h ∙ ap (λ i. map.get (map.insert tree put.ino put) i) same ∙ get_put tree put.ino put))
    by_ino (inr other) = inr (other, sym (get_put-other tree put.ino put ino other) ∙ h)

-- two rows with the same number, kind and place
pub record IsAlike (one other : Row) : Type 0 where
  pub ino : one.ino ≡ other.ino
  pub kind : one.kind ≡ other.kind
  pub parent : one.parent ≡ other.parent
  pub name : one.name ≡ other.name

module _ (most : ℕ) (tree : Rows) (good : IsGoodTree most tree) where
  -- a row changes in its place
  module _ (put old : Row) (old_there : map.get tree put.ino ≡ Some old) (old_alike : IsAlike put old) (put_pages : HasGoodPages most put) where
    -- the row that a row was, in the same place
    record Was (ino : ℕ) (row : Row) : Type 0 where
      before : Row
      there : map.get tree ino ≡ Some before
      alike : IsAlike row before
      pages : HasGoodPages most row

    was : (ino : ℕ) (row : Row) → map.get (map.insert tree put.ino put) ino ≡ Some row → Was ino row
    was ino row h = by_place (put_or_other tree put ino row h)
      where
        by_place : ((ino ≡ put.ino) × (row ≡ put)) ⊎ ((ino ≢ put.ino) × (map.get tree ino ≡ Some row)) → Was ino row
        by_place (inl same) = record {
          before = old;
          there = ap (λ i. map.get tree i) same.0 ∙ old_there;
          alike = subst (λ r. IsAlike r old) (sym same.1) old_alike;
          pages = subst (HasGoodPages most) (sym same.1) put_pages;
        }
        by_place (inr other) = record { before = row; there = other.1; alike = record { ino = refl; kind = refl; parent = refl; name = refl }; pages = good.pages ino row other.1 }

    now : (ino : ℕ) (row : Row) → map.get tree ino ≡ Some row → (now : Row) × (map.get (map.insert tree put.ino put) ino ≡ Some now) × IsAlike now row
    now ino row h = by_ino (same_or_other ino put.ino)
      where
        by_ino : (ino ≡ put.ino) ⊎ (ino ≢ put.ino) → (now : Row) × (map.get (map.insert tree put.ino put) ino ≡ Some now) × IsAlike now row
        by_ino (inl same) =
            let row_is : old ≡ row = some_same (sym old_there ∙ ap (λ i. map.get tree i) (sym same) ∙ h) in
            (put, ap (λ i. map.get (map.insert tree put.ino put) i) same ∙ get_put tree put.ino put, subst (IsAlike put) row_is old_alike)
        by_ino (inr other) = (row, get_put-other tree put.ino put ino other ∙ h, record { ino = refl; kind = refl; parent = refl; name = refl })

    pub good_changed : IsGoodTree most (map.insert tree put.ino put)
    good_changed = record {
      root =
          (let n = now ROOT good.root.0 good.root.1 in
          let r = good.root.2 in
          (n.0, n.1, record { ino = n.2.ino ∙ r.ino; kind = n.2.kind ∙ r.kind; parent = n.2.parent ∙ r.parent; name = n.2.name ∙ r.name }));
      keyed = λ ino row h. let w = was ino row h in w.alike.ino ∙ good.keyed ino w.before w.there;
      parents = λ ino row h.
          (let w = was ino row h in
          let up = good.parents ino w.before w.there in
          let n = now w.before.parent up.0 up.1 in
          (n.0, ap (λ i. map.get (map.insert tree put.ino put) i) w.alike.parent ∙ n.1, n.2.kind ∙ up.2));
      names = λ ino row h other. let w = was ino row h in subst (λ name. IsTrue (is_good_name name)) (sym w.alike.name) (good.names ino w.before w.there other);
      apart = λ i j a b p q not_root root_not parent name.
          (let v = was i a p in
          let w = was j b q in
          good.apart i j v.before w.before v.there w.there not_root root_not (sym v.alike.parent ∙ parent ∙ w.alike.parent) (sym v.alike.name ∙ name ∙ w.alike.name));
      reached = λ ino row h.
          (let w = was ino row h in
          let r = good.reached ino w.before w.there in
          (r.0, subst (λ kind. r.0 ≤ most_depth kind) (sym w.alike.kind) r.1, depth_kept tree _ (λ _. Unit {0}) (λ i before _ _ there. (tt, (let n = now i before there in (n.0, n.1, n.2.parent)))) r.0 ino tt r.2));
      pages = λ ino row h. (was ino row h).pages;
    }

  -- what a row needs to come to a new place: a directory to stand in, other than itself, and a good name there that is free
  pub record Fits (put : Row) : Type 0 where
    pub not_root : put.ino ≢ ROOT
    pub up : (row : Row) × (map.get tree put.parent ≡ Some row) × (row.kind ≡ Directory)
    pub up_other : put.parent ≢ put.ino
    pub kind : (old : Row) → map.get tree put.ino ≡ Some old → old.kind ≡ put.kind
    pub name : IsTrue (is_good_name put.name)
    pub free : (ino : ℕ) (row : Row) → map.get tree ino ≡ Some row → ino ≢ ROOT → row.parent ≡ put.parent → row.name ≡ put.name → ino ≡ put.ino
    pub pages : HasGoodPages most put

  module _ (put : Row) (fits : Fits put) (reached : (ino : ℕ) (row : Row) → map.get (map.insert tree put.ino put) ino ≡ Some row → (depth : ℕ) × (depth ≤ most_depth row.kind) × IsAtDepth (map.insert tree put.ino put) depth ino) where
    -- a directory of the tree stays one
    directory_now : (ino : ℕ) (row : Row) → map.get tree ino ≡ Some row → row.kind ≡ Directory → (up : Row) × (map.get (map.insert tree put.ino put) ino ≡ Some up) × (up.kind ≡ Directory)
    directory_now ino row h is = by_ino (same_or_other ino put.ino)
      where
        by_ino : (ino ≡ put.ino) ⊎ (ino ≢ put.ino) → (up : Row) × (map.get (map.insert tree put.ino put) ino ≡ Some up) × (up.kind ≡ Directory)
        by_ino (inl same) = (put, ap (λ i. map.get (map.insert tree put.ino put) i) same ∙ get_put tree put.ino put, sym (fits.kind row (ap (λ i. map.get tree i) (sym same) ∙ h)) ∙ is)
        by_ino (inr other) = (row, get_put-other tree put.ino put ino other ∙ h, is)

    keyed : (ino : ℕ) (row : Row) → ((ino ≡ put.ino) × (row ≡ put)) ⊎ ((ino ≢ put.ino) × (map.get tree ino ≡ Some row)) → row.ino ≡ ino
    keyed ino row (inl same) = ap (λ (r : Row). r.ino) same.1 ∙ sym same.0
    keyed ino row (inr other) = good.keyed ino row other.1

    parents : (ino : ℕ) (row : Row) → ((ino ≡ put.ino) × (row ≡ put)) ⊎ ((ino ≢ put.ino) × (map.get tree ino ≡ Some row)) → (up : Row) × (map.get (map.insert tree put.ino put) row.parent ≡ Some up) × (up.kind ≡ Directory)
    parents ino row (inl same) = (fits.up.0, ap (λ (r : Row). map.get (map.insert tree put.ino put) r.parent) same.1 ∙ get_put-other tree put.ino put put.parent fits.up_other ∙ fits.up.1, fits.up.2)
    parents ino row (inr other) = let up = good.parents ino row other.1 in directory_now row.parent up.0 up.1 up.2

    names : (ino : ℕ) (row : Row) → ((ino ≡ put.ino) × (row ≡ put)) ⊎ ((ino ≢ put.ino) × (map.get tree ino ≡ Some row)) → ino ≢ ROOT → IsTrue (is_good_name row.name)
    names ino row (inl same) not_root = subst (λ (r : Row). IsTrue (is_good_name r.name)) (sym same.1) fits.name
    names ino row (inr other) not_root = good.names ino row other.1 not_root

    apart : (i j : ℕ) (a b : Row) → ((i ≡ put.ino) × (a ≡ put)) ⊎ ((i ≢ put.ino) × (map.get tree i ≡ Some a)) → ((j ≡ put.ino) × (b ≡ put)) ⊎ ((j ≢ put.ino) × (map.get tree j ≡ Some b)) → i ≢ ROOT → j ≢ ROOT → a.parent ≡ b.parent → a.name ≡ b.name → i ≡ j
    apart i j a b (inl p) (inl q) not_root root_not parent name = p.0 ∙ sym q.0
    apart i j a b (inl p) (inr q) not_root root_not parent name = p.0 ∙ sym (fits.free j b q.1 root_not (sym parent ∙ ap (λ (r : Row). r.parent) p.1) (sym name ∙ ap (λ (r : Row). r.name) p.1))
    apart i j a b (inr p) (inl q) not_root root_not parent name = fits.free i a p.1 not_root (parent ∙ ap (λ (r : Row). r.parent) q.1) (name ∙ ap (λ (r : Row). r.name) q.1) ∙ sym q.0
    apart i j a b (inr p) (inr q) not_root root_not parent name = good.apart i j a b p.1 q.1 not_root root_not parent name

    pages : (ino : ℕ) (row : Row) → ((ino ≡ put.ino) × (row ≡ put)) ⊎ ((ino ≢ put.ino) × (map.get tree ino ≡ Some row)) → HasGoodPages most row
    pages ino row (inl same) = subst (HasGoodPages most) (sym same.1) fits.pages
    pages ino row (inr other) = good.pages ino row other.1

    pub good_placed : IsGoodTree most (map.insert tree put.ino put)
    good_placed = record {
      root = (good.root.0, get_put-other tree put.ino put ROOT (λ same. fits.not_root (sym same)) ∙ good.root.1, good.root.2);
      keyed = λ ino row h. keyed ino row (put_or_other tree put ino row h);
      parents = λ ino row h. parents ino row (put_or_other tree put ino row h);
      names = λ ino row h. names ino row (put_or_other tree put ino row h);
      apart = λ i j a b p q. apart i j a b (put_or_other tree put i a p) (put_or_other tree put j b q);
      reached = reached;
      pages = λ ino row h. pages ino row (put_or_other tree put ino row h);
    }

  -- a row that no row stands in goes
  module _ (gone : ℕ) (not_root : gone ≢ ROOT) (no_child : (ino : ℕ) (row : Row) → map.get tree ino ≡ Some row → row.parent ≢ gone) where
    stays : (ino : ℕ) (row : Row) → ino ≢ gone → map.get tree ino ≡ Some row → map.get (map.remove tree gone) ino ≡ Some row
    stays ino row other h = get_taken-other tree gone ino other ∙ h

    stayed : (ino : ℕ) (row : Row) → map.get (map.remove tree gone) ino ≡ Some row → (ino ≢ gone) × (map.get tree ino ≡ Some row)
    stayed ino row h = by_ino (same_or_other ino gone)
      where
        by_ino : (ino ≡ gone) ⊎ (ino ≢ gone) → (ino ≢ gone) × (map.get tree ino ≡ Some row)
        by_ino (inl same) = absurd (some_none (sym h ∙ ap (λ i. map.get (map.remove tree gone) i) same ∙ get_taken tree gone))
        by_ino (inr other) = (other, sym (get_taken-other tree gone ino other) ∙ h)

    pub good_without : IsGoodTree most (map.remove tree gone)
    good_without = record {
      root = (good.root.0, stays ROOT good.root.0 (λ same. not_root (sym same)) good.root.1, good.root.2);
      keyed = λ ino row h. good.keyed ino row (stayed ino row h).1;
      parents = λ ino row h.
          (let was = (stayed ino row h).1 in
          let up = good.parents ino row was in
          (up.0, stays row.parent up.0 (no_child ino row was) up.1, up.2));
      names = λ ino row h. good.names ino row (stayed ino row h).1;
      apart = λ i j a b p q. good.apart i j a b (stayed i a p).1 (stayed j b q).1;
      reached = λ ino row h.
          (let was = stayed ino row h in
          let r = good.reached ino row was.1 in
          (r.0, r.1, depth_kept tree _ (λ i. i ≢ gone) (λ i before counts _ there. (no_child i before there, (before, stays i before counts there, refl))) r.0 ino was.0 r.2));
      pages = λ ino row h. good.pages ino row (stayed ino row h).1;
    }
