-- A row that changes in its place keeps the names as they are.
use Rattle.std.proofs.Common.{◌≡◌, ◌≢◌, ◌⊎◌, inl, inr, ℕ, true, true≢false, List, refl, sym, ap, subst, ◌∙◌}
use Rattle.std.specs.Prelude.{Option, Some, None, Result, Ok, Err, OnOk, OnErr, IsSome, is_some}
use Rattle.std.specs.Ordering.{nat_cmp}
use Rattle.std.specs.FinMap as map
use Rattle.f2_model.specs.Tree.{Rows, ROOT, is_directory}
use Rattle.f2_model.specs.declared.rows.Row.{Row}
use Rattle.f2_model.specs.declared.rows.Kind.{Kind}
use Rattle.f2_laws.proofs.Maps.{get_put, get_put-other}
use Rattle.f2_laws.proofs.Places.{same_or_other}
use Rattle.f2_laws.proofs.Walks.{some_same}
use Rattle.f2_files.specs.Led.{Dirs, bound_in, is_directory_there, BindsNames}
use Rattle.f2_files.specs.Shape.{Shapes, IsShape, AreAlike, IsShapeOf, address_in}
use Rattle.f2_files.specs.declared.shapes.Shape.{Shape}
use Rattle.f2_files.proofs.Alike.{row_there}

-- a row in the place of another
pub record StandsFor (now was : Shape) : Type 0 where
  pub kind : now.kind ≡ was.kind
  pub parent : now.parent ≡ was.parent
  pub name : now.name ≡ was.name

module _ (shapes : Shapes) (dirs : Dirs) (binds : BindsNames shapes dirs) where
  pub binds_changed : (ino : ℕ) (row now : Shape) → map.get shapes ino ≡ Some row → StandsFor now row → BindsNames (map.insert shapes ino now) dirs
  binds_changed ino row now there stands = record {
    bound = λ q shape h other. bound q shape h other (same_or_other q ino);
    only = λ directory name q kind h. only directory name q kind (binds.only directory name q kind h) (same_or_other q ino);
    directories = λ q. binds.directories q ∙ kinds q (same_or_other q ino);
  }
    where
      kinds : (q : ℕ) → (q ≡ ino) ⊎ (q ≢ ino) → is_directory_there (map.get shapes q) ≡ is_directory_there (map.get (map.insert shapes ino now) q)
      kinds q (inl same) =
          ap (λ i. is_directory_there (map.get shapes i)) same ∙ ap is_directory_there there ∙ ap is_directory (sym stands.kind)
          ∙ ap is_directory_there (sym (get_put shapes ino now)) ∙ ap (λ i. is_directory_there (map.get (map.insert shapes ino now) i)) (sym same)
      kinds q (inr apart) = ap is_directory_there (sym (get_put-other shapes ino now q apart))

      bound : (q : ℕ) (shape : Shape) → map.get (map.insert shapes ino now) q ≡ Some shape → q ≢ ROOT → (q ≡ ino) ⊎ (q ≢ ino) → bound_in dirs shape.parent shape.name ≡ Some (q, shape.kind)
      bound q shape h other (inl same) =
          let is : now ≡ shape = some_same (sym (get_put shapes ino now) ∙ ap (λ i. map.get (map.insert shapes ino now) i) (sym same) ∙ h) in
          let was = binds.bound q row (ap (λ i. map.get shapes i) same ∙ there) other in
          ap (λ (s : Shape). bound_in dirs s.parent s.name) (sym is)
          ∙ ap (λ d. bound_in dirs d now.name) stands.parent ∙ ap (bound_in dirs row.parent) stands.name
          ∙ was ∙ ap (λ (k : Kind). Some (q, k)) (sym stands.kind ∙ ap (λ (s : Shape). s.kind) is)
      bound q shape h other (inr apart) = binds.bound q shape (sym (get_put-other shapes ino now q apart) ∙ h) other

      only : (directory : ℕ) (name : List ℕ) (q : ℕ) (kind : Kind)
          → (shape : Shape) × (map.get shapes q ≡ Some shape) × (q ≢ ROOT) × (shape.parent ≡ directory) × (shape.name ≡ name) × (shape.kind ≡ kind)
          → (q ≡ ino) ⊎ (q ≢ ino)
          → (shape : Shape) × (map.get (map.insert shapes ino now) q ≡ Some shape) × (q ≢ ROOT) × (shape.parent ≡ directory) × (shape.name ≡ name) × (shape.kind ≡ kind)
      only directory name q kind old (inl same) =
          let is : old.0 ≡ row = some_same (sym old.1 ∙ ap (λ i. map.get shapes i) same ∙ there) in (
            now,
            ap (λ i. map.get (map.insert shapes ino now) i) same ∙ get_put shapes ino now,
            old.2,
            stands.parent ∙ ap (λ (s : Shape). s.parent) (sym is) ∙ old.3,
            stands.name ∙ ap (λ (s : Shape). s.name) (sym is) ∙ old.4,
            stands.kind ∙ ap (λ (s : Shape). s.kind) (sym is) ∙ old.5,
          )
      only directory name q kind old (inr apart) = (old.0, get_put-other shapes ino now q apart ∙ old.1, old.2, old.3, old.4, old.5)

  -- the same of a change that was made where the row is there, or wasn't made
  pub binds_result : {A E : Type 0} (r : Result A E) (after : Shapes) (ino : ℕ) (change : Shape → Shape) → ((row : Shape) → StandsFor (change row) row)
      → OnOk r ((row : Shape) → map.get shapes ino ≡ Some row → after ≡ map.insert shapes ino (change row)) → (map.get shapes ino ≡ None → after ≡ shapes) → OnErr r (after ≡ shapes) → BindsNames after dirs
  binds_result (Err e) after ino change stands made missing unmade = subst (λ s. BindsNames s dirs) (sym unmade) binds
  binds_result (Ok a) after ino change stands made missing unmade = by_row (map.get shapes ino) refl
    where
      by_row : (o : Option Shape) → map.get shapes ino ≡ o → BindsNames after dirs
      by_row None is = subst (λ s. BindsNames s dirs) (sym (missing is)) binds
      by_row (Some row) is = subst (λ s. BindsNames s dirs) (sym (made row is)) (binds_changed ino row (change row) is (stands row))

-- a tree has the shape as before, where the row that changed has
pub still_alike : (shapes : Shapes) (tree : Rows) → IsShapeOf shapes tree → (ino : ℕ) (was now : Shape) → map.get shapes ino ≡ Some was → ((row : Row) → IsShape was row → IsShape now row) → IsShapeOf (map.insert shapes ino now) tree
still_alike shapes tree are ino was now there keeps = record { each = λ q. by_ino q (same_or_other q ino) }
  where
    by_ino : (q : ℕ) → (q ≡ ino) ⊎ (q ≢ ino) → AreAlike (map.get (map.insert shapes ino now) q) (map.get tree q)
    by_ino q (inl same) =
        let row = row_there shapes tree are ino was there in
        subst (λ i. AreAlike (map.get (map.insert shapes ino now) i) (map.get tree i)) (sym same)
        (subst (λ o. AreAlike o (map.get tree ino)) (sym (get_put shapes ino now)) (subst (AreAlike (Some now)) (sym row.1) (keeps row.0 row.2)))
    by_ino q (inr apart) = subst (λ o. AreAlike o (map.get tree q)) (sym (get_put-other shapes ino now q apart)) (are.each q)

-- a page that is there gets an address
pub same_pages : (pages : map.FinMap nat_cmp ℕ) (page at : ℕ) → IsSome (map.get pages page) → (q : ℕ) → map.contains_key (map.insert pages page at) q ≡ map.contains_key pages q
same_pages pages page at there q = by_page (same_or_other q page)
  where
    by_page : (q ≡ page) ⊎ (q ≢ page) → map.contains_key (map.insert pages page at) q ≡ map.contains_key pages q
    by_page (inl same) =
        ap (λ i. map.contains_key (map.insert pages page at) i) same ∙ ap (λ o. is_some o) (get_put pages page at) ∙ sym (is_true (map.get pages page) there) ∙ ap (λ i. map.contains_key pages i) (sym same)
      where
        is_true : (o : Option ℕ) → IsSome o → is_some o ≡ true
        is_true None h = h
        is_true (Some x) h = refl
    by_page (inr apart) = ap (λ o. is_some o) (get_put-other pages page at q apart)

pub addressed : (shape : Shape) (row : Row) (page at : ℕ) → IsSome (map.get shape.pages page) → IsShape shape row → IsShape (record shape { pages = map.insert shape.pages page at }) row
addressed shape row page at there is = record { ino = is.ino; kind = is.kind; parent = is.parent; name = is.name; size = is.size; pages = λ kind q. same_pages shape.pages page at there q ∙ is.pages kind q }

pub numbered : (shape : Shape) (row : Row) (nids : map.FinMap nat_cmp ℕ) → IsShape shape row → IsShape (record shape { nids = nids }) row
numbered shape row nids is = record { ino = is.ino; kind = is.kind; parent = is.parent; name = is.name; size = is.size; pages = is.pages }

-- the rows of trees of that shape, whichever way the call went
pub address_keeps : (shapes after : Shapes) (ino page at : ℕ) → ((row : Shape) → map.get shapes ino ≡ Some row → after ≡ map.insert shapes ino (record row { pages = map.insert row.pages page at }))
    → IsSome (address_in page (map.get shapes ino)) → (tree : Rows) → IsShapeOf shapes tree → IsShapeOf after tree
address_keeps shapes after ino page at made there tree are = by_row (map.get shapes ino) refl there
  where
    by_row : (o : Option Shape) → map.get shapes ino ≡ o → IsSome (address_in page o) → IsShapeOf after tree
    by_row None is h = absurd (true≢false (sym h))
    by_row (Some row) is h =
        subst (λ s. IsShapeOf s tree) (sym (made row is)) (still_alike shapes tree are ino row (record row { pages = map.insert row.pages page at }) is (λ one alike. addressed row one page at h alike))

unpaged : (shape : Shape) (row : Row) (pages : map.FinMap nat_cmp ℕ) → is_directory shape.kind ≡ true → IsShape shape row → IsShape (record shape { pages = pages }) row
unpaged shape row pages directory is = record { ino = is.ino; kind = is.kind; parent = is.parent; name = is.name; size = is.size; pages = λ kind q. absurd (true≢false (sym directory ∙ ap is_directory (is.kind ∙ kind))) }

-- the pages of a directory are none of the tree's
pub directory_keeps : {A E : Type 0} (r : Result A E) (shapes after : Shapes) (ino : ℕ) (change : map.FinMap nat_cmp ℕ → map.FinMap nat_cmp ℕ) → is_directory_there (map.get shapes ino) ≡ true
    → OnOk r ((row : Shape) → map.get shapes ino ≡ Some row → after ≡ map.insert shapes ino (record row { pages = change row.pages })) → OnErr r (after ≡ shapes) → (tree : Rows) → IsShapeOf shapes tree → IsShapeOf after tree
directory_keeps (Err e) shapes after ino change there made unmade tree are = subst (λ s. IsShapeOf s tree) (sym unmade) are
directory_keeps (Ok a) shapes after ino change there made unmade tree are = by_row (map.get shapes ino) refl there
  where
    by_row : (o : Option Shape) → map.get shapes ino ≡ o → is_directory_there o ≡ true → IsShapeOf after tree
    by_row None is h = absurd (true≢false (sym h))
    by_row (Some row) is h =
        subst (λ s. IsShapeOf s tree) (sym (made row is)) (still_alike shapes tree are ino row (record row { pages = change row.pages }) is (λ one alike. unpaged row one (change row.pages) h alike))

pub nid_keeps : (shapes after : Shapes) (ino : ℕ) (change : map.FinMap nat_cmp ℕ → map.FinMap nat_cmp ℕ) → ((row : Shape) → map.get shapes ino ≡ Some row → after ≡ map.insert shapes ino (record row { nids = change row.nids })) → (map.get shapes ino ≡ None → after ≡ shapes)
    → (tree : Rows) → IsShapeOf shapes tree → IsShapeOf after tree
nid_keeps shapes after ino change made missing tree are = by_row (map.get shapes ino) refl
  where
    by_row : (o : Option Shape) → map.get shapes ino ≡ o → IsShapeOf after tree
    by_row None is = subst (λ s. IsShapeOf s tree) (sym (missing is)) are
    by_row (Some row) is =
        subst (λ s. IsShapeOf s tree) (sym (made row is)) (still_alike shapes tree are ino row (record row { nids = change row.nids }) is (λ one alike. numbered row one (change row.nids) alike))
