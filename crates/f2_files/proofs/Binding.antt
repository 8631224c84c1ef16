-- What names are bound to after one was bound or taken out.
use Rattle.std.proofs.Common.{◌≡◌, ◌≢◌, ◌⊎◌, inl, inr, ℕ, Bool, true, false, cond, List, refl, sym, ap, ◌∙◌, true≢false}
use Rattle.std.specs.Prelude.{Option, Some, None, is_some}
use Rattle.std.specs.Ordering.{nat_cmp, eq_by_cmp, is_eq}
use Rattle.std.specs.Cmp.{Equal-is, tied_itself}
use Rattle.std.specs.Cmp.Lexicographic.{slice_cmp, nat_list_cmp_total}
use Rattle.std.specs.FinMap as map
use Rattle.std.specs.FinMap.{nat_cmp-IsAntisymmetric, slice_cmp-IsAntisymmetric}
use Rattle.f2_dir.specs.Entries.{Entries}
use Rattle.f2_model.specs.Tree.{ROOT}
use Rattle.f2_model.specs.declared.rows.Kind.{Kind}
use Rattle.f2_laws.proofs.Maps.{get_put, get_put-other, get_taken, get_taken-other}
use Rattle.f2_laws.proofs.Places.{same_or_other}
use Rattle.f2_laws.proofs.Walks.{some_same, some_none}
use Rattle.f2_files.specs.Led.{Dirs, Place, among, bound_in, binding_in, with_name, taking_out, without_name, is_directory_there, BindsNames}
use Rattle.f2_files.specs.Shape.{Shapes}
use Rattle.f2_files.specs.declared.shapes.Shape.{Shape}

-- whether two names are the same
abbrev is_name : List ℕ → List ℕ → Bool
is_name = eq_by_cmp (slice_cmp nat_cmp)

name_same : (p q : List ℕ) → is_name p q ≡ true → p ≡ q
name_same p q tied = slice_cmp-IsAntisymmetric nat_cmp-IsAntisymmetric p q ((Equal-is (slice_cmp nat_cmp p q)).0 tied)

name_itself : (name : List ℕ) → is_name name name ≡ true
name_itself name = ap is_eq (tied_itself nat_list_cmp_total name)

module _ (dirs : Dirs) (directory : ℕ) (name : List ℕ) where
  with_here : (place : Place) (names : Entries) → map.get dirs directory ≡ Some names → (other : List ℕ) → bound_in (with_name dirs directory name place) directory other ≡ cond (is_name other name) (Some place) (bound_in dirs directory other)
  with_here place names there other =
      ap (λ o. bound_in (binding_in dirs directory name place o) directory other) there
      ∙ ap (among other) (get_put dirs directory (map.insert names name place))
      ∙ map.get-insert nat_list_cmp_total names name place other
      ∙ ap (λ o. cond (is_name other name) (Some place) (among other o)) (sym there)

  with_there : (place : Place) (at : ℕ) → at ≢ directory → (other : List ℕ) → bound_in (with_name dirs directory name place) at other ≡ bound_in dirs at other
  with_there place at apart other = by_names (map.get dirs directory)
    where
      by_names : (o : Option Entries) → bound_in (binding_in dirs directory name place o) at other ≡ bound_in dirs at other
      by_names None = refl
      by_names (Some names) = ap (among other) (get_put-other dirs directory (map.insert names name place) at apart)

  pub with_keys : (place : Place) (q : ℕ) → map.contains_key (with_name dirs directory name place) q ≡ map.contains_key dirs q
  with_keys place q = by_names (map.get dirs directory) refl
    where
      by_names : (o : Option Entries) → map.get dirs directory ≡ o → map.contains_key (binding_in dirs directory name place o) q ≡ map.contains_key dirs q
      by_names None there = refl
      by_names (Some names) there = by_key (same_or_other q directory)
        where
          by_key : (q ≡ directory) ⊎ (q ≢ directory) → map.contains_key (map.insert dirs directory (map.insert names name place)) q ≡ map.contains_key dirs q
          by_key (inl same) =
              ap (λ i. map.contains_key (map.insert dirs directory (map.insert names name place)) i) same
              ∙ ap (λ o. is_some o) (get_put dirs directory (map.insert names name place))
              ∙ ap (λ o. is_some o) (sym there) ∙ ap (λ i. map.contains_key dirs i) (sym same)
          by_key (inr apart) = ap (λ o. is_some o) (get_put-other dirs directory (map.insert names name place) q apart)

  pub bound_new : (place : Place) (names : Entries) → map.get dirs directory ≡ Some names → bound_in (with_name dirs directory name place) directory name ≡ Some place
  bound_new place names there = with_here place names there name ∙ ap (λ b. cond b (Some place) (bound_in dirs directory name)) (name_itself name)

  -- what a name is bound to was so before, or it is the one that was bound
  pub bound_was : (place : Place) (names : Entries) → map.get dirs directory ≡ Some names → (at : ℕ) (other : List ℕ) (q : Place) → bound_in (with_name dirs directory name place) at other ≡ Some q
      → ((at ≡ directory) × (other ≡ name) × (place ≡ q)) ⊎ (bound_in dirs at other ≡ Some q)
  bound_was place names there at other q h = by_key (same_or_other at directory)
    where
      by_name : (at ≡ directory) → (b : Bool) → is_name other name ≡ b → cond b (Some place) (bound_in dirs directory other) ≡ Some q → ((at ≡ directory) × (other ≡ name) × (place ≡ q)) ⊎ (bound_in dirs at other ≡ Some q)
      by_name same true is e = inl (same, name_same other name is, some_same e)
      by_name same false is e = inr (ap (λ i. bound_in dirs i other) same ∙ e)

      by_key : (at ≡ directory) ⊎ (at ≢ directory) → ((at ≡ directory) × (other ≡ name) × (place ≡ q)) ⊎ (bound_in dirs at other ≡ Some q)
      by_key (inl same) = by_name same (is_name other name) refl (sym (with_here place names there other) ∙ ap (λ i. bound_in (with_name dirs directory name place) i other) (sym same) ∙ h)
      by_key (inr apart) = inr (sym (with_there place at apart other) ∙ h)

  -- and what was bound stays so, where that name wasn't
  pub bound_kept : (place : Place) (names : Entries) → map.get dirs directory ≡ Some names → bound_in dirs directory name ≡ None → (at : ℕ) (other : List ℕ) (q : Place) → bound_in dirs at other ≡ Some q → bound_in (with_name dirs directory name place) at other ≡ Some q
  bound_kept place names there free at other q h = by_key (same_or_other at directory)
    where
      by_name : (at ≡ directory) → (b : Bool) → is_name other name ≡ b → cond b (Some place) (bound_in dirs directory other) ≡ Some q
      by_name same true is = absurd (some_none (sym h ∙ ap (λ i. bound_in dirs i other) same ∙ ap (bound_in dirs directory) (name_same other name is) ∙ free))
      by_name same false is = ap (λ i. bound_in dirs i other) (sym same) ∙ h

      by_key : (at ≡ directory) ⊎ (at ≢ directory) → bound_in (with_name dirs directory name place) at other ≡ Some q
      by_key (inl same) = ap (λ i. bound_in (with_name dirs directory name place) i other) same ∙ with_here place names there other ∙ by_name same (is_name other name) refl
      by_key (inr apart) = with_there place at apart other ∙ h

  without_here : (other : List ℕ) → bound_in (without_name dirs directory name) directory other ≡ cond (is_name other name) None (bound_in dirs directory other)
  without_here other = by_names (map.get dirs directory) refl
    where
      none_either : (b : Bool) → ◌≡◌ {A = Option Place} None (cond b None None)
      none_either true = refl
      none_either false = refl

      by_names : (o : Option Entries) → map.get dirs directory ≡ o → bound_in (taking_out dirs directory name o) directory other ≡ cond (is_name other name) None (bound_in dirs directory other)
      by_names None there =
          ap (among other) there ∙ none_either (is_name other name) ∙ ap (λ o. cond (is_name other name) None (among other o)) (sym there)
      by_names (Some names) there =
          ap (among other) (get_put dirs directory (map.remove names name))
          ∙ map.get-remove nat_list_cmp_total names name other
          ∙ ap (λ o. cond (is_name other name) None (among other o)) (sym there)

  without_there : (at : ℕ) → at ≢ directory → (other : List ℕ) → bound_in (without_name dirs directory name) at other ≡ bound_in dirs at other
  without_there at apart other = by_names (map.get dirs directory)
    where
      by_names : (o : Option Entries) → bound_in (taking_out dirs directory name o) at other ≡ bound_in dirs at other
      by_names None = refl
      by_names (Some names) = ap (among other) (get_put-other dirs directory (map.remove names name) at apart)

  pub without_keys : (q : ℕ) → map.contains_key (without_name dirs directory name) q ≡ map.contains_key dirs q
  without_keys q = by_names (map.get dirs directory) refl
    where
      by_names : (o : Option Entries) → map.get dirs directory ≡ o → map.contains_key (taking_out dirs directory name o) q ≡ map.contains_key dirs q
      by_names None there = refl
      by_names (Some names) there = by_key (same_or_other q directory)
        where
          by_key : (q ≡ directory) ⊎ (q ≢ directory) → map.contains_key (map.insert dirs directory (map.remove names name)) q ≡ map.contains_key dirs q
          by_key (inl same) =
              ap (λ i. map.contains_key (map.insert dirs directory (map.remove names name)) i) same
              ∙ ap (λ o. is_some o) (get_put dirs directory (map.remove names name))
              ∙ ap (λ o. is_some o) (sym there) ∙ ap (λ i. map.contains_key dirs i) (sym same)
          by_key (inr apart) = ap (λ o. is_some o) (get_put-other dirs directory (map.remove names name) q apart)

  -- what is still bound was so, and isn't the name that was taken out
  pub bound_left : (at : ℕ) (other : List ℕ) (q : Place) → bound_in (without_name dirs directory name) at other ≡ Some q → (bound_in dirs at other ≡ Some q) × (at ≡ directory → other ≡ name → ⊥)
  bound_left at other q h = by_key (same_or_other at directory)
    where
      by_name : (at ≡ directory) → (b : Bool) → is_name other name ≡ b → cond b None (bound_in dirs directory other) ≡ Some q → (bound_in dirs at other ≡ Some q) × (at ≡ directory → other ≡ name → ⊥)
      by_name same true is e = absurd (some_none (sym e))
      by_name same false is e = (ap (λ i. bound_in dirs i other) same ∙ e, λ _ named. true≢false (sym (name_itself name) ∙ ap (λ n. is_name n name) (sym named) ∙ is))

      by_key : (at ≡ directory) ⊎ (at ≢ directory) → (bound_in dirs at other ≡ Some q) × (at ≡ directory → other ≡ name → ⊥)
      by_key (inl same) = by_name same (is_name other name) refl (sym (without_here other) ∙ ap (λ i. bound_in (without_name dirs directory name) i other) (sym same) ∙ h)
      by_key (inr apart) = (sym (without_there at apart other) ∙ h, λ same _. apart same)

  pub bound_stays : (at : ℕ) (other : List ℕ) (q : Place) → bound_in dirs at other ≡ Some q → (at ≡ directory → other ≡ name → ⊥) → bound_in (without_name dirs directory name) at other ≡ Some q
  bound_stays at other q h differ = by_key (same_or_other at directory)
    where
      by_name : (at ≡ directory) → (b : Bool) → is_name other name ≡ b → cond b None (bound_in dirs directory other) ≡ Some q
      by_name same true is = absurd (differ same (name_same other name is))
      by_name same false is = ap (λ i. bound_in dirs i other) (sym same) ∙ h

      by_key : (at ≡ directory) ⊎ (at ≢ directory) → bound_in (without_name dirs directory name) at other ≡ Some q
      by_key (inl same) = ap (λ i. bound_in (without_name dirs directory name) i other) same ∙ without_here other ∙ by_name same (is_name other name) refl
      by_key (inr apart) = without_there at apart other ∙ h

module _ (shapes : Shapes) (dirs : Dirs) (binds : BindsNames shapes dirs) where
  -- a row comes with its name, where directories that bind the same have its own, if it is one
  pub binds_added : (base : Dirs) → ((at : ℕ) (name : List ℕ) → bound_in base at name ≡ bound_in dirs at name) → (row : Shape) → ((q : ℕ) → map.contains_key base q ≡ is_directory_there (map.get (map.insert shapes row.ino row) q))
      → map.get shapes row.ino ≡ None → row.ino ≢ ROOT → (names : Entries) → map.get base row.parent ≡ Some names → bound_in dirs row.parent row.name ≡ None
      → BindsNames (map.insert shapes row.ino row) (with_name base row.parent row.name (row.ino, row.kind))
  binds_added base same row keys free not_root names there unbound = record {
    bound = bound;
    only = only;
    directories = λ q. with_keys base row.parent row.name (row.ino, row.kind) q ∙ keys q;
  }
    where
      after : Dirs
      after = with_name base row.parent row.name (row.ino, row.kind)

      by_row : (ino : ℕ) (shape : Shape) → map.get (map.insert shapes row.ino row) ino ≡ Some shape → ino ≢ ROOT → (ino ≡ row.ino) ⊎ (ino ≢ row.ino) → bound_in (with_name base row.parent row.name (row.ino, row.kind)) shape.parent shape.name ≡ Some (ino, shape.kind)
      by_row ino shape h other (inl at) =
          let is : row ≡ shape = some_same (sym (get_put shapes row.ino row) ∙ ap (λ i. map.get (map.insert shapes row.ino row) i) (sym at) ∙ h) in
          let new = bound_new base row.parent row.name (row.ino, row.kind) names there in
          ap (λ (s : Shape). bound_in (with_name base row.parent row.name (row.ino, row.kind)) s.parent s.name) (sym is)
          ∙ new ∙ ap (λ (s : Shape). Some (row.ino, s.kind)) is ∙ ap (λ i. Some (i, shape.kind)) (sym at)
      by_row ino shape h other (inr apart) =
          bound_kept base row.parent row.name (row.ino, row.kind) names there (same row.parent row.name ∙ unbound) shape.parent shape.name (ino, shape.kind)
          (same shape.parent shape.name ∙ binds.bound ino shape (sym (get_put-other shapes row.ino row ino apart) ∙ h) other)

      bound : (ino : ℕ) (shape : Shape) → map.get (map.insert shapes row.ino row) ino ≡ Some shape → ino ≢ ROOT → bound_in (with_name base row.parent row.name (row.ino, row.kind)) shape.parent shape.name ≡ Some (ino, shape.kind)
      bound ino shape h other = by_row ino shape h other (same_or_other ino row.ino)

      by_place : (directory : ℕ) (name : List ℕ) (ino : ℕ) (kind : Kind) → ((directory ≡ row.parent) × (name ≡ row.name) × (◌≡◌ {A = Place} (row.ino, row.kind) (ino, kind))) ⊎ (bound_in base directory name ≡ Some (ino, kind))
          → (shape : Shape) × (map.get (map.insert shapes row.ino row) ino ≡ Some shape) × (ino ≢ ROOT) × (shape.parent ≡ directory) × (shape.name ≡ name) × (shape.kind ≡ kind)
      by_place directory name ino kind (inl new) =
          let at : row.ino ≡ ino = ap (λ (p : Place). p.0) new.2 in
          (row, ap (λ i. map.get (map.insert shapes row.ino row) i) (sym at) ∙ get_put shapes row.ino row, (λ root. not_root (at ∙ root)), sym new.0, sym new.1, ap (λ (p : Place). p.1) new.2)
      by_place directory name ino kind (inr old) =
          let was = binds.only directory name ino kind (sym (same directory name) ∙ old) in
          let apart : ino ≢ row.ino = λ at. some_none (sym was.1 ∙ ap (λ i. map.get shapes i) at ∙ free) in
          (was.0, get_put-other shapes row.ino row ino apart ∙ was.1, was.2, was.3, was.4, was.5)

      only : (directory : ℕ) (name : List ℕ) (ino : ℕ) (kind : Kind) → bound_in (with_name base row.parent row.name (row.ino, row.kind)) directory name ≡ Some (ino, kind)
          → (shape : Shape) × (map.get (map.insert shapes row.ino row) ino ≡ Some shape) × (ino ≢ ROOT) × (shape.parent ≡ directory) × (shape.name ≡ name) × (shape.kind ≡ kind)
      only directory name ino kind h = by_place directory name ino kind (bound_was base row.parent row.name (row.ino, row.kind) names there directory name (ino, kind) h)

  -- a row goes with its name, and with its directory, if it has one, in which no name is bound
  pub binds_removed : (base : Dirs) → ((at : ℕ) (name : List ℕ) → bound_in base at name ≡ bound_in dirs at name) → (ino : ℕ) (row : Shape) → map.get shapes ino ≡ Some row → ((q : ℕ) → map.contains_key base q ≡ is_directory_there (map.get (map.remove shapes ino) q))
      → ino ≢ ROOT → BindsNames (map.remove shapes ino) (without_name base row.parent row.name)
  binds_removed base same ino row there keys not_root = record {
    bound = λ q shape h other. bound q shape other (was q shape h (same_or_other q ino));
    only = λ directory name q kind h. only directory name q kind (bound_left base row.parent row.name directory name (q, kind) h);
    directories = λ q. without_keys base row.parent row.name q ∙ keys q;
  }
    where
      was : (q : ℕ) (shape : Shape) → map.get (map.remove shapes ino) q ≡ Some shape → (q ≡ ino) ⊎ (q ≢ ino) → (q ≢ ino) × (map.get shapes q ≡ Some shape)
      was q shape h (inl at) = absurd (some_none (sym h ∙ ap (λ i. map.get (map.remove shapes ino) i) at ∙ get_taken shapes ino))
      was q shape h (inr apart) = (apart, sym (get_taken-other shapes ino q apart) ∙ h)

      bound : (q : ℕ) (shape : Shape) → q ≢ ROOT → (q ≢ ino) × (map.get shapes q ≡ Some shape) → bound_in (without_name base row.parent row.name) shape.parent shape.name ≡ Some (q, shape.kind)
      bound q shape other old =
          let is = binds.bound q shape old.1 other in
          bound_stays base row.parent row.name shape.parent shape.name (q, shape.kind) (same shape.parent shape.name ∙ is) (λ parent name.
          (let mine = binds.bound ino row there not_root in
          let both : Some (ino, row.kind) ≡ Some (q, shape.kind) = sym mine ∙ ap (λ d. bound_in dirs d row.name) (sym parent) ∙ ap (bound_in dirs shape.parent) (sym name) ∙ is in
          old.0 (sym (ap (λ (p : Place). p.0) (some_same both)))))

      only : (directory : ℕ) (name : List ℕ) (q : ℕ) (kind : Kind) → (bound_in base directory name ≡ Some (q, kind)) × (directory ≡ row.parent → name ≡ row.name → ⊥)
          → (shape : Shape) × (map.get (map.remove shapes ino) q ≡ Some shape) × (q ≢ ROOT) × (shape.parent ≡ directory) × (shape.name ≡ name) × (shape.kind ≡ kind)
      only directory name q kind left =
          let old = binds.only directory name q kind (sym (same directory name) ∙ left.0) in
          let apart : q ≢ ino = λ at.
          (let is : old.0 ≡ row = some_same (sym old.1 ∙ ap (λ i. map.get shapes i) at ∙ there) in
          left.1 (sym old.3 ∙ ap (λ (s : Shape). s.parent) is) (sym old.4 ∙ ap (λ (s : Shape). s.name) is)) in
          (old.0, get_taken-other shapes ino q apart ∙ old.1, old.2, old.3, old.4, old.5)
