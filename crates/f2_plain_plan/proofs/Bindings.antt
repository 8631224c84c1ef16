-- The names of rows are bound one after another.
use Rattle.std.proofs.Common.{◌≡◌, ◌≢◌, inl, inr, ℕ, Bool, true, false, cond, List, [], ◌∷◌, ◌++◌, refl, sym, ap, subst, ◌∙◌, Some, None, arith}
use Rattle.std.specs.Prelude.{is_some, Contains}
use Rattle.std.specs.Option.{unwrap_or}
use Rattle.std.specs.Ordering.{nat_cmp, eq_by_cmp}
use Rattle.std.specs.Cmp.{nat_cmp_total}
use Rattle.std.specs.Cmp.Lexicographic.{nat_list_cmp_total}
use Rattle.std.specs.FinMap as map
use Rattle.std.specs.FinMap.{get-insert, get-empty}
use Rattle.std.proofs.lemmas.Bool.{cases_eq}
use Rattle.std.proofs.lemmas.List.Elements.{Contains-push, Contains-push_cases, Contains-append_left}
use Rattle.f2_dir.specs.Entries.{Entries}
use Rattle.f2_held.proofs.Lists.{tied-same, tied-true}
use Rattle.f2_model.specs.Tree.{ROOT}
use Rattle.f2_model.specs.declared.rows.Kind.{Kind}
use Rattle.f2_model.specs.declared.rows.Row.{Row}
use Rattle.f2_plain_plan.specs.Directories.{AllNames, AreNamesOf, IsNamed, bound, names_at}
use Rattle.f2_plain_plan.proofs.NameMaps.{name_cmp, name_tied, name_same}

no_some : {X : Type 0} (x : X) → None ≡ Some x → ⊥
no_some x e = cc

same_some : {X : Type 0} (x y : X) → Some x ≡ Some y → x ≡ y
same_some x y e = cc

names_at-none : (directory : ℕ) → names_at map.empty directory ≡ map.empty
names_at-none directory = ap (λ o. unwrap_or o map.empty) (get-empty nat_cmp directory)

pub no_names : AreNamesOf [] map.empty
no_names =
    record {
      sound = λ directory name at h. absurd (no_some at (sym (get-empty name_cmp name) ∙ ap (λ (m : Entries). map.get m name) (sym (names_at-none directory)) ∙ h));
      complete = λ row c ne. absurd (let low = c.1 in omega arith);
    }

module _ (names : AllNames) (row : Row) where
  abbrev at_row : ℕ × Kind
  at_row = (row.ino, row.kind)

  names_at-same : (directory : ℕ) → directory ≡ row.parent → names_at (bound names row) directory ≡ map.insert (names_at names row.parent) row.name at_row
  names_at-same directory e = ap (λ o. unwrap_or o map.empty) (get-insert nat_cmp_total names row.parent _ directory ∙ ap (λ b. cond b (Some (map.insert (names_at names row.parent) row.name at_row)) (map.get names directory)) (ap (λ k. eq_by_cmp nat_cmp k row.parent) e ∙ tied-same row.parent))

  names_at-other : (directory : ℕ) → directory ≢ row.parent → names_at (bound names row) directory ≡ names_at names directory
  names_at-other directory ne = ap (λ o. unwrap_or o map.empty) (get-insert nat_cmp_total names row.parent _ directory ∙ ap (λ b. cond b (Some (map.insert (names_at names row.parent) row.name at_row)) (map.get names directory)) (apart (eq_by_cmp nat_cmp directory row.parent) refl))
    where
      apart : (b : Bool) → eq_by_cmp nat_cmp directory row.parent ≡ b → eq_by_cmp nat_cmp directory row.parent ≡ false
      apart true t = absurd (ne (tied-true directory row.parent t))
      apart false t = t

  -- a name that was there is there
  still : (m : Entries) (name : List ℕ) → map.contains_key m name ≡ true → map.contains_key (map.insert m row.name at_row) name ≡ true
  still m name h = ap is_some (get-insert nat_list_cmp_total m row.name at_row name) ∙ go (eq_by_cmp name_cmp name row.name)
    where
      go : (b : Bool) → is_some (cond b (Some at_row) (map.get m name)) ≡ true
      go true = refl
      go false = h

  here : (m : Entries) → map.contains_key (map.insert m row.name at_row) row.name ≡ true
  here m = ap is_some (get-insert nat_list_cmp_total m row.name at_row row.name ∙ ap (λ b. cond b (Some at_row) (map.get m row.name)) (name_same row.name))

  module _ (rows : List Row) (so_far : AreNamesOf rows names) where
    -- the root has no name
    pub root_more : row.ino ≡ ROOT → AreNamesOf (rows ++ row ∷ []) names
    root_more root =
        record {
          sound = λ directory name at h. let old = so_far.sound directory name at h in (old.0, Contains-append_left rows (row ∷ []) old.0 old.1, old.2);
          complete = λ other c ne. elim (Contains-push_cases rows row other c) [
            | inl old ↦ so_far.complete other old ne
            | inr e ↦ absurd (ne (ap (λ (r : Row). r.ino) (sym e) ∙ root))
          ];
        }

    module _ (below_root : row.ino ≢ ROOT) where
      in_parent : (directory : ℕ) (name : List ℕ) (at : ℕ × Kind) → directory ≡ row.parent → (b : Bool) → eq_by_cmp name_cmp name row.name ≡ b
          → cond b (Some at_row) (map.get (names_at names row.parent) name) ≡ Some at → (other : Row) × Contains (rows ++ row ∷ []) other × IsNamed directory name at other
      in_parent directory name at e true t h =
          let same = same_some at_row at h in
          (row, Contains-push rows row, record { ino = ap (λ (p : ℕ × Kind). p.0) same; kind = ap (λ (p : ℕ × Kind). p.1) same; below = below_root; parent = sym e; named = sym (name_tied name row.name t) })
      in_parent directory name at e false t h =
          let old = so_far.sound directory name at (ap (λ d. map.get (names_at names d) name) e ∙ h) in
          (old.0, Contains-append_left rows (row ∷ []) old.0 old.1, old.2)

      sound_more : (directory : ℕ) (name : List ℕ) (at : ℕ × Kind) → map.get (names_at (bound names row) directory) name ≡ Some at → (other : Row) × Contains (rows ++ row ∷ []) other × IsNamed directory name at other
      sound_more directory name at h = elim (cases_eq directory row.parent) [
        | inl e ↦ in_parent directory name at e (eq_by_cmp name_cmp name row.name) refl
            (sym (get-insert nat_list_cmp_total (names_at names row.parent) row.name at_row name) ∙ ap (λ (m : Entries). map.get m name) (sym (names_at-same directory e)) ∙ h)
        | inr ne ↦ let old = so_far.sound directory name at (ap (λ (m : Entries). map.get m name) (sym (names_at-other directory ne)) ∙ h) in
            (old.0, Contains-append_left rows (row ∷ []) old.0 old.1, old.2)
      ]

      complete_old : (other : Row) → map.contains_key (names_at names other.parent) other.name ≡ true → map.contains_key (names_at (bound names row) other.parent) other.name ≡ true
      complete_old other h = elim (cases_eq other.parent row.parent) [
        | inl e ↦ ap (λ (m : Entries). map.contains_key m other.name) (names_at-same other.parent e) ∙ still (names_at names row.parent) other.name (ap (λ d. map.contains_key (names_at names d) other.name) (sym e) ∙ h)
        | inr ne ↦ ap (λ (m : Entries). map.contains_key m other.name) (names_at-other other.parent ne) ∙ h
      ]

      -- any other row has its name in its directory
      pub row_more : AreNamesOf (rows ++ row ∷ []) (bound names row)
      row_more =
          record {
            sound = sound_more;
            complete = λ other c ne. elim (Contains-push_cases rows row other c) [
              | inl old ↦ complete_old other (so_far.complete other old ne)
              | inr e ↦ subst (λ (r : Row). map.contains_key (names_at (bound names row) r.parent) r.name ≡ true) e
                  (ap (λ (m : Entries). map.contains_key m row.name) (names_at-same row.parent refl) ∙ here (names_at names row.parent))
            ];
          }
