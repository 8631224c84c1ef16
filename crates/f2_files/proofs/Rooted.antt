-- The root alone has no names.
use Rattle.std.proofs.Common.{◌≡◌, ◌≢◌, ◌⊎◌, inl, inr, ℕ, List, [], sym, ap, ◌∙◌}
use Rattle.std.specs.Prelude.{None, is_some}
use Rattle.std.specs.Ordering.{nat_cmp}
use Rattle.std.specs.FinMap as map
use Rattle.f2_model.specs.Tree.{ROOT}
use Rattle.f2_model.specs.declared.rows.Kind.TheVariants.{Directory}
use Rattle.f2_laws.proofs.Maps.{get_put, get_put-other}
use Rattle.f2_laws.proofs.Places.{same_or_other}
use Rattle.f2_laws.proofs.Walks.{some_none}
use Rattle.f2_files.specs.Led.{Dirs, among, bound_in, is_directory_there, BindsNames}
use Rattle.f2_files.specs.Shape.{Shapes, new_shape}

abbrev pub shapes_root : Shapes
shapes_root = map.insert map.empty ROOT (new_shape Directory ROOT ROOT [])

abbrev pub dirs_root : Dirs
dirs_root = map.insert map.empty ROOT map.empty

no_shape : (ino : ℕ) → ino ≢ ROOT → map.get shapes_root ino ≡ None
no_shape ino other = get_put-other map.empty ROOT (new_shape Directory ROOT ROOT []) ino other ∙ map.get-empty nat_cmp ino

no_dir : (ino : ℕ) → ino ≢ ROOT → map.get dirs_root ino ≡ None
no_dir ino other = get_put-other map.empty ROOT map.empty ino other ∙ map.get-empty nat_cmp ino

unbound : (directory : ℕ) (name : List ℕ) → (directory ≡ ROOT) ⊎ (directory ≢ ROOT) → bound_in dirs_root directory name ≡ None
unbound directory name (inl same) = ap (λ i. bound_in dirs_root i name) same ∙ ap (among name) (get_put map.empty ROOT map.empty) ∙ map.get-empty _ name
unbound directory name (inr other) = ap (among name) (no_dir directory other)

pub binds_root : BindsNames shapes_root dirs_root
binds_root = record {
  bound = λ ino shape h other. absurd (some_none (sym h ∙ no_shape ino other));
  only = λ directory name ino kind h. absurd (some_none (sym h ∙ unbound directory name (same_or_other directory ROOT)));
  directories = λ ino. by_ino ino (same_or_other ino ROOT);
}
  where
    by_ino : (ino : ℕ) → (ino ≡ ROOT) ⊎ (ino ≢ ROOT) → map.contains_key dirs_root ino ≡ is_directory_there (map.get shapes_root ino)
    by_ino ino (inl same) =
        ap (map.contains_key dirs_root) same ∙ ap (λ o. is_some o) (get_put map.empty ROOT map.empty)
        ∙ ap is_directory_there (sym (get_put map.empty ROOT (new_shape Directory ROOT ROOT []))) ∙ ap (λ i. is_directory_there (map.get shapes_root i)) (sym same)
    by_ino ino (inr other) = ap (λ o. is_some o) (no_dir ino other) ∙ ap is_directory_there (sym (no_shape ino other))
