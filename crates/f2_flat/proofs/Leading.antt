-- Walks through a tree of files in the root alone.
use Rattle.std.proofs.Common.{◌≡◌, ◌≢◌, ◌⊎◌, inl, inr, ℕ, ◌+◌, ◌<◌, List, ◌∷◌, length, drop, get_or, add-one, drop-cons, refl, sym, ap, ◌∙◌}
use Rattle.std.specs.Prelude.{Option, Some, Err, if◌then◌else◌}
use Rattle.std.specs.FinMap as map
use Rattle.f2_model.specs.Tree.{Rows, ROOT, is_directory, child, or_no_entry, walked}
use Rattle.f2_model.specs.declared.rows.Row.{Row}
use Rattle.f2_model.specs.declared.rows.Kind.TheVariants.{Directory}
use Rattle.f2_model.specs.declared.replies.Reply.TheVariants.{NotDir}
use Rattle.f2_laws.proofs.Passed.{kinds_differ}
use Rattle.f2_laws.proofs.Places.{same_or_other}
use Rattle.f2_laws.proofs.Walks.{child_there}
use Rattle.f2_flat.specs.Flat.{FILE_SIZE}
use Rattle.f2_flat.specs.Kept.{HasRootFiles}

module _ (tree : Rows) (files : HasRootFiles tree) where
  -- only the root is a directory
  pub only_root : (row : Row) → map.get tree row.ino ≡ Some row → row.kind ≡ Directory → row.ino ≡ ROOT
  only_root row there kind = by_ino (same_or_other row.ino ROOT)
    where
      by_ino : (row.ino ≡ ROOT) ⊎ (row.ino ≢ ROOT) → row.ino ≡ ROOT
      by_ino (inl same) = same
      by_ino (inr other) = absurd (kinds_differ (sym (files.files row.ino row there other).0 ∙ kind))

  -- a walk goes on from a directory to what stands in the root under the next name
  pub walked_on : (path : List (List ℕ)) (i : ℕ) (row : Row) (name : List ℕ) (o : Option Row) → i < length path → name ≡ get_or path i name → map.get tree row.ino ≡ Some row → row.kind ≡ Directory → child tree ROOT name ≡ o
      → walked tree (drop i path) row ≡ or_no_entry o (walked tree (drop (i + 1) path))
  walked_on path i row name o below is there kind found =
      let behind = drop (i + 1) path in
      let parted : drop i path ≡ name ∷ behind = (rw (add-one, drop-cons path i name) refl) ∙ ap (λ one. one ∷ behind) (sym is) in
      ap (λ names. walked tree names row) parted
      ∙ ap (λ k. if is_directory k then or_no_entry (child tree row.ino name) (walked tree behind) else Err NotDir) kind
      ∙ ap (λ at. or_no_entry (child tree at name) (walked tree behind)) (only_root row there kind)
      ∙ ap (λ one. or_no_entry one (walked tree behind)) found

  pub child_row : (name : List ℕ) (row : Row) → child tree ROOT name ≡ Some row → map.get tree row.ino ≡ Some row
  child_row name row found = (child_there FILE_SIZE tree files.good ROOT name row found).0
