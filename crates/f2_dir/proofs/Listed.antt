-- A tree's entries as the names of a directory.
use Rattle.std.proofs.Common.{◌≡◌, List, ap}
use Rattle.std.specs.Prelude.{ℕ, map as list_map}
use Rattle.std.specs.List.Sorted.{IsStrictlySortedBy}
use Rattle.f2_dentry_block.specs.declared.dents.Dent.{Dent}
use Rattle.f2_model.specs.declared.rows.Kind.{Kind}
use Rattle.f2_dir.specs.Entries.{dents_of}
use Rattle.f2_dir.proofs.Names.{shown, view, named_cmp, entries-view}

-- a name and what it is bound to
abbrev pub dent_of : List ℕ × (ℕ × Kind) → Dent
dent_of e = record { name = e.0; ino = e.1.0; kind = e.1.1 }

module _ {K : Type 0} (name : K → List ℕ) where
  -- the names of entries
  abbrev pub dents_in : List (K × (ℕ × Kind)) → List Dent
  dents_in es = list_map dent_of (shown name es)

  pub dents_of-view : (es : List (K × (ℕ × Kind))) → IsStrictlySortedBy (named_cmp name) (list_map (λ (e : K × (ℕ × Kind)). e.0) es) → dents_of (view name es) ≡ dents_in es
  dents_of-view es sorted = ap (list_map dent_of) (entries-view name es sorted)
