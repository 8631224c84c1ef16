-- The values of the parts of a cache, field by field.
use Rattle.std.proofs.Common.{◌≡◌, ℕ, List, Option}
use Rattle.f2_format.specs.Geometry.{ImageGeometry}
use Rattle.f2_format.specs.Journal.{JournalList}
use Rattle.f2_nat_cache.specs.Entries.{Entries, CleanTable, DirtyTable}
use Rattle.f2_nat_cache.specs.Table.{Table}

pub same_clean : {e e' : Entries} {r r' : ℕ} → e ≡ e' → r ≡ r' → ◌≡◌ {A = CleanTable} (record { entries = e; room = r }) (record { entries = e'; room = r' })
same_clean e r = λ i. record { entries = e i; room = r i }

pub same_dirty : {n n' : ℕ} {e e' : Entries} {s s' : ℕ} → n ≡ n' → e ≡ e' → s ≡ s' → ◌≡◌ {A = DirtyTable} (record { nat = n; entries = e; spare = s }) (record { nat = n'; entries = e'; spare = s' })
same_dirty n e s = λ i. record { nat = n i; entries = e i; spare = s i }

pub same_table : {x x' : ImageGeometry} {b b' : List ℕ} {j j' : JournalList} {d d' : Entries} {h h' : List (Option (List ℕ))} {c c' : Entries} {s s' r r' : ℕ} → x ≡ x' → b ≡ b' → j ≡ j' → d ≡ d' → h ≡ h' → c ≡ c' → s ≡ s' → r ≡ r'
    → ◌≡◌ {A = Table} (record { geom = x; bitmap = b; journal = j; dirty = d; held = h; clean = c; spare = s; room = r }) (record { geom = x'; bitmap = b'; journal = j'; dirty = d'; held = h'; clean = c'; spare = s'; room = r' })
same_table x b j d h c s r = λ i. record { geom = x i; bitmap = b i; journal = j i; dirty = d i; held = h i; clean = c i; spare = s i; room = r i }
