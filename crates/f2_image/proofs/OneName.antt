-- A row with one name: its names against the parent and the name that it carries, and a base whose rows are such.
use Rattle.std.proofs.Common.{◌≡◌, ◌≢◌, ℕ, zero, suc, ◌==◌, Bool, true, false, cond, List, [], ◌∷◌, refl, sym, ap, ◌∙◌, subst, arith}
use Rattle.std.specs.Prelude.{Contains, take, Option, Some, None, if◌then◌else◌}
use Rattle.std.specs.FinMap as map
use Rattle.std.proofs.lemmas.Option.{none-some, same_Some}
use Rattle.f2_format.specs.Dentry.{Dentry}
use Rattle.f2_format.specs.Inode.{inode_of}
use Rattle.f2_model.specs.Tree.{Rows, ROOT, names_of}
use Rattle.f2_model.specs.declared.rows.Row.{Row}
use Rattle.f2_image.specs.Images.{Image}
use Rattle.f2_image.specs.Packs.{Checkpoint}
use Rattle.f2_image.specs.Bases.{HasDentry, IsReached, root, below, IsBaseRow, StandsAs, IsNameOf, HasRoot, IsBase}
use Rattle.f2_image.specs.Chains.{IsNamed}

-- the root's row has no name
pub no_name : (row : Row) → row.ino ≡ ROOT → names_of row ≡ []
no_name row is = ap (λ b. cond b [] ((row.parent, row.name) ∷ [])) (is_same row.ino ROOT is)
  where
    is_same : (m n : ℕ) → m ≡ n → (m == n) ≡ true
    is_same m n e = grind (arith, e)

-- another row has one, and no other
pub own_name : (row : Row) → row.ino ≢ ROOT → names_of row ≡ (row.parent, row.name) ∷ []
own_name row other = ap (λ b. cond b [] ((row.parent, row.name) ∷ [])) (is_other row.ino ROOT other)
  where
    is_other : (m n : ℕ) → m ≢ n → (m == n) ≡ false
    is_other m n e = grind (arith, e)

pub has_own_name : (row : Row) (directory : ℕ) (name : List ℕ) → row.ino ≢ ROOT → row.parent ≡ directory → row.name ≡ name → Contains (names_of row) (directory, name)
has_own_name row directory name other parent named =
    let own : Contains (names_of row) (row.parent, row.name) = subst (λ names. Contains names (row.parent, row.name)) (sym (own_name row other)) (0, omega arith, refl) in
    subst (λ (n : List ℕ). Contains (names_of row) (directory, n)) named (subst (λ (d : ℕ). Contains (names_of row) (d, row.name)) parent own)

pub is_own_name : (row : Row) (directory : ℕ) (name : List ℕ) → Contains (names_of row) (directory, name) → (row.ino ≢ ROOT) × (row.parent ≡ directory) × (row.name ≡ name)
is_own_name row directory name among = by_test (row.ino == ROOT) refl among
  where
    differ_of : (m n : ℕ) → (m == n) ≡ false → m ≢ n
    differ_of m n e same = grind (arith, e, same)

    by_test : (b : Bool) → (row.ino == ROOT) ≡ b → Contains {X = ℕ × List ℕ} (cond b [] ((row.parent, row.name) ∷ [])) (directory, name) → (row.ino ≢ ROOT) × (row.parent ≡ directory) × (row.name ≡ name)
    by_test true e (k, less, at) = absurd (omega (arith, less))
    by_test false e (zero, less, at) = (differ_of row.ino ROOT e, ap (λ (pair : ℕ × List ℕ). pair.0) at, ap (λ (pair : ℕ × List ℕ). pair.1) at)
    by_test false e (suc k, less, at) = absurd (omega (arith, less))

-- the one name that a row is told to have
pub told_alone : (row : Row) (directory : ℕ) (name : List ℕ) → names_of row ≡ (directory, name) ∷ [] → (row.ino ≢ ROOT) × (row.parent ≡ directory) × (row.name ≡ name)
told_alone row directory name e = is_own_name row directory name (subst (λ names. Contains names (directory, name)) (sym e) (0, omega arith, refl))

-- rows that carry the same have the same names
pub same_names_of : (a b : Row) → a.ino ≡ b.ino → a.parent ≡ b.parent → a.name ≡ b.name → names_of a ≡ names_of b
same_names_of a b inos parents names = λ i. if inos i == ROOT then [] else ((parents i, names i) ∷ [])

-- a row that carries this parent and this name; the root's does too
pub record Carries (tree : Rows) (ino directory : ℕ) (name : List ℕ) : Type 0 where
  pub row : Row
  pub there : map.get tree ino ≡ Some row
  pub parent : row.parent ≡ directory
  pub named : row.name ≡ name

-- a row that stands in a directory under its one name
pub record StandsOnce (tree : Rows) (ino directory : ℕ) (name : List ℕ) : Type 0 where
  pub row : Row
  pub there : map.get tree ino ≡ Some row
  pub not_root : row.ino ≢ ROOT
  pub parent : row.parent ≡ directory
  pub named : row.name ≡ name

pub once : (tree : Rows) (ino directory : ℕ) (name : List ℕ) → StandsAs tree ino directory name → StandsOnce tree ino directory name
once tree ino directory name at =
    let own = is_own_name at.row directory name at.named in
    record { row = at.row; there = at.there; not_root = own.0; parent = own.1; named = own.2 }

pub carries : (tree : Rows) (ino directory : ℕ) (name : List ℕ) → StandsAs tree ino directory name → Carries tree ino directory name
carries tree ino directory name at = let one = once tree ino directory name at in record { row = one.row; there = one.there; parent = one.parent; named = one.named }

pub root_carries : (tree : Rows) → HasRoot tree → Carries tree ROOT ROOT []
root_carries tree at = record { row = at.row; there = at.there; parent = at.parent; named = at.named }

pub stands_as : (tree : Rows) (ino directory : ℕ) (name : List ℕ) → StandsOnce tree ino directory name → StandsAs tree ino directory name
stands_as tree ino directory name at = record { row = at.row; there = at.there; named = has_own_name at.row directory name at.not_root at.parent at.named }

-- a root's row, by what it carries
pub has_root : (tree : Rows) (row : Row) → map.get tree ROOT ≡ Some row → row.ino ≡ ROOT → row.parent ≡ ROOT → row.name ≡ [] → HasRoot tree
has_root tree row there own parent named = record { row = row; there = there; unnamed = no_name row own; parent = parent; named = named }

module _ (image : Image) (ckpt : Checkpoint) (tree : Rows) where
  -- what a dentry of a base says of its row
  pub names_once : IsBase image ckpt tree → (directory : ℕ) (dentry : Dentry) → IsReached image ckpt directory → HasDentry image ckpt directory dentry → StandsOnce tree dentry.ino directory dentry.name
  names_once base directory dentry up has = once tree dentry.ino directory dentry.name (base.names directory dentry up has)

  -- what a base has of the name that a row carries
  pub name_of_row : IsBase image ckpt tree → (ino : ℕ) (row : Row) → map.get tree ino ≡ Some row → ino ≢ ROOT → IsNameOf image ckpt ino row.parent row.name
  name_of_row base ino row there other =
      base.named ino row there row.parent row.name (has_own_name row row.parent row.name (λ is. other (sym (base.rows ino row there).own ∙ is)) refl refl)

  -- a parent and a name with which a marked row is named
  pub named_as : IsBase image ckpt tree → (inode : List ℕ) (ino : ℕ) (old : Option Row) → map.get tree ino ≡ old
      → (parent : ℕ) × ((name : List ℕ) × ((row : Row) → row.ino ≡ ino → row.parent ≡ parent → row.name ≡ name → IsNamed tree inode row old))
  named_as base inode ino (Some old) there = (old.parent, (old.name, λ row own p q. (same_names_of row old (own ∙ sym (base.rows ino old there).own) p q, p, q)))
  named_as base inode ino None none = ((inode_of inode).parent, (take (inode_of inode).name_length (inode_of inode).name, λ row own p q. own_name row (other row own) ∙ (λ i. (p i, q i) ∷ [])))
    where
      other : (row : Row) → row.ino ≡ ino → row.ino ≢ ROOT
      other row own is = none-some base.root.row (sym none ∙ ap (map.get tree) (sym own ∙ is) ∙ base.root.there)

  -- where each dentry is the one name of its row, each name is a dentry's, since a row is reached by one
  module _ (rows : (ino : ℕ) (row : Row) → map.get tree ino ≡ Some row → IsBaseRow image ckpt ino row)
      (names : (directory : ℕ) (dentry : Dentry) → IsReached image ckpt directory → HasDentry image ckpt directory dentry → StandsOnce tree dentry.ino directory dentry.name) where
    by_reached : (ino : ℕ) (row : Row) → map.get tree ino ≡ Some row → IsReached image ckpt ino → (directory : ℕ) (name : List ℕ) → (row.ino ≢ ROOT) × (row.parent ≡ directory) × (row.name ≡ name) → IsNameOf image ckpt ino directory name
    by_reached _ row there root directory name own = absurd (own.0 (rows ROOT row there).own)
    by_reached _ row there (below up dentry reached has) directory name own =
        let at = names up dentry reached has in
        let same : at.row ≡ row = same_Some at.row row (sym at.there ∙ there) in
        let parent : up ≡ directory = sym at.parent ∙ ap (λ (r : Row). r.parent) same ∙ own.1 in
        record {
          reached = subst (IsReached image ckpt) parent reached;
          dentry = dentry;
          has = subst (λ d. HasDentry image ckpt d dentry) parent has;
          own = refl;
          named = sym at.named ∙ ap (λ (r : Row). r.name) same ∙ own.2;
        }

    pub base_of_once : HasRoot tree → IsBase image ckpt tree
    base_of_once top = record {
      rows = rows;
      root = top;
      names = λ directory dentry up has. stands_as tree dentry.ino directory dentry.name (names directory dentry up has);
      named = λ ino row there directory name among. by_reached ino row there (rows ino row there).reached directory name (is_own_name row directory name among);
    }
