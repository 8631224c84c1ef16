-- Where walks lead in a good tree: to rows of it, and each row is reached by one path.
use Rattle.std.proofs.Common.{◌≡◌, ◌≢◌, ℕ, ◌+◌, Bool, true, false, ◌||◌, ◌&&◌, List, [], ◌∷◌, length, refl, sym, ap, subst, ◌∙◌, arith, true≢false}
use Rattle.std.specs.Prelude.{Option, Some, None, Ok, Err, if◌then◌else◌, ◌==◌}
use Rattle.std.specs.List.{list_any}
use Rattle.std.specs.FinMap as map
use Rattle.std.specs.Cmp.Lexicographic.{same_text}
use Rattle.std.proofs.lemmas.Bool.{eqb-true, eqb-false}
use Rattle.f2_model.specs.Names.{same_name}
use Rattle.f2_model.specs.Tree.{Rows, ROOT, IsGoodTree, IsAtDepth, is_directory, stands_at, child, walked, walk, or_no_entry}
use Rattle.f2_model.specs.declared.rows.Row.{Row}
use Rattle.f2_model.specs.declared.replies.Reply.TheVariants.{NotDir}
use Rattle.f2_laws.proofs.Values.{value_found}

pub some_same : {A : Type 0} {x y : A} → Some x ≡ Some y → x ≡ y
some_same e = cc

pub some_none : {A : Type 0} {x : A} → Some x ≡ None → ⊥
some_none e = cc

-- a row that stands under a name in a directory
pub record StandsIn (directory : ℕ) (name : List ℕ) (row : Row) : Type 0 where
  pub not_root : row.ino ≢ ROOT
  pub parent : row.parent ≡ directory
  pub name_is : row.name ≡ name

both : (a b : Bool) → (a && b || false) ≡ true → (a ≡ true) × (b ≡ true)
both true true e = (refl, refl)
both true false e = absurd (true≢false (sym e))
both false b e = absurd (true≢false (sym e))

pub stands : (directory : ℕ) (name : List ℕ) (row : Row) → stands_at directory name row ≡ true → StandsIn directory name row
stands directory name row h = by_root (row.ino == ROOT) refl h
  where
    by_root : (b : Bool) → (row.ino == ROOT) ≡ b → list_any (λ (at : ℕ × List ℕ). at.0 == directory && same_name at.1 name) (if b then [] else ((row.parent, row.name) ∷ [])) ≡ true → StandsIn directory name row
    by_root true e h = absurd (true≢false (sym h))
    by_root false e h =
        let parts = both (row.parent == directory) (same_name row.name name) h in
        record { not_root = eqb-false row.ino ROOT e; parent = eqb-true row.parent directory parts.0; name_is = same_text row.name name (sym parts.1) }

-- the names on the way up from an ino to the root
abbrev pub Leads : Rows → List (List ℕ) → ℕ → Type 0
Leads tree [] ino = ino ≡ ROOT
Leads tree (name ∷ names) ino = (ino ≢ ROOT) × ((row : Row) × (map.get tree ino ≡ Some row) × (row.name ≡ name) × Leads tree names row.parent)

pub depth-leads : (tree : Rows) (names : List (List ℕ)) (ino : ℕ) → Leads tree names ino → IsAtDepth tree (length names) ino
depth-leads tree [] ino h = h
depth-leads tree (name ∷ names) ino h = (h.0, (h.1.0, h.1.1, depth-leads tree names h.1.0.parent h.1.3))

-- one path leads to a row
pub leads_once : (tree : Rows) (names others : List (List ℕ)) (ino : ℕ) → Leads tree names ino → Leads tree others ino → names ≡ others
leads_once tree [] [] ino g h = refl
leads_once tree [] (other ∷ others) ino g h = absurd (h.0 g)
leads_once tree (name ∷ names) [] ino g h = absurd (g.0 h)
leads_once tree (name ∷ names) (other ∷ others) ino g h =
    let same : g.1.0 ≡ h.1.0 = some_same (sym g.1.1 ∙ h.1.1) in
    let rest = leads_once tree names others h.1.0.parent (subst (λ (row : Row). Leads tree names row.parent) same g.1.3) h.1.3 in
    let first : name ≡ other = sym g.1.2 ∙ ap (λ (row : Row). row.name) same ∙ h.1.2 in
    λ i. first i ∷ rest i

-- names turned round in front of others
abbrev pub turned_onto : List (List ℕ) → List (List ℕ) → List (List ℕ)
turned_onto above [] = above
turned_onto above (name ∷ names) = turned_onto (name ∷ above) names

pub length-turned_onto : (above names : List (List ℕ)) → length (turned_onto above names) ≡ length above + length names
length-turned_onto above [] = omega arith
length-turned_onto above (name ∷ names) = omega (arith, length-turned_onto (name ∷ above) names)

module _ (most : ℕ) (tree : Rows) (good : IsGoodTree most tree) where
  pub child_there : (directory : ℕ) (name : List ℕ) (row : Row) → child tree directory name ≡ Some row → (map.get tree row.ino ≡ Some row) × StandsIn directory name row
  child_there directory name row h =
      let found = value_found tree (stands_at directory name) row h in
      let keyed : row.ino ≡ found.1.0 = good.keyed found.1.0 row found.1.1 in
      (ap (λ ino. map.get tree ino) keyed ∙ found.1.1, stands directory name row found.0)

  -- where a walk ends: the row is there, and these names lead up from it
  pub record Ends (up : List (List ℕ)) (end : Row) : Type 0 where
    pub there : map.get tree end.ino ≡ Some end
    pub leads : Leads tree up end.ino

  walked_ends : (names above : List (List ℕ)) (row end : Row) → map.get tree row.ino ≡ Some row → Leads tree above row.ino → walked tree names row ≡ Ok end → Ends (turned_onto above names) end
  walked_ends [] above row end there leads h =
      let same : row ≡ end = cc in
      record { there = subst (λ (r : Row). map.get tree r.ino ≡ Some r) same there; leads = subst (λ (r : Row). Leads tree above r.ino) same leads }
  walked_ends (name ∷ names) above row end there leads h = by_kind (λ next is nexts. walked_ends names (name ∷ above) next end is nexts) (is_directory row.kind) h
    where
      by_child : ((next : Row) → map.get tree next.ino ≡ Some next → Leads tree (name ∷ above) next.ino → walked tree names next ≡ Ok end → Ends (turned_onto (name ∷ above) names) end) → (o : Option Row) → child tree row.ino name ≡ o → or_no_entry o (walked tree names) ≡ Ok end → Ends (turned_onto (name ∷ above) names) end
      by_child rest None e h = absurd (cc)
      by_child rest (Some next) e h =
          let c = child_there row.ino name next e in
          rest next c.0 (c.1.not_root, (next, c.0, c.1.name_is, subst (Leads tree above) (sym c.1.parent) leads)) h

      by_kind : ((next : Row) → map.get tree next.ino ≡ Some next → Leads tree (name ∷ above) next.ino → walked tree names next ≡ Ok end → Ends (turned_onto (name ∷ above) names) end) → (b : Bool) → (if b then or_no_entry (child tree row.ino name) (walked tree names) else Err NotDir) ≡ Ok end → Ends (turned_onto (name ∷ above) names) end
      by_kind rest false h = absurd (cc)
      by_kind rest true h = by_child rest (child tree row.ino name) refl h

  pub walk_ends : (path : List (List ℕ)) (end : Row) → walk tree path ≡ Ok end → Ends (turned_onto [] path) end
  walk_ends path end h =
      let root = good.root.0 in
      let there : map.get tree ROOT ≡ Some root = good.root.1 in
      let ino : root.ino ≡ ROOT = good.root.2.ino in
      let from : walked tree path root ≡ Ok end = sym (ap (λ o. or_no_entry o (walked tree path)) there) ∙ h in
      walked_ends path [] root end (ap (λ i. map.get tree i) ino ∙ there) ino from
