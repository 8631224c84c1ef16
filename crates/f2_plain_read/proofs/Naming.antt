-- The rows of a tree under their names.
use Rattle.std.proofs.Common.{◌≡◌, ◌≢◌, ℕ, ◌+◌, ◌<◌, ◌≤◌, Bool, refl, sym, ap, ◌∙◌, arith, inl, inr}
use Rattle.std.specs.Prelude.{Option, Some, None, ◌⊎◌, if◌then◌else◌, option_map}
use Rattle.std.specs.Ordering.{nat_cmp}
use Rattle.std.specs.Cmp.{nat_cmp_total}
use Rattle.std.specs.FinMap as map
use Rattle.std.specs.FinMap.{nat_cmp-IsAntisymmetric}
use Rattle.std.proofs.lemmas.Bool.{lt-ltb, cases_lt}
use Rattle.f2_format.specs.Geometry.{ImageGeometry, nid_limit}
use Rattle.f2_laid.specs.Laid.{PlaceMap, IsStorable}
use Rattle.f2_laws.proofs.Maps.{get_taken-other}
use Rattle.f2_model.specs.Tree.{Rows, ROOT}
use Rattle.f2_model.specs.declared.rows.Row.{Row}
use Rattle.f2_plain_read.specs.Building.{bare, up_to, bound_of, bound_below, IsBuilt, IsNamedBy}
use Rattle.f2_plain_read.specs.declared.built.Built.{Built}
use Rattle.f2_plain_read.specs.declared.names.Bound.{Bound}
use Rattle.f2_plain_read.proofs.Building.{put_next, up_to-in, up_to-past}
use Rattle.f2_plain_read.proofs.Standing.{one_some, some_none}

module _ (geom : ImageGeometry) (tree : Rows) (stood : PlaceMap) (storable : IsStorable geom tree) (limit : ℕ) (limit_is : limit ≡ nid_limit geom) (built : Built) (is : IsBuilt tree stood limit built) where
  -- a row of the tree, the bare row that was built of it, and its name
  pub record Named (ino : ℕ) (row : Row) (bound : Option Bound) : Type 0 where
    pub whole : Row
    pub there : map.get tree ino ≡ Some whole
    pub by : IsNamedBy whole row bound

  low : (ino : ℕ) (row : Row) → map.get tree ino ≡ Some row → row.parent < limit
  low ino row there =
      let over = storable.good.parents ino row there in
      omega (arith, storable.numbered row.parent over.0 over.1, limit_is)

  bound-whole : (ino : ℕ) (row : Row) → map.get tree ino ≡ Some row → bound_below limit (Some row) ≡ bound_of row
  bound-whole ino row there = ap (λ (b : Bool). if b then bound_of row else None) (lt-ltb row.parent limit (low ino row there))

  root_is : (ino : ℕ) (row : Row) → map.get tree ino ≡ Some row → row.ino ≡ ROOT → row ≡ storable.good.root.0
  root_is ino row there root = one_some row storable.good.root.0 (sym there ∙ ap (map.get tree) (sym (storable.good.keyed ino row there) ∙ root) ∙ storable.good.root.1)

  pub named : (ino : ℕ) → ino < limit → (row : Row) → Some row ≡ map.get built.rows ino → (bound : Option Bound) → bound ≡ map.get built.names ino → Named ino row bound
  named ino below_limit row has bound told = by_row (map.get tree ino) refl (has ∙ is.rows ino ∙ ap (option_map bare) (up_to-in tree tree 0 limit ino below_limit))
    where
      by_row : (o : Option Row) → map.get tree ino ≡ o → Some row ≡ option_map bare (map.get tree ino) → Named ino row bound
      by_row None e h = absurd (some_none row (h ∙ ap (option_map bare) e))
      by_row (Some whole) e h =
          record {
            whole = whole;
            there = e;
            by = record {
              bare_row = one_some row (bare whole) (h ∙ ap (option_map bare) e);
              bound_is = told ∙ is.names ino ∙ ap (bound_below limit) e ∙ bound-whole ino whole e;
              root_parent = λ root. ap (λ (r : Row). r.parent) (root_is ino whole e root) ∙ storable.good.root.2.parent;
              root_name = λ root. ap (λ (r : Row). r.name) (root_is ino whole e root) ∙ storable.good.root.2.name;
            };
          }

  pub named_next : (ino : ℕ) (row : Row) (bound : Option Bound) (has : Named ino row bound) (got : Rows) (one : Row) → one ≡ has.whole → ((q : ℕ) → map.get got q ≡ up_to ino tree q)
      → (q : ℕ) → map.get (map.insert got one.ino one) q ≡ up_to (ino + 1) tree q
  named_next ino row bound has got one same before q =
      ap (λ (r : Row). map.get (map.insert got r.ino r) q) same
      ∙ ap (λ (n : ℕ). map.get (map.insert got n has.whole) q) (storable.good.keyed ino has.whole has.there)
      ∙ put_next tree got ino has.whole has.there before q

  pub not_there : (ino : ℕ) → ino < limit → None ≡ map.get built.rows ino → map.get tree ino ≡ None
  not_there ino below_limit has = by_row (map.get tree ino) refl (has ∙ is.rows ino ∙ ap (option_map bare) (up_to-in tree tree 0 limit ino below_limit))
    where
      by_row : (o : Option Row) → map.get tree ino ≡ o → None ≡ option_map bare (map.get tree ino) → map.get tree ino ≡ None
      by_row None e h = e
      by_row (Some whole) e h = absurd (some_none (bare whole) (sym (h ∙ ap (option_map bare) e)))

  pub all_named : (got : Rows) → ((q : ℕ) → map.get got q ≡ up_to limit tree q) → got ≡ tree
  all_named got each = map.same_map nat_cmp_total nat_cmp-IsAntisymmetric got tree (λ q. each q ∙ by_place q (cases_lt q limit))
    where
      by_row : (q : ℕ) → limit ≤ q → (o : Option Row) → map.get tree q ≡ o → None ≡ map.get tree q
      by_row q high None e = sym e
      by_row q high (Some row) e = absurd (let under = storable.numbered q row e in omega (arith, under, limit_is, high))

      by_place : (q : ℕ) → (q < limit) ⊎ (limit ≤ q) → up_to limit tree q ≡ map.get tree q
      by_place q (inl small) = up_to-in tree tree 0 limit q small
      by_place q (inr high) = up_to-past tree tree 0 limit q high ∙ by_row q high (map.get tree q) refl

-- what a map has from a number on, after a key before it was taken out
pub left_from : {X : Type 0} (was now : map.FinMap nat_cmp X) (ino : ℕ) → ((q : ℕ) → ino ≤ q → map.get now q ≡ map.get was q) → (q : ℕ) → ino + 1 ≤ q → map.get (map.remove now ino) q ≡ map.get was q
left_from was now ino before q high = let other : q ≢ ino = omega arith in get_taken-other now ino q other ∙ before q (omega arith)
