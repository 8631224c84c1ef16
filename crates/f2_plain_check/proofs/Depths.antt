-- How deep rows stand, one step up at a time.
use Rattle.std.proofs.Common.{◌≡◌, ◌≢◌, ◌↔◌, ℕ, zero, suc, ◌-◌, ◌<◌, ◌≤◌, Bool, IsTrue, sym, ◌∙◌, subst, arith}
use Rattle.std.specs.Prelude.{Some}
use Rattle.std.specs.FinMap as map
use Rattle.f2_model.specs.Tree.{Rows, ROOT, IsAtDepth}
use Rattle.f2_model.specs.declared.rows.Row.{Row}
use Rattle.f2_plain_check.specs.Parts.{StandsWithin}

module _ (tree : Rows) (most ino : ℕ) (row : Row) (some : 0 < most) (below : ino ≢ ROOT) (there : map.get tree ino ≡ Some row) where
  one_down : StandsWithin tree (most - 1) row.parent → StandsWithin tree most ino
  one_down up =
      let few : up.0 ≤ most - 1 = up.1 in
      (suc up.0, omega arith, (below, (row, there, up.2)))

  one_up : (depth : ℕ) → depth ≤ most → IsAtDepth tree depth ino → StandsWithin tree (most - 1) row.parent
  one_up zero few at = absurd (below at)
  one_up (suc depth) few at =
      let same : at.1.0 ≡ row = (let e : Some at.1.0 ≡ Some row = sym at.1.1 ∙ there in cc) in
      (depth, omega arith, subst (λ (up : Row). IsAtDepth tree depth up.parent) same at.1.2)

  -- whether an ino stands within a depth is whether its directory stands within one less
  pub within_up : (b : Bool) → IsTrue b ↔ StandsWithin tree (most - 1) row.parent → IsTrue b ↔ StandsWithin tree most ino
  within_up b up = (λ t. one_down (up.0 t), λ within. up.1 (one_up within.0 within.1 within.2))
