-- A row stands as deep in its image as in its tree.
use Rattle.std.proofs.Common.{◌≡◌, ℕ, zero, suc, ◌+◌, ◌≤◌, refl, sym, ap, ◌∙◌, subst, arith}
use Rattle.std.specs.Prelude.{Some}
use Rattle.std.specs.FinMap as map
use Rattle.f2_model.specs.Tree.{Rows, IsAtDepth, most_depth}
use Rattle.f2_model.specs.declared.rows.Row.{Row}
use Rattle.f2_image.specs.Images.{Image}
use Rattle.f2_image.specs.Packs.{Checkpoint}
use Rattle.f2_image.specs.Bases as bases
use Rattle.f2_image.specs.Bases.{IsReached}
use Rattle.f2_image.specs.Faults.{IsBelow, root, deeper}
use Rattle.f2_image.proofs.OneBase.{same_some}
use Rattle.f2_stored.specs.Places.{Places}
use Rattle.f2_place_laws.proofs.Stood.{IsStood}
use Rattle.f2_place_laws.proofs.Base.{in_tree, bound}

-- an ino has one depth
one_depth : (tree : Rows) (d e ino : ℕ) → IsAtDepth tree d ino → IsAtDepth tree e ino → d ≡ e
one_depth tree zero zero ino p q = refl
one_depth tree zero (suc e) ino p q = absurd (q.0 p)
one_depth tree (suc d) zero ino p q = absurd (p.0 q)
one_depth tree (suc d) (suc e) ino p q =
    let same : q.1.0 ≡ p.1.0 = same_some q.1.0 p.1.0 (sym q.1.1 ∙ p.1.1) in
    ap (λ n. suc n) (one_depth tree d e p.1.0.parent p.1.2 (subst (λ (row : Row). IsAtDepth tree e row.parent) same q.1.2))

module _ (image : Image) (ckpt : Checkpoint) (tree : Rows) (places : Places) (is : IsStood image ckpt tree places) where
  pub reached_below : (depth ino : ℕ) → IsBelow image ckpt depth ino → IsReached image ckpt ino
  reached_below _ _ root = bases.root
  reached_below _ _ (deeper depth directory dentry up has) = bases.below directory dentry (reached_below depth directory up) has

  depth_below : (depth ino : ℕ) → IsBelow image ckpt depth ino → IsAtDepth tree depth ino
  depth_below _ _ root = refl
  depth_below _ _ (deeper depth directory dentry up has) =
      let under = in_tree image ckpt tree places is directory (reached_below depth directory up) in
      let to = bound image ckpt tree places is directory has.0 has.1 dentry under.0 under.1 has.2 in
      let next : suc depth ≡ depth + 1 = omega arith in
      subst (λ n. IsAtDepth tree n dentry.ino) next (to.below, (to.row, to.there, subst (IsAtDepth tree depth) (sym to.parent) (depth_below depth directory up)))

  pub shallow : (depth ino : ℕ) (row : Row) → map.get tree ino ≡ Some row → IsBelow image ckpt depth ino → depth ≤ most_depth row.kind
  shallow depth ino row there below =
      let deep = is.proper.good.reached ino row there in
      let same = one_depth tree depth deep.0 ino (depth_below depth ino below) deep.2 in
      subst (λ n. n ≤ most_depth row.kind) (sym same) deep.1
