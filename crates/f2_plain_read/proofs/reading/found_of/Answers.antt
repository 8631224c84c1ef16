use Rattle.std.proofs.Common.{◌≡◌, ◌∙◌, sym, subst, true, false}
use Rattle.f2_format.specs.Geometry.{ImageGeometry}
use Rattle.f2_laid.specs.Laid.{PlaceMap, IsStorable, IsKept}
use Rattle.f2_model.specs.Tree.{Rows}
use Rattle.f2_plain_read.proofs.Counting.{laid_kept}
use Rattle.f2_plain_read.proofs.Finding.{places_are, stored_is}
use Rattle.f2_plain_read.proofs.reading.found_of.Goals as goal
use Rattle.f2_plain_read.proofs.reading.found_of.Goals.{then-not-branch-via-then-not-branch, then-not-branch-via-else-not-branch+in_ok-is_kept+then-not-branch-2}

no_test : false ≡ true → ⊥
no_test e = cc

pub returns-then-not-branch-clause-bad : goal.returns-then-not-branch-clause-bad
returns-then-not-branch-clause-bad c e image tree stored is =
    let tree_is = c.in_ok-tree.ensures.tree stored.geometry tree stored.places is.out.storable is.all is.files in
    let storable = subst (λ (x : ImageGeometry). IsStorable x c.in_ok-tree.tree) (sym is.ckpt_is.geometry) (subst (λ (t : Rows). IsStorable stored.geometry t) (sym tree_is) is.out.storable) in
    let kept = subst (λ (x : ImageGeometry). IsKept x c.in_ok-tree.places) (sym is.ckpt_is.geometry)
    (subst (λ (p : PlaceMap). IsKept stored.geometry p) (sym (c.in_ok-tree.ensures.places ∙ places_are image tree stored c.args.ckpt c.args.limit c.args.built is)) (laid_kept image tree stored is.out)) in
    elim c.then-not-branch.branch [
      | then-not-branch-via-then-not-branch w ↦ no_test (sym w.if-not-branch.true ∙ c.in_ok-is_storable.ensures.1 storable)
      | then-not-branch-via-else-not-branch+in_ok-is_kept+then-not-branch-2 w ↦ no_test (sym w.if-not-branch-2.true ∙ w.in_ok-is_kept.ensures.1 kept)
    ]

pub returns-clause-found : goal.returns-clause-found
returns-clause-found c image tree stored is =
    (c.in_ok-tree.ensures.tree stored.geometry tree stored.places is.out.storable is.all is.files, stored_is image tree stored c.args.ckpt c.args.limit c.args.built is c.in_ok-tree.places c.in_ok-tree.ensures.places)
