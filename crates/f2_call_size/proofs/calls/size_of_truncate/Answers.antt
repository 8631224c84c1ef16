use Rattle.std.proofs.Common.{ℕ, List, Some, None, sym, subst}
use Rattle.f2_laws.proofs.Passed.{passed}
use Rattle.f2_model.specs.Call.{effect}
use Rattle.f2_model.specs.Tree.{walk}
use Rattle.f2_model.specs.declared.requests.Request.TheVariants.{Truncate}
use Rattle.f2_call_size.specs.Calls.{IsShapeAt}
use Rattle.f2_call_size.specs.Sizes.{IsSizeOf}
use Rattle.f2_call_size.specs.declared.sizes.CallSize.{CallSize}
use Rattle.f2_call_size.proofs.Called.{leads_somewhere}
use Rattle.f2_call_size.proofs.Told.{truncated}
use Rattle.f2_call_size.proofs.calls.size_of_truncate.Goals as goal

pub returns-in_default-clause-size : goal.returns-in_default-clause-size
returns-in_default-clause-size c = λ limits most tree ino good are unrefused fresh.
    let pass = passed limits tree (Truncate c.args.path.now c.args.size) unrefused in
    absurd (leads_somewhere (walk tree c.args.path.now) (pass.walks) (subst (λ (p : List (List ℕ)). IsShapeAt tree p None) c.as_slice.ensures (c.in_default.ensures most tree good are)))

pub returns-clause-size : goal.returns-clause-size
returns-clause-size c = λ limits most tree ino good are unrefused fresh.
    let pass = passed limits tree (Truncate c.args.path.now c.args.size) unrefused in
    let at : IsShapeAt tree c.args.path.now (Some c.in-Some.row.now) = subst (λ (p : List (List ℕ)). IsShapeAt tree p (Some c.in-Some.row.now)) c.as_slice.ensures (c.in-Some.ensures most tree good are) in
    subst (λ (size : CallSize). IsSizeOf tree (effect tree (Truncate c.args.path.now c.args.size) ino) size) (sym c.gone.ensures)
    (truncated c.args.files.now limits most tree good are ino c.args.path.now c.in-Some.row.now at c.args.size pass c.in_ok-less.less c.in_ok-less.ensures.more)
