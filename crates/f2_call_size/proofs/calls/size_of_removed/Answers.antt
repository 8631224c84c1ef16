use Rattle.std.proofs.Common.{◌≡◌, ℕ, List, Some, None, sym, ap, subst, ◌∙◌}
use Rattle.f2_laws.proofs.Passed.{passed}
use Rattle.f2_model.specs.Call.{effect}
use Rattle.f2_model.specs.Tree.{walk}
use Rattle.f2_model.specs.declared.requests.Request.TheVariants.{Rmdir, Unlink}
use Rattle.f2_call_size.specs.Calls.{IsShapeAt}
use Rattle.f2_call_size.specs.Sizes.{IsSizeOf, gone, together}
use Rattle.f2_call_size.specs.declared.sizes.CallSize.{CallSize}
use Rattle.f2_call_size.proofs.Called.{leads_somewhere}
use Rattle.f2_call_size.proofs.Ends.{to_row}
use Rattle.f2_call_size.proofs.Told.{emptied, unlinked}
use Rattle.f2_call_size.proofs.calls.size_of_removed.Goals as goal

pub returns-in_default-clause-unlink : goal.returns-in_default-clause-unlink
returns-in_default-clause-unlink c = λ limits most tree ino good are unrefused fresh.
    let pass = passed limits tree (Unlink c.args.path.now) unrefused in
    absurd (leads_somewhere (walk tree c.args.path.now) (pass.walks) (subst (λ (p : List (List ℕ)). IsShapeAt tree p None) c.as_slice.ensures (c.in_default.ensures most tree good are)))

pub returns-in_default-clause-rmdir : goal.returns-in_default-clause-rmdir
returns-in_default-clause-rmdir c = λ limits most tree ino good are unrefused fresh.
    let pass = passed limits tree (Rmdir c.args.path.now) unrefused in
    absurd (leads_somewhere (walk tree c.args.path.now) (to_row (walk tree c.args.path.now) pass.walks) (subst (λ (p : List (List ℕ)). IsShapeAt tree p None) c.as_slice.ensures (c.in_default.ensures most tree good are)))

pub returns-clause-unlink : goal.returns-clause-unlink
returns-clause-unlink c = λ limits most tree ino good are unrefused fresh.
    let pass = passed limits tree (Unlink c.args.path.now) unrefused in
    let at : IsShapeAt tree c.args.path.now (Some c.in-Some.row.now) = subst (λ (p : List (List ℕ)). IsShapeAt tree p (Some c.in-Some.row.now)) c.as_slice.ensures (c.in-Some.ensures most tree good are) in
    let names : CallSize = c.in_ok-names.names in
    let whole : c.together.result ≡ together (gone c.in_ok-own.own) names = c.together.ensures ∙ ap (λ (one : CallSize). together one names) c.gone.ensures in
    subst (λ (size : CallSize). IsSizeOf tree (effect tree (Unlink c.args.path.now) ino) size) (sym whole)
    (unlinked c.args.files.now limits most tree good are ino c.args.path.now c.in-Some.row.now at pass c.in_ok-own.own c.in_ok-own.ensures.size names c.in_ok-names.ensures.change)

pub returns-clause-rmdir : goal.returns-clause-rmdir
returns-clause-rmdir c = λ limits most tree ino good are unrefused fresh.
    let pass = passed limits tree (Rmdir c.args.path.now) unrefused in
    let at : IsShapeAt tree c.args.path.now (Some c.in-Some.row.now) = subst (λ (p : List (List ℕ)). IsShapeAt tree p (Some c.in-Some.row.now)) c.as_slice.ensures (c.in-Some.ensures most tree good are) in
    let names : CallSize = c.in_ok-names.names in
    let whole : c.together.result ≡ together (gone c.in_ok-own.own) names = c.together.ensures ∙ ap (λ (one : CallSize). together one names) c.gone.ensures in
    subst (λ (size : CallSize). IsSizeOf tree (effect tree (Rmdir c.args.path.now) ino) size) (sym whole)
    (emptied c.args.files.now limits most tree good are ino c.args.path.now c.in-Some.row.now at pass c.in_ok-own.own c.in_ok-own.ensures.size names c.in_ok-names.ensures.change)
