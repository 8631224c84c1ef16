use Rattle.std.proofs.Common.{◌≡◌, ◌≤◌, ◌-◌, ℕ, List, length, Some, None, sym, ap, subst, ◌∙◌}
use Rattle.std.specs.Prelude.{slice_get}
use Rattle.std.specs.Option.{option_copied}
use Rattle.std.proofs.lemmas.Result.{IfOk-weaker}
use Rattle.f2_laws.proofs.Names.{not_the_root}
use Rattle.f2_laws.proofs.Passed.{passed, none_first}
use Rattle.f2_model.specs.Call.{effect, walk_parent, refusal_of}
use Rattle.f2_model.specs.Tree.{last_name, parent_path, walk}
use Rattle.f2_model.specs.declared.requests.Request.TheVariants.{Rename}
use Rattle.f2_call_size.specs.Calls.{ChangesNames, IsShapeAt}
use Rattle.f2_call_size.specs.Sizes.{IsSizeOf}
use Rattle.f2_call_size.specs.declared.sizes.CallSize.{CallSize}
use Rattle.f2_call_size.proofs.Called.{last_there, leads_somewhere}
use Rattle.f2_call_size.proofs.Ends.{to_row}
use Rattle.f2_call_size.proofs.Told.{moved, renamed}
use Rattle.f2_call_size.proofs.calls.size_of_rename.Goals as goal

pub returns-in_default-clause-size : goal.returns-in_default-clause-size
returns-in_default-clause-size c = λ limits most tree ino good are unrefused fresh.
    let pass = passed limits tree (Rename c.args.from.now c.args.to.now) unrefused in
    absurd (leads_somewhere (walk tree c.args.from.now) ((none_first (refusal_of (walk tree c.args.from.now)) _ pass.walks).0) (subst (λ (p : List (List ℕ)). IsShapeAt tree p None) c.as_slice.ensures (c.in_default.ensures most tree good are)))

pub returns-in_default-directory_of-clause-size : goal.returns-in_default-directory_of-clause-size
returns-in_default-directory_of-clause-size c = λ limits most tree ino good are unrefused fresh.
    let pass = passed limits tree (Rename c.args.from.now c.args.to.now) unrefused in
    let walks = none_first (refusal_of (walk tree c.args.from.now)) _ pass.walks in
    let parent = none_first (refusal_of (walk_parent tree c.args.to.now)) _ walks.1 in
    absurd (leads_somewhere (walk tree (parent_path c.args.to.now)) (to_row (walk tree (parent_path c.args.to.now)) parent.0) (c.in_default-directory_of.ensures most tree good are))

pub returns-then-directory-row-clause-size : goal.returns-then-directory-row-clause-size
returns-then-directory-row-clause-size c = IfOk-weaker c.change_of_names.result _ _ (λ (size : CallSize) change limits most tree ino good are unrefused fresh.
    let to : List (List ℕ) = c.args.to.now in
    let pass = passed limits tree (Rename c.args.from.now c.args.to.now) unrefused in
    let at : IsShapeAt tree c.args.from.now (Some c.in-Some.row.now) = subst (λ (p : List (List ℕ)). IsShapeAt tree p (Some c.in-Some.row.now)) c.as_slice.ensures (c.in-Some.ensures most tree good are) in
    let some : 1 ≤ length to = not_the_root most tree good to pass.free_name in
    let last : option_copied c.last-name.result ≡ Some (last_name to) = c.last-name.ensures.value ∙ ap (λ (p : List (List ℕ)). slice_get p (length p - 1)) c.as_slice-2.ensures ∙ last_there to some in
    renamed c.args.files.now limits most tree good are ino c.args.from.now to pass c.in-Some.row.now at c.in-Some-directory_of.directory (c.in-Some-directory_of.ensures most tree good are) c.if-directory-row.true size
    (subst (λ o. ChangesNames c.args.files.now c.in-Some-directory_of.directory (Some c.in-Some.row.now.name) o size) last change)) c.change_of_names.ensures.change

pub returns-clause-size : goal.returns-clause-size
returns-clause-size c = λ limits most tree ino good are unrefused fresh.
    let to : List (List ℕ) = c.args.to.now in
    let pass = passed limits tree (Rename c.args.from.now c.args.to.now) unrefused in
    let at : IsShapeAt tree c.args.from.now (Some c.in-Some.row.now) = subst (λ (p : List (List ℕ)). IsShapeAt tree p (Some c.in-Some.row.now)) c.as_slice.ensures (c.in-Some.ensures most tree good are) in
    let some : 1 ≤ length to = not_the_root most tree good to pass.free_name in
    let last : option_copied c.last-name.result ≡ Some (last_name to) = c.last-name.ensures.value ∙ ap (λ (p : List (List ℕ)). slice_get p (length p - 1)) c.as_slice-2.ensures ∙ last_there to some in
    let come : CallSize = c.in_ok-come.come in
    subst (λ (size : CallSize). IsSizeOf tree (effect tree (Rename c.args.from.now c.args.to.now) ino) size) (sym c.together.ensures)
    (moved c.args.files.now limits most tree good are ino c.args.from.now to pass c.in-Some.row.now at c.in-Some-directory_of.directory (c.in-Some-directory_of.ensures most tree good are) c.if-directory-row.false c.in_ok-left.left come
    c.in_ok-left.ensures.change (subst (λ o. ChangesNames c.args.files.now c.in-Some-directory_of.directory None o come) last c.in_ok-come.ensures.change))
