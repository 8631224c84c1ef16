use Rattle.std.proofs.Common.{◌≡◌, ◌≤◌, ◌-◌, ℕ, List, length, Some, None, refl, sym, ap, subst, ◌∙◌}
use Rattle.std.specs.Prelude.{slice_get}
use Rattle.std.specs.Option.{option_copied}
use Rattle.f2_laws.proofs.Names.{not_the_root}
use Rattle.f2_laws.proofs.Passed.{passed}
use Rattle.f2_model.specs.Call.{effect}
use Rattle.f2_model.specs.Tree.{last_name, parent_path, walk}
use Rattle.f2_model.specs.declared.requests.Request.TheVariants.{Create, Mkdir}
use Rattle.f2_model.specs.declared.rows.Kind.TheVariants.{Regular, Directory}
use Rattle.f2_call_size.specs.Calls.{ChangesNames}
use Rattle.f2_call_size.specs.Sizes.{IsSizeOf, added, together}
use Rattle.f2_call_size.specs.declared.sizes.CallSize.{CallSize}
use Rattle.f2_call_size.proofs.Called.{new_size, last_there, leads_somewhere}
use Rattle.f2_call_size.proofs.Ends.{to_row}
use Rattle.f2_call_size.proofs.calls.size_of_new.Goals as goal

pub returns-in_default-clause-create : goal.returns-in_default-clause-create
returns-in_default-clause-create c = λ limits most tree ino good are unrefused fresh.
    let pass = passed limits tree (Create c.args.path.now) unrefused in
    absurd (leads_somewhere (walk tree (parent_path c.args.path.now)) (to_row (walk tree (parent_path c.args.path.now)) pass.walks) (c.in_default.ensures most tree good are))

pub returns-in_default-clause-mkdir : goal.returns-in_default-clause-mkdir
returns-in_default-clause-mkdir c = λ limits most tree ino good are unrefused fresh.
    let pass = passed limits tree (Mkdir c.args.path.now) unrefused in
    absurd (leads_somewhere (walk tree (parent_path c.args.path.now)) (to_row (walk tree (parent_path c.args.path.now)) pass.walks) (c.in_default.ensures most tree good are))

pub returns-clause-create : goal.returns-clause-create
returns-clause-create c = λ limits most tree ino good are unrefused fresh.
    let path : List (List ℕ) = c.args.path.now in
    let pass = passed limits tree (Create path) unrefused in
    let some : 1 ≤ length path = not_the_root most tree good path pass.free_name in
    let names : CallSize = c.in_ok-names.names in
    let last : option_copied c.last.result ≡ Some (last_name path) = c.last.ensures.value ∙ ap (λ (p : List (List ℕ)). slice_get p (length p - 1)) c.as_slice.ensures ∙ last_there path some in
    let change = subst (λ o. ChangesNames c.args.files.now c.in-Some.directory None o names) last c.in_ok-names.ensures.change in
    let whole : c.together.result ≡ together (added (record { nodes = 1; pages = 0 })) names = c.together.ensures ∙ ap (λ (one : CallSize). together one names) c.added.ensures in
    subst (λ (size : CallSize). IsSizeOf tree (effect tree (Create path) ino) size) (sym whole)
    (new_size c.args.files.now most tree good are Regular path ino (fresh refl) pass.walks c.in-Some.directory (c.in-Some.ensures most tree good are) names change)

pub returns-clause-mkdir : goal.returns-clause-mkdir
returns-clause-mkdir c = λ limits most tree ino good are unrefused fresh.
    let path : List (List ℕ) = c.args.path.now in
    let pass = passed limits tree (Mkdir path) unrefused in
    let some : 1 ≤ length path = not_the_root most tree good path pass.free_name in
    let names : CallSize = c.in_ok-names.names in
    let last : option_copied c.last.result ≡ Some (last_name path) = c.last.ensures.value ∙ ap (λ (p : List (List ℕ)). slice_get p (length p - 1)) c.as_slice.ensures ∙ last_there path some in
    let change = subst (λ o. ChangesNames c.args.files.now c.in-Some.directory None o names) last c.in_ok-names.ensures.change in
    let whole : c.together.result ≡ together (added (record { nodes = 1; pages = 0 })) names = c.together.ensures ∙ ap (λ (one : CallSize). together one names) c.added.ensures in
    subst (λ (size : CallSize). IsSizeOf tree (effect tree (Mkdir path) ino) size) (sym whole)
    (new_size c.args.files.now most tree good are Directory path ino (fresh refl) pass.walks c.in-Some.directory (c.in-Some.ensures most tree good are) names change)
