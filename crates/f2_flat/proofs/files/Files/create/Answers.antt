use Rattle.std.proofs.Common.{◌≡◌, Ok, inr, refl, sym, ap, ◌∙◌, subst}
use Rattle.std.specs.FinMap as map
use Rattle.f2_model.specs.declared.requests.Request.TheVariants.{Create}
use Rattle.f2_flat.specs.Steps.{MakesPlace}
use Rattle.f2_flat.proofs.Added.{refused_at_once, node_out, files_more, next_is_free, row_out, row_added, flat_added}
use Rattle.f2_flat.proofs.files.Files.create.Goals as goal

pub returns-in_err-name-clause-refused : goal.returns-in_err-name-clause-refused
returns-in_err-name-clause-refused c = refused_at_once c.args.geometry.now _ _ (Create c.args.path.now) _ _ c.self.view_is c.from_residual.ensures.1 (c.in_err-name.ensures c.args.geometry.now)

pub returns-in-Some-clause-refused : goal.returns-in-Some-clause-refused
returns-in-Some-clause-refused c =
    let geom = c.args.geometry.now in
    let tree = c.args.self.now in
    let path = c.args.path.now in
    let name = c.in_ok-name.name.now in
    let place : MakesPlace geom tree path (Ok name) = subst (λ t. MakesPlace geom t path (Ok name)) c.self.view_is (c.in_ok-name.ensures geom) in
    let rows : c.len-rows.result ≡ map.len tree = c.len-rows.ensures.len ∙ ap map.len c.self.view_is in
    inr (node_out geom c.cn-limit.ensures.sound tree c.requires path name place c.len-rows.result c.cn-limit.result rows c.cn-limit.ensures.value c.in-Some.refusal c.in-Some.ensures)

pub add-requires-clause-free : goal.add-requires-clause-free
add-requires-clause-free c =
    let geom = c.args.geometry.now in
    let tree = c.args.self.now in
    let path = c.args.path.now in
    let name = c.in_ok-name.name.now in
    let place : MakesPlace geom tree path (Ok name) = subst (λ t. MakesPlace geom t path (Ok name)) c.self.view_is (c.in_ok-name.ensures geom) in
    let rows : c.len-rows.result ≡ map.len tree = c.len-rows.ensures.len ∙ ap map.len c.self.view_is in
    next_is_free geom c.cn-limit.ensures.sound tree c.requires path name place c.len-rows.result c.cn-limit.result rows c.cn-limit.ensures.value

pub add-requires-clause-files : goal.add-requires-clause-files
add-requires-clause-files c =
    let geom = c.args.geometry.now in
    let tree = c.args.self.now in
    let path = c.args.path.now in
    let name = c.in_ok-name.name.now in
    let place : MakesPlace geom tree path (Ok name) = subst (λ t. MakesPlace geom t path (Ok name)) c.self.view_is (c.in_ok-name.ensures geom) in
    let rows : c.len-rows.result ≡ map.len tree = c.len-rows.ensures.len ∙ ap map.len c.self.view_is in
    files_more geom c.cn-limit.ensures.sound tree c.requires path name place c.len-rows.result c.cn-limit.result rows c.cn-limit.ensures.value

pub returns-in_err-add-clause-refused : goal.returns-in_err-add-clause-refused
returns-in_err-add-clause-refused c =
    let geom = c.args.geometry.now in
    let tree = c.args.self.now in
    let path = c.args.path.now in
    let name = c.in_ok-name.name.now in
    let place : MakesPlace geom tree path (Ok name) = subst (λ t. MakesPlace geom t path (Ok name)) c.self.view_is (c.in_ok-name.ensures geom) in
    let rows : c.len-rows.result ≡ map.len tree = c.len-rows.ensures.len ∙ ap map.len c.self.view_is in
    row_out geom c.cn-limit.ensures.sound tree c.requires path name place c.len-rows.result c.cn-limit.result rows c.cn-limit.ensures.value (sym (c.in_default.ensures)) c.cd.result c.cd.ensures.value _ refl _ _
    c.from_residual-in_err-add.ensures.1 c.in_err-add.ensures.granted

pub returns-clause-added : goal.returns-clause-added
returns-clause-added c =
    let geom = c.args.geometry.now in
    let tree = c.args.self.now in
    let path = c.args.path.now in
    let name = c.in_ok-name.name.now in
    let place : MakesPlace geom tree path (Ok name) = subst (λ t. MakesPlace geom t path (Ok name)) c.self.view_is (c.in_ok-name.ensures geom) in
    let rows : c.len-rows.result ≡ map.len tree = c.len-rows.ensures.len ∙ ap map.len c.self.view_is in
    row_added geom c.cn-limit.ensures.sound tree c.requires path name place c.len-rows.result c.cn-limit.result rows c.cn-limit.ensures.value (sym (c.in_default.ensures)) c.cd.result c.cd.ensures.value _ refl c.add.new.self c.in_ok-add.ensures.granted c.in_ok-add.ensures.added

pub returns-clause-flat : goal.returns-clause-flat
returns-clause-flat c =
    let geom = c.args.geometry.now in
    let tree = c.args.self.now in
    let path = c.args.path.now in
    let name = c.in_ok-name.name.now in
    let place : MakesPlace geom tree path (Ok name) = subst (λ t. MakesPlace geom t path (Ok name)) c.self.view_is (c.in_ok-name.ensures geom) in
    let rows : c.len-rows.result ≡ map.len tree = c.len-rows.ensures.len ∙ ap map.len c.self.view_is in
    flat_added geom c.cn-limit.ensures.sound tree c.requires path name place c.len-rows.result c.cn-limit.result rows c.cn-limit.ensures.value (sym (c.in_default.ensures)) c.cd.result c.cd.ensures.value _ refl c.add.new.self c.in_ok-add.ensures.granted c.in_ok-add.ensures.added
