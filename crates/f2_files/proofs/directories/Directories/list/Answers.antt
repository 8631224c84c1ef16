use Rattle.std.proofs.Common.{◌≡◌, ◌∙◌, sym, subst}
use Rattle.std.specs.Prelude.{IfOk}
use Rattle.std.specs.FinMap as map
use Rattle.f2_dir.specs.Entries.{Entries}
use Rattle.f2_laws.proofs.Walks.{some_same, some_none}
use Rattle.f2_model.proofs.MapViews.{lookup-seen}
use Rattle.f2_files.proofs.directories.Directories.list.Goals as goal

pub returns-in-Some : goal.returns-in-Some
returns-in-Some c = λ names is.
    let same : c.in-Some.names.now ≡ names = some_same (c.in-Some.ensures.value ∙ lookup-seen _ _ c.self.view_is c.args.directory ∙ is) in
    subst (λ (n : Entries). IfOk c.list.result (λ list. list ≡ map.keys n)) same c.list.ensures

pub returns-in-None : goal.returns-in-None
returns-in-None c = λ names is. absurd (some_none (sym is ∙ sym (lookup-seen _ _ c.self.view_is c.args.directory) ∙ sym c.in-None.ensures.value))
