use Rattle.std.proofs.Common.{◌≡◌, ◌∙◌, ap, sym}
use Rattle.std.specs.Option.{option_copied}
use Rattle.std.specs.FinMap as map
use Rattle.f2_dir.specs.Entries.{Entries}
use Rattle.f2_format.specs.Packing.{blocks_of_names}
use Rattle.f2_laws.proofs.Walks.{some_same, some_none}
use Rattle.f2_model.proofs.MapViews.{lookup-seen}
use Rattle.f2_files.specs.Packed.{and_come, but_gone}
use Rattle.f2_files.proofs.directories.Directories.blocks_after.Goals as goal

pub returns-in-Some : goal.returns-in-Some
returns-in-Some c = λ names is.
    let same : c.in-Some.names.now ≡ names = some_same (c.in-Some.ensures.value ∙ lookup-seen _ _ c.self.view_is c.args.directory ∙ is) in
    c.blocks_after.ensures ∙ ap (λ (n : Entries). blocks_of_names (and_come (option_copied c.args.come) (but_gone (option_copied c.args.gone) (map.keys n)))) same

pub returns-in-None : goal.returns-in-None
returns-in-None c = λ names is. absurd (some_none (sym is ∙ sym (lookup-seen _ _ c.self.view_is c.args.directory) ∙ sym c.in-None.ensures.value))
