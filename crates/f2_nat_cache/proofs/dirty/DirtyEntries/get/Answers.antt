use Rattle.std.proofs.Common.{ap, sym, ◌∙◌}
use Rattle.std.specs.FinMap as map
use Rattle.f2_nat_cache.specs.Entries.{DirtyTable}
use Rattle.f2_nat_cache.proofs.Tables.{get-view}
use Rattle.f2_nat_cache.proofs.dirty.DirtyEntries.get.Goals as goal

pub returns : goal.returns
returns c =
    c.copied.ensures ∙ c.get.ensures.value ∙ sym (get-view c.self.inside.entries.entries c.args.nid)
    ∙ ap (λ (t : DirtyTable). map.get t.entries c.args.nid) c.self.view_is
