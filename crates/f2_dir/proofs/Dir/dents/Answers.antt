use Rattle.std.proofs.Common.{◌++◌, ap, sym, append-nil, ◌∙◌}
use Rattle.std.specs.Map.Iter.{deref_pair}
use Rattle.std.proofs.lemmas.Map.Iter.{rest_all}
use Rattle.f2_dir.specs.Entries.{Entries, dents_of}
use Rattle.f2_dir.proofs.Listed.{dents_in, dents_of-view}
use Rattle.f2_dir.proofs.Dir.dents.Goals as goal

pub returns : goal.returns
returns c =
    let items = c.loop-name.dents.items in
    let ended = rest_all deref_pair c.loop-name.name-iterator c.next.new.self c.next.result c.in-None.is c.next.ensures.steps in
    sym (append-nil items) ∙ ap (λ es. items ++ dents_in (λ k. k.items) es) (sym ended) ∙ c.loop-name.invariant
    ∙ sym (dents_of-view (λ k. k.items) c.self.inside.entries.entries c.len.ensures.ordered)
    ∙ ap (λ (v : Entries). dents_of v) c.self.view_is
