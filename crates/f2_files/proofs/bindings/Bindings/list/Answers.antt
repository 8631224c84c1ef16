use Rattle.std.proofs.Common.{◌++◌, ap, sym, append-nil, ◌∙◌}
use Rattle.std.specs.Map.Iter.{deref_pair}
use Rattle.std.specs.FinMap as map
use Rattle.std.proofs.lemmas.Map.Iter.{rest_all}
use Rattle.f2_dir.specs.Entries.{Entries}
use Rattle.f2_files.proofs.Placed.{keys-view, names_from}
use Rattle.f2_files.proofs.bindings.Bindings.list.Goals as goal

pub returns : goal.returns
returns c =
    let items = c.loop-name.names.items in
    let ended = rest_all deref_pair c.loop-name.name-iterator c.next.new.self c.next.result c.in-None.is c.next.ensures.steps in
    c.from_vec.ensures ∙ sym (append-nil items) ∙ ap (λ es. items ++ names_from (λ k. k.items) es) (sym ended) ∙ c.loop-name.invariant
    ∙ sym (keys-view (λ k. k.items) c.self.inside.names.entries c.len.ensures.ordered)
    ∙ ap (λ (m : Entries). map.keys m) c.self.view_is
