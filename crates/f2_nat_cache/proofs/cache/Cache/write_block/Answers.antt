use Rattle.std.proofs.Common.{◌≡◌, ℕ, List, Some, None, Box, Global, true, false, is_some, map, ap, sym, ◌∙◌}
use Rattle.std.specs.Option.{option_map}
use Rattle.f2_nat_cache.specs.Table.{Table, with_pending}
use Rattle.f2_nat_cache.specs.declared.cache.Cache.TheInside.{Inside}
use Rattle.f2_nat_cache.proofs.Kept.{held_read, held_written, read_as, some_within}
use Rattle.f2_nat_cache.proofs.Parts.{same_table}
use Rattle.f2_nat_cache.proofs.cache.Cache.write_block.Goals as goal
use Rattle.f2_nat_cache.proofs.cache.Cache.write_block.Goals.{in-Some, in_default}

pub returns-clause-held : goal.returns-clause-held
returns-clause-held c =
    let t = c.args.self.now in
    let held = ap (λ (t : Table). t.held) c.self.view_is in
    let dirty = ap (λ (t : Table). t.dirty) c.self.view_is in
    let journal = ap (λ (t : Table). t.journal) c.self.view_is in
    let within = some_within t.held c.args.block c.requires in
    elim c.match-index_mut.branch [
      | in-Some w ↦
          let here = held_read c.self.inside.held.items c.args.block (Some w.in-Some.held) t.held held within (read_as c.self.inside.held.items c.args.block c.index_mut.result.now (Some w.in-Some.held) c.index_mut.ensures.value w.in-Some.is) in
          let written = w.write_pending.ensures.content ∙ (λ i. with_pending (dirty i) (journal i) c.args.block (w.deref_mut.ensures.value i)) in
          same_table
          (ap (λ (i : Inside). i.geometry) w.self-inside-is ∙ ap (λ (t : Table). t.geom) c.self.view_is)
          (ap (λ (i : Inside). i.bitmap) w.self-inside-is ∙ ap (λ (t : Table). t.bitmap) c.self.view_is)
          (ap (λ (i : Inside). i.journal) w.self-inside-is ∙ journal)
          (ap (λ (i : Inside). i.dirty.entries) w.self-inside-is ∙ dirty)
          (ap (λ (i : Inside). map (option_map (λ (b : Box (List ℕ) Global). b.value)) i.held.items) w.self-inside-is ∙ held_written t c.self.inside.held.items c.args.block _ w.in-Some.held.value held here written)
          (ap (λ (i : Inside). i.clean.entries) w.self-inside-is ∙ ap (λ (t : Table). t.clean) c.self.view_is)
          (ap (λ (i : Inside). i.dirty.spare) w.self-inside-is ∙ ap (λ (t : Table). t.spare) c.self.view_is)
          (ap (λ (i : Inside). i.clean.room) w.self-inside-is ∙ ap (λ (t : Table). t.room) c.self.view_is)
      | in_default w ↦
          let here = held_read c.self.inside.held.items c.args.block None t.held held within (read_as c.self.inside.held.items c.args.block c.index_mut.result.now None c.index_mut.ensures.value w.in_default.is) in
          let wrong : ◌≡◌ false true = ap is_some (sym here) ∙ c.requires in
          cc
    ]
