use Rattle.std.proofs.Common.{◌≤◌, ap, sym, ◌∙◌, arith, length}
use Rattle.std.specs.Prelude.{Option, Some, None}
use Rattle.std.specs.Option.{option_copied}
use Rattle.std.specs.FinMap as map
use Rattle.f2_format.specs.Packing.{nothing_packed, place_after_all}
use Rattle.f2_dir.specs.Entries.{Entries}
use Rattle.f2_files.specs.Packed.{and_come, but_gone, number_of}
use Rattle.f2_files.proofs.Placed.{names_from, keys-view, len-view}
use Rattle.f2_files.proofs.bindings.Bindings.blocks_after.Goals as goal

one_at_most : {X : Type 0} (o : Option X) → number_of o ≤ 1
one_at_most None = omega arith
one_at_most (Some x) = omega arith

pub loop-name-init : goal.loop-name-init
loop-name-init c =
    let gives = c.into_iter-name-iterator.ensures.into_iter_gives in
    let es = c.self.inside.names.entries in
    let count = ap length gives.0 ∙ sym (len-view (λ k. k.items) es gives.5) ∙ ap (λ (m : Entries). map.len m) c.self.view_is in
    let keys = ap (names_from (λ k. k.items)) gives.0 ∙ sym (keys-view (λ k. k.items) es gives.5) ∙ ap (λ (m : Entries). map.keys m) c.self.view_is in
    record {
      whole = ap (λ ks. place_after_all nothing_packed (and_come (option_copied c.args.come) (but_gone (option_copied c.args.gone) ks))) keys;
      few = omega (arith, count, one_at_most c.args.come);
      slots = omega arith;
      fits = omega (arith, gives.1, ap length gives.0, count);
    }
