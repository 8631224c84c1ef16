use Rattle.std.proofs.Common.{IsTrue, rules, sym, subst, arith}
use Rattle.f2_flat.specs.Kept.{BindsNames}
use Rattle.f2_flat.proofs.Binds.{names_bound}
use Rattle.f2_flat.proofs.FlatTrees.{files_of, data_third_small}
use Rattle.f2_flat.proofs.Trees.{slots_few, data_of}
use Rattle.f2_flat.proofs.files.Files.of.Goals as goal

pub counts_of-counts-requires-clause-slots : goal.counts_of-counts-requires-clause-slots
counts_of-counts-requires-clause-slots c =
    let is : IsTrue c.is_flat.result = search rules in
    let files = files_of c.args.geometry.now c.is_flat.ensures.sound c.args.tree (c.is_flat.ensures.flat.0 is) in
    let small = slots_few c.args.tree files in
    let few = files.few in
    omega (arith, small, few)

pub counts_of-counts-requires-clause-pages : goal.counts_of-counts-requires-clause-pages
counts_of-counts-requires-clause-pages c =
    let is : IsTrue c.is_flat.result = search rules in
    let all = data_of c.args.tree (files_of c.args.geometry.now c.is_flat.ensures.sound c.args.tree (c.is_flat.ensures.flat.0 is)) in
    let room = c.requires.blocks in
    let small = data_third_small c.args.geometry.now c.is_flat.ensures.sound in
    omega (arith, all, room, small)

pub invariant_of-result : goal.invariant_of-result
invariant_of-result c =
    let is : IsTrue c.is_flat.result = search rules in
    let files = files_of c.args.geometry.now c.is_flat.ensures.sound c.args.tree (c.is_flat.ensures.flat.0 is) in
    record {
      bound = subst (BindsNames c.args.tree) (sym (c.in_ok-names.ensures)) (names_bound c.args.tree files);
      counted = c.counts_of-counts.ensures;
    }
