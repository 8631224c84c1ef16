use Rattle.std.proofs.Common.{arith}
use Rattle.f2_model.specs.declared.replies.Space.TheVariants.{Data}
use Rattle.f2_flat.proofs.Told.{told_none, data_within}
use Rattle.f2_flat.proofs.rooms.grant_data.Goals as goal

pub returns-then-most-from : goal.returns-then-most-from
returns-then-most-from c =
    let most = data_within c.args.tree.now c.args.counts c.requires.files c.requires.counts in
    told_none Data _ _ (omega (arith, most))

pub overflow_add-need : goal.overflow_add-need
overflow_add-need c =
    let most = data_within c.args.tree.now c.args.counts c.requires.files c.requires.counts in
    omega (arith, most)
