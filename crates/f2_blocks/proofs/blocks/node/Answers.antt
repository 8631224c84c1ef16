use Rattle.std.proofs.Common.{◌<◌, ◌∙◌, arith}
use Rattle.f2_format.specs.Offsets.{direct_slot, node_slots}
use Rattle.f2_blocks.proofs.Fields.{word_of-page}
use Rattle.f2_blocks.proofs.OnWays.{has_node-within}
use Rattle.f2_blocks.proofs.Shape.{in_slot}
use Rattle.f2_blocks.proofs.blocks.node.Goals as goal

pub put_slots-requires-clause-limit : goal.put_slots-requires-clause-limit
put_slots-requires-clause-limit g c = has_node-within (g.P.PageAddresses.addresses c.args.index.now) c.args.offset c.requires.there

pub returns-then-offset-eq0-clause-pages : goal.returns-then-offset-eq0-clause-pages
returns-then-offset-eq0-clause-pages g c = λ page direct. absurd (let slot = in_slot page c.args.offset direct in omega arith)

pub returns-else-offset-eq0-clause-pages : goal.returns-else-offset-eq0-clause-pages
returns-else-offset-eq0-clause-pages g c = λ page direct.
    let within : direct_slot page < node_slots = omega arith in
    c.put_slots.ensures.reads_back (direct_slot page) within ∙ word_of-page (g.P.PageAddresses.addresses c.args.index.now) c.args.nids.now page c.args.offset direct
