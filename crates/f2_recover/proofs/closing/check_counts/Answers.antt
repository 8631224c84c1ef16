use Rattle.std.proofs.Common.{◌∙◌, sym, ap, arith}
use Rattle.f2_format.specs.Geometry.{node_third, data_third}
use Rattle.f2_recover.proofs.Counted.{too_many_nodes, too_many_pages}
use Rattle.f2_recover.proofs.closing.check_counts.Goals as goal

pub returns-then-node_count-nodes-clause-fault : goal.returns-then-node_count-nodes-clause-fault
returns-then-node_count-nodes-clause-fault c image ckpt inos ino offset page has sizes are =
    (has, too_many_nodes image ckpt inos ino offset page c.args.zones.now are _ (c.cn-nodes.ensures.value ∙ ap node_third (sym sizes)) (omega (arith, c.node_count.ensures, c.if-node_count-nodes.true)))

pub returns-then-page_count-pages-clause-fault : goal.returns-then-page_count-pages-clause-fault
returns-then-page_count-pages-clause-fault c image ckpt inos ino offset page has sizes are =
    (has, too_many_pages image ckpt inos ino offset page c.args.zones.now are _ (c.cd-pages.ensures.value ∙ ap data_third (sym sizes)) (omega (arith, c.page_count.ensures, c.if-page_count-pages.true)))
