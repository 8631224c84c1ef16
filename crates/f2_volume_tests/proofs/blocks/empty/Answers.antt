use Rattle.std.proofs.Common.{ap, sym, subst}
use Rattle.f2_index.specs.Paged.{Paged}
use Rattle.f2_blocks.specs.Blocks.{HaveNids}
use Rattle.f2_blocks.proofs.OnWays.{has_node-inode, HaveNids-none}
use Rattle.f2_volume_tests.proofs.blocks.empty.Goals as goal

pub returns-clause-nids : goal.returns-clause-nids
returns-clause-nids c = subst (λ pages. HaveNids pages c.new-2.result) (sym (ap (λ (i : Paged). i.pages) c.new.ensures)) (HaveNids-none c.new-2.result)

pub returns-clause-there : goal.returns-clause-there
returns-clause-there c = has_node-inode c.new.result.pages
