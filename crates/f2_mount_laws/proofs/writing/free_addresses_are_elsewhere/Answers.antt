use Rattle.f2_mount_laws.proofs.Elsewhere.{are_elsewhere, pages_elsewhere, nodes_elsewhere}
use Rattle.f2_mount_laws.proofs.writing.free_addresses_are_elsewhere.Goals as goal

pub returns-clause-begin : goal.returns-clause-begin
returns-clause-begin c = are_elsewhere

pub returns-clause-pages : goal.returns-clause-pages
returns-clause-pages c = pages_elsewhere

pub returns-clause-nodes : goal.returns-clause-nodes
returns-clause-nodes c = nodes_elsewhere
