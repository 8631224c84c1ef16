use Rattle.f2_image_laws.proofs.Chain.{contents_are_list, chain_is_first_part}
use Rattle.f2_image_laws.proofs.chained.chains_of_disks.Goals as goal

pub returns-clause-contents : goal.returns-clause-contents
returns-clause-contents c = contents_are_list

pub returns-clause-chains : goal.returns-clause-chains
returns-clause-chains c = λ lists version start next most positions log image is fits. chain_is_first_part lists image is version start next most positions log fits
