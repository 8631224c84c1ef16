use Rattle.f2_image.specs.Chains.{chain}
use Rattle.f2_image.proofs.ChainLemmas.{chain_from-ends}
use Rattle.f2_image.proofs.laws.chains_end.Goals as goal

pub returns : goal.returns
unfolding chain
returns c = λ image ckpt. chain_from-ends image _ _ _
