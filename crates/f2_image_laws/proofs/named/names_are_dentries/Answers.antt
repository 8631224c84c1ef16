use Rattle.f2_image_laws.proofs.named.names_are_dentries.Goals as goal

pub returns-clause-rows : goal.returns-clause-rows
returns-clause-rows c = λ image ckpt tree base. base.named

pub returns-clause-dentries : goal.returns-clause-dentries
returns-clause-dentries c = λ image ckpt tree base. base.names
