use Rattle.f2_plain_save.proofs.Left.{left}
use Rattle.f2_plain_save.proofs.laws.laid_images_stay.Goals as goal

pub returns : goal.returns
returns c = λ image other tree new stored next plan tail _ storable laid after is partly.
    (laid.0, left image other tree new stored next plan tail laid.0 storable laid.1 after is partly)
