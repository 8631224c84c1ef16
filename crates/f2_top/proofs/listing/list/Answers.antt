use Rattle.std.proofs.Common.{List, ℕ, sym, subst}
use Rattle.f2_play.specs.declared.status.Status.TheVariants.{Done}
use Rattle.f2_top.specs.Listing.{ListsBy}
use Rattle.f2_top.proofs.ListingLemmas.{listed_cut}
use Rattle.f2_top.proofs.listing.list.Goals as goal

pub returns-in-Ok-clause-listed : goal.returns-in-Ok-clause-listed
returns-in-Ok-clause-listed g c =
    listed_cut _ _ _ _ _ _ Done _ c.text_of.ensures.kept
    (subst (λ (text : List ℕ). ListsBy (g.D.Disk.contents c.args.disk.now) (g.D.Disk.meter c.args.disk.now) (g.D.Disk.meter c.text_of.new.disk) Done text)
    (sym c.as_slice.ensures.value) c.in-Ok.ensures.listed) c.in-Err-put.ensures.bytes
