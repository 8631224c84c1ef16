use Rattle.std.proofs.Common.{◌≡◌, ◌≢◌, ◌⊎◌, inl, inr, sym, ap, ◌∙◌}
use Rattle.f2_format.specs.Geometry.{ImageGeometry, is_in_data}
use Rattle.f2_image.specs.Faults as faults
use Rattle.f2_model.proofs.MapViews.{seen-insert}
use Rattle.f2_overlay.specs.declared.owners.Owner.{Owner}
use Rattle.f2_overlay.proofs.Maps.{not_none, one_some}
use Rattle.f2_overlay.proofs.owners.Owners.claim.Goals as goal
use Rattle.f2_overlay.proofs.owners.Owners.claim.Goals.{in-Some+else-other-owner+else-other-owner-2, in_default}

other_page : (other owner : Owner) → (other.ino ≢ owner.ino) ⊎ ((other.ino ≡ owner.ino) × (other.page ≢ owner.page)) → (owner.ino ≢ other.ino) ⊎ (owner.page ≢ other.page)
other_page other owner (inl ino) = inl (λ e. ino (sym e))
other_page other owner (inr page) = inr (λ e. page.1 (sym e))

same_owner : (a b c : Owner) → a ≡ b → b.ino ≡ c.ino → b.page ≡ c.page → a ≡ c
same_owner a b c e ino page = e ∙ whole
  where
    whole : b ≡ c
    whole i = record { ino = ino i; page = page i }

pub returns-then-not-in_data-clause-fault : goal.returns-then-not-in_data-clause-fault
returns-then-not-in_data-clause-fault c image ckpt has sizes right is =
    faults.page has c.args.owner.ino c.args.owner.page is (ap (λ (e : ImageGeometry). is_in_data e c.args.at) sizes ∙ sym c.if-not-in_data.ensures)

pub returns-then-other-owner-clause-fault : goal.returns-then-other-owner-clause-fault
returns-then-other-owner-clause-fault c image ckpt has sizes right is =
    let found = sym c.get.ensures ∙ c.in-Some.is in
    (has, faults.pages c.args.owner.ino c.args.owner.page c.in-Some.other.ino c.in-Some.other.page is (right.only c.args.at c.in-Some.other found) (other_page c.in-Some.other c.args.owner c.then-other-owner.either))

pub returns-clause-alone : goal.returns-clause-alone
returns-clause-alone c other there =
    elim c.match-get.branch [
      | in-Some+else-other-owner+else-other-owner-2 w ↦
          same_owner other w.in-Some.other c.args.owner (one_some other w.in-Some.other (sym there ∙ sym c.get.ensures ∙ w.in-Some.is)) w.if-other-owner.false w.if-other-owner-2.false
      | in_default w ↦ absurd (not_none other (sym w.in_default.is ∙ c.get.ensures ∙ there))
    ]

pub returns-clause-put : goal.returns-clause-put
returns-clause-put c = seen-insert _ _ c.self.view_is _ c.args.at c.args.owner c.in_ok-insert.ensures.updates.0
