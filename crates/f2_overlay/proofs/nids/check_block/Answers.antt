use Rattle.std.proofs.Common.{◌≡◌, ℕ, sym, ap, ◌∙◌, subst}
use Rattle.std.specs.Prelude.{Result, Ok, Err, slice_index_or}
use Rattle.std.specs.Result.{OnOk, IfErr}
use Rattle.std.specs.FinSet as set
use Rattle.std.proofs.lemmas.List.{get_or_read}
use Rattle.f2_footer.specs.declared.Footer.{Footer}
use Rattle.f2_image.specs.Chains.{Logged, block_in, no_block}
use Rattle.f2_image.specs.Faults.{HasTable, IsShared}
use Rattle.f2_overlay.specs.Nids.{IsFitNid, IsClaimed, IsClaimFault}
use Rattle.f2_overlay.proofs.BasedNids.{has_table}
use Rattle.f2_overlay.proofs.LastPlaces.{footer_read}
use Rattle.f2_overlay.proofs.NidChecks.{is_shared, passed_more, taken_more, claim_fault}
use Rattle.f2_overlay.proofs.nids.check_block.Goals as goal

pub returns-then-has_node-clause-fault : goal.returns-then-has_node-clause-fault
returns-then-has_node-clause-fault c = λ image ckpt base whole to.
    let log = c.args.log.now in
    let at : (slice_index_or log c.args.place no_block).at ≡ c.logged.inside.at =
    sym (ap (λ (l : Logged). l.at) (c.logged.view_is ∙ get_or_read log c.args.place c.index-log-place.result c.requires.within c.index-log-place.is no_block)) in
    subst (λ (n : ℕ). HasTable ckpt × IsShared image ckpt n) at
    (is_shared image ckpt c.args.walk.now base log whole c.args.place c.requires.within c.args.owners.now to (ap (set.contains c.args.walk.now.zones.nodes) at ∙ sym c.if-has_node.ensures))

pub returns-then-not-takes_at-clause-checked : goal.returns-then-not-takes_at-clause-checked
returns-then-not-takes_at-clause-checked c = λ image ckpt base whole to.
    let log = c.args.log.now in
    let at : (slice_index_or log c.args.place no_block).at ≡ c.logged.inside.at =
    sym (ap (λ (l : Logged). l.at) (c.logged.view_is ∙ get_or_read log c.args.place c.index-log-place.result c.requires.within c.index-log-place.is no_block)) in
    let free = ap (set.contains c.args.walk.now.zones.nodes) at ∙ sym c.if-has_node.ensures in
    passed_more image ckpt c.args.walk.now base log whole c.args.place c.requires.within c.args.owners.now to free (c.takes_at.ensures.passed c.if-not-takes_at.true image ckpt whole)

pub returns-then-not-is_fit-clause-fault : goal.returns-then-not-is_fit-clause-fault
returns-then-not-is_fit-clause-fault c = λ image ckpt base whole to.
    let log = c.args.log.now in
    let takes = c.takes_at.ensures.taken c.if-not-takes_at.false image ckpt whole in
    let footer = footer_read log c.args.place c.index-log-place.result c.deref.result.now c.read-footer.result c.requires.within c.index-log-place.is
    (c.deref.ensures ∙ ap (λ (l : Logged). l.block) c.logged.view_is) c.read-footer.ensures in
    (has_table image ckpt c.args.walk.now base, c.is_fit.ensures.unfit c.if-not-is_fit.true image ckpt c.args.place (block_in log c.args.place) base footer takes)

on_ok : {A E : Type 0} (r : Result A E) (P Q : Type 0) → OnOk r P → (P → Q) → OnOk r Q
on_ok (Ok a) P Q p f = f p
on_ok (Err e) P Q p f = tt

pub returns-clause-checked : goal.returns-clause-checked
returns-clause-checked c =
    let log = c.args.log.now in
    let place = c.args.place in
    let at : (slice_index_or log c.args.place no_block).at ≡ c.logged.inside.at =
    sym (ap (λ (l : Logged). l.at) (c.logged.view_is ∙ get_or_read log c.args.place c.index-log-place.result c.requires.within c.index-log-place.is no_block)) in
    let free = ap (set.contains c.args.walk.now.zones.nodes) at ∙ sym c.if-has_node.ensures in
    let footer = footer_read log place c.index-log-place.result c.deref.result.now c.read-footer.result c.requires.within c.index-log-place.is
    (c.deref.ensures ∙ ap (λ (l : Logged). l.block) c.logged.view_is) c.read-footer.ensures in
    on_ok c.claim.result _ _ c.claim.ensures.claimed (λ claimed image ckpt base whole to.
    taken_more image ckpt c.args.walk.now base log whole place c.requires.within c.args.owners.now to free c.claim.new.owners (c.takes_at.ensures.taken c.if-not-takes_at.false image ckpt whole)
    (subst (λ (f : Footer). IsFitNid image ckpt f.ino f.offset f.nid) footer (c.is_fit.ensures.fit c.if-not-is_fit.false image ckpt base))
    (subst (λ (f : Footer). IsClaimed c.args.owners.now c.claim.new.owners f.nid (record { ino = f.ino; offset = f.offset })) footer claimed))

if_err : {A E : Type 0} (r : Result A E) (P Q : E → Type 0) → IfErr r P → ((e : E) → P e → Q e) → IfErr r Q
if_err (Ok a) P Q p f = tt
if_err (Err e) P Q p f = f e p

pub returns-clause-fault : goal.returns-clause-fault
returns-clause-fault c =
    let log = c.args.log.now in
    let place = c.args.place in
    let footer = footer_read log place c.index-log-place.result c.deref.result.now c.read-footer.result c.requires.within c.index-log-place.is
    (c.deref.ensures ∙ ap (λ (l : Logged). l.block) c.logged.view_is) c.read-footer.ensures in
    if_err c.claim.result _ _ c.claim.ensures.fault (λ fault wrong image ckpt base whole to.
    claim_fault image ckpt c.args.walk.now base log whole place c.requires.within c.args.owners.now to fault (c.takes_at.ensures.taken c.if-not-takes_at.false image ckpt whole)
    (subst (λ (f : Footer). IsClaimFault c.args.owners.now f.nid (record { ino = f.ino; offset = f.offset }) fault) footer wrong))
