use Rattle.std.proofs.Common.{◌≡◌, ℕ, ◌<◌, ◌≤◌, refl, sym, ◌∙◌, subst}
use Rattle.std.proofs.lemmas.Bool.{not-true, not-false, eqb-true, eqb-false}
use Rattle.f2_format.specs.Geometry.{nid_limit}
use Rattle.f2_overlay.proofs.NidChecks.{fit_own, fit_new, too_low, too_great, not_ino, not_own, not_free}
use Rattle.f2_overlay.proofs.nids.is_fit.Goals as goal
use Rattle.f2_overlay.proofs.nids.is_fit.Goals.{then-footer-lt-LEAST_NID-via-then-footer-lt-LEAST_NID, then-footer-lt-LEAST_NID-via-else-footer-lt-LEAST_NID+then-footer-nid_limit, else-footer-eq0-via-then-footer-eq0+else-footer, else-footer-eq0-via-else-footer-eq0}

pub returns-then-footer-lt-LEAST_NID-clause-unfit : goal.returns-then-footer-lt-LEAST_NID-clause-unfit
returns-then-footer-lt-LEAST_NID-clause-unfit c = λ isnt image ckpt place block base is takes.
    elim c.then-footer-lt-LEAST_NID.branch [
      | then-footer-lt-LEAST_NID-via-then-footer-lt-LEAST_NID w ↦ too_low image ckpt c.args.walk.now base c.args.footer.now place block is takes w.if-footer-lt-LEAST_NID.true
      | then-footer-lt-LEAST_NID-via-else-footer-lt-LEAST_NID+then-footer-nid_limit w ↦
          too_great image ckpt c.args.walk.now base c.args.footer.now place block is takes (subst (λ (n : ℕ). n ≤ c.args.footer.now.nid) w.nid_limit.ensures w.if-footer-nid_limit.true)
    ]

pub returns-then-footer-clause-unfit : goal.returns-then-footer-clause-unfit
returns-then-footer-clause-unfit c = λ isnt image ckpt place block base is takes.
    not_ino image ckpt c.args.walk.now base c.args.footer.now place block is takes c.if-footer-eq0.true c.if-footer.true

pub returns-in-Some-clause-fit : goal.returns-in-Some-clause-fit
returns-in-Some-clause-fit c = λ same image ckpt base.
    let most : c.args.footer.now.nid < nid_limit c.args.walk.now.zones.geom = subst (λ (n : ℕ). c.args.footer.now.nid < n) c.nid_limit.ensures c.if-footer-nid_limit.false in
    let inode : c.args.footer.now.offset ≡ 0 → c.args.footer.now.nid ≡ c.args.footer.now.ino = elim c.else-footer-eq0.branch [
      | else-footer-eq0-via-then-footer-eq0+else-footer w ↦ λ first. w.if-footer.false
      | else-footer-eq0-via-else-footer-eq0 w ↦ λ first. absurd (w.if-footer-eq0.false first)
    ] in
    fit_own image ckpt c.args.walk.now base c.args.footer.now.ino c.args.footer.now.offset c.args.footer.now.nid c.if-footer-lt-LEAST_NID.false most inode
    c.in-Some.own (c.in-Some.ensures.is image ckpt base) (eqb-true _ _ same)

pub returns-in-Some-clause-unfit : goal.returns-in-Some-clause-unfit
returns-in-Some-clause-unfit c = λ differs image ckpt place block base is takes.
    not_own image ckpt c.args.walk.now base c.args.footer.now place block is takes c.in-Some.own (c.in-Some.ensures.is image ckpt base) (eqb-false _ _ differs)

pub returns-in-None-clause-fit : goal.returns-in-None-clause-fit
returns-in-None-clause-fit c = λ free image ckpt base.
    let most : c.args.footer.now.nid < nid_limit c.args.walk.now.zones.geom = subst (λ (n : ℕ). c.args.footer.now.nid < n) c.nid_limit.ensures c.if-footer-nid_limit.false in
    let inode : c.args.footer.now.offset ≡ 0 → c.args.footer.now.nid ≡ c.args.footer.now.ino = elim c.else-footer-eq0.branch [
      | else-footer-eq0-via-then-footer-eq0+else-footer w ↦ λ first. w.if-footer.false
      | else-footer-eq0-via-else-footer-eq0 w ↦ λ first. absurd (w.if-footer-eq0.false first)
    ] in
    fit_new image ckpt c.args.walk.now base c.args.footer.now.ino c.args.footer.now.offset c.args.footer.now.nid c.if-footer-lt-LEAST_NID.false most inode
    (λ own node. c.in-None.ensures.none refl image ckpt own base node) (sym c.has_nid.ensures ∙ not-true c.has_nid.result free)

pub returns-in-None-clause-unfit : goal.returns-in-None-clause-unfit
returns-in-None-clause-unfit c = λ held image ckpt place block base is takes.
    not_free image ckpt c.args.walk.now base c.args.footer.now place block is takes
    (λ own node. c.in-None.ensures.none refl image ckpt own base node) (sym c.has_nid.ensures ∙ not-false c.has_nid.result held)
