use Rattle.std.proofs.Common.{◌≡◌, ℕ, true, false, refl, sym, subst}
use Rattle.f2_plain_read.proofs.Newest.{plain_pack, ckpt_is}
use Rattle.f2_plain_read.proofs.Telling.{tells_on, fault_came}
use Rattle.f2_plain_read.specs.Points.{IsPlain}
use Rattle.f2_plain_read.proofs.ckpt.read_point.Goals as goal

no_test : false ≡ true → ⊥
no_test e = cc

pub returns-clause-found : goal.returns-clause-found
returns-clause-found g c image t tree stored laid =
    ckpt_is image c.in_ok-geometry.geometry c.in_ok-pack.pack c.in_ok-pack.side
    (c.in_ok-geometry.ensures.sized image t) (c.in_ok-pack.ensures.newest image (tells_on _ _ image c.in_ok-geometry.ensures.reads.kept t))
    tree stored laid _ refl refl refl c.get-second.ensures c.nat.ensures.sound.least_nat

pub returns-in_err-geometry-clause-bad : goal.returns-in_err-geometry-clause-bad
returns-in_err-geometry-clause-bad g c e image t tree stored few laid = c.in_err-geometry.ensures.bad (fault_came _ _ _ c.from_residual.ensures.1 e) image t laid.0.geom laid.1.checkpoint.sized

pub returns-then-not-is_plain-clause-bad : goal.returns-then-not-is_plain-clause-bad
returns-then-not-is_plain-clause-bad g c e image t tree stored few laid =
    let plain = plain_pack image c.in_ok-geometry.geometry c.in_ok-pack.pack c.in_ok-pack.side
    (c.in_ok-geometry.ensures.sized image t) (c.in_ok-pack.ensures.newest image (tells_on _ _ image c.in_ok-geometry.ensures.reads.kept t))
    tree stored laid c.get-second.result c.get-second.ensures c.nat.ensures.sound.least_nat few in
    no_test (c.if-not-is_plain.ensures.1 (subst (λ (n : ℕ). IsPlain c.in_ok-pack.pack n c.get-second.result) (sym c.nat.ensures.value) plain))
