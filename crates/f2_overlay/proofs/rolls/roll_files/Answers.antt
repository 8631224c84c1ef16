use Rattle.std.proofs.Common.{◌≡◌, ◌<◌, ◌≤◌, ◌*◌, ℕ, List, length, sym, ap, ◌∙◌, subst, arith}
use Rattle.std.specs.Prelude.{Option}
use Rattle.f2_disk.specs.Contents.{Contents}
use Rattle.f2_format.specs.Geometry.{ImageGeometry, data_third}
use Rattle.f2_image.specs.Images.{Image}
use Rattle.f2_image.specs.Packs.{Checkpoint}
use Rattle.f2_image.specs.Chains.{Logged, chain}
use Rattle.f2_recover.specs.Told.{Tells}
use Rattle.f2_recover.specs.Walking.{IsBaseRead}
use Rattle.f2_recover.specs.declared.walk.Walk.{Walk}
use Rattle.f2_recover.proofs.Telling.{fault_holds}
use Rattle.f2_overlay.specs.Rolling.{IsGround, IsRolledTo}
use Rattle.f2_overlay.specs.declared.marks.Rolling.{Rolling}
use Rattle.f2_overlay.proofs.RightRolls.{right_pages, too_many}
use Rattle.f2_overlay.proofs.rolls.roll_files.Goals as goal

module _ (held : Option Contents) (geom : ImageGeometry) (image : Image) (ckpt : Checkpoint) (walk : Walk) (log : List Logged) (tells : Tells held image) (sizes : ckpt.geom ≡ geom) (base : IsBaseRead image ckpt walk) (same : log ≡ chain image ckpt) where
  ground : IsGround held geom image ckpt walk log
  ground = record { tells = tells; geom_is = sizes; base = base; chain_is = same }

  -- the whole chain was walked
  whole : (rolling : Rolling) → (IsGround held geom image ckpt walk log → IsRolledTo image ckpt walk (length log) rolling) → IsRolledTo image ckpt walk (length (chain image ckpt)) rolling
  whole rolling rolled = subst (λ (l : List Logged). IsRolledTo image ckpt walk (length l) rolling) same (rolled ground)

-- twice a third, by the sizes that the image has
limit_is : (geom : ImageGeometry) (ckpt : Checkpoint) (third : ℕ) → ckpt.geom ≡ geom → third ≡ data_third geom → 2 * third ≡ 2 * data_third ckpt.geom
limit_is geom ckpt third sizes value = ap (λ n. 2 * n) (value ∙ ap data_third (sym sizes))

more_than : (found len limit : ℕ) → found ≡ len → limit < found → limit < len
more_than found len limit same more = omega (arith, same, more)

no_more_than : (found len limit most : ℕ) → found ≡ len → limit ≡ most → found ≤ limit → len ≤ most
no_more_than found len limit most same is few = omega (arith, same, is, few)

pub returns-in_err-rolling-clause-fault : goal.returns-in_err-rolling-clause-fault
returns-in_err-rolling-clause-fault g c =
    fault_holds _ _ _ c.from_residual.ensures.1 (λ image ckpt tells sizes base same fine marks. c.in_err-rolling.ensures.fault image ckpt (ground _ c.args.g.now image ckpt c.args.walk.now c.args.log.now tells sizes base same))

pub returns-then-len-limit-clause-fault : goal.returns-then-len-limit-clause-fault
returns-then-len-limit-clause-fault g c image ckpt tells sizes base same fine marks =
    let rolled = whole _ c.args.g.now image ckpt c.args.walk.now c.args.log.now tells sizes base same c.in_ok-rolling.rolling (c.in_ok-rolling.ensures.rolled image ckpt) in
    (base.has, too_many image ckpt c.args.walk.now c.in_ok-rolling.rolling rolled (2 * c.cd-limit.result) (limit_is c.args.g.now ckpt c.cd-limit.result sizes c.cd-limit.ensures.value) (more_than c.len.result _ _ c.len.ensures.len c.if-len-limit.true))

pub returns-clause-rolls : goal.returns-clause-rolls
returns-clause-rolls g c image ckpt tells sizes base same fine marks =
    (whole _ c.args.g.now image ckpt c.args.walk.now c.args.log.now tells sizes base same c.in_ok-rolling.rolling (c.in_ok-rolling.ensures.rolled image ckpt)).rolls

pub returns-clause-pages : goal.returns-clause-pages
returns-clause-pages g c image ckpt tells sizes base same fine marks =
    let rolled = whole _ c.args.g.now image ckpt c.args.walk.now c.args.log.now tells sizes base same c.in_ok-rolling.rolling (c.in_ok-rolling.ensures.rolled image ckpt) in
    right_pages image ckpt c.args.walk.now c.in_ok-rolling.rolling rolled (no_more_than c.len.result _ (2 * c.cd-limit.result) _ c.len.ensures.len (limit_is c.args.g.now ckpt c.cd-limit.result sizes c.cd-limit.ensures.value) c.if-len-limit.false)
