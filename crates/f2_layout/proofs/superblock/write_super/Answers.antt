use Rattle.std.proofs.Common.{◌∙◌, ℕ, List, ap, sym, subst, arith}
use Rattle.f2_format.specs.Bytes.{zeros}
use Rattle.f2_format.specs.Superblock.{IsSuper, super_geom}
use Rattle.f2_layout.proofs.SuperLemmas.{super_geom-super_block, IsSuper-super_block}
use Rattle.f2_layout.proofs.superblock.write_super.Goals as goal

pub returns-clause-written : goal.returns-clause-written
unfolding zeros
returns-clause-written c = cc

pub returns-clause-reads_back : goal.returns-clause-reads_back
returns-clause-reads_back c =
    let sound = c.nat.ensures.sound in
    let most_blocks = sound.most_blocks in
    let most_nat = sound.most_nat in
    ap super_geom (returns-clause-written c) ∙ super_geom-super_block c.args.g.now (omega arith) (omega arith)

pub returns-clause-right : goal.returns-clause-right
returns-clause-right c device within =
    subst (λ (b : List ℕ). IsSuper b device) (sym (returns-clause-written c))
    (IsSuper-super_block c.args.g.now device c.nat.ensures.sound within)
