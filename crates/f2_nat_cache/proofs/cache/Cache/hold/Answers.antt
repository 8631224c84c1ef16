use Rattle.std.proofs.Common.{ℕ, ◌<◌, List, Option, Some, None, Box, Global, length, get_or, set, get_or-set_same, is_some, map, ap, ◌∙◌, arith}
use Rattle.std.specs.Option.{option_map}
use Rattle.f2_format.specs.Geometry.{nat_address}
use Rattle.f2_nat_cache.specs.Table.{Table, copy_address}
use Rattle.f2_nat_cache.proofs.Kept.{kept_held, block_at, held_more, held_itself, told_same}
use Rattle.f2_nat_cache.proofs.Parts.{same_table}
use Rattle.f2_nat_cache.proofs.cache.Cache.hold.Goals as goal

pub returns-clause-held : goal.returns-clause-held
returns-clause-held g c =
    let held = map (option_map (λ (b : Box (List ℕ) Global). b.value)) c.self.inside.held.items in
    let within : c.args.block < length held = omega (arith, c.self.invariant.blocks, c.requires.block, ap (λ (t : Table). t.geom.nat) c.self.view_is) in
    let content : Option (List ℕ) = Some c.read.new.into in
    ap (λ (h : List (Option (List ℕ))). is_some (get_or h c.args.block None)) (held_more c.self.inside.held.items c.args.block _)
    ∙ ap is_some (get_or-set_same held c.args.block content None within)

pub returns-clause-others : goal.returns-clause-others
returns-clause-others g c =
    let within : c.args.block < length c.args.self.now.held = omega (arith, c.self.invariant.blocks, c.requires.block, ap (λ (t : Table). t.geom.nat) c.self.view_is, ap (λ (t : Table). length t.held) c.self.view_is) in
    same_table (ap (λ (t : Table). t.geom) c.self.view_is) (ap (λ (t : Table). t.bitmap) c.self.view_is) (ap (λ (t : Table). t.journal) c.self.view_is) (ap (λ (t : Table). t.dirty) c.self.view_is)
    (held_itself c.self.inside.held.items c.args.block _ c.args.self.now.held (ap (λ (t : Table). t.held) c.self.view_is) within)
    (ap (λ (t : Table). t.clean) c.self.view_is) (ap (λ (t : Table). t.spare) c.self.view_is) (ap (λ (t : Table). t.room) c.self.view_is)

pub returns-clause-still_kept : goal.returns-clause-still_kept
returns-clause-still_kept g c =
    let told = g.D.Disk.contents c.args.disk.now in
    let within : c.args.block < length c.args.self.now.held = omega (arith, c.self.invariant.blocks, c.requires.block, ap (λ (t : Table). t.geom.nat) c.self.view_is, ap (λ (t : Table). length t.held) c.self.view_is) in
    let here =
    c.nat_at-at.ensures.value ∙ ap (nat_address c.self.inside.geometry c.args.block) c.get.ensures
    ∙ ap (λ (t : Table). copy_address t c.args.block) c.self.view_is in
    told_same _ told _ c.in_ok-read.ensures.kept
    (kept_held c.args.self.now _ told c.args.block c.read.new.into within
    (ap (λ (t : Table). t.geom) c.self.view_is) (ap (λ (t : Table). t.bitmap) c.self.view_is) (ap (λ (t : Table). t.clean) c.self.view_is)
    (held_more c.self.inside.held.items c.args.block _ ∙ ap (λ (t : Table). set t.held c.args.block (Some c.read.new.into)) c.self.view_is)
    c.requires.kept (block_at c.args.self.now told c.args.block c.nat_at-at.result c.read.new.into here c.in_ok-read.ensures.content))
