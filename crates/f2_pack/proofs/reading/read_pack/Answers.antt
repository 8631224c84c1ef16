use Rattle.std.proofs.Common.{◌≡◌, List, ℕ, ap, sym, subst, ◌∙◌}
use Rattle.f2_format.specs.Pack.{IsPack, head_of}
use Rattle.f2_pack.specs.Packs.{value_of}
use Rattle.f2_pack.specs.declared.heads.Head.{Head}
use Rattle.f2_pack.specs.declared.packs.Pack.{Pack}
use Rattle.f2_pack.proofs.Found.{found_as, pack_with}
use Rattle.f2_pack.proofs.reading.read_pack.Goals as goal

-- a pack of equal parts
pack_is : (head : Head) (block summary bytes : List ℕ) → head ≡ value_of (head_of block) → summary ≡ bytes → record { head = head; summary = summary } ≡ pack_with block bytes
pack_is head block summary bytes p q = ap (λ (h : Head). made h summary) p ∙ ap (made (value_of (head_of block))) q
  where
    made : Head → List ℕ → Pack
    made h s = record { head = h; summary = s }

pub returns-clause-pack : goal.returns-clause-pack
returns-clause-pack g c =
    let head = c.read_block.new.into in
    let tail = c.read_block-2.new.into in
    let summary = c.read_block-3.new.into in
    let first = c.read_block.ensures.reads.kept in
    let second = c.read_block-2.ensures.reads.kept in
    let same : head ≡ tail = sym c.deref-2.ensures ∙ c.is_same.ensures.0 c.if-not-is_same.false ∙ c.deref-3.ensures in
    let valid : IsPack c.args.g.now head head =
    subst (λ (h : List ℕ). IsPack c.args.g.now h h) c.deref.ensures (c.is_head.ensures.0 c.if-not-is_head.false) in
    let fields = c.read_head.ensures ∙ ap (λ (b : List ℕ). value_of (head_of b)) c.deref-4.ensures in
    found_as (record { head = c.read_head.result; summary = c.deref-5.result.now })
    (g.D.Disk.contents c.args.disk.now) (g.D.Disk.contents c.read_block.new.disk) (g.D.Disk.contents c.read_block-2.new.disk) c.args.g.now c.args.side c.start-start.result
    head tail summary (pack_is c.read_head.result head c.deref-5.result.now summary fields c.deref-5.ensures) c.start-start.ensures.place first (second ∙ first)
    c.in_ok-read_block.ensures.content c.in_ok-read_block-2.ensures.content c.in_ok-read_block-3.ensures.content same valid
