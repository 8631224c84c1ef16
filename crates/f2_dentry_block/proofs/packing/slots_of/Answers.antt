use Rattle.std.proofs.Common.{◌≡◌, ℕ, ◌+◌, ◌-◌, ◌/◌, ◌^◌, min, List, [], ◌∷◌, ◌++◌, map, take, sym, ap, ◌∙◌, subst, arith}
use Rattle.std.proofs.lemmas.List.{map_more, take_all}
use Rattle.f2_format.specs.Dentry.{Dentry}
use Rattle.f2_format.specs.Packing.{blocks_of_names, slots_of_name}
use Rattle.f2_dentry_block.specs.Dents.{dentry_of}
use Rattle.f2_dentry_block.specs.Packed.{HasNameLength, names_of}
use Rattle.f2_dentry_block.specs.declared.dents.Dent.{Dent}
use Rattle.f2_dentry_block.proofs.PackedBlocks.{IsCounted, IsCounted-nothing, IsCounted-fits, IsCounted-next, blocks_of_names-counted}
use Rattle.f2_dentry_block.proofs.packing.slots_of.Goals as goal
use Rattle.f2_dentry_block.proofs.packing.slots_of.Goals.{then-taken-slots-gt-SLOTS_A_BLOCK, else-taken-slots-gt-SLOTS_A_BLOCK}

-- the same for an equal list and equal numbers
moved : (dentries others : List Dentry) (blocks more taken to : ℕ) → others ≡ dentries → more ≡ blocks → to ≡ taken → IsCounted dentries blocks taken → IsCounted others more to
moved dentries others blocks more taken to same same_blocks same_taken counted =
    subst (λ (ds : List Dentry). IsCounted ds more to) (sym same)
    (subst (λ (n : ℕ). IsCounted dentries n to) (sym same_blocks) (subst (λ (n : ℕ). IsCounted dentries blocks n) (sym same_taken) counted))

pub loop-dent-init : goal.loop-dent-init
loop-dent-init c = IsCounted-nothing

pub loop-dent-preserved : goal.loop-dent-preserved
loop-dent-preserved c =
    let names = c.args.names.now in
    let i = c.loop-dent.dent-index in
    let dent = c.dent-item.result in
    let dentry = dentry_of dent in
    let before = map dentry_of (take i names) in
    let all : map dentry_of (take (i + 1) names) ≡ before ++ dentry ∷ [] =
    map_more dentry_of names i dent c.loop-dent-test.true ∙ ap (λ (d : Dent). before ++ dentry_of d ∷ []) (sym c.dent-item.is) in
    let long : HasNameLength dent.name = subst (λ (d : Dent). HasNameLength d.name) (sym c.dent-item.is) (c.requires i dent c.loop-dent-test.true) in
    let slots : c.slots_of_len-slots.result ≡ slots_of_name dent.name = c.slots_of_len-slots.ensures ∙ ap (λ (n : ℕ). (n + 7) / 8) c.len.ensures in
    elim c.if-taken-slots-gt-SLOTS_A_BLOCK.branch [
      | then-taken-slots-gt-SLOTS_A_BLOCK w ↦
          let full = w.if-taken-slots-gt-SLOTS_A_BLOCK.true in
          let more : w.saturating_add-blocks.result ≡ min (c.loop-dent.blocks + 1) (2 ^ 32 - 1) = w.saturating_add-blocks.ensures in
          moved (before ++ dentry ∷ []) (map dentry_of (take (i + 1) names)) w.saturating_add-blocks.result c.if-taken-slots-gt-SLOTS_A_BLOCK.blocks
          (slots_of_name dent.name) c.if-taken-slots-gt-SLOTS_A_BLOCK.taken all w.blocks-is (w.taken-is ∙ slots)
          (IsCounted-next before c.loop-dent.blocks c.loop-dent.taken dentry w.saturating_add-blocks.result c.loop-dent.invariant long (omega arith) more)
      | else-taken-slots-gt-SLOTS_A_BLOCK w ↦
          let fits = w.if-taken-slots-gt-SLOTS_A_BLOCK.false in
          moved (before ++ dentry ∷ []) (map dentry_of (take (i + 1) names)) c.loop-dent.blocks c.if-taken-slots-gt-SLOTS_A_BLOCK.blocks
          (c.loop-dent.taken + slots_of_name dent.name) c.if-taken-slots-gt-SLOTS_A_BLOCK.taken all w.blocks-is (w.taken-is ∙ ap (λ (n : ℕ). c.loop-dent.taken + n) slots)
          (IsCounted-fits before c.loop-dent.blocks c.loop-dent.taken dentry c.loop-dent.invariant long (omega arith))
    ]

pub returns : goal.returns
returns c =
    blocks_of_names-counted (map dentry_of (take c.loop-dent.dent-index c.args.names.now)) c.loop-dent.blocks c.loop-dent.taken c.loop-dent.invariant
    ∙ ap (λ (ds : List Dent). min (blocks_of_names (names_of (map dentry_of ds))) (2 ^ 32 - 1)) (take_all c.loop-dent.dent-index c.args.names.now c.loop-dent-test.false)
