use Rattle.std.proofs.Common.{Global, Vec, ◌≡◌, ℕ, ◌+◌, ◌/◌, List, [], ◌∷◌, ◌++◌, ◌-◌, length, set, get_or, map, take, sym, ap, ◌∙◌, subst, arith}
use Rattle.std.proofs.lemmas.List.{map_more, get_or_default}
use Rattle.f2_format.specs.Bytes.{zeros}
use Rattle.f2_format.specs.Dentry.{Dentry, with_dentry}
use Rattle.f2_format.specs.Packing.{slots_of_name}
use Rattle.f2_dentry_block.specs.Dents.{dentry_of}
use Rattle.f2_dentry_block.specs.Packed.{HasNameLength}
use Rattle.f2_dentry_block.specs.declared.dents.Dent.{Dent}
use Rattle.f2_dentry_block.proofs.PackedBlocks.{begun, IsPacked, IsPacked-nothing, IsPacked-fits, IsPacked-next}
use Rattle.f2_dentry_block.proofs.packing.pack.Goals as goal
use Rattle.f2_dentry_block.proofs.packing.pack.Goals.{then-taken-slots-gt-SLOTS_A_BLOCK+in_ok-push, else-taken-slots-gt-SLOTS_A_BLOCK}

-- the same for equal lists and an equal number
moved : (dentries others : List Dentry) (blocks more : List (List ℕ)) (taken to : ℕ) → others ≡ dentries → more ≡ blocks → to ≡ taken → IsPacked dentries blocks taken
    → IsPacked others more to
moved dentries others blocks more taken to same same_blocks same_taken packed =
    subst (λ (ds : List Dentry). IsPacked ds more to) (sym same)
    (subst (λ (bs : List (List ℕ)). IsPacked dentries bs to) (sym same_blocks) (subst (λ (n : ℕ). IsPacked dentries blocks n) (sym same_taken) packed))

pub loop-dent-init : goal.loop-dent-init
loop-dent-init c = subst (λ (bs : List (List ℕ)). IsPacked [] bs 214) (sym c.new-blocks.ensures.items) IsPacked-nothing

pub loop-dent-preserved : goal.loop-dent-preserved
unfolding zeros
loop-dent-preserved c =
    let names = c.args.names.now in
    let i = c.loop-dent.dent-index in
    let blocks = c.loop-dent.blocks.items in
    let taken = c.loop-dent.taken in
    let dent = c.dent-item.result in
    let dentry = dentry_of dent in
    let before = map dentry_of (take i names) in
    let all : map dentry_of (take (i + 1) names) ≡ before ++ dentry ∷ [] =
    map_more dentry_of names i dent c.loop-dent-test.true ∙ ap (λ (d : Dent). before ++ dentry_of d ∷ []) (sym c.dent-item.is) in
    let long : HasNameLength dent.name = subst (λ (d : Dent). HasNameLength d.name) (sym c.dent-item.is) (c.requires i dent c.loop-dent-test.true) in
    let slots : c.slots_of_len-slots.result ≡ slots_of_name dent.name = c.slots_of_len-slots.ensures ∙ ap (λ (n : ℕ). (n + 7) / 8) c.len.ensures in
    elim c.if-taken-slots-gt-SLOTS_A_BLOCK.branch [
      | then-taken-slots-gt-SLOTS_A_BLOCK+in_ok-push w ↦
          let full = w.if-taken-slots-gt-SLOTS_A_BLOCK.true in
          let block = w.put_dent.new.b in
          let pushed = ap (λ (v : Vec (List ℕ) Global). v.items) w.blocks-is ∙ w.in_ok-push.ensures.items in
          moved (before ++ dentry ∷ []) (map dentry_of (take (i + 1) names)) (blocks ++ block ∷ []) c.if-taken-slots-gt-SLOTS_A_BLOCK.blocks.items
          (slots_of_name dent.name) c.if-taken-slots-gt-SLOTS_A_BLOCK.taken all pushed (w.taken-is ∙ slots)
          (IsPacked-next before blocks taken dentry block c.loop-dent.invariant long (omega arith) w.put_dent.ensures)
      | else-taken-slots-gt-SLOTS_A_BLOCK w ↦
          let fits = w.if-taken-slots-gt-SLOTS_A_BLOCK.false in
          let block = w.put_dent-else-taken-slots-gt-SLOTS_A_BLOCK.new.b in
          let old = w.index_mut.result.now in
          let last = length blocks - 1 in
          let size = c.loop-dent.blocks.ok.0 in
          let count = w.len-last.ensures in
          let place : w.len-last.result - 1 ≡ last = omega arith in
          let packed = c.loop-dent.invariant.packed in
          let some = begun before (length blocks) taken dentry packed long (omega arith) in
          let changed : c.if-taken-slots-gt-SLOTS_A_BLOCK.blocks.items ≡ set blocks last block =
          ap (λ (v : Vec (List ℕ) Global). v.items) w.blocks-is ∙ ap (λ (k : ℕ). set blocks k block) place in
          let was : old ≡ get_or blocks last [] =
          w.index_mut.ensures.value ∙ ap (λ (k : ℕ). get_or blocks k old) place ∙ get_or_default blocks last old [] (omega arith) in
          moved (before ++ dentry ∷ []) (map dentry_of (take (i + 1) names)) (set blocks last block) c.if-taken-slots-gt-SLOTS_A_BLOCK.blocks.items
          (taken + slots_of_name dent.name) c.if-taken-slots-gt-SLOTS_A_BLOCK.taken all changed (w.taken-is ∙ ap (λ (n : ℕ). taken + n) slots)
          (IsPacked-fits before blocks taken dentry block c.loop-dent.invariant long (omega arith)
          (w.put_dent-else-taken-slots-gt-SLOTS_A_BLOCK.ensures ∙ ap (λ (b : List ℕ). with_dentry b taken dentry) was))
    ]
