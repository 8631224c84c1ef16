-- The fields of an inode that a file's inode is made of.
use Rattle.std.proofs.Common.{◌≡◌, ℕ, ◌+◌, ◌-◌, ◌<◌, ◌^◌, zero, suc, get_or, cond, Some, List, [], ◌∷◌, ◌++◌, length, take, ap, sym, ◌∙◌, arith}
use Rattle.std.proofs.lemmas.List.{take_at}
use Rattle.f2_format.specs.Bytes.{zeros}
use Rattle.f2_format.specs.Offsets.{direct_of, direct_slot, node_slots}
use Rattle.f2_blocks.specs.Blocks.{Numbered, address_of, nid_of, word_of}
use Rattle.f2_blocks.specs.Slots.{IsSlotsOf, word_in}
use Rattle.f2_blocks.specs.Tree.{node_at, first_page_of}
use Rattle.f2_blocks.specs.declared.tree.Slots.{Slots}
use Rattle.f2_blocks.specs.declared.tree.Slots.TheVariants.{Pages, Nodes}
use Rattle.f2_blocks.proofs.Shape.{in_slot}

-- a padded name is padded once
pub padded-twice : (name padded : List ℕ) (len : ℕ) → padded ≡ name ++ zeros (255 - length name) → len ≡ length name
    → take len padded ++ zeros (255 - len) ≡ name ++ zeros (255 - length name)
padded-twice name padded len is long =
    ap (λ xs. take len xs ++ zeros (255 - len)) is
    ∙ ap (λ xs. xs ++ zeros (255 - len)) (take_at name (zeros (255 - length name)) len (sym long))
    ∙ ap (λ n. name ++ zeros (255 - n)) long

-- the word in a slot, from what the slots stand for
pub word_in-is : (pages nids : Numbered) (offset : ℕ) (slots : Slots) (slot : ℕ) → IsSlotsOf offset slots → slot < node_slots → word_in pages nids slots slot ≡ word_of pages nids offset slot
word_in-is pages nids offset (Pages first) slot are within =
    ap (λ n. address_of pages (n + slot)) are.is
    ∙ sym (ap (λ b. cond b (nid_of pages nids (node_at offset slot)) (address_of pages (first_page_of offset + slot))) are.kind)
word_in-is pages nids offset (Nodes first apart) slot are within =
    ap (nid_of pages nids) (are.each slot within)
    ∙ sym (ap (λ b. cond b (nid_of pages nids (node_at offset slot)) (address_of pages (first_page_of offset + slot))) are.kind)

-- the page in its slot of a direct node
pub word_of-page : (pages nids : Numbered) (page d : ℕ) → direct_of page ≡ Some d → word_of pages nids d (direct_slot page) ≡ address_of pages page
word_of-page pages nids page d direct =
    let slot = in_slot page d direct in
    ap (λ b. cond b (nid_of pages nids (node_at d (direct_slot page))) (address_of pages (first_page_of d + direct_slot page))) slot.kind
    ∙ ap (address_of pages) slot.page_is

-- five words that fit in 32 bits
pub five_fit : (a b c d e : ℕ) → a < 2 ^ 32 → b < 2 ^ 32 → c < 2 ^ 32 → d < 2 ^ 32 → e < 2 ^ 32 → (k : ℕ) → get_or (a ∷ b ∷ c ∷ d ∷ e ∷ []) k 0 < 2 ^ 32
five_fit a b c d e p q r s t zero = p
five_fit a b c d e p q r s t (suc zero) = q
five_fit a b c d e p q r s t (suc (suc zero)) = r
five_fit a b c d e p q r s t (suc (suc (suc zero))) = s
five_fit a b c d e p q r s t (suc (suc (suc (suc zero)))) = t
five_fit a b c d e p q r s t (suc (suc (suc (suc (suc k))))) = omega arith
