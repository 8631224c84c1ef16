-- Laws of what calls of a disk do to what it holds.
use Rattle.std.proofs.Common.{◌≡◌, ℕ, zero, suc, ◌<◌, List, [], ◌∷◌, length, replicate, set, All, Option, None, Some, refl, arith, ap, ◌∙◌, inr}
use Rattle.std.specs.List.{slice_index}
use Rattle.std.proofs.lemmas.List.{length-map, length-replicate, map-set}
use Rattle.std.proofs.lemmas.List.Elements.{All-map, All-cons, All-nil, All-weaker}
use Rattle.f2_disk.specs.Contents.{Contents, IsBlock, IsWhole, IsWritten, WhereTold, alone, latest, last_of, flushed, zeros}

-- a list of zeros has nothing else, also past its end
zero_at : (n at : ℕ) → slice_index (replicate n 0) at ≡ 0
zero_at zero at = refl
zero_at (suc n) zero = refl
zero_at (suc n) (suc at) = zero_at n at

zeros_size : length zeros ≡ 4096
unfolding zeros
zeros_size = length-replicate {A = ℕ} 4096 0

zeros_byte : (at : ℕ) → slice_index zeros at < 256
unfolding zeros
zeros_byte at = omega (arith, zero_at 4096 at)

-- the block of zeros is a block
pub zeros_block : IsBlock zeros
zeros_block = record { size = zeros_size; bytes = zeros_byte }

-- blocks with one content each are whole
pub whole_alone : (image : List (List ℕ)) → All IsBlock image → IsWhole (length image) (alone image)
whole_alone image blocks =
    let single = λ (content : List ℕ). content ∷ [] in
    record {
      size = length-map image single;
      held = All-map (λ list. 0 < length list) single image (λ k d h. omega arith);
      contents = All-map (All IsBlock) single image
          (All-weaker IsBlock (λ content. All IsBlock (single content)) (λ x block. All-cons IsBlock x [] block (All-nil IsBlock)) image blocks);
    }

-- their newest contents are those
pub latest_alone : (image : List (List ℕ)) → latest (alone image) ≡ image
latest_alone [] = refl
latest_alone (content ∷ image) = ap (λ rest. content ∷ rest) (latest_alone image)

-- a write over the one content of a block
pub written_alone : (at : ℕ) (content : List ℕ) (image : List (List ℕ)) → IsWritten at content (alone image) (alone (set image at content))
written_alone at content image = inr (map-set (λ c. c ∷ []) image at content)

-- a flush leaves as many blocks
pub length-flushed : (lists : Contents) → length (flushed lists) ≡ length lists
length-flushed lists = length-map (latest lists) (λ content. content ∷ []) ∙ length-map lists last_of

-- what is told stays
pub told_same : (told : Option Contents) (R : Contents → Contents → Type 0) → ((c : Contents) → R c c) → WhereTold told told R
told_same None R same = tt
told_same (Some c) R same = same c

-- what holds between two contents, weakened
pub told_weaker : (old new : Option Contents) (R S : Contents → Contents → Type 0) → ((a b : Contents) → R a b → S a b)
    → WhereTold old new R → WhereTold old new S
told_weaker None None R S weaker told = tt
told_weaker None (Some b) R S weaker told = told
told_weaker (Some a) None R S weaker told = told
told_weaker (Some a) (Some b) R S weaker told = weaker a b told

-- one call, and then another
pub told_then : (old mid new : Option Contents) (R S T : Contents → Contents → Type 0)
    → ((a b c : Contents) → R a b → S b c → T a c) → WhereTold old mid R → WhereTold mid new S → WhereTold old new T
told_then None None None R S T join first second = tt
told_then None None (Some c) R S T join first second = second
told_then None (Some b) new R S T join first second = absurd first
told_then (Some a) None new R S T join first second = absurd first
told_then (Some a) (Some b) None R S T join first second = second
told_then (Some a) (Some b) (Some c) R S T join first second = join a b c first second
