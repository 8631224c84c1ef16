-- What a read gives after a write or a flush.
use Rattle.std.proofs.Common.{◌≡◌, ◌≢◌, inl, inr, ℕ, zero, suc, ◌-◌, ◌<◌, List, [], ◌∷◌, ◌++◌, length, refl, ap, ◌∙◌, arith}
use Rattle.std.specs.Prelude.{slice_set, insert}
use Rattle.std.proofs.lemmas.List.{get_or-set_same, get_or-set_other, get_or_at, length-append}
use Rattle.f2_disk.specs.Contents.{Contents, IsWritten, IsWriteFailed, list_at, last_of, flushed}
use Rattle.f2_image_laws.specs.Chained.{contents_at}
use Rattle.f2_stored.specs.Changes.{Wrote}

-- another list in the place of one leaves the others
other_set : (lists : Contents) (at : ℕ) (list : List (List ℕ)) (new : Contents) → new ≡ slice_set lists at list → (other : ℕ) → other ≢ at → contents_at new other ≡ contents_at lists other
other_set lists at list new is other apart = ap (λ all. contents_at all other) is ∙ get_or-set_other lists at other list ([] ∷ []) apart

pub written_other : (lists new : Contents) (at : ℕ) (content : List ℕ) → IsWritten at content lists new → (other : ℕ) → other ≢ at → contents_at new other ≡ contents_at lists other
written_other lists new at content (inl is) = other_set lists at (list_at lists at ++ content ∷ []) new is
written_other lists new at content (inr is) = other_set lists at (content ∷ []) new is

failed_other : (lists new : Contents) (at : ℕ) (content : List ℕ) → IsWriteFailed at content lists new → (other : ℕ) → other ≢ at → contents_at new other ≡ contents_at lists other
failed_other lists new at content (inl is) other apart = ap (λ all. contents_at all other) is
failed_other lists new at content (inr (inl is)) other apart = other_set lists at (list_at lists at ++ content ∷ []) new is other apart
failed_other lists new at content (inr (inr is)) other apart = other_set lists at (insert (list_at lists at) (length (list_at lists at) - 1) content) new is other apart

pub wrote_other : (lists new : Contents) (at : ℕ) (content : List ℕ) → Wrote lists at content new → (other : ℕ) → other ≢ at → contents_at new other ≡ contents_at lists other
wrote_other lists new at content (inl made) = written_other lists new at content made
wrote_other lists new at content (inr failed) = failed_other lists new at content failed

-- the last of a list is what was put at its end
last_pushed : (list : List (List ℕ)) (content : List ℕ) → last_of (list ++ content ∷ []) ≡ content
last_pushed list content =
    let long : length list ≡ length (list ++ content ∷ []) - 1 = let sum = length-append list (content ∷ []) in omega (arith, sum) in
    get_or_at list content [] [] (length (list ++ content ∷ []) - 1) long

-- a read gives what was written
pub written_here : (lists new : Contents) (at : ℕ) (content : List ℕ) → at < length lists → IsWritten at content lists new → last_of (contents_at new at) ≡ content
written_here lists new at content within (inl is) =
    ap (λ all. last_of (contents_at all at)) is ∙ ap last_of (get_or-set_same lists at (list_at lists at ++ content ∷ []) ([] ∷ []) within) ∙ last_pushed (list_at lists at) content
written_here lists new at content within (inr is) = ap (λ all. last_of (contents_at all at)) is ∙ ap last_of (get_or-set_same lists at (content ∷ []) ([] ∷ []) within)

-- a flush changes no read
pub flushed_reads : (lists : Contents) (at : ℕ) → last_of (contents_at (flushed lists) at) ≡ last_of (contents_at lists at)
flushed_reads [] at = refl
flushed_reads (list ∷ lists) zero = refl
flushed_reads (list ∷ lists) (suc at) = flushed_reads lists at
