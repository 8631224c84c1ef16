-- Addresses at which a disk has no other contents than before.
use Rattle.std.proofs.Common.{◌≡◌, ℕ, List, [], ◌∷◌, All, ◌∙◌, subst}
use Rattle.std.specs.List.{Contains}
use Rattle.std.proofs.lemmas.List.Elements.{All-contains, Contains-get_or}
use Rattle.f2_disk.specs.Contents.{Contents}
use Rattle.f2_image_laws.specs.Chained.{contents_at}

-- each content at an address was there before, and one that was alone there still is
pub record Fewer (lists new : Contents) (at : ℕ) : Type 0 where
  pub from : (content : List ℕ) → Contains (contents_at new at) content → Contains (contents_at lists at) content
  pub one : (content : List ℕ) → contents_at lists at ≡ content ∷ [] → contents_at new at ≡ content ∷ []

-- what holds of each content still does
pub fewer_all : (lists new : Contents) (at : ℕ) (P : List ℕ → Type 0) → Fewer lists new at → All P (contents_at lists at) → All P (contents_at new at)
fewer_all lists new at P fewer all k d small =
    All-contains P (contents_at lists at) _ all (fewer.from _ (Contains-get_or (contents_at new at) k d small))

-- nothing changed there
pub fewer_same : (lists new : Contents) (at : ℕ) → contents_at new at ≡ contents_at lists at → Fewer lists new at
fewer_same lists new at same = record {
  from = λ content found. subst (λ (list : List (List ℕ)). Contains list content) same found;
  one = λ content alone. same ∙ alone;
}
