-- Blocks of an image that were written.
use Rattle.std.proofs.Common.{◌≡◌, ◌≢◌, ◌⊎◌, inl, inr, ℕ, zero, suc, ◌<◌, List, [], ◌∷◌, length, set, get_or, map, refl, sym, ap, ◌∙◌, arith}
use Rattle.std.specs.List.{Contains, AllByRecursion}
use Rattle.std.proofs.lemmas.Bool.{cases_eq, cases_lt}
use Rattle.std.proofs.lemmas.List.{length-set, get_or-set_same, get_or-set_other, set_past}
use Rattle.f2_image.specs.Images.{Image, block_at}
use Rattle.f2_image.specs.Reached.{AllDiffer}
use Rattle.f2_laid.specs.Planned.{put_all, Writes}
use Rattle.f2_laid.specs.declared.planned.Planned.{Planned}

-- one of a longer list is its first or one of the rest
pub first_or_rest : {X : Type 0} (y : X) (ys : List X) (x : X) → Contains (y ∷ ys) x → (y ≡ x) ⊎ Contains ys x
first_or_rest {X} y ys x found = by_place found.0 found.1 found.2
  where
    by_place : (k : ℕ) → k < length (y ∷ ys) → get_or (y ∷ ys) k x ≡ x → (y ≡ x) ⊎ Contains ys x
    by_place zero less is = inl is
    by_place (suc k) less is = inr (k, omega arith, is)

pub in_first : {X : Type 0} (y : X) (ys : List X) → Contains (y ∷ ys) y
in_first y ys = (0, omega arith, refl)

pub in_rest : {X : Type 0} (y : X) (ys : List X) (x : X) → Contains ys x → Contains (y ∷ ys) x
in_rest y ys x found = (suc found.0, omega (arith, found.1), found.2)

pub in_none : {X : Type 0} (x : X) → Contains [] x → ⊥
in_none x found = omega (arith, found.1)

-- what a list has at a place after another place of it, or the same, was set
pub set_cases : {X : Type 0} (xs : List X) (at k : ℕ) (x d : X) → (get_or (set xs at x) k d ≡ get_or xs k d) ⊎ ((k ≡ at) × (get_or (set xs at x) k d ≡ x))
set_cases {X} xs at k x d = elim (cases_eq k at) [ inl e ↦ here e | inr apart ↦ inl (get_or-set_other xs at k x d apart) ]
  where
    here : k ≡ at → (get_or (set xs at x) k d ≡ get_or xs k d) ⊎ ((k ≡ at) × (get_or (set xs at x) k d ≡ x))
    here e =
        elim (cases_lt at (length xs)) [
          | inl within ↦ inr (e, ap (λ i. get_or (set xs at x) i d) e ∙ get_or-set_same xs at x d within)
          | inr past ↦ inl (ap (λ ys. get_or ys k d) (set_past xs at x past))
        ]

-- addresses of blocks that are to be written
abbrev pub addresses : List Planned → List ℕ
addresses plan = map (λ (one : Planned). one.at) plan

planned_at : (one : Planned) (at : ℕ) → at ≡ one.at → record { at = at; block = one.block } ≡ one
planned_at one at e = ap (λ a. made a) e
  where
    made : ℕ → Planned
    made a = record { at = a; block = one.block }

pub writes_first : (one : Planned) (rest : List Planned) (at : ℕ) (bytes : List ℕ) → at ≡ one.at → bytes ≡ one.block → Writes (one ∷ rest) at bytes
writes_first one rest at bytes e f = (0, omega arith, sym (ap (λ b. made at b) f ∙ planned_at one at e))
  where
    made : ℕ → List ℕ → Planned
    made a b = record { at = a; block = b }

pub length-put_all : (plan : List Planned) (image : Image) → length (put_all image plan) ≡ length image
length-put_all [] image = refl
length-put_all (one ∷ rest) image = length-put_all rest (set image one.at one.block) ∙ length-set image one.at one.block

-- a block after writes is as it was, or one of those written
pub put_all-cases : (plan : List Planned) (image : Image) (at : ℕ) → (block_at (put_all image plan) at ≡ block_at image at) ⊎ Writes plan at (block_at (put_all image plan) at)
put_all-cases [] image at = inl refl
put_all-cases (one ∷ rest) image at =
    elim (put_all-cases rest (set image one.at one.block) at) [
      | inr written ↦ inr (in_rest one rest _ written)
      | inl same ↦
          elim (set_cases image one.at at one.block []) [
            | inl kept ↦ inl (same ∙ kept)
            | inr here ↦ inr (writes_first one rest at (block_at (put_all (set image one.at one.block) rest) at) here.0 (same ∙ here.1))
          ]
    ]

-- no address of these is that one
apart_from : (a : ℕ) (plan : List Planned) → AllByRecursion (λ y. a ≢ y) (addresses plan) → (at : ℕ) (bytes : List ℕ) → Writes plan at bytes → a ≢ at
apart_from a [] apart at bytes found = absurd (in_none _ found)
apart_from a (one ∷ rest) apart at bytes found =
    elim (first_or_rest one rest _ found) [
      | inl is ↦ λ e. apart.0 (e ∙ sym (ap (λ (p : Planned). p.at) is))
      | inr later ↦ apart_from a rest apart.1 at bytes later
    ]

-- a block that isn't written stays
pub put_all-other : (plan : List Planned) (image : Image) (at : ℕ) → ((bytes : List ℕ) → Writes plan at bytes → ⊥) → block_at (put_all image plan) at ≡ block_at image at
put_all-other plan image at none = elim (put_all-cases plan image at) [ inl same ↦ same | inr written ↦ absurd (none _ written) ]

-- where each address is written once, the block there is the one that was written
pub put_all-written : (plan : List Planned) (image : Image) (at : ℕ) (bytes : List ℕ) → AllDiffer (addresses plan) → Writes plan at bytes → at < length image → block_at (put_all image plan) at ≡ bytes
put_all-written [] image at bytes differ found within = absurd (in_none _ found)
put_all-written (one ∷ rest) image at bytes differ found within =
    elim (first_or_rest one rest _ found) [
      | inl is ↦ first is
      | inr later ↦ put_all-written rest (set image one.at one.block) at bytes differ.1 later (omega (arith, length-set image one.at one.block))
    ]
  where
    first : one ≡ record { at = at; block = bytes } → block_at (put_all (set image one.at one.block) rest) at ≡ bytes
    first is =
        let here : one.at ≡ at = ap (λ (p : Planned). p.at) is in
        put_all-other rest (set image one.at one.block) at (λ other written. apart_from one.at rest differ.0 at other written here)
        ∙ ap (λ a. block_at (set image a one.block) at) here
        ∙ get_or-set_same image at one.block [] within
        ∙ ap (λ (p : Planned). p.block) is

-- an address has one block at most that is written there
pub written_once : (plan : List Planned) (at : ℕ) (a b : List ℕ) → AllDiffer (addresses plan) → Writes plan at a → Writes plan at b → a ≡ b
written_once [] at a b differ first second = absurd (in_none _ first)
written_once (one ∷ rest) at a b differ first second =
    elim (first_or_rest one rest _ first) [
      | inl is ↦
          elim (first_or_rest one rest _ second) [
            | inl too ↦ sym (ap (λ (p : Planned). p.block) is) ∙ ap (λ (p : Planned). p.block) too
            | inr later ↦ absurd (apart_from one.at rest differ.0 at b later (ap (λ (p : Planned). p.at) is))
          ]
      | inr later ↦
          elim (first_or_rest one rest _ second) [
            | inl too ↦ absurd (apart_from one.at rest differ.0 at a later (ap (λ (p : Planned). p.at) too))
            | inr much ↦ written_once rest at a b differ.1 later much
          ]
    ]
