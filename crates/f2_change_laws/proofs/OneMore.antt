-- One content more at one address of a disk: what a write leaves, made or failed.
use Rattle.std.proofs.Common.{◌≡◌, ◌≢◌, ◌⊎◌, inl, inr, ℕ, zero, suc, ◌-◌, ◌<◌, List, [], ◌∷◌, ◌++◌, length, set, get_or, take, All, refl, sym, ap, ◌∙◌, subst, arith}
use Rattle.std.specs.List.{Contains, insert}
use Rattle.std.proofs.lemmas.Bool.{cases_eq}
use Rattle.std.proofs.lemmas.List.{length-set, length_push, get_or-set_same, get_or-set_other, get_or_push, get_or_default}
use Rattle.std.proofs.lemmas.List.Edits.{length-insert}
use Rattle.std.proofs.lemmas.List.Elements.{All-set, All-take, All-drop, All-contains, All-contains_itself, Contains-get_or, Contains-push_cases, Contains-append_cases}
use Rattle.f2_disk.specs.Contents.{Contents, IsBlock, IsWhole, IsWritten, IsWriteFailed, list_at, last_of}
use Rattle.f2_image_laws.specs.Chained.{contents_at}
use Rattle.f2_change_laws.proofs.Fewer.{Fewer, fewer_same}

pub record IsOneMore (lists new : Contents) (at : ℕ) (content : List ℕ) : Type 0 where
  pub size : length new ≡ length lists
  pub other : (k : ℕ) → k ≢ at → contents_at new k ≡ contents_at lists k
  pub from : (c : List ℕ) → Contains (contents_at new at) c → Contains (contents_at lists at) c ⊎ (c ≡ content)
  pub whole : IsWhole (length lists) lists → IsBlock content → IsWhole (length new) new

-- a list's members, the first one or one of the rest
first_or_rest : {X : Type 0} (x : X) (xs : List X) (y : X) → Contains (x ∷ xs) y → (x ≡ y) ⊎ Contains xs y
first_or_rest x xs y (zero, small, is) = inl is
first_or_rest x xs y (suc k, small, is) = inr (k, omega (arith, small), is)

in_none : {X : Type 0} (x : X) → ¬ (Contains [] x)
in_none x (k, small, is) = omega (arith, small)

in_pushed : (list : List (List ℕ)) (content c : List ℕ) → Contains (list ++ content ∷ []) c → Contains list c ⊎ (c ≡ content)
in_pushed list content c found = elim (Contains-push_cases list content c found) [ inl old ↦ inl old | inr is ↦ inr (sym is) ]

in_one : (list : List (List ℕ)) (content c : List ℕ) → Contains (content ∷ []) c → Contains list c ⊎ (c ≡ content)
in_one list content c found = elim (first_or_rest content [] c found) [ inl is ↦ inr (sym is) | inr none ↦ absurd (in_none c none) ]

in_inserted : (list : List (List ℕ)) (place : ℕ) (content c : List ℕ) → Contains (insert list place content) c → Contains list c ⊎ (c ≡ content)
in_inserted list place content c found =
    elim (Contains-append_cases (take place list) _ c found) [
      | inl front ↦ inl (All-contains (Contains list) _ c (All-take (Contains list) place list (All-contains_itself list)) front)
      | inr back ↦
          elim (first_or_rest content _ c back) [
            | inl is ↦ inr (sym is)
            | inr rest ↦ inl (All-contains (Contains list) _ c (All-drop (Contains list) place list (All-contains_itself list)) rest)
          ]
    ]

-- another list at one address
list_set : (lists : Contents) (at : ℕ) (list : List (List ℕ)) (content : List ℕ) → at < length lists → 0 < length list
    → ((c : List ℕ) → Contains list c → Contains (list_at lists at) c ⊎ (c ≡ content)) → IsOneMore lists (set lists at list) at content
list_set lists at list content inside some from = record {
  size = length-set lists at list;
  other = λ k apart. get_or-set_other lists at k list ([] ∷ []) apart;
  from = λ c found. subst (λ (old : List (List ℕ)). Contains old c ⊎ (c ≡ content)) (get_or_default lists at [] ([] ∷ []) inside)
      (from c (subst (λ (l : List (List ℕ)). Contains l c) (get_or-set_same lists at list ([] ∷ []) inside) found));
  whole = λ whole block. record {
    size = refl;
    held = All-set (λ (l : List (List ℕ)). 0 < length l) lists at list some whole.held;
    contents = All-set (All IsBlock) lists at list (blocks whole block) whole.contents;
  };
}
  where
    blocks : IsWhole (length lists) lists → IsBlock content → All IsBlock list
    blocks whole block k d small = elim (from _ (Contains-get_or list k d small)) [
      | inl old ↦ All-contains IsBlock (list_at lists at) _ (whole.contents at [] inside) old
      | inr is ↦ subst IsBlock (sym is) block
    ]

nothing_more : (lists : Contents) (at : ℕ) (content : List ℕ) → IsOneMore lists lists at content
nothing_more lists at content = record { size = refl; other = λ k apart. refl; from = λ c found. inl found; whole = λ whole block. whole }

pushed_more : (lists : Contents) (at : ℕ) (content : List ℕ) → at < length lists → IsOneMore lists (set lists at (list_at lists at ++ content ∷ [])) at content
pushed_more lists at content inside = list_set lists at _ content inside (omega (arith, length_push (list_at lists at) content)) (in_pushed (list_at lists at) content)

pub written_more : (lists new : Contents) (at : ℕ) (content : List ℕ) → at < length lists → IsWritten at content lists new → IsOneMore lists new at content
written_more lists new at content inside is =
    elim is [
      | inl e ↦ subst (λ (n : Contents). IsOneMore lists n at content) (sym e) (pushed_more lists at content inside)
      | inr e ↦ subst (λ (n : Contents). IsOneMore lists n at content) (sym e) (list_set lists at (content ∷ []) content inside (omega arith) (in_one (list_at lists at) content))
    ]

pub failed_more : (lists new : Contents) (at : ℕ) (content : List ℕ) → at < length lists → IsWriteFailed at content lists new → IsOneMore lists new at content
failed_more lists new at content inside is =
    elim is [
      | inl e ↦ subst (λ (n : Contents). IsOneMore lists n at content) (sym e) (nothing_more lists at content)
      | inr more ↦
          elim more [
            | inl e ↦ subst (λ (n : Contents). IsOneMore lists n at content) (sym e) (pushed_more lists at content inside)
            | inr e ↦ subst (λ (n : Contents). IsOneMore lists n at content) (sym e)
                (list_set lists at _ content inside (omega (arith, length-insert (list_at lists at) (length (list_at lists at) - 1) content (omega arith))) (in_inserted (list_at lists at) _ content))
          ]
    ]

-- a write that was made gives its block to reads
last_set : (lists : Contents) (at : ℕ) (list : List (List ℕ)) (content : List ℕ) → at < length lists → last_of list ≡ content → last_of (contents_at (set lists at list) at) ≡ content
last_set lists at list content inside last = ap last_of (get_or-set_same lists at list ([] ∷ []) inside) ∙ last

pub written_last : (lists new : Contents) (at : ℕ) (content : List ℕ) → at < length lists → IsWritten at content lists new → last_of (contents_at new at) ≡ content
written_last lists new at content inside is =
    elim is [
      | inl e ↦ ap (λ (n : Contents). last_of (contents_at n at)) e
          ∙ last_set lists at _ content inside (get_or_push (list_at lists at) content [] _ (omega (arith, length_push (list_at lists at) content)))
      | inr e ↦ ap (λ (n : Contents). last_of (contents_at n at)) e ∙ last_set lists at (content ∷ []) content inside refl
    ]

module _ (lists new : Contents) (at : ℕ) (content : List ℕ) (more : IsOneMore lists new at content) where
  -- what holds of each content, and of the one more where it stands
  pub more_all : (P : List ℕ → Type 0) (k : ℕ) → (k ≡ at → P content) → All P (contents_at lists k) → All P (contents_at new k)
  more_all P k one all = elim (cases_eq k at) [ inl here ↦ at_it here | inr apart ↦ subst (λ (l : List (List ℕ)). All P l) (sym (more.other k apart)) all ]
    where
      at_it : k ≡ at → All P (contents_at new k)
      at_it here j d small = elim (more.from _ (subst (λ i. Contains (contents_at new i) (get_or (contents_at new k) j d)) here (Contains-get_or (contents_at new k) j d small))) [
        | inl old ↦ All-contains P (contents_at lists k) _ all (subst (λ i. Contains (contents_at lists i) (get_or (contents_at new k) j d)) (sym here) old)
        | inr is ↦ subst P (sym is) (one here)
      ]

  pub more_off : (k : ℕ) → k ≢ at → Fewer lists new k
  more_off k apart = fewer_same lists new k (more.other k apart)
