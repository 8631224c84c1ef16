-- What writes leave of what a disk holds.
use Rattle.std.proofs.Common.{◌≡◌, ◌⊎◌, inl, inr, ℕ, zero, suc, ◌+◌, ◌-◌, ◌<◌, List, [], ◌∷◌, ◌++◌, length, set, get_or, take, refl, sym, ap, ◌∙◌, subst, arith}
use Rattle.std.specs.List.{AllZip, Contains, insert}
use Rattle.std.proofs.lemmas.Bool.{cases_eq, cases_lt}
use Rattle.std.proofs.lemmas.List.{length-set, length-map, length_push, get_or-set_same, get_or-set_other, get_or_past, get_or_push, get_or-map, map-set, ext_get_or, take_more}
use Rattle.std.proofs.lemmas.List.Elements.{All-take, All-drop, All-contains, All-contains_itself, Contains-get_or, Contains-push_cases, Contains-append_cases}
use Rattle.f2_disk.specs.Contents.{Contents, list_at, last_of, latest, alone, flushed, IsImage, IsWritten, IsWriteFailed}
use Rattle.std.specs.Prelude.{Option, Result, OnOk, OnErr, option_map}
use Rattle.f2_disk.specs.Contents.{WhereTold}
use Rattle.f2_disk.proofs.ContentsLaws.{latest_alone, told_weaker, told_then}
use Rattle.f2_plain_save.proofs.Told.{either_way, told_flushed, told_kept}
use Rattle.f2_image.specs.Images.{Image, block_at}
use Rattle.f2_laid.specs.Planned.{put_all, Writes}
use Rattle.f2_laid.specs.Laws.{IsPartlyWritten}
use Rattle.f2_laid.specs.declared.planned.Planned.{Planned}
use Rattle.f2_plain_save.specs.Writing.{one_block, OnlyAdds, HasPut, HasSettled, MayLeave, IsPlanWritten, IsPlanLeft}
use Rattle.f2_plain_save.proofs.Written.{first_or_rest, in_none, set_cases, writes_first, length-put_all, put_all-cases}

-- one list of contents was replaced
list_set : (before : Contents) (at : ℕ) (list : List (List ℕ)) (content : List ℕ) → ((c : List ℕ) → Contains list c → Contains (list_at before at) c ⊎ (c ≡ content))
    → OnlyAdds (one_block at content) before (set before at list)
list_set before at list content from = record { size = length-set before at list; held = held }
  where
    held : (k : ℕ) (c : List ℕ) → Contains (list_at (set before at list) k) c → Contains (list_at before k) c ⊎ Writes (one_block at content) k c
    held k c found =
        elim (set_cases before at k list []) [
          | inl same ↦ inl (subst (λ (l : List (List ℕ)). Contains l c) same found)
          | inr here ↦
              elim (from c (subst (λ (l : List (List ℕ)). Contains l c) here.1 found)) [
                | inl old ↦ inl (subst (λ (i : ℕ). Contains (list_at before i) c) (sym here.0) old)
                | inr is ↦ inr (writes_first (record { at = at; block = content }) [] k c here.0 is)
              ]
        ]

in_pushed : (list : List (List ℕ)) (content c : List ℕ) → Contains (list ++ content ∷ []) c → Contains list c ⊎ (c ≡ content)
in_pushed list content c found = elim (Contains-push_cases list content c found) [ inl old ↦ inl old | inr is ↦ inr (sym is) ]

in_one : (list : List (List ℕ)) (content c : List ℕ) → Contains (content ∷ []) c → Contains list c ⊎ (c ≡ content)
in_one list content c found = elim (first_or_rest content [] c found) [ inl is ↦ inr (sym is) | inr none ↦ absurd (in_none c none) ]

in_inserted : (list : List (List ℕ)) (place : ℕ) (content c : List ℕ) → Contains (insert list place content) c → Contains list c ⊎ (c ≡ content)
in_inserted list place content c found =
    elim (Contains-append_cases (take place list) _ c found) [
      | inl front ↦ inl (All-contains (Contains list) _ c (All-take (Contains list) place list (All-contains_itself list)) front)
      | inr back ↦
          elim (first_or_rest content _ c back) [
            | inl is ↦ inr (sym is)
            | inr rest ↦ inl (All-contains (Contains list) _ c (All-drop (Contains list) place list (All-contains_itself list)) rest)
          ]
    ]

-- a write adds its block alone
pub written_adds : (at : ℕ) (content : List ℕ) (before after : Contents) → IsWritten at content before after → OnlyAdds (one_block at content) before after
written_adds at content before after is =
    elim is [
      | inl e ↦ subst (OnlyAdds (one_block at content) before) (sym e) (list_set before at _ content (in_pushed (list_at before at) content))
      | inr e ↦ subst (OnlyAdds (one_block at content) before) (sym e) (list_set before at _ content (in_one (list_at before at) content))
    ]

pub adds_none : (plan : List Planned) (before : Contents) → OnlyAdds plan before before
adds_none plan before = record { size = refl; held = λ at content found. inl found }

pub failed_adds : (at : ℕ) (content : List ℕ) (before after : Contents) → IsWriteFailed at content before after → OnlyAdds (one_block at content) before after
failed_adds at content before after is =
    elim is [
      | inl e ↦ subst (OnlyAdds (one_block at content) before) (sym e) (adds_none (one_block at content) before)
      | inr more ↦
          elim more [
            | inl e ↦ subst (OnlyAdds (one_block at content) before) (sym e) (list_set before at _ content (in_pushed (list_at before at) content))
            | inr e ↦ subst (OnlyAdds (one_block at content) before) (sym e) (list_set before at _ content (in_inserted (list_at before at) _ content))
          ]
    ]

-- a write that succeeded puts its block
last_pushed : (list : List (List ℕ)) (content : List ℕ) → last_of (list ++ content ∷ []) ≡ content
last_pushed list content = get_or_push list content [] (length (list ++ content ∷ []) - 1) (omega (arith, length_push list content))

list_put : (before : Contents) (at : ℕ) (list : List (List ℕ)) (content : List ℕ) → last_of list ≡ content → HasPut (one_block at content) before (set before at list)
list_put before at list content last = map-set last_of before at list ∙ ap (set (latest before) at) last

pub written_puts : (at : ℕ) (content : List ℕ) (before after : Contents) → IsWritten at content before after → HasPut (one_block at content) before after
written_puts at content before after is =
    elim is [
      | inl e ↦ subst (HasPut (one_block at content) before) (sym e) (list_put before at _ content (last_pushed (list_at before at) content))
      | inr e ↦ subst (HasPut (one_block at content) before) (sym e) (list_put before at _ content refl)
    ]

-- more blocks after some
put_all-append : (some more : List Planned) (image : Image) → put_all image (some ++ more) ≡ put_all (put_all image some) more
put_all-append [] more image = refl
put_all-append (one ∷ some) more image = put_all-append some more (set image one.at one.block)

pub puts_more : (plan : List Planned) (i : ℕ) (d : Planned) (a b c : Contents) → i < length plan → HasPut (take i plan) a b → HasPut (one_block (get_or plan i d).at (get_or plan i d).block) b c
    → HasPut (take (i + 1) plan) a c
puts_more plan i d a b c less some more =
    more ∙ ap (λ image. put_all image (get_or plan i d ∷ [])) some ∙ sym (put_all-append (take i plan) (get_or plan i d ∷ []) (latest a))
    ∙ ap (put_all (latest a)) (sym (take_more plan i d less))

pub adds_more : (plan : List Planned) (i : ℕ) (d : Planned) (a b c : Contents) → i < length plan → OnlyAdds plan a b → OnlyAdds (one_block (get_or plan i d).at (get_or plan i d).block) b c → OnlyAdds plan a c
adds_more plan i d a b c less some more = record { size = more.size ∙ some.size; held = held }
  where
    held : (at : ℕ) (content : List ℕ) → Contains (list_at c at) content → Contains (list_at a at) content ⊎ Writes plan at content
    held at content found =
        elim (more.held at content found) [
          | inl old ↦ some.held at content old
          | inr new ↦
              elim (first_or_rest (get_or plan i d) [] _ new) [
                | inl e ↦ inr (subst (Contains plan) e (Contains-get_or plan i d less))
                | inr none ↦ absurd (in_none _ none)
              ]
        ]

-- an image that a crash may leave
image_length : (lists : Contents) (left : Image) → AllZip Contains lists left → length left ≡ length lists
image_length [] [] is = refl
image_length [] (y ∷ ys) is = absurd is
image_length (x ∷ xs) [] is = absurd is
image_length (x ∷ xs) (y ∷ ys) is = ap (λ n. suc n) (image_length xs ys is.1)

image_at : (lists : Contents) (left : Image) → AllZip Contains lists left → (at : ℕ) → at < length lists → Contains (list_at lists at) (block_at left at)
image_at [] left is at less = absurd (omega arith)
image_at (x ∷ xs) [] is at less = absurd is
image_at (x ∷ xs) (y ∷ ys) is zero less = is.0
image_at (x ∷ xs) (y ∷ ys) is (suc at) less = image_at xs ys is.1 at (omega arith)

pub alone_left : (image left : Image) → IsImage (alone image) left → left ≡ image
alone_left [] [] is = refl
alone_left [] (y ∷ ys) is = absurd is
alone_left (x ∷ xs) [] is = absurd is
alone_left (x ∷ xs) (y ∷ ys) is =
    elim (first_or_rest x [] y is.0) [ inl e ↦ ap (λ z. z ∷ ys) (sym e) ∙ ap (λ zs. x ∷ zs) (alone_left xs ys is.1) | inr none ↦ absurd (in_none y none) ]

-- where only blocks of a plan were added, a crash leaves a part of it
pub adds_leave : (plan : List Planned) (before after : Contents) → OnlyAdds plan before after → MayLeave plan before after
adds_leave plan before after adds image one left is = record { size = image_length after left is ∙ (adds.size ∙ sized); blocks = blocks }
  where
    sized : length before ≡ length image
    sized = ap length one ∙ length-map image (λ (content : List ℕ). content ∷ [])

    old_is : (at : ℕ) (content : List ℕ) → at < length image → Contains (list_at before at) content → content ≡ block_at image at
    old_is at content less found =
        elim (first_or_rest (block_at image at) [] content
        (subst (λ (l : List (List ℕ)). Contains l content) (ap (λ (c : Contents). list_at c at) one ∙ get_or-map (λ (c : List ℕ). c ∷ []) image at [] [] less) found)) [
          | inl e ↦ sym e
          | inr none ↦ absurd (in_none content none)
        ]

    blocks : (at : ℕ) → (block_at left at ≡ block_at image at) ⊎ Writes plan at (block_at left at)
    blocks at =
        elim (cases_lt at (length after)) [
          | inl less ↦
              elim (adds.held at _ (image_at after left is at less)) [
                | inl old ↦ inl (old_is at _ (omega (arith, less, adds.size, sized)) old)
                | inr new ↦ inr new
              ]
          | inr past ↦
              inl (get_or_past left at [] (omega (arith, past, image_length after left is)) ∙ sym (get_or_past image at [] (omega (arith, past, adds.size, sized))))
        ]

-- all of a plan is a part of it
pub settled_leaves : (plan : List Planned) (before after : Contents) → HasSettled plan before after → MayLeave plan before after
settled_leaves plan before after settled image one left is =
    let all : left ≡ put_all image plan = alone_left (put_all image plan) left (subst (λ (c : Contents). IsImage c left) whole is) in
    subst (λ (l : Image). IsPartlyWritten image l plan) (sym all) (record { size = length-put_all plan image; blocks = put_all-cases plan image })
  where
    whole : after ≡ alone (put_all image plan)
    whole = settled ∙ ap (λ i. alone (put_all i plan)) (ap latest one ∙ latest_alone image)

-- a flush settles what was put
pub flush_settles : (plan : List Planned) (before after : Contents) → HasPut plan before after → HasSettled plan before (flushed after)
flush_settles plan before after put = ap alone put

-- one block of a plan was written or not
one_left : (image left : Image) (at : ℕ) (tail : List ℕ) → IsPartlyWritten image left (one_block at tail) → (left ≡ image) ⊎ (left ≡ set image at tail)
one_left image left at tail partly = elim (partly.blocks at) [ inl same ↦ inl (none same) | inr new ↦ inr (all (sym (ap (λ (p : Planned). p.block) (only at _ new)))) ]
  where
    planned : ℕ → List ℕ → Planned
    planned k c = record { at = k; block = c }

    only : (k : ℕ) (c : List ℕ) → Writes (one_block at tail) k c → planned at tail ≡ planned k c
    only k c found = elim (first_or_rest (planned at tail) [] (planned k c) found) [ inl e ↦ e | inr none_left ↦ absurd (in_none (planned k c) none_left) ]

    none : block_at left at ≡ block_at image at → left ≡ image
    none same =
        ext_get_or [] left image partly.size
        (λ k less. elim (partly.blocks k) [
          | inl e ↦ e
          | inr new ↦ subst (λ (i : ℕ). block_at left i ≡ block_at image i) (ap (λ (p : Planned). p.at) (only k _ new)) same
        ])

    all : block_at left at ≡ tail → left ≡ set image at tail
    all here =
        ext_get_or [] left (set image at tail) (partly.size ∙ sym (length-set image at tail))
        (λ k less. elim (cases_eq k at) [
          | inl e ↦ ap (block_at left) e ∙ here ∙ sym (ap (block_at (set image at tail)) e ∙ get_or-set_same image at tail [] (omega (arith, less, e, partly.size)))
          | inr apart ↦
              elim (partly.blocks k) [
                | inl same ↦ same ∙ sym (get_or-set_other image at k tail [] apart)
                | inr new ↦ absurd (apart (sym (ap (λ (p : Planned). p.at) (only k _ new))))
              ]
        ])

-- a plan and then its tail
settled_is : (plan : List Planned) (before after : Contents) (image : Image) → before ≡ alone image → HasSettled plan before after → after ≡ alone (put_all image plan)
settled_is plan before after image one settled = settled ∙ ap (λ i. alone (put_all i plan)) (ap latest one ∙ latest_alone image)

plan_written : (plan : List Planned) (at : ℕ) (tail : List ℕ) (a b c : Contents) → HasSettled plan a b → HasSettled (one_block at tail) b c → IsPlanWritten plan at tail a c
plan_written plan at tail a b c first second image one = settled_is (one_block at tail) b c (put_all image plan) (settled_is plan a b image one first) second

plan_left : (plan : List Planned) (at : ℕ) (tail : List ℕ) (a b c : Contents) → HasSettled plan a b → MayLeave (one_block at tail) b c → IsPlanLeft plan at tail a c
plan_left plan at tail a b c first second image one left is =
    elim (one_left (put_all image plan) left at tail (second (put_all image plan) (settled_is plan a b image one first) left is)) [
      | inl e ↦ inl (subst (λ (l : Image). IsPartlyWritten image l plan) (sym e) (record { size = length-put_all plan image; blocks = put_all-cases plan image }))
      | inr e ↦ inr e
    ]

-- the same of equal plans, where it is told
module _ (plan same : List Planned) (at spot : ℕ) (tail : List ℕ) (old mid new : Option Contents) (is : same ≡ plan) (here : spot ≡ at) (first : WhereTold old mid (HasSettled same)) where
  pub told_written : WhereTold mid new (HasSettled (one_block spot tail)) → WhereTold old new (IsPlanWritten plan at tail)
  told_written second =
      told_then old mid new (HasSettled same) (HasSettled (one_block spot tail)) (IsPlanWritten plan at tail)
      (λ a b c settled last. plan_written plan at tail a b c (subst (λ (p : List Planned). HasSettled p a b) is settled) (subst (λ (k : ℕ). HasSettled (one_block k tail) b c) here last)) first second

  pub told_left : WhereTold mid new (MayLeave (one_block spot tail)) → WhereTold old new (IsPlanLeft plan at tail)
  told_left second =
      told_then old mid new (HasSettled same) (MayLeave (one_block spot tail)) (IsPlanLeft plan at tail)
      (λ a b c settled last. plan_left plan at tail a b c (subst (λ (p : List Planned). HasSettled p a b) is settled) (subst (λ (k : ℕ). MayLeave (one_block k tail) b c) here last)) first second

-- a flush after a plan was written, whether it succeeded or not
pub flush_leaves : {T E : Type 0} (plan : List Planned) (old mid new : Option Contents) (result : Result T E) → WhereTold old mid (HasPut plan) → WhereTold old mid (OnlyAdds plan)
    → OnOk result (new ≡ option_map flushed mid) → OnErr result (new ≡ mid) → WhereTold old new (MayLeave plan)
flush_leaves plan old mid new result put added flushes fails =
    either_way result (new ≡ option_map flushed mid) (new ≡ mid) (WhereTold old new (MayLeave plan))
    (told_flushed old mid new (HasPut plan) (MayLeave plan) (λ a b is. settled_leaves plan a (flushed b) (flush_settles plan a b is)) put)
    (told_kept old mid new (MayLeave plan) (told_weaker old mid (OnlyAdds plan) (MayLeave plan) (adds_leave plan) added))
    flushes fails

-- a plan of which a part was written has no tail
pub told_early : (plan same : List Planned) (at : ℕ) (tail : List ℕ) (old new : Option Contents) → same ≡ plan → WhereTold old new (MayLeave same) → WhereTold old new (IsPlanLeft plan at tail)
told_early plan same at tail old new is told =
    told_weaker old new (MayLeave same) (IsPlanLeft plan at tail) (λ a b may image one left left_is. inl (subst (IsPartlyWritten image left) is (may image one left left_is))) told
