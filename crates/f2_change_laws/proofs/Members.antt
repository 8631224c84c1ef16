-- Members of lists that are mapped or taken, and lists whose members differ.
use Rattle.std.proofs.Common.{◌≢◌, ℕ, zero, suc, ◌<◌, List, [], ◌∷◌, ◌++◌, length, get_or, take, map, refl, sym, ap, ◌∙◌, arith}
use Rattle.std.specs.List.{Contains}
use Rattle.std.proofs.lemmas.List.{length-map, get_or-map, length_push, get_or_append_left, get_or_push}
use Rattle.std.proofs.lemmas.List.Elements.{All-take, All-contains, All-contains_itself, All-from_recursion}
use Rattle.f2_image.specs.Reached.{AllDiffer}

pub contains_map : {X Y : Type 0} (f : X → Y) (xs : List X) (x : X) → Contains xs x → Contains (map f xs) (f x)
contains_map f xs x (k, small, is) = (k, omega (arith, small, length-map xs f), get_or-map f xs k x (f x) small ∙ ap f is)

pub contains_take : {X : Type 0} (count : ℕ) (xs : List X) (x : X) → Contains (take count xs) x → Contains xs x
contains_take count xs x found = All-contains (Contains xs) (take count xs) x (All-take (Contains xs) count xs (All-contains_itself xs)) found

-- at two places of a list whose members differ stand two members
differ_places : {X : Type 0} (xs : List X) → AllDiffer xs → (i j : ℕ) (d e : X) → i < length xs → j < length xs → i ≢ j → get_or xs i d ≢ get_or xs j e
differ_places [] differ i j d e small less apart same = omega (arith, small)
differ_places (x ∷ xs) differ zero zero d e small less apart same = apart refl
differ_places (x ∷ xs) differ zero (suc j) d e small less apart same = All-from_recursion (λ y. x ≢ y) xs differ.0 j e (omega (arith, less)) same
differ_places (x ∷ xs) differ (suc i) zero d e small less apart same = All-from_recursion (λ y. x ≢ y) xs differ.0 i d (omega (arith, small)) (sym same)
differ_places (x ∷ xs) differ (suc i) (suc j) d e small less apart same = differ_places xs differ.1 i j d e (omega (arith, small)) (omega (arith, less)) (λ is. apart (ap (λ n. suc n) is)) same

-- so it is before a last one
pub differ_before : {X : Type 0} (xs : List X) (last : X) → AllDiffer (xs ++ last ∷ []) → (i j : ℕ) (d e : X) → i < length xs → j < length xs → i ≢ j → get_or xs i d ≢ get_or xs j e
differ_before xs last differ i j d e small less apart same =
    differ_places (xs ++ last ∷ []) differ i j d e (omega (arith, small, length_push xs last)) (omega (arith, less, length_push xs last)) apart
    (get_or_append_left xs (last ∷ []) d i small ∙ same ∙ sym (get_or_append_left xs (last ∷ []) e j less))

pub differ_last : {X : Type 0} (xs : List X) (last : X) → AllDiffer (xs ++ last ∷ []) → (x : X) → Contains xs x → x ≢ last
differ_last xs last differ x (k, small, is) same =
    differ_places (xs ++ last ∷ []) differ k (length xs) x x (omega (arith, small, length_push xs last)) (omega (arith, length_push xs last)) (λ e. omega (arith, small, e))
    (get_or_append_left xs (last ∷ []) x k small ∙ is ∙ same ∙ sym (get_or_push xs last x (length xs) refl))
