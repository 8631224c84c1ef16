-- A tree's entries, read as a finite map.
use Rattle.std.proofs.Common.{◌≡◌, ℕ, ◌<◌, cond, List, [], ◌∷◌, Option, Some, None, refl, ap, sym, ◌∙◌, arith, true, false, length, IsSome, is_some, OnOk, OnErr, IfSome, IfNone, inl, inr, Result, Ok, Err}
use Rattle.std.specs.Map.{lookup}
use Rattle.std.specs.BTreeMap.{is_at}
use Rattle.std.specs.Ordering.{nat_cmp, eq_by_cmp, is_lt}
use Rattle.std.specs.Cmp.{nat_cmp_total}
use Rattle.std.specs.FinMap as map
use Rattle.std.specs.FinMap.{nat_cmp-IsAntisymmetric}
use Rattle.std.proofs.lemmas.Bool.{cases_eq}
use Rattle.std.proofs.lemmas.Bool.Decides.{nat_tests}

abbrev pub view : {X : Type 0} → List (ℕ × X) → map.FinMap nat_cmp X
view es = map.from_entries es

find-lookup : {X : Type 0} (q : ℕ) (es : List (ℕ × X)) → map.find nat_cmp q es ≡ lookup (is_at (nat_cmp q)) es
find-lookup q [] = refl
find-lookup q (e ∷ es) = ap (cond (eq_by_cmp nat_cmp q e.0) (Some e.1)) (find-lookup q es)

pub get-view : {X : Type 0} (es : List (ℕ × X)) (q : ℕ) → map.get (view es) q ≡ lookup (is_at (nat_cmp q)) es
get-view es q = map.get-from_entries nat_cmp_total es q ∙ find-lookup q es

-- two maps on numbers that answer alike are equal
pub same : {X : Type 0} (m n : map.FinMap nat_cmp X) → ((q : ℕ) → map.get m q ≡ map.get n q) → m ≡ n
same = map.same_map nat_cmp_total nat_cmp-IsAntisymmetric

turned : {X : Type 0} (q k : ℕ) (x y : X) → cond (is_at (nat_cmp k) q) x y ≡ cond (eq_by_cmp nat_cmp q k) x y
turned q k x y = grind (arith, nat_tests)

-- the entries with this value at the key, or without it
abbrev Changed : {X : Type 0} → List (ℕ × X) → List (ℕ × X) → ℕ → Option X → Type 0
Changed es fs k w = (q : ℕ) → lookup (is_at (nat_cmp q)) fs ≡ cond (is_at (nat_cmp k) q) w (lookup (is_at (nat_cmp q)) es)

get-changed : {X : Type 0} (es fs : List (ℕ × X)) (k : ℕ) (w : Option X) → Changed es fs k w → (q : ℕ) → map.get (view fs) q ≡ cond (eq_by_cmp nat_cmp q k) w (map.get (view es) q)
get-changed es fs k w changed q =
    get-view fs q ∙ changed q ∙ turned q k w _ ∙ ap (cond (eq_by_cmp nat_cmp q k) w) (sym (get-view es q))

pub view-insert : {X : Type 0} (es fs : List (ℕ × X)) (k : ℕ) (v : X) → Changed es fs k (Some v) → view fs ≡ map.insert (view es) k v
view-insert es fs k v changed =
    same _ _ (λ q. get-changed es fs k (Some v) changed q ∙ sym (map.get-insert nat_cmp_total (view es) k v q))

pub view-remove : {X : Type 0} (es fs : List (ℕ × X)) (k : ℕ) → Changed es fs k None → view fs ≡ map.remove (view es) k
view-remove es fs k changed =
    same _ _ (λ q. get-changed es fs k None changed q ∙ sym (map.get-remove nat_cmp_total (view es) k q))

pub none_since : {X : Type 0} (o : Option X) → (IsSome o → ⊥) → o ≡ None
none_since None h = refl
none_since (Some x) h = absurd (h refl)

pub none_in_empty : {X : Type 0} (es : List (ℕ × X)) → (0 < length es → ⊥) → (q : ℕ) → map.get (view es) q ≡ None
none_in_empty [] h q = get-view [] q
none_in_empty (e ∷ es) h q = absurd (h (omega arith))

-- no key stands above one that is below none
pub none_above : {X : Type 0} (es : List (ℕ × X)) (last q : ℕ) → (IsSome (lookup (is_at (nat_cmp q)) es) → is_lt (nat_cmp last q) ≡ false) → last < q → map.get (view es) q ≡ None
none_above es last q bound above =
    get-view es q ∙ none_since _ (λ there.
    let not_above = bound there in
    grind (arith, nat_tests))

-- a clause on one variant, where the fact holds whatever the variant
pub on_err : {A E : Type 0} (r : Result A E) (P : Type 0) → P → OnErr r P
on_err (Ok x) P p = tt
on_err (Err e) P p = p

pub if_none : {A : Type 0} (o : Option A) (P : Type 0) → P → IfNone o P
if_none (Some x) P p = tt
if_none None P p = p

-- what follows on either variant from two clauses on each
pub by_result : {A E : Type 0} (r : Result A E) (P P' Q Q' R : Type 0) → OnOk r P → OnOk r P' → OnErr r Q → OnErr r Q' → (P → P' → R) → (Q → Q' → R) → R
by_result (Ok x) P P' Q Q' R p p' q q' f g = f p p'
by_result (Err e) P P' Q Q' R p p' q q' f g = g q q'

pub map_ok : {A E : Type 0} (r : Result A E) (P P' R : Type 0) → OnOk r P → OnOk r P' → (P → P' → R) → OnOk r R
map_ok (Ok x) P P' R p p' f = f p p'
map_ok (Err e) P P' R p p' f = tt

pub map_err : {A E : Type 0} (r : Result A E) (P R : Type 0) → OnErr r P → (P → R) → OnErr r R
map_err (Ok x) P R p f = tt
map_err (Err e) P R p f = f p

-- to put a new key and remove it again changes nothing
pub remove-insert : {X : Type 0} (m : map.FinMap nat_cmp X) (k : ℕ) (v : X) → map.get m k ≡ None → map.remove (map.insert m k v) k ≡ m
remove-insert m k v new = same _ _ (λ q.
    map.get-remove nat_cmp_total (map.insert m k v) k q ∙ ap (cond (eq_by_cmp nat_cmp q k) None) (map.get-insert nat_cmp_total m k v q)
    ∙ elim (cases_eq q k) [ inl e ↦ rw e (rw new (grind (arith, nat_tests))) | inr apart ↦ grind (arith, nat_tests) ])

pub none_unless : {X : Type 0} (o : Option X) → is_some o ≡ false → o ≡ None
none_unless None h = refl
none_unless (Some x) h = absurd (let wrong : ◌≡◌ true false = h in cc)

pub some_facts : {A : Type 0} (o : Option A) (P Q : A → Type 0) (R : Type 0) → is_some o ≡ true → IfSome o P → IfSome o Q → ((x : A) → P x → Q x → R) → R
some_facts (Some x) P Q R some p q f = f x p q
some_facts None P Q R some p q f = absurd (let wrong : ◌≡◌ false true = some in cc)

pub none_fact : {A : Type 0} (o : Option A) (P : Type 0) → is_some o ≡ false → IfNone o P → P
none_fact None P none p = p
none_fact (Some x) P none p = absurd (let wrong : ◌≡◌ true false = none in cc)
