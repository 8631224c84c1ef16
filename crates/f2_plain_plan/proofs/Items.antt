-- The items of a list that a loop is at.
use Rattle.std.proofs.Common.{◌≡◌, ℕ, ◌<◌, List, map as map_list, length, take, get_or, sym, ap, subst, ◌∙◌, ◌≤◌, All}
use Rattle.std.proofs.lemmas.List.{length-map, get_or-map, take_all}

pub item_low : {A B : Type 0} (f : A → B) (xs : List A) (i : ℕ) → i < length xs → i < length (map_list f xs)
item_low f xs i low = subst (λ n. i < n) (sym (length-map xs f)) low

pub item_is : {A B : Type 0} (f : A → B) (xs : List A) (i : ℕ) (x : A) → i < length xs → x ≡ get_or xs i x → get_or (map_list f xs) i (f x) ≡ f x
item_is f xs i x low is = get_or-map f xs i x (f x) low ∙ ap f (sym is)

-- what holds of each holds of the item
pub item_has : {A B : Type 0} (P : B → Type 0) (f : A → B) (xs : List A) (i : ℕ) (x : A) → i < length xs → x ≡ get_or xs i x → All P (map_list f xs) → P (f x)
item_has P f xs i x low is all = subst P (item_is f xs i x low is) (all i (f x) (item_low f xs i low))

-- the same where the item is written as what stands at its place
pub place_is : {A B : Type 0} (f : A → B) (xs : List A) (i : ℕ) (d : A) → i < length xs → get_or (map_list f xs) i (f (get_or xs i d)) ≡ f (get_or xs i d)
place_is f xs i d low = get_or-map f xs i d (f (get_or xs i d)) low

pub place_has : {A B : Type 0} (P : B → Type 0) (f : A → B) (xs : List A) (i : ℕ) (d : A) → i < length xs → All P (map_list f xs) → P (f (get_or xs i d))
place_has P f xs i d low all = subst P (place_is f xs i d low) (all i (f (get_or xs i d)) (item_low f xs i low))

-- what holds of each item that was taken holds of all, once all were taken
pub all_taken : {X : Type 0} (P : X → Type 0) (xs : List X) (i : ℕ) → length xs ≤ i → All P (take i xs) → All P xs
all_taken P xs i past all = subst (All P) (take_all i xs past) all
