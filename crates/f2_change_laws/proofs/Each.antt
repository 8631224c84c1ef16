-- What holds of each element of a list, with recursion on the list.
use Rattle.std.proofs.Common.{List, [], ◌∷◌, ◌++◌, map, subst}
use Rattle.std.specs.List.{AllByRecursion, AllZip, Contains}
use Rattle.std.proofs.lemmas.List.Elements.{All-from_recursion, recursion_from_All, Contains-get_or}

pub each_weaker : {X : Type 0} (P Q : X → Type 0) → ((x : X) → P x → Q x) → (xs : List X) → AllByRecursion P xs → AllByRecursion Q xs
each_weaker P Q weaker [] all = tt
each_weaker P Q weaker (x ∷ xs) all = (weaker x all.0, each_weaker P Q weaker xs all.1)

-- the same, knowing of each that it is in the list
pub each_within : {X : Type 0} (P Q : X → Type 0) (xs : List X) → ((x : X) → Contains xs x → P x → Q x) → AllByRecursion P xs → AllByRecursion Q xs
each_within P Q xs weaker all = recursion_from_All Q xs (λ k d small. weaker _ (Contains-get_or xs k d small) (All-from_recursion P xs all k d small))

pub each_at : {X : Type 0} (P : X → Type 0) (xs : List X) → AllByRecursion P xs → (x : X) → Contains xs x → P x
each_at P xs all x (k, small, is) = subst P is (All-from_recursion P xs all k x small)

pub each_push : {X : Type 0} (P : X → Type 0) (xs : List X) (x : X) → AllByRecursion P xs → P x → AllByRecursion P (xs ++ x ∷ [])
each_push P [] x all one = (one, tt)
each_push P (y ∷ xs) x all one = (all.0, each_push P xs x all.1 one)

pub each_map : {X Y : Type 0} (P : Y → Type 0) (f : X → Y) (xs : List X) → AllByRecursion (λ x. P (f x)) xs → AllByRecursion P (map f xs)
each_map P f [] all = tt
each_map P f (x ∷ xs) all = (all.0, each_map P f xs all.1)

-- pairs, of which the first ones are known to be such
pub zip_weaker : {A B : Type 0} (P : A → Type 0) (R S : A → B → Type 0) → ((a : A) (b : B) → P a → R a b → S a b) → (xs : List A) (ys : List B) → AllByRecursion P xs → AllZip R xs ys → AllZip S xs ys
zip_weaker P R S weaker [] [] all zip = tt
zip_weaker P R S weaker [] (y ∷ ys) all zip = absurd zip
zip_weaker P R S weaker (x ∷ xs) [] all zip = absurd zip
zip_weaker P R S weaker (x ∷ xs) (y ∷ ys) all zip = (weaker x y all.0 zip.0, zip_weaker P R S weaker xs ys all.1 zip.1)

pub zip_push : {A B : Type 0} (R : A → B → Type 0) (xs : List A) (ys : List B) (x : A) (y : B) → AllZip R xs ys → R x y → AllZip R (xs ++ x ∷ []) (ys ++ y ∷ [])
zip_push R [] [] x y zip one = (one, tt)
zip_push R [] (b ∷ ys) x y zip one = absurd zip
zip_push R (a ∷ xs) [] x y zip one = absurd zip
zip_push R (a ∷ xs) (b ∷ ys) x y zip one = (zip.0, zip_push R xs ys x y zip.1 one)
