-- A map copied key by key.
use Rattle.std.proofs.Common.{◌≡◌, ℕ, ◌+◌, ◌<◌, Bool, true, false, cond, ◌||◌, List, [], ◌∷◌, length, drop, get_or, refl, sym, ap, ◌∙◌, true≢false, add-one, drop-cons}
use Rattle.std.proofs.lemmas.Bool.{eqb-true}
use Rattle.std.specs.Prelude.{Option, Some, None, is_some}
use Rattle.std.specs.List.{fold, list_any}
use Rattle.std.specs.Ordering.{nat_cmp, eq_by_cmp}
use Rattle.std.specs.Cmp.{nat_cmp_total, unsigned_tied}
use Rattle.std.specs.FinMap as map
use Rattle.std.specs.FinMap.{FinMap, get-empty, get-insert, same_map, contains_key-keys, nat_cmp-IsAntisymmetric}

-- a map after what was found at a key was put there
abbrev pub with_found : {X : Type 0} → FinMap nat_cmp X → ℕ → Option X → FinMap nat_cmp X
with_found m key None = m
with_found m key (Some x) = map.insert m key x

-- a map after what another one has at some keys was put
abbrev pub with_keys : {X : Type 0} → FinMap nat_cmp X → FinMap nat_cmp X → List ℕ → FinMap nat_cmp X
with_keys from m keys = fold (λ left key. with_found left key (map.get from key)) m keys

same_key : (q key : ℕ) → eq_by_cmp nat_cmp q key ≡ true → q ≡ key
same_key q key t = eqb-true q key (sym (unsigned_tied q key) ∙ t)

module _ {X : Type 0} (from : FinMap nat_cmp X) where
  -- what is as in the other map stays so
  one_kept : (m : FinMap nat_cmp X) (key q : ℕ) → map.get m q ≡ map.get from q → map.get (with_found m key (map.get from key)) q ≡ map.get from q
  one_kept m key q same = by_found (map.get from key) refl
    where
      by_found : (o : Option X) → map.get from key ≡ o → map.get (with_found m key o) q ≡ map.get from q
      by_found None e = same
      by_found (Some x) e = get-insert nat_cmp_total m key x q ∙ by_tie (eq_by_cmp nat_cmp q key) refl
        where
          by_tie : (b : Bool) → eq_by_cmp nat_cmp q key ≡ b → cond b (Some x) (map.get m q) ≡ map.get from q
          by_tie true t = sym e ∙ ap (map.get from) (sym (same_key q key t))
          by_tie false t = same

  kept : (m : FinMap nat_cmp X) (keys : List ℕ) (q : ℕ) → map.get m q ≡ map.get from q → map.get (with_keys from m keys) q ≡ map.get from q
  kept m [] q same = same
  kept m (key ∷ keys) q same = kept (with_found m key (map.get from key)) keys q (one_kept m key q same)

  -- what the other map has at one of the keys is put
  put : (m : FinMap nat_cmp X) (keys : List ℕ) (q : ℕ) (x : X) → map.get from q ≡ Some x → list_any (eq_by_cmp nat_cmp q) keys ≡ true → map.get (with_keys from m keys) q ≡ map.get from q
  put m [] q x there none = absurd (true≢false (sym none))
  put m (key ∷ keys) q x there some = by_tie (put (with_found m key (map.get from key)) keys q x there) (eq_by_cmp nat_cmp q key) refl some
    where
      by_tie : (list_any (eq_by_cmp nat_cmp q) keys ≡ true → map.get (with_keys from (with_found m key (map.get from key)) keys) q ≡ map.get from q) → (b : Bool) → eq_by_cmp nat_cmp q key ≡ b → (b || list_any (eq_by_cmp nat_cmp q) keys) ≡ true → map.get (with_keys from (with_found m key (map.get from key)) keys) q ≡ map.get from q
      by_tie rest true t some =
          let found : map.get from key ≡ Some x = ap (map.get from) (sym (same_key q key t)) ∙ there in
          kept (with_found m key (map.get from key)) keys q (
          ap (λ o. map.get (with_found m key o) q) found ∙ get-insert nat_cmp_total m key x q ∙ ap (λ b. cond b (Some x) (map.get m q)) t ∙ sym there)
      by_tie rest false t some = rest some

  -- one key after another
  pub next_key : (m : FinMap nat_cmp X) (keys : List ℕ) (i : ℕ) → i < length keys → with_keys from m (drop i keys) ≡ with_keys from (with_found m (get_or keys i 0) (map.get from (get_or keys i 0))) (drop (i + 1) keys)
  next_key m keys i below =
      let parted : drop i keys ≡ get_or keys i 0 ∷ drop (i + 1) keys = rw (add-one, drop-cons keys i 0) in
      ap (with_keys from m) parted

  -- all keys put into the empty map give the map
  pub with_all_keys : with_keys from map.empty (map.keys from) ≡ from
  with_all_keys = same_map nat_cmp_total nat_cmp-IsAntisymmetric _ _ (λ q. by_found q (map.get from q) refl)
    where
      by_found : (q : ℕ) (o : Option X) → map.get from q ≡ o → map.get (with_keys from map.empty (map.keys from)) q ≡ map.get from q
      by_found q None e = kept map.empty (map.keys from) q (get-empty nat_cmp q ∙ sym e)
      by_found q (Some x) e = put map.empty (map.keys from) q x e (sym (contains_key-keys from q) ∙ ap is_some e)
