-- The nids and the owners of a tree's places.
use Rattle.std.proofs.Common.{◌≡◌, ◌≢◌, ◌⊎◌, inl, inr, ℕ, suc, ◌+◌, ◌≤◌, Bool, true, false, cond, List, [], ◌∷◌, length, map, refl, sym, ap, ◌∙◌, arith}
use Rattle.std.specs.Prelude.{Option, Some, None}
use Rattle.std.specs.Ordering.{nat_cmp, eq_by_cmp}
use Rattle.std.specs.Cmp.{nat_cmp_total, unsigned_tied}
use Rattle.std.specs.FinMap as finite
use Rattle.std.specs.FinMap.{gets, get-entries, get-from_entries, get-empty, get-insert, len-empty, len-insert}
use Rattle.std.proofs.lemmas.Bool.{ne_eqb, cases_eq}
use Rattle.f2_model.specs.State.{pair_cmp}
use Rattle.f2_stored.specs.Places.{NodeAt, Places}
use Rattle.f2_stored.specs.Layout.{Owners}
use Rattle.f2_place_laws.proofs.Keys.{key_in, length-keys}
use Rattle.f2_place_laws.proofs.Lists.{IsIn}
use Rattle.f2_place_laws.proofs.Pairs.{pair_cmp_total}
use Rattle.f2_checkpoint_laws.specs.Ended.{nids_of, with_owner, owners_among, owners_of}

-- the nid of a node that was found
abbrev pub its_nid : Option NodeAt → Option ℕ
its_nid None = None
its_nid (Some node) = Some node.nid

nid_found : (es : List ((ℕ × ℕ) × NodeAt)) (q : ℕ × ℕ) → finite.find pair_cmp q (map (λ (e : (ℕ × ℕ) × NodeAt). (e.0, e.1.nid)) es) ≡ its_nid (finite.find pair_cmp q es)
nid_found [] q = refl
nid_found (e ∷ es) q = ap (cond (eq_by_cmp pair_cmp q e.0) (Some e.1.nid)) (nid_found es q) ∙ by_tie (eq_by_cmp pair_cmp q e.0) e.1 (finite.find pair_cmp q es)
  where
    by_tie : (b : Bool) (n : NodeAt) (rest : Option NodeAt) → cond b (Some n.nid) (its_nid rest) ≡ its_nid (cond b (Some n) rest)
    by_tie true n rest = refl
    by_tie false n rest = refl

pub nid_is : (places : Places) (q : ℕ × ℕ) → finite.get (nids_of places) q ≡ its_nid (finite.get places.nodes q)
nid_is places q = get-from_entries pair_cmp_total _ q ∙ nid_found (finite.entries places.nodes) q ∙ ap its_nid (sym (get-entries places.nodes q))

-- a nid that is found is that of a node
pub nid_from : (places : Places) (q : ℕ × ℕ) (nid : ℕ) → finite.get (nids_of places) q ≡ Some nid → (n : NodeAt) × (finite.get places.nodes q ≡ Some n) × (n.nid ≡ nid)
nid_from places q nid found = by_node (finite.get places.nodes q) refl (sym (nid_is places q) ∙ found)
  where
    by_node : (o : Option NodeAt) → finite.get places.nodes q ≡ o → its_nid o ≡ Some nid → (n : NodeAt) × (finite.get places.nodes q ≡ Some n) × (n.nid ≡ nid)
    by_node None e is = absurd (cc)
    by_node (Some n) e is = (n, e, cc)

-- owners after one more
module _ (owners : Owners) (k : ℕ) (v : ℕ × ℕ) where
  put_here : finite.get (finite.insert owners k v) k ≡ Some v
  put_here = grind (arith, gets)

  put_other : (q : ℕ) → q ≢ k → finite.get (finite.insert owners k v) q ≡ finite.get owners q
  put_other q other = get-insert nat_cmp_total owners k v q ∙ ap (λ b. cond b (Some v) (finite.get owners q)) (unsigned_tied q k ∙ ne_eqb q k other)

  one_longer : finite.len (finite.insert owners k v) ≤ finite.len owners + 1
  one_longer = by_test (finite.contains_key owners k) (len-insert nat_cmp_total owners k v)
    where
      by_test : (b : Bool) → finite.len (finite.insert owners k v) ≡ cond b (finite.len owners) (finite.len owners + 1) → finite.len (finite.insert owners k v) ≤ finite.len owners + 1
      by_test true is = omega (arith, is)
      by_test false is = omega (arith, is)

module _ (pages : finite.FinMap pair_cmp ℕ) where
  -- an owner that is found is a page that stands there
  pub owner_from : (keys : List (ℕ × ℕ)) (at : ℕ) (owner : ℕ × ℕ) → finite.get (owners_among pages keys) at ≡ Some owner → finite.get pages owner ≡ Some at
  owner_from [] at owner found = let none = sym (get-empty nat_cmp at) ∙ found in absurd (cc)
  owner_from (key ∷ keys) at owner found = by_page (owner_from keys at owner) (finite.get pages key) refl found
    where
      by_page : (finite.get (owners_among pages keys) at ≡ Some owner → finite.get pages owner ≡ Some at)
          → (o : Option ℕ) → finite.get pages key ≡ o → finite.get (with_owner key o (owners_among pages keys)) at ≡ Some owner → finite.get pages owner ≡ Some at
      by_page before None is found = before found
      by_page before (Some a) is found = by_place (cases_eq at a)
        where
          by_place : (at ≡ a) ⊎ (at ≢ a) → finite.get pages owner ≡ Some at
          by_place (inl here) =
              let same : Some key ≡ Some owner = sym (put_here (owners_among pages keys) a key) ∙ ap (finite.get (finite.insert (owners_among pages keys) a key)) (sym here) ∙ found in
              let own : key ≡ owner = cc in
              ap (finite.get pages) (sym own) ∙ is ∙ ap Some (sym here)
          by_place (inr other) = before (sym (put_other (owners_among pages keys) a key at other) ∙ found)

  -- and each page that stands somewhere alone is found
  module _ (alone : (one other : ℕ × ℕ) (at : ℕ) → finite.get pages one ≡ Some at → finite.get pages other ≡ Some at → at ≢ 0 → one ≡ other) where
    pub owner_is : (keys : List (ℕ × ℕ)) (key : ℕ × ℕ) (at : ℕ) → IsIn key keys → finite.get pages key ≡ Some at → at ≢ 0 → finite.get (owners_among pages keys) at ≡ Some key
    owner_is [] key at there is some = absurd there
    owner_is (k ∷ keys) key at there is some = by_page (λ rest. owner_is keys key at rest is some) (finite.get pages k) refl there
      where
        by_page : (IsIn key keys → finite.get (owners_among pages keys) at ≡ Some key) → (o : Option ℕ) → finite.get pages k ≡ o → (key ≡ k) ⊎ IsIn key keys → finite.get (with_owner k o (owners_among pages keys)) at ≡ Some key
        by_page later None none (inl same) = let wrong : Some at ≡ None = sym is ∙ ap (finite.get pages) same ∙ none in absurd (cc)
        by_page later None none (inr rest) = later rest
        by_page later (Some a) found in_list = by_place in_list (cases_eq at a)
          where
            by_place : (key ≡ k) ⊎ IsIn key keys → (at ≡ a) ⊎ (at ≢ a) → finite.get (finite.insert (owners_among pages keys) a k) at ≡ Some key
            by_place either (inl here) =
                ap (finite.get (finite.insert (owners_among pages keys) a k)) here ∙ put_here (owners_among pages keys) a k
                ∙ ap Some (alone k key at (found ∙ ap Some (sym here)) is some)
            by_place (inl same) (inr other) = let wrong : Some at ≡ Some a = sym is ∙ ap (finite.get pages) same ∙ found in absurd (other cc)
            by_place (inr rest) (inr other) = put_other (owners_among pages keys) a k at other ∙ later rest

  -- there are no more owners than pages
  few_among : (keys : List (ℕ × ℕ)) → finite.len (owners_among pages keys) ≤ length keys
  few_among [] = omega (arith, len-empty nat_cmp (ℕ × ℕ))
  few_among (key ∷ keys) = by_page (finite.get pages key) (few_among keys)
    where
      by_page : (o : Option ℕ) → finite.len (owners_among pages keys) ≤ length keys → finite.len (with_owner key o (owners_among pages keys)) ≤ suc (length keys)
      by_page None few = omega (arith, few)
      by_page (Some at) few = omega (arith, few, one_longer (owners_among pages keys) at key)

pub few_owners : (places : Places) → finite.len (owners_of places) ≤ finite.len places.pages
few_owners places = omega (arith, few_among places.pages (finite.keys places.pages), length-keys places.pages)

pub page_owned : (places : Places) → ((one other : ℕ × ℕ) (at : ℕ) → finite.get places.pages one ≡ Some at → finite.get places.pages other ≡ Some at → at ≢ 0 → one ≡ other)
    → (key : ℕ × ℕ) (at : ℕ) → finite.get places.pages key ≡ Some at → at ≢ 0 → finite.get (owners_of places) at ≡ Some key
page_owned places alone key at is some = owner_is places.pages alone (finite.keys places.pages) key at (key_in places.pages key at is) is some
