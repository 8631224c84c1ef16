-- The nodes on the way to a page: each is named by the one above it, which is on the way too, or by the inode.
use Rattle.std.proofs.Common.{◌≡◌, ◌≢◌, ◌⊎◌, inl, inr, ℕ, zero, suc, ◌+◌, ◌-◌, ◌*◌, ◌/◌, ◌<◌, ◌≤◌, List, [], ◌∷◌, ◌++◌, Contains, refl, sym, ap, ◌∙◌, subst, arith}
use Rattle.std.specs.Prelude.{Option, Some, None}
use Rattle.std.proofs.lemmas.Bool.Decides.{nat_tests}
use Rattle.f2_format.specs.Offsets.{inode_pages, page_limit, direct_limit, direct_of, direct_number, nth_direct, nodes_above, nodes_down_to, nodes_of_page}
use Rattle.f2_image.specs.Reached.{offset_below, nids_of_node, IsDirect}
use Rattle.f2_image.proofs.OneBase.{same_some}
use Rattle.f2_place_laws.proofs.Offsets.{Names, inode, first, second, double, low, names, inode_below, inode_first, inode_second, inode_double, first_below, second_below, double_below, low_below}
use Rattle.f2_place_laws.proofs.Ways as ways
use Rattle.f2_place_laws.proofs.Ways.{Way, way_of}
use Rattle.f2_mount_laws.proofs.Old.{direct_page}

-- a thing of a short list
pub none_in : {X : Type 0} (x : X) → ¬ (Contains [] x)
none_in x (place, small, is) = omega (arith, small)

pub first_or_later : {X : Type 0} (y : X) (ys : List X) (x : X) → Contains (y ∷ ys) x → (x ≡ y) ⊎ Contains ys x
first_or_later y ys x (zero, small, is) = inl (sym is)
first_or_later y ys x (suc place, small, is) = inr (place, omega (arith, small), is)

pub here_in : {X : Type 0} (x : X) (ys : List X) → Contains (x ∷ ys) x
here_in x ys = (0, omega arith, refl)

pub later_in : {X : Type 0} (y : X) (ys : List X) (x : X) → Contains ys x → Contains (y ∷ ys) x
later_in y ys x (place, small, is) = (suc place, omega (arith, small), is)

last_in : {X : Type 0} (xs : List X) (x : X) → Contains (xs ++ x ∷ []) x
last_in [] x = here_in x []
last_in (y ∷ xs) x = later_in y (xs ++ x ∷ []) x (last_in xs x)

-- the node above one on a page's way
pub record IsAbove (page offset : ℕ) : Type 0 where
  pub upper : ℕ
  pub slot : ℕ
  pub small : slot < nids_of_node upper
  pub names : offset_below upper slot ≡ Some offset
  pub on_way : (upper ≡ 0) ⊎ Contains (nodes_of_page page) upper

pub above_one : (k : ℕ) → k < 2 → nodes_above (1 + k) ≡ []
unfolding nodes_above
above_one k small = grind (arith, nat_tests, small)

pub above_first : (s : ℕ) → s < 1018 → nodes_above (4 + s) ≡ 3 ∷ []
unfolding nodes_above
above_first s small = grind (arith, nat_tests, small)

pub above_second : (s : ℕ) → s < 1018 → nodes_above (1023 + s) ≡ 1022 ∷ []
unfolding nodes_above
above_second s small = grind (arith, nat_tests, small)

pub above_double : (x y : ℕ) → y < 1018 → nodes_above (2042 + x * 1019 + 1 + y) ≡ 2041 ∷ (2042 + x * 1019) ∷ []
unfolding nodes_above
above_double x y small =
    let quotient : (2042 + x * 1019 + 1 + y - 2042) / 1019 ≡ x = omega (arith, small) in
    grind (arith, nat_tests, small, quotient)

pub inode_slots : (slot : ℕ) → slot < 5 → slot < nids_of_node 0
inode_slots slot small = omega (arith, small)

pub node_slots : (upper slot : ℕ) → upper ≢ 0 → slot < 1018 → slot < nids_of_node upper
node_slots upper slot other small = grind (arith, nat_tests, other, small)

-- the list of a page's nodes
pub nodes_are : (page d : ℕ) (above : List ℕ) → direct_of page ≡ Some d → nodes_above d ≡ above → nodes_of_page page ≡ above ++ d ∷ []
nodes_are page d above direct is = ap nodes_down_to direct ∙ ap (λ xs. xs ++ d ∷ []) is

module _ (page offset : ℕ) where
  only : (d : ℕ) → Contains (d ∷ []) offset → offset ≡ d
  only d has = by_case (first_or_later d [] offset has)
    where
      by_case : (offset ≡ d) ⊎ Contains [] offset → offset ≡ d
      by_case (inl e) = e
      by_case (inr later) = absurd (none_in offset later)

  from_inode : (slot : ℕ) → slot < 5 → offset_below 0 slot ≡ Some offset → IsAbove page offset
  from_inode slot small named = record { upper = 0; slot = slot; small = inode_slots slot small; names = named; on_way = inl refl }

  from_node : (upper slot : ℕ) → upper ≢ 0 → slot < 1018 → offset_below upper slot ≡ Some offset → Contains (nodes_of_page page) upper → IsAbove page offset
  from_node upper slot other small named way = record { upper = upper; slot = slot; small = node_slots upper slot other small; names = named; on_way = inr way }

  of_two : (upper d slot top : ℕ) → nodes_of_page page ≡ upper ∷ d ∷ [] → upper ≢ 0 → slot < 1018 → offset_below upper slot ≡ Some d → top < 5 → offset_below 0 top ≡ Some upper
      → Contains (upper ∷ d ∷ []) offset → IsAbove page offset
  of_two upper d slot top are other small under top_small top_under has = by_case (first_or_later upper (d ∷ []) offset has)
    where
      by_case : (offset ≡ upper) ⊎ Contains (d ∷ []) offset → IsAbove page offset
      by_case (inl e) = from_inode top top_small (top_under ∙ ap Some (sym e))
      by_case (inr later) = from_node upper slot other small (under ∙ ap Some (sym (only d later))) (subst (λ xs. Contains xs upper) (sym are) (here_in upper (d ∷ [])))

  of_three : (x y : ℕ) → x < 1018 → y < 1018 → nodes_of_page page ≡ 2041 ∷ (2042 + x * 1019) ∷ (2042 + x * 1019 + 1 + y) ∷ []
      → Contains (2041 ∷ (2042 + x * 1019) ∷ (2042 + x * 1019 + 1 + y) ∷ []) offset → IsAbove page offset
  of_three x y row place are has = by_first (first_or_later 2041 ((2042 + x * 1019) ∷ (2042 + x * 1019 + 1 + y) ∷ []) offset has)
    where
      by_second : (offset ≡ 2042 + x * 1019) ⊎ Contains ((2042 + x * 1019 + 1 + y) ∷ []) offset → IsAbove page offset
      by_second (inl e) = from_node 2041 x (λ z. omega arith) row (double_below x ∙ ap Some (sym e)) (subst (λ xs. Contains xs 2041) (sym are) (here_in 2041 ((2042 + x * 1019) ∷ (2042 + x * 1019 + 1 + y) ∷ [])))
      by_second (inr later) =
          from_node (2042 + x * 1019) y (λ z. omega arith) place (low_below x y row ∙ ap Some (sym (only (2042 + x * 1019 + 1 + y) later)))
          (subst (λ xs. Contains xs (2042 + x * 1019)) (sym are) (later_in 2041 ((2042 + x * 1019) ∷ (2042 + x * 1019 + 1 + y) ∷ []) (2042 + x * 1019) (here_in (2042 + x * 1019) ((2042 + x * 1019 + 1 + y) ∷ []))))

      by_first : (offset ≡ 2041) ⊎ Contains ((2042 + x * 1019) ∷ (2042 + x * 1019 + 1 + y) ∷ []) offset → IsAbove page offset
      by_first (inl e) = from_inode 4 (omega arith) (inode_double ∙ ap Some (sym e))
      by_first (inr later) = by_second (first_or_later (2042 + x * 1019) ((2042 + x * 1019 + 1 + y) ∷ []) offset later)

  by_way : Way page → Contains (nodes_of_page page) offset → IsAbove page offset
  by_way (ways.one k small direct slots) has =
      let are = nodes_are page (1 + k) [] direct (above_one k small) in
      from_inode k (omega (arith, small)) (inode_below k small ∙ ap Some (sym (only (1 + k) (subst (λ xs. Contains xs offset) are has))))
  by_way (ways.first s small direct slots) has =
      let are = nodes_are page (4 + s) (3 ∷ []) direct (above_first s small) in
      of_two 3 (4 + s) s 2 are (λ z. omega arith) small (first_below s) (omega arith) inode_first (subst (λ xs. Contains xs offset) are has)
  by_way (ways.second s small direct slots) has =
      let are = nodes_are page (1023 + s) (1022 ∷ []) direct (above_second s small) in
      of_two 1022 (1023 + s) s 3 are (λ z. omega arith) small (second_below s) (omega arith) inode_second (subst (λ xs. Contains xs offset) are has)
  by_way (ways.double x y row place direct slots) has =
      let are = nodes_are page (2042 + x * 1019 + 1 + y) (2041 ∷ (2042 + x * 1019) ∷ []) direct (above_double x y place) in
      of_three x y row place are (subst (λ xs. Contains xs offset) are has)

  pub above_is : Contains (nodes_of_page page) offset → IsAbove page offset
  above_is has = by_direct (direct_of page) refl
    where
      by_direct : (o : Option ℕ) → direct_of page ≡ o → IsAbove page offset
      by_direct None e = absurd (none_in offset (subst (λ (p : Option ℕ). Contains (nodes_down_to p) offset) e has))
      by_direct (Some d) e = let limits = direct_page page d e in by_way (way_of page limits.0 limits.1) has

-- the direct node of a page is on its way
pub direct_on_way : (page offset : ℕ) → direct_of page ≡ Some offset → Contains (nodes_of_page page) offset
direct_on_way page offset direct = subst (λ (o : Option ℕ). Contains (nodes_down_to o) offset) (sym direct) (last_in (nodes_above offset) offset)

-- a direct node is no inode, and names no other node
nth_some : (k : ℕ) → 0 < nth_direct k
nth_some k = grind (arith, nat_tests)

pub no_direct_inode : (offset : ℕ) → offset ≡ 0 → ¬ (IsDirect offset)
no_direct_inode offset none is = omega (arith, nth_some is.number, is.is, none)

direct_of-number : (page : ℕ) → inode_pages ≤ page → page < page_limit → direct_of page ≡ Some (nth_direct (direct_number page))
unfolding direct_of
direct_of-number page above below = grind (arith, nat_tests)

pub page_of_direct : (offset : ℕ) → IsDirect offset → (page : ℕ) × (direct_of page ≡ Some offset)
page_of_direct offset is =
    let page : ℕ = 923 + is.number * 1018 in
    let number : direct_number (923 + is.number * 1018) ≡ is.number = omega arith in
    (page, direct_of-number (923 + is.number * 1018) (omega arith) (omega (arith, is.within)) ∙ ap (λ n. Some (nth_direct n)) number ∙ ap Some is.is)

number_of-direct : (page offset : ℕ) → direct_of page ≡ Some offset → (direct_number page < direct_limit) × (nth_direct (direct_number page) ≡ offset)
number_of-direct page offset has =
    let limits = direct_page page offset has in
    (omega (arith, limits), same_some (nth_direct (direct_number page)) offset (sym (direct_of-number page limits.0 limits.1) ∙ has))

pub direct_from_page : (page offset : ℕ) → direct_of page ≡ Some offset → IsDirect offset
direct_from_page page offset has = let parts = number_of-direct page offset has in record { number = direct_number page; within = parts.0; is = parts.1 }

module _ (offset slot lower : ℕ) where
  not_one : (k : ℕ) → k < 2 → offset ≡ 1 + k → Names offset slot lower → ⊥
  not_one k small is (inode e some top) = omega (arith, small, is, e)
  not_one k small is (first e less also) = omega (arith, small, is, e)
  not_one k small is (second e less also) = omega (arith, small, is, e)
  not_one k small is (double e less also) = omega (arith, small, is, e)
  not_one k small is (low x e less also) = omega (arith, small, is, e)

  not_first : (s : ℕ) → s < 1018 → offset ≡ 4 + s → Names offset slot lower → ⊥
  not_first s small is (inode e some top) = omega (arith, small, is, e)
  not_first s small is (first e less also) = omega (arith, small, is, e)
  not_first s small is (second e less also) = omega (arith, small, is, e)
  not_first s small is (double e less also) = omega (arith, small, is, e)
  not_first s small is (low x e less also) = omega (arith, small, is, e)

  not_second : (s : ℕ) → s < 1018 → offset ≡ 1023 + s → Names offset slot lower → ⊥
  not_second s small is (inode e some top) = omega (arith, small, is, e)
  not_second s small is (first e less also) = omega (arith, small, is, e)
  not_second s small is (second e less also) = omega (arith, small, is, e)
  not_second s small is (double e less also) = omega (arith, small, is, e)
  not_second s small is (low x e less also) = omega (arith, small, is, e)

  not_double : (x y : ℕ) → y < 1018 → offset ≡ 2042 + x * 1019 + 1 + y → Names offset slot lower → ⊥
  not_double x y small is (inode e some top) = omega (arith, small, is, e)
  not_double x y small is (first e less also) = omega (arith, small, is, e)
  not_double x y small is (second e less also) = omega (arith, small, is, e)
  not_double x y small is (double e less also) = omega (arith, small, is, e)
  not_double x y small is (low z e less also) = omega (arith, small, is, e)

  by_kind : (page : ℕ) → direct_of page ≡ Some offset → Way page → Names offset slot lower → ⊥
  by_kind page has (ways.one k small direct slots) = not_one k small (same_some offset (1 + k) (sym has ∙ direct))
  by_kind page has (ways.first s small direct slots) = not_first s small (same_some offset (4 + s) (sym has ∙ direct))
  by_kind page has (ways.second s small direct slots) = not_second s small (same_some offset (1023 + s) (sym has ∙ direct))
  by_kind page has (ways.double x y row place direct slots) = not_double x y place (same_some offset (2042 + x * 1019 + 1 + y) (sym has ∙ direct))

  pub names_none : IsDirect offset → slot < nids_of_node offset → offset_below offset slot ≡ Some lower → ⊥
  names_none is small under =
      let page = page_of_direct offset is in
      let limits = direct_page page.0 offset page.1 in
      by_kind page.0 page.1 (way_of page.0 limits.0 limits.1) (names offset slot lower small under)
