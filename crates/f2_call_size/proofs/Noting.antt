-- Noting the nodes of one page more.
use Rattle.std.proofs.Common.{◌≡◌, ◌≢◌, inl, inr, ℕ, Bool, true, false, cond, not, ◌&&◌, ◌||◌, ◌==◌, List, [], ◌∷◌, ◌++◌, refl, sym, ap, subst, ◌∙◌, true≢false}
use Rattle.std.specs.Prelude.{if◌then◌else◌}
use Rattle.std.specs.List.{list_any}
use Rattle.std.specs.Ordering.{nat_cmp, eq_by_cmp}
use Rattle.std.specs.Cmp.{nat_cmp_total}
use Rattle.std.specs.FinSet as set
use Rattle.std.specs.FinSet.{nat_cmp-IsAntisymmetric}
use Rattle.std.proofs.lemmas.Bool.{cases_lt, eqb-true}
use Rattle.std.proofs.lemmas.List.Folds.{list_any-append}
use Rattle.f2_format.specs.Offsets.{page_limit, nodes_of_page, nodes_over}
use Rattle.f2_shape.proofs.Places.{top, middle, bottom, top-zero, middle-zero, bottom-zero, way_of, any_of_way}
use Rattle.f2_call_size.specs.Beyond.{Numbers, is_one, noted, IsBeyond, IsNear}
use Rattle.f2_call_size.proofs.Listed.{itself, contains-nodes, beyond_more}
use Rattle.f2_call_size.proofs.OnTheWay.{IsPlace, no_node, at_top, at_middle, at_bottom, top_place, middle_place, bottom_place, decides}

abbrev with_way : Numbers → ℕ → Numbers
with_way all page = set.insert (set.insert (set.insert all (at_top page)) (at_middle page)) (at_bottom page)

-- one page more needs the nodes of its way
module _ (own more : List ℕ) (page n : ℕ) where
  abbrev test : ℕ → Bool
  test = eq_by_cmp nat_cmp n

  abbrev need : ℕ → Bool
  need q = is_one n (nodes_of_page q)

  abbrev others : Bool
  others = list_any need (own ++ more)

  or_false : (b : Bool) → (b || false) ≡ b
  or_false true = refl
  or_false false = refl

  or_assoc : (a b c : Bool) → (a || (b || c)) ≡ ((a || b) || c)
  or_assoc true b c = refl
  or_assoc false b c = refl

  whole : set.contains (nodes_over (own ++ (more ++ page ∷ []))) n ≡ (test 0 || (others || need page))
  whole =
      contains-nodes (own ++ (more ++ page ∷ [])) n
      ∙ ap (λ b. test 0 || b) (list_any-append need own (more ++ page ∷ []) ∙ ap (λ b. list_any need own || b) (list_any-append need more (page ∷ []) ∙ ap (λ b. list_any need more || b) (or_false (need page)))
      ∙ or_assoc (list_any need own) (list_any need more) (need page) ∙ ap (λ b. b || need page) (sym (list_any-append need own more)))

  inside : set.contains (with_way (nodes_over (own ++ more)) page) n ≡ (test (at_bottom page) || (test (at_middle page) || (test (at_top page) || (test 0 || others))))
  inside =
      set.contains-insert nat_cmp_total _ (at_bottom page) n
      ∙ ap (λ b. test (at_bottom page) || b) (set.contains-insert nat_cmp_total _ (at_middle page) n
      ∙ ap (λ b. test (at_middle page) || b) (set.contains-insert nat_cmp_total _ (at_top page) n
      ∙ ap (λ b. test (at_top page) || b) (contains-nodes (own ++ more) n)))

  four : (a b : Bool) → (a || (b || false)) ≡ (a || (a || (a || (a || b))))
  four true b = refl
  four false true = refl
  four false false = refl

  grown : (test 0 || (others || need page)) ≡ (test (at_bottom page) || (test (at_middle page) || (test (at_top page) || (test 0 || others))))
  grown = elim (cases_lt page page_limit) [
    | inl below ↦ any_of_way (way_of page below) test others ∙ (λ i. test (sym (bottom_place.within page below) i) || (test (sym (middle_place.within page below) i) || (test (sym (top_place.within page below) i) || (test 0 || others))))
    | inr past ↦
        ap (λ nodes. test 0 || (others || list_any test nodes)) (no_node page past) ∙ four (test 0) others
        ∙ (λ i. test (sym (bottom_place.past page past) i) || (test (sym (middle_place.past page past) i) || (test (sym (top_place.past page past) i) || (test 0 || others))))
  ]

pub nodes_over-more : (own more : List ℕ) (page : ℕ) → nodes_over (own ++ (more ++ page ∷ [])) ≡ with_way (nodes_over (own ++ more)) page
nodes_over-more own more page = set.same_set nat_cmp_total nat_cmp-IsAntisymmetric _ _ (λ n. whole own more page n ∙ grown own more page n ∙ sym (inside own more page n))

-- what is noted at a place is what no page needs yet
module _ (at place : ℕ → ℕ) (is : IsPlace at place) (zero : place 0 ≡ 0) (own : List ℕ) (page before after : ℕ) (near : IsNear own page before after) (found : Numbers) where
  pub noted-is : noted found (at page) (at before) (at after) ≡ cond (set.contains (nodes_over own) (at page)) found (set.insert found (at page))
  noted-is = by (at page == 0) refl
    where
      choose : (b c : Bool) → (if not b && not c then set.insert found (at page) else found) ≡ cond (b || c) found (set.insert found (at page))
      choose true c = refl
      choose false true = refl
      choose false false = refl

      by : (b : Bool) → (at page == 0) ≡ b → (if not b && not (at page == at before) && not (at page == at after) then set.insert found (at page) else found) ≡ cond (set.contains (nodes_over own) (at page)) found (set.insert found (at page))
      by true e =
          let has : set.contains (nodes_over own) (at page) ≡ true = ap (set.contains (nodes_over own)) (eqb-true (at page) 0 e) ∙ contains-nodes own 0 ∙ ap (λ b. b || list_any (λ q. is_one 0 (nodes_of_page q)) own) (itself 0) in
          ap (λ b. cond b found (set.insert found (at page))) (sym has)
      by false e =
          let other : at page ≢ 0 = λ z. true≢false (sym (ap (λ n. n == 0) z) ∙ e) in
          choose (at page == at before) (at page == at after) ∙ ap (λ b. cond b found (set.insert found (at page))) (sym (decides at place is zero own page before after near other))

  pub noted_beyond : (all : Numbers) → IsBeyond (nodes_over own) found all → IsBeyond (nodes_over own) (noted found (at page) (at before) (at after)) (set.insert all (at page))
  noted_beyond all beyond =
      subst (λ now. IsBeyond (nodes_over own) now (set.insert all (at page))) (sym noted-is)
      (beyond_more (nodes_over own) found all (at page) beyond (set.contains (nodes_over own) (at page)) refl)

abbrev pub noted_way : Numbers → ℕ → ℕ → ℕ → Numbers
noted_way found page before after = noted (noted (noted found (at_top page) (at_top before) (at_top after)) (at_middle page) (at_middle before) (at_middle after)) (at_bottom page) (at_bottom before) (at_bottom after)

pub way_noted : (found : Numbers) (page before after : ℕ) (own more : List ℕ) → IsNear own page before after → IsBeyond (nodes_over own) found (nodes_over (own ++ more)) → IsBeyond (nodes_over own) (noted_way found page before after) (nodes_over (own ++ (more ++ page ∷ [])))
way_noted found page before after own more near beyond =
    let one = noted_beyond at_top top top_place top-zero own page before after near found (nodes_over (own ++ more)) beyond in
    let two = noted_beyond at_middle middle middle_place middle-zero own page before after near _ _ one in
    let three = noted_beyond at_bottom bottom bottom_place bottom-zero own page before after near _ _ two in
    subst (λ all. IsBeyond (nodes_over own) (noted_way found page before after) all) (sym (nodes_over-more own more page)) three
