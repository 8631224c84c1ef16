use Rattle.std.proofs.Common.{◌≡◌, ◌+◌, ◌++◌, ◌∷◌, ℕ, Bool, true, false, cond, List, [], take, get_or, append-nil, append_assoc, ap, sym, subst, ◌∙◌}
use Rattle.std.specs.FinMap as map
use Rattle.std.specs.FinSet as set
use Rattle.std.specs.FinSet.{nat_cmp-IsAntisymmetric}
use Rattle.std.specs.Cmp.{nat_cmp_total}
use Rattle.std.proofs.lemmas.List.{take_all, take_more}
use Rattle.f2_call_size.specs.Beyond.{IsBeyond, Numbers, listed}
use Rattle.f2_call_size.proofs.Listed.{beyond_more, beyond_none}
use Rattle.f2_call_size.proofs.pages.new_pages.Goals as goal
use Rattle.f2_call_size.proofs.pages.new_pages.Goals.{then-not-contains+in_ok-insert, else-not-contains}

pub loop-page-init : goal.loop-page-init
loop-page-init c =
    let own : List ℕ = map.keys c.args.own.now in
    subst (λ (found : Numbers). IsBeyond (listed own) found (listed (own ++ []))) (sym c.new-found.ensures)
    (subst (λ xs. IsBeyond (listed own) set.empty (listed xs)) (sym (append-nil own)) (beyond_none (listed own)))

pub loop-page-preserved : goal.loop-page-preserved
loop-page-preserved c =
    let own : List ℕ = map.keys c.args.own.now in
    let xs : List ℕ = c.args.more.now in
    let i = c.loop-page.page-index in
    let page : ℕ = get_or xs i 0 in
    let found : Numbers = c.loop-page.found in
    let more : own ++ take (i + 1) xs ≡ (own ++ take i xs) ++ page ∷ [] = ap (λ ys. own ++ ys) (take_more xs i 0 c.loop-page-test.true) ∙ sym (append_assoc own (take i xs) (page ∷ [])) in
    let grown : listed (own ++ take (i + 1) xs) ≡ set.insert (listed (own ++ take i xs)) page = ap listed more ∙ set.from_list_push nat_cmp_total nat_cmp-IsAntisymmetric (own ++ take i xs) page in
    let has : set.contains (listed own) page ≡ c.contains.result = set.contains-from_list nat_cmp_total own page ∙ sym (map.contains_key-keys c.args.own.now page) ∙ sym c.contains.ensures in
    let next : (b : Bool) → c.contains.result ≡ b → IsBeyond (listed own) (cond b found (set.insert found page)) (listed (own ++ take (i + 1) xs)) = λ b e.
    subst (λ (all : Numbers). IsBeyond (listed own) (cond b found (set.insert found page)) all) (sym grown) (beyond_more (listed own) found (listed (own ++ take i xs)) page c.loop-page.invariant b (has ∙ e)) in
    elim c.if-not-contains.branch [
      | then-not-contains+in_ok-insert w ↦ subst (λ (now : Numbers). IsBeyond (listed own) now (listed (own ++ take (i + 1) xs))) (sym (w.found-is ∙ w.in_ok-insert.ensures)) (next false w.if-not-contains.true)
      | else-not-contains w ↦ subst (λ (now : Numbers). IsBeyond (listed own) now (listed (own ++ take (i + 1) xs))) (sym w.found-is) (next true w.if-not-contains.false)
    ]

pub returns-clause-pages : goal.returns-clause-pages
returns-clause-pages c =
    let own : List ℕ = map.keys c.args.own.now in
    let whole = take_all c.loop-page.page-index c.args.more.now c.loop-page-test.false in
    sym (ap (λ xs. set.len (listed (own ++ xs))) whole) ∙ c.loop-page.invariant.count ∙ ap (λ n. set.len (listed own) + n) (sym c.len.ensures.len)
