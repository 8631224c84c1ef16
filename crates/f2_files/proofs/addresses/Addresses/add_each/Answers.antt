use Rattle.std.proofs.Common.{◌≡◌, ◌+◌, ℕ, List, [], ◌∷◌, ◌++◌, true, false, take, get_or, ap, sym, ◌∙◌, refl, true≢false}
use Rattle.std.specs.Prelude.{Option, Some, None, is_some, if◌then◌else◌}
use Rattle.std.specs.FinMap as map
use Rattle.std.proofs.lemmas.List.{take_more}
use Rattle.f2_files.specs.Shape.{with_page, with_all_pages, without_all_pages}
use Rattle.f2_files.proofs.PageMaps.{Addressed, undone_more, with_more}
use Rattle.f2_files.proofs.addresses.Addresses.add_each.Goals as goal
use Rattle.f2_files.proofs.addresses.Addresses.add_each.Goals.{then-not-contains+in_ok-add, else-not-contains}

none_is : (o : Option ℕ) → is_some o ≡ false → o ≡ None
none_is None h = refl
none_is (Some x) h = absurd (true≢false h)

pub loop-page-preserved : goal.loop-page-preserved
loop-page-preserved c =
    let old : Addressed = c.args.self.now in
    let at : Addressed = c.loop-page.self in
    let i = c.loop-page.page-index in
    let xs : List ℕ = c.args.numbers.now in
    let page : ℕ = get_or xs i 0 in
    let more : take (i + 1) xs ≡ take i xs ++ page ∷ [] = take_more xs i 0 c.loop-page-test.true in
    let grown : with_page at page ≡ with_all_pages old (take (i + 1) xs) =
    ap (λ (m : Addressed). with_page m page) c.loop-page.invariant.all ∙ sym (with_more old (take i xs) page) ∙ ap (with_all_pages old) (sym more) in
    elim c.if-not-contains.branch [
      | then-not-contains+in_ok-add w ↦ (
          let free : map.contains_key at page ≡ false = sym c.contains.ensures ∙ w.if-not-contains.true in
          let put = w.in_ok-add.ensures.pages in
          let added = w.in_ok-add.ensures.added in
          let new : map.insert at page 0 ≡ with_page at page = ap (λ b. if b then at else map.insert at page 0) (sym free) in
          record {
            all = w.self-is ∙ put ∙ new ∙ grown;
            undo = ap (λ (m : Addressed). without_all_pages m c.if-not-contains.added.items) (w.self-is ∙ put) ∙ ap (without_all_pages (map.insert at page 0)) (ap (λ v. v.items) w.added-is ∙ added) ∙ undone_more at c.loop-page.added.items page (none_is (map.get at page) free) ∙ c.loop-page.invariant.undo;
          })
      | else-not-contains w ↦ (
          let there : map.contains_key at page ≡ true = sym c.contains.ensures ∙ w.if-not-contains.false in
          let same : at ≡ with_page at page = ap (λ b. if b then at else map.insert at page 0) (sym there) in
          record {
            all = w.self-is ∙ same ∙ grown;
            undo = ap (λ (m : Addressed). without_all_pages m c.if-not-contains.added.items) w.self-is ∙ ap (without_all_pages at) (ap (λ v. v.items) w.added-is) ∙ c.loop-page.invariant.undo;
          })
    ]
