use Rattle.std.proofs.Common.{◌≡◌, ℕ, true, false, is_some, List, ap, sym, ◌∙◌, inl, inr, arith}
use Rattle.std.specs.Prelude.{option_map}
use Rattle.std.specs.FinMap as map
use Rattle.lru.specs.LruCache.{LruCache}
use Rattle.f2_pages.specs.Kept.{Kept, Pages}
use Rattle.f2_pages.proofs.Pages.{Page, view, get-view, view-promoted, get-put, get-put_others, len-put}
use Rattle.f2_pages.proofs.Stores.{IsStore-kept, dirty-at, clean-at, read_dirty, read_clean, read_block, none_kept, same-len-le}
use Rattle.f2_pages.proofs.store.PageStore.read.Goals as goal

pub returns-in-Some-clause-content : goal.returns-in-Some-clause-content
returns-in-Some-clause-content g c =
    let dirty = dirty-at (λ b. b.value) _ _ _ _ _ c.args.page c.self.view_is ∙ ap (option_map (λ b. b.value)) (sym c.in-Some.ensures.value) in
    read_dirty c.args.self.now c.args.page _ c.args.at c.deref.result.now _ dirty c.deref.ensures

pub returns-in-Some-clause-clean : goal.returns-in-Some-clause-clean
returns-in-Some-clause-clean g c none =
    let dirty = dirty-at (λ b. b.value) _ _ _ _ _ c.args.page c.self.view_is ∙ ap (option_map (λ b. b.value)) (sym c.in-Some.ensures.value) in
    let wrong = sym dirty ∙ none in
    cc

pub invariant_of-self : goal.invariant_of-self
invariant_of-self g c =
    let is = c.self.invariant in
    let same = ap (λ (cache : LruCache Page (List ℕ)). view cache.entries) c.promote.ensures.entries ∙ view-promoted c.args.page c.self.inside.clean.entries in
    let cap = ap (λ (cache : LruCache Page (List ℕ)). cache.cap) c.promote.ensures.entries in
    IsStore-kept _ _ _ _ _ _ _ _ _ is is.places_enough is.blocks_enough cap (same-len-le _ _ same)

pub returns-in-Some-peek-clause-content : goal.returns-in-Some-peek-clause-content
returns-in-Some-peek-clause-content g c =
    let none = dirty-at (λ b. b.value) _ _ _ _ _ c.args.page c.self.view_is ∙ ap (option_map (λ b. b.value)) (sym c.in_default.ensures.value) in
    let clean = clean-at _ _ _ _ _ c.args.page c.self.view_is ∙ sym c.in-Some-peek.ensures in
    read_clean c.args.self.now c.args.page _ c.args.at c.in-Some-peek.block.now none clean c.requires.current

pub returns-in-Some-peek-clause-clean : goal.returns-in-Some-peek-clause-clean
returns-in-Some-peek-clause-clean g c none =
    ap (λ (cache : LruCache Page (List ℕ)). map.get (view cache.entries) c.args.page) c.promote.ensures.entries
    ∙ ap (λ (pages : Pages). map.get pages c.args.page) (view-promoted c.args.page c.self.inside.clean.entries)
    ∙ get-view c.self.inside.clean.entries c.args.page ∙ sym c.in-Some-peek.ensures

pub returns-in-Some-peek-clause-others : goal.returns-in-Some-peek-clause-others
returns-in-Some-peek-clause-others g c other kept found =
    let same = ap (λ (cache : LruCache Page (List ℕ)). view cache.entries) c.promote.ensures.entries ∙ view-promoted c.args.page c.self.inside.clean.entries ∙ ap (λ (k : Kept). k.clean) c.self.view_is in
    inl (sym (ap (λ (pages : Pages). map.get pages other) same) ∙ found)

pub returns-in-Some-peek-clause-bounded : goal.returns-in-Some-peek-clause-bounded
returns-in-Some-peek-clause-bounded g c =
    let same = ap (λ (cache : LruCache Page (List ℕ)). view cache.entries) c.promote.ensures.entries ∙ view-promoted c.args.page c.self.inside.clean.entries in
    let cap = ap (λ (cache : LruCache Page (List ℕ)). cache.cap) c.promote.ensures.entries in
    omega (arith, c.self.invariant.bounded, same-len-le _ _ same, cap)

pub returns-in_err-read-clause-kept : goal.returns-in_err-read-clause-kept
returns-in_err-read-clause-kept g c some =
    let none = dirty-at (λ b. b.value) _ _ _ _ _ c.args.page c.self.view_is ∙ ap (option_map (λ b. b.value)) (sym c.in_default.ensures.value) in
    let absent = clean-at _ _ _ _ _ c.args.page c.self.view_is ∙ sym c.in_default-peek.ensures in
    absurd (none_kept c.args.self.now c.args.page none absent some)

pub returns-in_err-put-clause-kept : goal.returns-in_err-put-clause-kept
returns-in_err-put-clause-kept g c some =
    let none = dirty-at (λ b. b.value) _ _ _ _ _ c.args.page c.self.view_is ∙ ap (option_map (λ b. b.value)) (sym c.in_default.ensures.value) in
    let absent = clean-at _ _ _ _ _ c.args.page c.self.view_is ∙ sym c.in_default-peek.ensures in
    absurd (none_kept c.args.self.now c.args.page none absent some)

pub invariant_of-self-2 : goal.invariant_of-self-2
invariant_of-self-2 g c =
    let is = c.self.invariant in
    let few = len-put c.self.inside.clean c.args.page c.read.new.into (sym c.in_default-peek.ensures) is.room_there in
    let same = ap (λ (cache : LruCache Page (List ℕ)). map.len (view cache.entries)) c.in_ok-put.ensures.entries in
    let cap = ap (λ (cache : LruCache Page (List ℕ)). cache.cap) c.in_ok-put.ensures.entries in
    record {
      places_enough = is.places_enough;
      blocks_enough = is.blocks_enough;
      room_there = omega (arith, is.room_there, cap);
      bounded = omega (arith, few, same, cap);
    }

pub returns-clause-content : goal.returns-clause-content
returns-clause-content g c =
    let none = dirty-at (λ b. b.value) _ _ _ _ _ c.args.page c.self.view_is ∙ ap (option_map (λ b. b.value)) (sym c.in_default.ensures.value) in
    read_block c.args.self.now c.args.page _ c.args.at c.read.new.into none c.in_ok-read.ensures.content

pub returns-clause-kept : goal.returns-clause-kept
returns-clause-kept g c some =
    let none = dirty-at (λ b. b.value) _ _ _ _ _ c.args.page c.self.view_is ∙ ap (option_map (λ b. b.value)) (sym c.in_default.ensures.value) in
    let absent = clean-at _ _ _ _ _ c.args.page c.self.view_is ∙ sym c.in_default-peek.ensures in
    absurd (none_kept c.args.self.now c.args.page none absent some)

pub returns-clause-clean : goal.returns-clause-clean
returns-clause-clean g c none =
    ap (λ (cache : LruCache Page (List ℕ)). map.get (view cache.entries) c.args.page) c.in_ok-put.ensures.entries
    ∙ get-put c.self.inside.clean c.args.page c.read.new.into (sym c.in_default-peek.ensures)

pub returns-clause-others : goal.returns-clause-others
returns-clause-others g c other kept found =
    let was = ap (λ (k : Kept). map.get k.clean other) c.self.view_is in
    let put = sym (ap (λ (cache : LruCache Page (List ℕ)). map.get (view cache.entries) other) c.in_ok-put.ensures.entries) ∙ found in
    elim (get-put_others c.self.inside.clean c.args.page c.read.new.into (sym c.in_default-peek.ensures) other kept put) [
      | inl before ↦ inl (sym was ∙ before)
      | inr here ↦ inr here
    ]

pub returns-clause-bounded : goal.returns-clause-bounded
returns-clause-bounded g c =
    let few = len-put c.self.inside.clean c.args.page c.read.new.into (sym c.in_default-peek.ensures) c.self.invariant.room_there in
    let same = ap (λ (cache : LruCache Page (List ℕ)). map.len (view cache.entries)) c.in_ok-put.ensures.entries in
    let cap = ap (λ (cache : LruCache Page (List ℕ)). cache.cap) c.in_ok-put.ensures.entries in
    omega (arith, few, same, cap)

pub returns-in-Some-peek-clause-unchanged : goal.returns-in-Some-peek-clause-unchanged
returns-in-Some-peek-clause-unchanged g c some =
    let none = dirty-at (λ b. b.value) _ _ _ _ _ c.args.page c.self.view_is ∙ ap (option_map (λ b. b.value)) (sym c.in_default.ensures.value) in
    let wrong : ◌≡◌ false true = sym (ap is_some none) ∙ some in
    cc

pub returns-clause-unchanged : goal.returns-clause-unchanged
returns-clause-unchanged g c some =
    let none = dirty-at (λ b. b.value) _ _ _ _ _ c.args.page c.self.view_is ∙ ap (option_map (λ b. b.value)) (sym c.in_default.ensures.value) in
    let wrong : ◌≡◌ false true = sym (ap is_some none) ∙ some in
    cc
