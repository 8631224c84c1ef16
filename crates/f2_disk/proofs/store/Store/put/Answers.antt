use Rattle.std.proofs.Common.{◌≡◌, ◌-◌, ◌<◌, ◌≤◌, ◌++◌, [], ◌∷◌, true, not, is_ok, leb, leb-true, ℕ, None, length, get_or, set, ap, ◌∙◌, arith, rules}
use Rattle.std.specs.List.{insert}
use Rattle.std.specs.Vec.{vec_len}
use borrow.Author.Tests.{leb-false}
use Rattle.std.proofs.lemmas.List.{get_or_read}
use Rattle.std.proofs.lemmas.List.Sorted.{IsPartitionPoint-from_clause, IsPartitionedBy-leb}
use Rattle.f2_disk.specs.Contents.{IsBlock}
use Rattle.f2_disk.specs.Store.{Stored, content_of, lists_of}
use Rattle.f2_disk.specs.declared.store.Older.{Older}
use Rattle.f2_disk.proofs.StoreLaws.{length-lists_of, lists_of-put, orderly_put}
use Rattle.f2_disk.proofs.store.Store.put.Goals as goal

pub index_mut-requires : goal.index_mut-requires
index_mut-requires c =
    omega (arith, length-lists_of c.self.inside.newest.items c.self.inside.older.items, ap (λ (s : Stored). length s.lists) c.self.view_is)

pub invariant_of-self-2 : goal.invariant_of-self-2
invariant_of-self-2 c =
    let newest = c.self.inside.newest.items in
    let older = c.self.inside.older.items in
    let at = c.args.at in
    let place = c.partition_point-place.result in
    let old = c.replace-content.result in
    let kept = c.replace-content.new.self in
    let within : at < length newest =
    omega (arith, length-lists_of newest older, ap (λ (s : Stored). length s.lists) c.self.view_is) in
    let was : old ≡ get_or newest at None =
    c.replace-content.ensures.value ∙ get_or_read newest at c.index_mut.result.now within c.index_mut.ensures.value None in
    let value : content_of kept ≡ c.args.from.now = ap content_of c.replace-content.ensures.after in
    let ok : is_ok c.insert.result ≡ true = c.is_err.ensures.negation ∙ ap not c.if-is_err.false in
    let items : c.insert.new.self.items ≡ insert older place (record { at = at; content = old }) = rw ok at c.insert.ensures.items in
    let parted = IsPartitionedBy-leb (λ (e : Older). e.at) c.deref.result.now at (rw c.deref.ensures.value c.self.invariant.0.rising) in
    let point = IsPartitionPoint-from_clause (λ (e : Older). leb e.at at) _ _ c.partition_point-place.ensures.partitioned parted
    (λ a r q k. search rules) in
    let inside : place ≤ length older = rw (← c.deref.ensures.value) c.partition_point-place.ensures.bound in
    let after : (k : ℕ) (d : Older) → place ≤ k → k < length older → at < (get_or older k d).at =
    rw (← c.deref.ensures.value) (λ k d low high. leb-false _ _ (point.1 k d low high)) in
    let before : (k : ℕ) (d : Older) → k < place → (get_or older k d).at ≤ at =
    rw (← c.deref.ensures.value) (λ k d low. leb-true _ _ (point.0 k d (omega arith) low)) in
    let block : IsBlock (content_of kept) = rw value (record { size = c.told-from; bytes = c.fits-from }) in (
      rw items (orderly_put newest older at place old kept c.self.invariant.0 within was block inside before after),
      omega (arith, rw ok at c.insert.ensures.len, c.insert.ensures.capacity, c.in-Some.ensures.len, c.self.invariant.1),
    )

pub returns-clause-put : goal.returns-clause-put
returns-clause-put c =
    let newest = c.self.inside.newest.items in
    let older = c.self.inside.older.items in
    let at = c.args.at in
    let place = c.partition_point-place.result in
    let old = c.replace-content.result in
    let kept = c.replace-content.new.self in
    let within : at < length newest =
    omega (arith, length-lists_of newest older, ap (λ (s : Stored). length s.lists) c.self.view_is) in
    let was : old ≡ get_or newest at None =
    c.replace-content.ensures.value ∙ get_or_read newest at c.index_mut.result.now within c.index_mut.ensures.value None in
    let value : content_of kept ≡ c.args.from.now = ap content_of c.replace-content.ensures.after in
    let ok : is_ok c.insert.result ≡ true = c.is_err.ensures.negation ∙ ap not c.if-is_err.false in
    let items : c.insert.new.self.items ≡ insert older place (record { at = at; content = old }) = rw ok at c.insert.ensures.items in
    let parted = IsPartitionedBy-leb (λ (e : Older). e.at) c.deref.result.now at (rw c.deref.ensures.value c.self.invariant.0.rising) in
    let point = IsPartitionPoint-from_clause (λ (e : Older). leb e.at at) _ _ c.partition_point-place.ensures.partitioned parted
    (λ a r q k. search rules) in
    let inside : place ≤ length older = rw (← c.deref.ensures.value) c.partition_point-place.ensures.bound in
    let after : (k : ℕ) (d : Older) → place ≤ k → k < length older → at < (get_or older k d).at =
    rw (← c.deref.ensures.value) (λ k d low high. leb-false _ _ (point.1 k d low high)) in
    let append = λ (s : Stored). set s.lists at (get_or s.lists at [] ++ content_of kept ∷ []) in
    let lists = ap (λ o. lists_of (set newest at kept) o) items ∙ lists_of-put newest older at place old kept within was after
    ∙ ap append c.self.view_is
    ∙ ap (λ v. set c.args.self.now.lists at (get_or c.args.self.now.lists at [] ++ v ∷ [])) value in
    let spare : vec_len c.pop.new.self ≡ c.args.self.now.spare - 1 =
    omega (arith, c.in-Some.ensures.len, ap (λ (s : Stored). s.spare) c.self.view_is) in
    λ _. λ i. record { lists = lists i; spare = spare i }
