use Rattle.std.proofs.Common.{◌≡◌, ◌≢◌, ◌∙◌, ◌-◌, ℕ, List, length, sym, ap, subst, refl, arith, inl}
use Rattle.std.specs.Prelude.{slice_index, slice_index_or}
use Rattle.f2_format.specs.Geometry.{ImageGeometry, is_in_data}
use Rattle.f2_image.specs.Faults as faults
use Rattle.f2_recover.specs.Seeing.{no_page}
use Rattle.f2_recover.specs.declared.nodes.PageAt.{PageAt}
use Rattle.f2_recover.proofs.FileEnds.{ends_well, no_pages, last_base, past_size}
use Rattle.f2_recover.proofs.sizes.check_size.Goals as goal

last_of : (last : PageAt) (list items : List PageAt) → last ≡ slice_index_or list (length list - 1) no_page → list ≡ items → last ≡ slice_index_or items (length items - 1) no_page
last_of last list items is same = is ∙ ap (λ (xs : List PageAt). slice_index_or xs (length xs - 1) no_page) same

some_of : (list items : List PageAt) → length list ≢ 0 → list ≡ items → length items ≢ 0
some_of list items some same zero = some (ap (λ (xs : List PageAt). length xs) same ∙ zero)

pub returns-in_default-clause-right : goal.returns-in_default-clause-right
returns-in_default-clause-right g c image ckpt inos taken tells is page at base past =
    no_pages image ckpt inos c.args.ino taken c.args.file.now is (ap (λ (xs : List PageAt). length xs) (sym c.deref.ensures.value) ∙ c.in_default.ensures.none) page at base

pub returns-then-file-start-clause-fault : goal.returns-then-file-start-clause-fault
returns-then-file-start-clause-fault g c image ckpt inos taken tells has sizes regular is =
    let base = last_base image ckpt inos c.args.ino taken c.args.file.now is c.in-Some.last (some_of _ _ c.in-Some.ensures.last c.deref.ensures.value) (last_of c.in-Some.last _ _ c.in-Some.ensures.is c.deref.ensures.value) in
    past_size image ckpt inos c.args.ino taken c.args.file.now is c.in-Some.last has regular base (faults.whole (omega (arith, c.if-file-start.true, c.from-start.ensures)))

pub returns-then-rest-ge-BLOCK_BYTES-clause-right : goal.returns-then-rest-ge-BLOCK_BYTES-clause-right
returns-then-rest-ge-BLOCK_BYTES-clause-right g c image ckpt inos taken tells is page at base past =
    ends_well image ckpt inos c.args.ino taken c.args.file.now is c.in-Some.last (last_of c.in-Some.last _ _ c.in-Some.ensures.is c.deref.ensures.value) (omega (arith, c.if-file-start.false, c.from-start.ensures))
    (λ place small over. absurd (omega (arith, small, over, c.if-rest-ge-BLOCK_BYTES.true, c.from-start.ensures))) page at base past

pub returns-then-not-in_data-clause-fault : goal.returns-then-not-in_data-clause-fault
returns-then-not-in_data-clause-fault g c image ckpt inos taken tells has sizes regular is =
    let base = last_base image ckpt inos c.args.ino taken c.args.file.now is c.in-Some.last (some_of _ _ c.in-Some.ensures.last c.deref.ensures.value) (last_of c.in-Some.last _ _ c.in-Some.ensures.is c.deref.ensures.value) in
    faults.page has c.args.ino c.in-Some.last.page (inl base) (ap (λ (e : ImageGeometry). is_in_data e c.in-Some.last.at) sizes ∙ sym c.if-not-in_data.ensures)

pub returns-then-not-is_zero_from-clause-fault : goal.returns-then-not-is_zero_from-clause-fault
returns-then-not-is_zero_from-clause-fault g c image ckpt inos taken tells has sizes regular is =
    let base = last_base image ckpt inos c.args.ino taken c.args.file.now is c.in-Some.last (some_of _ _ c.in-Some.ensures.last c.deref.ensures.value) (last_of c.in-Some.last _ _ c.in-Some.ensures.is c.deref.ensures.value) in
    let content = c.in_ok-read_block.ensures.content image tells in
    let wrong = c.if-not-is_zero_from.ensures.other refl in
    let low = wrong.1.0 in
    past_size image ckpt inos c.args.ino taken c.args.file.now is c.in-Some.last has regular base
    (faults.partly wrong.0 wrong.1.1 (omega (arith, low, c.if-file-start.false, c.from-start.ensures)) (subst (λ (b : List ℕ). slice_index b wrong.0 ≢ 0) content wrong.1.2))

pub returns-clause-right : goal.returns-clause-right
returns-clause-right g c image ckpt inos taken tells is page at base past =
    let content = c.in_ok-read_block.ensures.content image tells in
    ends_well image ckpt inos c.args.ino taken c.args.file.now is c.in-Some.last (last_of c.in-Some.last _ _ c.in-Some.ensures.is c.deref.ensures.value) (omega (arith, c.if-file-start.false, c.from-start.ensures))
    (λ place small over.
    subst (λ (b : List ℕ). slice_index b place ≡ 0) content (c.if-not-is_zero_from.ensures.zeros refl place (omega (arith, small, over, c.if-file-start.false, c.from-start.ensures)) small)) page at base past
