-- Pages are planned one after another.
use Rattle.std.proofs.Common.{◌≡◌, ◌≢◌, ◌⊎◌, inl, inr, ℕ, zero, suc, ◌+◌, ◌-◌, ◌<◌, ◌≤◌, Bool, true, false, List, [], ◌∷◌, ◌++◌, map as map_list, length, get_or, set as set_at, refl, sym, ap, subst, ◌∙◌, arith, add-one, Option, Some, None}
use Rattle.std.specs.Prelude.{is_some, if◌then◌else◌}
use Rattle.std.specs.FinSet as set
use Rattle.std.specs.FinSet.{len-insert}
use Rattle.std.specs.Cmp.{nat_cmp_total}
use Rattle.std.proofs.lemmas.Bool.{cases_lt, cases_eq, true≢false}
use Rattle.std.proofs.lemmas.List.{get_or-set_same, get_or-set_other, length-set, map-append, append_assoc, append-nil, length-append}
use Rattle.std.proofs.lemmas.List.Elements.{All-nil, All-push, All-weaker, All-map, recursion_from_All, Contains-push, Contains-append_left, Contains-append_right}
use Rattle.f2_bitset.specs.Numbers.{Numbers, IsInRange}
use Rattle.f2_bitset.proofs.Members.{contains-insert_same, contains-insert_other}
use Rattle.f2_format.specs.Offsets.{inode_pages}
use Rattle.f2_image.specs.Reached.{AllDiffer}
use Rattle.f2_laid.specs.Planned.{WritesPage}
use Rattle.f2_laid.specs.declared.planned.Planned.{Planned}
use Rattle.f2_plain_plan.specs.Contents.{pages_before}
use Rattle.f2_plain_plan.specs.Pages.{AddsBlock, AddsPages, IsAmong, IsTaken}
use Rattle.f2_plain_plan.proofs.Differ.{differ-push}

-- a page that is there counts
abbrev one_if : Bool → ℕ
one_if there = if there then 1 else 0

pub pages_before-suc : (contents : ℕ → Option (List ℕ)) (page : ℕ) → pages_before contents (suc page) ≡ one_if (is_some (contents page)) + pages_before contents page
unfolding pages_before
pages_before-suc contents page = refl

pub pages_before-zero : (contents : ℕ → Option (List ℕ)) → pages_before contents 0 ≡ 0
unfolding pages_before
pages_before-zero contents = refl

pub pages_before-there : (contents : ℕ → Option (List ℕ)) (page : ℕ) (bytes : List ℕ) → contents page ≡ Some bytes → pages_before contents (page + 1) ≡ pages_before contents page + 1
pages_before-there contents page bytes h =
    let e : pages_before contents (page + 1) ≡ one_if (is_some (contents page)) + pages_before contents page = ap (pages_before contents) (add-one page) ∙ pages_before-suc contents page in
    let f : one_if (is_some (contents page)) ≡ 1 = ap (λ o. one_if (is_some o)) h in
    omega (arith, e, f)

pub pages_before-not : (contents : ℕ → Option (List ℕ)) (page : ℕ) → contents page ≡ None → pages_before contents (page + 1) ≡ pages_before contents page
pages_before-not contents page h =
    let e : pages_before contents (page + 1) ≡ one_if (is_some (contents page)) + pages_before contents page = ap (pages_before contents) (add-one page) ∙ pages_before-suc contents page in
    let f : one_if (is_some (contents page)) ≡ 0 = ap (λ o. one_if (is_some o)) h in
    omega (arith, e, f)

-- no more pages are below a lesser number
pub pages_before-more : (contents : ℕ → Option (List ℕ)) (page : ℕ) → pages_before contents page ≤ pages_before contents (page + 1)
pages_before-more contents page =
    let e : pages_before contents (page + 1) ≡ one_if (is_some (contents page)) + pages_before contents page = ap (pages_before contents) (add-one page) ∙ pages_before-suc contents page in
    omega (arith, e)

pub pages_before-le : (contents : ℕ → Option (List ℕ)) (few more : ℕ) → pages_before contents few ≤ pages_before contents (few + more)
pages_before-le contents few zero = let e : few + 0 ≡ few = omega arith in subst (λ n. pages_before contents few ≤ pages_before contents n) (sym e) (omega arith)
pages_before-le contents few (suc more) =
    let here = pages_before-le contents few more in
    let step = pages_before-more contents (few + more) in
    let e : few + more + 1 ≡ few + suc more = omega arith in
    subst (λ n. pages_before contents few ≤ pages_before contents n) e (omega (arith, here, step))

-- where a page is there, a greater number has one page more below it
pub page_counts : (contents : ℕ → Option (List ℕ)) (page end : ℕ) (bytes : List ℕ) → contents page ≡ Some bytes → page < end → pages_before contents page + 1 ≤ pages_before contents end
page_counts contents page end bytes there low =
    let here = pages_before-there contents page bytes there in
    let rest = pages_before-le contents (page + 1) (end - (page + 1)) in
    let e : page + 1 + (end - (page + 1)) ≡ end = omega arith in
    let more : pages_before contents (page + 1) ≤ pages_before contents end = subst (λ n. pages_before contents (page + 1) ≤ pages_before contents n) e rest in
    omega (arith, here, more)

-- what is written stays written in a longer plan
pub page-append : (plan more : List Planned) (at : ℕ) (content : Option (List ℕ)) → WritesPage plan at content → WritesPage (plan ++ more) at content
page-append plan more at None w = w
page-append plan more at (Some bytes) w = (w.0, Contains-append_left plan more _ w.1)

pub page-append_right : (plan more : List Planned) (at : ℕ) (content : Option (List ℕ)) → WritesPage more at content → WritesPage (plan ++ more) at content
page-append_right plan more at None w = w
page-append_right plan more at (Some bytes) w = (w.0, Contains-append_right plan more _ w.1)

below_or_here : (page end : ℕ) → page < end + 1 → (page < end) ⊎ (page ≡ end)
below_or_here page end h = elim (cases_lt page end) [ inl l ↦ inl l | inr g ↦ inr (omega arith) ]

module _ (contents : ℕ → Option (List ℕ)) (taken : Numbers) (blocks : List Planned) where
  -- no page yet
  pub no_page : (addresses : List ℕ) → length addresses ≡ inode_pages → ((page : ℕ) → get_or addresses page 0 ≡ 0) → AddsPages contents 0 taken taken blocks blocks addresses
  no_page addresses whole none =
      record {
        first = refl;
        count = refl;
        kept = λ at h. h;
        len = let e = pages_before-zero contents in omega (arith, e);
        more = [];
        added = sym (append-nil blocks);
        many = sym (pages_before-zero contents);
        whole = whole;
        pages = λ page h. absurd (omega arith);
        rest = λ page h. none page;
        fresh = λ page h. absurd (h (none page));
        apart = λ page other h e. absurd (h (none page));
        within = All-nil (IsAmong addresses);
        once = tt;
      }

  module _ (end : ℕ) (after : Numbers) (blocks_after : List Planned) (addresses : List ℕ) (so_far : AddsPages contents end taken after blocks blocks_after addresses) where
    -- the next page isn't there
    pub not_there : contents end ≡ None → AddsPages contents (end + 1) taken after blocks blocks_after addresses
    not_there none =
        record {
          first = so_far.first;
          count = so_far.count;
          kept = so_far.kept;
          len = so_far.len ∙ ap (λ n. set.len taken.members + n) (sym (pages_before-not contents end none));
          more = so_far.more;
          added = so_far.added;
          many = so_far.many ∙ sym (pages_before-not contents end none);
          whole = so_far.whole;
          pages = λ page h. elim (below_or_here page end h) [
            | inl l ↦ so_far.pages page l
            | inr e ↦ subst (λ p. WritesPage so_far.more (get_or addresses p 0) (contents p)) (sym e) (subst (WritesPage so_far.more (get_or addresses end 0)) (sym none) (so_far.rest end (omega arith)))
          ];
          rest = λ page h. so_far.rest page (omega arith);
          fresh = so_far.fresh;
          apart = so_far.apart;
          within = so_far.within;
          once = so_far.once;
        }

    module _ (bytes : List ℕ) (there : contents end ≡ Some bytes) (low : end < inode_pages) (least : 1 ≤ taken.first) (later : Numbers) (blocks_later : List Planned) (at : ℕ) (adds : AddsBlock bytes after later blocks_after blocks_later at) where
      abbrev one : Planned
      one = record { at = at; block = bytes }

      abbrev addresses_later : List ℕ
      addresses_later = set_at addresses end at

      here : get_or addresses_later end 0 ≡ at
      here = let l : end < length addresses = subst (λ n. end < n) (sym so_far.whole) low in get_or-set_same addresses end at 0 l

      other_page : (page : ℕ) → page ≢ end → get_or addresses_later page 0 ≡ get_or addresses page 0
      other_page page ne = get_or-set_other addresses end page at 0 ne

      in_zone : IsInRange taken at
      in_zone = (subst (λ n. n ≤ at) so_far.first adds.free.in_range.0, let h = adds.free.in_range.1 in let e = so_far.first in let f = so_far.count in omega arith)

      not_zero : at ≢ 0
      not_zero e = let h = in_zone.0 in absurd (omega arith)

      free_before : set.contains taken.members at ≡ false
      free_before = go (set.contains taken.members at) refl
        where
          go : (b : Bool) → set.contains taken.members at ≡ b → set.contains taken.members at ≡ false
          go true h = absurd (true≢false (sym (so_far.kept at h) ∙ adds.free.missing))
          go false h = h

      now_in : set.contains later.members at ≡ true
      now_in = subst (λ (n : Numbers). set.contains n.members at ≡ true) (sym adds.now) (contains-insert_same after.members at)

      still_in : (q : ℕ) → set.contains after.members q ≡ true → set.contains later.members q ≡ true
      still_in q h = elim (cases_eq q at) [
        | inl e ↦ subst (λ p. set.contains later.members p ≡ true) (sym e) now_in
        | inr ne ↦ subst (λ (n : Numbers). set.contains n.members q ≡ true) (sym adds.now) (contains-insert_other after.members at q ne ∙ h)
      ]

      is_apart : (q : ℕ) → set.contains after.members q ≡ true → q ≢ at
      is_apart q h e = true≢false (sym (subst (λ p. set.contains after.members p ≡ true) e h) ∙ adds.free.missing)

      len_later : set.len later.members ≡ set.len after.members + 1
      len_later = ap (λ (n : Numbers). set.len n.members) adds.now ∙ len-insert nat_cmp_total after.members at ∙ ap (λ b. if b then set.len after.members else set.len after.members + 1) adds.free.missing

      pages_later : (page : ℕ) → page < end + 1 → WritesPage (so_far.more ++ one ∷ []) (get_or addresses_later page 0) (contents page)
      pages_later page h = elim (cases_eq page end) [
        | inl e ↦ subst (λ p. WritesPage (so_far.more ++ one ∷ []) (get_or addresses_later p 0) (contents p)) (sym e)
            (subst (λ a. WritesPage (so_far.more ++ one ∷ []) a (contents end)) (sym here)
            (subst (WritesPage (so_far.more ++ one ∷ []) at) (sym there) (not_zero, Contains-push so_far.more one)))
        | inr ne ↦ subst (λ a. WritesPage (so_far.more ++ one ∷ []) a (contents page)) (sym (other_page page ne))
            (page-append so_far.more (one ∷ []) _ (contents page) (so_far.pages page (omega arith)))
      ]

      fresh_later : (page : ℕ) → get_or addresses_later page 0 ≢ 0 → IsTaken taken later (get_or addresses_later page 0)
      fresh_later page h = elim (cases_eq page end) [
        | inl e ↦ subst (IsTaken taken later) (sym (ap (λ p. get_or addresses_later p 0) e ∙ here)) (record { zone = in_zone; free = free_before; now = now_in })
        | inr ne ↦ let old = so_far.fresh page (subst (λ a. a ≢ 0) (other_page page ne) h) in
            subst (IsTaken taken later) (sym (other_page page ne)) (record { zone = old.zone; free = old.free; now = still_in _ old.now })
      ]

      apart_later : (page more : ℕ) → get_or addresses_later page 0 ≢ 0 → get_or addresses_later page 0 ≡ get_or addresses_later more 0 → page ≡ more
      apart_later page more h e = elim (cases_eq page end) [
        | inl p ↦ elim (cases_eq more end) [
          | inl m ↦ p ∙ sym m
          | inr m ↦
              let same : get_or addresses more 0 ≡ at = sym (other_page more m) ∙ sym e ∙ ap (λ k. get_or addresses_later k 0) p ∙ here in
              absurd (is_apart _ (so_far.fresh more (λ z. not_zero (sym same ∙ z))).now same)
        ]
        | inr p ↦ elim (cases_eq more end) [
          | inl m ↦
              let same : get_or addresses page 0 ≡ at = sym (other_page page p) ∙ e ∙ ap (λ k. get_or addresses_later k 0) m ∙ here in
              absurd (is_apart _ (so_far.fresh page (λ z. not_zero (sym same ∙ z))).now same)
          | inr m ↦ so_far.apart page more (subst (λ a. a ≢ 0) (other_page page p) h) (sym (other_page page p) ∙ e ∙ other_page more m)
        ]
      ]

      among_later : (some : Planned) → IsAmong addresses some → IsAmong addresses_later some
      among_later some (page, ne, is) =
          let p : page ≢ end = λ e. ne (ap (λ k. get_or addresses k 0) e ∙ so_far.rest end (omega arith)) in
          let same = sym (other_page page p) in
          (page, subst (λ a. a ≢ 0) same ne, is ∙ same)

      is_not : (some : Planned) → IsAmong addresses some → some.at ≢ at
      is_not some (page, ne, is) e = is_apart _ (so_far.fresh page ne).now (sym is ∙ e)

      -- the next page stands at an address that was free
      pub put_there : AddsPages contents (end + 1) taken later blocks blocks_later addresses_later
      put_there =
          record {
            first = ap (λ (n : Numbers). n.first) adds.now ∙ so_far.first;
            count = ap (λ (n : Numbers). n.count) adds.now ∙ so_far.count;
            kept = λ q h. still_in q (so_far.kept q h);
            len = let e = len_later in let f = so_far.len in let g = pages_before-there contents end bytes there in omega (arith, e, f, g);
            more = so_far.more ++ one ∷ [];
            added = adds.added ∙ ap (λ l. l ++ one ∷ []) so_far.added ∙ append_assoc blocks so_far.more (one ∷ []);
            many = length-append so_far.more (one ∷ []) ∙ ap (λ n. n + 1) so_far.many ∙ sym (pages_before-there contents end bytes there);
            whole = length-set addresses end at ∙ so_far.whole;
            pages = pages_later;
            rest = λ page h. let ne : page ≢ end = omega arith in other_page page ne ∙ so_far.rest page (omega arith);
            fresh = fresh_later;
            apart = apart_later;
            within = All-push (IsAmong addresses_later) so_far.more one (All-weaker (IsAmong addresses) (IsAmong addresses_later) among_later so_far.more so_far.within) (end, subst (λ a. a ≢ 0) (sym here) not_zero, sym here);
            once = subst AllDiffer (sym (map-append (λ (some : Planned). some.at) so_far.more (one ∷ []))) (differ-push (map_list (λ (some : Planned). some.at) so_far.more) at so_far.once
                (recursion_from_All (λ x. x ≢ at) (map_list (λ (some : Planned). some.at) so_far.more) (All-map (λ x. x ≢ at) (λ (some : Planned). some.at) so_far.more (All-weaker (IsAmong addresses) (λ some. some.at ≢ at) is_not so_far.more so_far.within))));
          }
