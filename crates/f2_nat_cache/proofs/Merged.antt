-- A journal with all changes: its entries in their order, and the new ones by rising nid.
use Rattle.std.proofs.Common.{◌≡◌, ℕ, zero, suc, ◌+◌, ◌-◌, ◌<◌, ◌≤◌, Bool, true, false, cond, not, ◌&&◌, ◌||◌, List, [], ◌∷◌, ◌++◌, length, take, get_or, Option, Some, None, is_some, IsSome, nat_eq, refl, ap, sym, subst, ◌∙◌, arith, append_assoc, length-append, add-one, drop, drop-cons}
use Rattle.std.specs.Prelude.{map as list_map, nat_lt}
use Rattle.std.specs.Option.{unwrap_or, option_or, option_map, is_none}
use Rattle.std.specs.List.{count_by, list_any}
use Rattle.std.specs.Ordering.{nat_cmp, eq_by_cmp}
use Rattle.std.specs.declared.cmp.Ordering.TheVariants.{Greater}
use Rattle.std.specs.Cmp.{nat_cmp_total, unsigned_ties}
use Rattle.std.specs.FinMap as map
use Rattle.std.specs.FinMap.Entries.{by_order, put}
use Rattle.std.proofs.lemmas.Bool.Decides.{nat_tests}
use Rattle.std.proofs.lemmas.List.{append-nil, map-append, length-map, take_more, take-append-drop}
use Rattle.std.proofs.lemmas.List.Sums.{sum_by-cons, count_by-le-length}
use Rattle.f2_format.specs.Nat.{NodePlace, nat_block_of}
use Rattle.f2_format.specs.Journal.{JournalList, journal_find}
use Rattle.f2_nat_block.specs.declared.entries.NatEntry.{NatEntry}
use Rattle.f2_nat_block.specs.NatEntry.{entry_of, place_of}
use Rattle.f2_nat_cache.specs.Entries.{Entries, EachOnce, nids_of, count_in}
use Rattle.f2_nat_cache.specs.Table.{pending}
use Rattle.f2_nat_cache.specs.Plan.{latest_of, new_entries, new_below, renewed, merged, merged_below, is_new}
use Rattle.f2_nat_cache.proofs.Tables.{same, eq_same, eq_itself, eq_turned, get-insert, get-remove}
use Rattle.f2_nat_cache.proofs.Found.{times, times-cons, times-append, times-map, journal_find-map, journal_find-behind, journal_find-front, nowhere, rest_once, head_once, stands_once, found_once}
use Rattle.f2_nat_cache.proofs.Counts.{get-retain}

-- ---- the entries below a nid, in order

-- an entry as the journal has it
abbrev shown : ℕ × NatEntry → ℕ × NodePlace
shown e = (e.0, place_of e.1)

-- each nid is below n
AllBelow : ℕ → List (ℕ × NatEntry) → Type 0
AllBelow n [] = Unit {0}
AllBelow n (e ∷ es) = (e.0 < n) × AllBelow n es

above : (n k : ℕ) → k < n → nat_cmp n k ≡ Greater
above n k h = grind (arith, nat_tests)

-- an entry past all others goes last
put-last : (n : ℕ) (v : NatEntry) (es : List (ℕ × NatEntry)) → AllBelow n es → put nat_cmp n v es ≡ es ++ (n, v) ∷ []
unfolding AllBelow
put-last n v [] below = refl
put-last n v (e ∷ es) below =
    ap (λ o. by_order o ((n, v) ∷ e ∷ es) ((e.0, v) ∷ es) (e ∷ put nat_cmp n v es)) (above n e.0 below.0) ∙ ap (λ r. e ∷ r) (put-last n v es below.1)

tied_itself : (q : ℕ) → eq_by_cmp nat_cmp q q ≡ true
tied_itself q = grind (arith, nat_tests)

any_head : (q : ℕ) (ks : List ℕ) → list_any (eq_by_cmp nat_cmp q) (q ∷ ks) ≡ true
any_head q ks = ap (λ b. b || list_any (eq_by_cmp nat_cmp q) ks) (tied_itself q)

any_tail : (a b : Bool) → b ≡ true → (a || b) ≡ true
any_tail true b e = refl
any_tail false b e = e

all_below : (n : ℕ) (es : List (ℕ × NatEntry)) → ((q : ℕ) → list_any (eq_by_cmp nat_cmp q) (list_map (λ e. e.0) es) ≡ true → q < n) → AllBelow n es
unfolding AllBelow
all_below n [] h = tt
all_below n (e ∷ es) h = (
  h e.0 (any_head e.0 (list_map (λ f. f.0) es)),
  all_below n es (λ q there. h q (any_tail (eq_by_cmp nat_cmp q e.0) (list_any (eq_by_cmp nat_cmp q) (list_map (λ f. f.0) es)) there)),
)

-- the dirty entries of new nids below n
abbrev low : Entries → JournalList → ℕ → Entries
low dirty journal n = map.retain_keys dirty (λ nid. is_new journal nid && nat_lt nid n)

passed_both : (a b : Bool) {X : Type 0} (o : Option X) → is_some (cond (a && b) o None) ≡ true → b ≡ true
passed_both true true o h = refl
passed_both true false o h = h
passed_both false b o h = let wrong : ◌≡◌ false true = h in cc

below_entries : (dirty : Entries) (journal : JournalList) (n : ℕ) → AllBelow n (map.entries (low dirty journal n))
below_entries dirty journal n =
    all_below n (map.entries (low dirty journal n)) (λ q there.
    let found = map.contains_key-keys (low dirty journal n) q ∙ there in
    let test = passed_both (is_new journal q) (nat_lt q n) (map.get dirty q) (sym (ap is_some (get-retain dirty (λ nid. is_new journal nid && nat_lt nid n) q)) ∙ found) in
    let lt : q < n = grind (arith, nat_tests, test) in lt)

lt_next_other : (q n : ℕ) → nat_eq q n ≡ false → nat_lt q (n + 1) ≡ nat_lt q n
lt_next_other q n h = grind (arith, nat_tests)

lt_next_same : (n : ℕ) → nat_lt n (n + 1) ≡ true
lt_next_same n = grind (arith, nat_tests)

lt_same : (n : ℕ) → nat_lt n n ≡ false
lt_same n = grind (arith, nat_tests)

-- a new nid with a dirty entry comes last
entries-next : (dirty : Entries) (journal : JournalList) (n : ℕ) (e : NatEntry) → is_new journal n ≡ true → map.get dirty n ≡ Some e
    → new_below dirty journal (n + 1) ≡ new_below dirty journal n ++ (n, place_of e) ∷ []
entries-next dirty journal n e new found =
    ap (λ m. list_map shown (map.entries m)) (same _ _ (λ q. at q (nat_eq q n) refl))
    ∙ ap (list_map shown) (map.entries-insert nat_cmp_total (low dirty journal n) n e ∙ put-last n e _ (below_entries dirty journal n))
    ∙ map-append shown (map.entries (low dirty journal n)) ((n, e) ∷ [])
  where
    at : (q : ℕ) (b : Bool) → nat_eq q n ≡ b → map.get (low dirty journal (n + 1)) q ≡ map.get (map.insert (low dirty journal n) n e) q
    at q true here =
        let one = eq_same q n here in
        get-retain dirty (λ nid. is_new journal nid && nat_lt nid (n + 1)) q
        ∙ ap (λ k. cond (is_new journal k && nat_lt k (n + 1)) (map.get dirty k) None) one
        ∙ (λ i. cond (new i && lt_next_same n i) (found i) None)
        ∙ sym (get-insert (low dirty journal n) n e q ∙ ap (λ b. cond b (Some e) (map.get (low dirty journal n) q)) here)
    at q false other =
        get-retain dirty (λ nid. is_new journal nid && nat_lt nid (n + 1)) q
        ∙ ap (λ b. cond (is_new journal q && b) (map.get dirty q) None) (lt_next_other q n other)
        ∙ sym (get-insert (low dirty journal n) n e q ∙ ap (λ b. cond b (Some e) (map.get (low dirty journal n) q)) other ∙ get-retain dirty (λ nid. is_new journal nid && nat_lt nid n) q)

nothing_there : (a : Bool) (o : Option NatEntry) → (a ≡ true → o ≡ None) → cond (a && true) o None ≡ cond (a && false) o None
nothing_there true o h = h refl
nothing_there false o h = refl

-- any other nid adds nothing
below-next : (dirty : Entries) (journal : JournalList) (n : ℕ) → (is_new journal n ≡ true → map.get dirty n ≡ None) → low dirty journal (n + 1) ≡ low dirty journal n
below-next dirty journal n nothing = same _ _ (λ q. get-retain dirty (λ nid. is_new journal nid && nat_lt nid (n + 1)) q ∙ at q (nat_eq q n) refl ∙ sym (get-retain dirty (λ nid. is_new journal nid && nat_lt nid n) q))
  where
    at : (q : ℕ) (b : Bool) → nat_eq q n ≡ b → cond (is_new journal q && nat_lt q (n + 1)) (map.get dirty q) None ≡ cond (is_new journal q && nat_lt q n) (map.get dirty q) None
    at q true here =
        let one = eq_same q n here in
        ap (λ k. cond (is_new journal k && nat_lt k (n + 1)) (map.get dirty k) None) one
        ∙ ap (λ b. cond (is_new journal n && b) (map.get dirty n) None) (lt_next_same n)
        ∙ nothing_there (is_new journal n) (map.get dirty n) nothing
        ∙ ap (λ b. cond (is_new journal n && b) (map.get dirty n) None) (sym (lt_same n))
        ∙ ap (λ k. cond (is_new journal k && nat_lt k n) (map.get dirty k) None) (sym one)
    at q false other = ap (λ b. cond (is_new journal q && b) (map.get dirty q) None) (lt_next_other q n other)

-- so none of many nids adds anything where none of them is new and dirty
below-skip : (dirty : Entries) (journal : JournalList) (n k : ℕ) → ((q : ℕ) → n ≤ q → q < n + k → map.get dirty q ≡ None) → low dirty journal (n + k) ≡ low dirty journal n
below-skip dirty journal n zero none = ap (low dirty journal) (omega arith)
below-skip dirty journal n (suc k) none =
    let next : n + suc k ≡ (n + k) + 1 = omega arith in
    ap (low dirty journal) next ∙ below-next dirty journal (n + k) (λ _. none (n + k) (omega arith) (omega arith))
    ∙ below-skip dirty journal n k (λ q low high. none q low (omega arith))

-- no more below a nid than below a later one
next_longer : (dirty : Entries) (journal : JournalList) (n : ℕ) → length (new_below dirty journal n) ≤ length (new_below dirty journal (n + 1))
next_longer dirty journal n = at (is_new journal n) (map.get dirty n) refl refl
  where
    at : (b : Bool) (o : Option NatEntry) → is_new journal n ≡ b → map.get dirty n ≡ o → length (new_below dirty journal n) ≤ length (new_below dirty journal (n + 1))
    at true (Some e) new found = let l = ap (λ (j : JournalList). length j) (entries-next dirty journal n e new found) in omega (arith, l, length-append (new_below dirty journal n) ((n, place_of e) ∷ []))
    at true None new found = let l = ap (λ (m : Entries). length (list_map shown (map.entries m))) (below-next dirty journal n (λ _. found)) in omega (arith, l)
    at false o new found = let l = ap (λ (m : Entries). length (list_map shown (map.entries m))) (below-next dirty journal n (λ h. let wrong : ◌≡◌ false true = sym new ∙ h in cc)) in omega (arith, l)

longer : (dirty : Entries) (journal : JournalList) (n k : ℕ) → length (new_below dirty journal n) ≤ length (new_below dirty journal (n + k))
longer dirty journal n zero = let l = ap (λ m. length (new_below dirty journal m)) (let e : n + 0 ≡ n = omega arith in e) in omega (arith, l)
longer dirty journal n (suc k) =
    let l = ap (λ m. length (new_below dirty journal m)) (let e : n + suc k ≡ (n + k) + 1 = omega arith in e) in
    omega (arith, l, longer dirty journal n k, next_longer dirty journal (n + k))

-- past every dirty nid all new entries are there
below-all : (dirty : Entries) (journal : JournalList) (n : ℕ) → ((q : ℕ) → IsSome (map.get dirty q) → q < n) → low dirty journal n ≡ map.retain_keys dirty (is_new journal)
below-all dirty journal n within = same _ _ (λ q. get-retain dirty (λ nid. is_new journal nid && nat_lt nid n) q ∙ at q (map.get dirty q) refl ∙ sym (get-retain dirty (is_new journal) q))
  where
    none_both : (a b : Bool) → let none : Option NatEntry = None in cond (a && b) none none ≡ cond a none none
    none_both true true = refl
    none_both true false = refl
    none_both false b = refl

    some_both : (a b : Bool) (o : Option NatEntry) → b ≡ true → cond (a && b) o None ≡ cond a o None
    some_both true true o h = refl
    some_both false true o h = refl
    some_both a false o h = let wrong : ◌≡◌ false true = h in cc

    at : (q : ℕ) (o : Option NatEntry) → map.get dirty q ≡ o → cond (is_new journal q && nat_lt q n) (map.get dirty q) None ≡ cond (is_new journal q) (map.get dirty q) None
    at q None e = ap (λ o. cond (is_new journal q && nat_lt q n) o None) e ∙ none_both (is_new journal q) (nat_lt q n) ∙ ap (λ o. cond (is_new journal q) o None) (sym e)
    at q (Some x) e = some_both (is_new journal q) (nat_lt q n) (map.get dirty q) (let lt : q < n = within q (ap is_some e) in let b : nat_lt q n ≡ true = grind (arith, nat_tests) in b)

-- ---- what is found among the new ones

find-shown : (es : List (ℕ × NatEntry)) (nid : ℕ) → journal_find (list_map shown es) nid ≡ option_map place_of (map.find nat_cmp nid es)
find-shown [] nid = refl
find-shown (e ∷ es) nid =
    (λ i. cond (turned e.0 nid i) (Some (place_of e.1)) (find-shown es nid i))
    ∙ either (eq_by_cmp nat_cmp nid e.0) (map.find nat_cmp nid es)
  where
    turned : (a b : ℕ) → nat_eq a b ≡ eq_by_cmp nat_cmp b a
    turned a b = eq_turned a b ∙ unsigned_ties b a

    either : (t : Bool) (o : Option NatEntry) → cond t (Some (place_of e.1)) (option_map place_of o) ≡ option_map place_of (cond t (Some e.1) o)
    either true o = refl
    either false o = refl

find-entries : (m : Entries) (nid : ℕ) → journal_find (list_map shown (map.entries m)) nid ≡ option_map place_of (map.get m nid)
find-entries m nid = find-shown (map.entries m) nid ∙ ap (option_map place_of) (sym (map.get-entries m nid))

-- a nid is not among those below it
not_below : (dirty : Entries) (journal : JournalList) (n : ℕ) → journal_find (new_below dirty journal n) n ≡ None
not_below dirty journal n =
    find-entries (low dirty journal n) n
    ∙ ap (option_map place_of) (get-retain dirty (λ nid. is_new journal nid && nat_lt nid n) n ∙ ap (λ b. cond (is_new journal n && b) (map.get dirty n) None) (lt_same n) ∙ neither (is_new journal n) (map.get dirty n))
  where
    neither : (a : Bool) (o : Option NatEntry) → cond (a && false) o None ≡ None
    neither true o = refl
    neither false o = refl

-- each of the new ones stands once
none_below : (dirty : Entries) (journal : JournalList) → low dirty journal 0 ≡ map.empty
none_below dirty journal = same _ _ (λ q. get-retain dirty (λ nid. is_new journal nid && nat_lt nid 0) q ∙ at (is_new journal q) (nat_lt q 0) (map.get dirty q) (let e : nat_lt q 0 ≡ false = grind (arith, nat_tests) in e) ∙ sym (map.get-empty nat_cmp q))
  where
    at : (a b : Bool) (o : Option NatEntry) → b ≡ false → cond (a && b) o None ≡ None
    at true true o h = cc
    at true false o h = refl
    at false b o h = refl

new_once : (dirty : Entries) (journal : JournalList) (n nid : ℕ) → times (new_below dirty journal n) nid ≤ 1
new_once dirty journal zero nid =
    let short = count_by-le-length (λ (e : ℕ × NodePlace). nat_eq e.0 nid) (new_below dirty journal 0) in
    let long = length-map (map.entries (low dirty journal 0)) shown in
    let none = sym (map.len-entries (low dirty journal 0)) ∙ ap (λ m. map.len m) (none_below dirty journal) ∙ map.len-empty nat_cmp NatEntry in
    omega (arith, short, long, none)
new_once dirty journal (suc n) nid =
    let next = ap (λ m. times (new_below dirty journal m) nid) (let e : suc n ≡ n + 1 = omega arith in e) in
    let rest = new_once dirty journal n nid in
    at next rest (is_new journal n) (map.get dirty n) refl refl
  where
    at : times (new_below dirty journal (suc n)) nid ≡ times (new_below dirty journal (n + 1)) nid → times (new_below dirty journal n) nid ≤ 1
        → (b : Bool) (o : Option NatEntry) → is_new journal n ≡ b → map.get dirty n ≡ o → times (new_below dirty journal (suc n)) nid ≤ 1
    at next rest true (Some e) new found =
        let all = ap (λ j. times j nid) (entries-next dirty journal n e new found) ∙ times-append (new_below dirty journal n) ((n, place_of e) ∷ []) nid in
        let last = times-cons (n, place_of e) [] nid in
        (elim (nat_eq n nid) as (λ t. nat_eq n nid ≡ t → times ((n, place_of e) ∷ []) nid ≡ cond t 1 0 + 0 → times (new_below dirty journal (suc n)) nid ≤ 1) [
          | true ↦ λ here one. let none = nowhere (new_below dirty journal n) nid (ap (journal_find (new_below dirty journal n)) (sym (eq_same n nid here)) ∙ not_below dirty journal n) in omega (arith, next, all, one, none)
          | false ↦ λ here one. omega (arith, next, all, one, rest)
        ]) refl last
    at next rest true None new found = let l = ap (λ (m : Entries). times (list_map shown (map.entries m)) nid) (below-next dirty journal n (λ _. found)) in omega (arith, next, l, rest)
    at next rest false o new found = let l = ap (λ (m : Entries). times (list_map shown (map.entries m)) nid) (below-next dirty journal n (λ h. let wrong : ◌≡◌ false true = sym new ∙ h in cc)) in omega (arith, next, l, rest)

-- ---- the journal with all changes

find-latest : (dirty : Entries) (journal : JournalList) (nid : ℕ) → journal_find (list_map (λ e. (e.0, latest_of dirty e)) journal) nid ≡ option_map (λ p. latest_of dirty (nid, p)) (journal_find journal nid)
find-latest dirty journal nid = journal_find-map (latest_of dirty) journal nid

pub merged_once : (dirty : Entries) (journal : JournalList) (n : ℕ) → ((q : ℕ) → IsSome (map.get dirty q) → q < n) → EachOnce journal → EachOnce (merged dirty journal)
merged_once dirty journal n within once nid =
    let front = list_map (λ (e : ℕ × NodePlace). (e.0, latest_of dirty e)) journal in
    let all = times-append front (new_entries dirty journal) nid in
    let old = times-map (latest_of dirty) journal nid in
    let new = new_once dirty journal n nid in
    let whole = ap (λ (m : Entries). times (list_map shown (map.entries m)) nid) (below-all dirty journal n within) in
    at all old new whole (journal_find journal nid) refl
  where
    at : times (merged dirty journal) nid ≡ times (list_map (λ (e : ℕ × NodePlace). (e.0, latest_of dirty e)) journal) nid + times (new_entries dirty journal) nid → times (list_map (λ (e : ℕ × NodePlace). (e.0, latest_of dirty e)) journal) nid ≡ times journal nid
        → times (new_below dirty journal n) nid ≤ 1 → times (new_below dirty journal n) nid ≡ times (new_entries dirty journal) nid → (o : Option NodePlace) → journal_find journal nid ≡ o → times (merged dirty journal) nid ≤ 1
    at all old new whole None found = let none = nowhere journal nid found in omega (arith, all, old, new, whole, none)
    at all old new whole (Some p) found =
        let none = nowhere (new_entries dirty journal) nid (find-entries (map.retain_keys dirty (is_new journal)) nid ∙ ap (option_map place_of) (get-retain dirty (is_new journal) nid ∙ ap (λ o. cond (is_none o) (map.get dirty nid) None) found)) in
        omega (arith, all, old, none, once nid)

-- the map stays where all changes are in the journal
pub pending-merged : (dirty : Entries) (journal : JournalList) (nid : ℕ) → pending map.empty (merged dirty journal) nid ≡ pending dirty journal nid
pending-merged dirty journal nid =
    ap (λ o. option_or o (option_map entry_of (journal_find (merged dirty journal) nid))) (map.get-empty nat_cmp nid)
    ∙ at (journal_find journal nid) (map.get dirty nid) refl refl
  where
    back : (d : Option NatEntry) → option_map entry_of (option_map place_of d) ≡ option_or d None
    back None = refl
    back (Some e) = refl

    both : (d : Option NatEntry) (p : NodePlace) → Some (entry_of (unwrap_or (option_map place_of d) p)) ≡ option_or d (Some (entry_of p))
    both None p = refl
    both (Some e) p = refl

    at : (o : Option NodePlace) (d : Option NatEntry) → journal_find journal nid ≡ o → map.get dirty nid ≡ d → option_map entry_of (journal_find (merged dirty journal) nid) ≡ pending dirty journal nid
    at None d found is =
        let front = find-latest dirty journal nid ∙ ap (option_map (λ p. latest_of dirty (nid, p))) found in
        let behind = find-entries (map.retain_keys dirty (is_new journal)) nid ∙ ap (option_map place_of) (get-retain dirty (is_new journal) nid ∙ ap (λ o. cond (is_none o) (map.get dirty nid) None) found ∙ is) in
        ap (option_map entry_of) (journal_find-behind (list_map (λ (e : ℕ × NodePlace). (e.0, latest_of dirty e)) journal) (new_entries dirty journal) nid front ∙ behind)
        ∙ back d
        ∙ sym ((λ i. option_or (is i) (option_map entry_of (found i))))
    at (Some p) d found is =
        let front = find-latest dirty journal nid ∙ ap (option_map (λ p. latest_of dirty (nid, p))) found in
        ap (option_map entry_of) (journal_find-front (list_map (λ (e : ℕ × NodePlace). (e.0, latest_of dirty e)) journal) (new_entries dirty journal) nid (latest_of dirty (nid, p)) front)
        ∙ ap (λ (o : Option NatEntry). Some (entry_of (unwrap_or (option_map place_of o) p))) is
        ∙ both d p
        ∙ sym ((λ i. option_or (is i) (option_map entry_of (found i))))

-- ---- how many entries it has

some_len : (m : Entries) (k : ℕ) → map.contains_key m k ≡ true → 1 ≤ map.len m
some_len m k there = at (map.len m) refl
  where
    at : (n : ℕ) → map.len m ≡ n → 1 ≤ map.len m
    at zero e = let wrong : ◌≡◌ false true = sym (ap is_some (ap (λ m. map.get m k) (map.empty_of_len m e) ∙ map.get-empty nat_cmp k)) ∙ there in cc
    at (suc n) e = omega (arith, e)

retain-cons : (m : Entries) (e : ℕ × NodePlace) (j : JournalList) → map.retain_keys m (is_new (e ∷ j)) ≡ map.remove (map.retain_keys m (is_new j)) e.0
retain-cons m e j = same _ _ (λ q. get-retain m (is_new (e ∷ j)) q ∙ at q (nat_eq e.0 q) refl ∙ ap (cond (nat_eq q e.0) None) (sym (get-retain m (is_new j) q)) ∙ sym (get-remove (map.retain_keys m (is_new j)) e.0 q))
  where
    at : (q : ℕ) (t : Bool) → nat_eq e.0 q ≡ t → cond (is_none (cond (nat_eq e.0 q) (Some e.1) (journal_find j q))) (map.get m q) None ≡ cond (nat_eq q e.0) None (cond (is_new j q) (map.get m q) None)
    at q true here = ap (λ t. cond (is_none (cond t (Some e.1) (journal_find j q))) (map.get m q) None) here ∙ sym (ap (λ t. cond t None (cond (is_new j q) (map.get m q) None)) (eq_turned q e.0 ∙ here))
    at q false here = ap (λ t. cond (is_none (cond t (Some e.1) (journal_find j q))) (map.get m q) None) here ∙ sym (ap (λ t. cond t None (cond (is_new j q) (map.get m q) None)) (eq_turned q e.0 ∙ here))

counted-both : (m : Entries) (j : JournalList) → EachOnce j → map.len (map.retain_keys m (is_new j)) + length j ≡ map.len m + count_by (λ nid. not (map.contains_key m nid)) (nids_of j)
counted-both m [] once =
    let all : map.retain_keys m (is_new []) ≡ m = same _ _ (λ q. get-retain m (is_new []) q) in
    let l = ap (λ n. map.len n) all in
    let none : count_by (λ nid. not (map.contains_key m nid)) [] ≡ 0 = refl in
    omega (arith, l, none)
counted-both m (e ∷ j) once =
    let r = map.retain_keys m (is_new j) in
    let rest = counted-both m j (rest_once e j once) in
    let l = ap (λ n. map.len n) (retain-cons m e j) ∙ map.len-remove nat_cmp_total r e.0 in
    let same_there : map.contains_key r e.0 ≡ map.contains_key m e.0 = ap is_some (get-retain m (is_new j) e.0 ∙ ap (λ o. cond (is_none o) (map.get m e.0) None) (head_once e j once)) in
    let count = sum_by-cons (λ (nid : ℕ). cond (not (map.contains_key m nid)) 1 0) e.0 (nids_of j) in
    (elim (map.contains_key m e.0) as (λ t. map.contains_key r e.0 ≡ t → map.len (map.retain_keys m (is_new (e ∷ j))) ≡ cond (map.contains_key r e.0) (map.len r - 1) (map.len r)
    → count_by (λ nid. not (map.contains_key m nid)) (nids_of (e ∷ j)) ≡ cond (not t) 1 0 + count_by (λ nid. not (map.contains_key m nid)) (nids_of j)
    → map.len (map.retain_keys m (is_new (e ∷ j))) + suc (length j) ≡ map.len m + count_by (λ nid. not (map.contains_key m nid)) (nids_of (e ∷ j))) [
      | true ↦ λ here l count. let l' = l ∙ ap (λ t. cond t (map.len r - 1) (map.len r)) here in omega (arith, l', count, rest, some_len r e.0 here)
      | false ↦ λ here l count. let l' = l ∙ ap (λ t. cond t (map.len r - 1) (map.len r)) here in omega (arith, l', count, rest)
    ]) same_there l count

pub length-merged : (dirty : Entries) (journal : JournalList) → EachOnce journal → length (merged dirty journal) ≡ map.len dirty + count_by (λ nid. not (map.contains_key dirty nid)) (nids_of journal)
length-merged dirty journal once =
    let front = list_map (λ (e : ℕ × NodePlace). (e.0, latest_of dirty e)) journal in
    let both = length-append front (new_entries dirty journal) in
    let renew : ℕ × NodePlace → ℕ × NodePlace = λ e. (e.0, latest_of dirty e) in
    let old = length-map journal renew in
    let new = length-map (map.entries (map.retain_keys dirty (is_new journal))) shown in
    let len = map.len-entries (map.retain_keys dirty (is_new journal)) in
    omega (arith, both, old, new, len, counted-both dirty journal once)

-- ---- step by step

pub merged-next : (dirty : Entries) (journal : JournalList) (n : ℕ) (e : NatEntry) → Some e ≡ cond (is_new journal n) (map.get dirty n) None → merged_below dirty journal (n + 1) ≡ merged_below dirty journal n ++ (n, place_of e) ∷ []
merged-next dirty journal n e found = at (is_new journal n) refl (sym found)
  where
    at : (b : Bool) → is_new journal n ≡ b → cond b (map.get dirty n) None ≡ Some e → merged_below dirty journal (n + 1) ≡ merged_below dirty journal n ++ (n, place_of e) ∷ []
    at true new there = ap (λ j. renewed dirty journal ++ j) (entries-next dirty journal n e new there) ∙ sym (append_assoc (renewed dirty journal) (new_below dirty journal n) ((n, place_of e) ∷ []))
    at false new there = cc

pub merged-same : (dirty : Entries) (journal : JournalList) (n : ℕ) → None ≡ cond (is_new journal n) (map.get dirty n) None → merged_below dirty journal (n + 1) ≡ merged_below dirty journal n
merged-same dirty journal n none = ap (λ m. renewed dirty journal ++ list_map shown (map.entries m)) (below-next dirty journal n (λ new. sym (ap (λ b. cond b (map.get dirty n) None) new) ∙ sym none))

pub merged-skip : (dirty : Entries) (journal : JournalList) (n k : ℕ) → ((q : ℕ) → n ≤ q → q < n + k → map.get dirty q ≡ None) → merged_below dirty journal (n + k) ≡ merged_below dirty journal n
merged-skip dirty journal n k none = ap (λ m. renewed dirty journal ++ list_map shown (map.entries m)) (below-skip dirty journal n k none)

pub merged-all : (dirty : Entries) (journal : JournalList) (n : ℕ) → ((q : ℕ) → IsSome (map.get dirty q) → q < n) → merged_below dirty journal n ≡ merged dirty journal
merged-all dirty journal n within = ap (λ m. renewed dirty journal ++ list_map shown (map.entries m)) (below-all dirty journal n within)

pub merged-none : (dirty : Entries) (journal : JournalList) → merged_below dirty journal 0 ≡ renewed dirty journal
merged-none dirty journal =
    let none = no_length (map.entries (low dirty journal 0)) (sym (map.len-entries (low dirty journal 0)) ∙ ap (λ m. map.len m) (none_below dirty journal) ∙ map.len-empty nat_cmp NatEntry) in
    ap (λ es. renewed dirty journal ++ list_map shown es) none ∙ append-nil (renewed dirty journal)
  where
    no_length : (es : List (ℕ × NatEntry)) → length es ≡ 0 → es ≡ []
    no_length [] e = refl
    no_length (x ∷ es) e = absurd (omega arith)

pub merged-longer : (dirty : Entries) (journal : JournalList) (n m : ℕ) → n ≤ m → length (merged_below dirty journal n) ≤ length (merged_below dirty journal m)
merged-longer dirty journal n m h =
    let l = ap (λ k. length (new_below dirty journal k)) (let e : n + (m - n) ≡ m = omega arith in e) in
    omega (arith, l, longer dirty journal n (m - n), length-append (renewed dirty journal) (new_below dirty journal n), length-append (renewed dirty journal) (new_below dirty journal m))

-- a new nid isn't there before its turn
pub merged-absent : (dirty : Entries) (journal : JournalList) (n : ℕ) (e : NatEntry) → Some e ≡ cond (is_new journal n) (map.get dirty n) None → journal_find (merged_below dirty journal n) n ≡ None
merged-absent dirty journal n e found = at (journal_find journal n) refl (sym found)
  where
    at : (o : Option NodePlace) → journal_find journal n ≡ o → cond (is_none o) (map.get dirty n) None ≡ Some e → journal_find (merged_below dirty journal n) n ≡ None
    at None none there =
        journal_find-behind (renewed dirty journal) (new_below dirty journal n) n (find-latest dirty journal n ∙ ap (option_map (λ p. latest_of dirty (n, p))) none) ∙ not_below dirty journal n
    at (Some p) found there = cc

-- no entry of a block is dirty where none is counted
pub none_counted : (m : Entries) (block q : ℕ) → count_in m block ≡ 0 → nat_block_of q ≡ block → map.get m q ≡ None
none_counted m block q none here =
    let p = λ (nid : ℕ). nat_eq (nat_block_of nid) block in
    let test : p q ≡ true = ap (λ b. nat_eq b block) here ∙ eq_itself block in
    sym (get-retain m p q ∙ ap (λ b. cond b (map.get m q) None) test) ∙ ap (λ r. map.get r q) (map.empty_of_len (map.retain_keys m p) none) ∙ map.get-empty nat_cmp q

-- ---- the renewed entries, one by one

-- the next entry of a journal with its latest place
pub renewed-more : (dirty : Entries) (journal : JournalList) (i : ℕ) (d : ℕ × NodePlace) → i < length journal → renewed dirty (take (i + 1) journal) ≡ renewed dirty (take i journal) ++ ((get_or journal i d).0, latest_of dirty (get_or journal i d)) ∷ []
renewed-more dirty journal i d h = ap (renewed dirty) (take_more journal i d h) ∙ map-append (λ (e : ℕ × NodePlace). (e.0, latest_of dirty e)) (take i journal) (get_or journal i d ∷ [])

split_at : (journal : JournalList) (i : ℕ) (d : ℕ × NodePlace) → i < length journal → journal ≡ take i journal ++ get_or journal i d ∷ drop (i + 1) journal
split_at journal i d h = sym (take-append-drop i journal) ∙ ap (λ r. take i journal ++ r) (rw add-one (drop-cons journal i d h))

-- its nid isn't among those before it
pub renewed-absent : (dirty : Entries) (journal : JournalList) (i : ℕ) (d : ℕ × NodePlace) → i < length journal → EachOnce journal → journal_find (renewed dirty (take i journal)) (get_or journal i d).0 ≡ None
renewed-absent dirty journal i d h once =
    let e = get_or journal i d in
    find-latest dirty (take i journal) e.0
    ∙ ap (option_map (λ p. latest_of dirty (e.0, p))) (stands_once (take i journal) (drop (i + 1) journal) e (subst EachOnce (split_at journal i d h) once))

-- what is pending of it is its latest place
pub renewed-pending : (dirty : Entries) (journal : JournalList) (i : ℕ) (d : ℕ × NodePlace) → i < length journal → EachOnce journal → pending dirty journal (get_or journal i d).0 ≡ Some (entry_of (latest_of dirty (get_or journal i d)))
renewed-pending dirty journal i d h once =
    let e = get_or journal i d in
    let whole = split_at journal i d h in
    let found = ap (λ j. journal_find j e.0) whole ∙ found_once (take i journal) (drop (i + 1) journal) e (subst EachOnce whole once) in
    ap (λ o. option_or (map.get dirty e.0) (option_map entry_of o)) found ∙ either (map.get dirty e.0) e.1
  where
    either : (o : Option NatEntry) (p : NodePlace) → option_or o (Some (entry_of p)) ≡ Some (entry_of (unwrap_or (option_map place_of o) p))
    either None p = refl
    either (Some x) p = refl
