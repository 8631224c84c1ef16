-- The four parts of a file below its inode: the two direct nodes, the two indirect nodes' and the double indirect one's.
use Rattle.std.proofs.Common.{◌≡◌, ℕ, ◌+◌, ◌-◌, ◌*◌, ◌/◌, ◌%◌, ◌<◌, ◌≤◌, List, [], ◌∷◌, ◌++◌, Some, refl, ap, sym, ◌∙◌, inl, inr, arith, nat_lt, if◌then◌else◌}
use Rattle.std.proofs.lemmas.Bool.Decides.{nat_tests}
use Rattle.std.proofs.lemmas.Bool.{cases_order}
use Rattle.std.proofs.lemmas.Nat.{div-mul-add}
use Rattle.f2_format.specs.Offsets.{inode_pages, node_slots, direct_limit, page_limit, direct_of, direct_number, nth_direct, nodes_above, nodes_down_to, slots_to}
use Rattle.f2_shape.specs.Routes.{IsFirstPage}

-- the number of a direct node of the double indirect part, counted from that part's first
abbrev pub in_double : ℕ → ℕ
in_double k = k - 2038

direct_in_inode : (k : ℕ) → k < 2 → nth_direct k ≡ 1 + k
direct_in_inode k h = grind (arith, nat_tests)

direct_in_first : (k : ℕ) → 2 ≤ k → k < 1020 → nth_direct k ≡ 4 + (k - 2)
direct_in_first k a b = grind (arith, nat_tests)

direct_in_second : (k : ℕ) → 1020 ≤ k → k < 2038 → nth_direct k ≡ 1023 + (k - 1020)
direct_in_second k a b = grind (arith, nat_tests)

direct_in_double : (k : ℕ) → 2038 ≤ k → nth_direct k ≡ 2042 + in_double k / 1018 * 1019 + 1 + in_double k % 1018
direct_in_double k a = grind (arith, nat_tests)

above_in_inode : (d : ℕ) → d < 3 → nodes_above d ≡ []
unfolding nodes_above
above_in_inode d h = grind (arith, nat_tests)

above_in_first : (d : ℕ) → 3 < d → d < 1022 → nodes_above d ≡ 3 ∷ []
unfolding nodes_above
above_in_first d a b = grind (arith, nat_tests)

above_in_second : (d : ℕ) → 1022 < d → d < 2041 → nodes_above d ≡ 1022 ∷ []
unfolding nodes_above
above_in_second d a b = grind (arith, nat_tests)

-- a direct node at place y below the indirect node x of the double indirect part
above_in_double : (x y d : ℕ) → y < 1018 → d ≡ 2042 + x * 1019 + 1 + y → nodes_above d ≡ 2041 ∷ (2042 + x * 1019) ∷ []
unfolding nodes_above
above_in_double x y d b e =
    let of_x : (d - 2042) / 1019 ≡ x =
    let rest : d - 2042 ≡ x * 1019 + (1 + y) = omega arith in
    ap (λ n. n / 1019) rest ∙ div-mul-add x 1019 (1 + y) (omega arith)
    in
    grind (arith, nat_tests, of_x)

pub slots_in_inode : (k slot : ℕ) → k < 2 → slots_to k slot ≡ k ∷ slot ∷ []
slots_in_inode k slot h = grind (arith, nat_tests)

pub slots_in_first : (k slot : ℕ) → 2 ≤ k → k < 1020 → slots_to k slot ≡ 2 ∷ (k - 2) ∷ slot ∷ []
slots_in_first k slot a b = grind (arith, nat_tests)

pub slots_in_second : (k slot : ℕ) → 1020 ≤ k → k < 2038 → slots_to k slot ≡ 3 ∷ (k - 1020) ∷ slot ∷ []
slots_in_second k slot a b = grind (arith, nat_tests)

pub slots_in_double : (k slot : ℕ) → 2038 ≤ k → slots_to k slot ≡ 4 ∷ (in_double k / 1018) ∷ (in_double k % 1018) ∷ slot ∷ []
slots_in_double k slot a = grind (arith, nat_tests)

-- the nodes down to a direct node, from its offset and the nodes above it
nodes_down : (direct d : ℕ) (above : List ℕ) → direct ≡ d → nodes_above d ≡ above → nodes_down_to (Some direct) ≡ above ++ d ∷ []
nodes_down direct d above e f = ap (λ x. nodes_above x ++ x ∷ []) e ∙ ap (λ xs. xs ++ d ∷ []) f

pub down_in_inode : (k : ℕ) → k < 2 → nodes_down_to (Some (nth_direct k)) ≡ (1 + k) ∷ []
down_in_inode k h = nodes_down (nth_direct k) (1 + k) [] (direct_in_inode k h) (above_in_inode (1 + k) (omega arith))

pub down_in_first : (k : ℕ) → 2 ≤ k → k < 1020 → nodes_down_to (Some (nth_direct k)) ≡ 3 ∷ (4 + (k - 2)) ∷ []
down_in_first k a b =
    nodes_down (nth_direct k) (4 + (k - 2)) (3 ∷ []) (direct_in_first k a b) (above_in_first (4 + (k - 2)) (omega arith) (omega arith))

pub down_in_second : (k : ℕ) → 1020 ≤ k → k < 2038 → nodes_down_to (Some (nth_direct k)) ≡ 1022 ∷ (1023 + (k - 1020)) ∷ []
down_in_second k a b =
    nodes_down (nth_direct k) (1023 + (k - 1020)) (1022 ∷ []) (direct_in_second k a b)
    (above_in_second (1023 + (k - 1020)) (omega arith) (omega arith))

pub down_in_double : (k : ℕ) → 2038 ≤ k → nodes_down_to (Some (nth_direct k)) ≡ 2041 ∷ (2042 + in_double k / 1018 * 1019) ∷ (2042 + in_double k / 1018 * 1019 + 1 + in_double k % 1018) ∷ []
down_in_double k a =
    nodes_down (nth_direct k) (2042 + in_double k / 1018 * 1019 + 1 + in_double k % 1018) (2041 ∷ (2042 + in_double k / 1018 * 1019) ∷ [])
    (direct_in_double k a)
    (above_in_double (in_double k / 1018) (in_double k % 1018) _ (omega arith) refl)

-- how far a direct node's offset is ahead of its number: by one for the inode, and for each indirect node before it
abbrev ahead : ℕ → ℕ
ahead k = if nat_lt k 2 then 1 else if nat_lt k 1020 then 2 else if nat_lt k 2038 then 3 else 5 + (k - 2038) / 1018

nth_direct-ahead : (k : ℕ) → nth_direct k ≡ k + ahead k
nth_direct-ahead k = grind (arith, nat_tests)

ahead-le : (k m : ℕ) → k ≤ m → ahead k ≤ ahead m
ahead-le k m h = grind (arith, nat_tests)

-- the offsets of direct nodes rise with their pages
pub nth_direct-lt : (k m : ℕ) → k < m → nth_direct k < nth_direct m
nth_direct-lt k m h = omega (arith, nth_direct-ahead k, nth_direct-ahead m, ahead-le k m (omega arith))

pub nth_direct-le : (k m : ℕ) → k ≤ m → nth_direct k ≤ nth_direct m
nth_direct-le k m h = omega (arith, nth_direct-ahead k, nth_direct-ahead m, ahead-le k m h)

pub same_number : (k m : ℕ) → nth_direct k ≡ nth_direct m → k ≡ m
same_number k m e =
    elim (cases_order k m) [
      | inl same ↦ same
      | inr (inl below) ↦ absurd (omega (arith, nth_direct-lt k m below))
      | inr (inr above) ↦ absurd (omega (arith, nth_direct-lt m k above))
    ]

-- a page has the direct node with its number exactly between the inode's pages and the limit
pub direct_of-number : (page : ℕ) → inode_pages ≤ page → page < page_limit → direct_of page ≡ Some (nth_direct (direct_number page))
unfolding direct_of
direct_of-number page a b = grind (arith, nat_tests)

pub number_of-direct : (page d : ℕ) → direct_of page ≡ Some d → (inode_pages ≤ page) × (page < page_limit) × (nth_direct (direct_number page) ≡ d)
unfolding direct_of
number_of-direct page d e = grind (arith, nat_tests)

-- the direct node with this number has the page that starts its range, and no page before it
pub IsFirstPage-number : (k d : ℕ) → k < direct_limit → nth_direct k ≡ d → IsFirstPage d (inode_pages + k * node_slots)
IsFirstPage-number k d h e =
    let number : direct_number (923 + k * 1018) ≡ k =
    ap (λ n. n / 1018) (let plain : 923 + k * 1018 - 923 ≡ k * 1018 + 0 = omega arith in plain) ∙ div-mul-add k 1018 0 (omega arith)
    in
    record {
      held = direct_of-number (923 + k * 1018) (omega arith) (omega arith) ∙ ap Some (ap nth_direct number ∙ e);
      least = λ other has.
          let of_other = number_of-direct other d has in
          let same : direct_number other ≡ k = same_number (direct_number other) k (of_other.2 ∙ sym e) in
          omega (arith, of_other);
    }
