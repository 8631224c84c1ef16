-- What is held once a checkpoint has written its blocks.
use Rattle.std.proofs.Common.{◌≡◌, ◌≢◌, ℕ, ◌+◌, ◌<◌, ◌≤◌, List, length, true, false, cond, Option, Some, None, IsTrue, get_or, set, get_or-set_same, get_or-set_other, ap, sym, subst, ◌∙◌, arith}
use Rattle.std.specs.Prelude.{map as list_map}
use Rattle.std.specs.List.{range_with_len}
use Rattle.std.specs.Option.{option_map}
use Rattle.std.proofs.lemmas.List.{ext_get_or}
use Rattle.std.proofs.lemmas.List.FromFn.{get_or-map-range_with_len, length-map-range_with_len}
use borrow.Author.Count.{below_more}
use Rattle.f2_nat_cache.specs.Plan.{held_then, held_with_pending, is_pending_block}
use Rattle.f2_nat_cache.specs.Table.{Table, TellsPending, held_block, with_pending}

-- ---- one block after another

-- the same table, but for what is held
abbrev pub Alike : Table → Table → Type 0
Alike t s = s ≡ record t { held = s.held }

pub pending_alike : (t s : Table) (block : ℕ) → Alike t s → is_pending_block s block ≡ is_pending_block t block
pending_alike t s block same = ap (λ (x : Table). is_pending_block x block) same

written_alike : (t s : Table) (block : ℕ) → Alike t s → held_block s block ≡ held_block t block → held_with_pending s block ≡ held_with_pending t block
written_alike t s block same held = λ i. option_map (with_pending (same i).dirty (same i).journal block) (held i)

pub tells_alike : (t s : Table) (block : ℕ) (content : List ℕ) → Alike t s → TellsPending s block content → TellsPending t block content
tells_alike t s block content same tells = record { told = (subst (λ (x : Table). TellsPending x block content) same tells).told }

-- what the blocks below n hold, and those from n on
pub record Reaches (t s : Table) (n : ℕ) : Type 0 where
  pub done : (k : ℕ) → k < n → held_block s k ≡ held_then t k
  pub rest : (k : ℕ) → n ≤ k → held_block s k ≡ held_block t k

-- a block with pending entries was written
pub reaches_written : (t s s' : Table) (n : ℕ) → Alike t s → Reaches t s n → n < length s.held → is_pending_block t n ≡ true → s'.held ≡ set s.held n (held_with_pending s n) → Reaches t s' (n + 1)
reaches_written t s s' n same before within pending held =
    record {
      done = below_more _ n
          (λ k h. let apart : k ≢ n = omega arith in ap (λ hs. get_or hs k None) held ∙ get_or-set_other s.held n k (held_with_pending s n) None apart ∙ before.done k h)
          (ap (λ hs. get_or hs n None) held ∙ get_or-set_same s.held n (held_with_pending s n) None within ∙ written_alike t s n same (before.rest n (omega arith))
          ∙ sym (ap (λ b. cond b (held_with_pending t n) (held_block t n)) pending));
      rest = λ k h. let apart : k ≢ n = omega arith in ap (λ hs. get_or hs k None) held ∙ get_or-set_other s.held n k (held_with_pending s n) None apart ∙ before.rest k (omega arith);
    }

-- any other block stays
pub reaches_other : (t s : Table) (n : ℕ) → Reaches t s n → is_pending_block t n ≡ false → Reaches t s (n + 1)
reaches_other t s n before none =
    record {
      done = below_more _ n (λ k h. before.done k h) (before.rest n (omega arith) ∙ sym (ap (λ b. cond b (held_with_pending t n) (held_block t n)) none));
      rest = λ k h. before.rest k (omega arith);
    }

pub alike_set : (t s s' : Table) (held : List (Option (List ℕ))) → Alike t s → s' ≡ record s { held = held } → Alike t s'
alike_set t s s' held same is = is ∙ (λ i. record (same i) { held = held }) ∙ ap (λ hs. record t { held = hs }) (sym (ap (λ (x : Table). x.held) is))

-- what the blocks below n tell once their pending entries are in them
abbrev pub AllTell : Table → ℕ → Type 0
AllTell t n = (k : ℕ) (content : List ℕ) → k < n → IsTrue (is_pending_block t k) → held_block t k ≡ Some content → TellsPending t k content

pub all_tell_more : (t : Table) (n : ℕ) → AllTell t n → ((content : List ℕ) → IsTrue (is_pending_block t n) → held_block t n ≡ Some content → TellsPending t n content) → AllTell t (n + 1)
all_tell_more t n before here k content h pending held =
    below_more (λ (j : ℕ). (content : List ℕ) → IsTrue (is_pending_block t j) → held_block t j ≡ Some content → TellsPending t j content) n (λ j below content. before j content below) here k h content pending held

-- all blocks were reached
pub reaches_all : (t s : Table) → ((k : ℕ) → k < t.geom.nat → held_block s k ≡ held_then t k) → length s.held ≡ t.geom.nat → s.held ≡ list_map (held_then t) (range_with_len 0 t.geom.nat)
reaches_all t s done long =
    let n = t.geom.nat in
    ext_get_or None s.held (list_map (held_then t) (range_with_len 0 n)) (long ∙ sym (length-map-range_with_len (held_then t) 0 n))
    (λ k h. done k (omega (arith, h, long)) ∙ sym (get_or-map-range_with_len (held_then t) 0 n k k None (omega (arith, h, long)) (omega arith)))
