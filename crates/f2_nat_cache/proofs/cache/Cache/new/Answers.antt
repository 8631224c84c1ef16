use Rattle.std.proofs.Common.{◌≡◌, ℕ, List, Option, None, length, replicate, get_or, false, true, is_some, ap, sym, ◌∙◌, arith, nat_cmp}
use Rattle.std.specs.FinMap as fin
use Rattle.std.proofs.lemmas.List.{length-replicate}
use Rattle.f2_nat_block.specs.declared.entries.NatEntry.{NatEntry}
use Rattle.f2_nat_cache.specs.Entries.{DirtyTable, CleanTable}
use Rattle.f2_nat_cache.proofs.Kept.{kept_none, none_held}
use Rattle.f2_nat_cache.proofs.Parts.{same_table}
use Rattle.f2_nat_cache.proofs.cache.Cache.new.Goals as goal

pub invariant_of-result : goal.invariant_of-result
invariant_of-result c =
    let dirty = c.in_ok-new.ensures in
    let clean = c.in_ok-new-2.ensures in
    let none : Option (List ℕ) = None in
    let whole : c.loop.counter ≡ c.args.g.now.nat = omega (arith, c.nat-nat.ensures.value) in
    let few = ap (λ (t : CleanTable). fin.len t.entries) clean ∙ fin.len-empty nat_cmp NatEntry in
    record {
      sizes = ap (λ (d : DirtyTable). d.nat) dirty ∙ c.nat-nat.ensures.value;
      geometry = c.nat-nat.ensures.sound;
      blocks = ap (λ (h : List (Option (List ℕ))). length h) c.loop.invariant ∙ length-replicate c.loop.counter none ∙ whole;
      within = λ nid there.
          let wrong : ◌≡◌ false true = sym (ap is_some (ap (λ (d : DirtyTable). fin.get d.entries nid) dirty ∙ fin.get-empty nat_cmp nid)) ∙ there in
          cc;
      bounded = omega (arith, few);
      clean_within = λ nid there.
          let wrong : ◌≡◌ false true = sym (ap is_some (ap (λ (t : CleanTable). fin.get t.entries nid) clean ∙ fin.get-empty nat_cmp nid)) ∙ there in
          cc;
      apart = λ nid there.
          let wrong : ◌≡◌ false true = sym (ap is_some (ap (λ (t : CleanTable). fin.get t.entries nid) clean ∙ fin.get-empty nat_cmp nid)) ∙ there in
          cc;
    }

pub returns-clause-made : goal.returns-clause-made
returns-clause-made c =
    let none : Option (List ℕ) = None in
    let whole : c.loop.counter ≡ c.args.g.now.nat = omega (arith, c.nat-nat.ensures.value) in
    same_table (λ _. c.args.g.now) (λ _. c.args.bitmap) c.new.ensures
    (ap (λ (d : DirtyTable). d.entries) c.in_ok-new.ensures)
    (c.loop.invariant ∙ ap (λ n. replicate n none) whole)
    (ap (λ (t : CleanTable). t.entries) c.in_ok-new-2.ensures)
    (ap (λ (d : DirtyTable). d.spare) c.in_ok-new.ensures)
    (ap (λ (t : CleanTable). t.room) c.in_ok-new-2.ensures)

pub returns-clause-still_kept : goal.returns-clause-still_kept
returns-clause-still_kept c told =
    let none : Option (List ℕ) = None in
    kept_none _ told
    (λ block. ap (λ (h : List (Option (List ℕ))). get_or h block none) c.loop.invariant ∙ none_held c.loop.counter block)
    (λ nid. ap (λ (t : CleanTable). fin.get t.entries nid) c.in_ok-new-2.ensures ∙ fin.get-empty nat_cmp nid)
