use Rattle.std.proofs.Common.{◌≡◌, ℕ, false, true, is_some, length, ap, sym, subst, ◌∙◌, arith, nat_cmp}
use Rattle.std.specs.FinMap as map
use Rattle.f2_nat_cache.specs.Entries.{Entries, DirtyTable}
use Rattle.f2_nat_cache.specs.Table.{IsKept, Table, entry_at, known, pending}
use Rattle.f2_nat_cache.proofs.Afterwards.{apart_after, entry_after, kept_after, known_after}
use Rattle.f2_nat_cache.proofs.Parts.{same_table}
use Rattle.f2_nat_cache.proofs.cache.Cache.committed.Goals as goal

pub invariant_of-self : goal.invariant_of-self
invariant_of-self c =
    let t = c.args.self.now in
    let is = c.self.invariant in
    let old = c.self.view_is ∙ c.write_held.ensures.held in
    let journal = c.new-self-inside.ensures ∙ c.journal-journal.ensures.value in
    let entries = ap (λ (d : DirtyTable). d.entries) c.clear.ensures in
    record {
      sizes = ap (λ (d : DirtyTable). d.nat) c.clear.ensures ∙ is.sizes;
      geometry = is.geometry;
      blocks = is.blocks;
      within = λ nid there.
          let wrong : ◌≡◌ false true = sym (ap is_some (ap (λ (m : Entries). map.get m nid) entries ∙ map.get-empty nat_cmp nid)) ∙ there in
          cc;
      bounded = is.bounded;
      clean_within = is.clean_within;
      apart = λ nid there.
          (λ i. pending (entries i) (journal i) nid)
          ∙ apart_after t nid (sym (ap (λ (x : Table). pending x.dirty x.journal nid) old) ∙ is.apart nid there);
    }

pub returns-clause-done : goal.returns-clause-done
returns-clause-done c =
    let old = c.self.view_is ∙ c.write_held.ensures.held in
    same_table
    (ap (λ (x : Table). x.geom) old)
    c.bitmap-bitmap.ensures.value
    (c.new-self-inside.ensures ∙ c.journal-journal.ensures.value)
    (ap (λ (d : DirtyTable). d.entries) c.clear.ensures)
    (ap (λ (x : Table). x.held) old)
    (ap (λ (x : Table). x.clean) old)
    (ap (λ (d : DirtyTable). d.spare) c.clear.ensures ∙ ap (λ (x : Table). x.spare) old)
    (ap (λ (x : Table). x.room) old)

pub returns-clause-known : goal.returns-clause-known
returns-clause-known c nid below =
    ap (λ (x : Table). known x nid) (returns-clause-done c)
    ∙ known_after c.args.self.now c.requires c.write_held.ensures.told nid below

pub returns-clause-entries : goal.returns-clause-entries
returns-clause-entries c before after wrote nid below =
    ap (λ (x : Table). entry_at x after nid) (returns-clause-done c)
    ∙ entry_after c.args.self.now c.requires c.write_held.ensures.told before after wrote nid below

pub returns-clause-still_kept : goal.returns-clause-still_kept
returns-clause-still_kept c before after wrote kept =
    let t = c.args.self.now in
    let old = c.self.view_is ∙ c.write_held.ensures.held in
    let is = c.self.invariant in
    let nat = ap (λ (x : Table). x.geom.nat) old in
    let clean = λ (nid : ℕ). ap (λ (x : Table). is_some (map.get x.clean nid)) old in
    subst (λ (x : Table). IsKept x after) (sym (returns-clause-done c))
    (kept_after t c.requires c.write_held.ensures.told before after wrote kept
    (ap (λ (x : Table). length x.held) (sym old) ∙ is.blocks ∙ nat)
    (λ nid there. let below = is.clean_within nid (clean nid ∙ there) in omega (arith, below, nat))
    (λ nid there. sym (ap (λ (x : Table). pending x.dirty x.journal nid) old) ∙ is.apart nid (clean nid ∙ there)))
